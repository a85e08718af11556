-- The steps of reading a body into parts: what loops and arms add, and where a stop comes from.
use Rattle.std.proofs.Common.{◌≡◌, ◌≢◌, ℕ, zero, suc, ◌+◌, ◌^◌, ◌<◌, ◌≤◌, Bool, true, false, max, if◌then◌else◌, List, [], ◌∷◌, ◌++◌, Result, Ok, Err, Some, length, get_or, map, drop, ap, sym, subst, refl, ◌∙◌, arith, append_assoc}
use Rattle.std.proofs.Math.Nat.{le-max_left, le-max_right, max-le}
use Rattle.std.proofs.lemmas.List.{append-nil, at_drop_all, at_drop_more}
use Rattle.std.proofs.lemmas.List.Elements.{All-nil, All-append}
use Rattle.std.specs.Bool.{⊤}
use Rattle.std.specs.Global.{Vec}
use Rattle.std.specs.List.{All, slice_get}
use Rattle.cell_types.specs.Code.{Action, Set, SetAt, Write, Read, Take, Emit, For, If, Block, End, Then, CellCode, ProgramCode}
use Rattle.cell_types.specs.Communications.{Communication, copies, action_communications, block_communications}
use Rattle.cell_types.specs.Depth.{action_loops, block_loops}
use Rattle.cell_types.specs.Sound.{Means, SoundAction, SoundBlock, IsSound}
use Rattle.cell_types.specs.Typed.{Contents, action_of, block_of, expression_of, plain, plain_cell}
use Rattle.cell_types.specs.declared.cell.Cell.{Cell}
use Rattle.cell_types.specs.declared.expression.TypedExpr.{TypedExpr}
use Rattle.cell_types.specs.declared.statement.TypedAct.{TypedAct}
use Rattle.cell_types.specs.declared.statement.TypedAct.TheVariants as T
use Rattle.cell_types.specs.declared.statement.TypedStmt.{TypedStmt}
use Rattle.comm_sequence.specs.Differing.{differing, differing_in, in_turns, same_list}
use Rattle.comm_sequence.specs.Parts.{unrolled, loops}
use Rattle.comm_sequence.specs.bodies.Unrolling.{HaveTurns, HasTurns, IsArm, IsBuilt, IsFirstLine, IsShallow, IsShallowAction}
use Rattle.comm_sequence.specs.bodies.Walking.{HasGrown, IsFull}
use Rattle.comm_sequence.specs.declared.part.Part.{Part}
use Rattle.comm_sequence.specs.declared.unrolling.Stop.{Stop}
use Rattle.comm_sequence.specs.declared.unrolling.Stop.TheVariants as S
use Rattle.comm_sequence.proofs.Grown.{grown_as, unrolled_append}
use Rattle.comm_sequence.proofs.PartRows.{first_loops, rest_loops}
use Rattle.comm_sequence.proofs.Plain.{for_is, if_is}
use Rattle.comm_sequence.proofs.SameLists.{same_self, same_equal}

-- a stop in the first of two parts
pub front_stop : (xs ys : List ℕ) (stop : Stop) → IsFirstLine xs stop → IsFirstLine (xs ++ ys) stop
front_stop [] ys (S.Differ line) h = absurd (cc h)
front_stop (x ∷ xs) ys (S.Differ line) h = h
front_stop xs ys S.Memory h = tt

-- a stop after a part where no arms differ
pub back_stop : (xs ys : List ℕ) (stop : Stop) → xs ≡ [] → IsFirstLine ys stop → IsFirstLine (xs ++ ys) stop
back_stop [] ys stop none h = h
back_stop (x ∷ xs) ys stop none h = absurd (cc none)

-- a stop at a statement of a body, where no arms before it differ
pub body_stop : (body : List TypedStmt) (i : ℕ) (d : TypedStmt) (stop : Stop) → i < length body
    → differing (block_of (drop i body)) ≡ differing (block_of body)
    → IsFirstLine (differing_in (get_or body i d).line (action_of (get_or body i d).act)) stop
    → IsFirstLine (differing (block_of body)) stop
body_stop body i d stop within so_far h =
    let e : differing (block_of (drop i body))
    ≡ differing_in (get_or body i d).line (action_of (get_or body i d).act) ++ differing (block_of (drop (i + 1) body)) =
    at_drop_more (λ xs. differing (block_of xs)) body i d within in
    subst (λ xs. IsFirstLine xs stop) (sym e ∙ so_far)
    (front_stop (differing_in (get_or body i d).line (action_of (get_or body i d).act)) (differing (block_of (drop (i + 1) body))) stop h)

-- the lines of a loop that has a turn are those of its body
pub some_turns : (turns : ℕ) (lines : List ℕ) → turns ≢ 0 → in_turns turns lines ≡ lines
some_turns zero lines some = absurd (some refl)
some_turns (suc n) lines some = refl

-- the lines of a loop, by the items of its body
pub loop_lines : (line : ℕ) (act : TypedAct) (counter turns : ℕ) (body : Vec TypedStmt) (items : List TypedStmt)
    → act ≡ T.For counter turns body → items ≡ body.items
    → differing_in line (action_of act) ≡ in_turns turns (differing (block_of items))
loop_lines line act counter turns body items is same =
    ap (λ a. differing_in line (action_of a)) is ∙ ap (differing_in line) (for_is counter turns body)
    ∙ ap (λ xs. in_turns turns (differing (block_of xs))) (sym same)

-- the communications of a loop, by the items of its body
pub loop_list : (act : TypedAct) (counter turns : ℕ) (body : Vec TypedStmt) (items : List TypedStmt)
    → act ≡ T.For counter turns body → items ≡ body.items
    → action_communications (action_of act) ≡ copies turns (block_communications (block_of items))
loop_list act counter turns body items is same =
    ap (λ a. action_communications (action_of a)) is ∙ ap action_communications (for_is counter turns body)
    ∙ ap (λ xs. copies turns (block_communications (block_of xs))) (sym same)

-- the line of an `if`, where its arms differ
abbrev pub own_line : ℕ → List TypedStmt → List TypedStmt → List ℕ
own_line line first second =
    if same_list (block_communications (block_of first)) (block_communications (block_of second)) then [] else line ∷ []

-- the lines of an `if`, by the items of its arms
pub branch_lines : (line : ℕ) (act : TypedAct) (test : TypedExpr) (first second : Vec TypedStmt) (yes_items no_items : List TypedStmt)
    → act ≡ T.If test first second → yes_items ≡ first.items → no_items ≡ second.items
    → differing_in line (action_of act)
    ≡ differing (block_of yes_items) ++ differing (block_of no_items) ++ own_line line yes_items no_items
branch_lines line act test first second yes_items no_items is same other =
    ap (λ a. differing_in line (action_of a)) is ∙ ap (differing_in line) (if_is test first second)
    ∙ ap (λ xs. differing (block_of xs) ++ differing (block_of second.items) ++ own_line line xs second.items) (sym same)
    ∙ ap (λ xs. differing (block_of yes_items) ++ differing (block_of xs) ++ own_line line yes_items xs) (sym other)

-- the communications of an `if`, by the items of its arms
pub branch_list : (act : TypedAct) (test : TypedExpr) (first second : Vec TypedStmt) (yes_items : List TypedStmt)
    → act ≡ T.If test first second → yes_items ≡ first.items
    → action_communications (action_of act) ≡ block_communications (block_of yes_items)
branch_list act test first second yes_items is same =
    ap (λ a. action_communications (action_of a)) is ∙ ap action_communications (if_is test first second)
    ∙ ap (λ xs. block_communications (block_of xs)) (sym same)

-- an `if` whose arms are the same has no line of its own
own_none : (first second : List Communication) (line : ℕ) → first ≡ second
    → (if same_list first second then [] else line ∷ []) ≡ []
own_none first second line e =
    let t : same_list first second ≡ true = ap (same_list first) (sym e) ∙ same_self first in
    ap (λ (b : Bool). if b then [] else line ∷ []) t

-- an `if` whose arms differ has its own line
own_one : (first second : List Communication) (line : ℕ) → first ≢ second
    → (if same_list first second then [] else line ∷ []) ≡ line ∷ []
own_one first second line differ = by_test (same_list first second) refl
  where
    by_test : (b : Bool) → same_list first second ≡ b → (if b then [] else line ∷ []) ≡ line ∷ []
    by_test true t = absurd (differ (same_equal first second t))
    by_test false t = refl

-- three parts, the first two empty
third : (a b c d : List ℕ) → a ≡ [] → b ≡ [] → c ≡ d → a ++ b ++ c ≡ d
third a b c d e f g = ap (λ x. x ++ b ++ c) e ∙ ap (λ x. x ++ c) f ∙ g

-- How far a body is read: no arms differ so far, and what is left of it, with the parts that are added, is the body.
pub record IsOnWay (body : List TypedStmt) (i : ℕ) (old now : List Part) : Type 0 where
  pub lines : differing (block_of (drop i body)) ≡ differing (block_of body)
  pub list : unrolled now ++ block_communications (block_of (drop i body)) ≡ unrolled old ++ block_communications (block_of body)
  pub full : All IsFull old → All IsFull now
  pub room : (room : ℕ) → loops old ≤ room → block_loops (block_of body) ≤ room → loops now ≤ room
  pub shallow : IsShallow (block_of (drop i body))
  pub loops : block_loops (block_of (drop i body)) ≤ block_loops (block_of body)

-- nothing is read
pub way_start : (body : List TypedStmt) (old : List Part) → IsShallow (block_of body) → IsOnWay body 0 old old
way_start body old h =
    record { lines = refl; list = refl; full = λ a. a; room = λ room a b. a; shallow = h; loops = omega arith }

-- the statement that is next
next_is : (body : List TypedStmt) (i : ℕ) (d : TypedStmt) → i < length body
    → block_of (drop i body) ≡ Then (get_or body i d).line (action_of (get_or body i d).act) (block_of (drop (i + 1) body))
next_is body i d lt = at_drop_more block_of body i d lt

-- the statement that is next is shallow
pub way_act : (body : List TypedStmt) (i : ℕ) (d : TypedStmt) (old now : List Part) → i < length body → IsOnWay body i old now
    → IsShallowAction (action_of (get_or body i d).act)
way_act body i d old now lt h =
    let s = subst IsShallow (next_is body i d lt) h.shallow in
    let a = action_of (get_or body i d).act in
    (s.0.0, omega (arith, s.1, le-max_left (action_loops a) (block_loops (block_of (drop (i + 1) body)))))

-- a statement more is read
pub way_more : (body : List TypedStmt) (i : ℕ) (d : TypedStmt) (old now new : List Part) → i < length body → IsOnWay body i old now
    → differing_in (get_or body i d).line (action_of (get_or body i d).act) ≡ []
    → HasGrown now new (action_communications (action_of (get_or body i d).act)) (action_loops (action_of (get_or body i d).act))
    → IsOnWay body (i + 1) old new
way_more body i d old now new lt h none g =
    let e = next_is body i d lt in
    let a = action_of (get_or body i d).act in
    let rest = block_of (drop (i + 1) body) in
    let s = subst IsShallow e h.shallow in
    let deep : max (action_loops a) (block_loops rest) ≤ block_loops (block_of body) = omega (arith, ap block_loops e, h.loops) in
    let here : action_loops a ≤ block_loops (block_of body) = omega (arith, deep, le-max_left (action_loops a) (block_loops rest)) in
    let there : block_loops rest ≤ block_loops (block_of body) = omega (arith, deep, le-max_right (action_loops a) (block_loops rest)) in
    record {
      lines = ap (λ xs. xs ++ differing rest) (sym none) ∙ ap differing (sym e) ∙ h.lines;
      list = ap (λ xs. xs ++ block_communications rest) g.list ∙ append_assoc (unrolled now) (action_communications a) (block_communications rest)
          ∙ ap (λ b. unrolled now ++ block_communications b) (sym e) ∙ h.list;
      full = λ x. g.full (h.full x);
      room = λ room x y. g.room room (h.room room x y) (omega (arith, here, y));
      shallow = (s.0.1, omega (arith, s.1, le-max_right (action_loops a) (block_loops rest)));
      loops = there;
    }

-- all is read
pub way_end : (body : List TypedStmt) (i : ℕ) (old now : List Part) → length body ≤ i → IsOnWay body i old now
    → (differing (block_of body) ≡ []) × HasGrown old now (block_communications (block_of body)) (block_loops (block_of body))
way_end body i old now le h =
    let e = at_drop_all block_of body i le in (
      sym h.lines ∙ ap differing e,
      record {
        list = sym (append-nil (unrolled now)) ∙ ap (λ b. unrolled now ++ block_communications b) (sym e) ∙ h.list;
        full = h.full;
        room = h.room;
      },
    )

-- parts that grew from nothing
pub fresh : (start now : List Part) (list : List Communication) (deep : ℕ) → start ≡ [] → HasGrown start now list deep
    → (unrolled now ≡ list) × All IsFull now × (loops now ≤ deep)
fresh start now list deep none h =
    let g : HasGrown [] now list deep = subst (λ xs. HasGrown xs now list deep) none h in
    (g.list, g.full (All-nil IsFull), g.room deep (omega arith) (omega arith))

-- the same, written otherwise, where no arms differ
pub built_as : (old new : List Part) (lines : List ℕ) (list same : List Communication) (deep deeper : ℕ) (result : Result ⊤ Stop)
    → lines ≡ [] → list ≡ same → deep ≤ deeper → IsBuilt old [] list deep result new → IsBuilt old lines same deeper result new
built_as old new lines list same deep deeper (Ok u) none e le h = (none, grown_as old new list same deep deeper e le h.1)
built_as old new lines list same deep deeper (Err stop) none e le h = subst (λ xs. IsFirstLine xs stop) (sym none) h

-- the body of a loop is shallow, and its turns fit
pub shallow_body : (act : TypedAct) (counter turns : ℕ) (body : Vec TypedStmt) (items : List TypedStmt)
    → act ≡ T.For counter turns body → items ≡ body.items → IsShallowAction (action_of act)
    → (turns < 2 ^ 32) × IsShallow (block_of items) × (action_loops (action_of act) ≡ 1 + block_loops (block_of items))
shallow_body act counter turns body items is same h =
    let e : action_of act ≡ For counter turns (block_of items) =
    ap action_of is ∙ for_is counter turns body ∙ ap (λ xs. For counter turns (block_of xs)) (sym same) in
    let s = subst IsShallowAction e h in
    (s.0.0, (s.0.1, omega (arith, s.1)), ap action_loops e)

-- the arms of an `if` are shallow
pub shallow_arms : (act : TypedAct) (test : TypedExpr) (one other_arm : Vec TypedStmt) (first second : List TypedStmt)
    → act ≡ T.If test one other_arm → first ≡ one.items → second ≡ other_arm.items → IsShallowAction (action_of act)
    → IsShallow (block_of first) × IsShallow (block_of second)
    × (block_loops (block_of first) ≤ action_loops (action_of act))
shallow_arms act test one other_arm first second is same other h =
    let e : action_of act ≡ If (expression_of test) (block_of first) (block_of second) =
    ap action_of is ∙ if_is test one other_arm
    ∙ ap (λ xs. If (expression_of test) (block_of xs) (block_of other_arm.items)) (sym same)
    ∙ ap (λ xs. If (expression_of test) (block_of first) (block_of xs)) (sym other) in
    let s = subst IsShallowAction e h in
    let l = le-max_left (block_loops (block_of first)) (block_loops (block_of second)) in
    let r = le-max_right (block_loops (block_of first)) (block_loops (block_of second)) in
    ((s.0.0, omega (arith, s.1, l)), (s.0.1, omega (arith, s.1, r)), omega (arith, ap action_loops e, l))

-- the end of an `if`
pub arm_end : (old new : List Part) (one_lines two_lines : List ℕ) (first second one two : List Communication) (line deep deeper : ℕ)
    (result : Result ⊤ Stop) → one_lines ≡ [] → two_lines ≡ [] → one ≡ first → two ≡ second → deep ≤ deeper
    → IsArm old one two line deep result new
    → IsBuilt old (one_lines ++ two_lines ++ (if same_list first second then [] else line ∷ [])) first deeper result new
arm_end old new one_lines two_lines first second one two line deep deeper (Ok u) none other e f le h =
    (third one_lines two_lines _ [] none other (own_none first second line (sym e ∙ h.0 ∙ f)), grown_as old new one first deep deeper e le h.1)
arm_end old new one_lines two_lines first second one two line deep deeper (Err (S.Differ at)) none other e f le h =
    let lines : one_lines ++ two_lines ++ (if same_list first second then [] else line ∷ []) ≡ line ∷ [] =
    third one_lines two_lines _ (line ∷ []) none other (own_one first second line (λ same. h.0 (e ∙ same ∙ sym f))) in
    subst (λ xs. IsFirstLine xs (S.Differ at)) (sym lines) (subst (λ n. IsFirstLine (line ∷ []) (S.Differ n)) (sym h.1) refl)
arm_end old new one_lines two_lines first second one two line deep deeper (Err S.Memory) none other e f le h = tt

-- the same lines and communications, written otherwise
pub built_same : (old new : List Part) (lines same_lines : List ℕ) (list same : List Communication) (deep : ℕ) (result : Result ⊤ Stop)
    → same_lines ≡ lines → same ≡ list → IsBuilt old lines list deep result new → IsBuilt old same_lines same deep result new
built_same old new lines same_lines list same deep result e f h =
    let P : List ℕ → Type 0 = λ xs. IsBuilt old xs same deep result new in
    let Q : List Communication → Type 0 = λ xs. IsBuilt old lines xs deep result new in
    subst P (sym e) (subst Q (sym f) h)

-- the loops of parts one after another
loops_append : (xs ys : List Part) (room : ℕ) → loops xs ≤ room → loops ys ≤ room → loops (xs ++ ys) ≤ room
loops_append [] ys room h k = k
loops_append (x ∷ xs) ys room h k =
    max-le (omega (arith, first_loops x xs, h)) (loops_append xs ys room (omega (arith, rest_loops x xs, h)) k)

-- parts with others behind them
pub grown_by : (old new more : List Part) → All IsFull more → new ≡ old ++ more → HasGrown old new (unrolled more) (loops more)
grown_by old new more full is =
    record {
      list = ap unrolled is ∙ unrolled_append old more;
      full = λ a. subst (All IsFull) (sym is) (All-append IsFull old more a full);
      room = λ room a b. omega (arith, ap loops is, loops_append old more room a b);
    }

mutual
  -- the loops of a sound action have turns that fit
  turns_fit_action : (m : Means) (depth : ℕ) (a : Action) → SoundAction m depth a → HasTurns a
  turns_fit_action m depth (Set word value) h = tt
  turns_fit_action m depth (SetAt base len index value) h = tt
  turns_fit_action m depth (Write message value) h = tt
  turns_fit_action m depth (Read message word) h = tt
  turns_fit_action m depth (Take word) h = tt
  turns_fit_action m depth (Emit value) h = tt
  turns_fit_action m depth (For counter turns body) h = (omega (arith, h.2), turns_fit_block m (depth + 1) body h.3)
  turns_fit_action m depth (If test first second) h = (turns_fit_block m depth first h.1, turns_fit_block m depth second h.2)

  -- so do those of sound statements
  turns_fit_block : (m : Means) (depth : ℕ) (b : Block) → SoundBlock m depth b → HaveTurns b
  turns_fit_block m depth End h = tt
  turns_fit_block m depth (Then line action rest) h = (turns_fit_action m depth action h.0, turns_fit_block m depth rest h.1)

-- the statements of a cell of a sound program are shallow
pub sound_shallow : (p : ProgramCode) (index : ℕ) (cell : CellCode) → IsSound p → slice_get p.cells index ≡ Some cell → IsShallow cell.body
sound_shallow p index cell sound at =
    let s = sound.cells index cell at in
    (turns_fit_block _ 0 cell.body s.body, omega (arith, s.counters, s.loops))

-- a cell as plain data
mapped_cell : (cells : List Cell) (i : ℕ) (d : Cell) → i < length cells
    → slice_get (map plain_cell cells) i ≡ Some (plain_cell (get_or cells i d))
mapped_cell [] i d lt = absurd (omega (arith, lt))
mapped_cell (c ∷ cells) zero d lt = refl
mapped_cell (c ∷ cells) (suc i) d lt = mapped_cell cells i d (omega (arith, lt))

-- the statements of a cell of a program are shallow
pub cell_shallow : (p : Contents) (cells : List Cell) (i : ℕ) (d : Cell) → IsSound (plain p) → cells ≡ p.cells → i < length cells
    → IsShallow (block_of (get_or cells i d).body.items)
cell_shallow p cells i d sound is lt =
    sound_shallow (plain p) i (plain_cell (get_or cells i d)) sound
    (ap (λ cs. slice_get (map plain_cell cs) i) (sym is) ∙ mapped_cell cells i d lt)
