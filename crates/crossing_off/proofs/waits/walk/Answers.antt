use Rattle.std.proofs.Common.{◌≡◌, ◌<◌, ℕ, ◌++◌, ◌∷◌, [], Bool, true, false, List, Option, Some, None, length, get_or, replicate, set, slice_get, sym, ◌∙◌, ap, subst, refl, ⊎_elim, arith, rules}
use Rattle.std.proofs.lemmas.Bool.{cases_lt}
use Rattle.std.proofs.lemmas.List.{get_or-replicate, length-replicate, get_or_past}
use Rattle.std.proofs.lemmas.Option.{slice_get_read, slice_get_within, get_or_from_slice_get}
use Rattle.comm_sequence.specs.declared.comm.Comm.{Comm}
use Rattle.crossing_off.specs.declared.waits.Wait.{Wait}
use Rattle.crossing_off.specs.declared.waits.WalkEnd.TheVariants.{Again, NothingLeft}
use Rattle.crossing_off.specs.Walk.{HasFront, IsLeastLeft}
use Rattle.crossing_off.proofs.Walking.{fronts_long, on_known, something_left, IsWalking, walking_start, walking_more, walked, end_again, end_nothing}
use Rattle.crossing_off.proofs.waits.walk.Goals as goal

pub first_left-cell-requires-clause-cells : goal.first_left-cell-requires-clause-cells
first_left-cell-requires-clause-cells c =
    omega (arith, ap length c.deref.ensures.value, fronts_long c.args.seqs.now c.args.residue.now c.requires.residue.1, c.cells.ensures.kept.cells)

pub first_left-cell-requires-clause-some : goal.first_left-cell-requires-clause-some
first_left-cell-requires-clause-some c =
    let some = something_left c.args.seqs.now c.args.residue.now c.requires.residue.1 c.requires.left in
    let P : List (Option Comm) → Type 0 = λ fronts. HasFront fronts some.0 some.1 in
    (some.0, some.1, subst P (sym c.deref.ensures.value) some.2)

-- a list of one value everywhere
all_false : (n c : ℕ) → get_or (replicate n false) c false ≡ false
all_false n c =
    ⊎_elim
    (λ l. get_or-replicate n c false false l)
    (λ g. get_or_past (replicate n false) c false (omega (arith, g, length-replicate n false)))
    (cases_lt c n)

pub loop-front-init : goal.loop-front-init
loop-front-init c =
    let s = c.args.seqs.now in
    let r = c.args.residue.now in
    let visited = c.in_ok-visited.visited.items in
    let n = c.from.result in
    let cell = c.first_left-cell.result in
    let is : visited ≡ replicate n false = c.in_ok-visited.ensures.items_if_clones_equal (λ y h. search rules) in
    let P : List (Option Comm) → Type 0 = λ fronts. IsLeastLeft fronts cell in
    let least = subst P c.deref.ensures.value c.first_left-cell.ensures in
    let inside = slice_get_within r.fronts.items cell (Some least.something.0) least.something.1 in
    let W : List Wait → Type 0 = λ waits. IsWalking s r.fronts.items waits visited cell in
    subst W (sym c.new-waits.ensures.items)
    (walking_start s r.fronts.items visited cell c.cells.ensures.kept least (omega (arith, inside, fronts_long s r c.requires.residue.1))
    (omega (arith, ap length is, length-replicate n false, c.from.ensures, c.cells.ensures.cells))
    (λ i. ap (λ xs. get_or xs i false) is ∙ all_false n i))

pub index-requires-in-loop-front : goal.index-requires-in-loop-front
index-requires-in-loop-front c =
    let r = c.args.residue.now in
    omega (arith, c.from-in-loop-front-2.ensures, c.loop-front.invariant.inside, fronts_long c.args.seqs.now r c.requires.residue.1, r.fronts.ok.0)

-- the value that was read at the cell
read : (fronts : List (Option Comm)) (k cell : ℕ) (o : Option Comm) → k ≡ cell → cell < length fronts → o ≡ get_or fronts k o → slice_get fronts cell ≡ Some o
read fronts k cell o e l h = slice_get_read fronts (length fronts) cell o refl l (h ∙ ap (λ i. get_or fronts i o) e)

-- the mark that was read at the cell
read_bool : (visited : List Bool) (k cell : ℕ) (b : Bool) → k ≡ cell → cell < length visited → b ≡ get_or visited k b → get_or visited cell false ≡ b
read_bool visited k cell b e l h = get_or_from_slice_get visited cell b false (slice_get_read visited (length visited) cell b refl l (h ∙ ap (λ i. get_or visited i b) e))

-- what is no operation is nothing
none_from : (o : Option Comm) → ((x : Comm) → o ≡ Some x → ⊥) → o ≡ None
none_from None h = refl
none_from (Some x) h = absurd (h x refl)

pub returns-in_default : goal.returns-in_default
returns-in_default c =
    let s = c.args.seqs.now in
    let r = c.args.residue.now in
    let h = c.loop-front.invariant in
    let waits = c.loop-front.waits in
    let cell = c.loop-front.cell in
    let o = c.index-in-loop-front.result.now in
    let at = read r.fronts.items c.from-in-loop-front-2.result cell o c.from-in-loop-front-2.ensures (omega (arith, h.inside, fronts_long s r c.requires.residue.1)) c.index-in-loop-front.ensures in
    let end = end_nothing s r.fronts.items waits.items c.loop-front.visited.items cell h (at ∙ ap Some (none_from o c.in_default.not-Some)) in
    walked s r.fronts.items waits.items c.loop-front.visited.items cell (NothingLeft cell) h end.0 end.1

pub partner_of-partner-requires : goal.partner_of-partner-requires
partner_of-partner-requires c =
    let s = c.args.seqs.now in
    let r = c.args.residue.now in
    let h = c.loop-front.invariant in
    let cell = c.loop-front.cell in
    let o = c.index-in-loop-front.result.now in
    let at = read r.fronts.items c.from-in-loop-front-2.result cell o c.from-in-loop-front-2.ensures (omega (arith, h.inside, fronts_long s r c.requires.residue.1)) c.index-in-loop-front.ensures in
    on_known s r cell c.in-Some.front h.sound c.requires.residue.1 h.inside (get_or_from_slice_get r.fronts.items cell o None at ∙ c.in-Some.is)

pub loop-front-preserved : goal.loop-front-preserved
loop-front-preserved c =
    let s = c.args.seqs.now in
    let r = c.args.residue.now in
    let h = c.loop-front.invariant in
    let waits = c.loop-front.waits.items in
    let visited = c.loop-front.visited.items in
    let cell = c.loop-front.cell in
    let partner = c.partner_of-partner.result in
    let o = c.index-in-loop-front.result.now in
    let at = read r.fronts.items c.from-in-loop-front-2.result cell o c.from-in-loop-front-2.ensures (omega (arith, h.inside, fronts_long s r c.requires.residue.1)) c.index-in-loop-front.ensures in
    let fresh = read_bool visited c.from-in-loop-front.result cell c.index.result.now c.from-in-loop-front.ensures (omega (arith, h.inside, h.long)) c.index.ensures ∙ c.loop-front-test.true in
    let more = walking_more s r.fronts.items waits visited cell c.in-Some.front partner h (at ∙ ap Some c.in-Some.is) c.partner_of-partner.ensures fresh in
    let W : List Wait → ℕ → Type 0 = λ ws k. IsWalking s r.fronts.items ws (set visited k true) partner in
    let Waits : List Wait → Type 0 = λ ws. W ws c.from-in-loop-front-3.result in
    let Place : ℕ → Type 0 = λ k. W (waits ++ record { cell = cell; front = c.in-Some.front; partner = partner } ∷ []) k in
    subst Waits (sym c.in_ok-push.ensures.items) (subst Place (sym c.from-in-loop-front-3.ensures) more)

pub returns : goal.returns
returns c =
    let s = c.args.seqs.now in
    let r = c.args.residue.now in
    let h = c.loop-front.invariant in
    let waits = c.loop-front.waits in
    let visited = c.loop-front.visited.items in
    let cell = c.loop-front.cell in
    let seen = read_bool visited c.from-in-loop-front.result cell c.index.result.now c.from-in-loop-front.ensures (omega (arith, h.inside, h.long)) c.index.ensures ∙ c.loop-front-test.false in
    let end = end_again s r.fronts.items waits.items visited cell h seen in
    walked s r.fronts.items waits.items visited cell (Again cell) h end.0 end.1
