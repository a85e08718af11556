-- Where arms are alike, a cell alone makes the communications of its statements, in order.
use Rattle.std.proofs.Common.{◌≡◌, ℕ, zero, suc, ◌+◌, Bool, true, false, if◌then◌else◌, ℤ, List, ◌++◌, refl, sym, ◌∙◌, ap, append_assoc}
use Rattle.std.proofs.lemmas.List.{append-nil}
use Rattle.sys_base.specs.Communications.{Communication, copies}
use Rattle.sys_base.specs.Held.{Streams, tested, takes_first}
use Rattle.cell_types.specs.Alike.{AlikeAction, AlikeBlock}
use Rattle.cell_types.specs.Code.{Action, Set, SetAt, Write, Read, Take, Emit, For, If, Block, End, Then}
use Rattle.cell_types.specs.Communications.{action_communications, block_communications}
use Rattle.cell_types.specs.Solo.{Solo, value_of, turns_from, counting, do_action, do_block}

module _ (cell : ℕ) (input : List ℤ) (streams : Streams) where
  turns_made : (body : ℕ → Solo → Solo) (cs : List Communication) → ((i : ℕ) (s : Solo) → (body i s).made ≡ s.made ++ cs) →
      (n i : ℕ) (s : Solo) → (turns_from body i n s).made ≡ s.made ++ copies n cs
  turns_made body cs each zero i s = sym (append-nil s.made)
  turns_made body cs each (suc n) i s =
      turns_made body cs each n (i + 1) (body i s) ∙ ap (λ m. m ++ copies n cs) (each i s) ∙ append_assoc s.made cs (copies n cs)

  either : (b : Bool) (x y : Solo) (m : List Communication) → x.made ≡ m → y.made ≡ m → (if b then x else y).made ≡ m
  either true x y m p q = p
  either false x y m p q = q

  mutual
    action_made : (line : ℕ) (a : Action) → AlikeAction a → (s : Solo) →
        (do_action cell input streams line a s).made ≡ s.made ++ action_communications a
    action_made line (Set w e) alike s = sym (append-nil s.made)
    action_made line (SetAt base len e f) alike s = sym (append-nil s.made)
    action_made line (Write m e) alike s = refl
    action_made line (Read m w) alike s = refl
    action_made line (Take w) alike s = refl
    action_made line (Emit e) alike s = refl
    action_made line (For k zero body) alike s = sym (append-nil s.made)
    action_made line (For k (suc n) body) alike s =
        turns_made (λ turn now. do_block cell input streams body (counting k turn now)) (block_communications body)
        (λ i t. block_made body alike (counting k i t)) (suc n) 0 s
    action_made line (If e first second) alike s =
        let w = value_of cell line s.held e in
        let now = record s { held = tested s.held w } in
        either (takes_first s.held.kept w) (do_block cell input streams first now) (do_block cell input streams second now) _
        (block_made first alike.1 now) (block_made second alike.2 now ∙ ap (λ cs. s.made ++ cs) (sym alike.0))

    pub block_made : (b : Block) → AlikeBlock b → (s : Solo) → (do_block cell input streams b s).made ≡ s.made ++ block_communications b
    block_made End alike s = sym (append-nil s.made)
    block_made (Then line a rest) alike s =
        block_made rest alike.1 (do_action cell input streams line a s) ∙ ap (λ m. m ++ block_communications rest) (action_made line a alike.0 s)
        ∙ append_assoc s.made (action_communications a) (block_communications rest)
