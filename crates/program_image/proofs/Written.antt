-- A cell alone, by its statements, writes as many words to a message as it communicates.
use Rattle.std.proofs.Common.{◌≡◌, ℕ, zero, suc, ◌+◌, Bool, true, false, cond, if◌then◌else◌, nat_eq, ℤ, List, [], ◌∷◌, ◌++◌, filter, length, count_by, refl, ap, ◌∙◌, arith}
use Rattle.std.proofs.lemmas.List.{length-map}
use Rattle.std.proofs.lemmas.List.Sums.{length-filter, sum_by_push}
use Rattle.sys_base.specs.Communications.{Communication, Writes, Reads, Takes, Emits, same_communication, times}
use Rattle.sys_base.specs.Held.{Streams, given, tested, takes_first}
use Rattle.sys_base.specs.declared.word.Word.{Word}
use Rattle.cell_types.specs.Code.{Action, Set, SetAt, Write, Read, Take, Emit, For, If, Block, End, Then, ProgramCode}
use Rattle.cell_types.specs.Solo.{Solo, code_of, counting, do_action, do_block, opening, solo, turns_from, value_of, written_to}

module _ (m : ℕ) where
  abbrev to_it : ℕ × Word → Bool
  to_it sent = nat_eq m sent.0

  -- as many words were sent to the message as writes of it were made
  abbrev Even : Solo → Type 0
  Even s = count_by to_it s.sent ≡ times (Writes m) s.made

  -- a communication that is no write of it
  other_made : (made : List Communication) (c : Communication) → same_communication (Writes m) c ≡ false
      → times (Writes m) made ≡ times (Writes m) (made ++ c ∷ [])
  other_made made c f =
      let e = sum_by_push (λ d. cond (same_communication (Writes m) d) 1 0) made c in
      let one : Bool → ℕ = λ b. cond b 1 0 in
      let z = ap one f in
      omega (arith, e, z)

  turns_even : (body : ℕ → Solo → Solo) → ((i : ℕ) (s : Solo) → Even s → Even (body i s)) → (n i : ℕ) (s : Solo)
      → Even s → Even (turns_from body i n s)
  turns_even body each zero i s h = h
  turns_even body each (suc n) i s h = turns_even body each n (i + 1) (body i s) (each i s h)

  either : (b : Bool) (x y : Solo) → Even x → Even y → Even (if b then x else y)
  either true x y h g = h
  either false x y h g = g

  module _ (cell : ℕ) (input : List ℤ) (streams : Streams) where
    mutual
      action_even : (line : ℕ) (a : Action) (s : Solo) → Even s → Even (do_action cell input streams line a s)
      action_even line (Set w e) s h = h
      action_even line (SetAt base len e f) s h = h
      action_even line (Write n e) s h =
          let word = given s.held.kept (value_of cell line s.held e) in
          let a = sum_by_push (λ (d : ℕ × Word). cond (to_it d) 1 0) s.sent (n, word) in
          let b = sum_by_push (λ d. cond (same_communication (Writes m) d) 1 0) s.made (Writes n) in
          omega (arith, h, a, b)
      action_even line (Read n w) s h = h ∙ other_made s.made (Reads n) refl
      action_even line (Take w) s h = h ∙ other_made s.made Takes refl
      action_even line (Emit e) s h = h ∙ other_made s.made Emits refl
      action_even line (For k n body) s h =
          turns_even (λ turn now. do_block cell input streams body (counting k turn now))
          (λ i t g. block_even body (counting k i t) g) n 0 s h
      action_even line (If e first second) s h =
          let w = value_of cell line s.held e in
          let now = record s { held = tested s.held w } in
          either (takes_first s.held.kept w) (do_block cell input streams first now)
          (do_block cell input streams second now) (block_even first now h) (block_even second now h)

      block_even : (b : Block) (s : Solo) → Even s → Even (do_block cell input streams b s)
      block_even End s h = h
      block_even (Then line a rest) s h =
          block_even rest (do_action cell input streams line a s) (action_even line a s h)

  pub written_long : (program : ProgramCode) (cell : ℕ) (input : List ℤ) (streams : Streams)
      → length (written_to m (solo program cell input streams)) ≡ times (Writes m) (solo program cell input streams).made
  written_long program cell input streams =
      let s = solo program cell input streams in
      length-map (filter to_it s.sent) (λ (sent : ℕ × Word). sent.1) ∙ length-filter to_it s.sent
      ∙ block_even cell input streams (code_of program cell).body
      (opening (code_of program cell).words (code_of program cell).counters) refl
