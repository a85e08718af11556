-- The images of the tests are shaped, and their cells take no input.
use Rattle.std.proofs.Common.{◌≡◌, ℕ, zero, suc, ◌+◌, ◌&&◌, Bool, true, false, nat_eq, List, [], ◌∷◌, Option, Some, None, length, slice_get, replicate, refl, sym, subst, arith, eqb-true}
use Rattle.std.specs.List.{list_all}
use Rattle.std.proofs.lemmas.Bool.{and_parts}
use Rattle.std.proofs.lemmas.List.Elements.{All-cons, All-nil}
use Rattle.std.proofs.lemmas.Option.{none-some, same_Some}
use Rattle.sys_base.specs.Paths.{Differ}
use Rattle.sys_base.specs.declared.kinds.Dir.TheVariants.{E}
use Rattle.cell_code.proofs.Checks.{checked_cell}
use Rattle.cell_code.specs.Images.{IsShaped, IsShapedMessage, UsesItsEnds}
use Rattle.cell_code.specs.ShapedCells.{IsShapedCell}
use Rattle.cell_code.specs.declared.image.CellImage.{CellImage}
use Rattle.cell_code.specs.declared.image.MessageImage.{MessageImage}
use Rattle.cell_code.specs.declared.instruction.Instr.{Instr}
use Rattle.cell_code.specs.declared.instruction.Instr.TheVariants.{Write, Read}
use Rattle.array_model.specs.States.{IsCounted}
use Rattle.array_sim.specs.Simulations.{inputs_of}
use Rattle.sim_tests.specs.Arrays.{chain, chain_receiver, chain_sender, idle, message, shared, shared_receiver, shared_sender}

-- ---- the ends of messages, by a test

abbrev sends : Option MessageImage → ℕ → Bool
sends None cell = false
sends (Some m) cell = nat_eq m.from cell

abbrev receives : Option MessageImage → ℕ → Bool
receives None cell = false
receives (Some m) cell = nat_eq m.to cell

abbrev uses : List MessageImage → ℕ → Instr → Bool
uses messages cell (Write m) = sends (slice_get messages m) cell
uses messages cell (Read m word) = receives (slice_get messages m) cell
uses messages cell _ = true

sender_of : (o : Option MessageImage) (cell : ℕ) → sends o cell ≡ true
    → (m : MessageImage) × (o ≡ Some m) × (m.from ≡ cell)
sender_of None cell e = absurd (cc)
sender_of (Some m) cell e = (m, refl, eqb-true _ _ e)

receiver_of : (o : Option MessageImage) (cell : ℕ) → receives o cell ≡ true
    → (m : MessageImage) × (o ≡ Some m) × (m.to ≡ cell)
receiver_of None cell e = absurd (cc)
receiver_of (Some m) cell e = (m, refl, eqb-true _ _ e)

use_one : (messages : List MessageImage) (cell : ℕ) (instr : Instr) → uses messages cell instr ≡ true
    → UsesItsEnds messages cell instr
use_one messages cell (Write m) e = sender_of (slice_get messages m) cell e
use_one messages cell (Read m word) e = receiver_of (slice_get messages m) cell e
use_one messages cell _ e = tt

use_each : (messages : List MessageImage) (cell : ℕ) (code : List Instr) → list_all (uses messages cell) code ≡ true
    → (at : ℕ) (instr : Instr) → slice_get code at ≡ Some instr → UsesItsEnds messages cell instr
use_each messages cell [] e at instr is = absurd (none-some instr is)
use_each messages cell (x ∷ code) e zero instr is =
    subst (UsesItsEnds messages cell) (same_Some x instr is) (use_one messages cell x (and_parts _ _ e).0)
use_each messages cell (x ∷ code) e (suc at) instr is = use_each messages cell code (and_parts _ _ e).1 at instr is

abbrev cells_use : List MessageImage → ℕ → List CellImage → Bool
cells_use messages n [] = true
cells_use messages n (c ∷ rest) = list_all (uses messages n) c.code && cells_use messages (suc n) rest

cell_uses : (messages : List MessageImage) (n : ℕ) (images : List CellImage) → cells_use messages n images ≡ true
    → (k m : ℕ) (c : CellImage) (at : ℕ) (instr : Instr) → m ≡ n + k → slice_get images k ≡ Some c
    → slice_get c.code at ≡ Some instr
    → UsesItsEnds messages m instr
cell_uses messages n [] e k m c at instr here is there = absurd (none-some c is)
cell_uses messages n (x ∷ rest) e zero m c at instr here is there =
    let same : n ≡ m = omega (arith, here) in
    subst (λ j. UsesItsEnds messages j instr) same
    (use_each messages n x.code (and_parts _ _ e).0 at instr
    (subst (λ (i : CellImage). slice_get i.code at ≡ Some instr) (sym (same_Some x c is)) there))
cell_uses messages n (x ∷ rest) e (suc k) m c at instr here is there =
    cell_uses messages (suc n) rest (and_parts _ _ e).1 k m c at instr (omega (arith, here)) is there

-- ---- two messages that share a queue

one_link : (l : ℕ) → Differ (l ∷ [])
one_link l i j d h k = absurd (omega (arith, h, k))

shared_message : (length label : ℕ)
    → IsShapedMessage shared.grid (message 1 length label (1 ∷ []))
shared_message length label =
    record {
      from = omega arith;
      to = omega arith;
      apart = λ e. omega arith;
      path = record { leads = (E ∷ [], (refl, 1, refl, refl)); differ = one_link 1 };
    }

pub shared_is_shaped : IsShaped shared
shared_is_shaped =
    record {
      buffer = omega arith;
      most_messages = omega arith;
      messages =
          All-cons (IsShapedMessage shared.grid) (message 1 2 0 (1 ∷ [])) (message 1 1 1 (1 ∷ []) ∷ [])
          (shared_message 2 0)
          (All-cons (IsShapedMessage shared.grid) (message 1 1 1 (1 ∷ [])) [] (shared_message 1 1)
          (All-nil (IsShapedMessage shared.grid)));
      links = refl;
      cells = refl;
      shapes =
          All-cons IsShapedCell shared_sender (shared_receiver ∷ [])
          (checked_cell shared_sender (0 ∷ 1 ∷ 0 ∷ 1 ∷ 0 ∷ 1 ∷ 0 ∷ []) 8 refl)
          (All-cons IsShapedCell shared_receiver [] (checked_cell shared_receiver (0 ∷ 0 ∷ 0 ∷ 0 ∷ 1 ∷ 0 ∷ []) 7 refl)
          (All-nil IsShapedCell));
      ends = λ cell c at instr. cell_uses shared.messages 0 shared.cells refl cell cell c at instr (omega arith);
    }

pub shared_is_counted : IsCounted shared (inputs_of (replicate 2 []))
shared_is_counted zero k = refl
shared_is_counted (suc zero) k = refl
shared_is_counted (suc (suc c)) k = absurd (omega (arith, k))

-- ---- a message over two links

two_links : Differ (1 ∷ 5 ∷ [])
two_links zero zero d h k = absurd (omega (arith, h))
two_links zero (suc zero) d h k = λ e. omega arith
two_links (suc i) (suc zero) d h k = absurd (omega (arith, h))
two_links i (suc (suc j)) d h k = absurd (omega (arith, k))
two_links (suc i) zero d h k = absurd (omega (arith, h))

chain_message : IsShapedMessage chain.grid (message 2 3 0 (1 ∷ 5 ∷ []))
chain_message =
    record {
      from = omega arith;
      to = omega arith;
      apart = λ e. omega arith;
      path = record { leads = (E ∷ E ∷ [], (refl, 1, refl, (refl, 2, refl, refl))); differ = two_links };
    }

pub chain_is_shaped : IsShaped chain
chain_is_shaped =
    record {
      buffer = omega arith;
      most_messages = omega arith;
      messages = All-cons (IsShapedMessage chain.grid) (message 2 3 0 (1 ∷ 5 ∷ [])) [] chain_message
          (All-nil (IsShapedMessage chain.grid));
      links = refl;
      cells = refl;
      shapes =
          All-cons IsShapedCell chain_sender (idle ∷ chain_receiver ∷ [])
          (checked_cell chain_sender (0 ∷ 0 ∷ 1 ∷ 2 ∷ 1 ∷ 0 ∷ 0 ∷ []) 20 refl)
          (All-cons IsShapedCell idle (chain_receiver ∷ []) (checked_cell idle (0 ∷ []) 2 refl)
          (All-cons IsShapedCell chain_receiver [] (checked_cell chain_receiver (0 ∷ 0 ∷ 0 ∷ 1 ∷ 0 ∷ 0 ∷ []) 20 refl)
          (All-nil IsShapedCell)));
      ends = λ cell c at instr. cell_uses chain.messages 0 chain.cells refl cell cell c at instr (omega arith);
    }

pub chain_is_counted : IsCounted chain (inputs_of (replicate 3 []))
chain_is_counted zero k = refl
chain_is_counted (suc zero) k = refl
chain_is_counted (suc (suc zero)) k = refl
chain_is_counted (suc (suc (suc c))) k = absurd (omega (arith, k))
