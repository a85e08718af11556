-- The images of the tests are shaped.
use Rattle.std.proofs.Common.{◌≡◌, ℕ, zero, suc, List, [], ◌∷◌, ◌++◌, Some, All, length, slice_get, replicate, refl, sym, subst, arith}
use Rattle.std.proofs.lemmas.List.Elements.{All-cons, All-nil}
use Rattle.std.proofs.lemmas.Option.{none-some, same_Some}
use Rattle.sys_base.specs.Paths.{Differ}
use Rattle.sys_base.specs.declared.kinds.Dir.TheVariants.{E}
use Rattle.cell_code.proofs.Checks.{checked_cell}
use Rattle.cell_code.specs.Images.{IsShaped, IsShapedMessage, UsesItsEnds}
use Rattle.cell_code.specs.ShapedCells.{IsShapedCell}
use Rattle.cell_code.specs.declared.image.CellImage.{CellImage}
use Rattle.cell_code.specs.declared.image.MessageImage.{MessageImage}
use Rattle.cell_code.specs.declared.instruction.Instr.{Instr}
use Rattle.cell_code.specs.declared.instruction.Instr.TheVariants.{Halt}
use Rattle.queue_tests.specs.Arrays.{chain, idle, message, paired, shared, wide}

-- ---- cells that do nothing

no_uses : (messages : List MessageImage) (cell : ℕ) (c : CellImage) (at : ℕ) (instr : Instr) → c ≡ idle
    → slice_get c.code at ≡ Some instr → UsesItsEnds messages cell instr
no_uses messages cell c at instr is there = at_idle at (subst (λ (x : CellImage). slice_get x.code at ≡ Some instr) is there)
  where
    at_idle : (i : ℕ) → slice_get idle.code i ≡ Some instr → UsesItsEnds messages cell instr
    at_idle zero e = subst (UsesItsEnds messages cell) (same_Some Halt instr e) tt
    at_idle (suc i) e = absurd (none-some instr e)

all_idle : (n k : ℕ) (c : CellImage) → slice_get (replicate n idle) k ≡ Some c → c ≡ idle
all_idle zero k c e = absurd (none-some c e)
all_idle (suc n) zero c e = sym (same_Some idle c e)
all_idle (suc n) (suc k) c e = all_idle n k c e

idle_is_shaped : IsShapedCell idle
idle_is_shaped = checked_cell idle (0 ∷ []) 2 refl

-- ---- two messages that share a queue

one_link : (l : ℕ) → Differ (l ∷ [])
one_link l i j d h k = absurd (omega (arith, h, k))

shared_message : (length label : ℕ) → IsShapedMessage shared.grid (message 0 1 length label (1 ∷ []))
shared_message length label =
    record {
      from = omega arith;
      to = omega arith;
      apart = λ e. omega arith;
      path = record { leads = (E ∷ [], (refl, 1, refl, refl)); differ = one_link 1 };
    }

pub shared_is_shaped : IsShaped shared
shared_is_shaped =
    record {
      buffer = omega arith;
      most_messages = omega arith;
      messages =
          All-cons (IsShapedMessage shared.grid) (message 0 1 2 0 (1 ∷ [])) (message 0 1 1 1 (1 ∷ []) ∷ [])
          (shared_message 2 0)
          (All-cons (IsShapedMessage shared.grid) (message 0 1 1 1 (1 ∷ [])) [] (shared_message 1 1)
          (All-nil (IsShapedMessage shared.grid)));
      links = refl;
      cells = refl;
      shapes = All-cons IsShapedCell idle (idle ∷ []) idle_is_shaped
          (All-cons IsShapedCell idle [] idle_is_shaped (All-nil IsShapedCell));
      ends = λ cell c at instr is. no_uses shared.messages cell c at instr (all_idle 2 cell c is);
    }

-- ---- messages over two links and over one

two_links : Differ (1 ∷ 5 ∷ [])
two_links zero zero d h k = absurd (omega (arith, h))
two_links zero (suc zero) d h k = λ e. omega arith
two_links (suc i) (suc zero) d h k = absurd (omega (arith, h))
two_links i (suc (suc j)) d h k = absurd (omega (arith, k))
two_links (suc i) zero d h k = absurd (omega (arith, h))

long_message : IsShapedMessage chain.grid (message 0 2 2 0 (1 ∷ 5 ∷ []))
long_message =
    record {
      from = omega arith;
      to = omega arith;
      apart = λ e. omega arith;
      path = record { leads = (E ∷ E ∷ [], (refl, 1, refl, (refl, 2, refl, refl))); differ = two_links };
    }

short_message : IsShapedMessage chain.grid (message 0 1 1 0 (1 ∷ []))
short_message =
    record {
      from = omega arith;
      to = omega arith;
      apart = λ e. omega arith;
      path = record { leads = (E ∷ [], (refl, 1, refl, refl)); differ = one_link 1 };
    }

pub chain_is_shaped : IsShaped chain
chain_is_shaped =
    record {
      buffer = omega arith;
      most_messages = omega arith;
      messages =
          All-cons (IsShapedMessage chain.grid) (message 0 2 2 0 (1 ∷ 5 ∷ [])) (message 0 1 1 0 (1 ∷ []) ∷ []) long_message
          (All-cons (IsShapedMessage chain.grid) (message 0 1 1 0 (1 ∷ [])) [] short_message
          (All-nil (IsShapedMessage chain.grid)));
      links = refl;
      cells = refl;
      shapes = All-cons IsShapedCell idle (idle ∷ idle ∷ []) idle_is_shaped
          (All-cons IsShapedCell idle (idle ∷ []) idle_is_shaped
          (All-cons IsShapedCell idle [] idle_is_shaped (All-nil IsShapedCell)));
      ends = λ cell c at instr is. no_uses chain.messages cell c at instr (all_idle 3 cell c is);
    }

-- ---- two messages of one group over each of two links

paired_first : IsShapedMessage paired.grid (message 0 1 4 0 (1 ∷ []))
paired_first =
    record {
      from = omega arith;
      to = omega arith;
      apart = λ e. omega arith;
      path = record { leads = (E ∷ [], (refl, 1, refl, refl)); differ = one_link 1 };
    }

paired_second : IsShapedMessage paired.grid (message 1 2 4 0 (5 ∷ []))
paired_second =
    record {
      from = omega arith;
      to = omega arith;
      apart = λ e. omega arith;
      path = record { leads = (E ∷ [], (refl, 2, refl, refl)); differ = one_link 5 };
    }

-- each of the same elements, and of others after them, has a property
all_same : {A : Type 0} (P : A → Type 0) (n : ℕ) (a : A) (after : List A) → P a → All P after → All P (replicate n a ++ after)
all_same P zero a after h rest = rest
all_same P (suc n) a after h rest = All-cons P a (replicate n a ++ after) h (all_same P n a after h rest)

pub paired_is_shaped : IsShaped paired
paired_is_shaped =
    record {
      buffer = omega arith;
      most_messages = omega arith;
      messages =
          all_same (IsShapedMessage paired.grid) 2 (message 0 1 4 0 (1 ∷ [])) (replicate 2 (message 1 2 4 0 (5 ∷ [])) ++ [])
          paired_first
          (all_same (IsShapedMessage paired.grid) 2 (message 1 2 4 0 (5 ∷ [])) [] paired_second
          (All-nil (IsShapedMessage paired.grid)));
      links = refl;
      cells = refl;
      shapes = all_same IsShapedCell 3 idle [] idle_is_shaped (All-nil IsShapedCell);
      ends = λ cell c at instr is. no_uses paired.messages cell c at instr (all_idle 3 cell c is);
    }

-- ---- a link with 32 queues

wide_message : (label : ℕ) → IsShapedMessage wide.grid (message 0 1 1 label (1 ∷ []))
wide_message label =
    record {
      from = omega arith;
      to = omega arith;
      apart = λ e. omega arith;
      path = record { leads = (E ∷ [], (refl, 1, refl, refl)); differ = one_link 1 };
    }

pub wide_is_shaped : IsShaped wide
wide_is_shaped =
    record {
      buffer = omega arith;
      most_messages = omega arith;
      messages =
          all_same (IsShapedMessage wide.grid) 32 (message 0 1 1 0 (1 ∷ [])) (message 0 1 1 1 (1 ∷ []) ∷ []) (wide_message 0)
          (All-cons (IsShapedMessage wide.grid) (message 0 1 1 1 (1 ∷ [])) [] (wide_message 1)
          (All-nil (IsShapedMessage wide.grid)));
      links = refl;
      cells = refl;
      shapes = all_same IsShapedCell 2 idle [] idle_is_shaped (All-nil IsShapedCell);
      ends = λ cell c at instr is. no_uses wide.messages cell c at instr (all_idle 2 cell c is);
    }
