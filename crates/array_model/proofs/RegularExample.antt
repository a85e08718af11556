-- The image of one message of one word is regular without a buffer, and so it is sure.
use Rattle.std.proofs.Common.{◌≡◌, ℕ, zero, suc, ◌<◌, ◌≤◌, Bool, true, false, cond, nat_eq, ℤ, pos, List, [], ◌∷◌, Some, length, map, filter, take, slice_get, All, refl, ap, subst, arith}
use Rattle.std.proofs.lemmas.List.Elements.{All-cons, All-nil}
use Rattle.std.proofs.lemmas.Option.{none-some, same_Some}
use Rattle.sys_base.specs.Communications.{Communication, Writes, Reads, Emits, times}
use Rattle.sys_base.specs.Held.{Streams}
use Rattle.sys_base.specs.declared.kinds.Dir.TheVariants.{E}
use Rattle.cell_code.proofs.Checks.{checked_cell}
use Rattle.cell_code.specs.Alone.{Alone}
use Rattle.cell_code.specs.Images.{IsShaped, IsShapedMessage, UsesItsEnds}
use Rattle.cell_code.specs.Marks.{groups_of, link_of, message_of}
use Rattle.cell_code.specs.ShapedCells.{IsShapedCell}
use Rattle.cell_code.specs.declared.image.CellImage.{CellImage}
use Rattle.cell_code.specs.declared.image.Group.{Group}
use Rattle.cell_code.specs.declared.image.LinkImage.{LinkImage}
use Rattle.cell_code.specs.declared.image.MessageImage.{MessageImage}
use Rattle.cell_code.specs.declared.instruction.Instr.{Instr}
use Rattle.cell_code.specs.declared.instruction.Instr.TheVariants.{Push, Load, Write, Read, Emit, Halt}
use Rattle.array_model.specs.Orders.{IsBufferedOrder, IsConsistent, IsKnown, exchanges, is_of}
use Rattle.array_model.specs.Regular.{EndsAlone, IsRegular}
use Rattle.array_model.specs.Runs.{IsSure}
use Rattle.array_model.specs.States.{cell_of}
use Rattle.array_model.proofs.Examples.{one_word}
use Rattle.array_model.proofs.Sure.{regular_sure}

abbrev the_message : MessageImage
the_message = record { from = 0; to = 1; length = 1; label = 0; route = 1 ∷ [] }

abbrev the_link : LinkImage
the_link = record { link = 1; queues = 1; groups = record { label = 0; members = 0 ∷ [] } ∷ [] }

abbrev the_sender : CellImage
the_sender = record { takes = 0; emits = 0; words = 0; counters = 0; stack = 1; code = Push (pos 7) ∷ Write 0 ∷ Halt ∷ [] }

abbrev the_receiver : CellImage
the_receiver =
    record { takes = 0; emits = 1; words = 1; counters = 0; stack = 1; code = Read 0 0 ∷ Load 0 ∷ Emit ∷ Halt ∷ [] }

-- ---- it is shaped

message_shaped : IsShapedMessage one_word.grid the_message
message_shaped =
    record {
      from = omega arith;
      to = omega arith;
      apart = λ e. omega arith;
      path = record {
        leads = (E ∷ [], (refl, 1, refl, refl));
        differ = λ i j d h l. absurd (omega arith);
      };
    }

instr_is : (P : Instr → Type 0) (a b : Instr) → Some a ≡ Some b → P a → P b
instr_is P a b e x = subst P (same_Some a b e) x

sender_ends : (at : ℕ) (instr : Instr) → slice_get the_sender.code at ≡ Some instr → UsesItsEnds one_word.messages 0 instr
sender_ends zero instr e = instr_is (UsesItsEnds one_word.messages 0) (Push (pos 7)) instr e tt
sender_ends (suc zero) instr e = instr_is (UsesItsEnds one_word.messages 0) (Write 0) instr e (the_message, refl, refl)
sender_ends (suc (suc zero)) instr e = instr_is (UsesItsEnds one_word.messages 0) Halt instr e tt
sender_ends (suc (suc (suc at))) instr e = absurd (none-some instr e)

receiver_ends : (at : ℕ) (instr : Instr) → slice_get the_receiver.code at ≡ Some instr → UsesItsEnds one_word.messages 1 instr
receiver_ends zero instr e = instr_is (UsesItsEnds one_word.messages 1) (Read 0 0) instr e (the_message, refl, refl)
receiver_ends (suc zero) instr e = instr_is (UsesItsEnds one_word.messages 1) (Load 0) instr e tt
receiver_ends (suc (suc zero)) instr e = instr_is (UsesItsEnds one_word.messages 1) Emit instr e tt
receiver_ends (suc (suc (suc zero))) instr e = instr_is (UsesItsEnds one_word.messages 1) Halt instr e tt
receiver_ends (suc (suc (suc (suc at)))) instr e = absurd (none-some instr e)

uses_ends : (cell : ℕ) (c : CellImage) (at : ℕ) (instr : Instr) → slice_get one_word.cells cell ≡ Some c
    → slice_get c.code at ≡ Some instr → UsesItsEnds one_word.messages cell instr
uses_ends zero c at instr e =
    subst (λ d. slice_get d.code at ≡ Some instr → UsesItsEnds one_word.messages 0 instr) (same_Some the_sender c e)
    (sender_ends at instr)
uses_ends (suc zero) c at instr e =
    subst (λ d. slice_get d.code at ≡ Some instr → UsesItsEnds one_word.messages 1 instr) (same_Some the_receiver c e)
    (receiver_ends at instr)
uses_ends (suc (suc cell)) c at instr e = absurd (none-some c e)

it_is_shaped : IsShaped one_word
it_is_shaped =
    record {
      buffer = omega arith;
      most_messages = omega arith;
      messages = All-cons (IsShapedMessage one_word.grid) the_message [] message_shaped (All-nil (IsShapedMessage one_word.grid));
      links = refl;
      cells = refl;
      shapes =
          All-cons IsShapedCell the_sender (the_receiver ∷ []) (checked_cell _ (0 ∷ 1 ∷ 0 ∷ []) 4 refl)
          (All-cons IsShapedCell the_receiver [] (checked_cell _ (0 ∷ 0 ∷ 1 ∷ 0 ∷ []) 5 refl) (All-nil IsShapedCell));
      ends = uses_ends;
    }

-- ---- its cells alone, their order and their labels

abbrev lists : ℕ → List Communication
lists zero = Writes 0 ∷ []
lists (suc zero) = Reads 0 ∷ Emits ∷ []
lists (suc (suc c)) = []

abbrev costs : ℕ → ℕ
costs zero = 2
costs (suc zero) = 3
costs (suc (suc c)) = 0

run_alone : (c : ℕ) (input : List ℤ) (streams : Streams) → c < 2 → length input ≡ (cell_of one_word c).takes
    → (end : Alone) × EndsAlone one_word c input streams (costs c) end × (end.made ≡ lists c)
run_alone zero input streams l e =
    (_, record { steps = 2; within = omega arith; ends = refl; halts = refl }, refl)
run_alone (suc zero) input streams l e =
    (_, record { steps = 3; within = omega arith; ends = refl; halts = refl }, refl)
run_alone (suc (suc c)) input streams l e = absurd (omega arith)

abbrev its_order : List Communication
its_order = Writes 0 ∷ Reads 0 ∷ []

follows_at_once : (n m : ℕ) → slice_get its_order n ≡ Some (Writes m) → slice_get its_order (suc n) ≡ Some (Reads m)
follows_at_once zero m e = ap (λ k. Some (Reads k)) (cc e)
follows_at_once (suc zero) m e = absurd (cc e)
follows_at_once (suc (suc n)) m e = absurd (cc e)

each_part : (c : ℕ) → c < 2 → filter (is_of one_word c) its_order ≡ exchanges (lists c)
each_part zero l = refl
each_part (suc zero) l = refl
each_part (suc (suc c)) l = absurd (omega arith)

no_early_reads : (n m : ℕ) → times (Reads m) (take n its_order) ≤ times (Writes m) (take n its_order)
no_early_reads zero m = omega arith
no_early_reads (suc zero) m = omega arith
no_early_reads (suc (suc zero)) m = omega arith
no_early_reads (suc (suc (suc n))) m = omega arith

it_is_ordered : IsBufferedOrder one_word lists 0 its_order
it_is_ordered =
    record {
      known = All-cons (IsKnown one_word) (Writes 0) (Reads 0 ∷ []) (omega arith)
          (All-cons (IsKnown one_word) (Reads 0) [] (omega arith) (All-nil (IsKnown one_word)));
      each = each_part;
      prefix = no_early_reads;
      whole = λ m. omega arith;
      kept = follows_at_once;
    }

it_is_consistent : IsConsistent one_word lists
it_is_consistent zero place a b l e f = absurd (none-some b f)
it_is_consistent (suc zero) place a b l e f = absurd (none-some b f)
it_is_consistent (suc (suc c)) place a b l e f = absurd (omega arith)

group_fits : (b : Bool) (l : ℕ)
    → All (λ (group : List ℕ). length group ≤ (cond b the_link (link_of [] l)).queues)
    (map (λ (g : Group). g.members) (cond b the_link (link_of [] l)).groups)
group_fits true l =
    All-cons (λ (group : List ℕ). length group ≤ 1) (0 ∷ []) [] (omega arith) (All-nil (λ (group : List ℕ). length group ≤ 1))
group_fits false l = All-nil (λ (group : List ℕ). length group ≤ 0)

groups_fit : (l : ℕ) → All (λ (group : List ℕ). length group ≤ (link_of one_word.links l).queues) (groups_of one_word l)
groups_fit l = group_fits (nat_eq l 1) l

is_long : (m : ℕ) → m < 1 → (message_of one_word m).length ≡ times (Writes m) (lists (message_of one_word m).from)
is_long zero l = refl
is_long (suc m) l = absurd (omega arith)

it_is_regular : IsRegular one_word 0
it_is_regular =
    record {
      shaped = it_is_shaped;
      cost = costs;
      lists = lists;
      alone = run_alone;
      order = its_order;
      ordered = it_is_ordered;
      consistent = it_is_consistent;
      lengths = is_long;
      fits = groups_fit;
      bound = refl;
    }

it_is_sure : IsSure one_word 0
it_is_sure = regular_sure one_word 0 it_is_regular
