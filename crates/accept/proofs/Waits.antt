-- The walk of a residue waits at cells of the program and with its messages.
use Rattle.std.proofs.Common.{◌≡◌, ℕ, ◌<◌, ◌-◌, List, Option, Some, None, IsSomeAnd, length, slice_get, All, refl, sym, ap, subst, ◌∙◌}
use Rattle.std.proofs.lemmas.List.Elements.{All-weaker}
use Rattle.std.proofs.lemmas.List.FromFn.{length-map-range_with_len}
use Rattle.std.proofs.lemmas.Option.{slice_get-map, slice_get_within, get_or_from_slice_get}
use Rattle.std.specs.Option.{option_map}
use Rattle.sys_base.specs.Grid.{cell_count}
use Rattle.cell_types.specs.Code.{ProgramCode}
use Rattle.cell_types.specs.Communications.{communications}
use Rattle.cell_types.specs.Sound.{IsSound, IsSoundMessage}
use Rattle.cell_types.specs.declared.program.Message.{Message}
use Rattle.comm_sequence.specs.Sequences.{comms, sequences_of, message_of}
use Rattle.comm_sequence.specs.declared.comm.Comm.{Comm}
use Rattle.comm_sequence.specs.declared.comm.Comm.TheVariants as C
use Rattle.crossing_off.specs.Answer.{IsResidue}
use Rattle.crossing_off.specs.Greedy.{front}
use Rattle.crossing_off.specs.Walk.{partner_of, IsWait, IsEnd, IsWalk}
use Rattle.crossing_off.specs.declared.answer.Residue.{Residue}
use Rattle.crossing_off.specs.declared.waits.Wait.{Wait}
use Rattle.crossing_off.specs.declared.waits.WaitWalk.{WaitWalk}
use Rattle.crossing_off.specs.declared.waits.WalkEnd.{WalkEnd}
use Rattle.crossing_off.specs.declared.waits.WalkEnd.TheVariants.{Again, NothingLeft}
use Rattle.accept.specs.bodies.Answers.{IsWaitOf, IsEndOf}

-- what holds of all of a list holds of the one at a place
pub all_at : {A : Type 0} (P : A → Type 0) (xs : List A) (k : ℕ) (x : A) → All P xs → slice_get xs k ≡ Some x → P x
all_at P xs k x all at = subst P (get_or_from_slice_get xs k x x at) (all k x (slice_get_within xs k x at))

-- A message has this index, and this cell of the grid is one of its ends.
record HasEnd (p : ProgramCode) (message cell : ℕ) : Type 0 where
  has_message : message < length p.messages
  has_cell : cell < cell_count p.grid

module _ (p : ProgramCode) (sound : IsSound p) where
  -- the end that is picked of a message
  picked : (pick : ℕ × ℕ → ℕ) → ((m : Message) → IsSoundMessage p.grid m → pick (m.from, m.to) < cell_count p.grid)
      → (message cell : ℕ) (o : Option Message) → slice_get p.messages message ≡ o
      → option_map pick (option_map (λ (m : Message). (m.from, m.to)) o) ≡ Some cell → HasEnd p message cell
  picked pick inside message cell None at e = cc
  picked pick inside message cell (Some m) at e =
      let same : pick (m.from, m.to) ≡ cell = cc in
      record {
        has_message = slice_get_within p.messages message m at;
        has_cell = subst (λ c. c < cell_count p.grid) same (inside m (all_at (IsSoundMessage p.grid) p.messages message m sound.messages at));
      }

  -- the other end of an operation's message
  partner_end : (front : Comm) (cell : ℕ) → partner_of (sequences_of p).ends front ≡ Some cell → HasEnd p (message_of front) cell
  partner_end (C.Write m) cell e =
      picked (λ (x : ℕ × ℕ). x.1) (λ n s. s.receiver) m cell (slice_get p.messages m) refl
      (ap (option_map (λ (x : ℕ × ℕ). x.1)) (sym (slice_get-map (λ (n : Message). (n.from, n.to)) p.messages m)) ∙ e)
  partner_end (C.Read m) cell e =
      picked (λ (x : ℕ × ℕ). x.0) (λ n s. s.sender) m cell (slice_get p.messages m) refl
      (ap (option_map (λ (x : ℕ × ℕ). x.0)) (sym (slice_get-map (λ (n : Message). (n.from, n.to)) p.messages m)) ∙ e)

  module _ (residue : Residue) (is : IsResidue (sequences_of p) p.buffer residue) where
    -- a residue has a place for each cell
    count : length residue.fronts.items ≡ cell_count p.grid
    count =
        ap length is.fronts_are ∙ length-map-range_with_len (front (sequences_of p) is.crossed) 0 (length (sequences_of p).lists)
        ∙ length-map-range_with_len (λ cell. comms (communications p cell)) 0 (length p.cells) ∙ sound.all

    -- a cell that has a first operation left
    front_cell : (cell : ℕ) (o : Option Comm) → slice_get residue.fronts.items cell ≡ Some o → cell < cell_count p.grid
    front_cell cell o at = subst (λ n. cell < n) count (slice_get_within residue.fronts.items cell o at)

    -- a wait
    wait_of : (w : Wait) → IsWait (sequences_of p) residue.fronts.items w → IsWaitOf p w
    wait_of w h =
        let e : HasEnd p (message_of w.front) w.partner = partner_end w.front w.partner h.partner in
        record { cell = front_cell w.cell (Some w.front) h.front; partner = e.has_cell; message = e.has_message }

    module _ (walk : WaitWalk) (h : IsWalk (sequences_of p) residue walk) where
      -- the waits of a walk
      pub waits_of : All (IsWaitOf p) walk.waits.items
      waits_of = All-weaker (IsWait (sequences_of p) residue.fronts.items) (IsWaitOf p) wait_of walk.waits.items h.are_waits

      -- the cell that is waited for last
      last_cell : (k cell : ℕ) (o : Option Wait) → slice_get walk.waits.items k ≡ o → IsSomeAnd o (λ last. last.partner ≡ cell)
          → cell < cell_count p.grid
      last_cell k cell None at same = absurd same
      last_cell k cell (Some w) at same =
          let last : IsWaitOf p w = all_at (IsWaitOf p) walk.waits.items k w waits_of at in
          subst (λ c. c < cell_count p.grid) same last.partner

      -- the end of a walk
      end_of : (end : WalkEnd) → IsEnd residue.fronts.items walk.waits.items end → IsEndOf p end
      end_of (Again cell) ends = last_cell (length walk.waits.items - 1) cell (slice_get walk.waits.items (length walk.waits.items - 1)) refl ends.0
      end_of (NothingLeft cell) ends =
          last_cell (length walk.waits.items - 1) cell (slice_get walk.waits.items (length walk.waits.items - 1)) refl ends.0

      -- the end of this one
      pub ends_at : IsEndOf p walk.end
      ends_at = end_of walk.end h.ends
