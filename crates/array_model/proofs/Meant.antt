-- A regular image has one meaning, and every run of it keeps that.
use Rattle.std.proofs.Common.{◌≡◌, ℕ, ◌<◌, ◌≤◌, max, List, sym, ap, subst, ◌∙◌}
use Rattle.sys_base.specs.Held.{Streams}
use Rattle.sys_base.specs.declared.actor.Actor.{Actor}
use Rattle.sys_base.specs.declared.word.Word.{Word}
use Rattle.array_runs.specs.Frame as F
use Rattle.array_runs.specs.Machines.{Machine}
use Rattle.array_runs.specs.Meaning as MM
use Rattle.array_runs.proofs.Agreed.{keeps_meaning}
use Rattle.array_runs.proofs.Streams.{same_written}
use Rattle.cell_code.specs.Marks.{message_of}
use Rattle.cell_code.specs.Rows.{State}
use Rattle.cell_code.specs.declared.image.Image.{Image}
use Rattle.array_model.specs.Meaning.{Agrees, HasOneMeaning, IsPrefix, KeepsMeaning}
use Rattle.array_model.specs.Regular.{IsRegular}
use Rattle.array_model.specs.Runs.{IsFinished, IsRun}
use Rattle.array_model.specs.States.{ArrayState, Inputs, IsCounted, cells}
use Rattle.array_model.proofs.CellsAlone.{ended}
use Rattle.array_model.proofs.Links.{shaped_message}
use Rattle.array_model.proofs.Listed.{lists}
use Rattle.array_model.proofs.Mapped.{array, frame, machine, start}
use Rattle.array_model.proofs.Outputs.{output_grows, output_of}
use Rattle.array_model.proofs.Sure.{array_finished, by, meaning, regular_array}

module _ (image : Image) (buffer : ℕ) (h : IsRegular image buffer) (inputs : Inputs) (counted : IsCounted image inputs) where
  abbrev p : F.Frame
  p = frame image

  abbrev mc : Machine State Word
  mc = machine image inputs

  to_machines : (v : Streams) → Agrees image inputs v → MM.Agrees p mc (start image) v
  to_machines v a m l =
      let w = a m l in
      let e = ended image inputs v (message_of image m).from w.cost w.end w.ends in
      record { steps = e.steps; halts = e.halts; writes = e.sent m ∙ w.sends }

  from_machines : (v : Streams) → MM.Agrees p mc (start image) v → Agrees image inputs v
  from_machines v a m l =
      let c : ℕ = (message_of image m).from in
      let cell : c < cells image = (shaped_message image h.shaped m l).from in
      let one = h.alone c (inputs c) v cell (counted c cell) in
      let e = ended image inputs v c (h.cost c) one.0 one.1 in
      let w = a m l in
      record {
        cost = h.cost c;
        end = one.0;
        ends = one.1;
        sends = sym (e.sent m) ∙ same_written mc v (start image) c m e.steps w.steps e.halts w.halts ∙ w.writes;
      }

  pub one_meaning : HasOneMeaning image inputs
  one_meaning =
      let m = meaning image buffer h inputs counted in
      record {
        streams = m.streams;
        agree = from_machines m.streams m.agree;
        only = λ v w a b k l. m.only v w (to_machines v a) (to_machines w b) k l;
      }

  module _ (v : Streams) (agrees : Agrees image inputs v) (cap : ℕ) (run : List Actor) (last : ArrayState) (enough : max 1 buffer ≤ cap) (is : IsRun image inputs cap run last) where
    kept : MM.KeepsMeaning p mc (start image) output_of v (array last)
    kept =
        let follows = by image buffer h inputs counted cap enough run last is in
        subst (MM.KeepsMeaning p mc (start image) output_of v) follows.1
        (keeps_meaning p mc (start image) (lists image buffer h) h.cost buffer (regular_array image buffer h inputs counted) v
        (to_machines v agrees) cap output_of (output_grows image inputs) run follows.0)

    pub keeps : KeepsMeaning image inputs v last
    keeps =
        record {
          begins = λ m l. kept.begins m l;
          whole = λ f m l. kept.whole (array_finished image buffer h inputs counted cap enough run last is f) m l;
          emits = λ c cost end l ends.
              let e = ended image inputs v c cost end ends in
              subst (λ s. IsPrefix (output_of (last.cell c)) (output_of s)) e.state (kept.puts_out c e.steps l e.halts);
          emitted = λ f c cost end l ends.
              let e = ended image inputs v c cost end ends in
              kept.put_out (array_finished image buffer h inputs counted cap enough run last is f) c e.steps l e.halts
              ∙ ap output_of e.state;
        }

  -- two runs that are finished have emitted the same
  pub finished_alike : (cap other : ℕ) (run others : List Actor) (last end : ArrayState)
      → max 1 buffer ≤ cap → max 1 buffer ≤ other → IsRun image inputs cap run last → IsRun image inputs other others end
      → IsFinished image last → IsFinished image end → (c : ℕ) → c < cells image
      → (last.cell c).held.output ≡ (end.cell c).held.output
  finished_alike cap other run others last end enough later is there f g c l =
      let m = one_meaning in
      let one = h.alone c (inputs c) m.streams l (counted c l) in
      (keeps m.streams m.agree cap run last enough is).emitted f c (h.cost c) one.0 l one.1
      ∙ sym ((keeps m.streams m.agree other others end later there).emitted g c (h.cost c) one.0 l one.1)
