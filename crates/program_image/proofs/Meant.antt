-- The meaning of a program and that of its image are the same.
use Rattle.std.proofs.Common.{◌≡◌, ℕ, ◌<◌, ◌≤◌, max, Bool, true, false, cond, nat_eq, ℤ, List, [], ◌∷◌, Some, map, filter, length, get_or, slice_get, slice_index_or, refl, sym, ap, subst, ◌∙◌, inl, inr, arith}
use Rattle.std.proofs.lemmas.Bool.{cases_eq, eq-eqb, ne_eqb}
use Rattle.std.proofs.lemmas.List.{ext_get_or}
use Rattle.std.proofs.lemmas.List.FromFn.{get_or-map-range_with_len, length-map-range_with_len}
use Rattle.std.proofs.lemmas.Option.{get_or_from_slice_get, slice_get_within}
use Rattle.sys_base.specs.Communications.{Writes, times}
use Rattle.sys_base.specs.Grid.{cell_count}
use Rattle.sys_base.specs.Held.{Streams}
use Rattle.sys_base.specs.declared.actor.Actor.{Actor}
use Rattle.sys_base.specs.declared.word.Word.{Word}
use Rattle.sys_base.specs.declared.limits.TheConstants.{STEPS}
use Rattle.cell_code.specs.Alone.{Alone, opening_alone}
use Rattle.cell_code.specs.Marks.{message_of}
use Rattle.cell_types.specs.Alike.{Alike}
use Rattle.cell_types.specs.Code.{ProgramCode}
use Rattle.cell_types.specs.Cost.{cells_cost}
use Rattle.cell_types.specs.Solo.{emitted, written_to}
use Rattle.cell_types.specs.Sound.{IsSound, IsSoundMessage}
use Rattle.cell_types.specs.declared.program.Message.{Message}
use Rattle.comm_sequence.specs.Meaning.{Agree, IsMeaning, alone, words_emitted}
use Rattle.array_model.specs.Meaning.{Agrees, IsPrefix, SendsStream, sent_to}
use Rattle.array_model.specs.Meaning as A
use Rattle.array_model.specs.Regular.{IsRegular}
use Rattle.array_model.specs.Runs.{IsRun, IsSure}
use Rattle.array_model.specs.States as S
use Rattle.array_model.specs.States.{ArrayState, Inputs, IsCounted}
use Rattle.program_image.specs.Faithful.{HasEmitted, HasOneMeaning, inputs_of}
use Rattle.program_image.specs.ImageOf.{image_of}
use Rattle.program_image.proofs.CellsAlone.{End, end_alone}
use Rattle.program_image.proofs.Finishing.{finished_run}
use Rattle.program_image.proofs.Layers.{CellsCommunicate, CellsFollow, OneMeanings, ProgramsHaveSequences, RunsKeepMeanings}
use Rattle.program_image.proofs.Lengths.{long_is}
use Rattle.program_image.proofs.Lists.{there}
use Rattle.program_image.proofs.Messages.{many, message_is}
use Rattle.program_image.proofs.OneEnd.{one_end}
use Rattle.program_image.proofs.Written.{written_long}

-- ---- the words that are sent to a message

same_test : (a b : ℕ) → nat_eq a b ≡ nat_eq b a
same_test a b =
    elim (cases_eq a b) [
      | inl e ↦ eq-eqb a b e ∙ sym (eq-eqb b a (sym e))
      | inr e ↦ ne_eqb a b e ∙ sym (ne_eqb b a (λ same. e (sym same)))
    ]

sent_is : (m : ℕ) (sent : List (ℕ × Word))
    → sent_to m sent ≡ map (λ (w : ℕ × Word). w.1) (filter (λ (w : ℕ × Word). nat_eq m w.0) sent)
sent_is m [] = refl
sent_is m (w ∷ ws) =
    let rest = filter (λ (x : ℕ × Word). nat_eq m x.0) ws in
    let words : List (ℕ × Word) → List Word = λ xs. map (λ (x : ℕ × Word). x.1) xs in
    let test : Bool = nat_eq m w.0 in
    ap (λ b. words (cond b (w ∷ filter (λ (x : ℕ × Word). nat_eq x.0 m) ws) (filter (λ (x : ℕ × Word). nat_eq x.0 m) ws)))
    (same_test w.0 m)
    ∙ go test (sent_is m ws)
  where
    go : (b : Bool)
        → map (λ (x : ℕ × Word). x.1) (filter (λ (x : ℕ × Word). nat_eq x.0 m) ws)
        ≡ map (λ (x : ℕ × Word). x.1) (filter (λ (x : ℕ × Word). nat_eq m x.0) ws)
        → map (λ (x : ℕ × Word). x.1) (cond b (w ∷ filter (λ (x : ℕ × Word). nat_eq x.0 m) ws) (filter (λ (x : ℕ × Word). nat_eq x.0 m) ws))
        ≡ map (λ (x : ℕ × Word). x.1) (cond b (w ∷ filter (λ (x : ℕ × Word). nat_eq m x.0) ws) (filter (λ (x : ℕ × Word). nat_eq m x.0) ws))
    go true ih = ap (λ r. w.1 ∷ r) ih
    go false ih = ih

module _ (program : ProgramCode) (labels : List ℕ) (sound : IsSound program) (follow : CellsFollow)
    (inputs : List (List ℤ)) where
  -- ---- streams that agree

  sound_message : (m : ℕ) (x : Message) → slice_get program.messages m ≡ Some x → IsSoundMessage program.grid x
  sound_message m x is =
      subst (IsSoundMessage program.grid) (get_or_from_slice_get program.messages m x x is)
      (sound.messages m x (slice_get_within program.messages m x is))

  -- the sender of a message in the image, and what it is alone
  module _ (streams : Streams) (m : ℕ) (x : Message) (is : slice_get program.messages m ≡ Some x) where
    abbrev from : ℕ
    from = (message_of (image_of program labels) m).from

    from_is : from ≡ x.from
    from_is = ap (λ y. y.from) (message_is program labels m x is)

    from_inside : from < cell_count program.grid
    from_inside = omega (arith, from_is, (sound_message m x is).sender)

    sender : End program labels sound from (inputs_of inputs from) streams
    sender = end_alone program labels sound follow from (inputs_of inputs from) streams from_inside

    sender_sends : sent_to m sender.end.sent ≡ written_to m (alone program inputs streams x.from)
    sender_sends =
        ap (sent_to m) sender.sent ∙ sent_is m (alone program inputs streams from).sent
        ∙ ap (λ c. written_to m (alone program inputs streams c)) from_is

  pub to_image : (streams : Streams) → Agree program inputs streams → Agrees (image_of program labels) (inputs_of inputs) streams
  to_image streams agree m h =
      let x = there program.messages m (omega (arith, h, many program labels)) in
      let s = sender streams m x.0 x.1 in
      record {
        cost = _;
        end = s.end;
        ends = s.ends;
        sends = sender_sends streams m x.0 x.1 ∙ agree.written m x.0 x.1;
      }

  module _ (alike : Alike program) (within : cells_cost program ≤ STEPS) (communicate : CellsCommunicate)
      (sequences : ProgramsHaveSequences) where
    written : (streams : Streams) → Agrees (image_of program labels) (inputs_of inputs) streams → (m : ℕ) (x : Message)
        → slice_get program.messages m ≡ Some x → written_to m (alone program inputs streams x.from) ≡ streams m
    written streams agrees m x is =
        let t = agrees m (omega (arith, many program labels, slice_get_within program.messages m x is)) in
        let s = sender streams m x is in
        let c = (message_of (image_of program labels) m).from in
        let same : s.end ≡ t.end =
        one_end (S.code_of (image_of program labels) c) c (inputs_of inputs c) streams s.ends.steps t.ends.steps
        (opening_alone (S.cell_of (image_of program labels) c).words (S.cell_of (image_of program labels) c).counters)
        s.end t.end s.ends.ends s.ends.halts t.ends.ends t.ends.halts in
        sym (sender_sends streams m x is) ∙ ap (λ (e : Alone). sent_to m e.sent) same ∙ t.sends

    pub from_image : (streams : Streams) → Agrees (image_of program labels) (inputs_of inputs) streams → Agree program inputs streams
    from_image streams agrees =
        record {
          lengths = λ m h.
              let x = there program.messages m h in
              ap length (sym (written streams agrees m x.0 x.1)) ∙ written_long m program x.0.from (slice_index_or inputs x.0.from []) streams
              ∙ ap (times (Writes m)) (communicate program alike x.0.from (slice_index_or inputs x.0.from []) streams)
              ∙ sym (long_is program labels sound within sequences m x.0 x.1 h);
          written = λ m x is. written streams agrees m x is;
        }

  -- ---- what is emitted

  word_of : (streams : Streams) (words : List (List Word)) → words ≡ words_emitted program inputs streams → (c : ℕ)
      → c < cell_count program.grid → slice_index_or words c [] ≡ emitted (alone program inputs streams c)
  word_of streams words is c h =
      ap (λ ws. slice_index_or ws c []) is
      ∙ get_or-map-range_with_len (λ cell. emitted (alone program inputs streams cell)) 0 (length program.cells) c c []
      (omega (arith, h, sound.all)) (omega arith)

  pub has_emitted : (streams : Streams) (words : List (List Word)) (s : ArrayState) → words ≡ words_emitted program inputs streams
      → A.KeepsMeaning (image_of program labels) (inputs_of inputs) streams s → HasEmitted (image_of program labels) words s
  has_emitted streams words s is keeps =
      record {
        begins = λ c h.
            let e = end_alone program labels sound follow c (inputs_of inputs c) streams h in
            subst (λ ws. IsPrefix (s.cell c).held.output ws) (ap (λ k. k.output) e.held ∙ sym (word_of streams words is c h))
            (keeps.emits c _ e.end h e.ends);
        whole = λ finished c h.
            let e = end_alone program labels sound follow c (inputs_of inputs c) streams h in
            keeps.emitted finished c _ e.end h e.ends ∙ ap (λ k. k.output) e.held ∙ sym (word_of streams words is c h);
      }

  -- ---- the image is regular

  module _ (buffer : ℕ) (regular : IsRegular (image_of program labels) buffer) (counted : IsCounted (image_of program labels) (inputs_of inputs))
      (keep : RunsKeepMeanings) where
    pub emitted_in_runs : (words : List (List Word)) (cap : ℕ) (run : List Actor) (last : ArrayState) → IsMeaning program inputs words
        → max 1 buffer ≤ cap → IsRun (image_of program labels) (inputs_of inputs) cap run last
        → HasEmitted (image_of program labels) words last
    emitted_in_runs words cap run last m enough is =
        has_emitted m.streams words last m.words
        (keep (image_of program labels) buffer (inputs_of inputs) m.streams cap run last regular counted
        (to_image m.streams m.agree) enough is)

    module _ (sure : IsSure (image_of program labels) buffer) where
      -- any two meanings have the same words, those that a finished run has emitted
      same_words : (words others : List (List Word)) → IsMeaning program inputs words → IsMeaning program inputs others
          → others ≡ words
      same_words words others m o =
          let cap = max 1 buffer in
          let enough : max 1 buffer ≤ cap = omega arith in
          let f = finished_run (image_of program labels) (inputs_of inputs) cap
          (λ run last is. sure (inputs_of inputs) cap run last counted enough is) in
          let long : (ws : List (List Word)) → IsMeaning program inputs ws → length ws ≡ length program.cells =
          λ ws k. ap length k.words ∙ length-map-range_with_len (λ cell. emitted (alone program inputs k.streams cell)) 0 (length program.cells)
          in
          let mine = emitted_in_runs words cap f.run f.last m enough f.is in
          let theirs = emitted_in_runs others cap f.run f.last o enough f.is in
          let each : (c : ℕ) → c < length others → get_or others c [] ≡ get_or words c [] =
          λ c h.
          let inside : c < cell_count program.grid = omega (arith, h, long others o, sound.all) in
          sym (theirs.whole f.finished c inside) ∙ mine.whole f.finished c inside
          in
          ext_get_or [] others words (long others o ∙ sym (long words m)) each

      pub one_meaning : Alike program → cells_cost program ≤ STEPS → CellsCommunicate → ProgramsHaveSequences → OneMeanings
          → HasOneMeaning program inputs
      one_meaning alike within communicate sequences meanings =
          let m = meanings (image_of program labels) buffer (inputs_of inputs) regular counted in
          let is : IsMeaning program inputs (words_emitted program inputs m.streams) =
          record {
            streams = m.streams;
            agree = from_image alike within communicate sequences m.streams m.agree;
            words = refl;
          } in
          record {
            words = words_emitted program inputs m.streams;
            is = is;
            only = λ others o. same_words (words_emitted program inputs m.streams) others is o;
          }
