-- The definitions, computed on one message of one word from one cell to the next.
use Rattle.std.proofs.Common.{◌≡◌, ℕ, zero, suc, ◌<◌, ◌-◌, ◌%◌, true, false, ℤ, pos, List, []}
use Rattle.std.proofs.Common.{◌∷◌, ◌++◌, Option, Some, None, length, slice_get, slice_index_or, Contains}
use Rattle.std.proofs.Common.{refl, subst, ap, arith}
use Rattle.std.specs.Prelude.{codes, slice_index}
use Rattle.std.specs.Fmt.{digits}
use Rattle.std.specs.Option.{option_and_then, unwrap_or}
use Rattle.std.proofs.lemmas.Option.{option_and_then_some, same_Some}
use Rattle.json.specs.Print.{escape_byte}
use Rattle.rand_core.specs.Pcg32Seed.{pcg32_seed}
use Rattle.rand_core.specs.Steps.{u32_at, word_bytes}
use Rattle.rand_pcg.specs.Lcg.{Lcg}
use Rattle.rand_pcg.specs.Pcg.{pcg32, pcg32_of_seed}
use Rattle.sys_base.specs.Names.{cell_text, link_text}
use Rattle.sys_base.specs.declared.actor.Actor.{Actor}
use Rattle.sys_base.specs.declared.actor.Actor.TheVariants.{Cell, Forward, Bind}
use Rattle.sys_base.specs.declared.word.Word.TheVariants.{Num}
use Rattle.cell_code.specs.declared.image.CellImage.{CellImage}
use Rattle.cell_code.specs.declared.image.Image.{Image}
use Rattle.cell_code.specs.declared.instruction.Instr.TheVariants.{Push, Load, Write, Read, Emit, Halt}
use Rattle.array_model.specs.Runs.{IsFinished, after}
use Rattle.array_model.specs.States.{ArrayState, opening}
use Rattle.array_model.specs.Steps.{enabled, step}
use Rattle.array_sim.specs.Simulations.{inputs_of}
use Rattle.schedules.specs.Entries.{IsMalformed, IsShort}
use Rattle.schedules.specs.declared.chooser.Pick.{Pick}
use Rattle.schedules.specs.declared.chooser.Pick.TheVariants.{At}
use Rattle.schedules.specs.declared.recorded.Standing.TheVariants as S
use Rattle.schedules.specs.Picks.{PicksDrawn, PicksRound, round_place}
use Rattle.schedules.specs.declared.sides.High.{High as TheHigh}
use Rattle.schedules.specs.declared.sides.Low.{Low as TheLow}
use Rattle.stream_io.specs.Results.{line_of, result_data}
use Rattle.stream_io.specs.declared.report.Report.{Report}
use Rattle.array_picks.specs.Picked.{PicksRun}
use Rattle.array_picks.specs.Replays.{PicksNext}
use Rattle.run_words.specs.Answers.{AnswersRun, Breaks, ReadsSchedule, bad, capacity, told}
use Rattle.run_words.specs.Results.{Tells}
use Rattle.run_words.specs.Schedules.{PicksFirst, PicksLast, Low, High, Round, Seeded, Recorded}
use Rattle.run_words.specs.Schedules.{Finished, Unfinished, NotEnabled}
use Rattle.run_words.specs.declared.verdict.RunVerdict.TheVariants as Verdict

-- cell 0 writes 7
abbrev writer : CellImage
writer =
    record {
      takes = 0;
      emits = 0;
      words = 0;
      counters = 0;
      stack = 1;
      code = Push (pos 7) ∷ Write 0 ∷ Halt ∷ [];
    }

-- cell 1 reads and emits it
abbrev reader : CellImage
reader =
    record {
      takes = 0;
      emits = 1;
      words = 1;
      counters = 0;
      stack = 1;
      code = Read 0 0 ∷ Load 0 ∷ Emit ∷ Halt ∷ [];
    }

abbrev one_word : Image
one_word =
    record {
      grid = record { rows = 1; cols = 2 };
      buffer = 0;
      bound = 6;
      messages = record { from = 0; to = 1; length = 1; label = 0; route = 1 ∷ [] } ∷ [];
      links = record { link = 1; queues = 1; groups = record { label = 0; members = 0 ∷ [] } ∷ [] } ∷ [];
      cells = writer ∷ reader ∷ [];
    }

-- no cell takes a word
abbrev nothing : List (List ℤ)
nothing = [] ∷ [] ∷ []

-- the state after some steps, with a capacity of 1
abbrev left : List Actor → ArrayState
left run = unwrap_or (after one_word (inputs_of nothing) 1 (opening one_word) run) (opening one_word)

abbrev whole : List Actor
whole = Cell 0 ∷ Bind 1 ∷ Cell 0 ∷ Cell 1 ∷ Cell 1 ∷ Cell 1 ∷ []

-- ---- a whole run

finished : IsFinished one_word (left whole)
finished zero below = refl
finished (suc zero) below = refl
finished (suc (suc c)) below = absurd (omega (arith, below))

abbrev whole_report : Report
whole_report =
    record {
      finished = true;
      next = None;
      outputs = record { cells = [] ∷ (Num (pos 7) ∷ []) ∷ [] };
      emits = 0 ∷ 1 ∷ [];
      peaks = (1, 1) ∷ [];
      steps = 6;
    }

tells_whole : Tells one_word (inputs_of nothing) 1 whole (left whole) whole_report
tells_whole =
    record {
      finished = (λ yes. finished, λ ended. refl);
      next = refl;
      outputs = refl;
      emits = refl;
      peaks = refl;
      steps = refl;
    }

-- the result line of a finished run
abbrev done_line : List ℕ
done_line = codes "{\"finished\":true,\"outputs\":{\"0.1\":[7]},\"peaks\":{\"0.0E\":1},\"steps\":6}\n"

whole_line : line_of (result_data one_word.grid whole_report) ≡ done_line
unfolding escape_byte cell_text digits link_text
whole_line = refl

-- ---- built-in schedules

-- a run of so many steps by a schedule whose places are computed: the state before, and the schedule's value
module _ {S : Type 0} (choose : S → List Actor → ℕ × S) where
  walk : ℕ → ArrayState → S → Option (List Actor × ArrayState × S)
  walk zero s value = Some ([], s, value)
  walk (suc n) s value =
      let pick : ℕ × S = choose value (enabled one_word (inputs_of nothing) 1 s) in
      option_and_then (λ (actor : Actor).
      option_and_then (λ (next : ArrayState).
      option_and_then (λ (more : List Actor × ArrayState × S). Some (actor ∷ more.0, more.1, more.2))
      (walk n next pick.1))
      (step one_word (inputs_of nothing) 1 s actor))
      (slice_get (enabled one_word (inputs_of nothing) 1 s) pick.0)

  module _ (picks : S → List Actor → Pick → S → Type 0)
      (each : (value : S) (list : List Actor)
      → picks value list (At (choose value list).0) (choose value list).1) where
    Walks : ArrayState → S → List Actor × ArrayState × S → Type 0
    Walks s value r = PicksRun picks one_word (inputs_of nothing) 1 s value r.0 r.1 r.2

    walked : (n : ℕ) (s : ArrayState) (value : S) (r : List Actor × ArrayState × S) → walk n s value ≡ Some r
        → Walks s value r
    unfolding walk Walks
    walked zero s value r e = subst (Walks s value) (same_Some _ _ e) (refl, refl)
    walked (suc n) s value r e =
        let list : List Actor = enabled one_word (inputs_of nothing) 1 s in
        let pick : ℕ × S = choose value list in
        option_and_then_some _ (slice_get list pick.0) r e (λ actor there more.
        option_and_then_some _ (step one_word (inputs_of nothing) 1 s actor) r more (λ next moves rest.
        option_and_then_some _ (walk n next pick.1) r rest (λ later goes same.
        subst (Walks s value) (same_Some _ _ same) (
          next,
          pick.1,
          record { place = pick.0; picked = each value list; there = there; moves = moves },
          walked n next pick.1 later goes,
        ))))

-- the lowest actor first: the run is finished, and its record follows its result line
low_recorded : (low : TheLow)
    → AnswersRun one_word 1 true nothing Low
    (told Verdict.Done (done_line ++ codes "c0\nb1\nc0\nc1\nc1\nc1\n"))
unfolding escape_byte cell_text digits link_text walk Walks
low_recorded low = (
  whole,
  left whole,
  Finished,
  (
    refl,
    low,
    low,
    record {
      picked = walked (λ v list. (0, v)) PicksFirst (λ v list. refl) 6 (opening one_word) low
          (whole, left whole, low) refl;
      ended = refl;
    },
  ),
  (line_of (result_data one_word.grid whole_report), (whole_report, tells_whole, refl), refl),
)

-- the highest actor first: the link is bound before anything is written
abbrev bound_first : List Actor
bound_first = Bind 1 ∷ Cell 0 ∷ Cell 0 ∷ Cell 1 ∷ Cell 1 ∷ Cell 1 ∷ []

bound_finished : IsFinished one_word (left bound_first)
bound_finished zero below = refl
bound_finished (suc zero) below = refl
bound_finished (suc (suc c)) below = absurd (omega (arith, below))

tells_bound_first : Tells one_word (inputs_of nothing) 1 bound_first (left bound_first) whole_report
tells_bound_first =
    record {
      finished = (λ yes. bound_finished, λ ended. refl);
      next = refl;
      outputs = refl;
      emits = refl;
      peaks = refl;
      steps = refl;
    }

high_recorded : (high : TheHigh)
    → AnswersRun one_word 1 true nothing High
    (told Verdict.Done (done_line ++ codes "b1\nc0\nc0\nc1\nc1\nc1\n"))
unfolding escape_byte cell_text digits link_text walk Walks
high_recorded high = (
  bound_first,
  left bound_first,
  Finished,
  (
    refl,
    high,
    high,
    record {
      picked = walked (λ v list. (length list - 1, v)) PicksLast (λ v list. refl) 6 (opening one_word) high
          (bound_first, left bound_first, high) refl;
      ended = refl;
    },
  ),
  (line_of (result_data one_word.grid whole_report), (whole_report, tells_bound_first, refl), refl),
)

-- round: after cell 0 it is the turn of the link
round_recorded : AnswersRun one_word 1 true nothing Round
    (told Verdict.Done (done_line ++ codes "c0\nb1\nc0\nc1\nc1\nc1\n"))
unfolding escape_byte cell_text digits link_text walk Walks
round_recorded = (
  whole,
  left whole,
  Finished,
  (
    refl,
    Some (Cell 1),
    record {
      picked = walked (λ v list. (round_place v list, slice_get list (round_place v list))) PicksRound
          (λ v list. record { place = refl; taken = refl }) 6 (opening one_word) None
          (whole, left whole, Some (Cell 1)) refl;
      ended = refl;
    },
  ),
  (line_of (result_data one_word.grid whole_report), (whole_report, tells_whole, refl), refl),
)

-- the generator of a seed after so many draws
abbrev drawn : ℕ → ℕ → Lcg
drawn seed zero = pcg32_of_seed (pcg32_seed 16 seed)
drawn seed (suc n) = (pcg32 (drawn seed n)).1

-- the first word that seed 7 draws is odd, and so it takes the second of the two that are enabled
seven_recorded : AnswersRun one_word 1 true nothing (Seeded 7)
    (told Verdict.Done (done_line ++ codes "b1\nc0\nc0\nc1\nc1\nc1\n"))
unfolding escape_byte cell_text digits link_text walk Walks pcg32_seed word_bytes u32_at
seven_recorded = (
  bound_first,
  left bound_first,
  Finished,
  (
    refl,
    drawn 7 6,
    record {
      picked = walked (λ v list. ((pcg32 v).0 % length list, (pcg32 v).1)) PicksDrawn
          (λ v list. record { place = refl; drawn = refl }) 6 (opening one_word) (drawn 7 0)
          (bound_first, left bound_first, drawn 7 6) refl;
      ended = refl;
    },
  ),
  (line_of (result_data one_word.grid whole_report), (whole_report, tells_bound_first, refl), refl),
)

-- ---- entries

-- a run of so many steps of the first actor, as entries with these behind them
walked_entries : (n : ℕ) (s : ArrayState) (rest : List Actor) (r : List Actor × ArrayState × List Actor)
    → walk (λ value list. (0, value)) n s rest ≡ Some r
    → PicksRun PicksNext one_word (inputs_of nothing) 1 s (r.0 ++ rest) r.0 r.1 r.2
unfolding walk
walked_entries zero s rest r e =
    subst (λ (r : List Actor × ArrayState × List Actor).
    PicksRun PicksNext one_word (inputs_of nothing) 1 s (r.0 ++ rest) r.0 r.1 r.2) (same_Some _ _ e) (refl, refl)
walked_entries (suc n) s rest r e =
    option_and_then_some _ (slice_get (enabled one_word (inputs_of nothing) 1 s) 0) r e (λ actor there more.
    option_and_then_some _ (step one_word (inputs_of nothing) 1 s actor) r more (λ next moves goes.
    option_and_then_some _ (walk (λ value list. (0, value)) n next rest) r goes (λ later walks same.
    subst (λ (r : List Actor × ArrayState × List Actor).
    PicksRun PicksNext one_word (inputs_of nothing) 1 s (r.0 ++ rest) r.0 r.1 r.2) (same_Some _ _ same) (
      next,
      later.0 ++ rest,
      record {
        place = 0;
        picked = (actor, refl, record { here = there; first = λ k below. omega (arith, below) });
        there = there;
        moves = moves;
      },
      walked_entries n next rest later walks,
    ))))

abbrev all_but_one : List Actor
all_but_one = Cell 0 ∷ Bind 1 ∷ Cell 0 ∷ Cell 1 ∷ Cell 1 ∷ []

abbrev stopped_report : Report
stopped_report =
    record {
      finished = false;
      next = Some (Cell 1);
      outputs = record { cells = [] ∷ [] ∷ [] };
      emits = 0 ∷ 1 ∷ [];
      peaks = (1, 1) ∷ [];
      steps = 5;
    }

-- cell 1 is before its `halt`
unfinished : IsFinished one_word (left all_but_one) → ⊥
unfinished ended = cc (ended 1 (omega arith))

tells_stopped : Tells one_word (inputs_of nothing) 1 all_but_one (left all_but_one) stopped_report
tells_stopped =
    record {
      finished = (λ yes. absurd (cc yes), λ ended. absurd (unfinished ended));
      next = refl;
      outputs = refl;
      emits = refl;
      peaks = refl;
      steps = refl;
    }

-- all entries ran and the run is not finished
one_step_short : AnswersRun one_word 1 false nothing (Recorded all_but_one)
    (told Verdict.Unfinished
    (codes "{\"finished\":false,\"next\":\"c1\",\"outputs\":{\"0.1\":[]},\"peaks\":{\"0.0E\":1},\"steps\":5}\n"))
unfolding escape_byte cell_text digits link_text walk
one_step_short = (
  all_but_one,
  left all_but_one,
  Unfinished,
  (
    [],
    S.Ended,
    record {
      taken = walked_entries 5 (opening one_word) [] (all_but_one, left all_but_one, []) refl;
      ends = (omega arith, refl);
    },
    refl,
  ),
  (line_of (result_data one_word.grid stopped_report), (stopped_report, tells_stopped, refl), refl),
)

-- the second of these is not enabled
not_there : Contains (Bind 1 ∷ []) (Cell 0) → ⊥
not_there found = at found.0 found.1 found.2 where
  at : (k : ℕ) → k < 1 → slice_index_or (Bind 1 ∷ []) k (Cell 0) ≡ Cell 0 → ⊥
  at zero below same = cc
  at (suc k) below same = omega (arith, below)

second_refused : AnswersRun one_word 1 true nothing (Recorded (Cell 0 ∷ Cell 0 ∷ []))
    (bad (codes "schedule: entry 2 is not enabled\n"))
unfolding digits walk
second_refused = (
  Cell 0 ∷ [],
  left (Cell 0 ∷ []),
  NotEnabled 2,
  (
    Cell 0 ∷ [],
    S.NotEnabled 2,
    record {
      taken = walked_entries 1 (opening one_word) (Cell 0 ∷ []) (Cell 0 ∷ [], left (Cell 0 ∷ []), Cell 0 ∷ []) refl;
      ends = (omega arith, refl, Cell 0, refl, not_there);
    },
    refl,
  ),
  refl,
)

-- an entry behind the end of the run is not enabled
seventh_refused : AnswersRun one_word 1 true nothing (Recorded (whole ++ Cell 0 ∷ []))
    (bad (codes "schedule: entry 7 is not enabled\n"))
unfolding digits walk
seventh_refused = (
  whole,
  left whole,
  NotEnabled 7,
  (
    Cell 0 ∷ [],
    S.Running,
    record {
      taken = walked_entries 6 (opening one_word) (Cell 0 ∷ []) (whole, left whole, Cell 0 ∷ []) refl;
      ends = refl;
    },
    refl,
  ),
  refl,
)

-- nothing ran
abbrev first_report : Report
first_report =
    record {
      finished = false;
      next = Some (Cell 0);
      outputs = record { cells = [] ∷ [] ∷ [] };
      emits = 0 ∷ 1 ∷ [];
      peaks = (1, 0) ∷ [];
      steps = 0;
    }

tells_first : Tells one_word (inputs_of nothing) 1 [] (left []) first_report
tells_first =
    record {
      finished = (λ yes. absurd (cc yes), λ ended. absurd (cc (ended 0 (omega arith))));
      next = refl;
      outputs = refl;
      emits = refl;
      peaks = refl;
      steps = refl;
    }

no_entries : AnswersRun one_word 1 true nothing (Recorded [])
    (told Verdict.Unfinished
    (codes "{\"finished\":false,\"next\":\"c0\",\"outputs\":{\"0.1\":[]},\"peaks\":{\"0.0E\":0},\"steps\":0}\n"))
unfolding escape_byte cell_text digits link_text
no_entries = (
  [],
  left [],
  Unfinished,
  ([], S.Ended, record { taken = (refl, refl); ends = (omega arith, refl) }, refl),
  (line_of (result_data one_word.grid first_report), (first_report, tells_first, refl), refl),
)

-- the capacity is at least the buffer of the image
at_least_the_buffer : capacity (record one_word { buffer = 3 }) 1 ≡ 3
at_least_the_buffer = refl

as_asked : capacity (record one_word { buffer = 3 }) 64 ≡ 64
as_asked = refl

-- ---- texts

too_long_schedule : ReadsSchedule None (Breaks (codes "schedule: longer than 268435456 bytes\n"))
unfolding digits
too_long_schedule = refl

-- the second line begins with no letter of an entry
second_malformed : ReadsSchedule (Some (codes "c0\nd1\n")) (Breaks (codes "schedule: line 2 is malformed\n"))
unfolding digits
second_malformed = (
  2,
  (Cell 0 ∷ [], codes "d1", [], refl, record { texts = refl; short = short_first; malformed = malformed }),
  refl,
) where
  short_first : (k : ℕ) (d : Actor) → k < 1 → IsShort (slice_index_or (Cell 0 ∷ []) k d)
  short_first zero d below = omega arith
  short_first (suc k) d below = absurd (omega (arith, below))

  malformed : IsMalformed (codes "d1")
  malformed (Cell c) short same = omega (arith, ap (λ (l : List ℕ). slice_index l 0) same)
  malformed (Forward m hop) short same = omega (arith, ap (λ (l : List ℕ). slice_index l 0) same)
  malformed (Bind l) short same = omega (arith, ap (λ (l : List ℕ). slice_index l 0) same)
