-- Each schedule makes just one run.
use Rattle.std.proofs.Common.{ℕ, List, None, length, refl}
use Rattle.rand_core.specs.Pcg32Seed.{pcg32_seed}
use Rattle.rand_pcg.specs.Lcg.{Lcg}
use Rattle.rand_pcg.specs.Pcg.{pcg32_of_seed}
use Rattle.sys_base.specs.declared.actor.Actor.{Actor}
use Rattle.cell_code.specs.declared.image.Image.{Image}
use Rattle.array_model.specs.States.{Inputs}
use Rattle.schedules.specs.Picks.{PicksDrawn, PicksRound}
use Rattle.array_picks.specs.Picked.{PicksOneRun}
use Rattle.array_picks.specs.Replays.{ReplaysOnce}
use Rattle.run_words.specs.Once.{MakesOneRun}
use Rattle.run_words.specs.Schedules.{PicksFirst, PicksLast, Schedule, Low, High, Round, Seeded, Recorded}
use Rattle.run_words.specs.Schedules.{Finished, ending_of}

module _ (image : Image) (inputs : Inputs) (cap : ℕ) where
  low : PicksOneRun PicksFirst image inputs cap (record {}) → MakesOneRun image inputs cap Low
  low one =
      record {
        run = one.run;
        last = one.last;
        ending = Finished;
        makes = (refl, record {}, one.left, one.whole);
        only = λ others end how m. let o = one.only others end m.2 m.3 in (o.0, o.1, m.0);
      }

  high : PicksOneRun PicksLast image inputs cap (record {}) → MakesOneRun image inputs cap High
  high one =
      record {
        run = one.run;
        last = one.last;
        ending = Finished;
        makes = (refl, record {}, one.left, one.whole);
        only = λ others end how m. let o = one.only others end m.2 m.3 in (o.0, o.1, m.0);
      }

  round : PicksOneRun PicksRound image inputs cap None → MakesOneRun image inputs cap Round
  round one =
      record {
        run = one.run;
        last = one.last;
        ending = Finished;
        makes = (refl, one.left, one.whole);
        only = λ others end how m. let o = one.only others end m.1 m.2 in (o.0, o.1, m.0);
      }

  seeded : (seed : ℕ) → PicksOneRun PicksDrawn image inputs cap (pcg32_of_seed (pcg32_seed 16 seed))
      → MakesOneRun image inputs cap (Seeded seed)
  seeded seed one =
      record {
        run = one.run;
        last = one.last;
        ending = Finished;
        makes = (refl, one.left, one.whole);
        only = λ others end how m. let o = one.only others end m.1 m.2 in (o.0, o.1, m.0);
      }

  recorded : (list : List Actor) → ReplaysOnce image inputs cap list → MakesOneRun image inputs cap (Recorded list)
  recorded list one =
      record {
        run = one.run;
        last = one.last;
        ending = ending_of (length one.run) one.left one.reason;
        makes = (one.left, one.reason, one.replays, refl);
        only = λ others end how m.
            let o = one.only others end m.0 m.1 m.2 in
            (o.0, o.1, cc (o.0, o.2, o.3, m.3));
      }

  -- from what is known of the picks of each schedule, and of entries
  pub one_run : PicksOneRun PicksFirst image inputs cap (record {})
      → PicksOneRun PicksLast image inputs cap (record {})
      → PicksOneRun PicksRound image inputs cap None
      → ((generator : Lcg) → PicksOneRun PicksDrawn image inputs cap generator)
      → ((entries : List Actor) → ReplaysOnce image inputs cap entries)
      → (schedule : Schedule) → MakesOneRun image inputs cap schedule
  one_run first final turns draws entries Low = low first
  one_run first final turns draws entries High = high final
  one_run first final turns draws entries Round = round turns
  one_run first final turns draws entries (Seeded seed) = seeded seed (draws (pcg32_of_seed (pcg32_seed 16 seed)))
  one_run first final turns draws entries (Recorded list) = recorded list (entries list)
