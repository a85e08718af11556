-- A put on one sink leaves the other.
use Rattle.std.proofs.Common.{ℕ, List, [], Option, refl, inl, inr, arith}
use Rattle.std.proofs.KnownBytes.{Appends-nil, Keeps-refl}
use Rattle.systole_top.specs.Sides.{Stream, PutsOn, Reaches, WantsLast, WantsLastOfBoth}
use Rattle.systole_top.specs.declared.status.Status.{Status}

-- a sink on which nothing was put
abbrev pub untouched : Option (List ℕ) → ℕ → ℕ → Stream
untouched kept faults wants =
    record {
      told_before = kept;
      told_now = kept;
      faults_before = faults;
      faults_now = faults;
      wants_before = wants;
      wants_now = wants;
    }

pub reaches_out : (out : Stream) (kept : Option (List ℕ)) (faults wants : ℕ) (text : List ℕ) (wanted status : Status)
    → PutsOn out text wanted status → Reaches out (untouched kept faults wants) (record { status = wanted; out = text; err = [] }) status
reaches_out out kept faults wants text wanted status p =
    elim p [
      | inl put ↦ inl (put.0, put.1, Appends-nil kept)
      | inr rest ↦ elim rest [
        | inl failed ↦ inr (inl (failed.0, inl failed.1, failed.2, (0, Appends-nil kept)))
        | inr none ↦ inr (inr (none.0, none.1, Keeps-refl kept))
      ]
    ]

pub reaches_err : (err : Stream) (kept : Option (List ℕ)) (faults wants : ℕ) (text : List ℕ) (wanted status : Status)
    → PutsOn err text wanted status → Reaches (untouched kept faults wants) err (record { status = wanted; out = []; err = text }) status
reaches_err err kept faults wants text wanted status p =
    elim p [
      | inl put ↦ inl (put.0, Appends-nil kept, put.1)
      | inr rest ↦ elim rest [
        | inl failed ↦ inr (inl (failed.0, inr failed.1, (0, Appends-nil kept), failed.2))
        | inr none ↦ inr (inr (none.0, Keeps-refl kept, none.1))
      ]
    ]

-- a put that wanted memory is the only one where the other sink is left
pub alone : (sink : Stream) (kept : Option (List ℕ)) (faults wants : ℕ) (status : Status)
    → WantsLast sink status → WantsLastOfBoth sink (untouched kept faults wants) status
alone sink kept faults wants status last rose =
    let l = last rose in
    (l.0, l.1, record { told = Keeps-refl kept; faults = refl; wants = refl })

-- no put that wanted memory was made on a sink that is left
pub never : (sink : Stream) (kept : Option (List ℕ)) (faults wants : ℕ) (status : Status)
    → WantsLastOfBoth (untouched kept faults wants) sink status
never sink kept faults wants status rose = absurd (omega (arith, rose))
