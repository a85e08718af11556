-- A new array is in the opening state.
use Rattle.std.proofs.Common.{◌≡◌, ℤ, ℕ, ◌*◌, ◌<◌, List, [], length, replicate, slice_index, refl, ap, sym, subst, ◌∙◌, arith, inl, inr}
use mathlib.Core.Path.{fun_ext}
use Rattle.std.proofs.lemmas.Bool.{cases_lt}
use Rattle.std.proofs.lemmas.List.{get_or-replicate, get_or_past, length-replicate}
use Rattle.cell_code.specs.Images.{IsShaped}
use Rattle.cell_code.specs.Rows.{opening_state}
use Rattle.cell_code.specs.declared.image.CellImage.{CellImage}
use Rattle.cell_code.specs.declared.image.Image.{Image}
use Rattle.cell_machine.specs.Machine.{IsReached as IsReachedMachine, Machine, new_machine}
use Rattle.array_model.specs.States.{cell_of, cells, opening}
use Rattle.link_queues.specs.Fabrics.{Queues, opening as no_queues, slice}
use Rattle.link_queues.specs.Keeping.{IsKept}
use Rattle.link_queues.specs.Standing.{StandsFor as QueuesStandFor}
use Rattle.link_queues.specs.Tables.{Laid, queues}
use Rattle.array_sim.specs.Simulations.{StandsFor, inputs_of, machine_at}
use Rattle.array_sim.specs.bodies.Inside.{IsArray}
use Rattle.array_sim.specs.bodies.Wiring.{IsWired, Wired}
use Rattle.array_sim.proofs.Words.{words_none}

-- ---- the queues and the peaks

pub no_peak : (n l : ℕ) → slice_index (replicate n 0) l ≡ 0
no_peak n l =
    elim (cases_lt l n) [
      | inl k ↦ get_or-replicate n l 0 0 k
      | inr g ↦ get_or_past (replicate n 0) l 0 (omega (arith, length-replicate {A = ℕ} n 0, g))
    ]

pub new_wired : (image : Image) (cap count : ℕ) (fabric : Laid) (peaks : List ℕ) → queues fabric ≡ no_queues image cap
    → IsKept (queues fabric) → count ≡ 4 * cells image → peaks ≡ replicate count 0
    → IsWired image (record { fabric = fabric; peaks = peaks })
new_wired image cap count fabric peaks after kept many zeros =
    record {
      image_is = ap (λ (q : Queues). q.image) after;
      kept = kept;
      links = ap length zeros ∙ length-replicate {A = ℕ} count 0 ∙ many;
      high = λ l k.
          omega (
            arith,
            words_none (queues fabric) l
                (λ m hop. subst (λ (q : Queues). slice q m hop ≡ []) (sym after) refl),
          );
    }

-- ---- the cells

module _ (image : Image) (shaped : IsShaped image) (machines : List Machine) (inputs : List (List ℤ))
    (many : length machines ≡ cells image) (lists : length inputs ≡ cells image)
    (new : (c : ℕ) → c < cells image → machine_at machines c ≡ new_machine c (cell_of image c)
    (inputs_of inputs c)) where
  pub states_open : (opening image).cell ≡ (λ c. (machine_at machines c).state)
  states_open =
      fun_ext (λ c. elim (cases_lt c (cells image)) [
        | inl k ↦ sym (ap (λ (m : Machine). m.state) (new c k))
        | inr g ↦
            ap (λ (i : CellImage). opening_state i.words i.counters)
            (get_or_past image.cells c _ (omega (arith, shaped.cells, g)))
            ∙ sym (ap (λ (m : Machine). m.state) (get_or_past machines c _ (omega (arith, many, g))))
      ])

  pub inputs_open : (λ c. (machine_at machines c).input) ≡ inputs_of inputs
  inputs_open =
      fun_ext (λ c. elim (cases_lt c (cells image)) [
        | inl k ↦ ap (λ (m : Machine). m.input) (new c k)
        | inr g ↦
            ap (λ (m : Machine). m.input) (get_or_past machines c _ (omega (arith, many, g)))
            ∙ sym (get_or_past inputs c [] (omega (arith, lists, g)))
      ])

  pub new_array : (w : Wired) → IsWired image w
      → ((c : ℕ) → c < cells image → IsReachedMachine (cell_of image c) (machine_at machines c))
      → IsArray (record { image = image; cells = machines; fabric = w.fabric; peaks = w.peaks })
  new_array w wired reached =
      record {
        shaped = shaped;
        wired = wired;
        machines = many;
        numbers = λ c k. ap (λ (m : Machine). m.cell) (new c k);
        reached = reached;
      }

  pub new_stands : (w : Wired) → QueuesStandFor (queues w.fabric) (opening image)
      → StandsFor (record { image = image; cells = machines; fabric = w.fabric; peaks = w.peaks }) (opening image)
  new_stands w stands = record { cells = states_open; queues = stands }
