-- The first message without a label.
use Rattle.std.proofs.Common.{ℕ, zero, suc, ◌≡◌, ◌<◌, List, [], ◌∷◌, None, Some, is_some, length, map, take, get_or, sym, ap, ◌∙◌, arith}
use Rattle.std.specs.Prelude.{not, find, option_map, if◌then◌else◌}
use Rattle.cell_types.specs.declared.program.Message.{Message}
use Rattle.accept.specs.Labelled.{has_label, first_unlabelled}

-- a message without a label is the first one, where all messages before it have labels
pub first_without : (ms : List Message) (labels : List ℕ) (k : ℕ) (m : Message) → map (λ (n : Message). n.label) (take k ms) ≡ map Some labels
    → k < length ms → m ≡ get_or ms k m → m.label ≡ None → first_unlabelled ms ≡ Some m.name
first_without [] labels k m before inside at none = absurd (omega arith)
first_without (x ∷ xs) labels zero m before inside at none =
    ap (λ o. option_map (λ (n : Message). n.name) (if not (is_some o) then Some x else find (λ n. not (has_label n)) xs))
    (ap (λ (n : Message). n.label) (sym at) ∙ none)
    ∙ ap (λ (n : Message). Some n.name) (sym at)
first_without (x ∷ xs) [] (suc k) m before inside at none = absurd (cc)
first_without (x ∷ xs) (l ∷ ls) (suc k) m before inside at none =
    let first : x.label ≡ Some l = cc in
    let rest : map (λ (n : Message). n.label) (take k xs) ≡ map Some ls = cc in
    ap (λ o. option_map (λ (n : Message). n.name) (if not (is_some o) then Some x else find (λ n. not (has_label n)) xs)) first
    ∙ first_without xs ls k m rest (omega arith) at none
