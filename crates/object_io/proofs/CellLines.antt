-- The lines of cells are read back.
use Rattle.std.proofs.Common.{◌≡◌, ℕ, ◌+◌, ◌<◌, ◌^◌, List, [], ◌∷◌, ◌++◌, All, length, get_or, decimal, codes, refl, sym, ap, ◌∙◌, arith, true≢false, append_assoc}
use Rattle.std.specs.List.{flat_map, enumerate_from}
use Rattle.std.proofs.lemmas.List.Elements.{All-head, All-tail}
use Rattle.cell_code.specs.declared.image.CellImage.{CellImage}
use Rattle.cell_code.specs.declared.instruction.Instr.{Instr}
use Rattle.object_io.specs.Objects.{cell_line, cell_lines, count_words, instruction_line, line, need_words}
use Rattle.object_io.specs.Sized.{IsSizedCell, IsSizedInstruction}
use Rattle.object_io.proofs.Instructions.{first, first_is_word, instruction_cut, line_is, not_cell, not_end, others, others_are_words, same}
use Rattle.object_io.proofs.LineWords.{line_cut}
use Rattle.object_io.proofs.Numbers.{given_is_word}
use Rattle.object_io.proofs.Parts.{Words, counted, given, no_words, number_same}

-- the text begins with no instruction
abbrev Stops : List ℕ → Type 0
Stops s = (y : Instr) (t : List ℕ) → IsSizedInstruction y → s ≡ instruction_line y ++ t → ⊥

code_cut : (xs ys : List Instr) (s t : List ℕ) → All IsSizedInstruction xs → All IsSizedInstruction ys → Stops s → Stops t
    → flat_map instruction_line xs ++ s ≡ flat_map instruction_line ys ++ t → (xs ≡ ys) × (s ≡ t)
code_cut [] [] s t h k stop stop_too e = (refl, e)
code_cut [] (y ∷ ys) s t h k stop stop_too e =
    absurd (stop y (flat_map instruction_line ys ++ t) (All-head IsSizedInstruction y ys k)
    (e ∙ append_assoc (instruction_line y) (flat_map instruction_line ys) t))
code_cut (x ∷ xs) [] s t h k stop stop_too e =
    absurd (stop_too x (flat_map instruction_line xs ++ s) (All-head IsSizedInstruction x xs h)
    (sym e ∙ append_assoc (instruction_line x) (flat_map instruction_line xs) s))
code_cut (x ∷ xs) (y ∷ ys) s t h k stop stop_too e =
    let lines = sym (append_assoc (instruction_line x) (flat_map instruction_line xs) s) ∙ e
    ∙ append_assoc (instruction_line y) (flat_map instruction_line ys) t in
    let cut = instruction_cut x y (flat_map instruction_line xs ++ s) (flat_map instruction_line ys ++ t)
    (All-head IsSizedInstruction x xs h) (All-head IsSizedInstruction y ys k) lines in
    let rest = code_cut xs ys s t (All-tail IsSizedInstruction x xs h) (All-tail IsSizedInstruction y ys k) stop stop_too cut.1 in
    (ap (λ z. z ∷ xs) cut.0 ∙ ap (λ zs. y ∷ zs) rest.0, rest.1)

abbrev cell_words : ℕ → CellImage → List (List ℕ)
cell_words n c = decimal n ∷ count_words c ++ need_words c

cell_is_words : (n : ℕ) (c : CellImage) → n < 2 ^ 64 → IsSizedCell c → Words (cell_words n c)
cell_is_words n c small s =
    let w10 = counted c.stack ([]) (omega (arith, s.stack)) no_words in
    let w9 = given (codes "stack") (decimal c.stack ∷ []) (given_is_word (codes "stack") refl) w10 in
    let w8 = counted c.counters (codes "stack" ∷ decimal c.stack ∷ []) (omega (arith, s.counters)) w9 in
    let w7 = given (codes "counters") (decimal c.counters ∷ codes "stack" ∷ decimal c.stack ∷ []) (given_is_word (codes "counters") refl) w8 in
    let w6 = counted c.words (codes "counters" ∷ decimal c.counters ∷ codes "stack" ∷ decimal c.stack ∷ []) (omega (arith, s.words)) w7 in
    let w5 = given (codes "words") (decimal c.words ∷ codes "counters" ∷ decimal c.counters ∷ codes "stack" ∷ decimal c.stack ∷ []) (given_is_word (codes "words") refl) w6 in
    let w4 = counted c.emits (codes "words" ∷ decimal c.words ∷ codes "counters" ∷ decimal c.counters ∷ codes "stack" ∷ decimal c.stack ∷ []) (omega (arith, s.emits)) w5 in
    let w3 = given (codes "emits") (decimal c.emits ∷ codes "words" ∷ decimal c.words ∷ codes "counters" ∷ decimal c.counters ∷ codes "stack" ∷ decimal c.stack ∷ []) (given_is_word (codes "emits") refl) w4 in
    let w2 = counted c.takes (codes "emits" ∷ decimal c.emits ∷ codes "words" ∷ decimal c.words ∷ codes "counters" ∷ decimal c.counters ∷ codes "stack" ∷ decimal c.stack ∷ []) (omega (arith, s.takes)) w3 in
    let w1 = given (codes "takes") (decimal c.takes ∷ codes "emits" ∷ decimal c.emits ∷ codes "words" ∷ decimal c.words ∷ codes "counters" ∷ decimal c.counters ∷ codes "stack" ∷ decimal c.stack ∷ []) (given_is_word (codes "takes") refl) w2 in
    counted n (codes "takes" ∷ decimal c.takes ∷ codes "emits" ∷ decimal c.emits ∷ codes "words" ∷ decimal c.words ∷ codes "counters" ∷ decimal c.counters ∷ codes "stack" ∷ decimal c.stack ∷ []) small w1

cell_same : (i j : ℕ) (c d : CellImage) → IsSizedCell c → IsSizedCell d → cell_words i c ≡ cell_words j d → c.code ≡ d.code → c ≡ d
cell_same i j c d s t e code =
    let takes = number_same (cell_words i c) (cell_words j d) 2 c.takes d.takes e refl refl (omega (arith, s.takes)) (omega (arith, t.takes)) in
    let emits = number_same (cell_words i c) (cell_words j d) 4 c.emits d.emits e refl refl (omega (arith, s.emits)) (omega (arith, t.emits)) in
    let words = number_same (cell_words i c) (cell_words j d) 6 c.words d.words e refl refl (omega (arith, s.words)) (omega (arith, t.words)) in
    let counters = number_same (cell_words i c) (cell_words j d) 8 c.counters d.counters e refl refl (omega (arith, s.counters)) (omega (arith, t.counters)) in
    let stack = number_same (cell_words i c) (cell_words j d) 10 c.stack d.stack e refl refl (omega (arith, s.stack)) (omega (arith, t.stack)) in
    let put : ℕ → ℕ → ℕ → ℕ → ℕ → List Instr → CellImage =
    λ a b w k p o. record { takes = a; emits = b; words = w; counters = k; stack = p; code = o } in
    ap (λ x. put x c.emits c.words c.counters c.stack c.code) takes ∙ ap (λ x. put d.takes x c.words c.counters c.stack c.code) emits
    ∙ ap (λ x. put d.takes d.emits x c.counters c.stack c.code) words ∙ ap (λ x. put d.takes d.emits d.words x c.stack c.code) counters
    ∙ ap (λ x. put d.takes d.emits d.words d.counters x c.code) stack ∙ ap (λ x. put d.takes d.emits d.words d.counters d.stack x) code

-- the cells from one on, and the last line
abbrev pub last_lines : ℕ → List CellImage → List ℕ
last_lines n xs = flat_map cell_lines (enumerate_from n xs) ++ line (codes "end") []

-- a cell and what follows
abbrev after_cell : ℕ → CellImage → List CellImage → List ℕ
after_cell n x xs = flat_map instruction_line x.code ++ last_lines (n + 1) xs

last_cons : (n : ℕ) (x : CellImage) (xs : List CellImage) → last_lines n (x ∷ xs) ≡ cell_line n x ++ after_cell n x xs
last_cons n x xs =
    append_assoc (cell_lines (n, x)) (flat_map cell_lines (enumerate_from (n + 1) xs)) (line (codes "end") [])
    ∙ append_assoc (cell_line n x) (flat_map instruction_line x.code) (last_lines (n + 1) xs)

last_stops : (n : ℕ) (xs : List CellImage) → n + length xs < 2 ^ 64 → All IsSizedCell xs → Stops (last_lines n xs)
last_stops n [] f h y t sized e =
    let lines : line (codes "end") [] ++ [] ≡ line (first y) (others y) ++ t = e ∙ ap (λ (l : List ℕ). l ++ t) (line_is y) in
    let cut = line_cut (codes "end") (first y) [] (others y) [] t (given_is_word (codes "end") refl) (first_is_word y) no_words
    (others_are_words y sized) lines in
    true≢false (ap (same (codes "end")) cut.0 ∙ not_end y)
last_stops n (x ∷ xs) f h y t sized e =
    let lines : line (codes "cell") (cell_words n x) ++ after_cell n x xs ≡ line (first y) (others y) ++ t =
    sym (last_cons n x xs) ∙ e ∙ ap (λ (l : List ℕ). l ++ t) (line_is y) in
    let cut = line_cut (codes "cell") (first y) (cell_words n x) (others y) (after_cell n x xs) t (given_is_word (codes "cell") refl)
    (first_is_word y) (cell_is_words n x (omega (arith, f)) (All-head IsSizedCell x xs h)) (others_are_words y sized) lines in
    true≢false (ap (same (codes "cell")) cut.0 ∙ not_cell y)

pub cells_same : (n : ℕ) (xs ys : List CellImage) → n + length xs < 2 ^ 64 → n + length ys < 2 ^ 64
    → All IsSizedCell xs → All IsSizedCell ys → last_lines n xs ≡ last_lines n ys → xs ≡ ys
cells_same n [] [] f g h k e = refl
cells_same n [] (y ∷ ys) f g h k e =
    let off : 101 ≡ 99 = ap (λ (l : List ℕ). get_or l 0 0) e in absurd (omega (arith, off))
cells_same n (x ∷ xs) [] f g h k e =
    let off : 99 ≡ 101 = ap (λ (l : List ℕ). get_or l 0 0) e in absurd (omega (arith, off))
cells_same n (x ∷ xs) (y ∷ ys) f g h k e =
    let own = All-head IsSizedCell x xs h in
    let its = All-head IsSizedCell y ys k in
    let small : n < 2 ^ 64 = omega (arith, f) in
    let more : n + 1 + length xs < 2 ^ 64 = omega (arith, f) in
    let more_too : n + 1 + length ys < 2 ^ 64 = omega (arith, g) in
    let lines = sym (last_cons n x xs) ∙ e ∙ last_cons n y ys in
    let cut = line_cut (codes "cell") (codes "cell") (cell_words n x) (cell_words n y) (after_cell n x xs) (after_cell n y ys)
    (given_is_word (codes "cell") refl) (given_is_word (codes "cell") refl) (cell_is_words n x small own) (cell_is_words n y small its) lines in
    let code = code_cut x.code y.code (last_lines (n + 1) xs) (last_lines (n + 1) ys) own.code its.code
    (last_stops (n + 1) xs more (All-tail IsSizedCell x xs h)) (last_stops (n + 1) ys more_too (All-tail IsSizedCell y ys k)) cut.2 in
    let one = cell_same n n x y own its cut.1 code.0 in
    ap (λ z. z ∷ xs) one
    ∙ ap (λ zs. y ∷ zs) (cells_same (n + 1) xs ys more more_too (All-tail IsSizedCell x xs h) (All-tail IsSizedCell y ys k) code.1)
