-- Two images with one text are equal.
use Rattle.std.proofs.Common.{◌≡◌, ℕ, ◌+◌, ◌<◌, ◌≤◌, ◌^◌, List, [], ◌∷◌, ◌++◌, length, get_or, map, decimal, codes, refl, sym, ap, ◌∙◌, arith, append_assoc}
use Rattle.std.specs.List.{flat_map, enumerate_from}
use Rattle.std.proofs.lemmas.Nat.{mul-le}
use Rattle.sys_base.specs.Grid.{Extent, IsExtent}
use Rattle.sys_base.specs.declared.limits.TheConstants.{SIDE}
use Rattle.cell_code.specs.Images.{IsListed}
use Rattle.cell_code.specs.declared.image.CellImage.{CellImage}
use Rattle.cell_code.specs.declared.image.Image.{Image}
use Rattle.cell_code.specs.declared.image.LinkImage.{LinkImage}
use Rattle.cell_code.specs.declared.image.MessageImage.{MessageImage}
use Rattle.object_io.specs.Objects.{array_line, line, link_line, message_line, object_text}
use Rattle.object_io.specs.Sized.{IsSized}
use Rattle.object_io.proofs.CellLines.{cells_same, last_lines}
use Rattle.object_io.proofs.LineWords.{line_cut}
use Rattle.object_io.proofs.Numbers.{given_is_word}
use Rattle.object_io.proofs.Parts.{Words, counted, given, links_cut, messages_cut, no_words, number_same}

-- what stands behind the header, and behind the messages
abbrev links_on : Image → List ℕ
links_on i = flat_map link_line i.links ++ last_lines 0 i.cells

abbrev body : Image → List ℕ
body i = flat_map message_line (enumerate_from 0 i.messages) ++ links_on i

parts : (i : Image) → object_text i
    ≡ line (codes "systole") (map decimal (2 ∷ [])) ++ (array_line i.grid ++ (line (codes "buffer") (map decimal (i.buffer ∷ []))
    ++ (line (codes "bound") (map decimal (i.bound ∷ [])) ++ body i)))
parts i =
    let first = line (codes "systole") (map decimal (2 ∷ [])) in
    let array = array_line i.grid in
    let buffer = line (codes "buffer") (map decimal (i.buffer ∷ [])) in
    let bound = line (codes "bound") (map decimal (i.bound ∷ [])) in
    let messages = flat_map message_line (enumerate_from 0 i.messages) in
    let links = flat_map link_line i.links in
    go first array buffer bound messages links _ (line (codes "end") [])
  where
    go : (a b c d e f g h : List ℕ) → a ++ b ++ c ++ d ++ e ++ f ++ g ++ h ≡ a ++ (b ++ (c ++ (d ++ (e ++ (f ++ (g ++ h))))))
    go a b c d e f g h = simp append_assoc

-- ---- where the messages and the links end

last_apart : (n b : ℕ) (xs : List CellImage) → 104 ≤ b → get_or (last_lines n xs) 0 0 ≡ b → ⊥
last_apart n b [] high e = let off : 101 ≡ b = e in omega (arith, off, high)
last_apart n b (x ∷ xs) high e = let off : 99 ≡ b = e in omega (arith, off, high)

links_apart : (xs : List LinkImage) (cells : List CellImage) → get_or (flat_map link_line xs ++ last_lines 0 cells) 0 0 ≡ 109 → ⊥
links_apart [] cells e = last_apart 0 109 cells (omega arith) e
links_apart (x ∷ xs) cells e = let off : 108 ≡ 109 = e in omega (arith, off)

-- ---- the header

one_word : (n : ℕ) → n < 2 ^ 64 → Words (map decimal (n ∷ []))
one_word n small = counted n [] small no_words

array_words : (g : Extent) → IsExtent g → Words (decimal g.rows ∷ codes "x" ∷ decimal g.cols ∷ [])
array_words g is =
    let rows = is.most_rows in
    let cols = is.most_cols in
    let last = counted g.cols [] (omega (arith, cols)) no_words in
    let mid = given (codes "x") (decimal g.cols ∷ []) (given_is_word (codes "x") refl) last in
    counted g.rows (codes "x" ∷ decimal g.cols ∷ []) (omega (arith, rows)) mid

few_cells : (i : Image) → IsListed i → IsSized i → 0 + length i.cells < 2 ^ 64
few_cells i listed sized =
    let most = mul-le i.grid.rows i.grid.cols SIDE SIDE sized.grid.most_rows sized.grid.most_cols in
    let all = listed.cells in
    omega (arith, most, all)

few_messages : (i : Image) → IsListed i → 0 + length i.messages < 2 ^ 64
few_messages i listed = let most = listed.messages in omega (arith, most)

-- ---- the whole text

pub one_image : (a b : Image) → IsListed a → IsListed b → IsSized a → IsSized b → object_text a ≡ object_text b → a ≡ b
one_image a b la lb sa sb e =
    let whole = sym (parts a) ∙ e ∙ parts b in
    let version = line_cut (codes "systole") (codes "systole") (map decimal (2 ∷ [])) (map decimal (2 ∷ [])) _ _
    (given_is_word (codes "systole") refl) (given_is_word (codes "systole") refl) (one_word 2 (omega arith)) (one_word 2 (omega arith)) whole in
    let array = line_cut (codes "array") (codes "array") (decimal a.grid.rows ∷ codes "x" ∷ decimal a.grid.cols ∷ [])
    (decimal b.grid.rows ∷ codes "x" ∷ decimal b.grid.cols ∷ []) _ _ (given_is_word (codes "array") refl) (given_is_word (codes "array") refl)
    (array_words a.grid sa.grid) (array_words b.grid sb.grid) version.2 in
    let ab = sa.buffer in
    let bb = sb.buffer in
    let an = sa.bound in
    let bn = sb.bound in
    let buffers = line_cut (codes "buffer") (codes "buffer") (map decimal (a.buffer ∷ [])) (map decimal (b.buffer ∷ [])) _ _
    (given_is_word (codes "buffer") refl) (given_is_word (codes "buffer") refl) (one_word a.buffer (omega (arith, ab)))
    (one_word b.buffer (omega (arith, bb))) array.2 in
    let bounds = line_cut (codes "bound") (codes "bound") (map decimal (a.bound ∷ [])) (map decimal (b.bound ∷ [])) (body a) (body b)
    (given_is_word (codes "bound") refl) (given_is_word (codes "bound") refl) (one_word a.bound (omega (arith, an)))
    (one_word b.bound (omega (arith, bn))) buffers.2 in
    let ar = sa.grid.most_rows in
    let br = sb.grid.most_rows in
    let ac = sa.grid.most_cols in
    let bc = sb.grid.most_cols in
    let rows = number_same (decimal a.grid.rows ∷ codes "x" ∷ decimal a.grid.cols ∷ []) (decimal b.grid.rows ∷ codes "x" ∷ decimal b.grid.cols ∷ [])
    0 a.grid.rows b.grid.rows array.1 refl refl (omega (arith, ar)) (omega (arith, br)) in
    let cols = number_same (decimal a.grid.rows ∷ codes "x" ∷ decimal a.grid.cols ∷ []) (decimal b.grid.rows ∷ codes "x" ∷ decimal b.grid.cols ∷ [])
    2 a.grid.cols b.grid.cols array.1 refl refl (omega (arith, ac)) (omega (arith, bc)) in
    let buffer = number_same (map decimal (a.buffer ∷ [])) (map decimal (b.buffer ∷ [])) 0 a.buffer b.buffer buffers.1 refl refl
    (omega (arith, ab)) (omega (arith, bb)) in
    let bound = number_same (map decimal (a.bound ∷ [])) (map decimal (b.bound ∷ [])) 0 a.bound b.bound bounds.1 refl refl
    (omega (arith, an)) (omega (arith, bn)) in
    let messages = messages_cut 0 a.messages b.messages (links_on a) (links_on b) (few_messages a la) (few_messages b lb) sa.messages sb.messages
    (links_apart a.links a.cells) (links_apart b.links b.cells) bounds.2 in
    let links = links_cut a.links b.links (last_lines 0 a.cells) (last_lines 0 b.cells) sa.links sb.links
    (last_apart 0 108 a.cells (omega arith)) (last_apart 0 108 b.cells (omega arith)) messages.1 in
    let cells = cells_same 0 a.cells b.cells (few_cells a la sa) (few_cells b lb sb) sa.cells sb.cells links.1 in
    let put : ℕ → ℕ → ℕ → ℕ → List MessageImage → List LinkImage → List CellImage → Image =
    λ r c d n ms ls cs. record { grid = record { rows = r; cols = c }; buffer = d; bound = n; messages = ms; links = ls; cells = cs } in
    ap (λ x. put x a.grid.cols a.buffer a.bound a.messages a.links a.cells) rows
    ∙ ap (λ x. put b.grid.rows x a.buffer a.bound a.messages a.links a.cells) cols
    ∙ ap (λ x. put b.grid.rows b.grid.cols x a.bound a.messages a.links a.cells) buffer
    ∙ ap (λ x. put b.grid.rows b.grid.cols b.buffer x a.messages a.links a.cells) bound
    ∙ ap (λ x. put b.grid.rows b.grid.cols b.buffer b.bound x a.links a.cells) messages.0
    ∙ ap (λ x. put b.grid.rows b.grid.cols b.buffer b.bound b.messages x a.cells) links.0
    ∙ ap (λ x. put b.grid.rows b.grid.cols b.buffer b.bound b.messages b.links x) cells
