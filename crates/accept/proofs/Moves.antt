-- How often words move, message by message.
use Rattle.std.proofs.Common.{◌≡◌, ℕ, ◌+◌, ◌-◌, ◌*◌, ◌<◌, ◌≤◌, [], length, get_or, slice_index, take, ap, sym, ◌∙◌, arith}
use Rattle.std.proofs.lemmas.List.{get_or-map, take_all}
use Rattle.std.proofs.lemmas.List.FromFn.{length-range_with_len, get_or-range_with_len, get_or-map-range_with_len}
use Rattle.std.proofs.lemmas.List.Sums.{sum_by_more}
use Rattle.std.proofs.lemmas.Nat.{mul-le}
use Rattle.std.specs.List.{sum_by}
use Rattle.cell_types.specs.Code.{ProgramCode}
use Rattle.cell_types.specs.Communications.{length_of}
use Rattle.cell_types.specs.Groups.{below, lengths_of, route, forwards}
use Rattle.cell_types.specs.declared.program.Message.{Message}
use Rattle.accept.proofs.Words.{HasShortRoutes}

-- how often the words of a message move
abbrev pub moves : ProgramCode → ℕ → ℕ
moves p m = length_of p m * (length (route p m) - 1)

-- how often the words of the first messages move
abbrev pub moves_before : ProgramCode → ℕ → ℕ
moves_before p i = sum_by (moves p) (take i (below (length p.messages)))

-- the route at a place is that of the message there
pub route_at : (p : ProgramCode) (i : ℕ) (message : Message) → i < length p.messages → message ≡ get_or p.messages i message
    → route p i ≡ message.route
route_at p i message within at =
    get_or-map (λ (m : Message). m.route) p.messages i message [] within ∙ ap (λ (m : Message). m.route) (sym at)

-- the moves before a message and those of its words are the moves before the next
pub moves_more : (p : ProgramCode) (i words : ℕ) (message : Message) → i < length p.messages
    → message ≡ get_or p.messages i message → words ≡ slice_index (lengths_of p) i
    → moves_before p i + words * (length message.route - 1) ≡ moves_before p (i + 1)
moves_more p i words message within at counted =
    let n = length p.messages in
    let long : words ≡ length_of p i = counted ∙ get_or-map-range_with_len (length_of p) 0 n i i 0 within (omega arith) in
    let far : route p i ≡ message.route = route_at p i message within at in
    let inside : i < length (below n) = omega (arith, length-range_with_len 0 n) in
    let place : get_or (below n) i 0 ≡ i = omega (arith, get_or-range_with_len 0 n i 0 within) in
    let more = sum_by_more (moves p) (below n) i 0 inside in
    cc

-- the moves before the end are those of all messages
pub moves_all : (p : ProgramCode) (i : ℕ) → length p.messages ≤ i → moves_before p i ≡ forwards p
moves_all p i past =
    ap (sum_by (moves p)) (take_all i (below (length p.messages)) (omega (arith, length-range_with_len 0 (length p.messages))))

-- the words of a message move at most so often over a short route
pub few_moves : (p : ProgramCode) (i words : ℕ) (message : Message) → HasShortRoutes p → i < length p.messages
    → message ≡ get_or p.messages i message → words < 4294967296 → words * (length message.route - 1) ≤ 1095216660225
few_moves p i words message short within at fits =
    let same = ap length (route_at p i message within at) in
    let most : words * (length message.route - 1) ≤ 4294967295 * 255 =
    mul-le words (length message.route - 1) 4294967295 255 (omega arith) (omega (arith, short i, same)) in
    omega (arith, most)
