-- The words of the canonical text of the source of pairs keep the limits.
use Rattle.std.proofs.Common.{◌≡◌, ℕ, ◌+◌, ◌<◌, ◌++◌, Bool, true, false, List, [], ◌∷◌, refl, sym, subst, ap, ap₂, ◌∙◌, append_assoc, append-nil, arith, get_or}
use Rattle.std.specs.Prelude.{nat_eq, nat_lt, not, ◌&&◌, ◌||◌, if◌then◌else◌, IsTrue}
use Rattle.std.specs.Fmt.{digits}
use Rattle.std.specs.List.{flat_map, All}
use Rattle.std.proofs.lemmas.Bool.{eqb-true, false≢true}
use Rattle.std.proofs.lemmas.List.{map-append}
use Rattle.std.proofs.lemmas.List.Elements.{All-head, All-tail}
use Rattle.std.proofs.lemmas.List.FromFn.{get_or-range_with_len}
use Rattle.sys_base.specs.Groups.{below}
use Rattle.cell_lexer.specs.declared.limits.TheConstants.{PIECE_TOKENS, OPEN_BRACES}
use Rattle.cell_tree.specs.Canonical.{canonical_pieces}
use Rattle.cell_tree.specs.Pieces.{Piece, words_of}
use Rattle.cell_tree.specs.Printable.{is_opening, ends_run, runs_fit, open_after, braces_fit}
use Rattle.pair_gen.specs.Generated.{sender, receiver, source_of}
use Rattle.pair_gen.proofs.Below.{passes_below}
use Rattle.pair_laws.specs.bodies.Printed.{write_pieces, read_pieces, pair_pieces, head_pieces, last_pieces, paired_pieces, first_pieces, all_pieces}
use Rattle.pair_laws.proofs.Printed.{all_printed}

-- how long the run is after some words
abbrev run_after : ℕ → List (List ℕ) → ℕ
run_after run [] = run
run_after run (w ∷ ws) = if ends_run w then run_after 0 ws else run_after (run + 1) ws

-- how many braces are open after some words
abbrev opened : ℕ → List (List ℕ) → ℕ
opened count [] = count
opened count (w ∷ ws) = opened (open_after count w) ws

and_assoc : (a b c : Bool) → (a && (b && c)) ≡ ((a && b) && c)
and_assoc true b c = refl
and_assoc false b c = refl

runs_split : (run : ℕ) (ws rest : List (List ℕ)) → runs_fit run (ws ++ rest) ≡ (runs_fit run ws && runs_fit (run_after run ws) rest)
runs_split run [] rest = refl
runs_split run (w ∷ ws) rest =
    choice (ends_run w) (runs_split 0 ws rest) (runs_split (run + 1) ws rest)
  where
    choice : (b : Bool) → runs_fit 0 (ws ++ rest) ≡ (runs_fit 0 ws && runs_fit (run_after 0 ws) rest)
        → runs_fit (run + 1) (ws ++ rest) ≡ (runs_fit (run + 1) ws && runs_fit (run_after (run + 1) ws) rest)
        → (if b then runs_fit 0 (ws ++ rest) else (nat_lt run PIECE_TOKENS && runs_fit (run + 1) (ws ++ rest)))
        ≡ ((if b then runs_fit 0 ws else (nat_lt run PIECE_TOKENS && runs_fit (run + 1) ws)) && runs_fit (if b then run_after 0 ws else run_after (run + 1) ws) rest)
    choice true h k = h
    choice false h k = ap (λ c. nat_lt run PIECE_TOKENS && c) k ∙ and_assoc (nat_lt run PIECE_TOKENS) (runs_fit (run + 1) ws) _

braces_split : (count : ℕ) (ws rest : List (List ℕ)) → braces_fit count (ws ++ rest) ≡ (braces_fit count ws && braces_fit (opened count ws) rest)
braces_split count [] rest = refl
braces_split count (w ∷ ws) rest =
    ap (λ c. (nat_lt count OPEN_BRACES || not (is_opening w)) && c) (braces_split (open_after count w) ws rest)
    ∙ and_assoc (nat_lt count OPEN_BRACES || not (is_opening w)) (braces_fit (open_after count w) ws) _

-- Words that begin and end between runs and keep the limits, where this many braces are open before and after them.
record Fits (before behind : ℕ) (ws : List (List ℕ)) : Type 0 where
  pub runs : (rest : List (List ℕ)) → runs_fit 0 (ws ++ rest) ≡ runs_fit 0 rest
  pub braces : (rest : List (List ℕ)) → braces_fit before (ws ++ rest) ≡ braces_fit behind rest

-- what a test shows of some words
abbrev tidy : ℕ → ℕ → List (List ℕ) → Bool
tidy before behind ws =
    (runs_fit 0 ws && nat_eq (run_after 0 ws) 0) && (braces_fit before ws && nat_eq (opened before ws) behind)

and_both : (a b : Bool) → (a && b) ≡ true → (a ≡ true) × (b ≡ true)
and_both true true h = (refl, refl)
and_both true false h = (refl, h)
and_both false b h = absurd (false≢true h)

tested : (before behind : ℕ) (ws : List (List ℕ)) → tidy before behind ws ≡ true → Fits before behind ws
tested before behind ws h =
    let parts = and_both (runs_fit 0 ws && nat_eq (run_after 0 ws) 0) (braces_fit before ws && nat_eq (opened before ws) behind) h in
    let run = and_both (runs_fit 0 ws) (nat_eq (run_after 0 ws) 0) parts.0 in
    let brace = and_both (braces_fit before ws) (nat_eq (opened before ws) behind) parts.1 in
    record {
      runs = λ rest. runs_split 0 ws rest
          ∙ ap₂ (λ (b : Bool) (n : ℕ). b && runs_fit n rest) run.0 (eqb-true (run_after 0 ws) 0 run.1);
      braces = λ rest. braces_split before ws rest
          ∙ ap₂ (λ (b : Bool) (n : ℕ). b && braces_fit n rest) brace.0 (eqb-true (opened before ws) behind brace.1);
    }

-- Pieces whose words are such.
abbrev Keep : ℕ → ℕ → List Piece → Type 0
Keep before behind ps = Fits before behind (words_of ps)

-- some pieces and then others
joined : (a b c : ℕ) (ps qs : List Piece) → Keep a b ps → Keep b c qs → Keep a c (ps ++ qs)
joined a b c ps qs h k =
    let word : Piece → List ℕ = λ (piece : Piece). piece.word in
    let both : words_of (ps ++ qs) ≡ words_of ps ++ words_of qs = map-append word ps qs in
    subst (Fits a c) (sym both) (record {
      runs = λ rest. ap (runs_fit 0) (append_assoc (words_of ps) (words_of qs) rest) ∙ h.runs (words_of qs ++ rest) ∙ k.runs rest;
      braces = λ rest. ap (braces_fit a) (append_assoc (words_of ps) (words_of qs) rest) ∙ h.braces (words_of qs ++ rest) ∙ k.braces rest;
    })

no_pieces : (a : ℕ) → Keep a a []
no_pieces a = record { runs = λ rest. refl; braces = λ rest. refl }

-- ---- the lines

write_kept : (m : ℕ) → m < 24 → Keep 1 1 (write_pieces m)
unfolding digits
write_kept m within = tested 1 1 (words_of (write_pieces m)) (passes_below (λ k. tidy 1 1 (words_of (write_pieces k))) 24 m within refl)

read_kept : (m : ℕ) → m < 24 → Keep 1 1 (read_pieces m)
unfolding digits
read_kept m within = tested 1 1 (words_of (read_pieces m)) (passes_below (λ k. tidy 1 1 (words_of (read_pieces k))) 24 m within refl)

head_kept : (cell : ℕ) → cell < 16 → Keep 0 1 (head_pieces cell)
unfolding digits
head_kept cell within = tested 0 1 (words_of (head_pieces cell)) (passes_below (λ c. tidy 0 1 (words_of (head_pieces c))) 16 cell within refl)

last_kept : Keep 1 0 last_pieces
last_kept = tested 1 0 (words_of last_pieces) refl

first_kept : Keep 0 0 first_pieces
unfolding digits source_of
first_kept = tested 0 0 (words_of first_pieces) refl

one_if : (b : Bool) (ps : List Piece) → Keep 1 1 ps → Keep 1 1 (if b then ps else [])
one_if true ps h = h
one_if false ps h = no_pieces 1

pairs_kept : (cell : ℕ) (ms : List ℕ) → All (λ m. m < 24) ms → Keep 1 1 (flat_map (pair_pieces cell) ms)
pairs_kept cell [] known = no_pieces 1
pairs_kept cell (m ∷ ms) known =
    let within : m < 24 = All-head (λ k. k < 24) m ms known in
    joined 1 1 1 (pair_pieces cell m) (flat_map (pair_pieces cell) ms)
    (joined 1 1 1 (if nat_eq (sender m) cell then write_pieces m else []) (if nat_eq (receiver m) cell then read_pieces m else [])
    (one_if (nat_eq (sender m) cell) (write_pieces m) (write_kept m within))
    (one_if (nat_eq (receiver m) cell) (read_pieces m) (read_kept m within)))
    (pairs_kept cell ms (All-tail (λ k. k < 24) m ms known))

cell_kept : (ms : List ℕ) → All (λ m. m < 24) ms → (cell : ℕ) → cell < 16 → Keep 0 0 (paired_pieces ms cell)
cell_kept ms known cell within =
    joined 0 1 0 (head_pieces cell) (flat_map (pair_pieces cell) ms ++ last_pieces) (head_kept cell within)
    (joined 1 1 0 (flat_map (pair_pieces cell) ms) last_pieces (pairs_kept cell ms known) last_kept)

cells_kept : (ms cells : List ℕ) → All (λ m. m < 24) ms → All (λ c. c < 16) cells → Keep 0 0 (flat_map (paired_pieces ms) cells)
cells_kept ms [] known few = no_pieces 0
cells_kept ms (c ∷ cs) known few =
    joined 0 0 0 (paired_pieces ms c) (flat_map (paired_pieces ms) cs) (cell_kept ms known c (All-head (λ k. k < 16) c cs few))
    (cells_kept ms cs known (All-tail (λ k. k < 16) c cs few))

pub below_sixteen : All (λ c. c < 16) (below 16)
below_sixteen i d within =
    let at : get_or (below 16) i d ≡ 0 + i = get_or-range_with_len 0 16 i d within in
    omega (arith, at, within)

all_kept : (ms : List ℕ) → All (λ m. m < 24) ms → Keep 0 0 (all_pieces ms)
all_kept ms known =
    joined 0 0 0 first_pieces (flat_map (paired_pieces ms) (below 16)) first_kept (cells_kept ms (below 16) known below_sixteen)

-- the words keep the limit on runs
pub runs_kept : (ms : List ℕ) → All (λ m. m < 24) ms → IsTrue (runs_fit 0 (words_of (canonical_pieces (source_of ms))))
runs_kept ms known =
    let ws : List (List ℕ) = words_of (all_pieces ms) in
    ap (λ ps. runs_fit 0 (words_of ps)) (all_printed ms) ∙ ap (runs_fit 0) (sym (append-nil ws)) ∙ (all_kept ms known).runs []

-- and that on braces
pub braces_kept : (ms : List ℕ) → All (λ m. m < 24) ms → IsTrue (braces_fit 0 (words_of (canonical_pieces (source_of ms))))
braces_kept ms known =
    let ws : List (List ℕ) = words_of (all_pieces ms) in
    ap (λ ps. braces_fit 0 (words_of ps)) (all_printed ms) ∙ ap (braces_fit 0) (sym (append-nil ws)) ∙ (all_kept ms known).braces []
