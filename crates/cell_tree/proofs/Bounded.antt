-- Pieces whose runs and braces fit, and what bounds that sets.
use Rattle.std.proofs.Common.{◌≡◌, ℕ, ◌+◌, ◌-◌, ◌≤◌, ◌<◌, ◌++◌, Bool, true, false, not, ◌&&◌, ◌||◌, IsTrue, List, [], ◌∷◌, length, max, subst, ap, ◌∙◌, arith, append_assoc}
use Rattle.std.specs.Prelude.{nat_lt, if◌then◌else◌, codes}
use Rattle.std.proofs.lemmas.Bool.{and_parts}
use Rattle.std.proofs.lemmas.Bool.Decides.{nat_tests}
use Rattle.cell_tree.specs.Pieces.{Piece, words_of, after, none}
use Rattle.cell_tree.specs.Printable.{is_opening, is_closing, runs_fit, open_after, braces_fit}
use Rattle.cell_tree.proofs.PlainWords.{IsPlain, no_opening, no_closing, AllPlain, plain_none, plain_next, Stretch}

-- The runs of the pieces' words fit, where the present run has this many words already.
abbrev pub Runs : ℕ → List Piece → Type 0
Runs run pieces = IsTrue (runs_fit run (words_of pieces))

-- The braces of the pieces' words fit, where this many are open before.
abbrev pub Braces : ℕ → List Piece → Type 0
Braces count pieces = IsTrue (braces_fit count (words_of pieces))

-- After plain pieces the run is longer by as many, and they fit in it.
record Behind (run : ℕ) (pieces rest : List Piece) : Type 0 where
  fits : Runs (run + length pieces) rest
  short : run + length pieces ≤ 256

-- a plain word makes the run longer by one
run_step : (word : List ℕ) (run : ℕ) (words : List (List ℕ)) → IsPlain word → IsTrue (runs_fit run (word ∷ words))
    → (run < 256) × IsTrue (runs_fit (run + 1) words)
run_step word run words p h =
    let e : (nat_lt run 256 && runs_fit (run + 1) words) ≡ true =
    subst (λ (b : Bool). IsTrue (if b then runs_fit 0 words else (nat_lt run 256 && runs_fit (run + 1) words))) p.ends h in
    let parts = and_parts (nat_lt run 256) (runs_fit (run + 1) words) e in
    let less = parts.0 in
    (grind (arith, nat_tests, less), parts.1)

-- plain pieces make the run longer by as many
plain_runs : (run : ℕ) {pieces : List Piece} (rest : List Piece) → AllPlain pieces → run ≤ 256 → Runs run (pieces ++ rest)
    → Behind run pieces rest
plain_runs run rest plain_none le h =
    record { fits = subst (λ (n : ℕ). Runs n rest) (omega arith) h; short = omega (arith, le) }
plain_runs run rest (plain_next {gap} {word} {pieces} w p) le h =
    let step = run_step word run (words_of (pieces ++ rest)) w h in
    let less = step.0 in
    let behind = plain_runs (run + 1) rest p (omega (arith, less)) step.1 in
    let short = behind.short in
    record { fits = subst (λ (n : ℕ). Runs n rest) (omega arith) behind.fits; short = omega (arith, short) }

-- the braces after a word
brace_step : (word : List ℕ) (count : ℕ) (words : List (List ℕ)) → IsTrue (braces_fit count (word ∷ words))
    → IsTrue (braces_fit (open_after count word) words)
brace_step word count words h = (and_parts (nat_lt count 17 || not (is_opening word)) (braces_fit (open_after count word) words) h).1

-- a plain word leaves the count of open braces
plain_open : (word : List ℕ) (count : ℕ) → IsPlain word → open_after count word ≡ count
plain_open word count p =
    ap (λ (b : Bool). if b then count + 1 else (if is_closing word then count - 1 else count)) (no_opening word p)
    ∙ ap (λ (b : Bool). if b then count - 1 else count) (no_closing word p)

-- so do plain pieces
plain_braces : (count : ℕ) {pieces : List Piece} (rest : List Piece) → AllPlain pieces → Braces count (pieces ++ rest) → Braces count rest
plain_braces count rest plain_none h = h
plain_braces count rest (plain_next {gap} {word} {pieces} w p) h =
    plain_braces count rest p
    (subst (λ (n : ℕ). Braces n (pieces ++ rest)) (plain_open word count w) (brace_step word count (words_of (pieces ++ rest)) h))

-- a brace that opens, where it fits
opening : (count : ℕ) (gap : List ℕ) (rest : List Piece) → Braces count (after gap (codes "{") ++ rest) → (count < 17) × Braces (count + 1) rest
opening count gap rest h =
    let parts = and_parts (nat_lt count 17 || false) (braces_fit (count + 1) (words_of rest)) h in
    let few = parts.0 in
    (grind (arith, nat_tests, few), parts.1)

-- Where a run begins, these pieces end one, and with them runs and braces fit only within these bounds.
pub record Bounded (stack loops : ℕ) (pieces : List Piece) : Type 0 where
  pub runs : (rest : List Piece) → Runs 0 (pieces ++ rest) → (stack ≤ 256) × Runs 0 rest
  pub braces : (count : ℕ) (rest : List Piece) → count ≤ 17 → Braces count (pieces ++ rest) → (loops + count ≤ 17) × Braces count rest

-- no pieces
pub bounded_none : Bounded 0 0 []
bounded_none = record { runs = λ rest h. (omega arith, h); braces = λ count rest le h. (omega (arith, le), h) }

-- pieces that end a run, after others that do
pub bounded_join : {a b k l : ℕ} {xs ys : List Piece} → Bounded a k xs → Bounded b l ys → Bounded (max a b) (max k l) (xs ++ ys)
bounded_join {a} {b} {k} {l} {xs} {ys} p q = record {
  runs = λ rest h.
      let one = p.runs (ys ++ rest) (subst (λ (zs : List Piece). Runs 0 zs) (append_assoc xs ys rest) h) in
      let two = q.runs rest one.1 in
      let few = one.0 in
      let less = two.0 in
      (omega (arith, few, less), two.1);
  braces = λ count rest le h.
      let one = p.braces count (ys ++ rest) le (subst (λ (zs : List Piece). Braces count zs) (append_assoc xs ys rest) h) in
      let two = q.braces count rest le one.1 in
      let few = one.0 in
      let less = two.0 in
      (omega (arith, few, less), two.1);
}

-- bounds that say less
pub bounded_less : {a b k l : ℕ} {xs : List Piece} → a ≤ b → k ≤ l → Bounded b l xs → Bounded a k xs
bounded_less {a} {b} {k} {l} few less p = record {
  runs = λ rest h. let one = p.runs rest h in let few_b = one.0 in (omega (arith, few, few_b), one.1);
  braces = λ count rest le h. let one = p.braces count rest le h in let less_l = one.0 in (omega (arith, less, less_l), one.1);
}

-- plain pieces and a semicolon
pub bounded_line : {n : ℕ} {pieces : List Piece} → Stretch n pieces → Bounded n 0 (pieces ++ after none (codes ";"))
bounded_line {n} {pieces} p =
    let mark : List Piece = after none (codes ";") in record {
      runs = λ rest h.
          let behind = plain_runs 0 (mark ++ rest) p.plain (omega arith)
          (subst (λ (zs : List Piece). Runs 0 zs) (append_assoc pieces mark rest) h) in
          let few = p.count in
          let short = behind.short in
          (omega (arith, few, short), behind.fits);
      braces = λ count rest le h. (
        omega (arith, le),
        brace_step (codes ";") count (words_of rest)
            (plain_braces count (mark ++ rest) p.plain (subst (λ (zs : List Piece). Braces count zs) (append_assoc pieces mark rest) h)),
      );
    }

-- plain pieces and a block
pub bounded_block : {n a k : ℕ} {head body : List Piece} (before behind : List ℕ) → Stretch n head → Bounded a k body
    → Bounded (max n a) (1 + k) (head ++ (after before (codes "{") ++ body ++ after behind (codes "}")))
bounded_block {n} {a} {k} {head} {body} gap end p q =
    let close : List Piece = after end (codes "}") in
    let whole : List Piece = after gap (codes "{") ++ body ++ close in record {
      runs = λ rest h.
          let behind = plain_runs 0 (whole ++ rest) p.plain (omega arith)
          (subst (λ (zs : List Piece). Runs 0 zs) (append_assoc head whole rest) h) in
          let inner = q.runs (close ++ rest) (subst (λ (zs : List Piece). Runs 0 zs) (append_assoc body close rest) behind.fits) in
          let few = p.count in
          let short = behind.short in
          let less = inner.0 in
          (omega (arith, few, short, less), inner.1);
      braces = λ count rest le h.
          let opened = opening count gap ((body ++ close) ++ rest)
          (plain_braces count (whole ++ rest) p.plain (subst (λ (zs : List Piece). Braces count zs) (append_assoc head whole rest) h)) in
          let room = opened.0 in
          let inner = q.braces (count + 1) (close ++ rest) (omega (arith, room))
          (subst (λ (zs : List Piece). Braces (count + 1) zs) (append_assoc body close rest) opened.1) in
          let less = inner.0 in
          let closed : Braces (count + 1 - 1) rest = brace_step (codes "}") (count + 1) (words_of rest) inner.1 in
          (omega (arith, less), subst (λ (m : ℕ). Braces m rest) (omega arith) closed);
    }
