-- What a cell alone says in its first communications, by what it reads among them.
use Rattle.std.proofs.Common.{◌≡◌, ℕ, zero, suc, ◌<◌, ℤ, List, [], ◌∷◌, ◌++◌, length, take, slice_get, append-nil, refl, sym, ap, ◌∙◌, inl, inr, arith}
use Rattle.std.proofs.lemmas.Bool.{cases_lt}
use Rattle.std.proofs.lemmas.List.{length-append, take_all, take_at}
use Rattle.std.proofs.lemmas.List.Elements.{recursion_from_All}
use Rattle.std.specs.List.{AllByRecursion}
use Rattle.std.specs.Option.{option_map_or}
use Rattle.std.specs.Prelude.{slice_index_or}
use Rattle.sys_base.specs.Communications.{Communication, Writes, Reads, Emits, times}
use Rattle.sys_base.specs.Held.{Streams, word_at}
use Rattle.cell_types.specs.Alike.{Alike, AlikeBlock}
use Rattle.cell_types.specs.Code.{CellCode, End, ProgramCode}
use Rattle.cell_types.specs.Communications.{block_communications, communications}
use Rattle.cell_types.specs.Resolved.{cell_with}
use Rattle.cell_types.specs.Solo.{Solo, code_of, emitted, opening, solo, written_to}
use Rattle.rendezvous.specs.OneMeaning.{ReadAlike, SaysAlike}
use Rattle.rendezvous.proofs.Adding.{Adds, adds_block, adds_nothing}
use Rattle.rendezvous.proofs.Counted.{words_both, words_in}
use Rattle.rendezvous.proofs.Parting.{Near, same_block}

-- the arms in a cell by its index, where those of all cells are alike
alike_at : (cells : List CellCode) (cell : ℕ) → AllByRecursion (λ (c : CellCode). AlikeBlock c.body) cells
    → AlikeBlock (slice_index_or cells cell (cell_with 0 End)).body
alike_at [] cell alike = tt
alike_at (c ∷ cells) zero alike = alike.0
alike_at (c ∷ cells) (suc cell) alike = alike_at cells cell alike.1

-- the communications of a cell by its index
made_at : (cells : List CellCode) (cell : ℕ)
    → block_communications (slice_index_or cells cell (cell_with 0 End)).body
    ≡ option_map_or (λ (c : CellCode). block_communications c.body) (slice_get cells cell) []
made_at [] cell = refl
made_at (c ∷ cells) zero = refl
made_at (c ∷ cells) (suc cell) = made_at cells cell

-- a cell of a program before its statements
abbrev pub start : ProgramCode → ℕ → Solo
start program cell = opening (code_of program cell).words (code_of program cell).counters

-- what a cell has said comes to this
pub adds_all : (program : ProgramCode) (cell : ℕ) (input : List ℤ) (v : Streams)
    → Adds (start program cell) (solo program cell input v)
adds_all program cell input v = adds_block cell input v (code_of program cell).body (start program cell)

module _ (program : ProgramCode) (cell : ℕ) (n : ℕ) (s : Solo)
    (p : Solo) (rest : List Communication) (begun : Adds (start program cell) p) (one : Adds p s)
    (whole : p.made ++ rest ≡ communications program cell) (long : length p.made ≡ n) where
  cut : take n (communications program cell) ≡ p.made
  cut = ap (take n) (sym whole) ∙ take_at p.made rest n long

  first_words : (m : ℕ) → take (times (Writes m) (take n (communications program cell))) (written_to m s) ≡ words_in m p.sent
  first_words m =
      let many : length (words_in m p.sent) ≡ times (Writes m) (take n (communications program cell)) =
      ap (λ xs. length (words_in m xs)) begun.sends ∙ begun.written m ∙ ap (times (Writes m)) (sym (cut ∙ begun.makes)) in
      ap (take (times (Writes m) (take n (communications program cell)))) (ap (words_in m) one.sends ∙ words_both m p.sent one.sent)
      ∙ take_at (words_in m p.sent) (words_in m one.sent) _ many

  first_emitted : take (times Emits (take n (communications program cell))) (emitted s) ≡ p.held.output
  first_emitted =
      let many : length p.held.output ≡ times Emits (take n (communications program cell)) =
      ap length begun.emits ∙ begun.emitted ∙ ap (times Emits) (sym (cut ∙ begun.makes)) in
      ap (take (times Emits (take n (communications program cell)))) one.emits ∙ take_at p.held.output one.output _ many

module _ (program : ProgramCode) (cell : ℕ) (input : List ℤ) (n : ℕ) (v w : Streams) (alike : Alike program)
    (reads : ReadAlike program cell n v w) where
  near : Near (communications program cell) n (start program cell) [] (solo program cell input v) (solo program cell input w)
  near =
      elim (cases_lt 0 n) as
      (λ _. Near (communications program cell) n (start program cell) [] (solo program cell input v) (solo program cell input w)) [
        | inl h ↦
            same_block (communications program cell) n (start program cell) cell input v w reads (code_of program cell).body
            (alike_at program.cells cell (recursion_from_All (λ (c : CellCode). AlikeBlock c.body) program.cells alike))
            [] (start program cell)
            (record {
              few = h;
              begun = adds_nothing (start program cell) (start program cell) refl refl refl;
              whole = append-nil (block_communications (code_of program cell).body) ∙ made_at program.cells cell;
            })
        | inr h ↦
            inr (record {
              at = start program cell;
              rest = communications program cell;
              begun = adds_nothing (start program cell) (start program cell) refl refl refl;
              whole = refl;
              long = omega arith;
              one = adds_all program cell input v;
              other = adds_all program cell input w;
            })
      ]

  says_alike : SaysAlike program cell input n v w
  says_alike =
      elim near as (λ _. SaysAlike program cell input n v w) [
        | inl e ↦
            record {
              writes = λ m. ap (λ s. take (times (Writes m) (take n (communications program cell))) (written_to m s)) e.0;
              emits = ap (λ s. take (times Emits (take n (communications program cell))) (emitted s)) e.0;
            }
        | inr p ↦
            record {
              writes = λ m.
                  first_words program cell n (solo program cell input v) p.at p.rest p.begun p.one p.whole p.long m
                  ∙ sym (first_words program cell n (solo program cell input w) p.at p.rest p.begun p.other p.whole p.long m);
              emits =
                  first_emitted program cell n (solo program cell input v) p.at p.rest p.begun p.one p.whole p.long
                  ∙ sym (first_emitted program cell n (solo program cell input w) p.at p.rest p.begun p.other p.whole p.long);
            }
      ]

-- a cell alone depends only on the words that it reads
pub needs_only : (program : ProgramCode) (cell : ℕ) (input : List ℤ) (n : ℕ) (v w : Streams) → Alike program
    → ReadAlike program cell n v w → SaysAlike program cell input n v w
needs_only program cell input n v w alike reads = says_alike program cell input n v w alike reads

-- it is the same where it reads the same words
pub same_alone : (program : ProgramCode) (cell : ℕ) (input : List ℤ) (v w : Streams) → Alike program
    → ((m k : ℕ) → k < times (Reads m) (communications program cell) → word_at v m k ≡ word_at w m k)
    → solo program cell input v ≡ solo program cell input w
same_alone program cell input v w alike reads =
    let total = communications program cell in
    let n = suc (length total) in
    let all : take n total ≡ total = take_all n total (omega arith) in
    elim (near program cell input n v w alike (λ m k below. reads m k (omega (arith, below, ap (times (Reads m)) all))))
    as (λ _. solo program cell input v ≡ solo program cell input w) [
      | inl e ↦ e.0
      | inr p ↦ absurd (omega (arith, p.long, ap length p.whole, length-append p.at.made p.rest))
    ]
