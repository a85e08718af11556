-- Where the machine stops is the first word that can't stand where it stands.
use Rattle.std.proofs.Common.{◌≡◌, ℕ, ◌+◌, ◌-◌, ◌<◌, ◌≤◌, List, [], ◌∷◌, ◌++◌, length, take, suc, zero, Option, Some, None, Result, Ok, Err, sym, refl, ap, ◌∙◌, subst, arith, append_assoc, append-nil}
use Rattle.cell_tree.specs.declared.source.Source.{Source}
use Rattle.cell_parser.specs.FirstWrong.{Begins, FirstWrong}
use Rattle.cell_parser.specs.Grammar.{Reads}
use Rattle.cell_parser.specs.Lexeme.{Word, Lexeme, At}
use Rattle.cell_parser.specs.Inner.Machine.{State, Buffer, Links, Messages, Cells, at, finish, going, run, start}
use Rattle.cell_parser.proofs.Backward.{no_ok, one_ok, backward}
use Rattle.cell_parser.proofs.Endings.{Comes, ending, ending_comes}
use Rattle.cell_parser.proofs.Forward.{forward}

-- A run that leaves this many words can come to a source up to a place, and can't with the word there.
record Stops (state : State) (ts : List Lexeme) (left : ℕ) : Type 0 where
  place : ℕ
  sum : place + left ≡ length ts
  ending_words : List Lexeme
  before : Comes state (take place ts ++ ending_words)
  wrong : 0 < left → (us : List Lexeme) → Comes state (take (suc place) ts ++ us) → ⊥

one_left : (m n : ℕ) → ◌≡◌ {A = Result Source ℕ} (Err m) (Err n) → m ≡ n
one_left m n e = ap left_or e
  where
    left_or : Result Source ℕ → ℕ
    left_or (Ok s) = 0
    left_or (Err n) = n

no_err : {A : Type 0} (s : Source) (n : ℕ) → ◌≡◌ {A = Result Source ℕ} (Ok s) (Err n) → A
no_err s n e = no_ok n s (sym e)

-- the run goes on with the next word
next_stops : (state next : State) (l : ℕ) (w : Word) (ts : List Lexeme) (left : ℕ) → at state l w ≡ Some next → Stops next ts left
    → Stops state (At l w ∷ ts) left
next_stops state next l w ts left e stops =
    record {
      place = suc stops.place;
      sum = omega (arith, stops.sum);
      ending_words = stops.ending_words;
      before = (stops.before.0, goes (take stops.place ts ++ stops.ending_words) ∙ stops.before.1);
      wrong = λ some us c. stops.wrong some us (c.0, sym (goes (take (suc stops.place) ts ++ us)) ∙ c.1);
    }
  where
    goes : (us : List Lexeme) → run state (At l w ∷ us) ≡ run next us
    goes us = ap (λ o. going o (λ state. run state us) (suc (length us))) e

-- the run has no next word
none_stops : (state : State) (l : ℕ) (w : Word) (ts : List Lexeme) (left : ℕ) → at state l w ≡ None → suc (length ts) ≡ left
    → Stops state (At l w ∷ ts) left
none_stops state l w ts left e is =
    record {
      place = 0;
      sum = omega (arith, is);
      ending_words = ending state;
      before = ending_comes state;
      wrong = λ some us c. no_ok (suc (length us)) c.0 (sym (goes us) ∙ c.1);
    }
  where
    goes : (us : List Lexeme) → run state (At l w ∷ us) ≡ Err (suc (length us))
    goes us = ap (λ o. going o (λ state. run state us) (suc (length us))) e

-- the words end here
end_stops : (state : State) (left : ℕ) → 0 ≡ left → Stops state [] left
end_stops state left is =
    record {
      place = 0;
      sum = omega (arith, is);
      ending_words = ending state;
      before = ending_comes state;
      wrong = λ some us c. absurd (omega (arith, is, some));
    }

end_left : (state : State) (left : ℕ) → finish state ≡ Err left → 0 ≡ left
end_left (Buffer f) left h = no_err (f 0 0) left h
end_left (Links s) left h = no_err s left h
end_left (Messages s) left h = no_err s left h
end_left (Cells s) left h = no_err s left h
end_left _ left h = one_left 0 left h

stepped : (state : State) (l : ℕ) (w : Word) (ts : List Lexeme) (left : ℕ) (o : Option State) → at state l w ≡ o
    → going o (λ next. run next ts) (suc (length ts)) ≡ Err left → ((next : State) → run next ts ≡ Err left → Stops next ts left)
    → Stops state (At l w ∷ ts) left
stepped state l w ts left (Some next) e h goes = next_stops state next l w ts left e (goes next h)
stepped state l w ts left None e h goes = none_stops state l w ts left e (one_left _ _ h)

stops : (ts : List Lexeme) (state : State) (left : ℕ) → run state ts ≡ Err left → Stops state ts left
stops [] state left h = end_stops state left (end_left state left h)
stops (At l w ∷ ts) state left h = stepped state l w ts left (at state l w) refl h (λ next g. stops ts next left g)

-- What the machine refuses is no source.
pub no_source : (ts : List Lexeme) (left : ℕ) → run start ts ≡ Err left → (s : Source) → Reads ts s → ⊥
no_source ts left h s r = no_ok left s (sym h ∙ forward r)

-- What the machine leaves are words of the list.
pub left_within : (ts : List Lexeme) (left : ℕ) → run start ts ≡ Err left → left ≤ length ts
left_within ts left h = let f = stops ts start left h in omega (arith, f.sum)

-- The machine stops at the first word that can't stand where it stands, or at the end.
pub first_wrong : (ts : List Lexeme) (left : ℕ) → run start ts ≡ Err left → FirstWrong ts (length ts - left)
first_wrong ts left h =
    let f = stops ts start left h in
    let place : f.place ≡ length ts - left = omega (arith, f.sum) in
    let begins : Begins (take f.place ts) = (f.ending_words, f.before.0, backward _ f.before.0 f.before.1) in
    let fails : f.place < length ts → Begins (take (f.place + 1) ts) → ⊥ = λ less b.
    let next : f.place + 1 ≡ suc f.place = omega arith in
    let c : Begins (take (suc f.place) ts) = subst (λ n. Begins (take n ts)) next b in
    f.wrong (omega (arith, f.sum, less)) c.0 (c.1, forward c.2)
    in
    subst (FirstWrong ts) place (record { within = omega (arith, f.sum); before = begins; wrong = fails; short = λ e s r. no_source ts left h s r })

-- a longer front is a shorter one and more
fronts : (ts : List Lexeme) (m n : ℕ) → m ≤ n → (us : List Lexeme) × (take n ts ≡ take m ts ++ us)
fronts ts zero n le = (take n ts, refl)
fronts ts (suc m) zero le = absurd (omega (arith, le))
fronts [] (suc m) (suc n) le = ([], refl)
fronts (t ∷ ts) (suc m) (suc n) le = let r = fronts ts m n (omega (arith, le)) in (r.0, ap (λ us. t ∷ us) r.1)

begins_front : (ts : List Lexeme) (m n : ℕ) → m ≤ n → Begins (take n ts) → Begins (take m ts)
begins_front ts m n le (us, s, r) =
    let f = fronts ts m n le in
    (f.0 ++ us, s, subst (λ xs. Reads xs s) (ap (λ xs. xs ++ us) f.1 ∙ append_assoc (take m ts) f.0 us) r)

not_before : (ts : List Lexeme) (a b : ℕ) → FirstWrong ts a → FirstWrong ts b → a < b → ⊥
not_before ts a b f g less = f.wrong (omega (arith, less, g.within)) (begins_front ts (a + 1) b (omega (arith, less)) g.before)

-- One place at most is the first wrong one.
pub one_first : (ts : List Lexeme) (a b : ℕ) → FirstWrong ts a → FirstWrong ts b → a ≡ b
one_first ts a b f g =
    let p : a < b → ⊥ = not_before ts a b f g in
    let q : b < a → ⊥ = not_before ts b a g f in
    grind (arith, p, q)

whole_front : (ts : List Lexeme) → take (length ts) ts ≡ ts
whole_front [] = refl
whole_front (t ∷ ts) = ap (λ us. t ∷ us) (whole_front ts)

-- Where the words are those of a source, none is wrong.
pub none_wrong : (ts : List Lexeme) (s : Source) (at : ℕ) → Reads ts s → FirstWrong ts at → ⊥
none_wrong ts s at r f =
    let whole : Begins (take (length ts) ts) =
    ([], s, subst (λ xs. Reads xs s) (sym (append-nil (take (length ts) ts) ∙ whole_front ts)) r) in
    let not_less : at < length ts → ⊥ = λ less. f.wrong less (begins_front ts (at + 1) (length ts) (omega (arith, less)) whole) in
    let end : at ≡ length ts = grind (arith, f.within, not_less) in
    f.short end s r

-- Words read to one source at most.
pub one_source : (ts : List Lexeme) (s t : Source) → Reads ts s → Reads ts t → s ≡ t
one_source ts s t r q = one_ok s t (sym (forward r) ∙ forward q)
