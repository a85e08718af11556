-- A text has one list of tokens or one first fault.
use Rattle.std.proofs.Common.{ℕ, ◌≡◌, ◌+◌, ◌<◌, ◌≤◌, List, [], ◌∷◌, length, get_or, take, drop, sym, refl, ap, ◌∙◌, subst, arith, length-drop}
use Rattle.cell_lexer.specs.declared.error.LexError.{LexError}
use Rattle.cell_lexer.specs.declared.error.LexError.TheVariants as E
use Rattle.cell_lexer.specs.declared.token.Token.{Token}
use Rattle.cell_lexer.specs.Forms.{Longest, Says, IsDigits}
use Rattle.cell_lexer.specs.Places.{line_at, column_at}
use Rattle.cell_lexer.specs.Tokens.{IsToken, Stand, TokensOf}
use Rattle.cell_lexer.specs.Faults.{IsBig, IsLong, FaultAt, FirstFault}
use Rattle.cell_lexer.specs.Inner.Scanning.{IsSolid}
use Rattle.cell_lexer.proofs.OneForm.{Front, front_of, one_longest, one_sort, word_no_digits, IsDumb, bad_is_dumb, big_is_dumb, long_is_dumb}
use Rattle.cell_lexer.proofs.OneGap.{Ends, one_gap}

ends_from_solid : (bs : List ℕ) → IsSolid (get_or bs 0 0) → Ends bs
ends_from_solid [] s = tt
ends_from_solid (b ∷ bs) s = s

-- the same rest of a text begins at the same place
same_place : (text : List ℕ) (m n : ℕ) → m ≤ length text → n ≤ length text → drop m text ≡ drop n text → m ≡ n
same_place text m n le le' e = let f = ap length e in omega (arith, sym (length-drop m text) ∙ f ∙ length-drop n text)

-- no tokens go on at this place
record IsOver (text : List ℕ) (at : ℕ) : Type 0 where
  inside : at ≤ length text
  ends : Ends (drop at text)
  dumb : IsDumb (drop at text)

token_front : (text : List ℕ) (t : Token) → IsToken text t → Front (drop t.at text) t.len
token_front text t k = front_of _ _ k.longest

token_inside : (text : List ℕ) (t : Token) → IsToken text t → t.at ≤ length text
token_inside text t k = let f = token_front text t k in omega (arith, f.some, f.inside, length-drop t.at text)

token_ends : (text : List ℕ) (t : Token) → IsToken text t → Ends (drop t.at text)
token_ends text t k = ends_from_solid _ (token_front text t k).solid

-- where no tokens go on, none stands
not_over : (text : List ℕ) (at : ℕ) (t : Token) → IsOver text at → IsToken text t → drop at text ≡ drop t.at text → ⊥
not_over text at t over k e = subst IsDumb e over.dumb t.len t.sort k.longest k.says

-- a token is told by its place
one_token : (text : List ℕ) (t u : Token) → IsToken text t → IsToken text u → t.at ≡ u.at → t ≡ u
one_token text t u k l at =
    let len : t.len ≡ u.len = one_longest _ _ _ k.longest (subst (λ n. Longest (drop n text) u.len) (sym at) l.longest) in
    let says : Says (take t.len (drop t.at text)) u.sort = subst (λ n. Says (take n (drop t.at text)) u.sort) (sym len) (subst (λ n. Says (take u.len (drop n text)) u.sort) (sym at) l.says) in
    let sort : t.sort ≡ u.sort = one_sort _ _ _ k.says says in
    let line : t.line ≡ u.line = k.line ∙ ap (line_at text) at ∙ sym l.line in
    let column : t.column ≡ u.column = k.column ∙ ap (column_at text) at ∙ sym l.column in
    λ i. record { sort = sort i; at = at i; len = len i; line = line i; column = column i }

one_list : (text : List ℕ) (from to end : ℕ) (ts us : List Token) → Stand text from ts to → Stand text from us end → IsOver text to → IsOver text end → (ts ≡ us) × (to ≡ end)
one_list text from to end [] [] a b p q = (refl, same_place text to end p.inside q.inside (one_gap _ _ _ a b p.ends q.ends))
one_list text from to end [] (u ∷ us) a b p q = absurd (not_over text to u p b.1 (one_gap _ _ _ a b.0 p.ends (token_ends text u b.1)))
one_list text from to end (t ∷ ts) [] a b p q = absurd (not_over text end t q a.1 (one_gap _ _ _ b a.0 q.ends (token_ends text t a.1)))
one_list text from to end (t ∷ ts) (u ∷ us) a b p q =
    let at : t.at ≡ u.at = same_place text _ _ (token_inside text t a.1) (token_inside text u b.1) (one_gap _ _ _ a.0 b.0 (token_ends text t a.1) (token_ends text u b.1)) in
    let same : t ≡ u = one_token text t u a.1 b.1 at in
    let rest = one_list text (t.at + t.len) to end ts us a.2 (subst (λ v. Stand text (v.at + v.len) us end) (sym same) b.2) p q in
    (λ i. same i ∷ rest.0 i, rest.1)

drop_whole : (text : List ℕ) → drop (length text) text ≡ []
drop_whole [] = refl
drop_whole (b ∷ bs) = drop_whole bs

nothing_dumb : IsDumb []
nothing_dumb n s l a = let f = front_of [] n l in omega (arith, f.some, f.inside)

-- no tokens go on at the end of the text
end_over : (text : List ℕ) → IsOver text (length text)
end_over text = record { inside = omega arith; ends = subst Ends (sym (drop_whole text)) tt; dumb = subst IsDumb (sym (drop_whole text)) nothing_dumb }

-- nor where something is wrong
fault_over : (text : List ℕ) (at : ℕ) (e : LexError) → at < length text → FaultAt text at e → IsOver text at
fault_over text at (E.BadByte a) lt f = record { inside = omega arith; ends = ends_from_solid _ (record { no_space = f.1.no_space; no_hash = f.1.no_comment }); dumb = bad_is_dumb _ f.1 }
fault_over text at (E.BigNumber line) lt f = record { inside = omega arith; ends = ends_from_solid _ (front_of _ _ f.2.longest).solid; dumb = big_is_dumb _ f.1 f.2 }
fault_over text at (E.LongName line) lt f = record { inside = omega arith; ends = ends_from_solid _ (front_of _ _ f.2.longest).solid; dumb = long_is_dumb _ f.1 f.2 }
fault_over text at E.Memory lt f = absurd f

big_no_long : (bs : List ℕ) (m n : ℕ) → IsBig bs m → IsLong bs n → ⊥
big_no_long bs m n b l = word_no_digits (take n bs) l.word (subst (λ k. IsDigits (take k bs)) (one_longest bs m n b.longest l.longest) b.digits)

-- one thing is wrong at a place
one_fault : (text : List ℕ) (at : ℕ) (e f : LexError) → FaultAt text at e → FaultAt text at f → e ≡ f
one_fault text at (E.BadByte a) (E.BadByte b) p q = ap E.BadByte (p.0 ∙ sym q.0)
one_fault text at (E.BadByte a) (E.BigNumber l) p q = absurd (p.1.no_token _ q.2.longest.form)
one_fault text at (E.BadByte a) (E.LongName l) p q = absurd (p.1.no_token _ q.2.longest.form)
one_fault text at (E.BadByte a) E.Memory p q = absurd q
one_fault text at (E.BigNumber l) (E.BadByte b) p q = absurd (q.1.no_token _ p.2.longest.form)
one_fault text at (E.BigNumber l) (E.BigNumber m) p q = ap E.BigNumber (p.0 ∙ sym q.0)
one_fault text at (E.BigNumber l) (E.LongName m) p q = absurd (big_no_long _ _ _ p.2 q.2)
one_fault text at (E.BigNumber l) E.Memory p q = absurd q
one_fault text at (E.LongName l) (E.BadByte b) p q = absurd (q.1.no_token _ p.2.longest.form)
one_fault text at (E.LongName l) (E.BigNumber m) p q = absurd (big_no_long _ _ _ q.2 p.2)
one_fault text at (E.LongName l) (E.LongName m) p q = ap E.LongName (p.0 ∙ sym q.0)
one_fault text at (E.LongName l) E.Memory p q = absurd q
one_fault text at E.Memory f p q = absurd p

pub one_tokens : (text : List ℕ) (ts us : List Token) → TokensOf text ts → TokensOf text us → ts ≡ us
one_tokens text ts us a b = (one_list text 0 _ _ ts us a b (end_over text) (end_over text)).0

pub tokens_no_fault : (text : List ℕ) (ts : List Token) (e : LexError) → TokensOf text ts → FirstFault text e → ⊥
tokens_no_fault text ts e a f =
    let same = (one_list text 0 _ _ ts f.0 a f.3 (end_over text) (fault_over text f.1 e f.2 f.4)).1 in
    omega (arith, f.2)

pub one_first_fault : (text : List ℕ) (e f : LexError) → FirstFault text e → FirstFault text f → e ≡ f
one_first_fault text e f a b =
    let same = (one_list text 0 _ _ a.0 b.0 a.3 b.3 (fault_over text a.1 e a.2 a.4) (fault_over text b.1 f b.2 b.4)).1 in
    one_fault text b.1 e f (subst (λ at. FaultAt text at e) same a.4) b.4
