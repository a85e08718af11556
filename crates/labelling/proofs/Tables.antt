-- Which messages come before which by their sets, as the sets grow.
use Rattle.std.proofs.Common.{◌≡◌, ℕ, ◌<◌, ◌≤◌, Bool, true, false, ◌&&◌, ◌||◌, nat_eq, List, [], ◌∷◌, ◌++◌, length, get_or, set, take, drop, sym, ◌∙◌, ap, subst, refl, ⊎_elim, arith}
use Rattle.std.specs.List.{All}
use Rattle.std.proofs.lemmas.Bool.{cases_lt, cases_eq, eq-eqb, ne_eqb, false≢true, and_right}
use Rattle.std.proofs.lemmas.List.{append-nil, get_or-set_same, get_or-set_other, get_or_past, drop_all, take_all}
use Rattle.std.proofs.lemmas.List.Elements.{All-get_or, All-tail}
use Rattle.comm_sequence.specs.Sequences.{message_of}
use Rattle.comm_sequence.specs.declared.comm.Comm.{Comm}
use Rattle.labelling.specs.declared.sets.MessageSet.{MessageSet}
use Rattle.labelling.proofs.Bits.{none_in_no_words, or_false}
use Rattle.labelling.specs.bodies.Sets.{has, is_before, no_messages, stand_after, stand_next}

-- the message of the first operation is below a number, if that of each is
pub first_known : (list : List Comm) (x : Comm) (rest : List Comm) (n : ℕ) → list ≡ x ∷ rest → All (λ comm. message_of comm < n) list
    → message_of x < n
first_known list x rest n e all =
    let P : List Comm → Type 0 = λ xs. All (λ comm. message_of comm < n) xs in
    All-get_or (λ comm. message_of comm < n) (x ∷ rest) 0 x (omega arith) (subst P e all)

-- those of the others are, too
pub rest_known : (list : List Comm) (x : Comm) (rest : List Comm) (n : ℕ) → list ≡ x ∷ rest → All (λ comm. message_of comm < n) list
    → All (λ comm. message_of comm < n) rest
rest_known list x rest n e all =
    let P : List Comm → Type 0 = λ xs. All (λ comm. message_of comm < n) xs in
    All-tail (λ comm. message_of comm < n) x rest (subst P e all)

-- tests joined in another order
both_when : (p q r : Bool) → q ≡ true → ((p && q) || r) ≡ (p || r)
both_when true true r e = refl
both_when false true r e = refl
both_when p false r e = absurd (false≢true e)

neither_when : (p q r : Bool) → q ≡ false → ((p && q) || r) ≡ r
neither_when true false r e = refl
neither_when false false r e = refl
neither_when p true r e = absurd (false≢true (sym e))

regroup : (p q r : Bool) → ((p || q) || r) ≡ (q || (p || r))
regroup true true r = refl
regroup true false r = refl
regroup false true r = refl
regroup false false r = refl

-- one message is put into the set of another one
put_in : (sets : List MessageSet) (after before : ℕ) (new : MessageSet) → after < length sets
    → ((m : ℕ) → has new.words m ≡ (nat_eq m before || has (get_or sets after no_messages).words m)) → (a b : ℕ)
    → is_before (set sets after new) a b ≡ ((nat_eq a before && nat_eq b after) || is_before sets a b)
put_in sets after before new lt h a b =
    ⊎_elim
    (λ here.
    let at : get_or (set sets after new) b no_messages ≡ new =
    ap (λ i. get_or (set sets after new) i no_messages) here ∙ get_or-set_same sets after new no_messages lt in
    ap (λ (s : MessageSet). has s.words a) at ∙ h a
    ∙ ap (λ i. nat_eq a before || has (get_or sets i no_messages).words a) (sym here)
    ∙ sym (both_when (nat_eq a before) (nat_eq b after) (is_before sets a b) (eq-eqb b after here)))
    (λ elsewhere.
    ap (λ (s : MessageSet). has s.words a) (get_or-set_other sets after b new no_messages elsewhere)
    ∙ sym (neither_when (nat_eq a before) (nat_eq b after) (is_before sets a b) (ne_eqb b after elsewhere)))
    (cases_eq b after)

-- the first operation of a list
pub added_first : (list : List Comm) (x : Comm) (rest : List Comm) (first : ℕ) (o : Bool) (a b : ℕ) → list ≡ x ∷ rest
    → first ≡ message_of x → (o || stand_after first rest a b) ≡ (o || stand_next list a b)
added_first list x rest first o a b e same =
    ap (λ m. o || stand_after m rest a b) same ∙ ap (λ xs. o || stand_next xs a b) (sym e)

-- one operation more
pub added_more : (sets : List MessageSet) (new : MessageSet) (list : List Comm) (x : Comm) (rest : List Comm) (at after before a b : ℕ)
    (total : Bool) → at ≡ after → after ≡ message_of x → after < length sets
    → ((m : ℕ) → has new.words m ≡ (nat_eq m before || has (get_or sets at no_messages).words m)) → list ≡ x ∷ rest
    → (is_before sets a b || stand_after before list a b) ≡ total
    → (is_before (set sets at new) a b || stand_after after rest a b) ≡ total
added_more sets new list x rest at after before a b total here same lt h e t =
    ap (λ o. o || stand_after after rest a b) (put_in sets at before new (omega arith) h a b)
    ∙ regroup (nat_eq a before && nat_eq b at) (is_before sets a b) (stand_after after rest a b)
    ∙ ap (λ m. is_before sets a b || ((nat_eq a before && nat_eq b m) || stand_after after rest a b)) (here ∙ same)
    ∙ ap (λ m. is_before sets a b || ((nat_eq a before && nat_eq b (message_of x)) || stand_after m rest a b)) same
    ∙ ap (λ xs. is_before sets a b || stand_after before xs a b) (sym e)
    ∙ t

-- nothing is added where no operation is left
pub added_all : (list : List Comm) (before a b : ℕ) (o total : Bool) → list ≡ [] → (o || stand_after before list a b) ≡ total → o ≡ total
added_all list before a b o total e t = sym (or_false o) ∙ ap (λ xs. o || stand_after before xs a b) (sym e) ∙ t

-- no message is before one that has no set
pub none_before : (sets : List MessageSet) (a b : ℕ) → length sets ≤ b → is_before sets a b ≡ false
none_before sets a b le = ap (λ (s : MessageSet). has s.words a) (get_or_past sets b no_messages le) ∙ none_in_no_words a

-- the sets after all have been joined through one message
pub joined_all : (old new : List MessageSet) (between a b end : ℕ) → length new ≡ length old → length new ≤ end
    → (b < end → is_before new a b ≡ (is_before old a b || (is_before old a between && is_before old between b)))
    → is_before new a b ≡ (is_before old a b || (is_before old a between && is_before old between b))
joined_all old new between a b end size le joined =
    ⊎_elim
    (λ within. joined within)
    (λ past.
    none_before new a b (omega arith)
    ∙ sym (ap (λ t. t || (is_before old a between && is_before old between b)) (none_before old a b (omega arith))
    ∙ and_right (is_before old a between) (is_before old between b) (none_before old between b (omega arith))))
    (cases_lt b end)

-- a list that is written back to where it was lent from
pub written_back : {X : Type 0} (n : ℕ) (new items : List X) → n ≡ length new → length items ≡ length new
    → take n (new ++ drop (length new) items) ≡ new
written_back n new items e size =
    ap (λ xs. take n (new ++ xs)) (drop_all (length new) items (omega arith)) ∙ ap (take n) (append-nil new)
    ∙ take_all n new (omega arith)
