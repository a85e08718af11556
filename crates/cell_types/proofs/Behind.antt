-- The faults of declarations one behind another, as a loop over them finds them.
use Rattle.std.proofs.Common.{ℕ, ◌≡◌, ◌+◌, ◌<◌, ◌≤◌, List, [], ◌∷◌, ◌++◌, length, take, drop, get_or, sym, ap, subst, ◌∙◌, append_assoc}
use Rattle.std.proofs.lemmas.List.{append-nil, take_more, take_all, take-append-drop, drop_more}
use Rattle.cell_types.specs.Faults.{faults_behind, IsFirst}
use Rattle.cell_types.specs.declared.error.StaticError.{StaticError}
use Rattle.cell_types.proofs.FirstFaults.{first_left, first_right, none_joined}

module _ {A : Type 0} (judged : List A → A → List StaticError) where
  -- the faults of some declarations and more behind them
  pub behind-append : (earlier xs ys : List A)
      → faults_behind judged earlier (xs ++ ys) ≡ faults_behind judged earlier xs ++ faults_behind judged (earlier ++ xs) ys
  behind-append earlier [] ys = ap (λ e. faults_behind judged e ys) (sym (append-nil earlier))
  behind-append earlier (x ∷ xs) ys =
      ap (λ fs. judged earlier x ++ fs)
      (behind-append (earlier ++ x ∷ []) xs ys
      ∙ ap (λ e. faults_behind judged (earlier ++ x ∷ []) xs ++ faults_behind judged e ys) (append_assoc earlier (x ∷ []) xs))
      ∙ sym (append_assoc (judged earlier x) (faults_behind judged (earlier ++ x ∷ []) xs) (faults_behind judged (earlier ++ x ∷ xs) ys))

  module _ (ds : List A) (i : ℕ) (d : A) (l : i < length ds) (e : d ≡ get_or ds i d) (so : faults_behind judged [] (take i ds) ≡ []) where
    -- the first declarations with this one
    one_more : take (i + 1) ds ≡ take i ds ++ d ∷ []
    one_more = take_more ds i d l ∙ ap (λ x. take i ds ++ x ∷ []) (sym e)

    -- one more declaration has no fault
    pub behind_more : judged (take i ds) d ≡ [] → faults_behind judged [] (take (i + 1) ds) ≡ []
    behind_more none =
        ap (faults_behind judged []) one_more ∙ behind-append [] (take i ds) (d ∷ [])
        ∙ none_joined (faults_behind judged [] (take i ds)) (judged (take i ds) d ++ []) so (append-nil (judged (take i ds) d) ∙ none)

    -- and the others behind it
    the_rest : ds ≡ take i ds ++ d ∷ drop (i + 1) ds
    the_rest =
        sym (take-append-drop i ds) ∙ ap (λ xs. take i ds ++ xs) (drop_more ds i d l)
        ∙ ap (λ x. take i ds ++ x ∷ drop (i + 1) ds) (sym e)

    -- the first fault of one more declaration is the first of all
    pub behind_stop : (error : StaticError) → IsFirst (judged (take i ds) d) error → IsFirst (faults_behind judged [] ds) error
    behind_stop error first =
        let here = faults_behind judged [] (take i ds) in
        let rest = faults_behind judged (take i ds ++ d ∷ []) (drop (i + 1) ds) in
        subst (λ fs. IsFirst fs error) (sym (ap (faults_behind judged []) the_rest ∙ behind-append [] (take i ds) (d ∷ drop (i + 1) ds)))
        (first_right here (judged (take i ds) d ++ rest) error so (first_left (judged (take i ds) d) rest error first))

  -- all declarations are judged
  pub behind_all : (ds : List A) (i : ℕ) → length ds ≤ i → faults_behind judged [] (take i ds) ≡ [] → faults_behind judged [] ds ≡ []
  behind_all ds i l so = ap (faults_behind judged []) (sym (take_all i ds l)) ∙ so
