-- Lists that grow by an element at the end.
use Rattle.std.proofs.Common.{◌≡◌, ℕ, ◌+◌, List, [], ◌∷◌, ◌++◌, replicate, sym, ap, ◌∙◌, arith}
use Rattle.std.proofs.lemmas.List.{map-id, replicate-append-replicate}
use Rattle.std.proofs.lemmas.List.FromFn.{map-range_with_len_more}
use Rattle.cell_code.specs.declared.image.MessageImage.{MessageImage}
use Rattle.sys_base.specs.Groups.{below}
use Rattle.queue_tests.specs.Arrays.{message}

-- one more of the same messages
pub grown_alike : (n : ℕ) (route wanted : List ℕ) (before after : List MessageImage)
    → before ≡ replicate n (message 0 1 1 0 wanted) → route ≡ wanted → after ≡ before ++ message 0 1 1 0 route ∷ []
    → after ≡ replicate (n + 1) (message 0 1 1 0 wanted)
grown_alike n route wanted before after is by grows =
    grows ∙ ap (λ r. before ++ message 0 1 1 0 r ∷ []) by ∙ ap (λ ms. ms ++ message 0 1 1 0 wanted ∷ []) is
    ∙ replicate-append-replicate n 1 (message 0 1 1 0 wanted)

-- one more number
pub grown_below : (n : ℕ) (before after : List ℕ) → before ≡ below n → after ≡ before ++ n ∷ [] → after ≡ below (n + 1)
grown_below n before after is grows =
    grows ∙ ap (λ xs. xs ++ n ∷ []) (is ∙ sym (map-id (below n)))
    ∙ sym (map-range_with_len_more (λ x. x) 0 n n (omega arith)) ∙ map-id (below (n + 1))
