-- The words of a generator one after another, and the messages that they draw.
use Rattle.std.proofs.Common.{◌≡◌, ℕ, zero, suc, ◌+◌, ◌*◌, ◌/◌, ◌%◌, ◌<◌, refl, ap, sym, ◌∙◌, subst, arith, map, add-one, List, [], ◌∷◌, ◌++◌}
use Rattle.std.proofs.Math.Nat.{div-lt_iff_lt-mul}
use Rattle.std.proofs.lemmas.List.FromFn.{length-map-range_with_len, get_or-map-range_with_len}
use Rattle.std.specs.List.{All}
use Rattle.rand_pcg.specs.Lcg.{Lcg, next, advance, next_state, state_after}
use Rattle.rand_pcg.specs.Pcg.{multiplier_64, pcg32}
use Rattle.sys_base.specs.Groups.{below}
use Rattle.pair_gen.proofs.Below.{map_below_more}
use Rattle.pair_gen.specs.Pairs.{generator, word_after, message_drawn, messages_drawn}

-- one step after n others
state_after_more : (w m p n s : ℕ) → next_state w m p (state_after w m p n s) ≡ state_after w m p (suc n) s
unfolding state_after
state_after_more w m p zero s = refl
state_after_more w m p (suc n) s = state_after_more w m p n (next_state w m p s)

pub next-advance : (n : ℕ) (g : Lcg) → next 64 multiplier_64 (advance 64 multiplier_64 n g) ≡ advance 64 multiplier_64 (n + 1) g
next-advance n g =
    let state : next_state 64 multiplier_64 g.increment (state_after 64 multiplier_64 g.increment n g.state)
    ≡ state_after 64 multiplier_64 g.increment (n + 1) g.state =
    rw (add-one n) (state_after_more 64 multiplier_64 g.increment n g.state) in
    let G : ℕ → Lcg = λ s. record g { state = s } in
    ap G state

-- before any word
pub none_before : (g : Lcg) → advance 64 multiplier_64 0 g ≡ g
unfolding state_after
none_before g = refl

-- Each message is one of 24.
drawn_below : (seed pairs pair : ℕ) → pair < pairs → message_drawn seed pairs pair < 24
drawn_below seed pairs pair within =
    let part : 3 * pair / pairs < 3 = (div-lt_iff_lt-mul {k = pairs} {x = 3 * pair} {y = 3} (omega arith)).1 (omega arith) in
    omega (arith, part)

pub drawn_known : (seed pairs : ℕ) → All (λ message. message < 24) (messages_drawn seed pairs)
unfolding messages_drawn
drawn_known seed pairs i d within =
    let inside : i < pairs = omega (arith, length-map-range_with_len (message_drawn seed pairs) 0 pairs) in
    let at = get_or-map-range_with_len (message_drawn seed pairs) 0 pairs i i d inside (omega arith) in
    let P : ℕ → Type 0 = λ m. m < 24 in
    subst P (sym at) (drawn_below seed pairs i inside)

-- what one draw gives
pub word_step : (seed n word : ℕ) (old new : Lcg) → old ≡ advance 64 multiplier_64 n (generator seed)
    → (word, new) ≡ pcg32 old → word ≡ word_after n seed
unfolding word_after
word_step seed n word old new was is =
    let F : ℕ × Lcg → ℕ = λ r. r.0 in
    let G : Lcg → ℕ = λ g. (pcg32 g).0 in
    ap F is ∙ ap G was

pub next_step : (seed n word : ℕ) (old new : Lcg) → old ≡ advance 64 multiplier_64 n (generator seed)
    → (word, new) ≡ pcg32 old → new ≡ advance 64 multiplier_64 (n + 1) (generator seed)
next_step seed n word old new was is =
    let F : ℕ × Lcg → Lcg = λ r. r.1 in
    let G : Lcg → Lcg = λ g. (pcg32 g).1 in
    ap F is ∙ ap G was ∙ next-advance n (generator seed)

-- the messages with one more
pub drawn_more : (seed pairs pair word : ℕ) (old new : List ℕ) → word ≡ word_after pair seed
    → old ≡ map (message_drawn seed pairs) (below pair) → new ≡ old ++ (8 * (3 * pair / pairs) + word % 8) ∷ []
    → new ≡ map (message_drawn seed pairs) (below (pair + 1))
drawn_more seed pairs pair word old new same was is =
    is ∙ ap (λ xs. xs ++ (8 * (3 * pair / pairs) + word % 8) ∷ []) was
    ∙ ap (λ w. map (message_drawn seed pairs) (below pair) ++ (8 * (3 * pair / pairs) + w % 8) ∷ []) same
    ∙ sym (map_below_more (message_drawn seed pairs) pair)
