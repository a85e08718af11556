-- The lines of the parts of an image are read back.
use Rattle.std.proofs.Common.{◌≡◌, ℕ, ◌+◌, ◌<◌, ◌^◌, List, [], ◌∷◌, ◌++◌, All, length, get_or, drop, map, decimal, codes, refl, sym, ap, ◌∙◌, arith, append_assoc}
use Rattle.std.specs.List.{flat_map, enumerate_from}
use Rattle.std.specs.Str.Parse.{digits_value}
use Rattle.std.proofs.lemmas.List.Elements.{All-cons, All-head, All-nil, All-tail}
use Rattle.cell_code.specs.declared.image.Group.{Group}
use Rattle.cell_code.specs.declared.image.LinkImage.{LinkImage}
use Rattle.cell_code.specs.declared.image.MessageImage.{MessageImage}
use Rattle.object_io.specs.Objects.{end_words, group_text, link_line, measure_words, message_line}
use Rattle.object_io.specs.Sized.{IsSizedGroup, IsSizedLink, IsSizedMessage}
use Rattle.object_io.specs.Words.{IsWord}
use Rattle.object_io.proofs.Groups.{Small, group_is_word, group_same}
use Rattle.object_io.proofs.LineWords.{line_cut}
use Rattle.object_io.proofs.Numbers.{decimal_is_word, given_is_word, number_back}

-- ---- words and numbers

abbrev pub Words : List (List ℕ) → Type 0
Words = All IsWord

pub no_words : Words []
no_words = All-nil IsWord

pub given : (w : List ℕ) (ws : List (List ℕ)) → IsWord w → Words ws → Words (w ∷ ws)
given w ws h k = All-cons IsWord w ws h k

pub counted : (n : ℕ) (ws : List (List ℕ)) → n < 2 ^ 64 → Words ws → Words (decimal n ∷ ws)
counted n ws h k = All-cons IsWord (decimal n) ws (decimal_is_word n h) k

-- equal words at a place are of equal numbers
pub number_same : (ws vs : List (List ℕ)) (k m n : ℕ) → ws ≡ vs → get_or ws k [] ≡ decimal m → get_or vs k [] ≡ decimal n
    → m < 2 ^ 64 → n < 2 ^ 64 → m ≡ n
number_same ws vs k m n e one two h l =
    sym (number_back m h) ∙ ap (digits_value 10) (sym one ∙ ap (λ (us : List (List ℕ)). get_or us k []) e ∙ two) ∙ number_back n l

decimals_are_words : (ns : List ℕ) → All Small ns → Words (map decimal ns)
decimals_are_words [] h = no_words
decimals_are_words (n ∷ ns) h =
    let one = All-head Small n ns h in
    counted n (map decimal ns) (omega (arith, one)) (decimals_are_words ns (All-tail Small n ns h))

decimals_back : (ns : List ℕ) → All Small ns → map (digits_value 10) (map decimal ns) ≡ ns
decimals_back [] h = refl
decimals_back (n ∷ ns) h =
    let one = All-head Small n ns h in
    ap (λ k. k ∷ map (digits_value 10) (map decimal ns)) (number_back n (omega (arith, one)))
    ∙ ap (λ ks. n ∷ ks) (decimals_back ns (All-tail Small n ns h))

decimals_same : (ms ns : List ℕ) → All Small ms → All Small ns → map decimal ms ≡ map decimal ns → ms ≡ ns
decimals_same ms ns h k e = sym (decimals_back ms h) ∙ ap (map (digits_value 10)) e ∙ decimals_back ns k

-- ---- messages

abbrev message_words : ℕ → MessageImage → List (List ℕ)
message_words n m = decimal n ∷ end_words m ++ measure_words m ++ codes "route" ∷ map decimal m.route

message_is_words : (n : ℕ) (m : MessageImage) → n < 2 ^ 64 → IsSizedMessage m → Words (message_words n m)
message_is_words n m small s =
    let w9 = given (codes "route") (map decimal m.route) (given_is_word (codes "route") refl) (decimals_are_words m.route s.route) in
    let w8 = counted m.label (codes "route" ∷ map decimal m.route) (omega (arith, s.label)) w9 in
    let w7 = given (codes "label") (decimal m.label ∷ codes "route" ∷ map decimal m.route) (given_is_word (codes "label") refl) w8 in
    let w6 = counted m.length (codes "label" ∷ decimal m.label ∷ codes "route" ∷ map decimal m.route) (omega (arith, s.length)) w7 in
    let w5 = given (codes "length") (decimal m.length ∷ codes "label" ∷ decimal m.label ∷ codes "route" ∷ map decimal m.route) (given_is_word (codes "length") refl) w6 in
    let w4 = counted m.to (codes "length" ∷ decimal m.length ∷ codes "label" ∷ decimal m.label ∷ codes "route" ∷ map decimal m.route) (omega (arith, s.to)) w5 in
    let w3 = given (codes "to") (decimal m.to ∷ codes "length" ∷ decimal m.length ∷ codes "label" ∷ decimal m.label ∷ codes "route" ∷ map decimal m.route) (given_is_word (codes "to") refl) w4 in
    let w2 = counted m.from (codes "to" ∷ decimal m.to ∷ codes "length" ∷ decimal m.length ∷ codes "label" ∷ decimal m.label ∷ codes "route" ∷ map decimal m.route) (omega (arith, s.from)) w3 in
    let w1 = given (codes "from") (decimal m.from ∷ codes "to" ∷ decimal m.to ∷ codes "length" ∷ decimal m.length ∷ codes "label" ∷ decimal m.label ∷ codes "route" ∷ map decimal m.route) (given_is_word (codes "from") refl) w2 in
    counted n (codes "from" ∷ decimal m.from ∷ codes "to" ∷ decimal m.to ∷ codes "length" ∷ decimal m.length ∷ codes "label" ∷ decimal m.label ∷ codes "route" ∷ map decimal m.route) small w1

message_same : (i j : ℕ) (m n : MessageImage) → IsSizedMessage m → IsSizedMessage n → message_words i m ≡ message_words j n → m ≡ n
message_same i j m n s t e =
    let from = number_same (message_words i m) (message_words j n) 2 m.from n.from e refl refl (omega (arith, s.from)) (omega (arith, t.from)) in
    let to = number_same (message_words i m) (message_words j n) 4 m.to n.to e refl refl (omega (arith, s.to)) (omega (arith, t.to)) in
    let long = number_same (message_words i m) (message_words j n) 6 m.length n.length e refl refl (omega (arith, s.length)) (omega (arith, t.length)) in
    let label = number_same (message_words i m) (message_words j n) 8 m.label n.label e refl refl (omega (arith, s.label)) (omega (arith, t.label)) in
    let route = decimals_same m.route n.route s.route t.route (ap (drop 10) e) in
    let put : ℕ → ℕ → ℕ → ℕ → List ℕ → MessageImage = λ a b c d r. record { from = a; to = b; length = c; label = d; route = r } in
    ap (λ x. put x m.to m.length m.label m.route) from ∙ ap (λ x. put n.from x m.length m.label m.route) to
    ∙ ap (λ x. put n.from n.to x m.label m.route) long ∙ ap (λ x. put n.from n.to n.length x m.route) label
    ∙ ap (λ x. put n.from n.to n.length n.label x) route

pub messages_cut : (n : ℕ) (xs ys : List MessageImage) (s t : List ℕ) → n + length xs < 2 ^ 64 → n + length ys < 2 ^ 64
    → All IsSizedMessage xs → All IsSizedMessage ys → (get_or s 0 0 ≡ 109 → ⊥) → (get_or t 0 0 ≡ 109 → ⊥)
    → flat_map message_line (enumerate_from n xs) ++ s ≡ flat_map message_line (enumerate_from n ys) ++ t → (xs ≡ ys) × (s ≡ t)
messages_cut n [] [] s t f g h k stop stop_too e = (refl, e)
messages_cut n [] (y ∷ ys) s t f g h k stop stop_too e = absurd (stop (ap (λ (l : List ℕ). get_or l 0 0) e))
messages_cut n (x ∷ xs) [] s t f g h k stop stop_too e = absurd (stop_too (sym (ap (λ (l : List ℕ). get_or l 0 0) e)))
messages_cut n (x ∷ xs) (y ∷ ys) s t f g h k stop stop_too e =
    let own = All-head IsSizedMessage x xs h in
    let its = All-head IsSizedMessage y ys k in
    let lines = sym (append_assoc (message_line (n, x)) (flat_map message_line (enumerate_from (n + 1) xs)) s) ∙ e
    ∙ append_assoc (message_line (n, y)) (flat_map message_line (enumerate_from (n + 1) ys)) t in
    let small : n < 2 ^ 64 = omega (arith, f) in
    let cut = line_cut (codes "message") (codes "message") (message_words n x) (message_words n y)
    (flat_map message_line (enumerate_from (n + 1) xs) ++ s) (flat_map message_line (enumerate_from (n + 1) ys) ++ t)
    (given_is_word (codes "message") refl) (given_is_word (codes "message") refl) (message_is_words n x small own)
    (message_is_words n y small its) lines in
    let one = message_same n n x y own its cut.1 in
    let rest = messages_cut (n + 1) xs ys s t (omega (arith, f)) (omega (arith, g)) (All-tail IsSizedMessage x xs h)
    (All-tail IsSizedMessage y ys k) stop stop_too cut.2 in
    (ap (λ z. z ∷ xs) one ∙ ap (λ zs. y ∷ zs) rest.0, rest.1)

-- ---- links

abbrev link_words : LinkImage → List (List ℕ)
link_words l = decimal l.link ∷ codes "queues" ∷ decimal l.queues ∷ codes "groups" ∷ map group_text l.groups

groups_are_words : (gs : List Group) → All IsSizedGroup gs → Words (map group_text gs)
groups_are_words [] h = no_words
groups_are_words (g ∷ gs) h =
    let one = All-head IsSizedGroup g gs h in
    given (group_text g) (map group_text gs) (group_is_word g one.label one.members) (groups_are_words gs (All-tail IsSizedGroup g gs h))

groups_same : (gs hs : List Group) → All IsSizedGroup gs → All IsSizedGroup hs → map group_text gs ≡ map group_text hs → gs ≡ hs
groups_same [] [] h k e = refl
groups_same [] (y ∷ ys) h k e = absurd (cc)
groups_same (x ∷ xs) [] h k e = absurd (cc)
groups_same (x ∷ xs) (y ∷ ys) h k e =
    let own = All-head IsSizedGroup x xs h in
    let its = All-head IsSizedGroup y ys k in
    let one = group_same x y own.label its.label own.members its.members (ap (λ (l : List (List ℕ)). get_or l 0 []) e) in
    ap (λ z. z ∷ xs) one
    ∙ ap (λ zs. y ∷ zs) (groups_same xs ys (All-tail IsSizedGroup x xs h) (All-tail IsSizedGroup y ys k) (ap (drop 1) e))

link_is_words : (l : LinkImage) → IsSizedLink l → Words (link_words l)
link_is_words l s =
    let w3 = given (codes "groups") (map group_text l.groups) (given_is_word (codes "groups") refl) (groups_are_words l.groups s.groups) in
    let w2 = counted l.queues (codes "groups" ∷ map group_text l.groups) (omega (arith, s.queues)) w3 in
    let w1 = given (codes "queues") (decimal l.queues ∷ codes "groups" ∷ map group_text l.groups) (given_is_word (codes "queues") refl) w2 in
    counted l.link (codes "queues" ∷ decimal l.queues ∷ codes "groups" ∷ map group_text l.groups) (omega (arith, s.link)) w1

link_same : (l m : LinkImage) → IsSizedLink l → IsSizedLink m → link_words l ≡ link_words m → l ≡ m
link_same l m s t e =
    let link = number_same (link_words l) (link_words m) 0 l.link m.link e refl refl (omega (arith, s.link)) (omega (arith, t.link)) in
    let queues = number_same (link_words l) (link_words m) 2 l.queues m.queues e refl refl (omega (arith, s.queues)) (omega (arith, t.queues)) in
    let groups = groups_same l.groups m.groups s.groups t.groups (ap (drop 4) e) in
    let put : ℕ → ℕ → List Group → LinkImage = λ a b c. record { link = a; queues = b; groups = c } in
    ap (λ x. put x l.queues l.groups) link ∙ ap (λ x. put m.link x l.groups) queues ∙ ap (λ x. put m.link m.queues x) groups

pub links_cut : (xs ys : List LinkImage) (s t : List ℕ) → All IsSizedLink xs → All IsSizedLink ys
    → (get_or s 0 0 ≡ 108 → ⊥) → (get_or t 0 0 ≡ 108 → ⊥)
    → flat_map link_line xs ++ s ≡ flat_map link_line ys ++ t → (xs ≡ ys) × (s ≡ t)
links_cut [] [] s t h k stop stop_too e = (refl, e)
links_cut [] (y ∷ ys) s t h k stop stop_too e = absurd (stop (ap (λ (l : List ℕ). get_or l 0 0) e))
links_cut (x ∷ xs) [] s t h k stop stop_too e = absurd (stop_too (sym (ap (λ (l : List ℕ). get_or l 0 0) e)))
links_cut (x ∷ xs) (y ∷ ys) s t h k stop stop_too e =
    let own = All-head IsSizedLink x xs h in
    let its = All-head IsSizedLink y ys k in
    let lines = sym (append_assoc (link_line x) (flat_map link_line xs) s) ∙ e ∙ append_assoc (link_line y) (flat_map link_line ys) t in
    let cut = line_cut (codes "link") (codes "link") (link_words x) (link_words y) (flat_map link_line xs ++ s) (flat_map link_line ys ++ t)
    (given_is_word (codes "link") refl) (given_is_word (codes "link") refl) (link_is_words x own) (link_is_words y its) lines in
    let one = link_same x y own its cut.1 in
    let rest = links_cut xs ys s t (All-tail IsSizedLink x xs h) (All-tail IsSizedLink y ys k) stop stop_too cut.2 in
    (ap (λ z. z ∷ xs) one ∙ ap (λ zs. y ∷ zs) rest.0, rest.1)
