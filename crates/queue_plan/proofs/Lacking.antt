-- What links lack.
use Rattle.std.proofs.Common.{◌≡◌, ℕ, ◌<◌, ◌≤◌, true, false, cond, List, [], Option, None, Some, is_some, filter_map, flat_map, length, get_or, slice_get, slice_index, sym, ◌∙◌, ap, true≢false, arith}
use Rattle.std.proofs.lemmas.Bool.{lt-ltb, le-ltb}
use Rattle.std.proofs.lemmas.List.{get_or_default}
use Rattle.std.specs.List.{range_with_len}
use Rattle.queue_plan.specs.Grouping.{groups_at}
use Rattle.queue_plan.specs.Lacks.{lack_of}
use Rattle.queue_plan.specs.declared.lack.Lack.{Lack}
use Rattle.queue_plan.proofs.Firsts.{empty_if_none, first_of_lists}

-- what a link lacks for its groups
abbrev pub lacks_at : List (List (ℕ × List ℕ)) → List ℕ → ℕ → List Lack
lacks_at links queues link = filter_map (lack_of link (slice_index queues link)) (groups_at links link)

-- a group with more members than there are queues
pub lack_there : (link queues label need : ℕ) (group : ℕ × List ℕ) → label ≡ group.0 → need ≡ length group.1 → queues < need
    → lack_of link queues group ≡ Some (record { link = link; label = label; need = need; has = queues })
lack_there link queues label need group l n more =
    let some : Option Lack = Some (record { link = link; label = group.0; need = length group.1; has = queues }) in
    ap (λ b. cond b some None) (lt-ltb queues (length group.1) (omega arith))
    ∙ ap (λ k. Some (record { link = link; label = k; need = length group.1; has = queues })) (sym l)
    ∙ ap (λ k. Some (record { link = link; label = label; need = k; has = queues })) (sym n)

-- a group that fits
pub none_there : (link queues : ℕ) (group : ℕ × List ℕ) → length group.1 ≤ queues → lack_of link queues group ≡ None
none_there link queues group fits =
    let some : Option Lack = Some (record { link = link; label = group.0; need = length group.1; has = queues }) in
    ap (λ b. cond b some None) (le-ltb queues (length group.1) fits)

-- what a link lacks, where its groups are read
pub read_at : (links : List (List (ℕ × List ℕ))) (queues : List ℕ) (link : ℕ) (groups : List (ℕ × List ℕ)) → link < length links
    → groups ≡ get_or links link groups → filter_map (lack_of link (slice_index queues link)) groups ≡ lacks_at links queues link
read_at links queues link groups within is =
    ap (filter_map (lack_of link (slice_index queues link))) (is ∙ get_or_default links link groups [] within)

-- the first lack of a link where none before it lacks anything
pub lack_found : (links : List (List (ℕ × List ℕ))) (queues : List ℕ) (link : ℕ) (answer : Option Lack) → link < length links
    → ((k : ℕ) → k < link → lacks_at links queues k ≡ []) → answer ≡ slice_get (lacks_at links queues link) 0
    → is_some answer ≡ true → answer ≡ slice_get (flat_map (lacks_at links queues) (range_with_len 0 (length links))) 0
lack_found links queues link None within none is there = absurd (true≢false (sym there))
lack_found links queues link (Some lack) within none is there = first_of_lists (lacks_at links queues) (length links) link lack within none is

-- a link that lacks nothing
pub no_lack : (links : List (List (ℕ × List ℕ))) (queues : List ℕ) (link : ℕ) (answer : Option Lack)
    → answer ≡ slice_get (lacks_at links queues link) 0 → is_some answer ≡ false → lacks_at links queues link ≡ []
no_lack links queues link None is there = empty_if_none (lacks_at links queues link) is
no_lack links queues link (Some lack) is there = absurd (true≢false there)
