-- How many words the messages of a program have, and how often they move, where its cells have few steps.
use Rattle.std.proofs.Common.{◌≡◌, ℕ, zero, suc, ◌+◌, ◌-◌, ◌*◌, ◌<◌, ◌≤◌, Bool, true, false, cond, nat_eq, List, [], ◌∷◌, length, slice_get, get_or, None, Some, ap, subst, ◌∙◌, ⊎_elim, arith}
use Rattle.std.proofs.Math.Nat.{mul-le-mul_left}
use Rattle.std.proofs.lemmas.Bool.{cases_eq, eq-eqb, ne_eqb}
use Rattle.std.proofs.lemmas.List.Sums.{sum_by-cons, sum_by-append, sum_by-le, sum_by-le-sum_by}
use Rattle.std.proofs.lemmas.List.{get_or-map, get_or_past, length-map}
use Rattle.std.proofs.lemmas.Option.{slice_get_cases}
use Rattle.std.specs.List.{count_by, flat_map, range_with_len, sum_by}
use Rattle.sys_base.specs.declared.limits.TheConstants.{STEPS}
use Rattle.cell_types.specs.Code.{Expression, Number, Variable, Counter, Element, Negated, Applied, Action, Set, SetAt, Write, Read, Take, Emit, For, If, Block, End, Then, CellCode, ProgramCode}
use Rattle.cell_types.specs.Communications.{Communication, Writes, Reads, Takes, Emits, copies, same_communication, times, action_communications, block_communications, length_of}
use Rattle.cell_types.specs.Cost.{expression_cost, action_cost, block_cost, cells_cost}
use Rattle.cell_types.specs.Groups.{below, route, routes_of, forwards}
use Rattle.cell_types.specs.Sound.{IsSound, IsSoundMessage}
use Rattle.cell_types.specs.declared.program.Message.{Message}

-- ---- the writes of cells

-- whether a communication is a write
abbrev is_write : Communication → Bool
is_write (Writes message) = true
is_write (Reads message) = false
is_write Takes = false
is_write Emits = false

-- how many of some communications are writes
abbrev written : List Communication → ℕ
written xs = count_by is_write xs

-- copies of a list have as many times its writes
copies_written : (n : ℕ) (xs : List Communication) → written (copies n xs) ≡ n * written xs
copies_written zero xs = omega arith
copies_written (suc n) xs =
    let h : written (copies n xs) ≡ n * written xs = copies_written n xs in
    omega (arith, sum_by-append (λ x. cond (is_write x) 1 0) xs (copies n xs), h)

-- an expression costs at least 1
some_cost : (e : Expression) → 1 ≤ expression_cost e
some_cost (Number number) = omega arith
some_cost (Variable word) = omega arith
some_cost (Counter counter) = omega arith
some_cost (Element base len index) = omega arith
some_cost (Negated operand) = omega arith
some_cost (Applied op left right) = omega arith

mutual
  -- an action has at most a write for each two steps
  act_written : (a : Action) → 2 * written (action_communications a) ≤ action_cost a
  act_written (Set word value) = omega arith
  act_written (SetAt base len index value) = omega arith
  act_written (Write message value) = omega (arith, some_cost value)
  act_written (Read message word) = omega arith
  act_written (Take word) = omega arith
  act_written (Emit value) = omega arith
  act_written (For counter turns body) =
      let b : 2 * written (block_communications body) ≤ block_cost body + 1 = omega (arith, block_written body) in
      omega (arith, copies_written turns (block_communications body), mul-le-mul_left turns b)
  act_written (If test first second) =
      let b : 2 * written (block_communications first) ≤ block_cost first = block_written first in
      omega arith

  -- statements have at most a write for each two steps
  block_written : (b : Block) → 2 * written (block_communications b) ≤ block_cost b
  block_written End = omega arith
  block_written (Then line action rest) =
      let parts = sum_by-append (λ x. cond (is_write x) 1 0) (action_communications action) (block_communications rest) in
      omega (arith, parts, act_written action, block_written rest)

-- the communications of a cell
abbrev of_cell : CellCode → List Communication
of_cell c = block_communications c.body

-- cells have at most a write for each two steps
cells_written : (cells : List CellCode) → 2 * written (flat_map of_cell cells) ≤ sum_by (λ (c : CellCode). block_cost c.body) cells
cells_written [] = omega arith
cells_written (c ∷ cs) =
    omega (
      arith,
      sum_by-append (λ x. cond (is_write x) 1 0) (of_cell c) (flat_map of_cell cs),
      sum_by-cons (λ (c : CellCode). block_cost c.body) c cs,
      block_written c.body,
      cells_written cs,
    )

-- ---- the writes of each message

-- a sum of nothing is nothing
sum_none : (ns : List ℕ) → sum_by (λ n. 0) ns ≤ 0
sum_none ns = omega (arith, sum_by-le (λ n. 0) 0 ns (λ k d l. omega arith))

-- a sum of two functions is that of their sums
sum_both : (f g : ℕ → ℕ) (ns : List ℕ) → sum_by (λ n. f n + g n) ns ≡ sum_by f ns + sum_by g ns
sum_both f g [] = omega arith
sum_both f g (n ∷ ns) =
    omega (arith, sum_by-cons (λ n. f n + g n) n ns, sum_by-cons f n ns, sum_by-cons g n ns, sum_both f g ns)

-- a number below others is none of them
none_equal : (x a n : ℕ) → x < a → sum_by (λ k. cond (nat_eq k x) 1 0) (range_with_len a n) ≡ 0
none_equal x a zero l = omega arith
none_equal x a (suc n) l =
    let e = ap {B = ℕ} (λ b. cond b 1 0) (ne_eqb a x (λ e. omega arith)) in
    omega (arith, sum_by-cons (λ k. cond (nat_eq k x) 1 0) a (range_with_len (a + 1) n), e, none_equal x (a + 1) n (omega arith))

-- a number stands once at most among numbers one after another
at_most_once : (x a n : ℕ) → sum_by (λ k. cond (nat_eq k x) 1 0) (range_with_len a n) ≤ 1
at_most_once x a zero = omega arith
at_most_once x a (suc n) =
    let more = at_most_once x (a + 1) n in
    let parts = sum_by-cons (λ k. cond (nat_eq k x) 1 0) a (range_with_len (a + 1) n) in
    ⊎_elim
    (λ (same : a ≡ x).
    let e = ap {B = ℕ} (λ b. cond b 1 0) (eq-eqb a x same) in
    omega (arith, parts, e, none_equal x (a + 1) n (omega arith)))
    (λ (other : a ≡ x → ⊥).
    let e = ap {B = ℕ} (λ b. cond b 1 0) (ne_eqb a x other) in
    omega (arith, parts, e, more))
    (cases_eq a x)

-- a write is a write of at most one message, and no other communication is one
one_counted : (x : Communication) (n : ℕ) → sum_by (λ m. times (Writes m) (x ∷ [])) (below n) ≤ cond (is_write x) 1 0
one_counted (Writes k) n =
    let f : ℕ → ℕ = λ m. times (Writes m) (Writes k ∷ []) in
    let g : ℕ → ℕ = λ m. cond (nat_eq m k) 1 0 in
    omega (arith, sum_by-le-sum_by f g (below n) (λ m. omega arith), at_most_once k 0 n)
one_counted (Reads k) n = sum_none (below n)
one_counted Takes n = sum_none (below n)
one_counted Emits n = sum_none (below n)

-- the writes of some messages are no more than all writes
counted : (xs : List Communication) (n : ℕ) → sum_by (λ m. times (Writes m) xs) (below n) ≤ written xs
counted [] n = sum_none (below n)
counted (x ∷ xs) n =
    let one : ℕ → ℕ = λ m. times (Writes m) (x ∷ []) in
    let rest : ℕ → ℕ = λ m. times (Writes m) xs in
    let all : ℕ → ℕ = λ m. times (Writes m) (x ∷ xs) in
    let each : (m : ℕ) → all m ≤ one m + rest m =
    λ m. omega (arith, sum_by-append (λ c. cond (same_communication (Writes m) c) 1 0) (x ∷ []) xs) in
    let apart = sum_by-le-sum_by all (λ m. one m + rest m) (below n) each in
    let parts = sum_by-cons (λ c. cond (is_write c) 1 0) x xs in
    omega (arith, apart, sum_both one rest (below n), one_counted x n, counted xs n, parts)

-- ---- the moves of words

-- a sum of products whose second factor is at most so much is at most so many times the sum of the first factors
products : (f r : ℕ → ℕ) (most : ℕ) → ((m : ℕ) → r m ≤ most) → (ns : List ℕ) → sum_by (λ m. f m * r m) ns ≤ most * sum_by f ns
products f r most h [] = omega arith
products f r most h (n ∷ ns) =
    let parts = ap (λ k. most * k) (sum_by-cons f n ns) in
    omega (arith, sum_by-cons (λ m. f m * r m) n ns, parts, mul-le-mul_left (f n) (h n), products f r most h ns)

-- No route has more than 256 links.
abbrev pub HasShortRoutes : ProgramCode → Type 0
HasShortRoutes p = (m : ℕ) → length (route p m) ≤ 256

-- cells of few steps write few words, which move few times over short routes
pub few_forwards : (p : ProgramCode) (steps : ℕ) → HasShortRoutes p → steps ≡ cells_cost p → steps ≤ STEPS
    → forwards p ≤ 2139095040
few_forwards p steps short cost few =
    let n = length p.messages in
    let moves : forwards p ≤ 255 * sum_by (length_of p) (below n) =
    products (length_of p) (λ m. length (route p m) - 1) 255 (λ m. omega (arith, short m)) (below n) in
    omega (arith, moves, counted (flat_map of_cell p.cells) n, cells_written p.cells, cost, few)

-- ---- routes

-- the routes of a sound program are short
pub short_routes : (p : ProgramCode) → IsSound p → HasShortRoutes p
short_routes p sound m =
    ⊎_elim
    (λ (at : (x : Message) × (m < length p.messages) × (slice_get p.messages m ≡ Some x) × (get_or p.messages m x ≡ x)).
    let is : IsSoundMessage p.grid at.0 = subst (IsSoundMessage p.grid) at.3 (sound.messages m at.0 at.1) in
    let same : route p m ≡ at.0.route =
    get_or-map (λ (x : Message). x.route) p.messages m at.0 [] at.1 ∙ ap (λ (x : Message). x.route) at.3 in
    omega (arith, is.short, ap length same))
    (λ (past : (length p.messages ≤ m) × (slice_get p.messages m ≡ None)).
    let none : route p m ≡ [] = get_or_past (routes_of p) m [] (omega (arith, past.0, length-map p.messages (λ (x : Message). x.route))) in
    omega (arith, ap length none))
    (slice_get_cases p.messages m).1
