-- The closed table tells of each two messages whether the first must come no later than the second.
use Rattle.std.proofs.Common.{◌≡◌, ℕ, zero, suc, ◌<◌, ◌≤◌, ◌↔◌, Bool, false, ◌&&◌, ◌||◌, nat_eq, List, [], ◌∷◌, Option, Some, None, length, get_or, Decides, sym, ◌∙◌, ap, subst, refl, inl, inr, ◌⊎◌, ⊎_elim, arith}
use Rattle.std.specs.Bool.{IsTrue}
use Rattle.std.specs.List.{All, list_any, slice_get}
use Rattle.std.specs.Option.{option_map}
use Rattle.std.proofs.lemmas.Bool.{cases_lt, or_cases, or_left, or_right, eq-eqb, eqb-true, and_parts, and_from, false≢true}
use Rattle.std.proofs.lemmas.Bool.Decides.{Decides-by_or}
use Rattle.std.proofs.lemmas.List.{get_or_past, get_or_default}
use Rattle.std.proofs.lemmas.List.Elements.{All-get_or}
use Rattle.std.proofs.lemmas.Option.{slice_get_within, get_or_from_slice_get, none-some, same_Some}
use Rattle.comm_sequence.specs.Labels.{message_at, Neighbours, Must, IsTable}
use Rattle.comm_sequence.specs.Labels.Must.{Alone, Before}
use Rattle.comm_sequence.specs.Sequences.{message_of, Sequences, IsSequences}
use Rattle.comm_sequence.specs.declared.comm.Comm.{Comm}
use Rattle.labelling.specs.bodies.Sets.{stand_after, stand_next, Through}
use Rattle.labelling.specs.bodies.Sets.Through.{Near, Joined}

-- In this list the messages stand next to each other, in this order.
record StandNext (list : List Comm) (a b : ℕ) : Type 0 where
  pub place : ℕ
  pub first : option_map message_of (slice_get list place) ≡ Some a
  pub second : option_map message_of (slice_get list (suc place)) ≡ Some b

-- a message alone has no neighbours
one_alone : (x : Comm) (a b : ℕ) → StandNext (x ∷ []) a b → ⊥
one_alone x a b h = let e : None ≡ Some b = h.second in cc

-- neighbours in the rest of a list are neighbours in the list
further : (x : Comm) (rest : List Comm) (a b : ℕ) → StandNext rest a b → StandNext (x ∷ rest) a b
further x rest a b h = record { place = suc h.place; first = h.first; second = h.second }

-- neighbours are the first two, or stand in the rest
first_or_rest : (x y : Comm) (rest : List Comm) (a b place : ℕ) → option_map message_of (slice_get (x ∷ y ∷ rest) place) ≡ Some a
    → option_map message_of (slice_get (x ∷ y ∷ rest) (suc place)) ≡ Some b
    → ((a ≡ message_of x) × (b ≡ message_of y)) ⊎ StandNext (y ∷ rest) a b
first_or_rest x y rest a b zero h i = inl (cc, cc)
first_or_rest x y rest a b (suc place) h i = inr (record { place = place; first = h; second = i })

-- the test finds the neighbours of a list that begins with an operation
tells_after : (x : Comm) (rest : List Comm) (a b : ℕ) → Decides (stand_after (message_of x) rest a b) (StandNext (x ∷ rest) a b)
tells_after x [] a b = (λ e. absurd (false≢true e), λ h. absurd (one_alone x a b h))
tells_after x (y ∷ rest) a b =
    let here = nat_eq a (message_of x) in
    let next = nat_eq b (message_of y) in
    let more = stand_after (message_of y) rest a b in (
      λ t. ⊎_elim
          (λ both.
          let parts = and_parts here next both in
          let ea : a ≡ message_of x = eqb-true a (message_of x) parts.0 in
          let eb : b ≡ message_of y = eqb-true b (message_of y) parts.1 in
          record { place = 0; first = ap Some (sym ea); second = ap Some (sym eb) })
          (λ later. further x (y ∷ rest) a b ((tells_after y rest a b).0 later))
          (or_cases (here && next) more t),
      λ h. ⊎_elim
          (λ both.
          or_left (here && next) more
          (and_from here next (eq-eqb a (message_of x) both.0) (eq-eqb b (message_of y) both.1)))
          (λ later. or_right (here && next) more ((tells_after y rest a b).1 later))
          (first_or_rest x y rest a b h.place h.first h.second),
    )

-- the test finds the neighbours of a list
tells_next : (list : List Comm) (a b : ℕ) → Decides (stand_next list a b) (StandNext list a b)
tells_next [] a b = (λ e. absurd (false≢true e), λ h. let e : None ≡ Some a = h.first in cc)
tells_next (x ∷ rest) a b = tells_after x rest a b

-- a message that stands in a cell's list stands in one of the lists
cell_within : (lists : List (List Comm)) (cell place m : ℕ) → message_at lists cell place ≡ Some m → cell < length lists
cell_within lists cell place m h =
    ⊎_elim
    (λ lt. lt)
    (λ past.
    let none : None ≡ Some m =
    sym (ap (λ xs. option_map message_of (slice_get xs place)) (get_or_past lists cell [] past)) ∙ h in
    cc)
    (cases_lt cell (length lists))

-- the test finds the neighbours of all lists
pub tells_neighbours : (lists : List (List Comm)) (a b : ℕ)
    → Decides (list_any (λ list. stand_next list a b) lists) (Neighbours lists a b)
tells_neighbours lists a b =
    let d = Decides-by_or (λ list. stand_next list a b) (λ list. StandNext list a b) (list_any (λ list. stand_next list a b)) (λ list. tells_next list a b) refl (λ _ _. refl) lists in (
      λ t. let found = d.0 t in let here = found.2 [] in
          record { cell = found.0; place = here.place; first = here.first; second = here.second },
      λ n. d.1
          (let lt = cell_within lists n.cell n.place a n.first in (
            n.cell,
            lt,
            λ other.
                let P : List Comm → Type 0 = λ list. StandNext list a b in
                subst P (get_or_default lists n.cell [] other lt) (record { place = n.place; first = n.first; second = n.second }),
          )),
    )

-- Each message in the lists is below this number.
abbrev pub AreBelow : List (List Comm) → ℕ → Type 0
AreBelow lists count = (cell place m : ℕ) → message_at lists cell place ≡ Some m → m < count

-- a chain that goes on from where another one ends
pub must_join : (lists : List (List Comm)) (a b c : ℕ) → Must lists a b → Must lists b c → Must lists a c
must_join lists _ _ c (Alone a) k = k
must_join lists _ _ c (Before a b d n h) k = Before a b c n (must_join lists b d c h k)

-- an operation on a message, if there is one, is on one below a number
below_if : (o : Option Comm) (m count : ℕ) → ((x : Comm) → o ≡ Some x → message_of x < count) → option_map message_of o ≡ Some m → m < count
below_if None m count h e = absurd (none-some m e)
below_if (Some x) m count h e = let lt = h x refl in let same : message_of x ≡ m = same_Some (message_of x) m e in omega arith

-- each message in lists of which all messages are below a number is below it
pub below_from_all : (lists : List (List Comm)) (count : ℕ) → All (λ list. All (λ comm. message_of comm < count) list) lists
    → AreBelow lists count
below_from_all lists count all = λ cell place m h.
    let list = get_or lists cell [] in
    let here = All-get_or (λ xs. All (λ comm. message_of comm < count) xs) lists cell [] (cell_within lists cell place m h) all in
    below_if (slice_get list place) m count
    (λ x e.
    let P : Comm → Type 0 = λ comm. message_of comm < count in
    subst P (get_or_from_slice_get list place x x e) (All-get_or P list place x (slice_get_within list place x e) here))
    h

-- each message in the lists of sequences is one of theirs
pub below_from_sequences : (s : Sequences) → IsSequences s → AreBelow s.lists (length s.ends)
below_from_sequences s h = below_from_all s.lists (length s.ends) h.known

-- The closed table, over the one that tells of neighbours.
module _ (lists : List (List Comm)) (count : ℕ) (known : AreBelow lists count) (near closed : ℕ → ℕ → Bool)
    (tells : (a b : ℕ) → b < count → near a b ≡ (nat_eq a b || list_any (λ list. stand_next list a b) lists))
    (ends : (a b : ℕ) → count ≤ b → near a b ≡ false)
    (closes : (a b : ℕ) → (IsTrue (closed a b) ↔ Through near count a b)) where
  -- one step
  must_near : (a b : ℕ) → IsTrue (near a b) → Must lists a b
  must_near a b t =
      ⊎_elim
      (λ lt. ⊎_elim
      (λ same. let P : ℕ → Type 0 = λ m. Must lists a m in subst P (eqb-true a b same) (Alone a))
      (λ next. Before a b b ((tells_neighbours lists a b).0 next) (Alone b))
      (or_cases (nat_eq a b) (list_any (λ list. stand_next list a b) lists) (sym (tells a b lt) ∙ t)))
      (λ past. absurd (false≢true (sym (ends a b past) ∙ t)))
      (cases_lt b count)

  -- a chain
  must_through : (a b : ℕ) → Through near count a b → Must lists a b
  must_through _ _ (Near a b t) = must_near a b t
  must_through _ _ (Joined a b c lt h k) = must_join lists a b c (must_through a b h) (must_through b c k)

  -- a message alone
  near_alone : (a : ℕ) → a < count → Through near count a a
  near_alone a lt =
      Near a a (tells a a lt ∙ or_left (nat_eq a a) (list_any (λ list. stand_next list a a) lists) (eq-eqb a a refl))

  -- a pair of neighbours
  near_next : (a b : ℕ) → Neighbours lists a b → Through near count a b
  near_next a b n =
      Near a b
      (tells a b (known n.cell (suc n.place) b n.second)
      ∙ or_right (nat_eq a b) (list_any (λ list. stand_next list a b) lists) ((tells_neighbours lists a b).1 n))

  through_must : (a b : ℕ) → a < count → Must lists a b → Through near count a b
  through_must _ _ lt (Alone a) = near_alone a lt
  through_must _ _ lt (Before a b c n k) =
      let within = known n.cell (suc n.place) b n.second in
      Joined a b c within (near_next a b n) (through_must b c within k)

  pub closed_is_table : IsTable lists count closed
  closed_is_table = λ a b la lb.
      (λ t. must_through a b ((closes a b).0 t), λ m. (closes a b).1 (through_must a b la m))
