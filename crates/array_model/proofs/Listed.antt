-- The lists of a regular image, with their order and labels, are as a regular array has them.
use Rattle.std.proofs.Common.{◌≡◌, ℕ, zero, suc, ◌<◌, ◌≤◌, true, cond, nat_eq, List, [], ◌∷◌, Some, length, map, filter, take, get_or, slice_get, All, refl, sym, ap, subst, ◌∙◌, arith, inl, inr, eqb-true}
use Rattle.std.specs.Option.{option_and_then}
use Rattle.std.proofs.lemmas.Bool.{cases_Bool}
use Rattle.std.proofs.lemmas.List.{get_or-map, length-map, take-map}
use Rattle.std.proofs.lemmas.List.Elements.{All-filter, All-tail, filter_passes}
use Rattle.std.proofs.lemmas.List.Sums.{sum_by-cons}
use Rattle.std.proofs.lemmas.Option.{slice_get-get_or}
use Rattle.sys_base.specs.Communications.{Communication, Writes, Reads, Takes, Emits, same_communication, times}
use Rattle.array_runs.specs.Frame.{Action}
use Rattle.array_runs.specs.Frame as F
use Rattle.array_runs.specs.Orders.{count, events, home, part_of}
use Rattle.array_runs.specs.Orders as O
use Rattle.array_runs.specs.Regular.{IsEvent, IsOrdered, IsOwn, Rises, label_of}
use Rattle.array_runs.specs.Regular as G
use Rattle.array_runs.proofs.GroupsCome.{groups_grouped}
use Rattle.array_runs.proofs.Routes.{once}
use Rattle.cell_code.specs.Marks.{message_of}
use Rattle.cell_code.specs.declared.image.Image.{Image}
use Rattle.array_model.specs.Orders.{IsKnown, KeepsBuffer, exchanges, is_exchange, is_of, message_in}
use Rattle.array_model.specs.Regular.{IsRegular}
use Rattle.array_model.specs.States.{cells}
use Rattle.array_model.proofs.CellsAlone.{act, acts}
use Rattle.array_model.proofs.Links.{groups_come, labels, lengths, linked, reaches, routes, shaped_message}
use Rattle.array_model.proofs.Mapped.{frame}

-- ---- lists of communications as lists of actions

acts_are : (xs : List Communication) → acts xs ≡ map act (exchanges xs)
acts_are [] = refl
acts_are (Writes m ∷ xs) = ap (λ r. F.Write m ∷ r) (acts_are xs)
acts_are (Reads m ∷ xs) = ap (λ r. F.Read m ∷ r) (acts_are xs)
acts_are (Takes ∷ xs) = acts_are xs
acts_are (Emits ∷ xs) = acts_are xs

events_twice : (xs : List Communication) → events (acts xs) ≡ acts xs
events_twice [] = refl
events_twice (Writes m ∷ xs) = ap (λ r. F.Write m ∷ r) (events_twice xs)
events_twice (Reads m ∷ xs) = ap (λ r. F.Read m ∷ r) (events_twice xs)
events_twice (Takes ∷ xs) = events_twice xs
events_twice (Emits ∷ xs) = events_twice xs

count_writes : (m : ℕ) (xs : List Communication) → count (F.Write m) (acts xs) ≡ times (Writes m) xs
count_writes m [] = refl
count_writes m (Writes k ∷ xs) =
    omega (arith, count_writes m xs, sum_by-cons (λ x. cond (same_communication (Writes m) x) 1 0) (Writes k) xs)
count_writes m (Reads k ∷ xs) =
    omega (arith, count_writes m xs, sum_by-cons (λ x. cond (same_communication (Writes m) x) 1 0) (Reads k) xs)
count_writes m (Takes ∷ xs) =
    omega (arith, count_writes m xs, sum_by-cons (λ x. cond (same_communication (Writes m) x) 1 0) Takes xs)
count_writes m (Emits ∷ xs) =
    omega (arith, count_writes m xs, sum_by-cons (λ x. cond (same_communication (Writes m) x) 1 0) Emits xs)

same_write : (m : ℕ) (x : Communication) → O.same (F.Write m) (act x) ≡ cond {A = ℕ} (same_communication (Writes m) x) 1 0
same_write m (Writes k) = refl
same_write m (Reads k) = refl
same_write m Takes = refl
same_write m Emits = refl

same_read : (m : ℕ) (x : Communication) → O.same (F.Read m) (act x) ≡ cond {A = ℕ} (same_communication (Reads m) x) 1 0
same_read m (Writes k) = refl
same_read m (Reads k) = refl
same_read m Takes = refl
same_read m Emits = refl

writes_are : (m : ℕ) (xs : List Communication) → count (F.Write m) (map act xs) ≡ times (Writes m) xs
writes_are m [] = refl
writes_are m (x ∷ xs) =
    omega (arith, writes_are m xs, same_write m x, sum_by-cons (λ y. cond (same_communication (Writes m) y) 1 0) x xs)

reads_are : (m : ℕ) (xs : List Communication) → count (F.Read m) (map act xs) ≡ times (Reads m) xs
reads_are m [] = refl
reads_are m (x ∷ xs) =
    omega (arith, reads_are m xs, same_read m x, sum_by-cons (λ y. cond (same_communication (Reads m) y) 1 0) x xs)

writes_before : (m n : ℕ) (xs : List Communication) → count (F.Write m) (take n (map act xs)) ≡ times (Writes m) (take n xs)
writes_before m n xs = ap (count (F.Write m)) (take-map act n xs) ∙ writes_are m (take n xs)

reads_before : (m n : ℕ) (xs : List Communication) → count (F.Read m) (take n (map act xs)) ≡ times (Reads m) (take n xs)
reads_before m n xs = ap (count (F.Read m)) (take-map act n xs) ∙ reads_are m (take n xs)

at_write : (xs : List Communication) (n m : ℕ) → get_or (map act xs) n F.Halt ≡ F.Write m → slice_get xs n ≡ Some (Writes m)
at_write [] n m h = absurd (cc)
at_write (Writes k ∷ xs) zero m h = ap (λ j. Some (Writes j)) (cc h)
at_write (Reads k ∷ xs) zero m h = absurd (cc)
at_write (Takes ∷ xs) zero m h = absurd (cc)
at_write (Emits ∷ xs) zero m h = absurd (cc)
at_write (x ∷ xs) (suc n) m h = at_write xs n m h

at_read : (xs : List Communication) (n m : ℕ) → slice_get xs n ≡ Some (Reads m) → get_or (map act xs) n F.Halt ≡ F.Read m
at_read [] n m h = absurd (cc)
at_read (Writes k ∷ xs) zero m h = absurd (cc)
at_read (Reads k ∷ xs) zero m h = ap (λ j. F.Read j) (cc h)
at_read (Takes ∷ xs) zero m h = absurd (cc)
at_read (Emits ∷ xs) zero m h = absurd (cc)
at_read (x ∷ xs) (suc n) m h = at_read xs n m h

keeps : (d : ℕ) (xs : List Communication) → KeepsBuffer d xs → O.KeepsBuffer d (map act xs)
keeps zero xs h = λ n m e. at_read xs (suc n) m (h n m (at_write xs n m e))
keeps (suc d) xs h = λ n m. omega (arith, h n m, writes_before m n xs, reads_before m n xs)

-- ---- the array

module _ (image : Image) (buffer : ℕ) (h : IsRegular image buffer) where
  abbrev p : F.Frame
  p = frame image

  abbrev pub lists : ℕ → List Action
  lists c = acts (h.lists c)

  own_one : (c : ℕ) (x : Communication) → IsKnown image x → is_of image c x ≡ true → IsOwn p c (act x)
  own_one c (Writes m) k e = (k, eqb-true _ _ e)
  own_one c (Reads m) k e = (k, eqb-true _ _ e)
  own_one c Takes k e = absurd k
  own_one c Emits k e = absurd k

  known_one : (x : Communication) → IsKnown image x → IsEvent p (act x)
  known_one (Writes m) k = k
  known_one (Reads m) k = k
  known_one Takes k = absurd k
  known_one Emits k = absurd k

  -- the part of the order that is a cell's
  abbrev part : ℕ → List Communication
  part c = filter (is_of image c) h.order

  lists_are : (c : ℕ) → c < cells image → lists c ≡ map act (part c)
  lists_are c l = acts_are (h.lists c) ∙ ap (map act) (sym (h.ordered.each c l))

  own_part : (c i : ℕ) → i < length (map act (part c)) → IsOwn p c (get_or (map act (part c)) i F.Halt)
  own_part c i g =
      let inside : i < length (part c) = omega (arith, length-map (part c) act) in
      subst (IsOwn p c) (sym (get_or-map act (part c) i Takes F.Halt inside))
      (own_one c (get_or (part c) i Takes) (All-filter (is_of image c) (IsKnown image) h.order h.ordered.known i Takes inside)
      (filter_passes (is_of image c) h.order i Takes inside))

  own : (c i : ℕ) → c < cells image → i < length (lists c) → IsOwn p c (get_or (lists c) i F.Halt)
  own c i l =
      subst (λ xs. i < length xs → IsOwn p c (get_or xs i F.Halt)) (sym (lists_are c l)) (own_part c i)

  known : (i : ℕ) → i < length (map act h.order) → IsEvent p (get_or (map act h.order) i F.Halt)
  known i g =
      let inside : i < length h.order = omega (arith, length-map h.order act) in
      subst (IsEvent p) (sym (get_or-map act h.order i Takes F.Halt inside))
      (known_one (get_or h.order i Takes) (h.ordered.known i Takes inside))

  is_part : (c : ℕ) (x : Communication) → IsKnown image x → is_of image c x ≡ nat_eq (home p (act x)) c
  is_part c (Writes m) k = refl
  is_part c (Reads m) k = refl
  is_part c Takes k = absurd k
  is_part c Emits k = absurd k

  parts_are : (c : ℕ) (xs : List Communication) → All (IsKnown image) xs
      → part_of p c (map act xs) ≡ map act (filter (is_of image c) xs)
  parts_are c [] k = refl
  parts_are c (x ∷ xs) k =
      let ih : part_of p c (map act xs) ≡ map act (filter (is_of image c) xs) = parts_are c xs (All-tail (IsKnown image) x xs k) in
      let test : is_of image c x ≡ nat_eq (home p (act x)) c = is_part c x (k 0 x (omega arith)) in
      let mine = part_of p c (map act xs) in
      let theirs = filter (is_of image c) xs in
      elim (cases_Bool (is_of image c x)) [
        | inl t ↦
            ap (λ b. cond b (act x ∷ mine) mine) (sym test ∙ t) ∙ ap (λ r. act x ∷ r) ih
            ∙ sym (ap (λ b. map act (cond b (x ∷ theirs) theirs)) t)
        | inr t ↦
            ap (λ b. cond b (act x ∷ mine) mine) (sym test ∙ t) ∙ ih
            ∙ sym (ap (λ b. map act (cond b (x ∷ theirs) theirs)) t)
      ]

  each : (c : ℕ) → c < cells image → part_of p c (map act h.order) ≡ events (lists c)
  each c l =
      parts_are c h.order h.ordered.known ∙ sym (lists_are c l) ∙ sym (events_twice (h.lists c))

  -- the message of a write or a read, and its label
  record Labelled (x : Communication) : Type 0 where
    message : ℕ
    is : message_in x ≡ Some message
    label : label_of p (act x) ≡ (message_of image message).label

  labelled : (x : Communication) → is_exchange x ≡ true → Labelled x
  labelled (Writes m) e = record { message = m; is = refl; label = refl }
  labelled (Reads m) e = record { message = m; is = refl; label = refl }
  labelled Takes e = absurd (cc)
  labelled Emits e = absurd (cc)

  rises_one : (c i : ℕ) → c < cells image → suc i < length (map act (exchanges (h.lists c)))
      → label_of p (get_or (map act (exchanges (h.lists c))) i F.Halt)
      ≤ label_of p (get_or (map act (exchanges (h.lists c))) (suc i) F.Halt)
  rises_one c i l g =
      let list : List Communication = exchanges (h.lists c) in
      let second : suc i < length list = omega (arith, length-map list act) in
      let first : i < length list = omega arith in
      let a = labelled (get_or list i Takes) (filter_passes is_exchange (h.lists c) i Takes first) in
      let b = labelled (get_or list (suc i) Takes) (filter_passes is_exchange (h.lists c) (suc i) Takes second) in
      let falls_not : (message_of image a.message).label ≤ (message_of image b.message).label =
      h.consistent c i a.message b.message l
      (ap (option_and_then message_in) (slice_get-get_or list i Takes first) ∙ a.is)
      (ap (option_and_then message_in) (slice_get-get_or list (suc i) Takes second) ∙ b.is)
      in
      let at_a = ap (label_of p) (get_or-map act list i Takes F.Halt first) in
      let at_b = ap (label_of p) (get_or-map act list (suc i) Takes F.Halt second) in
      omega (arith, at_a, at_b, falls_not, a.label, b.label)

  rises : (c : ℕ) → c < cells image → Rises p (events (lists c))
  rises c l =
      subst (Rises p) (sym (events_twice (h.lists c) ∙ acts_are (h.lists c))) (λ i g. rises_one c i l g)

  pub ordered : IsOrdered p lists buffer
  ordered =
      record {
        own = λ c i l g. own c i l g;
        sends = λ m l. (shaped_message image h.shaped m l).from;
        receives = λ m l. (shaped_message image h.shaped m l).to;
        order = map act h.order;
        known = known;
        is_order = record {
          each = each;
          prefix = λ n m. omega (arith, h.ordered.prefix n m, writes_before m n h.order, reads_before m n h.order);
          whole = λ m. writes_are m h.order ∙ h.ordered.whole m ∙ sym (reads_are m h.order);
          kept = keeps buffer h.order h.ordered.kept;
        };
      }

  pub regular : G.IsRegular p lists buffer
  regular =
      record {
        ordered = ordered;
        counted = λ m l. h.lengths m l ∙ sym (count_writes m (h.lists (message_of image m).from));
        routed = record {
          reaches = λ m l. reaches image h.shaped m l;
          linked = λ m i l g. linked image h.shaped m i l g;
          once = λ m i l g. once (message_of image m).route i (shaped_message image h.shaped m l).path.differ g;
        };
        grouped =
            groups_grouped p (routes image h.shaped) (labels image h.shaped) (lengths image h.shaped)
            (groups_come image h.shaped h.fits);
        labels = rises;
      }
