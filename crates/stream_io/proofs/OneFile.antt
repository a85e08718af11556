-- Any bytes have one list of inputs or break one first rule.
use Rattle.std.proofs.Common.{◌≡◌, ◌≢◌, ◌⊎◌, inl, inr, ℕ, zero, suc, ℤ, ◌<◌, List, [], ◌∷◌, ◌++◌, length, get_or, Option, Some, None, Bool, true, false, true≢false, refl, sym, subst, ap, ◌∙◌, arith, length-append, below_more}
use Rattle.std.proofs.lemmas.Bool.{cases_Bool, cases_lt}
use Rattle.std.proofs.lemmas.Slice.Eq.{bytes_eq-Decides}
use Rattle.std.proofs.lemmas.Str.{IsUtf8-from_is_utf8, is_utf8-from_IsUtf8}
use Rattle.std.specs.Option.{is_some}
use Rattle.std.specs.Str.{IsUtf8, bytes_eq, is_utf8}
use Rattle.serde_json.specs.Data.{Data, null, boolean, number, string, array, object, Members}
use Rattle.serde_json.specs.Find.{as_array, as_object}
use Rattle.serde_json.specs.Read.{read}
use Rattle.sys_base.specs.Grid.{Extent, cell_count}
use Rattle.stream_io.specs.Reading.{members_list, first_other, key_of, lists_below, lists_of, cell_list, IsKey, IsGood, AllGood, Breaks, BreaksFirst, FirstBroken, HasInputs, HasMembers, Means, IsFirstCount, Refuses}
use Rattle.stream_io.specs.declared.error.InputError.{InputError}
use Rattle.stream_io.specs.declared.error.InputError.TheVariants.{NotJson, NotObject, UnknownCell, NotList, NotInteger, Count, Memory}

abbrev Member : Type 0
Member = List ℕ × Data

-- ---- one value, and one list of members

one_value : (bytes : List ℕ) (d e : Data) → Means bytes d → Means bytes e → d ≡ e
one_value bytes d e h k = let a : read bytes ≡ Some d = h.reading in let b : read bytes ≡ Some e = k.reading in cc

same_members : (ms ns : Members) → object ms ≡ object ns → members_list ms ≡ members_list ns
same_members ms ns e = let same : ms ≡ ns = cc in ap members_list same

one_members : (bytes : List ℕ) (d e : Data) (ms ns : List Member) → Means bytes d → Means bytes e → HasMembers d ms → HasMembers e ns → ms ≡ ns
one_members bytes d e ms ns h k p q = p.2 ∙ same_members p.0 q.0 (sym p.1 ∙ one_value bytes d e h k ∙ q.1) ∙ sym q.2

object_is_some : (ms : Members) → as_object (object ms) ≡ None → ⊥
object_is_some ms e = cc

no_object : (bytes : List ℕ) (d e : Data) (ms : List Member) → Means bytes d → Means bytes e → as_object d ≡ None → HasMembers e ms → ⊥
no_object bytes d e ms h k none has =
    object_is_some has.0 (subst (λ (v : Data). as_object v ≡ None) (one_value bytes d e h k ∙ has.1) none)

-- ---- one rule of a member

good_breaks : (g : Extent) (key : List ℕ) (value : Data) (e : InputError) → IsGood g key value → Breaks g key value e → ⊥
good_breaks g key value NotJson good broken = broken
good_breaks g key value NotObject good broken = broken
good_breaks g key value (UnknownCell k) good broken = broken.1 good.named
good_breaks g key value (NotList k) good broken = true≢false (sym good.list ∙ broken.2)
good_breaks g key value (NotInteger k n) good broken =
    let a : first_other value ≡ None = good.integers in let b : first_other value ≡ Some n = broken.2 in cc
good_breaks g key value (Count cell need has) good broken = broken
good_breaks g key value Memory good broken = broken

-- a value that is no list has no item that is no integer
list_other : (d : Data) (n : ℕ) → is_some (as_array d) ≡ false → first_other d ≡ Some n → ⊥
list_other null n free some = cc
list_other (boolean b) n free some = cc
list_other (number m) n free some = cc
list_other (string s) n free some = cc
list_other (array ds) n free some = cc
list_other (object ms) n free some = cc

-- which of the three rules of a member the error names
abbrev Kinds : Extent → List ℕ → Data → InputError → Type 0
Kinds g key value e = ((e ≡ UnknownCell key) × (IsKey g key → ⊥))
    ⊎ (((e ≡ NotList key) × IsKey g key × (is_some (as_array value) ≡ false))
    ⊎ ((n : ℕ) × (e ≡ NotInteger key n) × IsKey g key × (first_other value ≡ Some n)))

kinds : (g : Extent) (key : List ℕ) (value : Data) (e : InputError) → Breaks g key value e → Kinds g key value e
kinds g key value NotJson broken = absurd broken
kinds g key value NotObject broken = absurd broken
kinds g key value (UnknownCell k) broken = inl (ap UnknownCell broken.0, broken.1)
kinds g key value (NotList k) broken = inr (inl (ap NotList broken.0, broken.1, broken.2))
kinds g key value (NotInteger k n) broken = inr (inr (n, ap (λ (l : List ℕ). NotInteger l n) broken.0, broken.1, broken.2))
kinds g key value (Count cell need has) broken = absurd broken
kinds g key value Memory broken = absurd broken

one_place : (o : Option ℕ) (m n : ℕ) → o ≡ Some m → o ≡ Some n → m ≡ n
one_place o m n h k = cc

one_kind : (g : Extent) (key : List ℕ) (value : Data) (e f : InputError) → Kinds g key value e → Kinds g key value f → e ≡ f
one_kind g key value e f (inl a) (inl b) = a.0 ∙ sym b.0
one_kind g key value e f (inl a) (inr (inl b)) = absurd (a.1 b.1)
one_kind g key value e f (inl a) (inr (inr b)) = absurd (a.1 b.2)
one_kind g key value e f (inr (inl a)) (inl b) = absurd (b.1 a.1)
one_kind g key value e f (inr (inl a)) (inr (inl b)) = a.0 ∙ sym b.0
one_kind g key value e f (inr (inl a)) (inr (inr b)) = absurd (list_other value b.0 a.2 b.3)
one_kind g key value e f (inr (inr a)) (inl b) = absurd (b.1 a.2)
one_kind g key value e f (inr (inr a)) (inr (inl b)) = absurd (list_other value a.0 b.2 a.3)
one_kind g key value e f (inr (inr a)) (inr (inr b)) =
    a.1 ∙ ap (λ (n : ℕ). NotInteger key n) (one_place (first_other value) a.0 b.0 a.3 b.3) ∙ sym b.1

-- ---- one first member that is not good

good_at : (g : Extent) (before : List Member) (m : Member) (after : List Member) → AllGood g (before ++ m ∷ after) → IsGood g m.0 m.1
good_at g [] m after all = all.0
good_at g (b ∷ before) m after all = good_at g before m after all.1

good_broken : (g : Extent) (ms : List Member) (e : InputError) → AllGood g ms → FirstBroken g ms e → ⊥
good_broken g ms e all broken = good_breaks g broken.1 broken.2 e
    (good_at g broken.0 (broken.1, broken.2) broken.3 (subst (λ (l : List Member). AllGood g l) broken.4 all)) broken.6

one_first : (g : Extent) (bs cs : List Member) (m n : Member) (ls ds : List Member) (e f : InputError) → AllGood g bs → AllGood g cs
    → Breaks g m.0 m.1 e → Breaks g n.0 n.1 f → bs ++ m ∷ ls ≡ cs ++ n ∷ ds → e ≡ f
one_first g [] [] m n ls ds e f h k p q same =
    let head : m ≡ n = cc in
    one_kind g n.0 n.1 e f (kinds g n.0 n.1 e (subst (λ (x : Member). Breaks g x.0 x.1 e) head p)) (kinds g n.0 n.1 f q)
one_first g [] (c ∷ cs) m n ls ds e f h k p q same =
    let head : m ≡ c = cc in
    absurd (good_breaks g c.0 c.1 e k.0 (subst (λ (x : Member). Breaks g x.0 x.1 e) head p))
one_first g (b ∷ bs) [] m n ls ds e f h k p q same =
    let head : n ≡ b = cc in
    absurd (good_breaks g b.0 b.1 f h.0 (subst (λ (x : Member). Breaks g x.0 x.1 f) head q))
one_first g (b ∷ bs) (c ∷ cs) m n ls ds e f h k p q same =
    let tail : bs ++ m ∷ ls ≡ cs ++ n ∷ ds = cc in
    one_first g bs cs m n ls ds e f h.1 k.1 p q tail

one_broken : (g : Extent) (ms ns : List Member) (e f : InputError) → ms ≡ ns → FirstBroken g ms e → FirstBroken g ns f → e ≡ f
one_broken g ms ns e f same h k = one_first g h.0 k.0 (h.1, h.2) (k.1, k.2) h.3 k.3 e f h.5 k.5 h.6 k.6 (sym h.4 ∙ same ∙ k.4)

-- ---- one first count

count_before : (takes : List ℕ) (lists : List (List ℤ)) (c n h d m i : ℕ) → IsFirstCount takes lists c n h → IsFirstCount takes lists d m i
    → c < d → ⊥
count_before takes lists c n h d m i one other low = one.differ (one.gets ∙ other.before c low ∙ sym one.needs)

one_count : (takes : List ℕ) (lists : List (List ℤ)) (c n h d m i : ℕ) → IsFirstCount takes lists c n h → IsFirstCount takes lists d m i
    → Count c n h ≡ Count d m i
one_count takes lists c n h d m i one other = elim (cases_lt c d) [
  | inl low ↦ absurd (count_before takes lists c n h d m i one other low)
  | inr past ↦ elim (cases_lt d c) [
    | inl low ↦ absurd (count_before takes lists d m i c n h other one low)
    | inr short ↦
        let cell : c ≡ d = omega (arith, past, short) in
        let need : n ≡ m = one.needs ∙ ap (λ (k : ℕ). get_or takes k 0) cell ∙ sym other.needs in
        let has : h ≡ i = one.gets ∙ ap (λ (k : ℕ). length (get_or lists k [])) cell ∙ sym other.gets in
        cc
  ]
]

-- ---- one rule of a file

-- which of the rules of a file the error names
abbrev Cases : List ℕ → Extent → List ℕ → InputError → Type 0
Cases bytes g takes e = ((e ≡ NotJson) × ((value : Data) → Means bytes value → ⊥))
    ⊎ (((e ≡ NotObject) × (value : Data) × Means bytes value × (as_object value ≡ None))
    ⊎ (BreaksFirst bytes g e
    ⊎ ((cell : ℕ) × (need : ℕ) × (has : ℕ) × (e ≡ Count cell need has) × (value : Data) × (members : List Member) × Means bytes value
    × HasMembers value members × AllGood g members × IsFirstCount takes (lists_of g value) cell need has)))

cases : (bytes : List ℕ) (g : Extent) (takes : List ℕ) (e : InputError) → e ≢ Memory → Refuses bytes g takes e → Cases bytes g takes e
cases bytes g takes NotJson apart refused = inl (refl, refused)
cases bytes g takes NotObject apart refused = inr (inl (refl, refused.0, refused.1, refused.2))
cases bytes g takes (UnknownCell k) apart refused = inr (inr (inl refused))
cases bytes g takes (NotList k) apart refused = inr (inr (inl refused))
cases bytes g takes (NotInteger k n) apart refused = inr (inr (inl refused))
cases bytes g takes (Count cell need has) apart refused =
    inr (inr (inr (cell, need, has, refl, refused.0, refused.1, refused.2, refused.3, refused.4, refused.5)))
cases bytes g takes Memory apart refused = absurd (apart refl)

one_case : (bytes : List ℕ) (g : Extent) (takes : List ℕ) (e f : InputError) → Cases bytes g takes e → Cases bytes g takes f → e ≡ f
one_case bytes g takes e f (inl a) (inl b) = a.0 ∙ sym b.0
one_case bytes g takes e f (inl a) (inr (inl b)) = absurd (a.1 b.1 b.2)
one_case bytes g takes e f (inl a) (inr (inr (inl b))) = absurd (a.1 b.0 b.2)
one_case bytes g takes e f (inl a) (inr (inr (inr b))) = absurd (a.1 b.4 b.6)
one_case bytes g takes e f (inr (inl a)) (inl b) = absurd (b.1 a.1 a.2)
one_case bytes g takes e f (inr (inl a)) (inr (inl b)) = a.0 ∙ sym b.0
one_case bytes g takes e f (inr (inl a)) (inr (inr (inl b))) = absurd (no_object bytes a.1 b.0 b.1 a.2 b.2 a.3 b.3)
one_case bytes g takes e f (inr (inl a)) (inr (inr (inr b))) = absurd (no_object bytes a.1 b.4 b.5 a.2 b.6 a.3 b.7)
one_case bytes g takes e f (inr (inr (inl a))) (inl b) = absurd (b.1 a.0 a.2)
one_case bytes g takes e f (inr (inr (inl a))) (inr (inl b)) = absurd (no_object bytes b.1 a.0 a.1 b.2 a.2 b.3 a.3)
one_case bytes g takes e f (inr (inr (inl a))) (inr (inr (inl b))) =
    one_broken g a.1 b.1 e f (one_members bytes a.0 b.0 a.1 b.1 a.2 b.2 a.3 b.3) a.4 b.4
one_case bytes g takes e f (inr (inr (inl a))) (inr (inr (inr b))) = absurd (good_broken g a.1 e
    (subst (λ (l : List Member). AllGood g l) (one_members bytes b.4 a.0 b.5 a.1 b.6 a.2 b.7 a.3) b.8) a.4)
one_case bytes g takes e f (inr (inr (inr a))) (inl b) = absurd (b.1 a.4 a.6)
one_case bytes g takes e f (inr (inr (inr a))) (inr (inl b)) = absurd (no_object bytes b.1 a.4 a.5 b.2 a.6 b.3 a.7)
one_case bytes g takes e f (inr (inr (inr a))) (inr (inr (inl b))) = absurd (good_broken g b.1 f
    (subst (λ (l : List Member). AllGood g l) (one_members bytes a.4 b.0 a.5 b.1 a.6 b.2 a.7 b.3) a.8) b.4)
one_case bytes g takes e f (inr (inr (inr a))) (inr (inr (inr b))) = a.3
    ∙ one_count takes (lists_of g b.4) a.0 a.1 a.2 b.0 b.1 b.2
    (subst (λ (v : Data). IsFirstCount takes (lists_of g v) a.0 a.1 a.2) (one_value bytes a.4 b.4 a.6 b.6) a.9) b.9
    ∙ sym b.3

pub one_rule : (bytes : List ℕ) (g : Extent) (takes : List ℕ) (e f : InputError) → e ≢ Memory → f ≢ Memory → Refuses bytes g takes e
    → Refuses bytes g takes f → e ≡ f
one_rule bytes g takes e f p q h k = one_case bytes g takes e f (cases bytes g takes e p h) (cases bytes g takes f q k)

-- ---- one list of inputs, and never both

pub one_list : (bytes : List ℕ) (g : Extent) (takes : List ℕ) (is js : List (List ℤ)) → HasInputs bytes g takes is → HasInputs bytes g takes js
    → is ≡ js
one_list bytes g takes is js h k = h.reading.5
    ∙ ap (λ (v : Data). lists_of g v) (one_value bytes h.reading.0 k.reading.0 h.reading.2 k.reading.2) ∙ sym k.reading.5

length_below : (g : Extent) (value : Data) (n : ℕ) → length (lists_below g value n) ≡ n
length_below g value zero = refl
length_below g value (suc n) =
    let front : length (lists_below g value n) ≡ n = length_below g value n in
    let whole = length-append (lists_below g value n) (cell_list g value n ∷ []) in
    omega (arith, front, whole)

counts_apart : (g : Extent) (takes : List ℕ) (value : Data) (is : List (List ℤ)) (c n h : ℕ) → is ≡ lists_of g value
    → ((cell : ℕ) → cell < cell_count g → length (get_or is cell []) ≡ get_or takes cell 0) → IsFirstCount takes (lists_of g value) c n h → ⊥
counts_apart g takes value is c n h same all first =
    let whole : length (lists_of g value) ≡ cell_count g = length_below g value (cell_count g) in
    let low : c < length (lists_of g value) = first.inside in
    first.differ (first.gets ∙ sym (ap (λ (l : List (List ℤ)). length (get_or l c [])) same) ∙ all c (omega (arith, whole, low)) ∙ sym first.needs)

case_apart : (bytes : List ℕ) (g : Extent) (takes : List ℕ) (is : List (List ℤ)) (e : InputError) → HasInputs bytes g takes is
    → Cases bytes g takes e → ⊥
case_apart bytes g takes is e h (inl c) = c.1 h.reading.0 h.reading.2
case_apart bytes g takes is e h (inr (inl c)) = no_object bytes c.1 h.reading.0 h.reading.1 c.2 h.reading.2 c.3 h.reading.3
case_apart bytes g takes is e h (inr (inr (inl c))) = good_broken g c.1 e
    (subst (λ (l : List Member). AllGood g l) (one_members bytes h.reading.0 c.0 h.reading.1 c.1 h.reading.2 c.2 h.reading.3 c.3) h.reading.4) c.4
case_apart bytes g takes is e h (inr (inr (inr c))) = counts_apart g takes c.4 is c.0 c.1 c.2
    (h.reading.5 ∙ ap (λ (v : Data). lists_of g v) (one_value bytes h.reading.0 c.4 h.reading.2 c.6)) h.counts c.9

pub never_both : (bytes : List ℕ) (g : Extent) (takes : List ℕ) (is : List (List ℤ)) (e : InputError) → e ≢ Memory → HasInputs bytes g takes is
    → Refuses bytes g takes e → ⊥
never_both bytes g takes is e apart h refused = case_apart bytes g takes is e h (cases bytes g takes e apart refused)

-- ---- some inputs, or some rule

-- one of the numbers below a bound has a property, or none has
any_below : (P : ℕ → Type 0) → ((n : ℕ) → P n ⊎ (P n → ⊥)) → (bound : ℕ)
    → ((n : ℕ) × (n < bound) × P n) ⊎ ((n : ℕ) → n < bound → P n → ⊥)
any_below P test zero = inr (λ n low. absurd (omega arith))
any_below P test (suc bound) =
    elim (any_below P test bound) [
      | inl found ↦ inl (found.0, omega (arith, found.1), found.2)
      | inr none ↦ elim (test bound) [
        | inl here ↦ inl (bound, omega arith, here)
        | inr not ↦ inr (λ n low. below_more (λ n. P n → ⊥) bound none not n (omega arith))
      ]
    ]

same_or_not : (xs ys : List ℕ) (t : Bool) → bytes_eq xs ys ≡ t → (xs ≡ ys) ⊎ (xs ≡ ys → ⊥)
same_or_not xs ys true e = inl ((bytes_eq-Decides xs ys).0 e)
same_or_not xs ys false e = inr (λ same. true≢false (sym ((bytes_eq-Decides xs ys).1 same) ∙ e))

key_or_not : (g : Extent) (key : List ℕ) → IsKey g key ⊎ (IsKey g key → ⊥)
key_or_not g key =
    elim (any_below (λ n. key ≡ key_of g n) (λ n. same_or_not key (key_of g n) (bytes_eq key (key_of g n)) refl) (cell_count g)) [
      | inl found ↦ inl found
      | inr none ↦ inr (λ found. none found.0 found.1 found.2)
    ]

some_or_none : (o : Option ℕ) → ((n : ℕ) × (o ≡ Some n)) ⊎ (o ≡ None)
some_or_none (Some n) = inl (n, refl)
some_or_none None = inr refl

abbrev Broken : Extent → List ℕ → Data → Type 0
Broken g key value = (e : InputError) × Breaks g key value e

good_or_broken : (g : Extent) (key : List ℕ) (value : Data) → IsGood g key value ⊎ Broken g key value
good_or_broken g key value = elim (key_or_not g key) [
  | inr none ↦ inr (UnknownCell key, (refl, none))
  | inl named ↦ elim (cases_Bool (is_some (as_array value))) [
    | inr single ↦ inr (NotList key, (refl, named, single))
    | inl list ↦ elim (some_or_none (first_other value)) [
      | inl other ↦ inr (NotInteger key other.0, (refl, named, other.1))
      | inr integers ↦ inl (record { named = named; list = list; integers = integers })
    ]
  ]
]

abbrev SomeBroken : Extent → List Member → Type 0
SomeBroken g ms = (e : InputError) × FirstBroken g ms e

all_or_broken : (g : Extent) (ms : List Member) → AllGood g ms ⊎ SomeBroken g ms
all_or_broken g [] = inl tt
all_or_broken g (m ∷ ms) = elim (good_or_broken g m.0 m.1) [
  | inr bad ↦ inr (bad.0, ([], m.0, m.1, ms, refl, tt, bad.1))
  | inl good ↦ elim (all_or_broken g ms) [
    | inl all ↦ inl (good, all)
    | inr bad ↦ inr (bad.0, (m ∷ bad.1.0, bad.1.1, bad.1.2, bad.1.3, ap (λ (l : List Member). m ∷ l) bad.1.4, (good, bad.1.5), bad.1.6))
  ]
]

number_or_not : (a b : ℕ) → (a ≡ b) ⊎ (a ≡ b → ⊥)
number_or_not a b = elim (cases_lt a b) [
  | inl low ↦ inr (λ e. absurd (omega (arith, low, e)))
  | inr past ↦ elim (cases_lt b a) [
    | inl low ↦ inr (λ e. absurd (omega (arith, low, e)))
    | inr short ↦ inl (omega (arith, past, short))
  ]
]

-- the cell gets as many words as it takes
abbrev Gets : List ℕ → List (List ℤ) → ℕ → Type 0
Gets takes lists k = length (get_or lists k []) ≡ get_or takes k 0

first_count : (takes : List ℕ) (lists : List (List ℤ)) (bound : ℕ) → ((k : ℕ) → k < bound → Gets takes lists k)
    ⊎ ((c : ℕ) × (c < bound) × (Gets takes lists c → ⊥) × ((k : ℕ) → k < c → Gets takes lists k))
first_count takes lists zero = inl (λ k low. absurd (omega arith))
first_count takes lists (suc bound) = elim (first_count takes lists bound) [
  | inr found ↦ inr (found.0, omega (arith, found.1), found.2, found.3)
  | inl all ↦ elim (number_or_not (length (get_or lists bound [])) (get_or takes bound 0)) [
    | inl here ↦ inl (λ k low. below_more (λ k. Gets takes lists k) bound all here k (omega arith))
    | inr other ↦ inr (bound, omega arith, other, all)
  ]
]

abbrev Inputs : List ℕ → Extent → List ℕ → Type 0
Inputs bytes g takes = (inputs : List (List ℤ)) × HasInputs bytes g takes inputs

abbrev Rule : List ℕ → Extent → List ℕ → Type 0
Rule bytes g takes = (error : InputError) × (error ≢ Memory) × Refuses bytes g takes error

rule_of : (bytes : List ℕ) (g : Extent) (takes : List ℕ) (e : InputError) → BreaksFirst bytes g e → Rule bytes g takes
rule_of bytes g takes NotJson broken = absurd broken.4.6
rule_of bytes g takes NotObject broken = absurd broken.4.6
rule_of bytes g takes (UnknownCell k) broken = (UnknownCell k, (λ same. cc), broken)
rule_of bytes g takes (NotList k) broken = (NotList k, (λ same. cc), broken)
rule_of bytes g takes (NotInteger k n) broken = (NotInteger k n, (λ same. cc), broken)
rule_of bytes g takes (Count cell need has) broken = absurd broken.4.6
rule_of bytes g takes Memory broken = absurd broken.4.6

counted : (bytes : List ℕ) (g : Extent) (takes : List ℕ) (value : Data) (ms : List Member) → Means bytes value → HasMembers value ms
    → AllGood g ms → Inputs bytes g takes ⊎ Rule bytes g takes
counted bytes g takes value ms means has all = elim (first_count takes (lists_of g value) (cell_count g)) [
  | inl counts ↦ inl (lists_of g value, record { reading = (value, ms, means, has, all, refl); counts = counts })
  | inr found ↦
      let whole : length (lists_of g value) ≡ cell_count g = length_below g value (cell_count g) in
      inr (
        Count found.0 (get_or takes found.0 0) (length (get_or (lists_of g value) found.0 [])),
        (λ same. cc),
        (value, ms, means, has, all, record { inside = omega (arith, whole, found.1); needs = refl; gets = refl; differ = found.2; before = found.3 }),
      )
]

membered : (bytes : List ℕ) (g : Extent) (takes : List ℕ) (value : Data) (ms : Members) → value ≡ object ms → Means bytes value
    → Inputs bytes g takes ⊎ Rule bytes g takes
membered bytes g takes value ms is means = elim (all_or_broken g (members_list ms)) [
  | inl all ↦ counted bytes g takes value (members_list ms) means (ms, is, refl) all
  | inr bad ↦ inr (rule_of bytes g takes bad.0 (value, members_list ms, means, (ms, is, refl), bad.1))
]

no_object_rule : (bytes : List ℕ) (g : Extent) (takes : List ℕ) (value : Data) → as_object value ≡ None → Means bytes value
    → Inputs bytes g takes ⊎ Rule bytes g takes
no_object_rule bytes g takes value none means = inr (NotObject, (λ same. cc), (value, means, none))

valued : (bytes : List ℕ) (g : Extent) (takes : List ℕ) (value : Data) → Means bytes value → Inputs bytes g takes ⊎ Rule bytes g takes
valued bytes g takes null means = no_object_rule bytes g takes null refl means
valued bytes g takes (boolean b) means = no_object_rule bytes g takes (boolean b) refl means
valued bytes g takes (number n) means = no_object_rule bytes g takes (number n) refl means
valued bytes g takes (string s) means = no_object_rule bytes g takes (string s) refl means
valued bytes g takes (array ds) means = no_object_rule bytes g takes (array ds) refl means
valued bytes g takes (object ms) means = membered bytes g takes (object ms) ms refl means

no_value_rule : (bytes : List ℕ) (g : Extent) (takes : List ℕ) → ((value : Data) → Means bytes value → ⊥)
    → Inputs bytes g takes ⊎ Rule bytes g takes
no_value_rule bytes g takes none = inr (NotJson, (λ same. cc), none)

no_value : (o : Option Data) (value : Data) → o ≡ None → o ≡ Some value → ⊥
no_value o value h k = cc

read_or_not : (bytes : List ℕ) (g : Extent) (takes : List ℕ) (o : Option Data) → read bytes ≡ o → IsUtf8 bytes
    → Inputs bytes g takes ⊎ Rule bytes g takes
read_or_not bytes g takes (Some value) is text = valued bytes g takes value (record { utf8 = text; reading = is })
read_or_not bytes g takes None is text = no_value_rule bytes g takes (λ value means. no_value (read bytes) value is means.reading)

pub some_inputs : (bytes : List ℕ) (g : Extent) (takes : List ℕ) → Inputs bytes g takes ⊎ Rule bytes g takes
some_inputs bytes g takes = elim (cases_Bool (is_utf8 bytes)) [
  | inl text ↦ read_or_not bytes g takes (read bytes) refl (IsUtf8-from_is_utf8 bytes text)
  | inr other ↦ no_value_rule bytes g takes (λ value means. true≢false (sym (is_utf8-from_IsUtf8 bytes means.utf8) ∙ other))
]
