-- Lists of values, and what contracts see of them.
use Rattle.std.proofs.Common.{◌≡◌, ◌==◌, ◌||◌, if◌then◌else◌, ℕ, zero, suc, ℤ, pos, negsuc, List, [], ◌∷◌, ◌++◌, map, get_or, Option, Some, None, Bool, true, false, not, Ordering, Less, Equal, Greater, nat_cmp, String, Global, string_bytes, fold, refl, sym, subst, ap, ◌∙◌, append_assoc}
use Rattle.std.specs.Cmp.Lexicographic.{slice_cmp}
use Rattle.std.specs.Ordering.{match_ordering}
use Rattle.std.proofs.lemmas.List.{length-map}
use Rattle.std.specs.List.{filter_map, position, position_or_len}
use Rattle.std.specs.Option.{is_some}
use Rattle.serde_json.specs.Data.{Data, null, boolean, number, unsigned, string, array, object, Items, Members, no_members, member, put}
use Rattle.serde_json.specs.Written.{has_float, members_have_float}
use Rattle.serde_json.specs.Find.{as_array, as_object}
use Rattle.serde_json.specs.View.{view, items_view, members_view}
use Rattle.serde_json.specs.declared.value.Value.{Value}
use Rattle.sys_base.specs.Grid.{Extent, cell_count}
use Rattle.sys_base.specs.Names.{link_name, link_text}
use Rattle.sys_base.specs.declared.actor.Actor.{Actor}
use Rattle.sys_base.specs.declared.word.Word.{Word}
use Rattle.sys_base.specs.declared.word.Word.TheVariants.{Num, Fault as Faulty}
use Rattle.stream_io.specs.Checking.{entries_list, BreaksMember, BreaksSome, BreaksCount}
use Rattle.stream_io.specs.Reading.{items_list, members_list, list_of, integer_of, first_other, integers_at, key_of, lists_of, IsGood, AllGood, Breaks, FirstBroken, HasMembers, Means, IsFirstCount, Refuses}
use Rattle.stream_io.specs.Results.{word_data, words_data, outputs_below, with_next, result_data, meaning_data}
use Rattle.stream_io.specs.declared.error.InputError.{InputError}
use Rattle.stream_io.specs.declared.error.InputError.TheVariants.{NotJson, NotObject, UnknownCell, NotList, NotInteger, Count, Memory}
use Rattle.stream_io.specs.declared.report.Report.{Report}

pub items_list-view : (vs : List Value) → items_list (items_view vs) ≡ map view vs
items_list-view [] = refl
items_list-view (v ∷ vs) = ap (λ (r : List Data). view v ∷ r) (items_list-view vs)

-- a value that is an array has its items
list_of_array : (d : Data) (ds : Items) → Some ds ≡ as_array d → list_of d ≡ items_list ds
list_of_array null ds e = cc
list_of_array (boolean b) ds e = cc
list_of_array (number n) ds e = cc
list_of_array (string s) ds e = cc
list_of_array (array es) ds e = ap items_list (let same : ds ≡ es = cc in sym same)
list_of_array (object ms) ds e = cc

pub list_of_view : (d : Data) (vs : List Value) → Some (items_view vs) ≡ as_array d → list_of d ≡ map view vs
list_of_view d vs e = list_of_array d (items_view vs) e ∙ items_list-view vs

position_or_len-map : (p : Data → Bool) (vs : List Value) → position_or_len p (map view vs) ≡ position_or_len (λ v. p (view v)) vs
position_or_len-map p [] = refl
position_or_len-map p (v ∷ vs) = rw (position_or_len-map p vs) refl

position-map : (p : Data → Bool) (vs : List Value) → position p (map view vs) ≡ position (λ v. p (view v)) vs
position-map p vs = rw (position_or_len-map p vs, length-map) refl

pub first_other-view : (d : Data) (vs : List Value) → Some (items_view vs) ≡ as_array d
    → first_other d ≡ position (λ v. not (is_some (integer_of (view v)))) vs
first_other-view d vs e = ap (position (λ i. not (is_some (integer_of i)))) (list_of_view d vs e) ∙ position-map (λ i. not (is_some (integer_of i))) vs

filter_map-view : (vs : List Value) → filter_map integer_of (map view vs) ≡ filter_map (λ v. integer_of (view v)) vs
filter_map-view [] = refl
filter_map-view (v ∷ vs) = rw (filter_map-view vs) refl

pub integers_at-view : (d : Data) (vs : List Value) → Some (items_view vs) ≡ as_array d
    → integers_at (Some d) ≡ filter_map (λ v. integer_of (view v)) vs
integers_at-view d vs e = ap (filter_map integer_of) (list_of_view d vs e) ∙ filter_map-view vs

pub no_integers : (d : Data) → None ≡ as_array d → integers_at (Some d) ≡ []
no_integers null e = refl
no_integers (boolean b) e = refl
no_integers (number n) e = refl
no_integers (string s) e = refl
no_integers (array es) e = cc
no_integers (object ms) e = refl

pub no_other : (d : Data) → None ≡ as_array d → None ≡ first_other d
no_other null e = refl
no_other (boolean b) e = refl
no_other (number n) e = refl
no_other (string s) e = refl
no_other (array es) e = cc
no_other (object ms) e = refl

-- ---- members

object_of : (d : Data) (ms : Members) → Some ms ≡ as_object d → d ≡ object ms
object_of null ms e = cc
object_of (boolean b) ms e = cc
object_of (number n) ms e = cc
object_of (string s) ms e = cc
object_of (array es) ms e = cc
object_of (object ns) ms e = let same : ms ≡ ns = cc in ap object (sym same)

abbrev Entry : Type 0
Entry = String Global × Value

members_list-view : (es : List Entry) → entries_list es ≡ members_list (members_view es)
members_list-view [] = refl
members_list-view (e ∷ es) = ap (λ (r : List (List ℕ × Data)). (string_bytes e.0, view e.1) ∷ r) (members_list-view es)

pub has_members : (d : Data) (es : List Entry) → Some (members_view es) ≡ as_object d → HasMembers d (entries_list es)
has_members d es e = (members_view es, object_of d (members_view es) e, members_list-view es)

-- some members are good, and these are left
abbrev pub Checked : Extent → List Entry → List Entry → Type 0
Checked g all rest = (done : List (List ℕ × Data)) × (entries_list all ≡ done ++ entries_list rest) × AllGood g done

good_push : (g : Extent) (done : List (List ℕ × Data)) (m : List ℕ × Data) → AllGood g done → IsGood g m.0 m.1 → AllGood g (done ++ m ∷ [])
good_push g [] m good one = (one, tt)
good_push g (d ∷ done) m good one = (good.0, good_push g done m good.1 one)

pub one_more : (g : Extent) (all rest t : List Entry) (e : Entry) → Checked g all rest → rest ≡ e ∷ t → IsGood g (string_bytes e.0) (view e.1)
    → Checked g all t
one_more g all rest t e checked next good = (
  checked.0 ++ (string_bytes e.0, view e.1) ∷ [],
  checked.1 ∙ ap (λ (r : List Entry). checked.0 ++ entries_list r) next
      ∙ sym (append_assoc checked.0 ((string_bytes e.0, view e.1) ∷ []) (entries_list t)),
  good_push g checked.0 (string_bytes e.0, view e.1) checked.2 good,
)

first_broken : (g : Extent) (all rest t : List Entry) (e : Entry) (error : InputError) → Checked g all rest → rest ≡ e ∷ t
    → Breaks g (string_bytes e.0) (view e.1) error → FirstBroken g (entries_list all) error
first_broken g all rest t e error checked next broken = (
  checked.0,
  string_bytes e.0,
  view e.1,
  entries_list t,
  checked.1 ∙ ap (λ (r : List Entry). checked.0 ++ entries_list r) next,
  checked.2,
  broken,
)

pub broken_here : (g : Extent) (all rest t : List Entry) (e : Entry) (error : InputError) → Checked g all rest → rest ≡ e ∷ t
    → BreaksMember g (string_bytes e.0) (view e.1) error → BreaksSome g (entries_list all) error
broken_here g all rest t e NotJson checked next broken = broken
broken_here g all rest t e NotObject checked next broken = broken
broken_here g all rest t e (UnknownCell k) checked next broken = first_broken g all rest t e (UnknownCell k) checked next broken
broken_here g all rest t e (NotList k) checked next broken = first_broken g all rest t e (NotList k) checked next broken
broken_here g all rest t e (NotInteger k n) checked next broken = first_broken g all rest t e (NotInteger k n) checked next broken
broken_here g all rest t e (Count cell need has) checked next broken = broken
broken_here g all rest t e Memory checked next broken = tt

-- ---- the file

pub members_refused : (bytes : List ℕ) (g : Extent) (takes : List ℕ) (d : Data) (es : List Entry) (error : InputError) → Means bytes d
    → Some (members_view es) ≡ as_object d → BreaksSome g (entries_list es) error → Refuses bytes g takes error
members_refused bytes g takes d es NotJson means e broken = absurd broken
members_refused bytes g takes d es NotObject means e broken = absurd broken
members_refused bytes g takes d es (UnknownCell k) means e broken = (d, entries_list es, means, has_members d es e, broken)
members_refused bytes g takes d es (NotList k) means e broken = (d, entries_list es, means, has_members d es e, broken)
members_refused bytes g takes d es (NotInteger k n) means e broken = (d, entries_list es, means, has_members d es e, broken)
members_refused bytes g takes d es (Count cell need has) means e broken = absurd broken
members_refused bytes g takes d es Memory means e broken = tt

pub counts_refused : (bytes : List ℕ) (g : Extent) (takes : List ℕ) (d : Data) (es : List Entry) (lists : List (List ℤ)) (error : InputError)
    → Means bytes d → Some (members_view es) ≡ as_object d → AllGood g (entries_list es) → lists ≡ lists_of g d → BreaksCount takes lists error
    → Refuses bytes g takes error
counts_refused bytes g takes d es lists NotJson means e good same broken = absurd broken
counts_refused bytes g takes d es lists NotObject means e good same broken = absurd broken
counts_refused bytes g takes d es lists (UnknownCell k) means e good same broken = absurd broken
counts_refused bytes g takes d es lists (NotList k) means e good same broken = absurd broken
counts_refused bytes g takes d es lists (NotInteger k n) means e good same broken = absurd broken
counts_refused bytes g takes d es lists (Count cell need has) means e good same broken =
    (d, entries_list es, means, has_members d es e, good, subst (λ (ls : List (List ℤ)). IsFirstCount takes ls cell need has) same broken)
counts_refused bytes g takes d es lists Memory means e good same broken = tt

-- ---- what is printed has no float

put_float_at : (o : Ordering) (k l : List ℕ) (d e : Data) (ms : Members) → slice_cmp nat_cmp k l ≡ o → has_float d ≡ false → has_float e ≡ false
    → members_have_float ms ≡ false → members_have_float (put k d ms) ≡ false
    → members_have_float (match_ordering o (member k d (member l e ms)) (member l d ms) (member l e (put k d ms))) ≡ false
put_float_at Less k l d e ms is one other rest later = rw (one, other, rest) refl
put_float_at Equal k l d e ms is one other rest later = rw (one, rest) refl
put_float_at Greater k l d e ms is one other rest later = rw (other, later) refl

or_left : (a b : Bool) → (a || b) ≡ false → a ≡ false
or_left true b e = cc
or_left false b e = refl

or_right : (a b : Bool) → (a || b) ≡ false → b ≡ false
or_right true b e = cc
or_right false b e = e

put_float : (k : List ℕ) (d : Data) (ms : Members) → has_float d ≡ false → members_have_float ms ≡ false → members_have_float (put k d ms) ≡ false
put_float k d no_members one rest = rw one refl
put_float k d (member l e ms) one rest =
    put_float_at (slice_cmp nat_cmp k l) k l d e ms refl one (or_left (has_float e) (members_have_float ms) rest)
    (or_right (has_float e) (members_have_float ms) rest) (put_float k d ms one (or_right (has_float e) (members_have_float ms) rest))

word_float : (w : Word) → has_float (word_data w) ≡ false
word_float (Num (pos n)) = refl
word_float (Num (negsuc n)) = refl
word_float (Faulty fault) = refl

words_float : (ws : List Word) → has_float (words_data ws) ≡ false
words_float [] = refl
words_float (w ∷ ws) = rw (word_float w) (words_float ws)

outputs_float_at : (t : Bool) (k : List ℕ) (d : Data) (ms : Members) → has_float d ≡ false → members_have_float ms ≡ false
    → members_have_float (if t then ms else put k d ms) ≡ false
outputs_float_at true k d ms one rest = rest
outputs_float_at false k d ms one rest = put_float k d ms one rest

outputs_float : (g : Extent) (outputs : List (List Word)) (emits : List ℕ) (n : ℕ) → members_have_float (outputs_below g outputs emits n) ≡ false
outputs_float g outputs emits zero = refl
outputs_float g outputs emits (suc n) = outputs_float_at (get_or emits n 0 == 0) (key_of g n) (words_data (get_or outputs n []))
    (outputs_below g outputs emits n) (words_float (get_or outputs n [])) (outputs_float g outputs emits n)

peaks_float_from : (g : Extent) (peaks : List (ℕ × ℕ)) (ms : Members) → members_have_float ms ≡ false
    → members_have_float (fold (λ ms peak. put (link_text (link_name g.cols peak.0)) (number (unsigned peak.1)) ms) ms peaks) ≡ false
peaks_float_from g [] ms none = none
peaks_float_from g (p ∷ peaks) ms none =
    peaks_float_from g peaks _ (put_float (link_text (link_name g.cols p.0)) (number (unsigned p.1)) ms refl none)

pub meaning_float : (g : Extent) (outputs : List (List Word)) (emits : List ℕ) → has_float (meaning_data g outputs emits) ≡ false
meaning_float g outputs emits = rw (outputs_float g outputs emits (cell_count g)) refl

next_float : (finished : Bool) (next : Option Actor) (ms : Members) → members_have_float ms ≡ false
    → members_have_float (with_next finished next ms) ≡ false
next_float false (Some actor) ms none = none
next_float false None ms none = none
next_float true next ms none = none

pub result_float : (g : Extent) (report : Report) → has_float (result_data g report) ≡ false
result_float g report = next_float report.finished report.next _
    (rw (outputs_float g report.outputs.cells report.emits (cell_count g), peaks_float_from g report.peaks no_members refl) refl)
