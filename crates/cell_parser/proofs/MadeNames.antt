-- The names that have been made, by their bytes.
use Rattle.std.proofs.Common.{ℕ, ◌≡◌, Bool, true, List, All, Bor, Some, None, Result, Ok, Err, OnOk, OnErr, sym, subst, ◌∙◌}
use Rattle.std.specs.Map.{lookup}
use Rattle.std.proofs.lemmas.List.Elements.{All-push}
use Rattle.std.proofs.lemmas.Map.Entries.{place_from_lookup}
use Rattle.std.proofs.lemmas.Option.{slice_get_within, get_or_from_slice_get}
use Rattle.indexmap.specs.IndexMap.{IndexMap, get, insert_entry, IsUnchanged}
use Rattle.indexmap.proofs.CallerLemmas.{insert_entry-new}

-- a name and the bytes by which it is found
abbrev pub Entry : Type 0
Entry = Bor (List ℕ) × List ℕ

-- The name has these bytes.
abbrev pub Same : Entry → Type 0
Same entry = entry.1 ≡ entry.0.now

-- a name that is found by some bytes has these
pub found_same : (bytes : List ℕ) (test : Bor (List ℕ) → Bool) → ((k : Bor (List ℕ)) → test k ≡ true → bytes ≡ k.now)
    → (entries : List Entry) (name : List ℕ) → All Same entries → lookup test entries ≡ Some name → name ≡ bytes
found_same bytes test says entries name all found =
    let p = place_from_lookup test entries name found in
    let at : Entry = (p.1, name) in
    let same = subst Same (get_or_from_slice_get entries p.0 at at p.2) (all p.0 at (slice_get_within entries p.0 at p.2)) in
    same ∙ sym (says p.1 p.3)

-- a name that is added with its bytes leaves each with its bytes, as does one for which there is no memory
pub added_same : {S A E : Type 0} (eq : Bor (List ℕ) → Bor (List ℕ) → Bool) (old new : IndexMap (Bor (List ℕ)) (List ℕ) S)
    (k : Bor (List ℕ)) (name : List ℕ) (r : Result A E) → All Same old.entries → name ≡ k.now → get eq old k ≡ None
    → OnOk r (new.entries ≡ insert_entry eq old.entries k name) → OnErr r (IsUnchanged old new) → All Same new.entries
added_same eq old new k name (Ok a) all is none added kept =
    subst (All Same) (sym (added ∙ insert_entry-new eq old k name none)) (All-push Same old.entries (k, name) all is)
added_same eq old new k name (Err e) all is none added kept = subst (All Same) (sym kept) all
