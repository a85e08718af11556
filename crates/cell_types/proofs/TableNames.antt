-- The messages of a table by their names.
use Rattle.std.proofs.Common.{ℕ, ◌≡◌, ◌<◌, List, [], Some, None, Bor, length, map, position, get_or, sym, ap, ◌∙◌, arith}
use Rattle.std.specs.List.{zip}
use Rattle.std.specs.Str.{bytes_eq}
use Rattle.std.proofs.lemmas.List.{get_or-map, length-map}
use Rattle.std.proofs.lemmas.Simd.{map-map}
use Rattle.std.proofs.lemmas.List.Quantifiers.{position-Some}
use Rattle.std.proofs.lemmas.Option.{slice_get-get_or}
use Rattle.std.proofs.lemmas.Slice.Eq.{bytes_eq-Decides}
use Rattle.std.proofs.lemmas.Slice.Zip.{firsts-zip, seconds-zip}
use Rattle.cell_types.specs.Names.{NamedMessage}
use Rattle.cell_types.specs.bodies.Tables.{named_with, index_named, message_with_name}
use Rattle.cell_types.specs.declared.table.Ends.{Ends}
use Rattle.cell_types.proofs.FirstPlaces.{position-map, find_at_place, find_nowhere}
use Rattle.cell_types.specs.bodies.Scopes.{place_of}

-- the messages of these keys and ends
abbrev pub named : List (Bor (List ℕ)) → List Ends → List NamedMessage
named keys ends = map (λ message. named_with message.0.now message.1) (zip keys ends)

-- the ends of a message
abbrev ends_of : NamedMessage → Ends
ends_of m = record { from = m.sender; to = m.receiver }

-- the ends of the messages are those of the table
pub ends_named : (keys : List (Bor (List ℕ))) (ends : List Ends) → length keys ≡ length ends → map ends_of (named keys ends) ≡ ends
ends_named keys ends even =
    map-map ends_of (λ (p : Bor (List ℕ) × Ends). named_with p.0.now p.1) (zip keys ends) ∙ seconds-zip keys ends (sym even)

module _ (keys : List (Bor (List ℕ))) (ends : List Ends) (name : List ℕ) (even : length keys ≡ length ends) where
  -- a name's index among the messages is its place in the set
  pub named_index : place_of (map (λ k. k.now) keys) name ≡ index_named (named keys ends) name
  named_index =
      position-map (λ n. bytes_eq n name) (λ (k : Bor (List ℕ)). k.now) keys
      ∙ ap (position (λ k. bytes_eq k.now name)) (sym (firsts-zip keys ends (sym even)))
      ∙ position-map (λ k. bytes_eq k.now name) (λ (p : Bor (List ℕ) × Ends). p.0) (zip keys ends)
      ∙ sym (position-map (λ (m : NamedMessage). bytes_eq m.name name) (λ p. named_with p.0.now p.1) (zip keys ends))

  -- the message of a name stands at the index
  pub named_message_at : (i : ℕ) (e : Ends) → place_of (map (λ k. k.now) keys) name ≡ Some i → e ≡ get_or ends i e
      → Some (named_with name e) ≡ message_with_name (named keys ends) name
  named_message_at i e at read =
      let m : NamedMessage = get_or (named keys ends) i (named_with name e) in
      let place : index_named (named keys ends) name ≡ Some i = sym named_index ∙ at in
      let h = position-Some (λ (n : NamedMessage). bytes_eq n.name name) (named keys ends) i (named_with name e) place in
      let found : message_with_name (named keys ends) name ≡ Some m =
      find_at_place (λ (n : NamedMessage). bytes_eq n.name name) (named keys ends) i place
      ∙ slice_get-get_or (named keys ends) i (named_with name e) h.0 in
      let same_name : m.name ≡ name = (bytes_eq-Decides m.name name).0 h.1 in
      let same_ends : e ≡ ends_of m =
      read ∙ ap (λ es. get_or es i e) (sym (ends_named keys ends even)) ∙ get_or-map ends_of (named keys ends) i (named_with name e) e h.0 in
      ap (λ es. Some (named_with name es)) same_ends ∙ ap (λ n. Some (named_with n (ends_of m))) (sym same_name) ∙ sym found

  -- it is below the number of the messages
  pub index_below : (i : ℕ) → place_of (map (λ k. k.now) keys) name ≡ Some i → i < length ends
  index_below i at =
      let h = position-Some (λ n. bytes_eq n name) (map (λ k. k.now) keys) i [] at in
      let count = length-map keys (λ (k : Bor (List ℕ)). k.now) in
      omega arith

  -- and there is none where the name has no index
  pub no_message_named : place_of (map (λ k. k.now) keys) name ≡ None → message_with_name (named keys ends) name ≡ None
  no_message_named none =
      find_nowhere (λ (m : NamedMessage). bytes_eq m.name name) (named keys ends) (sym named_index ∙ none)
