-- The cells of operations.
use Rattle.std.proofs.Common.{◌≡◌, ◌≢◌, ℕ, ◌+◌, ◌<◌, ◌∙◌, false, List, [], Option, None, Some, All, length, drop, nat_eq, Contains, IfSome, slice_get, slice_index_or, sym, ap, refl, arith}
use Rattle.std.specs.Option.{option_map, option_map_or}
use Rattle.std.proofs.lemmas.List.Elements.{All-contains, All-drop, All-get_or, All-weaker}
use Rattle.std.proofs.lemmas.List.{length-drop, get_or-drop}
use Rattle.std.proofs.lemmas.Option.{slice_get_within, get_or_from_slice_get}
use Rattle.comm_sequence.specs.BufferedOrder.{is_of}
use Rattle.comm_sequence.specs.Sequences.{Sequences, IsSequences, message_of}
use Rattle.comm_sequence.specs.declared.comm.Comm.{Comm}
use Rattle.comm_sequence.specs.declared.comm.Comm.TheVariants.{Write, Read}
use Rattle.crossing_off.specs.Greedy.{cell_of, front, made, rest}
use Rattle.crossing_off.specs.bodies.Waiting.{MayWait}
use Rattle.crossing_off.proofs.Lists.{is_there, Contains-from_slice_get}

-- a message goes from one cell to another one
pub record HasEnds (s : Sequences) (m : ℕ) : Type 0 where
  pub sender : ℕ
  pub receiver : ℕ
  pub is : slice_get s.ends m ≡ Some (sender, receiver)
  pub sender_in : sender < length s.lists
  pub receiver_in : receiver < length s.lists
  pub apart : sender ≢ receiver

-- a message with these ends
abbrev pub has_ends_at : (s : Sequences) (m : ℕ) (e : ℕ × ℕ) → IsSequences s → slice_get s.ends m ≡ Some e → HasEnds s m
has_ends_at s m e sound is =
    let c = Contains-from_slice_get s.ends m e is in
    let within = All-contains (λ (e : ℕ × ℕ). (e.0 < length s.lists) × (e.1 < length s.lists)) s.ends e sound.within c in
    record {
      sender = e.0;
      receiver = e.1;
      is = is;
      sender_in = within.0;
      receiver_in = within.1;
      apart = All-contains (λ (e : ℕ × ℕ). e.0 ≢ e.1) s.ends e sound.apart c;
    }

-- a message that is there
pub has_ends : (s : Sequences) (m : ℕ) → IsSequences s → m < length s.ends → HasEnds s m
has_ends s m sound l = let e = is_there s.ends m l in has_ends_at s m e.0 sound e.1

-- the cell of an operation
pub record HasCell (s : Sequences) (e : Comm) : Type 0 where
  pub cell : ℕ
  pub is : cell_of s.ends e ≡ Some cell
  pub within : cell < length s.lists
  pub own : (c : ℕ) → is_of s.ends c e ≡ nat_eq cell c

-- an operation on a message that is there
pub has_cell : (s : Sequences) (e : Comm) → IsSequences s → message_of e < length s.ends → HasCell s e
has_cell s (Write m) sound l =
    let h = has_ends s m sound l in
    record {
      cell = h.sender;
      is = ap (option_map (λ (e : ℕ × ℕ). e.0)) h.is;
      within = h.sender_in;
      own = λ c. ap (λ o. option_map_or (λ (e : ℕ × ℕ). nat_eq e.0 c) o false) h.is;
    }
has_cell s (Read m) sound l =
    let h = has_ends s m sound l in
    record {
      cell = h.receiver;
      is = ap (option_map (λ (e : ℕ × ℕ). e.1)) h.is;
      within = h.receiver_in;
      own = λ c. ap (λ o. option_map_or (λ (e : ℕ × ℕ). nat_eq e.1 c) o false) h.is;
    }

-- the write and the read of a message are in different cells
pub cells_differ : (s : Sequences) (m a b : ℕ) → IsSequences s → cell_of s.ends (Write m) ≡ Some a → cell_of s.ends (Read m) ≡ Some b → a ≢ b
cells_differ s m a b sound w r = at (slice_get s.ends m) refl w r
  where
    at : (o : Option (ℕ × ℕ)) → slice_get s.ends m ≡ o → option_map (λ (e : ℕ × ℕ). e.0) o ≡ Some a
        → option_map (λ (e : ℕ × ℕ). e.1) o ≡ Some b → a ≢ b
    at None e w r = absurd (cc w)
    at (Some x) e w r = λ same.
        let h = has_ends_at s m x sound e in
        let first : x.0 ≡ a = cc in
        let second : x.1 ≡ b = cc in
        h.apart (first ∙ same ∙ sym second)

-- the first operation that is left is one of the list
first_contains : (n : ℕ) (list : List Comm) (e : Comm) → slice_get (drop n list) 0 ≡ Some e → Contains list e
first_contains n list e h =
    let l = slice_get_within (drop n list) 0 e h in
    let at = get_or_from_slice_get (drop n list) 0 e e h in
    let place : n + 0 < length list = omega (arith, length-drop n list) in
    (n + 0, place, sym (get_or-drop n list 0 e) ∙ at)

-- the first operation that is left is on a message
pub front_known : (s : Sequences) (crossed : List Comm) (c : ℕ) (e : Comm) → IsSequences s → c < length s.lists
    → front s crossed c ≡ Some e → message_of e < length s.ends
front_known s crossed c e sound l h =
    let list : List Comm = slice_index_or s.lists c [] in
    let known = All-get_or (λ list. All (λ e. message_of e < length s.ends) list) s.lists c [] l sound.known in
    All-contains (λ e. message_of e < length s.ends) list e known (first_contains _ list e h)

-- the operations of a cell's list may wait
list_may_wait : (s : Sequences) (c : ℕ) → IsSequences s → c < length s.lists → All MayWait (slice_index_or s.lists c [])
list_may_wait s c sound l =
    All-weaker (λ e. message_of e < length s.ends) MayWait (λ e known. omega (arith, known, sound.messages)) (slice_index_or s.lists c [])
    (All-get_or (λ list. All (λ e. message_of e < length s.ends) list) s.lists c [] l sound.known)

-- so may those that are left of it
pub rest_may_wait : (s : Sequences) (crossed : List Comm) (c : ℕ) → IsSequences s → c < length s.lists → All MayWait (rest s crossed c)
rest_may_wait s crossed c sound l = All-drop MayWait (length (made s crossed c)) (slice_index_or s.lists c []) (list_may_wait s c sound l)

-- and so may the first one that is left
pub first_may_wait : (n : ℕ) (list : List Comm) (o : Option Comm) → All MayWait list → o ≡ slice_get (drop n list) 0 → IfSome o MayWait
first_may_wait n list None all is = tt
first_may_wait n list (Some e) all is = All-contains MayWait list e all (first_contains n list e (sym is))

-- an operation whose cell is known is on a message
pub cell_known : (s : Sequences) (e : Comm) (c : ℕ) → cell_of s.ends e ≡ Some c → message_of e < length s.ends
cell_known s (Write m) c h = at (slice_get s.ends m) refl h
  where
    at : (o : Option (ℕ × ℕ)) → slice_get s.ends m ≡ o → option_map (λ (e : ℕ × ℕ). e.0) o ≡ Some c → m < length s.ends
    at None e h = absurd (cc h)
    at (Some x) e h = slice_get_within s.ends m x e
cell_known s (Read m) c h = at (slice_get s.ends m) refl h
  where
    at : (o : Option (ℕ × ℕ)) → slice_get s.ends m ≡ o → option_map (λ (e : ℕ × ℕ). e.1) o ≡ Some c → m < length s.ends
    at None e h = absurd (cc h)
    at (Some x) e h = slice_get_within s.ends m x e
