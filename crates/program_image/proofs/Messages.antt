-- The messages of the image of a program.
use Rattle.std.proofs.Common.{◌≡◌, ℕ, zero, suc, ◌+◌, List, [], ◌∷◌, Some, map, option_map, length, slice_get, slice_index, refl, sym, ap, ◌∙◌, arith}
use Rattle.std.proofs.Math.ListN as N
use Rattle.std.proofs.lemmas.List.FromFn.{fill_by_all}
use Rattle.std.proofs.lemmas.Option.{get_or_from_slice_get}
use Rattle.std.specs.List.{range_with_len}
use Rattle.cell_code.specs.Marks.{message_of, no_message}
use Rattle.cell_code.specs.declared.image.MessageImage.{MessageImage}
use Rattle.cell_types.specs.Code.{ProgramCode}
use Rattle.cell_types.specs.Communications.{length_of}
use Rattle.cell_types.specs.Groups.{lengths_of, routes_of}
use Rattle.cell_types.specs.declared.program.Message.{Message}
use Rattle.program_image.specs.ImageOf.{image_of, message_image, messages_from, messages_of}

module _ (program : ProgramCode) (labels : List ℕ) where
  made_long : (i : ℕ) (ms : List Message) → length (messages_from program labels i ms) ≡ length ms
  made_long i [] = refl
  made_long i (m ∷ ms) = ap suc (made_long (i + 1) ms)

  made_routes : (i : ℕ) (ms : List Message)
      → map (λ (m : MessageImage). m.route) (messages_from program labels i ms) ≡ map (λ (m : Message). m.route) ms
  made_routes i [] = refl
  made_routes i (m ∷ ms) = ap (λ r. m.route ∷ r) (made_routes (i + 1) ms)

  made_labels : (i : ℕ) (ms : List Message)
      → map (λ (m : MessageImage). m.label) (messages_from program labels i ms)
      ≡ map (slice_index labels) (range_with_len i (length ms))
  made_labels i [] = refl
  made_labels i (m ∷ ms) = ap (λ r. slice_index labels i ∷ r) (made_labels (i + 1) ms)

  made_lengths : (i : ℕ) (ms : List Message)
      → map (λ (m : MessageImage). m.length) (messages_from program labels i ms)
      ≡ map (length_of program) (range_with_len i (length ms))
  made_lengths i [] = refl
  made_lengths i (m ∷ ms) = ap (λ r. length_of program i ∷ r) (made_lengths (i + 1) ms)

  made_at : (i : ℕ) (ms : List Message) (k : ℕ)
      → slice_get (messages_from program labels i ms) k ≡ option_map (message_image program labels (i + k)) (slice_get ms k)
  made_at i [] k = refl
  made_at i (m ∷ ms) zero = let e : i ≡ i + 0 = omega arith in ap (λ n. Some (message_image program labels n m)) e
  made_at i (m ∷ ms) (suc k) =
      let e : i + 1 + k ≡ i + suc k = omega arith in
      made_at (i + 1) ms k ∙ ap (λ n. option_map (message_image program labels n) (slice_get ms k)) e

  -- ---- all of them

  pub many : length (messages_of program labels) ≡ length program.messages
  many = made_long 0 program.messages

  pub routes_are : map (λ (m : MessageImage). m.route) (messages_of program labels) ≡ routes_of program
  routes_are = made_routes 0 program.messages

  pub lengths_are : map (λ (m : MessageImage). m.length) (messages_of program labels) ≡ lengths_of program
  lengths_are = made_lengths 0 program.messages

  pub labels_are : length labels ≡ length program.messages
      → map (λ (m : MessageImage). m.label) (messages_of program labels) ≡ labels
  labels_are long =
      made_labels 0 program.messages ∙ sym (fill_by_all (slice_index labels) labels (length program.messages) 0 long (λ k l. refl))

  -- ---- each of them

  pub got : (m : ℕ) (x : Message) → slice_get program.messages m ≡ Some x
      → slice_get (messages_of program labels) m ≡ Some (message_image program labels m x)
  got m x is =
      let e : 0 + m ≡ m = omega arith in
      made_at 0 program.messages m ∙ ap (option_map (message_image program labels (0 + m))) is
      ∙ ap (λ n. Some (message_image program labels n x)) e

  pub message_is : (m : ℕ) (x : Message) → slice_get program.messages m ≡ Some x
      → message_of (image_of program labels) m ≡ message_image program labels m x
  message_is m x is =
      get_or_from_slice_get (messages_of program labels) m (message_image program labels m x) no_message (got m x is)

  -- the label of a message, and of one that is not there
  pub label_is : length labels ≡ length program.messages → (m : ℕ)
      → (message_of (image_of program labels) m).label ≡ slice_index labels m
  label_is long m =
      sym (N.get_or-map (λ (x : MessageImage). x.label) (messages_of program labels) m no_message)
      ∙ ap (λ ls. slice_index ls m) (labels_are long)
