-- The images of messages, one after another.
use Rattle.std.proofs.Common.{◌≡◌, ℕ, zero, suc, ◌+◌, ◌<◌, List, [], ◌∷◌, ◌++◌, length, get_or, slice_index, take, sym, ap, subst, ◌∙◌, arith}
use Rattle.std.proofs.lemmas.List.FromFn.{get_or-map-range_with_len}
use Rattle.cell_code.specs.declared.image.MessageImage.{MessageImage}
use Rattle.cell_types.specs.Code.{ProgramCode}
use Rattle.cell_types.specs.Communications.{length_of}
use Rattle.cell_types.specs.Typed.{Contents, plain}
use Rattle.cell_types.specs.declared.program.Message.{Message}
use Rattle.comm_sequence.specs.Sequences.{Sequences, sequences_of}
use Rattle.program_image.specs.ImageOf.{message_image, messages_from}

more_from : (p : ProgramCode) (labels : List ℕ) (i : ℕ) (ms : List Message) (k : ℕ) (x : Message) → k < length ms
    → x ≡ get_or ms k x
    → messages_from p labels i (take (k + 1) ms) ≡ messages_from p labels i (take k ms) ++ message_image p labels (i + k) x ∷ []
more_from p labels i [] k x inside is = absurd (omega (arith, inside))
more_from p labels i (m ∷ ms) zero x inside is =
    let e : i ≡ i + 0 = omega arith in
    ap (λ n. message_image p labels n m ∷ []) e ∙ ap (λ y. message_image p labels (i + 0) y ∷ []) (sym is)
more_from p labels i (m ∷ ms) (suc k) x inside is =
    let e : i + 1 + k ≡ i + suc k = omega arith in
    let s : suc k + 1 ≡ suc (k + 1) = omega arith in
    ap (λ (n : ℕ). messages_from p labels i (take n (m ∷ ms))) s
    ∙ ap (λ (r : List MessageImage). message_image p labels i m ∷ r) (more_from p labels (i + 1) ms k x (omega (arith, inside)) is
    ∙ ap (λ n. messages_from p labels (i + 1) (take k ms) ++ message_image p labels n x ∷ []) e)

-- one message more
pub messages_step : (program : Contents) (labels : List ℕ) (s : Sequences) (items : List Message) (i : ℕ) (x : Message)
    (len : ℕ) (old new : List MessageImage) (image : MessageImage)
    → s ≡ sequences_of (plain program) → items ≡ program.messages → i < length items → x ≡ get_or items i x
    → len ≡ slice_index s.lengths i
    → image ≡ record { from = x.from; to = x.to; length = len; label = slice_index labels i; route = x.route }
    → old ≡ messages_from (plain program) labels 0 (take i program.messages) → new ≡ old ++ image ∷ []
    → new ≡ messages_from (plain program) labels 0 (take (i + 1) program.messages)
messages_step program labels s items i x len old new image seqs same inside is len_is image_is so_far step =
    let p = plain program in
    let e : 0 + i ≡ i = omega arith in
    let within : i < length program.messages = subst (λ (ms : List Message). i < length ms) same inside in
    let at : x ≡ get_or program.messages i x = subst (λ (ms : List Message). x ≡ get_or ms i x) same is in
    let count : len ≡ length_of p i =
    len_is ∙ ap (λ (s : Sequences). slice_index s.lengths i) seqs
    ∙ get_or-map-range_with_len (length_of p) 0 (length program.messages) i i 0 within e in
    let its : image ≡ message_image p labels (0 + i) x =
    image_is ∙ ap (λ (n : ℕ). record { from = x.from; to = x.to; length = n; label = slice_index labels i; route = x.route }) count
    ∙ ap (λ n. message_image p labels n x) (sym e) in
    step ∙ ap (λ (y : MessageImage). old ++ y ∷ []) its
    ∙ ap (λ (ys : List MessageImage). ys ++ message_image p labels (0 + i) x ∷ []) so_far
    ∙ sym (more_from p labels 0 program.messages i x within at)
