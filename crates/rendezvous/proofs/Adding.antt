-- What a cell alone does only adds to what it has communicated, written and emitted.
use Rattle.std.proofs.Common.{◌≡◌, ℕ, zero, suc, ◌+◌, Bool, true, false, cond, nat_eq, nat_lt, if◌then◌else◌, ℤ, pos, negsuc, List, [], ◌∷◌, ◌++◌, length, append-nil, append_assoc, refl, sym, ap, ◌∙◌, arith}
use Rattle.std.proofs.lemmas.List.{length-append}
use Rattle.std.proofs.lemmas.List.Sums.{sum_by-append, sum_by-cons}
use Rattle.sys_base.specs.Communications.{Communication, Writes, Reads, Takes, Emits, times}
use Rattle.sys_base.specs.Held.{Held, Streams, given, tested, with_element}
use Rattle.sys_base.specs.declared.word.Word.{Word}
use Rattle.sys_base.specs.declared.word.Word.TheVariants.{Num, Fault as Faulty}
use Rattle.cell_types.specs.Code.{Action, Set, SetAt, Write, Read, Take, Emit, For, If, Block, End, Then}
use Rattle.cell_types.specs.Solo.{Solo, counting, do_action, do_block, turns_from, value_of}
use Rattle.rendezvous.proofs.Counted.{counts, words_both, words_in, words_one}

-- The second cell is the first one with more communications, and with the words of those.
pub record Adds (s t : Solo) : Type 0 where
  pub made : List Communication
  pub sent : List (ℕ × Word)
  pub output : List Word
  pub makes : t.made ≡ s.made ++ made
  pub sends : t.sent ≡ s.sent ++ sent
  pub emits : t.held.output ≡ s.held.output ++ output
  pub written : (m : ℕ) → length (words_in m sent) ≡ times (Writes m) made
  pub emitted : length output ≡ times Emits made

-- nothing is added
pub adds_nothing : (s t : Solo) → t.made ≡ s.made → t.sent ≡ s.sent → t.held.output ≡ s.held.output → Adds s t
adds_nothing s t made sent output =
    record {
      made = [];
      sent = [];
      output = [];
      makes = made ∙ sym (append-nil s.made);
      sends = sent ∙ sym (append-nil s.sent);
      emits = output ∙ sym (append-nil s.held.output);
      written = λ m. refl;
      emitted = refl;
    }

-- more is added
pub adds_more : (a b c : Solo) → Adds a b → Adds b c → Adds a c
adds_more a b c p q =
    record {
      made = p.made ++ q.made;
      sent = p.sent ++ q.sent;
      output = p.output ++ q.output;
      makes = q.makes ∙ ap (λ xs. xs ++ q.made) p.makes ∙ append_assoc a.made p.made q.made;
      sends = q.sends ∙ ap (λ xs. xs ++ q.sent) p.sends ∙ append_assoc a.sent p.sent q.sent;
      emits = q.emits ∙ ap (λ xs. xs ++ q.output) p.emits ∙ append_assoc a.held.output p.output q.output;
      written = λ m.
          let both = ap length (words_both m p.sent q.sent) in
          let long = length-append (words_in m p.sent) (words_in m q.sent) in
          let one = p.written m in
          let other = q.written m in
          let all = sum_by-append (counts (Writes m)) p.made q.made in
          omega (arith, both, long, one, other, all);
      emitted =
          let long = length-append p.output q.output in
          let all = sum_by-append (counts Emits) p.made q.made in
          omega (arith, long, p.emitted, q.emitted, all);
    }

length_one : (b : Bool) (w : Word) → length (cond b (w ∷ []) []) ≡ cond b 1 0
length_one true w = refl
length_one false w = refl

-- one word is written
adds_word : (s t : Solo) (n : ℕ) (w : Word) → t.made ≡ s.made ++ Writes n ∷ [] → t.sent ≡ s.sent ++ (n, w) ∷ []
    → t.held.output ≡ s.held.output → Adds s t
adds_word s t n w made sent output =
    record {
      made = Writes n ∷ [];
      sent = (n, w) ∷ [];
      output = [];
      makes = made;
      sends = sent;
      emits = output ∙ sym (append-nil s.held.output);
      written = λ m.
          ap length (words_one m n w) ∙ length_one (nat_eq m n) w
          ∙ sym (sum_by-cons (counts (Writes m)) (Writes n) [] ∙ omega arith);
      emitted = refl;
    }

-- one communication is made by which no word is given out
adds_silent : (s t : Solo) (c : Communication) → t.made ≡ s.made ++ c ∷ [] → t.sent ≡ s.sent → t.held.output ≡ s.held.output
    → ((m : ℕ) → 0 ≡ times (Writes m) (c ∷ [])) → 0 ≡ times Emits (c ∷ []) → Adds s t
adds_silent s t c made sent output writes emits =
    record {
      made = c ∷ [];
      sent = [];
      output = [];
      makes = made;
      sends = sent ∙ sym (append-nil s.sent);
      emits = output ∙ sym (append-nil s.held.output);
      written = writes;
      emitted = emits;
    }

-- ---- statements

either_output : (b : Bool) (x y : Held) (output : List Word) → x.output ≡ output → y.output ≡ output
    → (if b then x else y).output ≡ output
either_output true x y output h g = h
either_output false x y output h g = g

element_output : (h : Held) (base len : ℕ) (index value : Word) (cell line : ℕ)
    → (with_element h base len index value cell line).output ≡ h.output
element_output h base len (Faulty fault) value cell line = refl
element_output h base len (Num (negsuc n)) value cell line = refl
element_output h base len (Num (pos n)) value cell line = either_output (nat_lt n len) _ _ h.output refl refl

pub test_output : (h : Held) (test : Word) → (tested h test).output ≡ h.output
test_output h (Faulty fault) = refl
test_output h (Num n) = refl

either_adds : (b : Bool) (s x y : Solo) → Adds s x → Adds s y → Adds s (if b then x else y)
either_adds true s x y p q = p
either_adds false s x y p q = q

pub adds_turns : (body : ℕ → Solo → Solo) → ((turn : ℕ) (s : Solo) → Adds s (body turn s)) → (first count : ℕ) (s : Solo)
    → Adds s (turns_from body first count s)
adds_turns body each first zero s = adds_nothing s s refl refl refl
adds_turns body each first (suc count) s =
    adds_more s (body first s) _ (each first s) (adds_turns body each (first + 1) count (body first s))

module _ (cell : ℕ) (input : List ℤ) (v : Streams) where
  mutual
    -- a statement
    pub adds_action : (line : ℕ) (a : Action) (s : Solo) → Adds s (do_action cell input v line a s)
    adds_action line (Set word value) s = adds_nothing s _ refl refl refl
    adds_action line (SetAt base len index value) s =
        adds_nothing s _ refl refl
        (element_output s.held base len (value_of cell line s.held index) (value_of cell line s.held value) cell line)
    adds_action line (Write message value) s =
        adds_word s _ message (given s.held.kept (value_of cell line s.held value)) refl refl refl
    adds_action line (Read message word) s = adds_silent s _ (Reads message) refl refl refl (λ m. refl) refl
    adds_action line (Take word) s = adds_silent s _ Takes refl refl refl (λ m. refl) refl
    adds_action line (Emit value) s =
        record {
          made = Emits ∷ [];
          sent = [];
          output = given s.held.kept (value_of cell line s.held value) ∷ [];
          makes = refl;
          sends = sym (append-nil s.sent);
          emits = refl;
          written = λ m. refl;
          emitted = refl;
        }
    adds_action line (For depth turns body) s =
        let body_of = λ (turn : ℕ) (now : Solo). do_block cell input v body (counting depth turn now) in
        let last = turns_from body_of 0 turns s in
        adds_more s last (counting depth turns last)
        (adds_turns body_of
        (λ turn now. adds_more now (counting depth turn now) _ (adds_nothing now (counting depth turn now) refl refl refl)
        (adds_block body (counting depth turn now))) 0 turns s)
        (adds_nothing last (counting depth turns last) refl refl refl)
    adds_action line (If test first second) s =
        let word = value_of cell line s.held test in
        let now : Solo = record s { held = tested s.held word } in
        let same = adds_nothing s now refl refl (test_output s.held word) in
        either_adds _ s (do_block cell input v first now) (do_block cell input v second now)
        (adds_more s now _ same (adds_block first now)) (adds_more s now _ same (adds_block second now))

    -- statements
    pub adds_block : (b : Block) (s : Solo) → Adds s (do_block cell input v b s)
    adds_block End s = adds_nothing s s refl refl refl
    adds_block (Then line action rest) s =
        let now = do_action cell input v line action s in
        adds_more s now _ (adds_action line action s) (adds_block rest now)
