-- Statements leave the counters of the loops around them, and the number of counters.
use Rattle.std.proofs.Common.{◌≡◌, ℕ, zero, suc, ◌+◌, ◌<◌, ◌≤◌, Bool, true, false, if◌then◌else◌, nat_lt, ℤ, pos, negsuc, List, length, get_or, refl, ◌∙◌, ap, subst, arith}
use Rattle.std.proofs.lemmas.List.{length-set, get_or-set_other}
use Rattle.sys_base.specs.Held.{Held, Streams, counter, with_counter, with_element, tested, takes_first}
use Rattle.sys_base.specs.declared.word.Word.{Word}
use Rattle.sys_base.specs.declared.word.Word.TheVariants.{Num, Fault as Faulty}
use Rattle.cell_types.specs.Code.{Action, Set, SetAt, Write, Read, Take, Emit, For, If, Block, End, Then}
use Rattle.cell_types.specs.Solo.{Solo, value_of, turns_from, counting, do_action, do_block}
use Rattle.cell_types.specs.Sound.{Means, SoundAction, SoundBlock}

-- counters below a depth, and their number, are as before
pub record Kept (depth : ℕ) (old new : Held) : Type 0 where
  pub below : (k : ℕ) → k < depth → counter new k ≡ counter old k
  pub count : length new.counters ≡ length old.counters

kept : (depth : ℕ) (old new : Held) → new.counters ≡ old.counters → Kept depth old new
kept depth old new e = record { below = λ k h. ap (λ cs. get_or cs k 0) e; count = ap length e }

on : (depth : ℕ) (a b c : Held) → Kept depth a b → Kept depth b c → Kept depth a c
on depth a b c p q = record { below = λ k h. q.below k h ∙ p.below k h; count = q.count ∙ p.count }

less : (depth deeper : ℕ) (a b : Held) → depth ≤ deeper → Kept deeper a b → Kept depth a b
less depth deeper a b h p = record { below = λ k less. p.below k (omega arith); count = p.count }

counted : (depth : ℕ) (h : Held) (value : ℕ) → Kept depth h (with_counter h depth value)
counted depth h value =
    record {
      below = λ k less. get_or-set_other h.counters depth k value 0 (λ e. omega arith);
      count = length-set h.counters depth value;
    }

choice : (b : Bool) (h x y : Held) → x.counters ≡ h.counters → y.counters ≡ h.counters → (if b then x else y).counters ≡ h.counters
choice true h x y p q = p
choice false h x y p q = q

element_kept : (h : Held) (base len : ℕ) (index value : Word) (cell line : ℕ) →
    (with_element h base len index value cell line).counters ≡ h.counters
element_kept h base len (Faulty fault) value cell line = refl
element_kept h base len (Num (negsuc n)) value cell line = refl
element_kept h base len (Num (pos n)) value cell line = choice (nat_lt n len) h _ _ refl refl

pub test_kept : (h : Held) (test : Word) → (tested h test).counters ≡ h.counters
test_kept h (Faulty fault) = refl
test_kept h (Num n) = refl

module _ (means : Means) (cell : ℕ) (input : List ℤ) (streams : Streams) where
  turns_keep : (depth : ℕ) (body : ℕ → Solo → Solo) → ((i : ℕ) (s : Solo) → Kept depth s.held (body i s).held) → (n i : ℕ) (s : Solo) →
      Kept depth s.held (turns_from body i n s).held
  turns_keep depth body keep zero i s = kept depth _ _ refl
  turns_keep depth body keep (suc n) i s = on depth _ _ _ (keep i s) (turns_keep depth body keep n (i + 1) (body i s))

  either : (depth : ℕ) (b : Bool) (h : Held) (x y : Solo) → Kept depth h x.held → Kept depth h y.held →
      Kept depth h (if b then x else y).held
  either depth true h x y p q = p
  either depth false h x y p q = q

  mutual
    pub keeps_action : (depth line : ℕ) (a : Action) → SoundAction means depth a → (s : Solo) →
        Kept depth s.held (do_action cell input streams line a s).held
    keeps_action depth line (Set w e) sound s = kept depth _ _ refl
    keeps_action depth line (SetAt base len e f) sound s = kept depth _ _ (element_kept s.held base len _ _ cell line)
    keeps_action depth line (Write m e) sound s = kept depth _ _ refl
    keeps_action depth line (Read m w) sound s = kept depth _ _ refl
    keeps_action depth line (Take w) sound s = kept depth _ _ refl
    keeps_action depth line (Emit e) sound s = kept depth _ _ refl
    keeps_action depth line (For k n body) sound s =
        subst (λ d. Kept d s.held (do_action cell input streams line (For k n body) s).held) sound.0
        (on k _ _ _
        (turns_keep k (λ turn now. do_block cell input streams body (counting k turn now))
        (λ i t. on k _ _ _ (counted k t.held i)
        (less k (depth + 1) _ _ (omega (arith, sound.0)) (keeps_block (depth + 1) body sound.3 (counting k i t)))) n 0 s)
        (counted k _ n))
    keeps_action depth line (If e first second) sound s =
        let w = value_of cell line s.held e in
        let now = record s { held = tested s.held w } in
        let t = kept depth s.held now.held (test_kept s.held w) in
        either depth (takes_first s.held.kept w) s.held _ _ (on depth _ _ _ t (keeps_block depth first sound.1 now))
        (on depth _ _ _ t (keeps_block depth second sound.2 now))

    pub keeps_block : (depth : ℕ) (b : Block) → SoundBlock means depth b → (s : Solo) →
        Kept depth s.held (do_block cell input streams b s).held
    keeps_block depth End sound s = kept depth _ _ refl
    keeps_block depth (Then line action rest) sound s =
        on depth _ _ _ (keeps_action depth line action sound.0 s)
        (keeps_block depth rest sound.1 (do_action cell input streams line action s))
