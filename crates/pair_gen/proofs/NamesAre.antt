-- The names of messages and of the variable are names of the language.
use Rattle.std.proofs.Common.{◌≡◌, ℕ, ◌<◌, true, List, refl, subst, arith, length}
use Rattle.std.specs.Prelude.{nat_le, nat_eq, slice_index}
use Rattle.std.specs.Fmt.{digits}
use Rattle.std.specs.List.{list_all}
use Rattle.std.proofs.lemmas.Bool.{leb-true}
use Rattle.std.proofs.lemmas.List.Sums.{AllPass-from_list_all}
use Rattle.sys_base.specs.Bytes.{is_digit, is_letter, is_word_byte}
use Rattle.sys_base.specs.Key.{key_text}
use Rattle.sys_base.specs.Name.{IsName, IsWord}
use Rattle.sys_base.specs.declared.key.Key.{Key}
use Rattle.sys_base.specs.declared.key.Key.TheVariants as K
use Rattle.pair_gen.specs.Generated.{message_name, variable_name}
use Rattle.pair_gen.proofs.Below.{passes_below}

-- The second byte of a keyword is no digit.
no_digit : (key : Key) → is_digit (slice_index (key_text key) 1) ≡ true → ⊥
no_digit K.Array h = cc
no_digit K.Queues h = cc
no_digit K.Link h = cc
no_digit K.Message h = cc
no_digit K.From h = cc
no_digit K.To h = cc
no_digit K.Route h = cc
no_digit K.Label h = cc
no_digit K.Cell h = cc
no_digit K.Var h = cc
no_digit K.Write h = cc
no_digit K.Read h = cc
no_digit K.Take h = cc
no_digit K.Emit h = cc
no_digit K.For h = cc
no_digit K.If h = cc
no_digit K.Else h = cc
no_digit K.Buffer h = cc

-- A keyword has two bytes at least.
long : (key : Key) → nat_eq (length (key_text key)) 1 ≡ true → ⊥
long K.Array h = cc
long K.Queues h = cc
long K.Link h = cc
long K.Message h = cc
long K.From h = cc
long K.To h = cc
long K.Route h = cc
long K.Label h = cc
long K.Cell h = cc
long K.Var h = cc
long K.Write h = cc
long K.Read h = cc
long K.Take h = cc
long K.Emit h = cc
long K.For h = cc
long K.If h = cc
long K.Else h = cc
long K.Buffer h = cc

-- the tests of a word
word_of : (bytes : List ℕ) → is_letter (slice_index bytes 0) ≡ true → list_all is_word_byte bytes ≡ true → IsWord bytes
word_of bytes first all = record { first = first; each = λ k within. AllPass-from_list_all is_word_byte bytes all k 0 within }

-- each name of a message is a letter and then word bytes, the first of them a digit
first_letter : (message : ℕ) → message < 24 → is_letter (slice_index (message_name message) 0) ≡ true
unfolding digits
first_letter message within = passes_below (λ m. is_letter (slice_index (message_name m) 0)) 24 message within refl

all_word : (message : ℕ) → message < 24 → list_all is_word_byte (message_name message) ≡ true
unfolding digits
all_word message within = passes_below (λ m. list_all is_word_byte (message_name m)) 24 message within refl

second_digit : (message : ℕ) → message < 24 → is_digit (slice_index (message_name message) 1) ≡ true
unfolding digits
second_digit message within = passes_below (λ m. is_digit (slice_index (message_name m) 1)) 24 message within refl

few_bytes : (message : ℕ) → message < 24 → nat_le (length (message_name message)) 32 ≡ true
unfolding digits
few_bytes message within = passes_below (λ m. nat_le (length (message_name m)) 32) 24 message within refl

pub message_is_name : (message : ℕ) → message < 24 → IsName (message_name message)
message_is_name message within =
    record {
      word = word_of (message_name message) (first_letter message within) (all_word message within);
      short = leb-true (length (message_name message)) 32 (few_bytes message within);
      free = λ key same.
          let P : List ℕ → Type 0 = λ bytes. is_digit (slice_index bytes 1) ≡ true in
          no_digit key (subst P same (second_digit message within));
    }

pub variable_is_name : IsName variable_name
variable_is_name =
    record {
      word = word_of variable_name refl refl;
      short = omega arith;
      free = λ key same.
          let P : List ℕ → Type 0 = λ bytes. nat_eq (length bytes) 1 ≡ true in
          long key (subst P same refl);
    }
