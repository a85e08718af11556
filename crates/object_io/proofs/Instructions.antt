-- The line of an instruction is read back.
use Rattle.std.proofs.Common.{◌≡◌, ℕ, ◌<◌, ◌^◌, Bool, true, false, cond, eqb, List, [], ◌∷◌, ◌++◌, All, get_or, map, decimal, codes, refl, sym, ap, ◌∙◌, arith}
use Rattle.std.specs.Fmt.{signed_decimal}
use Rattle.std.specs.Str.Parse.{digits_value}
use Rattle.std.proofs.lemmas.List.Elements.{All-cons, All-nil}
use Rattle.sys_base.specs.declared.kinds.Op.{Op}
use Rattle.sys_base.specs.declared.kinds.Op.TheVariants.{Add, Sub, Mul, Div, Rem, Less, AtMost, Same, Differ}
use Rattle.cell_code.specs.declared.instruction.Instr.{Instr}
use Rattle.cell_code.specs.declared.instruction.Instr.TheVariants.{Push, Load, LoadAt, Counter, Neg, Bin, Store, StoreAt, Write, Read, Take, Emit, Loop, Next, IfZero, Jump, Halt}
use Rattle.object_io.specs.Objects.{instruction_line, line, op_text}
use Rattle.object_io.specs.Sized.{IsSizedInstruction}
use Rattle.object_io.specs.Words.{IsWord}
use Rattle.object_io.proofs.LineWords.{line_cut}
use Rattle.object_io.proofs.Numbers.{decimal_is_word, given_is_word, number_back, signed_back, signed_is_word, signed_of}

-- ---- the words of an instruction

abbrev pub first : Instr → List ℕ
first (Push n) = codes "push"
first (Load a) = codes "load"
first (LoadAt a b c) = codes "loadat"
first (Counter a) = codes "counter"
first (Neg a) = codes "neg"
first (Store a) = codes "store"
first (StoreAt a b c) = codes "storeat"
first (Write a) = codes "write"
first (Read a b) = codes "read"
first (Take a) = codes "take"
first Emit = codes "emit"
first (Loop a b c) = codes "loop"
first (Next a b c) = codes "next"
first (IfZero a) = codes "ifzero"
first (Jump a) = codes "jump"
first Halt = codes "halt"
first (Bin op a) = op_text op

abbrev pub others : Instr → List (List ℕ)
others (Push n) = signed_decimal n ∷ []
others (Load a) = map decimal (a ∷ [])
others (LoadAt a b c) = map decimal (a ∷ b ∷ c ∷ [])
others (Counter a) = map decimal (a ∷ [])
others (Neg a) = map decimal (a ∷ [])
others (Store a) = map decimal (a ∷ [])
others (StoreAt a b c) = map decimal (a ∷ b ∷ c ∷ [])
others (Write a) = map decimal (a ∷ [])
others (Read a b) = map decimal (a ∷ b ∷ [])
others (Take a) = map decimal (a ∷ [])
others Emit = []
others (Loop a b c) = map decimal (a ∷ b ∷ c ∷ [])
others (Next a b c) = map decimal (a ∷ b ∷ c ∷ [])
others (IfZero a) = map decimal (a ∷ [])
others (Jump a) = map decimal (a ∷ [])
others Halt = []
others (Bin op a) = map decimal (a ∷ [])

pub line_is : (x : Instr) → instruction_line x ≡ line (first x) (others x)
line_is (Push n) = refl
line_is (Load a) = refl
line_is (LoadAt a b c) = refl
line_is (Counter a) = refl
line_is (Neg a) = refl
line_is (Store a) = refl
line_is (StoreAt a b c) = refl
line_is (Write a) = refl
line_is (Read a b) = refl
line_is (Take a) = refl
line_is Emit = refl
line_is (Loop a b c) = refl
line_is (Next a b c) = refl
line_is (IfZero a) = refl
line_is (Jump a) = refl
line_is Halt = refl
line_is (Bin op a) = refl

op_is_word : (op : Op) → IsWord (op_text op)
op_is_word Add = given_is_word (codes "add") refl
op_is_word Sub = given_is_word (codes "sub") refl
op_is_word Mul = given_is_word (codes "mul") refl
op_is_word Div = given_is_word (codes "div") refl
op_is_word Rem = given_is_word (codes "rem") refl
op_is_word Less = given_is_word (codes "less") refl
op_is_word AtMost = given_is_word (codes "atmost") refl
op_is_word Same = given_is_word (codes "same") refl
op_is_word Differ = given_is_word (codes "differ") refl

pub first_is_word : (x : Instr) → IsWord (first x)
first_is_word (Push n) = given_is_word (codes "push") refl
first_is_word (Load a) = given_is_word (codes "load") refl
first_is_word (LoadAt a b c) = given_is_word (codes "loadat") refl
first_is_word (Counter a) = given_is_word (codes "counter") refl
first_is_word (Neg a) = given_is_word (codes "neg") refl
first_is_word (Store a) = given_is_word (codes "store") refl
first_is_word (StoreAt a b c) = given_is_word (codes "storeat") refl
first_is_word (Write a) = given_is_word (codes "write") refl
first_is_word (Read a b) = given_is_word (codes "read") refl
first_is_word (Take a) = given_is_word (codes "take") refl
first_is_word Emit = given_is_word (codes "emit") refl
first_is_word (Loop a b c) = given_is_word (codes "loop") refl
first_is_word (Next a b c) = given_is_word (codes "next") refl
first_is_word (IfZero a) = given_is_word (codes "ifzero") refl
first_is_word (Jump a) = given_is_word (codes "jump") refl
first_is_word Halt = given_is_word (codes "halt") refl
first_is_word (Bin op a) = op_is_word op

none : All IsWord []
none = All-nil IsWord

one : (a : ℕ) → a < 2 ^ 64 → All IsWord (map decimal (a ∷ []))
one a h = All-cons IsWord (decimal a) [] (decimal_is_word a h) none

two : (a b : ℕ) → a < 2 ^ 64 → b < 2 ^ 64 → All IsWord (map decimal (a ∷ b ∷ []))
two a b h k = All-cons IsWord (decimal a) (map decimal (b ∷ [])) (decimal_is_word a h) (one b k)

three : (a b c : ℕ) → a < 2 ^ 64 → b < 2 ^ 64 → c < 2 ^ 64 → All IsWord (map decimal (a ∷ b ∷ c ∷ []))
three a b c h k l = All-cons IsWord (decimal a) (map decimal (b ∷ c ∷ [])) (decimal_is_word a h) (two b c k l)

pub others_are_words : (x : Instr) → IsSizedInstruction x → All IsWord (others x)
others_are_words (Push n) h = All-cons IsWord (signed_decimal n) [] (signed_is_word n h) none
others_are_words (Load a) h = one a (omega (arith, h))
others_are_words (LoadAt a b c) h = three a b c (omega (arith, h.0)) (omega (arith, h.1)) (omega (arith, h.2))
others_are_words (Counter a) h = one a (omega (arith, h))
others_are_words (Neg a) h = one a (omega (arith, h))
others_are_words (Store a) h = one a (omega (arith, h))
others_are_words (StoreAt a b c) h = three a b c (omega (arith, h.0)) (omega (arith, h.1)) (omega (arith, h.2))
others_are_words (Write a) h = one a (omega (arith, h))
others_are_words (Read a b) h = two a b (omega (arith, h.0)) (omega (arith, h.1))
others_are_words (Take a) h = one a (omega (arith, h))
others_are_words Emit h = none
others_are_words (Loop a b c) h = three a b c (omega (arith, h.0)) (omega (arith, h.1)) (omega (arith, h.2))
others_are_words (Next a b c) h = three a b c (omega (arith, h.0)) (omega (arith, h.1)) (omega (arith, h.2))
others_are_words (IfZero a) h = one a (omega (arith, h))
others_are_words (Jump a) h = one a (omega (arith, h))
others_are_words Halt h = none
others_are_words (Bin op a) h = one a (omega (arith, h))

-- ---- an instruction by its words

abbrev pub same : List ℕ → List ℕ → Bool
same [] [] = true
same [] (y ∷ ys) = false
same (x ∷ xs) [] = false
same (x ∷ xs) (y ∷ ys) = cond (eqb x y) (same xs ys) false

abbrev number : List (List ℕ) → ℕ → ℕ
number words k = digits_value 10 (get_or words k [])

abbrev read : List ℕ → List (List ℕ) → Instr
read word words =
    cond (same word (codes "push")) (Push (signed_of (get_or words 0 []))) (
    cond (same word (codes "load")) (Load (number words 0)) (
    cond (same word (codes "loadat")) (LoadAt (number words 0) (number words 1) (number words 2)) (
    cond (same word (codes "counter")) (Counter (number words 0)) (
    cond (same word (codes "neg")) (Neg (number words 0)) (
    cond (same word (codes "store")) (Store (number words 0)) (
    cond (same word (codes "storeat")) (StoreAt (number words 0) (number words 1) (number words 2)) (
    cond (same word (codes "write")) (Write (number words 0)) (
    cond (same word (codes "read")) (Read (number words 0) (number words 1)) (
    cond (same word (codes "take")) (Take (number words 0)) (
    cond (same word (codes "emit")) Emit (
    cond (same word (codes "loop")) (Loop (number words 0) (number words 1) (number words 2)) (
    cond (same word (codes "next")) (Next (number words 0) (number words 1) (number words 2)) (
    cond (same word (codes "ifzero")) (IfZero (number words 0)) (
    cond (same word (codes "jump")) (Jump (number words 0)) (
    cond (same word (codes "add")) (Bin Add (number words 0)) (
    cond (same word (codes "sub")) (Bin Sub (number words 0)) (
    cond (same word (codes "mul")) (Bin Mul (number words 0)) (
    cond (same word (codes "div")) (Bin Div (number words 0)) (
    cond (same word (codes "rem")) (Bin Rem (number words 0)) (
    cond (same word (codes "less")) (Bin Less (number words 0)) (
    cond (same word (codes "atmost")) (Bin AtMost (number words 0)) (
    cond (same word (codes "same")) (Bin Same (number words 0)) (
    cond (same word (codes "differ")) (Bin Differ (number words 0)) (
    Halt))))))))))))))))))))))))

back : (n : ℕ) → n < 2 ^ 64 → digits_value 10 (decimal n) ≡ n
back = number_back

two_back : (f : ℕ → ℕ → Instr) (a b : ℕ) → a < 2 ^ 64 → b < 2 ^ 64
    → f (digits_value 10 (decimal a)) (digits_value 10 (decimal b)) ≡ f a b
two_back f a b h k = ap (λ n. f n (digits_value 10 (decimal b))) (back a h) ∙ ap (f a) (back b k)

three_back : (f : ℕ → ℕ → ℕ → Instr) (a b c : ℕ) → a < 2 ^ 64 → b < 2 ^ 64 → c < 2 ^ 64
    → f (digits_value 10 (decimal a)) (digits_value 10 (decimal b)) (digits_value 10 (decimal c)) ≡ f a b c
three_back f a b c h k l =
    ap (λ n. f n (digits_value 10 (decimal b)) (digits_value 10 (decimal c))) (back a h) ∙ two_back (f a) b c k l

read_back : (x : Instr) → IsSizedInstruction x → read (first x) (others x) ≡ x
read_back (Push n) h = ap Push (signed_back n h)
read_back (Load a) h = ap Load (back a (omega (arith, h)))
read_back (LoadAt a b c) h = three_back LoadAt a b c (omega (arith, h.0)) (omega (arith, h.1)) (omega (arith, h.2))
read_back (Counter a) h = ap Counter (back a (omega (arith, h)))
read_back (Neg a) h = ap Neg (back a (omega (arith, h)))
read_back (Store a) h = ap Store (back a (omega (arith, h)))
read_back (StoreAt a b c) h = three_back StoreAt a b c (omega (arith, h.0)) (omega (arith, h.1)) (omega (arith, h.2))
read_back (Write a) h = ap Write (back a (omega (arith, h)))
read_back (Read a b) h = two_back Read a b (omega (arith, h.0)) (omega (arith, h.1))
read_back (Take a) h = ap Take (back a (omega (arith, h)))
read_back Emit h = refl
read_back (Loop a b c) h = three_back Loop a b c (omega (arith, h.0)) (omega (arith, h.1)) (omega (arith, h.2))
read_back (Next a b c) h = three_back Next a b c (omega (arith, h.0)) (omega (arith, h.1)) (omega (arith, h.2))
read_back (IfZero a) h = ap IfZero (back a (omega (arith, h)))
read_back (Jump a) h = ap Jump (back a (omega (arith, h)))
read_back Halt h = refl
read_back (Bin Add a) h = ap (Bin Add) (back a (omega (arith, h)))
read_back (Bin Sub a) h = ap (Bin Sub) (back a (omega (arith, h)))
read_back (Bin Mul a) h = ap (Bin Mul) (back a (omega (arith, h)))
read_back (Bin Div a) h = ap (Bin Div) (back a (omega (arith, h)))
read_back (Bin Rem a) h = ap (Bin Rem) (back a (omega (arith, h)))
read_back (Bin Less a) h = ap (Bin Less) (back a (omega (arith, h)))
read_back (Bin AtMost a) h = ap (Bin AtMost) (back a (omega (arith, h)))
read_back (Bin Same a) h = ap (Bin Same) (back a (omega (arith, h)))
read_back (Bin Differ a) h = ap (Bin Differ) (back a (omega (arith, h)))

-- two texts that begin with the lines of two instructions
pub instruction_cut : (x y : Instr) (s t : List ℕ) → IsSizedInstruction x → IsSizedInstruction y
    → instruction_line x ++ s ≡ instruction_line y ++ t → (x ≡ y) × (s ≡ t)
instruction_cut x y s t h k e =
    let lines = ap (λ (l : List ℕ). l ++ s) (sym (line_is x)) ∙ e ∙ ap (λ (l : List ℕ). l ++ t) (line_is y) in
    let cut = line_cut (first x) (first y) (others x) (others y) s t (first_is_word x) (first_is_word y) (others_are_words x h)
    (others_are_words y k) lines in (
      sym (read_back x h) ∙ ap (λ w. read w (others x)) cut.0 ∙ ap (λ ws. read (first y) ws) cut.1 ∙ read_back y k,
      cut.2,
    )

pub not_cell : (x : Instr) → same (codes "cell") (first x) ≡ false
not_cell (Push n) = refl
not_cell (Load a) = refl
not_cell (LoadAt a b c) = refl
not_cell (Counter a) = refl
not_cell (Neg a) = refl
not_cell (Store a) = refl
not_cell (StoreAt a b c) = refl
not_cell (Write a) = refl
not_cell (Read a b) = refl
not_cell (Take a) = refl
not_cell Emit = refl
not_cell (Loop a b c) = refl
not_cell (Next a b c) = refl
not_cell (IfZero a) = refl
not_cell (Jump a) = refl
not_cell Halt = refl
not_cell (Bin Add a) = refl
not_cell (Bin Sub a) = refl
not_cell (Bin Mul a) = refl
not_cell (Bin Div a) = refl
not_cell (Bin Rem a) = refl
not_cell (Bin Less a) = refl
not_cell (Bin AtMost a) = refl
not_cell (Bin Same a) = refl
not_cell (Bin Differ a) = refl

pub not_end : (x : Instr) → same (codes "end") (first x) ≡ false
not_end (Push n) = refl
not_end (Load a) = refl
not_end (LoadAt a b c) = refl
not_end (Counter a) = refl
not_end (Neg a) = refl
not_end (Store a) = refl
not_end (StoreAt a b c) = refl
not_end (Write a) = refl
not_end (Read a b) = refl
not_end (Take a) = refl
not_end Emit = refl
not_end (Loop a b c) = refl
not_end (Next a b c) = refl
not_end (IfZero a) = refl
not_end (Jump a) = refl
not_end Halt = refl
not_end (Bin Add a) = refl
not_end (Bin Sub a) = refl
not_end (Bin Mul a) = refl
not_end (Bin Div a) = refl
not_end (Bin Rem a) = refl
not_end (Bin Less a) = refl
not_end (Bin AtMost a) = refl
not_end (Bin Same a) = refl
not_end (Bin Differ a) = refl
