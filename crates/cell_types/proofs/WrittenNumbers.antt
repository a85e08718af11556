-- The numbers of expressions and statements as plain data.
use Rattle.std.proofs.Common.{ℕ, ◌≤◌, ◌++◌, List, [], ◌∷◌}
use Rattle.std.specs.List.{AllByRecursion}
use Rattle.cell_types.specs.Written.{WrittenExpression, Number, Named, Element, Negated, Applied, WrittenAction, Set, SetAt, Write, Read, Take, Emit, For, If, WrittenBlock, End, Then}

-- the numbers in an expression
abbrev pub expression_numbers : WrittenExpression → List ℕ
expression_numbers (Number number) = number ∷ []
expression_numbers (Named name) = []
expression_numbers (Element name index) = expression_numbers index
expression_numbers (Negated operand) = expression_numbers operand
expression_numbers (Applied op left right) = expression_numbers left ++ expression_numbers right

abbrev mutual
  -- the numbers in what a statement does
  pub action_numbers : WrittenAction → List ℕ
  action_numbers (Set name value) = expression_numbers value
  action_numbers (SetAt name index value) = expression_numbers index ++ expression_numbers value
  action_numbers (Write message value) = expression_numbers value
  action_numbers (Read message name) = []
  action_numbers (Take name) = []
  action_numbers (Emit value) = expression_numbers value
  action_numbers (For counter turns body) = turns ∷ block_numbers body
  action_numbers (If test first second) = expression_numbers test ++ block_numbers first ++ block_numbers second

  -- the numbers in some statements
  pub block_numbers : WrittenBlock → List ℕ
  block_numbers End = []
  block_numbers (Then line action rest) = action_numbers action ++ block_numbers rest

-- Each of these is a number of the language.
abbrev pub Small : List ℕ → Type 0
Small = AllByRecursion (λ n. n ≤ 9223372036854775807)

-- numbers in the first part of a list, and in the second one
pub small_front : (xs ys : List ℕ) → Small (xs ++ ys) → Small xs
small_front [] ys h = tt
small_front (x ∷ xs) ys h = (h.0, small_front xs ys h.1)

-- and in the second part
pub small_back : (xs ys : List ℕ) → Small (xs ++ ys) → Small ys
small_back [] ys h = h
small_back (x ∷ xs) ys h = small_back xs ys h.1
