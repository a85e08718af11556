-- Targets that are written back give the code of loops and of branches, and there is room for their parts.
use Rattle.std.proofs.Common.{◌≡◌, ℕ, ◌+◌, ◌<◌, ◌^◌, List, [], ◌∷◌, ◌++◌, length, set, sym, ◌∙◌, ap, subst, arith, length-append, append_assoc}
use Rattle.std.proofs.Math.Seq.{set-append_seam}
use Rattle.std.proofs.lemmas.List.{length-set}
use Rattle.cell_code.specs.declared.instruction.Instr.{Instr}
use Rattle.cell_code.specs.declared.instruction.Instr.TheVariants.{Loop, Next, IfZero, Jump}
use Rattle.cell_types.specs.Code.{Expression, Action, For, If, Block, Then}
use Rattle.cell_codegen.specs.Bounds.{HasRoom, HasRoomFor}
use Rattle.cell_codegen.specs.Emission.{expression_code, action_code, block_code}

-- ---- loops

module _ (old : List Instr) (line k n : ℕ) (body : Block) where
  inner : List Instr
  inner = block_code (length old + 1) body

  room_is : HasRoom old line (For k n body) → length old + 1 + length (block_code (length old + 1) body) + 1 < 2 ^ 32
  room_is room = omega (arith, room, length-append (block_code (length old + 1) body) (Next k n (length old + 1) ∷ []))

  pub room_for : (c1 : List Instr) (instr : Instr) → c1 ≡ old ++ instr ∷ [] → HasRoom old line (For k n body) → HasRoomFor c1 body
  room_for c1 instr e room =
      let l : length old + 1 ≡ length c1 = omega (arith, ap length e, length-append old (instr ∷ [])) in
      subst (λ m. m + length (block_code m body) < 2 ^ 32) l (omega (arith, room_is room))

  -- the code before its target is written
  for_whole : (c1 c2 c3 : List Instr) (one other : Instr) → c1 ≡ old ++ one ∷ [] → c2 ≡ c1 ++ block_code (length c1) body → c3 ≡ c2 ++ other ∷ [] →
      c3 ≡ old ++ one ∷ (block_code (length old + 1) body ++ other ∷ [])
  for_whole c1 c2 c3 one other e1 e2 e3 =
      let l : length c1 ≡ length old + 1 = omega (arith, ap length e1, length-append old (one ∷ [])) in
      let bc = block_code (length old + 1) body in
      e3 ∙ ap (λ c. c ++ other ∷ []) (e2 ∙ ap (λ m. c1 ++ block_code m body) l ∙ ap (λ c. c ++ bc) e1)
      ∙ ap (λ c. c ++ other ∷ []) (append_assoc old (one ∷ []) bc) ∙ append_assoc old (one ∷ bc) (other ∷ [])

  for_length : (c1 c2 c3 : List Instr) (one other : Instr) → c1 ≡ old ++ one ∷ [] → c2 ≡ c1 ++ block_code (length c1) body → c3 ≡ c2 ++ other ∷ [] →
      length c3 ≡ length old + 1 + length (block_code (length old + 1) body) + 1
  for_length c1 c2 c3 one other e1 e2 e3 =
      let bc = block_code (length old + 1) body in
      omega (arith, ap length (for_whole c1 c2 c3 one other e1 e2 e3), length-append old (one ∷ (bc ++ other ∷ [])), length-append bc (other ∷ []))

  pub for_fits : (c1 c2 c3 : List Instr) (one other : Instr) → c1 ≡ old ++ one ∷ [] → c2 ≡ c1 ++ block_code (length c1) body → c3 ≡ c2 ++ other ∷ [] →
      HasRoom old line (For k n body) → length c3 < 2 ^ 32
  for_fits c1 c2 c3 one other e1 e2 e3 room = omega (arith, for_length c1 c2 c3 one other e1 e2 e3, room_is room)

  pub patched_for : (c1 c2 c3 : List Instr) (one : Instr) (start exit : ℕ) → c1 ≡ old ++ one ∷ [] → c2 ≡ c1 ++ block_code (length c1) body →
      c3 ≡ c2 ++ Next k n (start + 1) ∷ [] → start ≡ length old → exit ≡ length c3 →
      set c3 start (Loop k n exit) ≡ old ++ action_code (length old) line (For k n body)
  patched_for c1 c2 c3 one start exit e1 e2 e3 begin end =
      let bc = block_code (length old + 1) body in
      let there : c3 ≡ old ++ one ∷ (bc ++ Next k n (length old + 1) ∷ []) =
      for_whole c1 c2 c3 one (Next k n (start + 1)) e1 e2 e3 ∙ ap (λ m. old ++ one ∷ (bc ++ Next k n (m + 1) ∷ [])) begin in
      let at : exit ≡ length old + 1 + length bc + 1 = end ∙ for_length c1 c2 c3 one (Next k n (start + 1)) e1 e2 e3 in
      ap (λ c. set c start (Loop k n exit)) there
      ∙ ap (λ m. set (old ++ one ∷ (bc ++ Next k n (length old + 1) ∷ [])) m (Loop k n exit)) begin
      ∙ set-append_seam old one (bc ++ Next k n (length old + 1) ∷ []) (Loop k n exit)
      ∙ ap (λ m. old ++ Loop k n m ∷ (bc ++ Next k n (length old + 1) ∷ [])) at

-- ---- branches

module _ (old : List Instr) (line : ℕ) (e : Expression) (first second : Block) where
  abbrev pc : ℕ
  pc = length old + length (expression_code line e)

  abbrev arm : List Instr
  arm = block_code (pc + 1) first

  abbrev other_arm : List Instr
  other_arm = block_code (pc + 1 + length arm + 1) second

  if_room : HasRoom old line (If e first second) → pc + 1 + length arm + 1 + length other_arm < 2 ^ 32
  if_room room =
      let target = pc + 1 + length arm + 1 in
      let end = pc + 1 + length arm + 1 + length other_arm in
      omega (arith, room, length-append (expression_code line e) (IfZero target ∷ (arm ++ (Jump end ∷ other_arm))), length-append arm (Jump end ∷ other_arm))

  module _ (c1 c2 c3 c4 : List Instr) (one other : Instr) (e1 : c1 ≡ old ++ expression_code line e) (e2 : c2 ≡ c1 ++ one ∷ []) where
    len1 : length c1 ≡ pc
    len1 = ap length e1 ∙ length-append old (expression_code line e)

    len2 : length c2 ≡ pc + 1
    len2 = omega (arith, ap length e2, length-append c1 (one ∷ []), len1)

    pub room_first : HasRoom old line (If e first second) → HasRoomFor c2 first
    room_first room = subst (λ m. m + length (block_code m first) < 2 ^ 32) (sym len2) (omega (arith, if_room room))

    module _ (e3 : c3 ≡ c2 ++ block_code (length c2) first) (e4 : c4 ≡ c3 ++ other ∷ []) where
      whole3 : c3 ≡ c1 ++ one ∷ arm
      whole3 = e3 ∙ ap (λ m. c2 ++ block_code m first) len2 ∙ ap (λ c. c ++ arm) e2 ∙ append_assoc c1 (one ∷ []) arm

      whole4 : c4 ≡ c1 ++ one ∷ (arm ++ other ∷ [])
      whole4 = e4 ∙ ap (λ c. c ++ other ∷ []) whole3 ∙ append_assoc c1 (one ∷ arm) (other ∷ [])

      len3 : length c3 ≡ pc + 1 + length arm
      len3 = omega (arith, ap length whole3, length-append c1 (one ∷ arm), len1)

      len4 : length c4 ≡ pc + 1 + length arm + 1
      len4 = omega (arith, ap length e4, length-append c3 (other ∷ []), len3)

      pub second_fits : HasRoom old line (If e first second) → length c4 < 2 ^ 32
      second_fits room = omega (arith, len4, if_room room)

      module _ (branch target : ℕ) (b : branch ≡ length c1) (t : target ≡ length c4) where
        len5 : length (set c4 branch (IfZero target)) ≡ pc + 1 + length arm + 1
        len5 = length-set c4 branch (IfZero target) ∙ len4

        pub room_second : HasRoom old line (If e first second) → HasRoomFor (set c4 branch (IfZero target)) second
        room_second room = subst (λ m. m + length (block_code m second) < 2 ^ 32) (sym len5) (if_room room)

        whole5 : set c4 branch (IfZero target) ≡ c1 ++ IfZero (pc + 1 + length arm + 1) ∷ (arm ++ other ∷ [])
        whole5 =
            ap (λ c. set c branch (IfZero target)) whole4 ∙ ap (λ m. set (c1 ++ one ∷ (arm ++ other ∷ [])) m (IfZero target)) b
            ∙ set-append_seam c1 one (arm ++ other ∷ []) (IfZero target)
            ∙ ap (λ m. c1 ++ IfZero m ∷ (arm ++ other ∷ [])) (t ∙ len4)

        module _ (c6 : List Instr) (e6 : c6 ≡ set c4 branch (IfZero target) ++ block_code (length (set c4 branch (IfZero target))) second) where
          whole6 : c6 ≡ (c1 ++ IfZero (pc + 1 + length arm + 1) ∷ arm) ++ other ∷ other_arm
          whole6 =
              e6 ∙ ap (λ m. set c4 branch (IfZero target) ++ block_code m second) len5 ∙ ap (λ c. c ++ other_arm) whole5
              ∙ append_assoc c1 (IfZero (pc + 1 + length arm + 1) ∷ (arm ++ other ∷ [])) other_arm
              ∙ ap (λ c. c1 ++ IfZero (pc + 1 + length arm + 1) ∷ c) (append_assoc arm (other ∷ []) other_arm)
              ∙ sym (append_assoc c1 (IfZero (pc + 1 + length arm + 1) ∷ arm) (other ∷ other_arm))

          len6 : length c6 ≡ pc + 1 + length arm + 1 + length other_arm
          len6 =
              omega (
                arith,
                ap length whole6,
                length-append (c1 ++ IfZero (pc + 1 + length arm + 1) ∷ arm) (other ∷ other_arm),
                length-append c1 (IfZero (pc + 1 + length arm + 1) ∷ arm),
                len1,
              )

          pub end_fits : HasRoom old line (If e first second) → length c6 < 2 ^ 32
          end_fits room = omega (arith, len6, if_room room)

          pub patched_if : (jump end : ℕ) → jump ≡ length c3 → end ≡ length c6 →
              set c6 jump (Jump end) ≡ old ++ action_code (length old) line (If e first second)
          patched_if jump end j n =
              let target = pc + 1 + length arm + 1 in
              let front = c1 ++ IfZero target ∷ arm in
              let long : length front ≡ jump = omega (arith, j, len3, len1, length-append c1 (IfZero target ∷ arm)) in
              let behind = IfZero target ∷ (arm ++ (Jump (target + length other_arm) ∷ other_arm)) in
              ap (λ c. set c jump (Jump end)) whole6 ∙ ap (λ m. set (front ++ other ∷ other_arm) m (Jump end)) (sym long)
              ∙ set-append_seam front other other_arm (Jump end) ∙ ap (λ m. front ++ Jump m ∷ other_arm) (n ∙ len6)
              ∙ append_assoc c1 (IfZero target ∷ arm) (Jump (target + length other_arm) ∷ other_arm)
              ∙ ap (λ c. c ++ behind) e1 ∙ append_assoc old (expression_code line e) behind

-- ---- statements one after another

-- room for the next statement
pub room_next : (code start : List Instr) (line : ℕ) (a : Action) (rest whole : Block) →
    code ++ block_code (length code) (Then line a rest) ≡ start ++ block_code (length start) whole → HasRoomFor start whole → HasRoom code line a
room_next code start line a rest whole e room =
    let now = action_code (length code) line a in
    let more = block_code (length code + length now) rest in
    omega (arith, room, ap length e, length-append code (now ++ more), length-append now more, length-append start (block_code (length start) whole))
