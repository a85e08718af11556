-- The messages of some pairs, and the lines and statements of some cells.
use Rattle.std.proofs.Common.{◌≡◌, [], ◌∷◌, map, refl}
use Rattle.rand_core.specs.Pcg32Seed.{pcg32_seed}
use Rattle.rand_core.specs.Steps.{u32_at, word_bytes}
use Rattle.rand_pcg.specs.Lcg.{state_after}
use Rattle.sys_base.specs.Groups.{below}
use Rattle.pair_gen.specs.Generated.{sender, receiver, set_act, write_act, read_act, emit_act, cell_acts, first_line}
use Rattle.pair_gen.specs.Pairs.{generator, word_after, messages_drawn}

-- the seven pairs of seed 7
drawn : messages_drawn 7 7 ≡ 1 ∷ 6 ∷ 5 ∷ 12 ∷ 12 ∷ 21 ∷ 20 ∷ []
unfolding messages_drawn word_after generator pcg32_seed u32_at word_bytes state_after
drawn = refl

drawn_of_two : messages_drawn 2 2 ≡ 0 ∷ 13 ∷ []
unfolding messages_drawn word_after generator pcg32_seed u32_at word_bytes state_after
drawn_of_two = refl

-- the first messages go from cell 0 to 1, from 5 to 7 and from 10 to 15
senders : map sender (below 3) ≡ 0 ∷ 5 ∷ 10 ∷ []
senders = refl

receivers : map receiver (below 3) ≡ 1 ∷ 7 ∷ 15 ∷ []
receivers = refl

-- cell 4 reads the message 5 and then writes the message 20
fourth : cell_acts (1 ∷ 6 ∷ 5 ∷ 12 ∷ 12 ∷ 21 ∷ 20 ∷ []) 4 ≡ set_act 4 ∷ read_act 5 ∷ write_act 20 ∷ emit_act ∷ []
unfolding cell_acts
fourth = refl

-- and this is where the cells begin
lines : map (first_line (1 ∷ 6 ∷ 5 ∷ 12 ∷ 12 ∷ 21 ∷ 20 ∷ [])) (below 16)
    ≡ 27 ∷ 33 ∷ 38 ∷ 43 ∷ 48 ∷ 55 ∷ 62 ∷ 69 ∷ 75 ∷ 80 ∷ 87 ∷ 92 ∷ 97 ∷ 104 ∷ 109 ∷ 115 ∷ []
unfolding cell_acts
lines = refl
