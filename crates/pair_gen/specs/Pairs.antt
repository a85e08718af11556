-- The pairs of a generated source: for each the message that is written and then read, by a drawn word.
use Rattle.std.specs.Prelude.{ℕ, ◌+◌, ◌*◌, ◌/◌, ◌%◌, List, map}
use Rattle.rand_core.specs.Pcg32Seed.{pcg32_seed}
use Rattle.rand_pcg.specs.Lcg.{Lcg, advance}
use Rattle.rand_pcg.specs.Pcg.{multiplier_64, pcg32, pcg32_of_seed}
use Rattle.sys_base.specs.Groups.{below}

-- the generator that is made of a seed
unfoldable pub generator : ℕ → Lcg
generator seed = pcg32_of_seed (pcg32_seed 16 seed)

-- the word that the generator gives after this many others
unfoldable pub word_after : ℕ → ℕ → ℕ
word_after count seed = (pcg32 (advance 64 multiplier_64 count (generator seed))).0

-- the message of a pair: the pairs are in three parts, one after another, and the word of the pair draws one of the
-- eight messages of its part
abbrev pub message_drawn : (seed pairs pair : ℕ) → ℕ
message_drawn seed pairs pair = 8 * (3 * pair / pairs) + word_after pair seed % 8

-- the messages of all pairs in order
unfoldable pub messages_drawn : (seed pairs : ℕ) → List ℕ
messages_drawn seed pairs = map (message_drawn seed pairs) (below pairs)
