use Rattle.std.proofs.Common.{◌≡◌, map}
use Rattle.rand_pcg.specs.Lcg.{advance}
use Rattle.rand_pcg.specs.Pcg.{multiplier_64}
use Rattle.sys_base.specs.Groups.{below}
use Rattle.pair_gen.specs.Pairs.{generator, message_drawn}
use Rattle.pair_gen.proofs.drawing.draw_messages.Given as goal

-- The generator has given one word for each pair so far.
abbrev pub invariant-loop-pair : goal.invariant-loop-pair
invariant-loop-pair l =
    (l.generator ≡ advance 64 multiplier_64 l.pair (generator l.fn.seed))
    × (l.messages.items ≡ map (message_drawn l.fn.seed l.pairs) (below l.pair))
