use Rattle.std.proofs.Common.{ap, sym, ◌∙◌, rules}
use Rattle.comm_sequence.specs.Parts.{unrolled}
use Rattle.comm_sequence.proofs.Unrolled.{grown_by}
use Rattle.comm_sequence.proofs.unrolling.append_arm.Goals as goal

pub returns : goal.returns
returns c = (
  ap unrolled (sym c.as_slice.ensures.value) ∙ c.same.ensures.0 (search rules) ∙ ap unrolled c.as_slice-2.ensures.value,
  grown_by c.args.parts.now.items c.append.new.self.items c.args.first.items c.requires.first.1 c.in_ok-append.ensures.items,
)
