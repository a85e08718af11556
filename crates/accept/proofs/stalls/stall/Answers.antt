use Rattle.std.proofs.Common.{◌≤◌, subst}
use Rattle.cell_types.specs.Typed.{plain}
use Rattle.comm_sequence.specs.Sequences.{Sequences, sequences_of}
use Rattle.crossing_off.specs.Answer.{IsLeft, IsResidue}
use Rattle.crossing_off.specs.Walk.{IsWalk, IsWalkOver}
use Rattle.crossing_off.specs.declared.waits.WaitWalk.{WaitWalk}
use Rattle.accept.proofs.Waits.{waits_of, ends_at}
use Rattle.accept.proofs.stalls.stall.Goals as goal

pub walk_lines-requires-clause-waits : goal.walk_lines-requires-clause-waits
walk_lines-requires-clause-waits c =
    waits_of (plain c.args.program.now) c.requires.sound c.args.residue.now
    (subst (λ s. IsResidue s c.args.program.now.buffer c.args.residue.now) c.requires.seqs c.requires.left.is_residue) c.in_ok-walk.walk
    (subst (λ s. IsWalk s c.args.residue.now c.in_ok-walk.walk) c.requires.seqs c.in_ok-walk.ensures)

pub walk_lines-requires-clause-end : goal.walk_lines-requires-clause-end
walk_lines-requires-clause-end c =
    ends_at (plain c.args.program.now) c.requires.sound c.args.residue.now
    (subst (λ s. IsResidue s c.args.program.now.buffer c.args.residue.now) c.requires.seqs c.requires.left.is_residue) c.in_ok-walk.walk
    (subst (λ s. IsWalk s c.args.residue.now c.in_ok-walk.walk) c.requires.seqs c.in_ok-walk.ensures)

pub returns : goal.returns
returns c =
    let s : Sequences = sequences_of (plain c.args.program.now) in
    let is : IsLeft s c.args.program.now.buffer c.args.residue.now = subst (λ t. IsLeft t c.args.program.now.buffer c.args.residue.now) c.requires.seqs c.requires.left in
    let walk : WaitWalk = c.in_ok-walk.walk in
    let walks : IsWalk s c.args.residue.now walk =
    subst (λ t. IsWalk t c.args.residue.now walk) c.requires.seqs c.in_ok-walk.ensures in
    let rule = is.is_residue in (
      rule.crossed,
      record { rule = rule.rule; some = subst (λ n. 1 ≤ n) rule.left_is is.some; no_order = is.no_order },
      rule.left_is,
      walk.waits.items,
      walk.end,
      subst (λ fs. IsWalkOver s fs walk.waits.items walk.end) rule.fronts_are walks,
      c.in_ok-walk_lines.ensures,
    )
