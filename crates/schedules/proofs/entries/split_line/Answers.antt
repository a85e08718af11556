use Rattle.std.proofs.Common.{◌≡◌, ◌+◌, ◌∷◌, ℕ, List, take, drop, ap, sym, ◌∙◌}
use Rattle.schedules.specs.Entries.{lines}
use Rattle.schedules.proofs.Lines.{lines_split, lines_whole, all_left}
use Rattle.schedules.proofs.entries.split_line.Goals as goal

pub returns-in-Some-clause-lines : goal.returns-in-Some-clause-lines
returns-in-Some-clause-lines c =
    lines_split c.args.bytes.now c.in-Some.end c.in-Some.ensures.here
    ∙ ap (λ (r : List ℕ). take c.in-Some.end c.args.bytes.now ∷ lines r) (sym (all_left c.args.bytes.now (c.in-Some.end + 1)))

pub returns-in-None-clause-lines : goal.returns-in-None-clause-lines
returns-in-None-clause-lines c = lines_whole c.args.bytes.now c.requires c.in-None.ensures.none
