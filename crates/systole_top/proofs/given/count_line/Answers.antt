use Rattle.std.proofs.Common.{◌++◌, ap, codes, decimal, ◌∙◌}
use Rattle.sys_base.specs.Names.{cell_text}
use Rattle.systole_top.proofs.Giving.{spread}
use Rattle.systole_top.proofs.given.count_line.Goals as goal

pub returns : goal.returns
returns c =
    ap (λ bytes. bytes.items) c.into_bytes.ensures.value ∙ c.in_ok-format.ensures.ok
    ∙ ap (λ pieces. codes "input: cell " ++ pieces)
    (spread (cell_text c.args.cell) (codes " needs ") (decimal c.args.need) (codes " words and has ") (decimal c.args.has) (codes "\n"))
