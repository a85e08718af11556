use Rattle.std.proofs.Common.{ℕ, List, ◌++◌, get_or, codes, ap, sym, ◌∙◌}
use Rattle.sys_base.specs.declared.kinds.Dir.TheVariants.{N}
use Rattle.accept.specs.Needs.{need_text}
use Rattle.accept.specs.declared.needing.NeedLine.{NeedLine}
use Rattle.systole_top.proofs.Needing.{lines_more, lines_whole}
use Rattle.systole_top.proofs.need.need_lines.Goals as goal

-- what stands past the end
abbrev none : NeedLine
none = record { row = 0; col = 0; dir = N; need = 0; has = 0 }

pub loop-line-preserved : goal.loop-line-preserved
loop-line-preserved c =
    c.in_ok-write_line.ensures
    ∙ ap (λ (t : List ℕ). t ++ (need_text (get_or c.args.lines.now c.loop-line.line-index none) ++ codes "\n")) c.loop-line.invariant
    ∙ sym (lines_more c.args.lines.now c.loop-line.line-index none c.loop-line-test.true)

pub returns : goal.returns
returns c = ap (λ v. v.items) c.into_bytes.ensures.value
    ∙ lines_whole _ c.args.lines.now c.loop-line.line-index c.loop-line.invariant c.loop-line-test.false
