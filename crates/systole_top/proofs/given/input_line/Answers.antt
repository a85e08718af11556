use Rattle.std.proofs.Common.{◌≡◌, ◌++◌, IfOk, ap, ap₂, codes, decimal, subst, ◌∙◌}
use Rattle.sys_base.specs.Names.{cell_text}
use Rattle.systole_top.specs.Texts.{input_line}
use Rattle.systole_top.proofs.Giving.{pieces}
use Rattle.systole_top.proofs.given.input_line.Goals as goal

pub returns-in_ok-rule-in-NotInteger-clause-line : goal.returns-in_ok-rule-in-NotInteger-clause-line
unfolding input_line
returns-in_ok-rule-in-NotInteger-clause-line c =
    subst (λ bytes. IfOk c.key_line-in-NotInteger.result (λ line. line.items ≡ bytes))
    (rw c.in-NotInteger.is
    (ap₂ (λ key rule. codes "input: " ++ key ++ rule) c.as_slice-in-NotInteger.ensures (c.deref.ensures.value ∙ c.in_ok-rule-in-NotInteger.ensures)
    ∙ pieces (codes "input: " ++ c.in-NotInteger.key) (codes " at ") (decimal c.in-NotInteger.at) (codes " is no integer\n")))
    c.key_line-in-NotInteger.ensures

pub returns-in-Count-clause-line : goal.returns-in-Count-clause-line
unfolding input_line
returns-in-Count-clause-line c =
    subst (λ bytes. IfOk c.count_line.result (λ line. line.items ≡ bytes))
    (rw c.in-Count.is
    (ap (λ name. codes "input: cell " ++ cell_text name ++ codes " needs " ++ decimal c.in-Count.need ++ codes " words and has " ++ decimal c.in-Count.has ++ codes "\n")
    c.cell_name.ensures))
    c.count_line.ensures
