use Rattle.std.proofs.Common.{rules, ◌≡◌, ◌*◌, ◌<◌, true, false, ◌∷◌, ◌++◌, [], sym, ap₂, ◌∙◌}
use Rattle.sys_base.specs.Grid.{cell_count}
use Rattle.cell_types.specs.Typed.{plain}
use Rattle.accept.specs.bodies.Needing.{has_at}
use Rattle.accept.proofs.NeedLines.{with_group, without_group}
use Rattle.accept.proofs.needing.need_lines.Goals.{then-is_some+in_ok-push, else-is_some}
use Rattle.accept.proofs.needing.need_lines.Goals as goal

pub loop-link-preserved : goal.loop-link-preserved
loop-link-preserved c =
    let p = plain c.args.program.now in
    let within : c.loop-link.link < 4 * cell_count c.args.program.now.grid = search rules in
    elim c.if-is_some.branch [
      | then-is_some+in_ok-push w ↦
          let has : has_at c.args.groups.now c.loop-link.link ≡ true = search rules in
          rw w.lines-is
          (w.in_ok-push.ensures.items ∙ ap₂ (λ lines line. lines ++ line ∷ []) c.loop-link.invariant w.need_line.ensures
          ∙ sym (with_group p c.args.groups.now c.loop-link.link within has))
      | else-is_some w ↦
          let has : has_at c.args.groups.now c.loop-link.link ≡ false = search rules in
          rw w.lines-is (c.loop-link.invariant ∙ sym (without_group p c.args.groups.now c.loop-link.link within has))
    ]
