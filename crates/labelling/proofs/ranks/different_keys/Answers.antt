use Rattle.std.proofs.Common.{◌≡◌, length, true, false, ap, sym, ◌∙◌, arith}
use Rattle.std.proofs.lemmas.Bool.{eq-eqb, ne_eqb}
use Rattle.std.proofs.lemmas.List.{append-nil, length_push}
use Rattle.std.specs.Global.{Vec}
use Rattle.labelling.proofs.Firsts.{found_are_different, kept_of, kept_more}
use Rattle.labelling.specs.declared.ranks.MessageKey.{MessageKey}
use Rattle.labelling.proofs.ranks.different_keys.Goals as goal
use Rattle.labelling.proofs.ranks.different_keys.Goals.{then-from-message+in_ok-push, else-from-message}

pub loop-message-preserved : goal.loop-message-preserved
loop-message-preserved c =
    let keys = c.args.keys.now in
    let old = c.loop-message.different.items in
    let new = c.if-from-message.different.items in
    let m = c.loop-message.message in
    let inv = c.loop-message.invariant in
    let few = inv.few in
    elim c.if-from-message.branch [
      | then-from-message+in_ok-push w ↦
          let pushed = ap (λ (v : Vec MessageKey). v.items) w.different-is ∙ w.in_ok-push.ensures.items in
          let least = w.if-from-message.true in
          let said = c.from.ensures in
          record {
            few = (let more = ap length pushed ∙ length_push old _ in omega arith);
            found = kept_more keys old new m true inv.found pushed (eq-eqb _ m (sym c.from.ensures ∙ w.if-from-message.true));
          }
      | else-from-message w ↦
          let same = ap (λ (v : Vec MessageKey). v.items) w.different-is in
          record {
            few = (let size = ap length same in omega arith);
            found = kept_more keys old new m false inv.found (same ∙ sym (append-nil old)) (ne_eqb _ m (λ e. w.if-from-message.false (c.from.ensures ∙ e)));
          }
    ]

pub returns-clause-different : goal.returns-clause-different
returns-clause-different c = λ lists h.
    let size = c.loop-message.auto.message-end in
    let all : c.loop-message.message ≡ length c.args.keys.now = omega arith in
    found_are_different lists c.args.keys.now c.loop-message.different.items h
    (c.loop-message.invariant.found ∙ ap (kept_of c.args.keys.now) all)
