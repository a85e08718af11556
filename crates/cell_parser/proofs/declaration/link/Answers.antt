use Rattle.std.proofs.Common.{ℕ, ◌∙◌}
use Rattle.std.proofs.lemmas.Result.{err_from_is_err_and}
use Rattle.sys_base.specs.declared.key.Key.TheVariants as K
use Rattle.sys_base.specs.declared.kinds.Dir.{Dir}
use Rattle.cell_tree.specs.declared.source.Place.{Place}
use Rattle.cell_tree.specs.declared.source.Source.{Source}
use Rattle.cell_parser.specs.Inner.Machine.{State, ExpectDir, Links, key, setting, with_link}
use Rattle.cell_parser.proofs.declaration.link.Goals as goal

-- what is wanted after the place, and after the direction
abbrev queues : ℕ → Source → Place → Dir → ℕ → State
queues l s p d q = Links (with_link s (record { place = p; dir = d; queues = q; line = l }))

pub direction-requires : goal.direction-requires
direction-requires c = c.in_ok-place.ensures.kept c.args.text.now c.requires

pub returns-in_err-queues-clause-wrong : goal.returns-in_err-queues-clause-wrong
returns-in_err-queues-clause-wrong c =
    let text = c.args.text.now in
    let k = λ (s : Source). queues c.args.line s in
    let p = err_from_is_err_and c.from_residual-in_err-queues.result c.from_residual-in_err-queues.ensures.1 in
    rw (p.1, p.2) (λ s left at. c.in_ok-place.ensures.read text (λ p. ExpectDir (λ d. key K.Queues (setting (k s p d)))) ∙ c.in_ok-dir.ensures.read (λ d. key K.Queues (setting (k s c.in_ok-place.place d))) ∙ c.in_ok-rest.ensures.read text (setting (k s c.in_ok-place.place c.in_ok-dir.dir)) ∙ c.in_err-queues.ensures.wrong text left at (k s c.in_ok-place.place c.in_ok-dir.dir))

pub returns-clause-read : goal.returns-clause-read
returns-clause-read c = λ s.
    let text = c.args.text.now in
    let k = queues c.args.line s in
    c.in_ok-place.ensures.read text (λ p. ExpectDir (λ d. key K.Queues (setting (k p d)))) ∙ c.in_ok-dir.ensures.read (λ d. key K.Queues (setting (k c.in_ok-place.place d))) ∙ c.in_ok-rest.ensures.read text (setting (k c.in_ok-place.place c.in_ok-dir.dir)) ∙ c.in_ok-queues.ensures.read text (k c.in_ok-place.place c.in_ok-dir.dir)

pub returns-clause-kept : goal.returns-clause-kept
returns-clause-kept c =
    let text = c.args.text.now in
    c.in_ok-queues.ensures.kept text (c.in_ok-rest.ensures.kept text (c.in_ok-dir.ensures.kept))
