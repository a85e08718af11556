use Rattle.std.proofs.Common.{List, [], ◌∷◌, ◌++◌, map, take, sym, ap, ◌∙◌, append_assoc}
use Rattle.std.proofs.lemmas.List.{map_more, take_all}
use Rattle.sys_base.specs.declared.kinds.Dir.{Dir}
use Rattle.sys_base.specs.declared.kinds.Dir.TheVariants as D
use Rattle.cell_types.specs.Resolved.{queues_of}
use Rattle.cell_types.proofs.links.add_queues.Goals as goal

-- the directions in the order of their links' ids
abbrev dirs : List Dir
dirs = D.N ∷ D.E ∷ D.S ∷ D.W ∷ []

pub loop-dir-preserved : goal.loop-dir-preserved
loop-dir-preserved c source so =
    let i = c.loop-dir.dir-index in
    let before = c.args.queues.now.items in
    c.in_ok-push.ensures.items
    ∙ ap (λ qs. qs ++ c.queues_of.result ∷ []) (c.loop-dir.invariant source so)
    ∙ append_assoc before (map (queues_of source c.args.cell) (take i dirs)) (c.queues_of.result ∷ [])
    ∙ ap (λ q. before ++ (map (queues_of source c.args.cell) (take i dirs) ++ q ∷ [])) (c.queues_of.ensures source so)
    ∙ ap (λ qs. before ++ qs) (sym (map_more (queues_of source c.args.cell) dirs i D.N c.loop-dir-test.true))

pub returns-clause-queues : goal.returns-clause-queues
returns-clause-queues c source so =
    c.loop-dir.invariant source so
    ∙ ap (λ ds. c.args.queues.now.items ++ map (queues_of source c.args.cell) ds) (take_all c.loop-dir.dir-index dirs c.loop-dir-test.false)
