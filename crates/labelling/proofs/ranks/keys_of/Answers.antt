use Rattle.std.proofs.Common.{ℕ, [], ◌∷◌, ◌++◌, length, map, ap, sym, ◌∙◌, arith}
use Rattle.std.proofs.lemmas.List.{map-append, length_push}
use Rattle.std.proofs.lemmas.List.FromFn.{map-range_with_len_more}
use Rattle.cell_types.specs.Groups.{below}
use Rattle.comm_sequence.specs.Labels.{Key, key}
use Rattle.labelling.specs.bodies.Ranks.{key_of}
use Rattle.labelling.specs.bodies.Sets.{is_before}
use Rattle.labelling.proofs.ranks.keys_of.Goals as goal

pub loop-message-preserved : goal.loop-message-preserved
loop-message-preserved c =
    let sets = c.args.sets.now in
    let f : ℕ → Key = key (is_before sets) (length sets) in
    let m = c.loop-message.message in
    let size = c.loop-message.invariant.size in
    record {
      size = (let more = ap length c.in_ok-push.ensures.items ∙ length_push c.loop-message.keys.items c.of.result in omega arith);
      keys =
          ap (map key_of) c.in_ok-push.ensures.items
          ∙ map-append key_of c.loop-message.keys.items (c.of.result ∷ [])
          ∙ ap (λ xs. xs ++ key_of c.of.result ∷ []) c.loop-message.invariant.keys
          ∙ ap (λ x. map f (below m) ++ x ∷ []) c.of.ensures
          ∙ sym (map-range_with_len_more f 0 m m (omega arith));
    }
