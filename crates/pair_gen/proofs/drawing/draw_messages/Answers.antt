use Rattle.std.proofs.Common.{◌≡◌, ℕ, ◌<◌, List, ap, sym, ◌∙◌, subst, arith, map, length}
use Rattle.std.proofs.lemmas.List.FromFn.{length-map-range_with_len}
use Rattle.std.specs.List.{All}
use Rattle.sys_base.specs.Groups.{below}
use Rattle.pair_gen.specs.Pairs.{generator, message_drawn, messages_drawn}
use Rattle.pair_gen.proofs.Drawn.{none_before, word_step, next_step, drawn_known, drawn_more}
use Rattle.pair_gen.proofs.drawing.draw_messages.Goals as goal

pub loop-pair-init : goal.loop-pair-init
unfolding generator
loop-pair-init c = (c.seed_from_u64-generator.ensures ∙ sym (none_before (generator c.args.seed)), c.in_ok-messages.ensures.items)

pub loop-pair-preserved : goal.loop-pair-preserved
loop-pair-preserved c =
    let word = word_step c.args.seed c.loop-pair.pair c.next_word-word.result c.loop-pair.generator c.next_word-word.new.self
    c.loop-pair.invariant.0 c.next_word-word.ensures in (
      next_step c.args.seed c.loop-pair.pair c.next_word-word.result c.loop-pair.generator c.next_word-word.new.self
          c.loop-pair.invariant.0 c.next_word-word.ensures,
      drawn_more c.args.seed c.args.pairs c.loop-pair.pair c.next_word-word.result c.loop-pair.messages.items c.push.new.self.items word
          c.loop-pair.invariant.1 c.in_ok-push.ensures.items,
    )

pub returns-clause-drawn : goal.returns-clause-drawn
unfolding messages_drawn
returns-clause-drawn c =
    let end : c.loop-pair.pair ≡ c.args.pairs = omega arith in
    c.loop-pair.invariant.1 ∙ ap (λ n. map (message_drawn c.args.seed c.args.pairs) (below n)) end

pub returns-clause-count : goal.returns-clause-count
returns-clause-count c =
    let end : c.loop-pair.pair ≡ c.args.pairs = omega arith in
    let long = ap length c.loop-pair.invariant.1 ∙ length-map-range_with_len (message_drawn c.args.seed c.args.pairs) 0 c.loop-pair.pair in
    omega (arith, long)

pub returns-clause-known : goal.returns-clause-known
unfolding messages_drawn
returns-clause-known c =
    let end : c.loop-pair.pair ≡ c.args.pairs = omega arith in
    let P : List ℕ → Type 0 = λ ms. All (λ m. m < 24) ms in
    subst P (sym (c.loop-pair.invariant.1 ∙ ap (λ n. map (message_drawn c.args.seed c.args.pairs) (below n)) end)) (drawn_known c.args.seed c.args.pairs)
