use Rattle.std.proofs.Common.{◌≡◌, ◌++◌, List, length, map, sum_by, slice_get, sym, ◌∙◌, ap, arith}
use Rattle.std.proofs.lemmas.Iterator.Adapters.{YieldsList-from_vec}
use Rattle.std.proofs.lemmas.Iterator.Consumers.{YieldsList-end}
use Rattle.std.proofs.lemmas.List.{map-id}
use Rattle.comm_sequence.specs.declared.comm.Comm.{Comm}
use Rattle.crossing_off.proofs.Finish.{left_few, one_of, answer_empty, answer_left}
use Rattle.crossing_off.proofs.worklist.Crossing.finish.Goals as goal

pub count-left-requires : goal.count-left-requires
count-left-requires c =
    let few = left_few c.args.seqs.now c.args.buffer c.args.self c.requires.under_way in
    let seen = c.loop-rest.invariant.seen in
    let here = ap (λ xs. c.loop-rest.yielded ++ xs) (sym c.in-Some.ensures.steps.0) ∙ seen in
    omega (arith, few, one_of c.loop-rest.yielded c.next.new.self.rest.items c.args.self.rests.items c.in-Some.rest here)

pub overflow_add-left : goal.overflow_add-left
overflow_add-left c =
    let few = left_few c.args.seqs.now c.args.buffer c.args.self c.requires.under_way in
    let seen = c.loop-rest.invariant.seen in
    let here = ap (λ xs. c.loop-rest.yielded ++ xs) (sym c.in-Some.ensures.steps.0) ∙ seen in
    omega (arith, few, one_of c.loop-rest.yielded c.next.new.self.rest.items c.args.self.rests.items c.in-Some.rest here)

-- all lists were seen
all_seen : (seen all : List (List Comm)) → map (λ (r : List Comm). r) seen ≡ all → seen ≡ all
all_seen seen all h = sym (map-id seen) ∙ h

pub returns-then-left-eq0 : goal.returns-then-left-eq0
returns-then-left-eq0 c =
    let rests = c.args.self.rests in
    let gives = c.into_iter-rest-iterator.ensures.into_iter_gives in
    let long : c.into_iter-rest-iterator.result.rest.len ≡ length rests.items = omega (arith, gives.1, rests.ok.0) in
    let all = YieldsList-end (YieldsList-from_vec {s = c.into_iter-rest-iterator.result} rests.items gives.0 long) c.loop-rest.yielded c.loop-rest.rest-iterator c.loop-rest.yielded_by c.next.result c.next.new.self c.in-None.is c.next.ensures.steps in
    let seen = all_seen c.loop-rest.yielded rests.items all.0 in
    answer_empty c.args.seqs.now c.args.buffer c.args.self c.requires.under_way c.requires.stuck
    (ap (sum_by length) (sym seen) ∙ sym c.loop-rest.invariant.left ∙ c.if-left-eq0.true)

pub returns : goal.returns
returns c =
    let rests = c.args.self.rests in
    let gives = c.into_iter-rest-iterator.ensures.into_iter_gives in
    let long : c.into_iter-rest-iterator.result.rest.len ≡ length rests.items = omega (arith, gives.1, rests.ok.0) in
    let all = YieldsList-end (YieldsList-from_vec {s = c.into_iter-rest-iterator.result} rests.items gives.0 long) c.loop-rest.yielded c.loop-rest.rest-iterator c.loop-rest.yielded_by c.next.result c.next.new.self c.in-None.is c.next.ensures.steps in
    let seen = all_seen c.loop-rest.yielded rests.items all.0 in
    answer_left c.args.seqs.now c.args.buffer c.args.self (record { left = c.loop-rest.left; fronts = c.loop-rest.fronts }) c.requires.under_way c.requires.stuck
    (c.loop-rest.invariant.left ∙ ap (sum_by length) seen) c.if-left-eq0.false
    (c.loop-rest.invariant.fronts ∙ ap (map (λ (r : List Comm). slice_get r 0)) seen)
