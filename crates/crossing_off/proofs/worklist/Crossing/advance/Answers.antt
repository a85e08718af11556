use Rattle.std.proofs.Common.{◌≡◌, ◌∙◌, ℕ, [], drop, slice_get, slice_index_or, ap}
use Rattle.std.proofs.lemmas.List.{get_or_default}
use Rattle.crossing_off.proofs.Ends.{first_may_wait}
use Rattle.crossing_off.proofs.worklist.Crossing.advance.Goals as goal

pub note-requires : goal.note-requires
note-requires c =
    let lists = c.args.self.now.rests.items in
    let cell = c.args.cell in
    let now = c.index_mut-rest.result.now in
    let is : now ≡ slice_index_or lists cell [] =
    c.index_mut-rest.ensures.value ∙ ap (λ (i : ℕ). slice_index_or lists i now) c.from.ensures ∙ get_or_default lists cell now [] c.requires.cell
    in
    first_may_wait 1 (slice_index_or lists cell []) c.front-front.result c.requires.known
    (c.front-front.ensures ∙ ap (λ list. slice_get list 0) (c.advance.ensures ∙ ap (drop 1) is))
