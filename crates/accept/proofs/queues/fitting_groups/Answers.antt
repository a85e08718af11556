use Rattle.std.proofs.Common.{◌≡◌, ℕ, List, [], ◌∷◌, Option, None, Some, length, slice_get, refl, sym, ap, subst, ◌∙◌}
use Rattle.std.proofs.lemmas.Option.{none-some}
use Rattle.cell_types.specs.Code.{ProgramCode}
use Rattle.cell_types.specs.Groups.{lengths_of}
use Rattle.cell_types.specs.Typed.{plain}
use Rattle.queue_plan.specs.Grouping.{all_groups}
use Rattle.queue_plan.specs.Lacks.{lacks}
use Rattle.queue_plan.specs.declared.lack.Lack.{Lack}
use Rattle.accept.specs.bodies.Answers.{AreKnown, members_at}
use Rattle.accept.specs.Labelled.{lacks_of}
use Rattle.accept.specs.Told.{lack_refusal}
use Rattle.accept.proofs.FirstLack.{all_known, count_links, first_lack}
use Rattle.accept.proofs.queues.fitting_groups.Goals as goal

-- the first lack of equal groups
same_first : (p : ProgramCode) (labels : List ℕ) (links : List (List (ℕ × List ℕ))) (first : Option Lack)
    → links ≡ all_groups p labels (lengths_of p) → first ≡ slice_get (lacks links p.queues) 0
    → slice_get (lacks_of p labels) 0 ≡ first
same_first p labels links first same is = ap (λ gs. slice_get (lacks gs p.queues) 0) (sym same) ∙ sym is

-- lists of lacks without a first one are empty
none_first : (xs : List Lack) → slice_get xs 0 ≡ None → xs ≡ []
none_first [] is = refl
none_first (x ∷ xs) is = absurd (none-some x (sym is))

pub lack_refusal-requires-clause-link : goal.lack_refusal-requires-clause-link
lack_refusal-requires-clause-link c =
    let p = plain c.args.program.now in
    let labels = c.args.labels.now in
    let same = c.in_ok-groups.ensures.groups in
    let lacked =
    first_lack p labels c.in-Some.lack
    (same_first p labels c.in_ok-groups.groups (Some c.in-Some.lack) same c.in-Some.ensures.lack) in
    lacked.link

pub lack_refusal-requires-clause-links : goal.lack_refusal-requires-clause-links
lack_refusal-requires-clause-links c =
    let p = plain c.args.program.now in
    let labels = c.args.labels.now in
    let same = c.in_ok-groups.ensures.groups in
    ap length same ∙ count_links p labels

pub lack_refusal-requires-clause-known : goal.lack_refusal-requires-clause-known
lack_refusal-requires-clause-known c =
    let p = plain c.args.program.now in
    let labels = c.args.labels.now in
    let link = c.in-Some.lack.link in
    let same = c.in_ok-groups.ensures.groups in
    let lacked =
    first_lack p labels c.in-Some.lack
    (same_first p labels c.in_ok-groups.groups (Some c.in-Some.lack) same c.in-Some.ensures.lack) in
    subst (λ gs. AreKnown gs link (length p.messages)) (sym same) (all_known p labels link lacked.link)

pub returns-in-None-clause-enough : goal.returns-in-None-clause-enough
returns-in-None-clause-enough c =
    let p = plain c.args.program.now in
    let labels = c.args.labels.now in
    let same = c.in_ok-groups.ensures.groups in
    none_first (lacks_of p labels) (same_first p labels c.in_ok-groups.groups None same c.in-None.ensures.lack)

pub returns-in_ok-lack_refusal-in-Some-clause-refused : goal.returns-in_ok-lack_refusal-in-Some-clause-refused
returns-in_ok-lack_refusal-in-Some-clause-refused c =
    let p = plain c.args.program.now in
    let labels = c.args.labels.now in
    let lack = c.in-Some.lack in
    let same = c.in_ok-groups.ensures.groups in
    let first = same_first p labels c.in_ok-groups.groups (Some lack) same c.in-Some.ensures.lack in
    let lacked = first_lack p labels lack first in
    let members = ap (λ gs. members_at gs lack.link lack.label) same ∙ lacked.members in
    (labels, c.requires.labels, lack, first, c.in_ok-lack_refusal-in-Some.ensures ∙ ap (lack_refusal p lack) members)
