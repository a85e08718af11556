-- The canonical text of the source of pairs has no refusal.
use Rattle.std.proofs.Common.{◌≡◌, ℕ, zero, suc, ◌*◌, ◌<◌, ◌≤◌, List, [], map, length, refl, sym, subst, ap, ◌∙◌, arith}
use Rattle.std.specs.Prelude.{IsTrue, All, slice_index, get_or}
use Rattle.std.specs.List.{list_any}
use Rattle.std.proofs.Math.ListN.{get_or-map}
use Rattle.std.proofs.lemmas.Bool.{false≢true}
use Rattle.std.proofs.lemmas.List.{length-map}
use Rattle.std.proofs.lemmas.List.FromFn.{get_or-map-range_with_len, length-map-range_with_len}
use Rattle.sys_base.specs.Grid.{cell_count}
use Rattle.sys_base.specs.Groups.{greatest, groups}
use Rattle.sys_base.specs.declared.limits.TheConstants.{STEPS}
use Rattle.cell_types.specs.Alike.{InTurns, AlikeAction, AlikeBlock, Alike}
use Rattle.cell_types.specs.Code as C
use Rattle.cell_types.specs.Code.{Action, Block, CellCode, ProgramCode}
use Rattle.cell_types.specs.Cost.{cells_cost}
use Rattle.cell_types.specs.Groups.{bound, lengths_of, routes_of}
use Rattle.cell_types.specs.Resolved.{resolved_program}
use Rattle.cell_types.specs.Sound.{IsSound}
use Rattle.cell_types.specs.declared.program.Message.{Message}
use Rattle.comm_sequence.specs.Differing.{all_differing}
use Rattle.comm_sequence.specs.Sequences.{Sequences, message_of, sequences_of}
use Rattle.queue_plan.specs.Grouping.{all_groups, groups_at}
use Rattle.refusals.specs.declared.refusal.Refusal.{Refusal}
use Rattle.accept.specs.FirstRefusal.{IsStalled, PassesAll, program_trials}
use Rattle.accept.specs.Labelled.{has_label, IsLabelled, AreLabels, lacks_of}
use Rattle.accept.specs.bodies.Laws.{Laws}
use Rattle.accept.proofs.Judged.{not_costly, not_unlike, passes}
use Rattle.accept.proofs.OneRefusal.{stalling}
use Rattle.pair_laws.specs.Crossings.{crossings}
use Rattle.pair_laws.specs.bodies.Bare.{bare_act, bare_code}
use Rattle.pair_laws.specs.bodies.Laws.{LawsBelow}
use Rattle.pair_laws.specs.bodies.Paired.{paired}
use Rattle.pair_laws.proofs.Crossed.{pairs_ordered, sixteen}
use Rattle.pair_laws.proofs.Program.{body_alike, body_code, bodies_are}
use Rattle.pair_laws.proofs.Programs.{blocks_communicate}
use Rattle.pair_laws.proofs.Room.{pair_routes, routes_are, cost_within, bound_within, link_fits}
use Rattle.pair_laws.proofs.Same.{IsBare}

-- ---- arms

in_turns : (n : ℕ) (A B : Type 0) → (A → B) → InTurns n A → InTurns n B
in_turns zero A B f h = h
in_turns (suc n) A B f h = f h

mutual
  act_alike : (a : Action) → AlikeAction (bare_act a) → AlikeAction a
  act_alike (C.Set word value) h = h
  act_alike (C.SetAt base len index value) h = h
  act_alike (C.Write message value) h = h
  act_alike (C.Read message word) h = h
  act_alike (C.Take word) h = h
  act_alike (C.Emit value) h = h
  act_alike (C.For counter turns body) h = in_turns turns (AlikeBlock (bare_code body)) (AlikeBlock body) (block_alike body) h
  act_alike (C.If test first second) h =
      (sym (blocks_communicate first) ∙ h.0 ∙ blocks_communicate second, block_alike first h.1, block_alike second h.2)

  block_alike : (b : Block) → AlikeBlock (bare_code b) → AlikeBlock b
  block_alike C.End h = h
  block_alike (C.Then line action rest) h = (act_alike action h.0, block_alike rest h.1)

-- ---- the program

module _ (laws : Laws) (below_laws : LawsBelow) (ms : List ℕ) (known : All (λ m. m < 24) ms) (few : length ms ≤ 20000)
    (p : ProgramCode) (is : IsBare (resolved_program (paired ms)) p) (sound : IsSound p) where
  -- the cells are within the limit
  within : cells_cost p ≤ STEPS
  within = omega (arith, cost_within ms known p is, few)

  s : Sequences
  s = sequences_of p

  -- no arms differ
  alike : Alike p
  alike i d inside =
      let here : i < 16 = omega (arith, inside, sixteen ms known p is) in
      let body : bare_code (get_or p.cells i d).body ≡ body_code ms i =
      sym (get_or-map (λ (c : CellCode). bare_code c.body) p.cells i d)
      ∙ ap (λ bs. get_or bs i (bare_code d.body)) (sym is.bodies_are ∙ bodies_are ms)
      ∙ get_or-map-range_with_len (body_code ms) 0 16 i i (bare_code d.body) here (omega arith) in
      block_alike (get_or p.cells i d).body (subst AlikeBlock (sym body) (body_alike ms i))

  none_differ : all_differing p ≡ []
  none_differ = (laws.alike p).0 alike

  -- the pairs are an order, so the program isn't stalled
  not_stalled : (q : Refusal) → IsStalled p q → ⊥
  not_stalled q h =
      let stuck = (stalling p q h).2 in
      stuck.1.no_order (crossings ms) (pairs_ordered ms known p is)

  -- no message has a label, so labels are proposed
  unlabelled : IsLabelled p → ⊥
  unlabelled h = false≢true (subst (λ (list : List Message). IsTrue (list_any has_label list)) (sym is.messages) h)

  all_known : All (λ list. All (λ comm. message_of comm < length p.messages) list) (sequences_of p).lists
  all_known =
      let count : length (sequences_of p).ends ≡ length p.messages = length-map p.messages (λ (m : Message). (m.from, m.to)) in
      subst (λ n. All (λ list. All (λ comm. message_of comm < n) list) (sequences_of p).lists) count
      (below_laws.sequences p sound within).known

  -- no link lacks queues
  enough : (labels : List ℕ) → lacks_of p labels ≡ []
  enough labels =
      let links : List (List (ℕ × List ℕ)) = all_groups p labels (lengths_of p) in
      let cells : 4 * cell_count p.grid ≡ 64 = ap (λ g. 4 * cell_count g) (sym is.grid) in
      let count : length links ≡ 64 =
      length-map-range_with_len (groups (routes_of p) labels (lengths_of p)) 0 (4 * cell_count p.grid) ∙ cells in
      let G : List (ℕ × List ℕ) → ℕ = λ list. greatest (map (λ (group : ℕ × List ℕ). length group.1) list) in
      (below_laws.fit links p.queues).1
      (λ link inside.
      let here : G (groups_at links link) ≡ G (groups pair_routes labels (lengths_of p) link) =
      ap G (below_laws.at p labels (lengths_of p) link (omega (arith, inside, count, cells))
      ∙ ap (λ rs. groups rs labels (lengths_of p) link) (routes_are ms known p is)) in
      let queues : slice_index p.queues link ≡ slice_index (resolved_program (paired [])).queues link =
      ap (λ list. slice_index list link) (sym is.queues) in
      omega (arith, here, queues, link_fits labels (lengths_of p) link (omega (arith, inside, count))))

  -- so no refusal of programs applies
  pub program_passes : PassesAll program_trials p
  program_passes =
      let labels = below_laws.proposal (sequences_of p).lists (length p.messages) all_known in
      let are : AreLabels p labels.0 = record { given = λ h. absurd (unlabelled h); proposed = λ _. labels.1 } in
      let rises = below_laws.consistent (sequences_of p).lists (length p.messages) labels.0 all_known labels.1 in (
        not_costly laws p within,
        (
          not_unlike laws p within none_differ,
          (
            not_stalled,
            passes laws p labels.0 are rises (enough labels.0) (bound p labels.0) refl (bound_within ms known p is labels.0 few),
          ),
        ),
      )
