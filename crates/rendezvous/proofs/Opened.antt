-- All cells are on their way before the first event.
use Rattle.std.proofs.Common.{◌≡◌, ℕ, ◌+◌, ◌<◌, ◌≤◌, ℤ, pos, List, [], Some, length, option_map, slice_get, sum_by, sym, ap, subst, ◌∙◌, vec_len, arith}
use Rattle.std.proofs.lemmas.List.{length-map, length-replicate}
use Rattle.std.proofs.lemmas.List.Sums.{get_or-le-sum_by}
use Rattle.std.proofs.lemmas.Option.{get_or_from_slice_get, slice_get-map, slice_get_within}
use Rattle.std.specs.Option.{option_map_or}
use Rattle.std.specs.Prelude.{slice_index_or}
use Rattle.sys_base.specs.Held.{Held}
use Rattle.sys_base.specs.declared.limits.TheConstants.{STEPS}
use Rattle.sys_base.specs.declared.word.Word.TheVariants.{Num}
use Rattle.cell_types.specs.Alike.{Alike, AlikeBlock}
use Rattle.cell_types.specs.Code.{Expression, Number, Variable, Counter, Element, Negated, Applied, Action, Set, SetAt, Write, Read, Take, Emit, For, If, Block, End, Then, CellCode}
use Rattle.cell_types.specs.Communications.{block_communications}
use Rattle.cell_types.specs.Cost.{block_cost, cells_cost}
use Rattle.cell_types.specs.Resolved.{cell_with}
use Rattle.cell_types.specs.Solo.{do_block, opening}
use Rattle.cell_types.specs.Sound.{IsSound, IsSoundCell, Means, SoundAction, SoundBlock, SoundExpression}
use Rattle.cell_types.specs.Typed.{Contents, block_of, plain, plain_cell}
use Rattle.comm_sequence.specs.BufferedOrder.{IsBufferedOrder}
use Rattle.comm_sequence.specs.Sequences.{comms, sequences_of}
use Rattle.comm_sequence.specs.declared.comm.Comm.{Comm}
use Rattle.rendezvous.specs.bodies.Fitting.{FitsAction, FitsBlock, FitsExpression}
use Rattle.rendezvous.specs.bodies.Running.{FitTasks, solo_with, tasks_left}
use Rattle.rendezvous.specs.bodies.Stores.{held_of}
use Rattle.rendezvous.specs.bodies.UnderWay.{AreEmpty, AreOn, IsOn, IsOpening, read_of, words_of}
use Rattle.rendezvous.specs.declared.array.Stream.{Stream}
use Rattle.rendezvous.specs.declared.runner.Runner.{Runner}
use Rattle.rendezvous.proofs.Lengths.{list_at, list_of, many_lists}

-- ---- what is sound fits

module _ (means : Means) where
  expression_fits : (depth : ℕ) → depth ≤ means.counters → (e : Expression) → SoundExpression means depth e
      → FitsExpression means.words means.counters e
  expression_fits depth few (Number number) h = omega arith
  expression_fits depth few (Variable word) h = h
  expression_fits depth few (Counter counter) h = omega arith
  expression_fits depth few (Element base len index) h = (h.0.1, expression_fits depth few index h.1)
  expression_fits depth few (Negated operand) h = expression_fits depth few operand h
  expression_fits depth few (Applied op left right) h =
      (expression_fits depth few left h.0, expression_fits depth few right h.1)

  mutual
    action_fits : (depth : ℕ) → depth ≤ means.counters → (a : Action) → SoundAction means depth a
        → FitsAction means.words means.counters a
    action_fits depth few (Set word value) h = (h.0, expression_fits depth few value h.1)
    action_fits depth few (SetAt base len index value) h =
        (h.0.1, expression_fits depth few index h.1, expression_fits depth few value h.2)
    action_fits depth few (Write message value) h = expression_fits depth few value h.1
    action_fits depth few (Read message word) h = h.1
    action_fits depth few (Take word) h = h
    action_fits depth few (Emit value) h = expression_fits depth few value h
    action_fits depth few (For counter turns body) h =
        (h.1, h.2, block_fits (depth + 1) (omega (arith, h.0, h.1)) body h.3)
    action_fits depth few (If test first second) h =
        (expression_fits depth few test h.0, block_fits depth few first h.1, block_fits depth few second h.2)

    block_fits : (depth : ℕ) → depth ≤ means.counters → (b : Block) → SoundBlock means depth b
        → FitsBlock means.words means.counters b
    block_fits depth few End h = tt
    block_fits depth few (Then line action rest) h = (action_fits depth few action h.0, block_fits depth few rest h.1)

-- ---- one cell among all

-- its cost is no more than that of all
cost_at : (cells : List CellCode) (c : ℕ) (code : CellCode) → slice_get cells c ≡ Some code
    → block_cost code.body ≤ sum_by (λ (x : CellCode). block_cost x.body) cells
cost_at cells c code at =
    let cost = λ (x : CellCode). block_cost x.body in
    let most = get_or-le-sum_by cost cells c code (slice_get_within cells c code at) in
    omega (arith, most, ap cost (get_or_from_slice_get cells c code code at))

module _ (contents : Contents) (inputs : List (List ℤ)) (sound : IsSound (plain contents)) (alike : Alike (plain contents))
    (within : cells_cost (plain contents) ≤ STEPS) (c : ℕ) (r : Runner) (o : IsOpening contents inputs c r) where
  code_is : slice_get (plain contents).cells c ≡ Some (plain_cell o.code)
  code_is = slice_get-map plain_cell contents.cells c ∙ ap (option_map plain_cell) o.at

  sound_cell : IsSoundCell contents.messages c (plain_cell o.code)
  sound_cell = sound.cells c (plain_cell o.code) code_is

  many_words : vec_len r.store.words ≡ o.code.words
  many_words =
      omega (arith, r.store.words.ok, ap (λ (h : Held). length h.words) o.held, length-replicate o.code.words (Num (pos 0)))

  many_counters : vec_len r.store.counters ≡ o.code.counters
  many_counters =
      omega (arith, r.store.counters.ok, ap (λ (h : Held). length h.counters) o.held, length-replicate {A = ℕ} o.code.counters 0)

  arms_alike : AlikeBlock (block_of o.code.body.items)
  arms_alike =
      subst (λ (x : CellCode). AlikeBlock x.body) (get_or_from_slice_get (plain contents).cells c (plain_cell o.code) (plain_cell o.code) code_is)
      (alike c (plain_cell o.code) (slice_get_within (plain contents).cells c (plain_cell o.code) code_is))

  -- a cell before its statements is on its way
  opening_on : (streams : List Stream) → AreEmpty streams
      → IsOn (plain contents) inputs (words_of streams) (read_of streams) c r
  opening_on streams empty =
      let body = block_of o.code.body.items in
      let means : Means = record {
        messages = contents.messages;
        cell = c;
        words = o.code.words;
        counters = o.code.counters;
      } in
      let fits = block_fits means 0 (omega arith) body sound_cell.body in
      let cost = cost_at (plain contents).cells c (plain_cell o.code) code_is in
      record {
        ready = record {
          fit = subst (λ n. FitTasks n (vec_len r.store.counters) r.tasks.items) (sym many_words)
              (subst (λ n. FitTasks o.code.words n r.tasks.items) (sym many_counters) (o.before.fit o.code.words o.code.counters fits));
          few = omega (arith, ap (λ (h : Held). h.taken) o.held, o.before.weight, cost, within);
        };
        alike = o.before.alike arms_alike;
        made = [];
        sent = [];
        reads = λ m x at to. sym (empty m).1;
        writes = λ m x at from. sym (empty m).0;
        comes = λ v e.
            o.before.does r.store.cell r.input.now v (solo_with (held_of r.store) [] [])
            ∙ ap (λ h. do_block r.store.cell r.input.now v body (solo_with h [] [])) o.held
            ∙ ap (λ k. do_block k r.input.now v body (opening o.code.words o.code.counters)) o.cell
            ∙ ap (λ i. do_block c i v body (opening o.code.words o.code.counters)) o.input
            ∙ ap (λ (x : CellCode). do_block c (slice_index_or inputs c []) v x.body (opening x.words x.counters))
            (sym (get_or_from_slice_get (plain contents).cells c (plain_cell o.code) (cell_with 0 End) code_is));
      }

  opening_left : comms (tasks_left r.tasks.items) ≡ list_of (plain contents) c
  opening_left =
      ap comms o.before.left
      ∙ ap (λ x. comms (option_map_or (λ (y : CellCode). block_communications y.body) x [])) (sym code_is)

-- so all of them are
pub all_opening : (contents : Contents) (inputs : List (List ℤ)) (buffer : ℕ) (order : List Comm) (cells : List Runner)
    (streams : List Stream) → IsSound (plain contents) → Alike (plain contents) → cells_cost (plain contents) ≤ STEPS
    → IsBufferedOrder (sequences_of (plain contents)).lists (sequences_of (plain contents)).ends buffer order
    → length cells ≡ length contents.cells → length streams ≡ length contents.messages
    → ((c : ℕ) (r : Runner) → slice_get cells c ≡ Some r → IsOpening contents inputs c r) → AreEmpty streams
    → AreOn (plain contents) inputs [] order cells streams
all_opening contents inputs buffer order cells streams sound alike within ordered many messages opens empty =
    let all : length cells ≡ length (plain contents).cells = many ∙ sym (length-map contents.cells plain_cell) in
    record {
      many = all;
      messages = messages;
      on = λ c r at. opening_on contents inputs sound alike within c r (opens c r at) streams empty;
      left = λ c r at.
          let inside = slice_get_within cells c r at in
          let h : c < length (plain contents).cells = omega (arith, inside, all) in
          opening_left contents inputs sound alike within c r (opens c r at)
          ∙ sym (list_at (plain contents) c h)
          ∙ sym (ordered.each c (omega (arith, h, many_lists (plain contents))));
      written = λ m. ap length (empty m).0;
      read = λ m. (empty m).1;
    }
