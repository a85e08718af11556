use Rattle.std.proofs.Common.{◌∙◌, ap, length}
use Rattle.cell_types.specs.Typed.{plain}
use Rattle.stream_io.specs.Results.{line_of, meaning_data}
use Rattle.systole_top.proofs.Giving.{cells_of, emits_count, words_only}
use Rattle.systole_top.proofs.mean.words_of.Goals as goal

pub meaning_text-requires-clause-outputs : goal.meaning_text-requires-clause-outputs
meaning_text-requires-clause-outputs c =
    cells_of c.args.built.now c.args.inputs.now.cells c.in_ok-outputs.outputs.cells c.requires.ready c.in_ok-outputs.ensures

pub meaning_text-requires-clause-emits : goal.meaning_text-requires-clause-emits
meaning_text-requires-clause-emits c =
    ap length (c.deref.ensures.value ∙ c.in_ok-emits.ensures) ∙ emits_count c.args.built.now.image c.requires.ready.shaped

pub returns : goal.returns
returns c =
    let words = c.in_ok-outputs.outputs.cells in
    let inputs = c.args.inputs.now.cells in (
      words,
      words_only (plain c.args.built.now.program) inputs words (c.requires.ready.meaning inputs c.requires.counted) c.in_ok-outputs.ensures,
      c.in_ok-line.ensures ∙ ap (λ emits. line_of (meaning_data c.args.built.now.image.grid words emits)) (c.deref.ensures.value ∙ c.in_ok-emits.ensures),
    )
