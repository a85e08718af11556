use Rattle.std.proofs.Common.{◌≡◌, ◌++◌, drop, length}
use Rattle.cell_types.specs.Typed.{block_of}
use Rattle.cell_codegen.specs.Bounds.{SmallBlock}
use Rattle.cell_codegen.specs.Emission.{block_code}
use Rattle.cell_codegen.proofs.emission.+emit.Given as goal

abbrev pub invariant-emit_block-loop-statement : goal.invariant-emit_block-loop-statement
invariant-emit_block-loop-statement l =
    record {
      code : l.code.items ++ block_code (length l.code.items) (block_of (drop l.statement-index l.body))
          ≡ l.fn.code.items ++ block_code (length l.fn.code.items) (block_of l.body);
      small : SmallBlock (block_of (drop l.statement-index l.body));
    }
