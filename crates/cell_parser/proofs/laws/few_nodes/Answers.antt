use Rattle.std.proofs.Common.{arith}
use Rattle.cell_parser.proofs.FewNodes.{few_nodes}
use Rattle.cell_parser.proofs.laws.few_nodes.Goals as goal

pub returns-clause-tokens : goal.returns-clause-tokens
returns-clause-tokens c = few_nodes

pub returns-clause-bytes : goal.returns-clause-bytes
returns-clause-bytes c text ts s stand reads = omega (arith, few_nodes text ts s reads, c.few_tokens.ensures.few text ts stand)
