use Rattle.systole_top.proofs.Prefixes.{stripped}
use Rattle.systole_top.proofs.request.after_prefix.Goals as goal

pub returns : goal.returns
returns c = stripped c.args.prefix.now c.args.word.now (λ rest. rest.now) c.strip_prefix.result c.strip_prefix.ensures.cases
