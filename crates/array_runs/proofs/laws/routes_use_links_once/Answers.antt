use Rattle.array_runs.proofs.Routes.{once}
use Rattle.array_runs.proofs.laws.routes_use_links_once.Goals as goal

pub returns : goal.returns
returns c = once
