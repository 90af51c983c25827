use Rattle.layers.proofs.Meters.{one-outcome}
use Rattle.layers.proofs.laws.bounds_are_unique.Goals as goal

pub returns : goal.returns
returns c = one-outcome
