use Rattle.std.proofs.Common.{arith}
use borrow.Author.Differences.{ints}
use Rattle.std.proofs.lemmas.Int.{clamps}
use Rattle.surface.proofs.Keeping.{same-rect}
use Rattle.layers.proofs.meter.hull.Goals as goal

pub returns : goal.returns
returns c = same-rect _ _ (omega (arith, ints, clamps)) (omega (arith, ints, clamps)) (omega (arith, ints, clamps)) (omega (arith, ints, clamps))
