use Rattle.std.proofs.Common.{arith}
use Rattle.std.proofs.lemmas.Int.{ints}
use Rattle.playback.proofs.context.shifted.Goals as goal

pub returns : goal.returns
returns c = omega (arith, ints)
