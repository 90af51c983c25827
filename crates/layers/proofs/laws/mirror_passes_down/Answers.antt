use Rattle.layers.proofs.Piles.{below_mirror}
use Rattle.layers.proofs.laws.mirror_passes_down.Goals as goal

pub returns : goal.returns
returns c = below_mirror
