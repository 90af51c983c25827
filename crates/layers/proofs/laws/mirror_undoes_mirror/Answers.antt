use Rattle.layers.proofs.Piles.{mirror_of_mirror}
use Rattle.layers.proofs.laws.mirror_undoes_mirror.Goals as goal

pub returns : goal.returns
returns c = mirror_of_mirror
