use Rattle.std.proofs.Common.{rules}
use Rattle.layers.proofs.Mirrors.{shut}
use Rattle.layers.proofs.mirror.MirrorSurface.is_open.Goals as goal

pub returns : goal.returns
returns g c = let beside = shut _ (g.met.S.Surface.sound c.args.self.now.below) c.args.x c.args.y in search rules
