use Rattle.std.proofs.Common.{rules}
use Rattle.layers.proofs.Mirrors.{blank}
use Rattle.layers.proofs.mirror.MirrorSurface.word.Goals as goal

pub returns : goal.returns
returns g c = let beside = blank _ (g.met.S.Surface.sound c.args.self.now.below) c.args.x c.args.y in search rules
