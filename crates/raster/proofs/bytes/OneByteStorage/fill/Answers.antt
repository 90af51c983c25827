use Rattle.std.proofs.Common.{◌≡◌, ◌*◌, ap}
use Rattle.raster.proofs.BytePictures.{bytewise_row}
use Rattle.raster.proofs.bytes.OneByteStorage.fill.Goals as goal

pub returns : goal.returns
returns c =
    let at : c.args.y * c.from.result ≡ c.args.y * c.args.size.width = ap (λ w. c.args.y * w) c.from.ensures in
    bytewise_row c.args.size.width c.args.size.height c.args.memory.now c.args.y c.requires.memory c.requires.row _ _ _ _ c.args.v at c.requires.order c.requires.columns (c.fill.ensures.after (λ y e. e))
