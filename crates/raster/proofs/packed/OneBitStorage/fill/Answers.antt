use Rattle.std.proofs.Common.{◌≡◌, ◌*◌, ◌%◌, cond, eqb, ap, arith}
use Rattle.std.proofs.lemmas.Bool.Decides.{nat_tests}
use Rattle.raster.specs.Packing.{stride}
use Rattle.raster.proofs.PackedPictures.{packed_row}
use Rattle.raster.proofs.packed.OneBitStorage.fill.Goals as goal

pub returns : goal.returns
returns c =
    let at : c.args.y * c.pitch-row.result ≡ c.args.y * stride c.args.size.width = ap (λ p. c.args.y * p) c.pitch-row.ensures in
    let b : cond (eqb (c.args.v % 2) 1) 1 0 ≡ c.args.v % 2 = grind (arith, nat_tests) in
    packed_row c.args.size.width c.args.size.height c.args.memory.now c.args.y c.requires.memory c.requires.row _ at _ _ _ c.args.v _ c.requires.order c.requires.columns b c.fill_row.auto.memory c.fill_row.ensures
