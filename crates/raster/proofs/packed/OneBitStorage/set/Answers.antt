use Rattle.std.proofs.Common.{◌≡◌, ◌+◌, ◌*◌, ◌%◌, cond, eqb, ap, arith}
use Rattle.std.proofs.lemmas.Bool.Decides.{nat_tests}
use Rattle.raster.specs.Packing.{stride}
use Rattle.raster.proofs.Painting.{painted-at}
use Rattle.raster.proofs.PackedPictures.{packed_cell}
use Rattle.raster.proofs.packed.OneBitStorage.set.Goals as goal

pub returns : goal.returns
returns c =
    let start = c.args.y * c.pitch.result in
    let x = c.args.x in
    let at : start ≡ c.args.y * stride c.args.size.width = ap (λ p. c.args.y * p) c.pitch.ensures in
    let b : cond (eqb (c.args.v % 2) 1) 1 0 ≡ c.args.v % 2 = grind (arith, nat_tests) in
    let p = painted-at {c = 8 * start + x} {d = 8 * start + (x + 1)} c.paint_in_byte.ensures (omega arith) (omega arith) in
    packed_cell c.args.size.width c.args.size.height c.args.memory.now c.args.y c.requires.memory c.requires.row start at _ x c.args.v _ c.requires.column b c.paint_in_byte.auto.row p
