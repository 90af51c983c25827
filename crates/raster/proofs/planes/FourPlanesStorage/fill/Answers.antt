use Rattle.std.proofs.Common.{◌≡◌, ℕ, ◌+◌, ◌*◌, ◌/◌, ◌%◌, ◌^◌, ◌≤◌, cond, eqb, sym, ap, ◌∙◌, mul_left_comm, arith}
use Rattle.std.proofs.lemmas.Bool.Decides.{nat_tests}
use Rattle.raster.specs.Packing.{stride}
use Rattle.raster.proofs.Layouts.{row_end}
use Rattle.raster.proofs.Painting.{painted-at}
use Rattle.raster.proofs.PlanePictures.{planed_more, planar_row}
use Rattle.raster.proofs.planes.FourPlanesStorage.fill.Goals as goal

pub returns : goal.returns
returns c =
    let n = ap (λ (p : ℕ). 8 * p) c.needed-plane.ensures in
    let at : c.args.y * c.pitch-row.result ≡ c.args.y * stride c.args.size.width = ap (λ p. c.args.y * p) c.pitch-row.ensures in
    planar_row c.args.size.width c.args.size.height c.args.memory.now c.args.y c.requires.memory c.requires.row _ _ _ _ _ c.args.v _ n at (omega arith) c.requires.order c.requires.columns
    c.loop-k.auto.memory c.loop-k.invariant

pub loop-k-preserved : goal.loop-k-preserved
loop-k-preserved c =
    let k = c.loop-k.k in
    let row = c.pitch-row.result in
    let plane = c.needed-plane.result in
    let b : cond (eqb (c.args.v / 2 ^ k % 2) 1) 1 0 ≡ c.args.v / 2 ^ k % 2 = grind (arith, nat_tests) in
    let p : plane ≡ c.args.size.height * row = c.needed-plane.ensures ∙ sym (ap (λ r. c.args.size.height * r) c.pitch-row.ensures) in
    let r : c.args.y * row + row ≤ plane = row_end c.args.size.height row plane c.args.y (omega arith) c.requires.row in
    let w : 8 * (c.args.y * row) + c.args.columns.end ≤ 8 * plane = omega arith in
    let q = painted-at c.fill_row.ensures (omega (arith, mul_left_comm k 8 plane)) (omega (arith, mul_left_comm k 8 plane)) in
    planed_more _ _ _ _ k _ _ _ _ w b c.loop-k.invariant q
