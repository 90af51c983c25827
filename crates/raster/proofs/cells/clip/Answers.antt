use Rattle.std.proofs.Common.{◌≡◌, pos, ◌+ℤ◌, arith, w64, to_z, of_z}
use Rattle.std.proofs.lemmas.Int.{ints}
use Rattle.raster.proofs.Clips.{clips}
use Rattle.raster.proofs.cells.clip.Goals as goal

pub returns-clause-same : goal.returns-clause-same
returns-clause-same c =
    λ k h.
    let w : to_z w64 (of_z w64 c.from-width.result) ≡ pos c.args.width = omega (arith, ints) in
    let a : to_z w64 (of_z w64 c.from-2.result) ≡ c.args.x = omega (arith, ints) in
    let b : to_z w64 (of_z w64 (to_z w64 (of_z w64 c.from-2.result) +ℤ to_z w64 (of_z w64 c.from-3.result))) ≡ c.args.x +ℤ pos c.args.n = omega (arith, ints) in
    let f : to_z w64 (of_z w64 c.clamp-from.result) ≡ c.clamp-from.result = omega (arith, ints) in
    let t : to_z w64 (of_z w64 c.clamp-to.result) ≡ c.clamp-to.result = omega (arith, ints) in
    clips c.args.x (to_z w64 (of_z w64 c.clamp-from.result)) (to_z w64 (of_z w64 c.clamp-to.result)) c.args.n c.args.width k (cc) (cc) h
