use Rattle.std.proofs.Common.{ℕ, ◌+◌, ◌*◌, ◌<◌, refl, arith, rules}
use Rattle.pbm.specs.Bitmap.{pixel, binary}
use Rattle.pbm.proofs.Pixels.{pixel-bit, binary_more, binary_small}
use Rattle.pbm.proofs.row.octet.Goals as goal

pub loop-k-init : goal.loop-k-init
unfolding binary
loop-k-init g c = refl

pub overflow_mul-byte : goal.overflow_mul-byte
overflow_mul-byte g c =
    let m = g.S.Surface.means c.args.surface.now in
    let f : ℕ → ℕ = λ k. pixel m c.args.y (8 * c.args.i + k) in
    let s = binary_small f (λ k. pixel-bit m c.args.y (8 * c.args.i + k)) c.loop-k.k (omega arith) in
    let b : c.loop-k.byte < 128 = omega (arith, c.loop-k.invariant) in
    search rules

pub overflow_add-byte : goal.overflow_add-byte
overflow_add-byte g c =
    let m = g.S.Surface.means c.args.surface.now in
    let f : ℕ → ℕ = λ k. pixel m c.args.y (8 * c.args.i + k) in
    let s = binary_small f (λ k. pixel-bit m c.args.y (8 * c.args.i + k)) c.loop-k.k (omega arith) in
    let b : c.loop-k.byte < 128 = omega (arith, c.loop-k.invariant) in
    let p : c.pixel.result < 2 = omega (arith, c.pixel.ensures, pixel-bit m c.args.y (8 * c.args.i + c.loop-k.k)) in
    search rules

pub loop-k-preserved : goal.loop-k-preserved
loop-k-preserved g c =
    let m = g.S.Surface.means c.args.surface.now in
    let f : ℕ → ℕ = λ k. pixel m c.args.y (8 * c.args.i + k) in
    let e = binary_more f c.loop-k.k in
    let h = c.loop-k.invariant in
    let p = c.pixel.ensures in
    cc
