use Rattle.std.proofs.Common.{◌≡◌, ◌+◌, ◌/◌, ◌++◌, take, drop, ap, ◌∙◌, arith}
use Rattle.std.proofs.lemmas.List.{length-take-le}
use Rattle.pbm.specs.Bitmap.{octet}
use Rattle.pbm.proofs.Pixels.{byte_more, row-all}
use Rattle.pbm.proofs.row.write_row.Goals as goal

pub loop-i-preserved : goal.loop-i-preserved
loop-i-preserved g c =
    rw c.octet.ensures
    (byte_more (octet (g.S.Surface.means c.args.surface.now) c.args.y) (take ((c.from-2.result + 7) / 8) c.args.out.now) c.loop-i.front c.loop-i.i c.loop-i-test.true c.loop-i.invariant)

pub returns-clause-buffer : goal.returns-clause-buffer
returns-clause-buffer g c =
    let m = g.S.Surface.means c.args.surface.now in
    let n = (c.from-2.result + 7) / 8 in
    let e : n ≡ (m.width + 7) / 8 = ap (λ w. (w + 7) / 8) (c.from-2.ensures ∙ c.width.ensures) in
    let l = length-take-le n c.args.out.now c.if-out-count.false in
    ap (λ f. f ++ drop n c.args.out.now) (row-all m c.args.y c.loop-i.i n (take n c.args.out.now) c.loop-i.front e l (omega arith) c.loop-i.invariant)
