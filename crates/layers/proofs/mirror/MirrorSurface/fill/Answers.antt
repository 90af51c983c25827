use Rattle.surface.specs.Rects.{still}
use Rattle.std.proofs.Common.{◌≡◌, ◌&&◌, ℤ, pos, ap, ◌∙◌, arith, w32, SFits, rules}
use borrow.Author.Differences.{ints}
use lib.Signed.{le_z, lt_z}
use Rattle.std.proofs.lemmas.Int.{to_z-of_z}
use Rattle.surface.specs.Meaning.{spans}
use Rattle.layers.proofs.Mirrors.{mirror_fills, across_span}
use Rattle.layers.proofs.mirror.MirrorSurface.fill.Goals as goal

pub returns-clause-picture : goal.returns-clause-picture
returns-clause-picture g c =
    let fx = c.ranges.x in
    let fs : SFits w32 c.cut-part.result.start = search rules in
    let fw : SFits w32 c.from-width.result = search rules in
    let m = g.S.Surface.means c.args.self.now.below in
    let e : c.from-width.result ≡ pos m.width = c.from-width.ensures ∙ ap pos c.width.ensures in
    let cells : (p : ℤ) → spans c.cut-part.result.start c.cut-part.result.count p ≡ (spans c.args.x c.args.n p && (le_z (pos 0) p && lt_z p (pos m.width))) = simp e at (simp to_z-of_z at c.cut-part.ensures.cells) in
    mirror_fills m _ (g.met.S.Surface.sound _) _ _ c.args.x c.args.y _ c.args.n c.args.v c.fill.ensures.picture (to_z-of_z w32 c.args.y c.ranges.y) (λ p. across_span m.width _ c.cut-part.result.start c.cut-part.result.count (omega (arith, ints)) p ∙ cells p)

pub returns-clause-kept : goal.returns-clause-kept
returns-clause-kept g c = still
