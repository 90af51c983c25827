use Rattle.std.proofs.Common.{◌≡◌, ◌&&◌, ℤ, pos, ◌+ℤ◌, refl, ap, ◌∙◌, arith, w32, SFits, to_z, of_z, rules}
use lib.Signed.{le_z, lt_z}
use borrow.Author.Differences.{ints}
use Rattle.std.proofs.lemmas.Int.{to_z-of_z}
use Rattle.surface.specs.Meaning.{spans}
use Rattle.layers.proofs.Rowwise.{reached-none, reached-some, row_small}
use Rattle.layers.proofs.meter.reached.Goals as goal

pub returns-in_err-first : goal.returns-in_err-first
returns-in_err-first g c =
    let fx = c.ranges.x in
    let fy = c.ranges.y in
    let fw : SFits w32 c.from.result = search rules in
    let m = g.S.Surface.means c.args.below.now in
    let none = simp to_z-of_z at c.in_err-first.ensures in
    let e : c.from.result ≡ pos m.width = c.from.ensures ∙ ap pos c.width.ensures in
    let part : (z : ℤ) → spans c.cut-part.result.start c.cut-part.result.count z ≡ (spans c.args.x c.args.n z && (le_z (pos 0) z && lt_z z (pos m.width))) = simp e at (simp to_z-of_z at c.cut-part.ensures.cells) in
    rw c.from_residual.ensures (reached-none m (g.met.S.Surface.sound _) c.args.x c.args.y c.args.n _ _ part _ _ (omega (arith, ints)) (omega (arith, ints)) none)

pub overflow_add-result-2 : goal.overflow_add-result-2
overflow_add-result-2 g c =
    let first = c.in_ok-first.ensures in
    let small = row_small _ (g.met.S.Surface.sound _) _ _ first.here in
    omega (arith, ints)

pub returns : goal.returns
returns g c =
    let high : to_z w32 (of_z w32 (to_z w32 (of_z w32 c.cut-part.result.start) +ℤ to_z w32 (of_z w32 c.from-2.result))) ≡ (c.cut-part.result.start +ℤ pos c.cut-part.result.count) = omega (arith, ints) in
    let fx = c.ranges.x in
    let fy = c.ranges.y in
    let fw : SFits w32 c.from.result = search rules in
    let ff : SFits w32 c.in_ok-first.first = search rules in
    let fl : SFits w32 c.in_ok-last.last = search rules in
    let m = g.S.Surface.means c.args.below.now in
    let first = simp to_z-of_z at c.in_ok-first.ensures in
    let last = simp to_z-of_z at c.in_ok-last.ensures in
    let small = row_small _ (g.met.S.Surface.sound _) _ _ first.here in
    let fl1 : SFits w32 (c.in_ok-last.last +ℤ pos 1) = omega (arith, ints) in
    let fy1 : SFits w32 (c.args.y +ℤ pos 1) = omega (arith, ints) in
    let e : c.from.result ≡ pos m.width = c.from.ensures ∙ ap pos c.width.ensures in
    let part : (z : ℤ) → spans c.cut-part.result.start c.cut-part.result.count z ≡ (spans c.args.x c.args.n z && (le_z (pos 0) z && lt_z z (pos m.width))) = simp e at (simp to_z-of_z at c.cut-part.ensures.cells) in
    simp to_z-of_z (reached-some m (g.met.S.Surface.sound _) c.args.x c.args.y c.args.n _ _ part _ _ (omega (arith, ints)) high _ _ _ _ first last refl refl)
