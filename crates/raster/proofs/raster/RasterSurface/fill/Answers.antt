use Rattle.std.proofs.Common.{◌≡◌, ℕ, ◌<◌, false, pos, sym, refl, subst}
use Rattle.std.proofs.lemmas.Int.{to_z-of_z}
use Rattle.surface.specs.Meaning.{spans, strip}
use Rattle.surface.specs.Rects.Kept.{still}
use Rattle.raster.specs.Bits.{among}
use Rattle.raster.proofs.Layouts.{clipped, missed}
use Rattle.raster.proofs.Redrawing.{redraws_alike, redraws_none, rest_stays}
use Rattle.raster.proofs.raster.RasterSurface.fill.Goals as goal

pub returns-in-Some : goal.returns-in-Some
returns-in-Some g c =
    let laws = g.met.L.Storage.lawful in
    let w = c.args.self.now.size.width in
    let h = c.args.self.now.size.height in
    let m = c.args.self.now.memory.now in
    let x = c.args.x in
    let fx = c.ranges.x in
    let fy = c.ranges.y in
    let y : c.args.y ≡ pos c.in-Some.y = (simp to_z-of_z at c.in-Some.ensures).0 in
    let same : (k : ℕ) → k < w → spans x c.args.n (pos k) ≡ among c.clip-columns.result.start c.clip-columns.result.end k
    = simp to_z-of_z at c.clip-columns.ensures.same in
    let e = redraws_alike laws w h m c.args.self.now.roomy c.fill.new.memory _ (strip x (pos c.in-Some.y) c.args.n) c.args.v
    (clipped w h x c.args.n _ _ c.in-Some.y c.clip-columns.ensures.order same) c.fill.ensures in
    let d = subst (λ z. g.L.Storage.Redraws w h m (strip x z c.args.n) c.args.v c.fill.new.memory) (sym y) e in
    record { picture = laws.drawn w h m _ _ c.args.v d; kept = still; rest = rest_stays laws w h m c.args.self.now.roomy _ _ c.args.v _ d; memory = d; lender = refl }

pub returns-in_default : goal.returns-in_default
returns-in_default g c =
    let laws = g.met.L.Storage.lawful in
    let w = c.args.self.now.size.width in
    let h = c.args.self.now.size.height in
    let m = c.args.self.now.memory.now in
    let x = c.args.x in
    let y = c.args.y in
    let fy = c.ranges.y in
    let none : spans (pos 0) h y ≡ false = simp to_z-of_z at c.in_default.ensures in
    let d = redraws_none laws w h m c.args.self.now.roomy (strip x y c.args.n) c.args.v (missed w h x y c.args.n none) in
    record { picture = laws.drawn w h m m _ c.args.v d; kept = still; rest = rest_stays laws w h m c.args.self.now.roomy m _ c.args.v _ d; memory = d; lender = refl }
