use Rattle.std.proofs.Common.{◌≡◌, false, refl}
use Rattle.std.proofs.lemmas.Int.{to_z-of_z}
use Rattle.surface.specs.Meaning.{inside, strip}
use Rattle.surface.specs.Rects.Kept.{still}
use Rattle.raster.proofs.Layouts.{apart}
use Rattle.raster.proofs.Redrawing.{redraws_none, rest_stays}
use Rattle.raster.proofs.raster.RasterSurface.set.Goals as goal

pub returns-in-Some-clause-kept : goal.returns-in-Some-clause-kept
returns-in-Some-clause-kept g c = still

pub returns-in_default : goal.returns-in_default
returns-in_default g c =
    let w = c.args.self.now.size.width in
    let h = c.args.self.now.size.height in
    let m = c.args.self.now.memory.now in
    let x = c.args.x in
    let y = c.args.y in
    let fx = c.ranges.x in
    let fy = c.ranges.y in
    let out : inside w h x y ≡ false = simp to_z-of_z at c.in_default.ensures in
    let laws = g.met.L.Storage.lawful in
    let d = redraws_none laws w h m c.args.self.now.roomy (strip x y 1) c.args.v (apart w h x y out) in
    record { picture = laws.drawn w h m m _ c.args.v d; kept = still; rest = rest_stays laws w h m c.args.self.now.roomy m _ c.args.v _ d; memory = d; lender = refl }
