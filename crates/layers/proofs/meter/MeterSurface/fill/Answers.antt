use Rattle.std.proofs.lemmas.Int.{to_z-of_z}
use Rattle.surface.specs.Rects.{more}
use Rattle.layers.proofs.Meters.{grown_joined, solid-joined}
use Rattle.layers.proofs.meter.MeterSurface.fill.Goals as goal

pub invariant_of-self : goal.invariant_of-self
invariant_of-self g c = record { full = rw c.grown-self.ensures (solid-joined _ _ _ c.args.self.now.full c.reached-more.ensures) }

pub returns-clause-kept : goal.returns-clause-kept
returns-clause-kept g c =
    let fx = c.ranges.x in
    let fy = c.ranges.y in
    more (rw c.grown-self.ensures (grown_joined _ _ _ c.args.self.now.full (simp to_z-of_z at c.reached-more.ensures)))
