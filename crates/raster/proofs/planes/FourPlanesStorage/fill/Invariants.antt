use Rattle.std.proofs.Common.{◌+◌, ◌*◌}
use Rattle.raster.specs.Planar.{Planed}
use Rattle.raster.proofs.planes.FourPlanesStorage.fill.Given as goal

abbrev pub invariant-loop-k : goal.invariant-loop-k
invariant-loop-k l =
    let start = 8 * (l.y * l.row) in
    Planed (8 * l.plane) (start + l.columns.start) (start + l.columns.end) l.v l.k l.initial.memory l.memory
