use Rattle.std.proofs.Common.{◌≡◌, ◌++◌, map, drop}
use Rattle.std.specs.List.{range_with_len}
use Rattle.pbm.specs.Bitmap.{octet}
use Rattle.pbm.proofs.row.write_row.Given as goal

abbrev pub invariant-loop-i : goal.invariant-loop-i
invariant-loop-i g l = l.front ≡ map (octet (g.S.Surface.means l.surface) l.y) (range_with_len 0 l.i) ++ drop l.i l.initial.front
