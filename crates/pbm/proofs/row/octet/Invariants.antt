use Rattle.std.proofs.Common.{◌≡◌, ◌+◌, ◌*◌}
use Rattle.pbm.specs.Bitmap.{pixel, binary}
use Rattle.pbm.proofs.row.octet.Given as goal

abbrev pub invariant-loop-k : goal.invariant-loop-k
invariant-loop-k g l = l.byte ≡ binary (λ k. pixel (g.S.Surface.means l.surface) l.y (8 * l.i + k)) l.k
