use Rattle.codes.specs.Bits.{of_bits}
use Rattle.codes.specs.Operations.{combined}
use Rattle.pbm.specs.Bitmap.{binary}
use Rattle.examples.proofs.Bounds.{block_bounds}
use Rattle.examples.proofs.Cells.{bit_is}
use Rattle.examples.proofs.Octets.{bytes_are}
use Rattle.examples.proofs.painting.paint_block.Goals as goal

pub returns : goal.returns
unfolding combined of_bits binary
returns c =
    let d = c.paint_packed-bounds.ensures in
    let n = c.paint_packed-bounds.auto.memory in
    record {
      memory = bytes_are _ _ 4 n (bit_is 4 _ _ n d.picture) d.bytes;
      bounds = block_bounds c.bounds_are_unique.ensures _ d.bounds;
      rows = d.rows;
    }
