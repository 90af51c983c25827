use Rattle.examples.proofs.Cells.{row_is}
use Rattle.examples.proofs.painting.row_byte.Goals as goal

pub returns : goal.returns
returns g c = row_is (g.S.Surface.means c.args.surface.now) c.args.y c.write_row.new.out c.write_row.result c.requires.wide c.requires.high c.requires.row c.write_row.ensures.answer c.write_row.ensures.buffer
