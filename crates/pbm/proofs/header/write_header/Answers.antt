use Rattle.std.proofs.Common.{◌∙◌}
use Rattle.pbm.specs.Bitmap.{header}
use Rattle.pbm.proofs.Headers.{behind}
use Rattle.pbm.proofs.header.write_header.Goals as goal

pub returns-clause-buffer : goal.returns-clause-buffer
unfolding header
returns-clause-buffer g c =
    let b = behind 80 52 10 c.copy_from_slice.new.self c.copy_from_slice-2.new.self c.args.out.now c.len-count.result c.copy_from_slice.ensures.after in
    let t = c.copy_from_slice-2.ensures.after ∙ c.as_bytes.ensures.value ∙ c.as_str.ensures.value ∙ c.sides-sides.ensures in
    let w = c.width-width.ensures in
    let h = c.height-height.ensures in
    cc
