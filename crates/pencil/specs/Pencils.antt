-- Pencils.
use Rattle.std.specs.Prelude.{pos}
use Rattle.codes.specs.declared.mode.LineMode.TheVariants.{CopyPen}
use Rattle.surface.specs.declared.rect.Rect.{Rect}
use Rattle.pencil.specs.declared.brush.Brush.TheVariants as brush
use Rattle.pencil.specs.declared.pen.Pen.TheVariants as pen
use Rattle.pencil.specs.declared.pencil_state.Pencil.{Pencil}

-- the pencil that a run starts with
abbrev pub fresh : Pencil
fresh = record {
  clip = record { left = pos 0; top = pos 0; right = pos 4096; bottom = pos 4096 };
  pen = pen.Solid 0;
  mode = CopyPen;
  brush = brush.Solid 65535;
  back = 65535;
}

-- a pencil with another clip
abbrev pub with_clip : Rect → Pencil → Pencil
with_clip r p = record { clip = r; pen = p.pen; mode = p.mode; brush = p.brush; back = p.back }
