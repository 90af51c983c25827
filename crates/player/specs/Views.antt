-- Colours seen through a view, a function of words. The player sees them as they are; the machine of one bit plane sees that bit.
use Rattle.std.specs.Prelude.{ℕ}
use Rattle.pencil.specs.declared.brush.Brush.{Brush}
use Rattle.pencil.specs.declared.brush.Brush.TheVariants as brush
use Rattle.pencil.specs.declared.pen.Pen.{Pen}
use Rattle.pencil.specs.declared.pen.Pen.TheVariants as pen
use Rattle.metafile.specs.declared.record.Record.{Record}
use Rattle.metafile.specs.declared.record.Record.TheVariants as of

abbrev pub seen_pen : (ℕ → ℕ) → Pen → Pen
seen_pen view (pen.Solid c) = pen.Solid (view c)
seen_pen view pen.Null = pen.Null

abbrev pub seen_brush : (ℕ → ℕ) → Brush → Brush
seen_brush view (brush.Solid c) = brush.Solid (view c)
seen_brush view (brush.Hatched s c) = brush.Hatched s (view c)

-- a record with its colours seen so
abbrev pub seen_record : (ℕ → ℕ) → Record → Record
seen_record view of.End = of.End
seen_record view (of.SetWindowOrg p) = of.SetWindowOrg p
seen_record view (of.SetViewportOrg p) = of.SetViewportOrg p
seen_record view (of.MoveTo p) = of.MoveTo p
seen_record view (of.LineTo p) = of.LineTo p
seen_record view (of.PatBlt code area) = of.PatBlt code area
seen_record view (of.BitBlt code area source) = of.BitBlt code area source
seen_record view (of.IntersectClipRect near far) = of.IntersectClipRect near far
seen_record view (of.SetRop2 m) = of.SetRop2 m
seen_record view (of.SetBkColor c) = of.SetBkColor (view c)
seen_record view (of.CreateBrushIndirect b) = of.CreateBrushIndirect (seen_brush view b)
seen_record view (of.CreatePenIndirect p) = of.CreatePenIndirect (seen_pen view p)
seen_record view (of.SelectObject i) = of.SelectObject i
seen_record view (of.DeleteObject i) = of.DeleteObject i
seen_record view (of.Unlisted f rest) = of.Unlisted f rest
