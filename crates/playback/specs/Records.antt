-- The record table: what each record does.
use Rattle.std.specs.Prelude.{◌≡◌, ℕ, Bool, ℤ, Ok, Err, Result}
use Rattle.codes.specs.declared.refusal.Refusal.{Refusal}
use Rattle.surface.specs.Meaning.{Meaning}
use Rattle.surface.specs.Rects.{Keep, overlap}
use Rattle.surface.specs.Drawing.{Draws}
use Rattle.pencil.specs.Pencils.{with_clip}
use Rattle.pencil.specs.Tools.{brushed, inked}
use Rattle.pencil.specs.declared.pencil_state.Pencil.{Pencil}
use Rattle.drawing.specs.Tasks.{Task, refuse, draw, line_task, paint_task, copy_task}
use Rattle.metafile.specs.declared.logical.LogicalArea.{LogicalArea}
use Rattle.metafile.specs.declared.logical.LogicalPoint.{LogicalPoint}
use Rattle.metafile.specs.declared.record.Record.{Record}
use Rattle.metafile.specs.declared.record.Record.TheVariants as RecordOf
use Rattle.playback.specs.Objects.{put_in, put_answer, removed, remove_answer, slot_at}
use Rattle.playback.specs.Places.{device, device_area, device_rect}
use Rattle.playback.specs.Contexts.{with_position, with_origins, with_pencil, with_objects, with_mode, with_back, select_in, select_answer}
use Rattle.playback.specs.declared.answer.Answer.{Answer}
use Rattle.playback.specs.declared.answer.Answer.TheVariants.{Taken, PassedOver, Ended}
use Rattle.playback.specs.declared.context.DeviceContext.{DeviceContext}
use Rattle.playback.specs.declared.objects.Object.TheVariants as object

-- What a record leaves of the surface: it is as it was, or each open cell of a region took a new word made from the picture before.
pub data Mark : Type 0 where
  untouched : Mark
  marked : (ℤ → ℤ → Bool) → (Meaning → ℤ → ℤ → ℕ) → Mark

abbrev pub Marks : {S R : Type 0} → (S → Meaning) → (S → Keep) → (S → R) → Mark → S → S → Type 0
Marks means keeps rest untouched s s' = s' ≡ s
Marks means keeps rest (marked region new) s s' = Draws means keeps rest region new s s'

-- what a record comes to: its answer, the context after it, and its mark
pub record Outcome : Type 0 where
  pub answer : Result Answer Refusal
  pub context : DeviceContext
  pub mark : Mark

-- nothing but the context changes
abbrev pub changed : DeviceContext → Outcome
changed c = record { answer = Ok Taken; context = c; mark = untouched }

-- where it is refused, not even that
abbrev pub allowed : Result (Unit {0}) Refusal → DeviceContext → DeviceContext → Outcome
allowed (Ok _) c before = changed c
allowed (Err e) c before = record { answer = Err e; context = before; mark = untouched }

-- a drawing, and the context after it
abbrev pub drawing : Task → DeviceContext → DeviceContext → Outcome
drawing (refuse e) c before = record { answer = Err e; context = before; mark = untouched }
drawing (draw region new) c before = record { answer = Ok Taken; context = c; mark = marked region new }

-- the words of a pencil's brush
abbrev pub brush_shade : Pencil → ℤ → ℤ → ℕ
brush_shade p = inked (brushed p.brush p.back)

-- a line from the position, which moves to its end
abbrev pub line_to : LogicalPoint → DeviceContext → Outcome
line_to p c = drawing (line_task c.pencil (device c.origins c.position) (device c.origins p)) (with_position p c) c

-- a paint with the brush
abbrev pub pat_blt : ℕ → LogicalArea → DeviceContext → Outcome
pat_blt code area c = drawing (paint_task c.pencil (device_area c.origins area) code (brush_shade c.pencil)) c c

-- a copy with the brush
abbrev pub bit_blt : ℕ → LogicalArea → LogicalPoint → DeviceContext → Outcome
bit_blt code area source c = drawing (copy_task c.pencil (device_area c.origins area) (device c.origins source) code (brush_shade c.pencil)) c c

abbrev pub plays : Record → DeviceContext → Outcome
plays RecordOf.End c = record { answer = Ok Ended; context = c; mark = untouched }
plays (RecordOf.SetWindowOrg origin) c = changed (with_origins (record { window = origin; viewport = c.origins.viewport }) c)
plays (RecordOf.SetViewportOrg origin) c = changed (with_origins (record { window = c.origins.window; viewport = origin }) c)
plays (RecordOf.MoveTo to) c = changed (with_position to c)
plays (RecordOf.LineTo to) c = line_to to c
plays (RecordOf.PatBlt code area) c = pat_blt code area c
plays (RecordOf.BitBlt code area source) c = bit_blt code area source c
plays (RecordOf.IntersectClipRect near far) c =
    changed (with_pencil (with_clip (overlap c.pencil.clip (device_rect c.origins near far)) c.pencil) c)
plays (RecordOf.SetRop2 m) c = changed (with_pencil (with_mode m c.pencil) c)
plays (RecordOf.SetBkColor w) c = changed (with_pencil (with_back w c.pencil) c)
plays (RecordOf.CreateBrushIndirect b) c = allowed (put_answer c.objects) (with_objects (put_in (object.Brush b) c.objects) c) c
plays (RecordOf.CreatePenIndirect p) c = allowed (put_answer c.objects) (with_objects (put_in (object.Pen p) c.objects) c) c
plays (RecordOf.SelectObject i) c = allowed (select_answer i c) (select_in i c) c
plays (RecordOf.DeleteObject i) c = allowed (remove_answer (slot_at c.objects i)) (with_objects (removed (slot_at c.objects i) i c.objects) c) c
plays (RecordOf.Unlisted f rest) c = record { answer = Ok PassedOver; context = c; mark = untouched }

-- a drawing's answer is its record's
abbrev pub answered : Result (Unit {0}) Refusal → Result Answer Refusal
answered (Ok u) = Ok Taken
answered (Err e) = Err e

-- it happened: the answer, the context and the surface are the outcome's
pub record Happens {S R : Type 0} (means : S → Meaning) (keeps : S → Keep) (rest : S → R) (o : Outcome) (r : Result Answer Refusal) (c : DeviceContext) (s s' : S) : Type 0 where
  pub answer : r ≡ o.answer
  pub context : c ≡ o.context
  pub surface : Marks means keeps rest o.mark s s'
