-- The playback device context: what records change.
use Rattle.std.specs.Prelude.{ℕ, pos, Option, Some, None, Ok, Err, Result}
use Rattle.codes.specs.declared.mode.LineMode.{LineMode}
use Rattle.codes.specs.declared.refusal.Refusal.{Refusal}
use Rattle.codes.specs.declared.refusal.Refusal.TheVariants.{NoObject}
use Rattle.metafile.specs.declared.logical.LogicalPoint.{LogicalPoint}
use Rattle.pencil.specs.Pencils.{fresh}
use Rattle.pencil.specs.declared.brush.Brush.{Brush}
use Rattle.pencil.specs.declared.pen.Pen.{Pen}
use Rattle.pencil.specs.declared.pencil_state.Pencil.{Pencil}
use Rattle.playback.specs.Objects.{blank, slot_at}
use Rattle.playback.specs.declared.context.DeviceContext.{DeviceContext}
use Rattle.playback.specs.declared.context.Origins.{Origins}
use Rattle.playback.specs.declared.objects.Object.{Object}
use Rattle.playback.specs.declared.objects.Object.TheVariants as object
use Rattle.playback.specs.declared.objects.ObjectTable.{ObjectTable}

abbrev pub origin : LogicalPoint
origin = record { x = pos 0; y = pos 0 }

-- the context that a run starts with, with a table of n slots
abbrev pub initial : ℕ → DeviceContext
initial n = record { position = origin; origins = record { window = origin; viewport = origin }; pencil = fresh; objects = blank n }

-- a context with one part changed
abbrev pub with_position : LogicalPoint → DeviceContext → DeviceContext
with_position p c = record { position = p; origins = c.origins; pencil = c.pencil; objects = c.objects }

abbrev pub with_origins : Origins → DeviceContext → DeviceContext
with_origins o c = record { position = c.position; origins = o; pencil = c.pencil; objects = c.objects }

abbrev pub with_pencil : Pencil → DeviceContext → DeviceContext
with_pencil p c = record { position = c.position; origins = c.origins; pencil = p; objects = c.objects }

abbrev pub with_objects : ObjectTable → DeviceContext → DeviceContext
with_objects t c = record { position = c.position; origins = c.origins; pencil = c.pencil; objects = t }

-- a pencil with one part changed
abbrev pub with_pen : Pen → Pencil → Pencil
with_pen p c = record { clip = c.clip; pen = p; mode = c.mode; brush = c.brush; back = c.back }

abbrev pub with_mode : LineMode → Pencil → Pencil
with_mode m c = record { clip = c.clip; pen = c.pen; mode = m; brush = c.brush; back = c.back }

abbrev pub with_brush : Brush → Pencil → Pencil
with_brush b c = record { clip = c.clip; pen = c.pen; mode = c.mode; brush = b; back = c.back }

abbrev pub with_back : ℕ → Pencil → Pencil
with_back w c = record { clip = c.clip; pen = c.pen; mode = c.mode; brush = c.brush; back = w }

-- selecting copies an object into the pencil
abbrev pub taken_up : Option Object → Pencil → Pencil
taken_up None p = p
taken_up (Some (object.Pen n)) p = with_pen n p
taken_up (Some (object.Brush b)) p = with_brush b p

abbrev pub if_there : Option Object → Result (Unit {0}) Refusal
if_there None = Err NoObject
if_there (Some o) = Ok tt

abbrev pub select_in : ℕ → DeviceContext → DeviceContext
select_in i c = with_pencil (taken_up (slot_at c.objects i) c.pencil) c

abbrev pub select_answer : ℕ → DeviceContext → Result (Unit {0}) Refusal
select_answer i c = if_there (slot_at c.objects i)
