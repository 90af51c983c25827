-- Pencils, objects and runs with their colours seen through a view.
use Rattle.std.specs.Prelude.{ℕ, map, Option, Some, None}
use Rattle.pencil.specs.declared.pencil_state.Pencil.{Pencil}
use Rattle.playback.specs.declared.context.DeviceContext.{DeviceContext}
use Rattle.playback.specs.declared.objects.Object.{Object}
use Rattle.playback.specs.declared.objects.Object.TheVariants as object
use Rattle.playback.specs.declared.objects.ObjectTable.{ObjectTable}
use Rattle.player.specs.Views.{seen_brush, seen_pen}
use Rattle.player.specs.declared.progress.Progress.{Progress}

abbrev pub seen_pencil : (ℕ → ℕ) → Pencil → Pencil
seen_pencil view p = record { clip = p.clip; pen = seen_pen view p.pen; mode = p.mode; brush = seen_brush view p.brush; back = view p.back }

abbrev pub seen_object : (ℕ → ℕ) → Object → Object
seen_object view (object.Pen p) = object.Pen (seen_pen view p)
seen_object view (object.Brush b) = object.Brush (seen_brush view b)

abbrev pub seen_slot : (ℕ → ℕ) → Option Object → Option Object
seen_slot view None = None
seen_slot view (Some o) = Some (seen_object view o)

abbrev pub seen_objects : (ℕ → ℕ) → ObjectTable → ObjectTable
seen_objects view t = record { slots = map (seen_slot view) t.slots; count = t.count }

abbrev pub seen_context : (ℕ → ℕ) → DeviceContext → DeviceContext
seen_context view c = record { position = c.position; origins = c.origins; pencil = seen_pencil view c.pencil; objects = seen_objects view c.objects }

-- place, phase and counts hold no colour
abbrev pub seen_progress : (ℕ → ℕ) → Progress → Progress
seen_progress view t = record { place = t.place; phase = t.phase; counts = t.counts; context = seen_context view t.context }
