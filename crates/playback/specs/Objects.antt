-- The object table.
use Rattle.std.specs.Prelude.{ℕ, min, cond, take, replicate, Option, Some, None, Ok, Err, Result, nat_lt, slice_index_or, slice_set}
use Rattle.std.specs.Option.{is_none}
use Rattle.std.specs.List.{position}
use Rattle.codes.specs.declared.refusal.Refusal.{Refusal}
use Rattle.codes.specs.declared.refusal.Refusal.TheVariants.{TableFull, NoObject}
use Rattle.playback.specs.declared.objects.Object.{Object}
use Rattle.playback.specs.declared.objects.ObjectTable.{ObjectTable}

-- a table of empty slots
abbrev pub blank : ℕ → ObjectTable
blank n = record { slots = replicate 16 None; count = n }

-- how many slots there are: as many as were stated, sixteen at most
abbrev pub size : ObjectTable → ℕ
size t = min t.count 16

-- the lowest empty slot
abbrev pub free : ObjectTable → Option ℕ
free t = position is_none (take (size t) t.slots)

-- what stands at an index, and nothing past the table
abbrev pub slot_at : ObjectTable → ℕ → Option Object
slot_at t i = cond (nat_lt i (size t)) (slice_index_or t.slots i None) None

abbrev pub with_slot : ℕ → Option Object → ObjectTable → ObjectTable
with_slot i s t = record { slots = slice_set t.slots i s; count = t.count }

-- an object is put into a slot; where there is none, nothing changes
abbrev pub put_at : Option ℕ → Object → ObjectTable → ObjectTable
put_at None o t = t
put_at (Some i) o t = with_slot i (Some o) t

abbrev pub room : Option ℕ → Result (Unit {0}) Refusal
room None = Err TableFull
room (Some i) = Ok tt

-- a new object takes the lowest empty slot
abbrev pub put_in : Object → ObjectTable → ObjectTable
put_in o t = put_at (free t) o t

abbrev pub put_answer : ObjectTable → Result (Unit {0}) Refusal
put_answer t = room (free t)

-- the slot of an object is emptied; where there is none, nothing changes
abbrev pub removed : Option Object → ℕ → ObjectTable → ObjectTable
removed None i t = t
removed (Some o) i t = with_slot i None t

abbrev pub remove_answer : Option Object → Result (Unit {0}) Refusal
remove_answer None = Err NoObject
remove_answer (Some o) = Ok tt
