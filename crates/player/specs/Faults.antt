-- Faults of a step: cause, place and layer.
use Rattle.std.specs.Prelude.{ℕ}
use Rattle.codes.specs.declared.refusal.Refusal.{Refusal}
use Rattle.metafile.specs.declared.fault.Layer.{Layer}
use Rattle.metafile.specs.declared.fault.Layer.TheVariants as layer
use Rattle.player.specs.declared.fault.StepFault.{StepFault}
use Rattle.player.specs.declared.fault.StepFault.TheVariants.{File, Record}

abbrev pub cause_of : StepFault → Refusal
cause_of (File f) = f.cause
cause_of (Record f) = f.cause

abbrev pub place_of : StepFault → ℕ
place_of (File f) = f.place
place_of (Record f) = f.place

abbrev pub layer_of : StepFault → Layer
layer_of (File f) = layer.File
layer_of (Record f) = layer.Record
