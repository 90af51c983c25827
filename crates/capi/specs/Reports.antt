-- Refusals as C sees them.
use Rattle.codes.specs.Refusals.{numbered}
use Rattle.codes.specs.declared.refusal.Refusal.{Refusal}
use Rattle.metafile.specs.declared.fault.FileFault.{FileFault}
use Rattle.player.specs.declared.fault.RecordFault.{RecordFault}
use Rattle.player.specs.declared.fault.StepFault.{StepFault}
use Rattle.player.specs.declared.fault.StepFault.TheVariants as fault
use Rattle.capi.specs.declared.report.Fault.{Fault}
use Rattle.capi.specs.declared.report.Report.{Report}

abbrev pub no_fault : Fault
no_fault = record { number = 0; layer = 0; place = 0 }

-- a cause with neither place nor layer
abbrev pub bare : Refusal → Fault
bare c = record { number = numbered c; layer = 0; place = 0 }

abbrev pub of_file : FileFault → Fault
of_file f = record { number = numbered f.cause; layer = 1; place = f.place }

abbrev pub of_record : RecordFault → Fault
of_record f = record { number = numbered f.cause; layer = 2; place = f.place }

abbrev pub of_step : StepFault → Fault
of_step (fault.File f) = of_file f
of_step (fault.Record f) = of_record f

-- the report of what was not played
abbrev pub unplayed : Fault → Report
unplayed f = record { stop = f; first = no_fault; taken = 0; refused = 0; passed_over = 0 }
