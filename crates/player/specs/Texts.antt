-- What faults and counts print.
use Rattle.std.specs.Prelude.{ℕ, List, ◌++◌, codes}
use Rattle.std.specs.Fmt.{decimal}
use Rattle.codes.specs.Refusals.{numbered, told}
use Rattle.metafile.specs.Layers.{layer_word}
use Rattle.player.specs.Faults.{cause_of, place_of, layer_of}
use Rattle.player.specs.declared.fault.StepFault.{StepFault}
use Rattle.player.specs.declared.progress.Counts.{Counts}

abbrev pub fault_text : StepFault → List ℕ
fault_text f = decimal (numbered (cause_of f)) ++ codes " at byte " ++ decimal (place_of f) ++ codes " (" ++ layer_word (layer_of f) ++ codes "): " ++ told (cause_of f)

abbrev pub counts_text : Counts → List ℕ
counts_text n = codes "taken " ++ (decimal n.taken ++ (codes ", refused " ++ (decimal n.refused ++ (codes ", passed over " ++ decimal n.passed_over))))
