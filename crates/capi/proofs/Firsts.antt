-- The first record refused, step by step.
use Rattle.std.proofs.Common.{◌≡◌, List, [], ◌∷◌, ◌++◌, Some, None, Option, refl, ap, ◌∙◌}
use Rattle.std.specs.Option.{option_or}
use Rattle.player.specs.declared.fault.RecordFault.{RecordFault}
use Rattle.player.specs.declared.whole.Step.{Step}
use Rattle.capi.specs.Listening.{record_fault, first_refused}

or-none : (a : Option RecordFault) → option_or a None ≡ a
or-none (Some f) = refl
or-none None = refl

or_then : (a b c : Option RecordFault) → option_or a (option_or b c) ≡ option_or (option_or a b) c
or_then (Some f) b c = refl
or_then None b c = refl

pub first_push : (ss : List Step) (s : Step) → first_refused (ss ++ (s ∷ [])) ≡ option_or (first_refused ss) (record_fault s.answer)
first_push [] s = or-none (record_fault s.answer)
first_push (x ∷ ss) s = ap (option_or (record_fault x.answer)) (first_push ss s) ∙ or_then (record_fault x.answer) (first_refused ss) (record_fault s.answer)
