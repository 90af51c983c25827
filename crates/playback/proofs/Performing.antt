-- A drawing call's answer as a record's outcome.
use Rattle.std.proofs.Common.{Ok, Err, Result, refl}
use Rattle.codes.specs.declared.refusal.Refusal.{Refusal}
use Rattle.surface.specs.Meaning.{Meaning}
use Rattle.surface.specs.Rects.{Keep}
use Rattle.drawing.specs.Tasks.{Task, refuse, draw, Performs}
use Rattle.playback.specs.Records.{Happens, answered, drawing}
use Rattle.playback.specs.declared.context.DeviceContext.{DeviceContext}

-- the context that a drawing leaves: c where it was drawn
abbrev pub left : Result (Unit {0}) Refusal → DeviceContext → DeviceContext → DeviceContext
left (Ok u) c before = c
left (Err e) c before = before

module _ {S R : Type 0} (means : S → Meaning) (keeps : S → Keep) (rest : S → R) where
  pub performed : (c before : DeviceContext) (s s' : S) (t : Task) (r : Result (Unit {0}) Refusal)
      → Performs means keeps rest t r s s' → Happens means keeps rest (drawing t c before) (answered r) (left r c before) s s'
  performed c before s s' (refuse e) (Ok u) p = absurd (cc)
  performed c before s s' (refuse e) (Err d) p = record { answer = cc; context = refl; surface = p.1 }
  performed c before s s' (draw region new) (Ok u) p = record { answer = refl; context = refl; surface = p.1 }
  performed c before s s' (draw region new) (Err d) p = absurd (cc)

  -- a drawing that leaves the context as it was
  pub kept : (c : DeviceContext) (s s' : S) (t : Task) (r : Result (Unit {0}) Refusal)
      → Performs means keeps rest t r s s' → Happens means keeps rest (drawing t c c) (answered r) c s s'
  kept c s s' t (Ok u) p = performed c c s s' t (Ok u) p
  kept c s s' t (Err e) p = performed c c s s' t (Err e) p
