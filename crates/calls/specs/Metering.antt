-- One call or clearing over a meter.
use Rattle.std.specs.Prelude.{◌≡◌, ℕ, List, ℤ, None}
use Rattle.surface.specs.Meaning.{Meaning}
use Rattle.surface.specs.Rects.{bounds}
use Rattle.layers.specs.declared.meter.Meter.{Meter}
use Rattle.player.specs.declared.progress.Progress.{Progress}
use Rattle.calls.specs.Machine.{Made}
use Rattle.calls.specs.declared.call.MeterCall.{MeterCall}
use Rattle.calls.specs.declared.call.MeterCall.TheVariants as act
use Rattle.calls.specs.declared.call.Reply.{Reply}
use Rattle.calls.specs.declared.call.Reply.TheVariants as reply

abbrev pub Acted : {S R I : Type 0} → (S → Meaning) → (S → R) → (I → ℤ → ℤ → ℕ) → List ℕ → Progress → Meter S → MeterCall I → Reply → Progress → Meter S → Type 0
Acted means rest shade file t m (act.Call c) r t' m' = Made (λ m. means m.below) (λ m. bounds m.kept) (λ m. rest m.below) shade file t m c r t' m'
Acted means rest shade file t m act.Clear r t' m' = (r ≡ reply.Cleared) × (t' ≡ t) × (m'.below ≡ m.below) × (m'.kept ≡ None)
