use Rattle.std.proofs.Common.{◌≡◌, ◌-◌, true, List, length}
use Rattle.player.specs.Playing.{ongoing}
use Rattle.player.specs.declared.whole.Step.{Step}
use Rattle.player.proofs.Wholes.{Going}
use Rattle.capi.specs.Listening.{first_refused}
use Rattle.capi.proofs.listening.play_listening.Given as goal

abbrev pub invariant-records : goal.invariant-records
invariant-records g l =
    (steps : List Step)
    × Going g.S.Surface.means g.S.Surface.keeps g.S.Surface.rest l.initial.run.bytes.now l.initial.run.progress l.initial.surface steps l.run.progress l.surface
    × (l.run.bytes.now ≡ l.initial.run.bytes.now)
    × (ongoing steps ≡ true)
    × (l.first ≡ first_refused steps)

abbrev pub decreases-records : goal.decreases-records
decreases-records g l = length l.initial.run.bytes.now - l.run.progress.place
