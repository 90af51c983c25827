use Rattle.std.proofs.Common.{◌≡◌, ◌+◌, ◌-◌, ◌*◌, ◌/◌, ◌≤◌, true, ◌⊎◌, length, vec_items, vec_len, vec_capacity}
use Rattle.player.specs.Playing.{ongoing}
use Rattle.player.proofs.Wholes.{Going}
use Rattle.player.proofs.whole.play.Given as goal

abbrev pub invariant-records : goal.invariant-records
invariant-records g l =
    Going g.S.Surface.means g.S.Surface.keeps g.S.Surface.rest l.initial.run.bytes.now l.initial.run.progress l.initial.surface (vec_items l.steps) l.run.progress l.surface
    × (l.run.bytes.now ≡ l.initial.run.bytes.now)
    × (ongoing (vec_items l.steps) ≡ true)
    × (6 * vec_len l.steps + l.initial.run.progress.place ≤ l.run.progress.place)
    × ((vec_len l.steps ≡ 0) ⊎ (l.run.progress.place ≤ length l.initial.run.bytes.now))
    × ((length l.initial.run.bytes.now - l.initial.run.progress.place) / 6 + 1 ≤ vec_capacity l.steps)

abbrev pub decreases-records : goal.decreases-records
decreases-records g l = length l.initial.run.bytes.now - l.run.progress.place
