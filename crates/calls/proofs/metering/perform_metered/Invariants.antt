use Rattle.std.proofs.Common.{◌≡◌, ◌≤◌, length, take, vec_items, vec_len, vec_capacity}
use Rattle.calls.proofs.Bounds.{Measured}
use Rattle.calls.proofs.metering.perform_metered.Given as goal

abbrev pub invariant-loop-call : goal.invariant-loop-call
invariant-loop-call g l =
    Measured g.I.Ink.shade l.initial.run.bytes.now g.S.Surface.means g.S.Surface.rest (take l.call-index l.calls)
    l.initial.run.progress l.initial.meter (vec_items l.replies) l.run.progress l.meter
    × (l.run.bytes.now ≡ l.initial.run.bytes.now)
    × (vec_len l.replies ≡ l.call-index)
    × (length l.calls ≤ vec_capacity l.replies)
