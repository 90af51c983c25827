use Rattle.std.proofs.Common.{◌≡◌, ◌≤◌, map, length, take, vec_items, vec_len, vec_capacity}
use Rattle.calls.specs.declared.call.MeterCall.TheVariants as act
use Rattle.calls.proofs.Along.{Along}
use Rattle.calls.proofs.performing.perform.Given as goal

abbrev pub invariant-loop-call : goal.invariant-loop-call
invariant-loop-call g l =
    Along g.I.Ink.shade l.initial.run.bytes.now g.S.Surface.means g.S.Surface.keeps g.S.Surface.rest (map act.Call (take l.call-index l.calls))
    l.initial.run.progress l.initial.surface (vec_items l.replies) l.run.progress l.surface
    × (l.run.bytes.now ≡ l.initial.run.bytes.now)
    × (vec_len l.replies ≡ l.call-index)
    × (length l.calls ≤ vec_capacity l.replies)
