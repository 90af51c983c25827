use Rattle.std.proofs.lemmas.Result.{IfOk-weaker}
use Rattle.calls.proofs.Played.{played-apart}
use Rattle.calls.proofs.whole.play_whole.Goals as goal

pub returns-clause-apart : goal.returns-clause-apart
returns-clause-apart g c =
    IfOk-weaker c.play.result _ _ (λ v p. played-apart c.args.run.now.bytes.now c.args.run.now.progress (g.S.Surface.means c.args.surface.now) (g.met.S.Surface.sound c.args.surface.now).shallow _ _ _ p.cells p.plays)
    c.play.ensures.played
