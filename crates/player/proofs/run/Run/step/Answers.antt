use Rattle.player.proofs.Strides.{found_steps}
use Rattle.player.proofs.run.Run.step.Goals as goal

pub returns-in-Playing-Ok-clause-stepped : goal.returns-in-Playing-Ok-clause-stepped
returns-in-Playing-Ok-clause-stepped g c = found_steps _ _ _ _ _ _ _ _ _ _ c.in-Playing-Ok.is-0 c.in-Playing-Ok.ensures c.obey.ensures.obeyed
