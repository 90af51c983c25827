use Rattle.laws.proofs.Performing.{performs}
use Rattle.laws.proofs.performance.play_file.Goals as goal

pub returns : goal.returns
returns g c = record {
  performed = performs _ _ _ _ _ _ _ _ c.play.new.run.progress _ _ _ _ c.start-run.ensures.bytes c.start-run.ensures.progress c.in_ok-steps.ensures.played c.finish.ensures;
  untouched = tt;
}
