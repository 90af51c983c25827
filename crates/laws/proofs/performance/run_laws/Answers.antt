use Rattle.player.proofs.Single.{some_step, one-step}
use Rattle.laws.proofs.Ends.{stays, ends}
use Rattle.laws.proofs.Sayings.{answers, starts}
use Rattle.laws.proofs.Tally.{tallies}
use Rattle.laws.proofs.Twice.{same_runs}
use Rattle.laws.proofs.performance.run_laws.Goals as goal

pub returns : goal.returns
returns c = record {
  tallies = tallies;
  answers = answers;
  starts = starts;
  stays = stays;
  ends = ends;
  outcome = record { some = some_step; one = one-step; whole = same_runs };
}
