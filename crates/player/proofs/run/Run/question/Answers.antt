use Rattle.std.proofs.Common.{Ok, Some, rules}
use Rattle.player.proofs.Single.{comes_true}
use Rattle.player.proofs.run.Run.question.Goals as goal

pub returns-in_err-record-clause-foretold : goal.returns-in_err-record-clause-foretold
returns-in_err-record-clause-foretold c = comes_true c.args.self.now.bytes.now c.args.self.now.progress c.from_residual-in_err-record.result (search rules)

pub returns-clause-foretold : goal.returns-clause-foretold
returns-clause-foretold c = comes_true c.args.self.now.bytes.now c.args.self.now.progress (Ok (Some c.in_ok-record.record)) (search rules)
