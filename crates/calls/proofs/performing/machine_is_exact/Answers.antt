use Rattle.calls.proofs.Exactness.{exactly}
use Rattle.calls.proofs.performing.machine_is_exact.Goals as goal

pub returns : goal.returns
returns g c = exactly g.I.Ink.shade
