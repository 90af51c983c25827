use Rattle.examples.proofs.Octets.{bytes_are}
use Rattle.examples.proofs.setting.set_in_planes.Goals as goal

pub returns : goal.returns
returns c = bytes_are _ _ 4 c.set_first.auto.memory (λ i _. c.set_first.ensures.planes.bits i) c.set_first.ensures.bytes
