use Rattle.raster.proofs.Wholes.{packed-whole, bytewise-whole, planar-whole}
use Rattle.raster.proofs.laws.memory_laws.Goals as goal

pub returns : goal.returns
returns c = record { packed = packed-whole; bytes = bytewise-whole; planes = planar-whole }
