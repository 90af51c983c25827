use Rattle.codes.proofs.Words.{operation_planes, mode_planes}
use Rattle.codes.proofs.operation.operation_laws.Goals as goal

pub returns : goal.returns
returns c = record { operations = operation_planes; modes = mode_planes }
