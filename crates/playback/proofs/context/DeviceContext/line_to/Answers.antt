use Rattle.std.proofs.Common.{Ok, Err}
use Rattle.std.proofs.lemmas.Result.{err_from_is_err_and}
use Rattle.playback.proofs.Performing.{performed}
use Rattle.playback.proofs.context.DeviceContext.line_to.Goals as goal

pub returns-in_err-line : goal.returns-in_err-line
returns-in_err-line g c =
    let p = err_from_is_err_and c.from_residual.result c.from_residual.ensures.1 in
    rw (p.1, p.2) (performed _ _ _ _ _ _ _ _ (Err _) (simp (c.device-from.ensures, c.device.ensures) at c.in_err-line.ensures))

pub returns : goal.returns
returns g c = performed _ _ _ _ _ _ _ _ (Ok _) (simp (c.device-from.ensures, c.device.ensures) at c.in_ok-line.ensures)
