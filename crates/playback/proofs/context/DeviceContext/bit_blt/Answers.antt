use Rattle.playback.proofs.Performing.{kept}
use Rattle.playback.proofs.context.DeviceContext.bit_blt.Goals as goal

pub returns : goal.returns
returns g c = kept _ _ _ _ _ _ _ _ (simp (c.area-area.ensures, c.device-source.ensures, c.ink-ink.ensures) at c.copy.ensures)
