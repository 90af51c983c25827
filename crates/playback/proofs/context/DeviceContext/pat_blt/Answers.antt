use Rattle.playback.proofs.Performing.{kept}
use Rattle.playback.proofs.context.DeviceContext.pat_blt.Goals as goal

pub returns : goal.returns
returns g c = kept _ _ _ _ _ _ _ _ (simp (c.area-area.ensures, c.ink-ink.ensures) at c.paint.ensures)
