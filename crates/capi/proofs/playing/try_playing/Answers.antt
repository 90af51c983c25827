use Rattle.std.proofs.Common.{◌≡◌, true, leb, length, refl, rules}
use Rattle.raster.specs.Layout.{sized, fit, fitting}
use Rattle.capi.specs.Playing.{Played}
use Rattle.capi.proofs.Ontos.{fits_so, cond_so, onto_played, raster_onto}
use Rattle.capi.proofs.playing.try_playing.Goals as goal

pub returns : goal.returns
returns g c =
    let shows = g.L.Storage.shows in
    let spare = g.L.Storage.spare in
    let w = c.args.width in
    let h = c.args.height in
    let m = c.args.memory.now in
    let p = c.new-surface.result in
    let q = c.play_on.new.surface in
    let fits = c.in_ok-fits.ensures in
    let room = fit w h (g.L.Storage.needed w h) (length m) in
    let so : room ≡ true = fits_so (sized w h) (leb (g.L.Storage.needed w h) (length m)) _ fits in
    let o = raster_onto shows spare w h p.size.width p.size.height q.size.width q.size.height m p.memory.now q.memory.now p.memory.ghost_name q.memory.ghost_name
    refl refl refl refl (cond_so room p.size.width w so c.new-surface.ensures.width) (cond_so room p.size.height h so c.new-surface.ensures.height) c.new-surface.ensures.same c.play_on.ensures in
    let asked = fitting w h (g.L.Storage.needed w h) (length m) in
    let e : Played (shows w h) (spare w h) asked c.args.file.now m c.play_on.result q.memory.now
    = onto_played (shows w h) (spare w h) asked _ c.args.file.now m q.memory.now c.play_on.result c.in_ok-checked.checked fits c.in_ok-checked.ensures o in
    search rules
