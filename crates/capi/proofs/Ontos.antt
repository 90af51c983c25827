-- From a raster that was played on to its memory.
use Rattle.std.proofs.Common.{◌≡◌, ℕ, Bool, true, false, cond, ◌&&◌, List, length, Ok, Err, Result, sym, refl, ap, ◌∙◌, subst, inr, arith}
use base.Fml.{GName}
use Rattle.codes.specs.declared.refusal.Refusal.{Refusal}
use Rattle.codes.specs.declared.refusal.Refusal.TheVariants.{Size, Memory}
use Rattle.surface.specs.Meaning.{Meaning}
use Rattle.surface.specs.Rects.{Keep}
use Rattle.metafile.specs.Header.{Accepted}
use Rattle.metafile.specs.declared.checked.Checked.{Checked}
use Rattle.raster.specs.Layout.{Untouched, rest_of}
use Rattle.player.specs.Playing.{Plays}
use Rattle.player.specs.Runs.{begun}
use Rattle.capi.specs.Playing.{report_of, Reported, Onto, Played}
use Rattle.capi.specs.declared.report.Report.{Report}

-- a size and a memory that are not refused
pub fits_so : (a b : Bool) (u : Unit {0}) → ◌≡◌ {A = Result (Unit {0}) Refusal} (Ok u) (cond a (cond b (Ok tt) (Err Memory)) (Err Size)) → (a && b) ≡ true
fits_so true true u e = refl
fits_so true false u e = absurd (let z : ◌≡◌ {A = ℕ} 0 1 = cc in omega arith)
fits_so false b u e = absurd (let z : ◌≡◌ {A = ℕ} 0 1 = cc in omega arith)

pub cond_so : (b : Bool) (n w : ℕ) → b ≡ true → n ≡ cond b w 0 → n ≡ w
cond_so b n w e h = h ∙ ap (λ t. cond t w 0) e

-- a checked file was played on a memory that fits
pub onto_played : (shows : List ℕ → Meaning) (spare : List ℕ → ℕ → ℕ) (fit : Result (Unit {0}) Refusal) (u : Unit {0}) (file m m' : List ℕ) (r : Report) (c : Checked)
    → Ok u ≡ fit → Accepted file c → Onto shows spare c.bytes.now c.first c.objects m r m' → Played shows spare fit file m r m'
onto_played shows spare fit u file m m' r c e a o = subst (λ f. Played shows spare f file m r m') e (inr (c, a, o))

-- What was played on a raster, by its memory: p and q are the raster before and after, and the names that end so are theirs.
pub raster_onto : {S : Type 0} {means : S → Meaning} {keeps : S → Keep} {rest : S → Untouched} (shows : ℕ → ℕ → List ℕ → Meaning) (spare : ℕ → ℕ → List ℕ → ℕ → ℕ)
    (w h wp hp wq hq : ℕ) (m mp mq : List ℕ) (lp lq : GName) {p q : S} {file : List ℕ} {place slots : ℕ} {r : Report}
    → means p ≡ shows wp hp mp → means q ≡ shows wq hq mq → rest p ≡ rest_of spare wp hp mp lp → rest q ≡ rest_of spare wq hq mq lq
    → wp ≡ w → hp ≡ h → mp ≡ m → Reported means keeps rest file place slots p r q → Onto (shows w h) (spare w h) file place slots m r mq
raster_onto {means = means} shows spare w h wp hp wq hq m mp mq lp lq {q = q} {file = file} {place = place} {slots = slots} sp sq rp rq ew eh em d =
    let out = d.listened.out in
    let still : rest_of spare wq hq mq lq ≡ rest_of spare wp hp mp lp = sym rq ∙ out.still ∙ rp in
    let qw : wq ≡ w = ap (λ u. u.width) still ∙ ew in
    let qh : hq ≡ h = ap (λ u. u.height) still ∙ eh in
    let from = sp ∙ (λ i. shows (ew i) (eh i) (em i)) in
    let to = sq ∙ (λ i. shows (qw i) (qh i) mq) in
    record {
      end = d.end;
      steps = d.listened.steps;
      cells = out.cells;
      plays = subst (λ s. Plays (λ w. w) file (begun place slots) (shows w h m) d.listened.steps d.end s out.cells) to
          (subst (λ s. Plays (λ w. w) file (begun place slots) s d.listened.steps d.end (means q) out.cells) from out.plays);
      stopped = out.stopped;
      report = d.report ∙ ap (λ a. report_of a d.heard.first d.end.counts) d.listened.last ∙ ap (λ f. report_of out.stopped.last.answer f d.end.counts) d.listened.first;
      bytes = ap (λ u. u.bytes) still ∙ ap length em;
      spares = λ i. sym (λ j. spare (qw j) (qh j) mq i) ∙ ap (λ u. u.spare i) still ∙ (λ j. spare (ew j) (eh j) (em j) i);
    }
