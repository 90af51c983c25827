-- Every list of calls has one outcome, and no second.
use Rattle.std.proofs.Common.{◌≡◌, ℕ, List, [], ◌∷◌, ℤ, Ok, Err, sym, refl, ap, ◌∙◌, subst}
use Rattle.drawing.specs.Tasks.{Task, refuse, draw, line_task, paint_task, copy_task}
use Rattle.playback.specs.Records.{Mark, untouched, marked}
use Rattle.player.specs.declared.progress.Progress.{Progress}
use Rattle.player.proofs.Single.{some_step, one-step}
use Rattle.calls.specs.Seeing.{seen_pencil}
use Rattle.calls.specs.Machine.{Draughts, Standing, onward, cleared, Makes, Acts, Machine, none, next, Exactly}
use Rattle.calls.specs.declared.call.Call.{Call}
use Rattle.calls.specs.declared.call.Call.TheVariants as call
use Rattle.calls.specs.declared.call.MeterCall.{MeterCall}
use Rattle.calls.specs.declared.call.MeterCall.TheVariants as act
use Rattle.calls.specs.declared.call.Reply.{Reply}
use Rattle.calls.specs.declared.call.Reply.TheVariants as reply

some_draughts : (task : Task) (t : Progress) → (r : Reply) × (t' : Progress) × (k : Mark) × Draughts task r t t' k
some_draughts (refuse c) t = (reply.Drawing (Err c), t, untouched, (refl, refl, refl))
some_draughts (draw region new) t = (reply.Drawing (Ok tt), t, marked region new, (refl, refl, refl))

one_draughts : (task : Task) (t : Progress) (r s : Reply) (u v : Progress) (k l : Mark) → Draughts task r t u k → Draughts task s t v l → (r ≡ s) × (u ≡ v) × (k ≡ l)
one_draughts (refuse c) t r s u v k l d e = (d.0 ∙ sym e.0, d.1 ∙ sym e.1, d.2 ∙ sym e.2)
one_draughts (draw region new) t r s u v k l d e = (d.0 ∙ sym e.0, d.1 ∙ sym e.1, d.2 ∙ sym e.2)

module _ {I : Type 0} (shade : I → ℤ → ℤ → ℕ) (view : ℕ → ℕ) (file : List ℕ) where
  some_call : (c : Call I) (t : Progress) → (r : Reply) × (t' : Progress) × (k : Mark) × Makes view shade file t c r t' k
  some_call call.Step t = let s = some_step view file t in (reply.Step s.0, s.1, s.2, (s.0, refl, s.3))
  some_call (call.Line p from to) t = some_draughts (line_task (seen_pencil view p) from to) t
  some_call (call.Paint p area code ink) t = some_draughts (paint_task (seen_pencil view p) area code (λ x y. view (shade ink x y))) t
  some_call (call.Copy p area source code ink) t = some_draughts (copy_task (seen_pencil view p) area source code (λ x y. view (shade ink x y))) t

  one_call : (c : Call I) (t : Progress) (r s : Reply) (u v : Progress) (k l : Mark) → Makes view shade file t c r u k → Makes view shade file t c s v l → (r ≡ s) × (u ≡ v) × (k ≡ l)
  one_call call.Step t r s u v k l (a, d, x) (b, e, y) = let o = one-step view file t a b u v k l x y in (d ∙ ap reply.Step o.0 ∙ sym e, o.1, o.2)
  one_call (call.Line p from to) t r s u v k l d e = one_draughts (line_task (seen_pencil view p) from to) t r s u v k l d e
  one_call (call.Paint p area code ink) t r s u v k l d e = one_draughts (paint_task (seen_pencil view p) area code (λ x y. view (shade ink x y))) t r s u v k l d e
  one_call (call.Copy p area source code ink) t r s u v k l d e = one_draughts (copy_task (seen_pencil view p) area source code (λ x y. view (shade ink x y))) t r s u v k l d e

  some_act : (a : MeterCall I) (p : Standing) → (r : Reply) × (q : Standing) × Acts view shade file p a r q
  some_act (act.Call c) p = let s = some_call c p.run in (s.0, onward p s.1 s.2, (s.1, s.2, s.3, refl))
  some_act act.Clear p = (reply.Cleared, cleared p, (refl, refl))

  one_act : (a : MeterCall I) (p : Standing) (r s : Reply) (q q' : Standing) → Acts view shade file p a r q → Acts view shade file p a s q' → (r ≡ s) × (q ≡ q')
  one_act (act.Call c) p r s q q' (t, k, m, e) (u, l, n, f) =
      let o = one_call c p.run r s t u k l m n in
      (o.0, e ∙ ap (λ t. onward p t k) o.1 ∙ ap (onward p u) o.2 ∙ sym f)
  one_act act.Clear p r s q q' (d, e) (f, g) = (d ∙ sym f, e ∙ sym g)

  some_list : (acts : List (MeterCall I)) (p : Standing) → (rs : List Reply) × (q : Standing) × Machine view shade file p acts rs q
  some_list [] p = ([], p, none)
  some_list (a ∷ acts) p =
      let x = some_act a p in
      let l = some_list acts x.1 in
      (x.0 ∷ l.0, l.1, next x.2 l.2)

  one_list : {p q q' : Standing} {acts : List (MeterCall I)} {rs rs' : List Reply} → Machine view shade file p acts rs q → Machine view shade file p acts rs' q' → (rs ≡ rs') × (q ≡ q')
  one_list none none = (refl, refl)
  one_list (next {p} {q} {s} {a} {acts} {r} {rs} x m) (next {q = q'} {s = s'} {r = r'} {rs = rs'} y n) =
      let o = one_act a p r r' q q' x y in
      let l = one_list m (subst (λ z. Machine view shade file z acts rs' s') (sym o.1) n) in
      (ap (λ z. z ∷ rs) o.0 ∙ ap (λ z. r' ∷ z) l.0, l.1)

pub exactly : {I : Type 0} (shade : I → ℤ → ℤ → ℕ) → Exactly shade
exactly shade = record {
  some = λ view file p acts. some_list shade view file acts p;
  one = λ view file p acts rs rs' q q'. one_list shade view file;
}
