-- What a run's answers say of the places where they were given.
use Rattle.std.proofs.Common.{◌≡◌, ℕ, ◌+◌, ◌≤◌, Bool, true, false, cond, List, length, ℤ, pos, negsuc, ◌+ℤ◌, ◌-ℤ◌, ◌≤ℤ◌, Option, Some, None, Ok, Err, Result, sym, refl, subst, inl, inr, ⊎_elim, arith, w16, to_z}
use Rattle.std.proofs.ByRecursion.{All-push}
use Rattle.std.proofs.lemmas.Int.{ints}
use Rattle.std.specs.Cmp.Derive.{both_true}
use Rattle.codes.specs.Refusals.{numbered}
use Rattle.codes.specs.declared.refusal.Refusal.{Refusal}
use Rattle.codes.specs.declared.refusal.Refusal.TheVariants as refusal
use Rattle.surface.specs.Meaning.{Meaning}
use Rattle.drawing.specs.Areas.{coordinate, extent, placed, ranged}
use Rattle.drawing.specs.Tasks.{refuse, draw}
use Rattle.metafile.specs.Decoding.{PointAt, AreaAt, Shows, Breaks}
use Rattle.metafile.specs.Frames.{Lies, end, function, parameters}
use Rattle.metafile.specs.Functions.{Listed, Missized}
use Rattle.metafile.specs.declared.logical.LogicalArea.{LogicalArea}
use Rattle.metafile.specs.declared.logical.LogicalPoint.{LogicalPoint}
use Rattle.metafile.specs.declared.record.Record.{Record}
use Rattle.metafile.specs.declared.record.Record.TheVariants as shown
use Rattle.playback.specs.Contexts.{if_there}
use Rattle.playback.specs.Objects.{room, remove_answer}
use Rattle.playback.specs.Places.{device, device_area}
use Rattle.playback.specs.Records.{Mark, Outcome, allowed, drawing, plays, untouched}
use Rattle.playback.specs.declared.answer.Answer.{Answer}
use Rattle.playback.specs.declared.answer.Answer.TheVariants as answer
use Rattle.playback.specs.declared.context.DeviceContext.{DeviceContext}
use Rattle.playback.specs.declared.objects.Object.{Object}
use Rattle.player.specs.Playing.{none, next}
use Rattle.player.specs.Runs.{Steps, over, lost, broken, played, past, told, with_context}
use Rattle.player.specs.Views.{seen_record}
use Rattle.player.specs.declared.fault.StepFault.{StepFault}
use Rattle.player.specs.declared.progress.Phase.TheVariants.{Playing}
use Rattle.player.specs.declared.progress.Progress.{Progress}
use Rattle.player.proofs.Single.{one-step, phases}
use Rattle.laws.specs.Runs.{Short, ShortPoint, Standing, Says, Rightly, Answers, Starts}

-- Numbers of 16 bits.

short : (n : ℕ) → Short (to_z w16 n)
short n = record { least = grind (arith, ints); most = grind (arith, ints) }

shortened : (z : ℤ) (n : ℕ) → z ≡ to_z w16 n → Short z
shortened z n e = subst Short (sym e) (short n)

direct : (z : ℤ) → negsuc 131071 ≤ℤ z → z ≤ℤ pos 131071 → coordinate z ≡ true
direct z a b = grind (arith, ints)

-- three of them make a coordinate that may be given directly
within : (a w v : ℤ) → Short a → Short w → Short v → coordinate ((a -ℤ w) +ℤ v) ≡ true
within a w v p q r = direct ((a -ℤ w) +ℤ v) (omega (arith, ints)) (omega (arith, ints))

extended : (z : ℤ) → Short z → pos 0 ≤ℤ z → extent z ≡ true
extended z p h = grind (arith, ints, p.most)

pub record Settled (c : DeviceContext) : Type 0 where
  pub position : ShortPoint c.position
  pub window : ShortPoint c.origins.window
  pub viewport : ShortPoint c.origins.viewport

pointed : (ps : List ℕ) (i : ℕ) (p : LogicalPoint) → PointAt ps i p → ShortPoint p
pointed ps i p h = record { x = shortened p.x _ h.1; y = shortened p.y _ h.0 }

at_cell : (c : DeviceContext) (p : LogicalPoint) → Settled c → ShortPoint p → placed (device c.origins p) ≡ true
at_cell c p s h = both_true (within _ _ _ h.x s.window.x s.viewport.x) (within _ _ _ h.y s.window.y s.viewport.y)

in_range : (c : DeviceContext) (ps : List ℕ) (i : ℕ) (a : LogicalArea) → Settled c → AreaAt ps i a → ranged (device_area c.origins a) ≡ true
in_range c ps i a s (h, w, p, k, l) =
    both_true (at_cell c a.at s (pointed ps (i + 4) a.at p)) (both_true (extended a.width (shortened a.width _ w) k) (extended a.height (shortened a.height _ h) l))

-- Causes.

abbrev Cause : Refusal → Type 0
Cause c = (6 ≤ numbered c) × (numbered c ≤ 11)

breaks_listed : (f : ℕ) (ps : List ℕ) (c : Refusal) → Breaks f ps c → Cause c
breaks_listed f ps refusal.RecordSize h = (omega arith, omega arith)
breaks_listed f ps refusal.Colour h = (omega arith, omega arith)
breaks_listed f ps refusal.Operation h = (omega arith, omega arith)
breaks_listed f ps refusal.Value h = (omega arith, omega arith)
breaks_listed f ps _ h = absurd h

abbrev Fine : Result (Unit {0}) Refusal → Type 0
Fine (Ok u) = Unit {0}
Fine (Err c) = Cause c

put_fine : (s : Option ℕ) → Fine (room s)
put_fine None = (omega arith, omega arith)
put_fine (Some i) = tt

there_fine : (s : Option Object) → Fine (if_there s)
there_fine None = (omega arith, omega arith)
there_fine (Some o) = tt

remove_fine : (s : Option Object) → Fine (remove_answer s)
remove_fine None = (omega arith, omega arith)
remove_fine (Some o) = tt

-- Listed functions.

sized-listed : (f n : ℕ) → Missized f n → Listed f
sized-listed f n (inl h) = inl h.0
sized-listed f n (inr (inl h)) = inr (inl h.0)
sized-listed f n (inr (inr (inl h))) = inr (inr (inl h.0))
sized-listed f n (inr (inr (inr (inl h)))) = inr (inr (inr (inl h.0)))
sized-listed f n (inr (inr (inr (inr (inl h))))) = inr (inr (inr (inr (inl h.0))))
sized-listed f n (inr (inr (inr (inr (inr (inl h)))))) = inr (inr (inr (inr (inr (inl h.0)))))
sized-listed f n (inr (inr (inr (inr (inr (inr (inl h))))))) = inr (inr (inr (inr (inr (inr (inl h.0))))))
sized-listed f n (inr (inr (inr (inr (inr (inr (inr (inl h)))))))) = inr (inr (inr (inr (inr (inr (inr (inl h.0)))))))
sized-listed f n (inr (inr (inr (inr (inr (inr (inr (inr (inl h))))))))) = inr (inr (inr (inr (inr (inr (inr (inr (inl h.0))))))))
sized-listed f n (inr (inr (inr (inr (inr (inr (inr (inr (inr h))))))))) = inr (inr (inr (inr (inr (inr (inr (inr (inr h.0))))))))

paints : (f : ℕ) → f ≡ 0x061D → Listed f
paints f e = inr (inr (inl e))

copies : (f : ℕ) → f ≡ 0x0922 → Listed f
copies f e = inr (inr (inr (inl e)))

modes : (f : ℕ) → f ≡ 0x0104 → Listed f
modes f e = inr (inr (inr (inr (inr (inl e)))))

grounds : (f : ℕ) → f ≡ 0x0201 → Listed f
grounds f e = inr (inr (inr (inr (inr (inr (inl e))))))

brushes : (f : ℕ) → f ≡ 0x02FC → Listed f
brushes f e = inr (inr (inr (inr (inr (inr (inr (inl e)))))))

pens : (f : ℕ) → f ≡ 0x02FA → Listed f
pens f e = inr (inr (inr (inr (inr (inr (inr (inr (inl e))))))))

broken_listed : (f : ℕ) (ps : List ℕ) (c : Refusal) → Breaks f ps c → Listed f
broken_listed f ps refusal.RecordSize h = sized-listed f (length ps) h
broken_listed f ps refusal.Colour (inl h) = grounds f h.0
broken_listed f ps refusal.Colour (inr (inl h)) = brushes f h.0
broken_listed f ps refusal.Colour (inr (inr h)) = pens f h.0
broken_listed f ps refusal.Operation (inl h) = paints f h.0
broken_listed f ps refusal.Operation (inr h) = copies f h.0
broken_listed f ps refusal.Value (inl h) = modes f h.0
broken_listed f ps refusal.Value (inr (inl h)) = brushes f h.0
broken_listed f ps refusal.Value (inr (inr (inl h))) = pens f h.0
broken_listed f ps refusal.Value (inr (inr (inr (inl h)))) = paints f h.0
broken_listed f ps refusal.Value (inr (inr (inr (inr h)))) = copies f h.0
broken_listed f ps _ h = absurd h

module _ (file : List ℕ) (p : ℕ) (l : Lies file p) where
  -- what a record at p comes to
  abbrev Tells : Outcome → Type 0
  Tells o = Settled o.context × Says file p (told p o.answer)

  drawn_tells : Listed (function file p) → (b : Bool) (region : ℤ → ℤ → Bool) (new : Meaning → ℤ → ℤ → ℕ) (c before : DeviceContext) → b ≡ true → Settled c
      → Tells (drawing (cond b (draw region new) (refuse refusal.Range)) c before)
  drawn_tells k true region new c before e s = (s, (l, k))
  drawn_tells k false region new c before e s = cc

  painted_tells : Listed (function file p) → (d b : Bool) (region : ℤ → ℤ → Bool) (new : Meaning → ℤ → ℤ → ℕ) (c before : DeviceContext) → d ≡ false → b ≡ true → Settled c
      → Tells (drawing (cond d (refuse refusal.Operation) (cond b (draw region new) (refuse refusal.Range))) c before)
  painted_tells k true b region new c before d e s = cc
  painted_tells k false b region new c before d e s = drawn_tells k b region new c before e s

  allowed_tells : Listed (function file p) → (r : Result (Unit {0}) Refusal) (c before : DeviceContext) → Fine r → Settled c → Settled before → Tells (allowed r c before)
  allowed_tells k (Ok u) c before f s b = (s, (l, k))
  allowed_tells k (Err e) c before f s b = (b, (l, k, f.0, f.1, refl))

  record_tells : (view : ℕ → ℕ) (r : Record) (c : DeviceContext) → Shows (function file p) (parameters file p) r → Settled c → Tells (plays (seen_record view r) c)
  record_tells view shown.End c h s = (s, (l, h))
  record_tells view (shown.SetWindowOrg q) c h s = (record { position = s.position; window = pointed _ _ q h.1.1; viewport = s.viewport }, (l, inr (inl (inl h.0))))
  record_tells view (shown.SetViewportOrg q) c h s = (record { position = s.position; window = s.window; viewport = pointed _ _ q h.1.1 }, (l, inr (inl (inr (inl h.0)))))
  record_tells view (shown.MoveTo q) c h s = (record { position = pointed _ _ q h.1.1; window = s.window; viewport = s.viewport }, (l, inr (inl (inr (inr (inr h.0))))))
  record_tells view (shown.LineTo q) c h s =
      drawn_tells (inr (inl (inr (inr (inl h.0))))) _ _ _ _ _ (both_true (at_cell c c.position s s.position) (at_cell c _ s (pointed _ _ q h.1.1)))
      (record { position = pointed _ _ q h.1.1; window = s.window; viewport = s.viewport })
  record_tells view (shown.PatBlt code a) c (f, n, k, d, h) s = painted_tells (paints _ f) _ _ _ _ _ _ d (in_range c _ 4 a s h) s
  record_tells view (shown.BitBlt code a q) c (f, n, k, e, h) s =
      drawn_tells (copies _ f) _ _ _ _ _ (both_true (in_range c _ 10 a s h) (at_cell c q s (pointed _ 4 q e))) s
  record_tells view (shown.IntersectClipRect near far) c h s = (record { position = s.position; window = s.window; viewport = s.viewport }, (l, inr (inr (inr (inr (inl h.0))))))
  record_tells view (shown.SetRop2 m) c h s = (record { position = s.position; window = s.window; viewport = s.viewport }, (l, modes _ h.0))
  record_tells view (shown.SetBkColor w) c h s = (record { position = s.position; window = s.window; viewport = s.viewport }, (l, grounds _ h.0))
  record_tells view (shown.CreateBrushIndirect b) c h s =
      allowed_tells (brushes _ h.0) _ _ _ (put_fine _) (record { position = s.position; window = s.window; viewport = s.viewport }) s
  record_tells view (shown.CreatePenIndirect b) c h s =
      allowed_tells (pens _ h.0) _ _ _ (put_fine _) (record { position = s.position; window = s.window; viewport = s.viewport }) s
  record_tells view (shown.SelectObject i) c h s =
      allowed_tells (inr (inr (inr (inr (inr (inr (inr (inr (inr (inl h.0)))))))))) _ _ _ (there_fine _) (record { position = s.position; window = s.window; viewport = s.viewport }) s
  record_tells view (shown.DeleteObject i) c h s =
      allowed_tells (inr (inr (inr (inr (inr (inr (inr (inr (inr (inr h.0)))))))))) _ _ _ (remove_fine _) (record { position = s.position; window = s.window; viewport = s.viewport }) s
  record_tells view (shown.Unlisted f rest) c h s = (s, (l, h.0))

settled : (file : List ℕ) (t : Progress) → Standing file t → Settled t.context
settled file t s = record { position = s.position; window = s.window; viewport = s.viewport }

past_stands : (file : List ℕ) (e : ℕ) (r : Result Answer Refusal) (t : Progress) (c : DeviceContext)
    → t.phase ≡ Playing → Settled c → Says file t.place (told t.place r) → Standing file (past e r (with_context c t))
past_stands file e (Ok answer.Taken) t c p s h = record { ended = λ q. cc; position = s.position; window = s.window; viewport = s.viewport }
past_stands file e (Ok answer.PassedOver) t c p s h = record { ended = λ q. cc; position = s.position; window = s.window; viewport = s.viewport }
past_stands file e (Ok answer.Ended) t c p s h = record { ended = λ q. h; position = s.position; window = s.window; viewport = s.viewport }
past_stands file e (Err x) t c p s h = record { ended = λ q. cc; position = s.position; window = s.window; viewport = s.viewport }

step_says : (view : ℕ → ℕ) (file : List ℕ) (t : Progress) (a : Result Answer StepFault) (t' : Progress) (m : Mark)
    → Steps view file t a t' m → Standing file t → Says file t.place a × Standing file t'
step_says view file t a t' m (over p e g h) s = (subst (Says file t.place) (sym e) (s.ended p), subst (Standing file) (sym g) s)
step_says view file t a t' m (lost p n e g h) s = (subst (Says file t.place) (sym e) (n, refl, refl), subst (Standing file) (sym g) s)
step_says view file t a t' m (broken c p b e g h) s =
    let k = breaks_listed _ _ c b.1 in
    let says : Says file t.place (told t.place (Err c)) = (b.0, broken_listed _ _ c b.1, k.0, k.1, refl) in
    (subst (Says file t.place) (sym e) says, subst (Standing file) (sym g) (past_stands file (end file t.place) (Err c) t t.context p (settled file t s) says))
step_says view file t a t' m (played r o p d k e g h) s =
    let tells : Tells file t.place d.0 o = subst (Tells file t.place d.0) (sym k) (record_tells file t.place d.0 view r t.context d.1 (settled file t s)) in
    (subst (Says file t.place) (sym e) tells.1, subst (Standing file) (sym g) (past_stands file (end file t.place) o.answer t o.context p tells.0 tells.1))

step_rightly : (view : ℕ → ℕ) (file : List ℕ) (t : Progress) (a : Result Answer StepFault) (t' : Progress) (m : Mark)
    → Steps view file t a t' m → Standing file t → Rightly file (record { place = t.place; answer = a })
step_rightly view file t a t' m d s = record {
  says = (step_says view file t a t' m d s).0;
  ended = λ q. ⊎_elim (λ p. (one-step view file t a _ t' _ m _ d (played shown.End (plays shown.End t.context) p q refl refl refl refl)).0)
      (λ p. (one-step view file t a _ t' _ m _ d (over p refl refl refl)).0) (phases t.phase);
  lost = λ n. ⊎_elim (λ p. (one-step view file t a _ t' _ m _ d (lost p n refl refl refl)).0)
      (λ p. absurd (n (s.ended p).0)) (phases t.phase);
  passed_over = λ l n. ⊎_elim (λ p. (one-step view file t a _ t' _ m _ d (unlisted l n p)).0)
      (λ p. absurd (n (inl (s.ended p).1.0))) (phases t.phase);
}
  where
    unlisted : Lies file t.place → (Listed (function file t.place) → ⊥) → t.phase ≡ Playing
        → Steps view file t (Ok answer.PassedOver) (past (end file t.place) (Ok answer.PassedOver) t) untouched
    unlisted l n p =
        let other : Record = shown.Unlisted (function file t.place) (record { ref_ptr = (0, 0); now = parameters file t.place }) in
        played other (plays other t.context) p (l, (n, refl, refl)) refl refl refl refl

pub answers : Answers
answers view file t m steps t' m' cells (none) s = (tt, s)
answers view file t m steps t' m' cells (next {steps = ss} {u = u} {v = v} {n = n} {cells = cs} a k p d) s =
    let h = answers view file t m ss u n cs p s in
    (All-push _ ss _ h.0 (step_rightly view file u a v k d h.1), (step_says view file u a v k d h.1).1)

pub starts : Starts
starts file place slots = record {
  ended = λ q. cc;
  position = record { x = record { least = omega (arith, ints); most = omega (arith, ints) }; y = record { least = omega (arith, ints); most = omega (arith, ints) } };
  window = record { x = record { least = omega (arith, ints); most = omega (arith, ints) }; y = record { least = omega (arith, ints); most = omega (arith, ints) } };
  viewport = record { x = record { least = omega (arith, ints); most = omega (arith, ints) }; y = record { least = omega (arith, ints); most = omega (arith, ints) } };
}
