-- No bit plane touches another: what a list of calls does, seen through plane k, is what the machine of plane k does.
use Rattle.std.proofs.Common.{◌≡◌, ℕ, ◌<◌, ◌≤◌, ◌||◌, List, ℤ, Ok, Err, Result, sym, refl, ap, ◌∙◌, subst, arith}
use Rattle.codes.specs.Bits.{bit}
use Rattle.codes.specs.declared.refusal.Refusal.{Refusal}
use Rattle.surface.specs.Meaning.{Meaning}
use Rattle.drawing.specs.Tasks.{Task, line_task, paint_task, copy_task}
use Rattle.metafile.specs.Frames.{end}
use Rattle.metafile.specs.declared.record.Record.{Record}
use Rattle.metafile.specs.declared.record.Record.TheVariants as of
use Rattle.playback.specs.Places.{device, device_area}
use Rattle.playback.specs.Records.{Mark, untouched, marked, Outcome, changed, allowed, drawing, brush_shade, plays}
use Rattle.playback.specs.declared.answer.Answer.{Answer}
use Rattle.playback.specs.declared.answer.Answer.TheVariants as answer
use Rattle.playback.specs.declared.context.DeviceContext.{DeviceContext}
use Rattle.playback.specs.declared.objects.Object.TheVariants as object
use Rattle.player.specs.Runs.{told, Steps, over, lost, broken, played, past, with_context}
use Rattle.player.specs.Playing.{after}
use Rattle.player.specs.Views.{seen_record}
use Rattle.player.specs.declared.fault.StepFault.{StepFault}
use Rattle.player.specs.declared.progress.Progress.{Progress}
use Rattle.player.proofs.Strides.{same_record}
use Rattle.calls.specs.Planes.{plane}
use Rattle.calls.specs.Seeing.{seen_pencil, seen_objects, seen_context, seen_progress}
use Rattle.calls.specs.Machine.{Draughts, Standing, onward, Makes, Acts, Machine, none, next}
use Rattle.calls.specs.declared.call.Call.{Call}
use Rattle.calls.specs.declared.call.Call.TheVariants as call
use Rattle.calls.specs.declared.call.MeterCall.{MeterCall}
use Rattle.calls.specs.declared.call.MeterCall.TheVariants as act
use Rattle.calls.specs.declared.call.Reply.{Reply}
use Rattle.calls.proofs.Draughting.{same_pencil}
use Rattle.calls.proofs.Objects.{put_seen, put_answer-seen, removed_seen, remove_answer-seen, taken-seen, there-seen}
use Rattle.calls.proofs.Shadows.{ShadowTask, refused, drawn, Shadow, still, same, brush_bit, line_shadow, paint_shadow, copy_shadow, plane-after, plane-aimed}

module _ (k : ℕ) where
  -- an outcome and what it is on plane k
  record Mirrored (o o' : Outcome) : Type 0 where
    answer : o'.answer ≡ o.answer
    context : o'.context ≡ seen_context (bit k) o.context
    mark : Shadow k o.mark o'.mark

  drawing-seen : (c before : DeviceContext) {t t' : Task} → ShadowTask k t t' → Mirrored (drawing t c before) (drawing t' (seen_context (bit k) c) (seen_context (bit k) before))
  drawing-seen c before refused = record { answer = refl; context = refl; mark = still }
  drawing-seen c before (drawn {region} {region'} {new} {new'} e w) = record { answer = refl; context = refl; mark = same {region = region} {region' = region'} {new = new} {new' = new'} e w }

  changed-seen : (c : DeviceContext) (c' : DeviceContext) → c' ≡ seen_context (bit k) c → Mirrored (changed c) (changed c')
  changed-seen c c' e = record { answer = refl; context = e; mark = still }

  allowed-seen : (r r' : Result (Unit {0}) Refusal) (c c' before : DeviceContext) → r' ≡ r → c' ≡ seen_context (bit k) c → Mirrored (allowed r c before) (allowed r' c' (seen_context (bit k) before))
  allowed-seen r r' c c' before er ec =
      subst (λ q. Mirrored (allowed r c before) (allowed q c' (seen_context (bit k) before))) (sym er)
      (subst (λ d. Mirrored (allowed r c before) (allowed r d (seen_context (bit k) before))) (sym ec) (alike r))
    where
      alike : (r : Result (Unit {0}) Refusal) → Mirrored (allowed r c before) (allowed r (seen_context (bit k) c) (seen_context (bit k) before))
      alike (Ok u) = record { answer = refl; context = refl; mark = still }
      alike (Err e) = record { answer = refl; context = refl; mark = still }

  -- a record on plane k
  plays-seen : (r : Record) (c : DeviceContext) → Mirrored (plays r c) (plays (seen_record (bit k) r) (seen_context (bit k) c))
  plays-seen of.End c = record { answer = refl; context = refl; mark = still }
  plays-seen (of.SetWindowOrg p) c = changed-seen _ _ refl
  plays-seen (of.SetViewportOrg p) c = changed-seen _ _ refl
  plays-seen (of.MoveTo p) c = changed-seen _ _ refl
  plays-seen (of.LineTo p) c = drawing-seen _ _ (line_shadow k c.pencil (device c.origins c.position) (device c.origins p))
  plays-seen (of.PatBlt code a) c =
      drawing-seen _ _ (paint_shadow k c.pencil (device_area c.origins a) code (brush_shade c.pencil) (brush_shade (seen_pencil (bit k) c.pencil)) (brush_bit k c.pencil))
  plays-seen (of.BitBlt code a p) c =
      drawing-seen _ _ (copy_shadow k c.pencil (device_area c.origins a) (device c.origins p) code (brush_shade c.pencil) (brush_shade (seen_pencil (bit k) c.pencil)) (brush_bit k c.pencil))
  plays-seen (of.IntersectClipRect near far) c = changed-seen _ _ refl
  plays-seen (of.SetRop2 m) c = changed-seen _ _ refl
  plays-seen (of.SetBkColor w) c = changed-seen _ _ refl
  plays-seen (of.CreateBrushIndirect b) c =
      allowed-seen _ _ _ _ c (put_answer-seen (bit k) c.objects) (λ i. record { position = c.position; origins = c.origins; pencil = seen_pencil (bit k) c.pencil; objects = put_seen (bit k) (object.Brush b) c.objects i })
  plays-seen (of.CreatePenIndirect p) c =
      allowed-seen _ _ _ _ c (put_answer-seen (bit k) c.objects) (λ i. record { position = c.position; origins = c.origins; pencil = seen_pencil (bit k) c.pencil; objects = put_seen (bit k) (object.Pen p) c.objects i })
  plays-seen (of.SelectObject j) c =
      allowed-seen _ _ _ _ c (there-seen (bit k) j c.objects) (λ i. record { position = c.position; origins = c.origins; pencil = taken-seen (bit k) j c.objects c.pencil i; objects = seen_objects (bit k) c.objects })
  plays-seen (of.DeleteObject j) c =
      allowed-seen _ _ _ _ c (remove_answer-seen (bit k) j c.objects) (λ i. record { position = c.position; origins = c.origins; pencil = seen_pencil (bit k) c.pencil; objects = removed_seen (bit k) j c.objects i })
  plays-seen (of.Unlisted f rest) c = record { answer = refl; context = refl; mark = still }

  past-seen : (e : ℕ) (r : Result Answer Refusal) (t : Progress) → past e r (seen_progress (bit k) t) ≡ seen_progress (bit k) (past e r t)
  past-seen e (Ok answer.Taken) t = refl
  past-seen e (Ok answer.PassedOver) t = refl
  past-seen e (Ok answer.Ended) t = refl
  past-seen e (Err c) t = refl

  -- a step on plane k
  pub step-seen : (file : List ℕ) (t : Progress) (a : Result Answer StepFault) (t' : Progress) (μ : Mark) → Steps (λ w. w) file t a t' μ
      → (μ' : Mark) × Steps (bit k) file (seen_progress (bit k) t) a (seen_progress (bit k) t') μ' × Shadow k μ μ'
  step-seen file t a t' μ (over p ea et em) = (untouched, over p ea (ap (seen_progress (bit k)) et) refl, subst (λ m. Shadow k m untouched) (sym em) still)
  step-seen file t a t' μ (lost p l ea et em) = (untouched, lost p l ea (ap (seen_progress (bit k)) et) refl, subst (λ m. Shadow k m untouched) (sym em) still)
  step-seen file t a t' μ (broken c p b ea et em) =
      (untouched, broken c p b ea (ap (seen_progress (bit k)) et) refl, subst (λ m. Shadow k m untouched) (sym em) still)
  step-seen file t a t' μ (played r o p s eo ea et em) =
      let c = t.context in
      let o' = plays (seen_record (bit k) r) (seen_context (bit k) c) in
      let here : o ≡ plays r c = eo ∙ ap (λ r. plays r c) (same_record r) in
      let m : Mirrored o o' = subst (λ q. Mirrored q o') (sym here) (plays-seen r c) in
      let q = end file t.place in
      let after : seen_progress (bit k) t' ≡ past q o'.answer (with_context o'.context (seen_progress (bit k) t))
      = ap (seen_progress (bit k)) et ∙ sym (past-seen q o.answer (with_context o.context t))
      ∙ ap (λ x. past q x (seen_progress (bit k) (with_context o.context t))) (sym m.answer)
      ∙ ap (λ d. past q o'.answer (with_context d (seen_progress (bit k) t))) (sym m.context) in (
        o'.mark,
        played r o' p s refl (ea ∙ ap (told t.place) (sym m.answer)) after refl,
        subst (λ x. Shadow k x o'.mark) (sym em) m.mark,
      )

  draughts-seen : {task task' : Task} → ShadowTask k task task' → (r : Reply) (t t' : Progress) (μ : Mark) → Draughts task r t t' μ
      → (μ' : Mark) × Draughts task' r (seen_progress (bit k) t) (seen_progress (bit k) t') μ' × Shadow k μ μ'
  draughts-seen refused r t t' μ d = (untouched, (d.0, ap (seen_progress (bit k)) d.1, refl), subst (λ m. Shadow k m untouched) (sym d.2) still)
  draughts-seen (drawn {region} {region'} {new} {new'} e w) r t t' μ d =
      (marked region' new', (d.0, ap (seen_progress (bit k)) d.1, refl), subst (λ m. Shadow k m (marked region' new')) (sym d.2) (same {region = region} {region' = region'} {new = new} {new' = new'} e w))

  module _ {I : Type 0} (shade : I → ℤ → ℤ → ℕ) (file : List ℕ) where
    -- a call on plane k
    make_seen : (c : Call I) (r : Reply) (t t' : Progress) (μ : Mark) → Makes (λ w. w) shade file t c r t' μ
        → (μ' : Mark) × Makes (bit k) shade file (seen_progress (bit k) t) c r (seen_progress (bit k) t') μ' × Shadow k μ μ'
    make_seen call.Step r t t' μ (a, e, s) = let d = step-seen file t a t' μ s in (d.0, (a, e, d.1), d.2)
    make_seen (call.Line p from to) r t t' μ d =
        draughts-seen (subst (λ q. ShadowTask k (line_task q from to) (line_task (seen_pencil (bit k) p) from to)) (same_pencil p) (line_shadow k p from to)) r t t' μ d
    make_seen (call.Paint p area code ink) r t t' μ d =
        draughts-seen (subst (λ q. ShadowTask k (paint_task q area code (shade ink)) (paint_task (seen_pencil (bit k) p) area code (λ x y. bit k (shade ink x y)))) (same_pencil p) (paint_shadow k p area code (shade ink) (λ x y. bit k (shade ink x y)) (λ x y. refl))) r t t' μ d
    make_seen (call.Copy p area source code ink) r t t' μ d =
        draughts-seen (subst (λ q. ShadowTask k (copy_task q area source code (shade ink)) (copy_task (seen_pencil (bit k) p) area source code (λ x y. bit k (shade ink x y)))) (same_pencil p) (copy_shadow k p area source code (shade ink) (λ x y. bit k (shade ink x y)) (λ x y. refl))) r t t' μ d

    abbrev pub seen_standing : Standing → Standing
    seen_standing p = record { run = seen_progress (bit k) p.run; picture = plane k p.picture; reference = plane k p.reference; reached = p.reached }

    onward-seen : (p : Standing) (t : Progress) (μ μ' : Mark) → Shadow k μ μ' → k < p.picture.depth → p.picture.depth ≤ 16
        → seen_standing (onward p t μ) ≡ onward (seen_standing p) (seen_progress (bit k) t) μ'
    onward-seen p t μ μ' s h d = λ i. record {
      run = seen_progress (bit k) t;
      picture = sym (plane-after k s p.picture h d) i;
      reference = plane k p.reference;
      reached = λ x y. p.reached x y || sym (plane-aimed k s p.picture x y) i;
    }

    depth-after : (μ : Mark) (m : Meaning) → (after μ m).depth ≡ m.depth
    depth-after untouched m = refl
    depth-after (marked region new) m = refl

    -- one call or clearing on plane k, and the depth stays
    act_seen : (a : MeterCall I) (p q : Standing) (r : Reply) → k < p.picture.depth → p.picture.depth ≤ 16 → Acts (λ w. w) shade file p a r q
        → Acts (bit k) shade file (seen_standing p) a r (seen_standing q) × (q.picture.depth ≡ p.picture.depth)
    act_seen (act.Call c) p q r h d (t, μ, m, e) =
        let s = make_seen c r p.run t μ m in
        ((seen_progress (bit k) t, s.0, s.1, ap seen_standing e ∙ onward-seen p t μ s.0 s.2 h d), ap (λ (q : Standing). q.picture.depth) e ∙ depth-after μ p.picture)
    act_seen act.Clear p q r h d (er, e) = ((er, ap seen_standing e), ap (λ (q : Standing). q.picture.depth) e)

    -- the whole list
    pub planes-apart : {p q : Standing} {acts : List (MeterCall I)} {rs : List Reply} → k < p.picture.depth → p.picture.depth ≤ 16
        → Machine (λ w. w) shade file p acts rs q → Machine (bit k) shade file (seen_standing p) acts rs (seen_standing q)
    planes-apart h d none = none
    planes-apart h d (next {p} {q} {s} {a} {acts} {r} {rs} x m) =
        let y = act_seen a p q r h d x in
        next y.0 (planes-apart (omega (arith, y.1)) (omega (arith, y.1)) m)
