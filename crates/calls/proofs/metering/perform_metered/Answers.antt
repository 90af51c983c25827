use Rattle.std.proofs.Common.{◌≡◌, ◌+◌, [], ◌∷◌, ◌++◌, take, sym, refl, ap, ◌∙◌, arith, take_all}
use Rattle.std.proofs.lemmas.List.{take_more}
use Rattle.calls.proofs.Bounds.{measured-none, measured-next, measured_metered}
use Rattle.calls.proofs.metering.perform_metered.Goals as goal

pub loop-call-init : goal.loop-call-init
loop-call-init g c =
    let made = c.in_ok-replies.ensures in
    (measured-none _ _ _ _ _ _ _ made.items, refl, made.len, made.capacity)

pub loop-call-preserved : goal.loop-call-preserved
loop-call-preserved g c =
    let i = c.loop-call.invariant in
    let calls = c.args.calls.now in
    let here = c.call-item.result in
    let more : take (c.loop-call.call-index + 1) calls ≡ take c.loop-call.call-index calls ++ (here ∷ [])
    = take_more calls c.loop-call.call-index here c.loop-call-test.true ∙ ap (λ x. take c.loop-call.call-index calls ++ (x ∷ [])) (sym c.call-item.is) in (
      measured-next _ _ _ _ _ _ _ _ _ _ _ _ _ _ _ here _ i.0 i.1 c.act.ensures.acted more c.push_reserved.ensures.items,
      c.act.ensures.bytes ∙ i.1,
      c.push_reserved.ensures.len ∙ ap (λ n. n + 1) i.2,
      omega (arith, c.push_reserved.ensures.capacity, i.3),
    )

pub returns-clause-performed : goal.returns-clause-performed
returns-clause-performed g c =
    let m = c.args.meter.now in
    measured_metered _ _ _ _ _ _ _ _ _ _ (g.met.S.Surface.sound m.below).shallow (rw (take_all _ _ c.loop-call-test.false) at c.loop-call.invariant.0)
