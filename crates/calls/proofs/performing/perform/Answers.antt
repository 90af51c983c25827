use Rattle.std.proofs.Common.{◌≡◌, ◌+◌, [], ◌∷◌, ◌++◌, map, take, sym, refl, ap, ◌∙◌, arith, take_all}
use Rattle.std.proofs.lemmas.List.{take_more, map_push}
use Rattle.calls.specs.declared.call.MeterCall.TheVariants as act
use Rattle.calls.proofs.Along.{along_none, along_next, along_performed}
use Rattle.calls.proofs.performing.perform.Goals as goal

pub loop-call-init : goal.loop-call-init
loop-call-init g c =
    let made = c.in_ok-replies.ensures in
    (along_none _ _ _ _ _ _ _ _ made.items, refl, made.len, made.capacity)

pub loop-call-preserved : goal.loop-call-preserved
loop-call-preserved g c =
    let i = c.loop-call.invariant in
    let calls = c.args.calls.now in
    let here = c.call-item.result in
    let more : map act.Call (take (c.loop-call.call-index + 1) calls) ≡ map act.Call (take c.loop-call.call-index calls) ++ (act.Call here ∷ [])
    = ap (map act.Call) (take_more calls c.loop-call.call-index here c.loop-call-test.true) ∙ map_push act.Call (take c.loop-call.call-index calls) _
    ∙ ap (λ x. map act.Call (take c.loop-call.call-index calls) ++ (act.Call x ∷ [])) (sym c.call-item.is) in (
      along_next _ _ _ _ _ _ _ _ _ _ _ _ _ _ _ _ here _ i.0 i.1 c.make.ensures.made more c.push_reserved.ensures.items,
      c.make.ensures.bytes ∙ i.1,
      c.push_reserved.ensures.len ∙ ap (λ n. n + 1) i.2,
      omega (arith, c.push_reserved.ensures.capacity, i.3),
    )

pub returns-clause-performed : goal.returns-clause-performed
returns-clause-performed g c =
    let s = c.args.surface.now in
    along_performed _ _ _ _ _ _ _ _ _ _ _ (g.met.S.Surface.sound s).shallow (rw (take_all _ _ c.loop-call-test.false) at c.loop-call.invariant.0)
