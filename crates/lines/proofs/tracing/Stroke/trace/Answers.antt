use Rattle.std.proofs.Common.{◌≡◌, ◌&&◌, ap, ◌∙◌, refl, add-one, arith, rules}
use Rattle.surface.specs.Rects.{holds}
use Rattle.surface.proofs.Strokes.{drawn-none, drawn_like}
use Rattle.drawing.specs.Lines.{spot, traced}
use Rattle.lines.specs.Courses.{Meets}
use Rattle.lines.proofs.Traces.{trace_none, trace_all, trace_empty, trace_missed, trace_step}
use Rattle.lines.proofs.tracing.Stroke.trace.Goals as goal

pub returns-then-misses : goal.returns-then-misses
returns-then-misses g c = drawn-none _ _ _ _ _ (trace_missed c.args.segment.from c.args.segment.to c.args.self.rect (c.misses.ensures c.if-misses.true))

pub returns-in_default : goal.returns-in_default
returns-in_default g c = drawn-none _ _ _ _ _ (trace_empty c.args.segment.from c.args.segment.to c.args.self.rect 0 0 c.in_default.ensures (omega arith))

pub loop-at-init : goal.loop-at-init
loop-at-init g c =
    let e = c.in-Some.ensures in
    let m = e.2 in
    let top = m.end in
    let i = c.into_iter-at-iterator.ensures.into_iter_gives in
    let h : Meets c.args.segment.from c.args.segment.to c.args.self.rect c.into_iter-at-iterator.result.places.start c.into_iter-at-iterator.result.places.end = rw i m in
    record {
      can = search rules;
      ends = search rules;
      segment = ap (λ i. i.segment) i ∙ e.0;
      end = refl;
      meets = h;
      within = rw i (omega (arith, e.1));
      drawn = drawn-none _ _ _ _ _ (trace_none c.args.segment.from c.args.segment.to c.args.self.rect _ _ h (rw i (omega (arith, e.1, top))));
    }

pub loop-at-preserved : goal.loop-at-preserved
loop-at-preserved g c =
    let i = c.loop-at.invariant in
    let t = c.in-Some-at.ensures.steps in
    let e : c.in-Some-at.at ≡ spot c.args.segment.from c.args.segment.to c.loop-at.at-iterator.places.start = rw (← i.segment) t.2.2 in
    record {
      can = search rules;
      ends = search rules;
      segment = t.0 ∙ i.segment;
      end = t.1 ∙ i.end;
      meets = i.meets;
      within = omega (arith, t.2.0, t.2.1, t.1);
      drawn = trace_step c.args.segment.from c.args.segment.to c.args.self.rect _ _ _ _ _ _ _ _ _ _ _ _ _ c.in-Some-at.at (t.2.1 ∙ add-one _) e i.drawn c.dot.ensures;
    }

pub returns : goal.returns
returns g c =
    let i = c.loop-at.invariant in
    let t = c.in-None.ensures.steps in
    let e : c.loop-at.at-iterator.places.start ≡ c.into_iter-at-iterator.result.places.end = omega (arith, i.within, i.end, t.2) in
    drawn_like _ _ _ _ _ _ _ _ _ (λ a b. ap (λ n. (traced c.args.segment.from c.args.segment.to n a b && holds c.args.self.rect a b) && ((g.S.Surface.means c.args.surface.now).opens a b)) e
    ∙ ap (λ t. t && ((g.S.Surface.means c.args.surface.now).opens a b)) (trace_all c.args.segment.from c.args.segment.to c.args.self.rect _ _ i.meets a b)) i.drawn
