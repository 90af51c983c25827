use Rattle.std.proofs.Common.{◌&&◌, ap, ◌∙◌, w32, SFits, rules}
use Rattle.std.proofs.Math.Bool.{and_comm}
use Rattle.std.proofs.lemmas.Int.{to_z-of_z}
use Rattle.surface.proofs.Strokes.{drawn-none, drawn_like}
use Rattle.drawing.specs.Areas.{between}
use Rattle.copies.proofs.Sweeps.{all_done, no_place, row_step, next_is, none_done, sweeps, sweeps_on}
use Rattle.copies.proofs.copying.Copying.copy_rows.Goals as goal

pub returns-then-self : goal.returns-then-self
returns-then-self g c =
    let q = c.args.self.now.target in
    let l : SFits w32 c.args.self.now.target.left = search rules in
    let r : SFits w32 c.args.self.now.target.right = search rules in
    drawn-none _ _ _ _ _ (λ a b. ap (λ t. t && between q.top q.bottom b) (no_place q.left q.right a (simp to_z-of_z at c.if-self.true)))

pub copy_row-requires : goal.copy_row-requires
copy_row-requires g c =
    let f : SFits w32 c.in-Some.y = search rules in
    let i = c.loop-y.invariant in
    let t = c.in-Some.ensures.steps in
    let n = next_is _ _ c.args.self.now.shift.dy _ _ _ _ _ _ i.way i.sweeping t.1.0 t.1.1 in
    simp to_z-of_z n.here

pub loop-y-init : goal.loop-y-init
loop-y-init g c =
    let q = c.args.self.now.target in
    let l : SFits w32 c.args.self.now.target.top = search rules in
    let r : SFits w32 c.args.self.now.target.bottom = search rules in
    let i = simp to_z-of_z at c.into_iter-y-iterator.ensures.into_iter_gives in
    let s = ap (λ i. i.places.start) i in
    let e = ap (λ i. i.places.end) i in
    record {
      can = search rules;
      ends = search rules;
      way = search rules;
      sweeping = sweeps _ _ _ _ _ s e;
      drawn = drawn-none _ _ _ _ _ (λ a b. ap (λ t. t && between q.left q.right a) (none_done q.top q.bottom _ _ b s e));
    }

pub loop-y-preserved : goal.loop-y-preserved
loop-y-preserved g c =
    let f : SFits w32 c.in-Some.y = search rules in
    let i = c.loop-y.invariant in
    let t = c.in-Some.ensures.steps in
    let n = next_is _ _ c.args.self.now.shift.dy _ _ _ _ _ _ i.way i.sweeping t.1.0 t.1.1 in
    record {
      can = search rules;
      ends = search rules;
      way = t.0 ∙ i.way;
      sweeping = rw t.0 (sweeps_on _ _ _ _ _ _ _ _ i.sweeping t.1.0 t.1.1);
      drawn = row_step _ _ _ _ _ _ _ _ _ _ _ _ _ _ _ _ _ _ n i.drawn (simp to_z-of_z at c.copy_row.ensures);
    }

pub returns : goal.returns
returns g c =
    let q = c.args.self.now.target in
    let i = c.loop-y.invariant in
    let t = c.in-None.ensures.steps in
    drawn_like _ _ _ _ _ _ _ _ _ (λ a b. ap (λ p. (p && between q.left q.right a) && (g.S.Surface.means c.args.surface.now).opens a b) (all_done q.top q.bottom _ _ b t.1)
    ∙ ap (λ p. p && (g.S.Surface.means c.args.surface.now).opens a b) (and_comm (between q.top q.bottom b) (between q.left q.right a))) i.drawn
