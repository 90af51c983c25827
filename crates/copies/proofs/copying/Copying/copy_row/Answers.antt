use Rattle.std.proofs.Common.{◌&&◌, ap, ◌∙◌, w32, SFits, rules}
use Rattle.std.proofs.lemmas.Bool.{and_from}
use Rattle.std.proofs.lemmas.Int.{to_z-of_z}
use Rattle.surface.specs.Meaning.{spans}
use Rattle.surface.proofs.Strokes.{drawn-none, drawn_like}
use Rattle.copies.proofs.Sweeps.{all_done, cell_step, next_is, none_done, sweeps, sweeps_on}
use Rattle.copies.proofs.copying.Copying.copy_row.Goals as goal

pub loop-x-init : goal.loop-x-init
loop-x-init g c =
    let q = c.args.self.now.target in
    let l : SFits w32 c.args.self.now.target.left = search rules in
    let r : SFits w32 c.args.self.now.target.right = search rules in
    let y = c.ranges.y in
    let i = simp to_z-of_z at c.into_iter-x-iterator.ensures.into_iter_gives in
    let s = ap (λ i. i.places.start) i in
    let e = ap (λ i. i.places.end) i in
    record {
      can = search rules;
      ends = search rules;
      way = search rules;
      sweeping = sweeps _ _ _ _ _ s e;
      drawn = simp to_z-of_z (drawn-none _ _ _ _ _ (λ a b. ap (λ t. t && spans c.args.y 1 b) (none_done q.left q.right _ _ a s e)));
    }

pub copy_cell-requires : goal.copy_cell-requires
copy_cell-requires g c =
    let f : SFits w32 c.in-Some.x = search rules in
    let i = c.loop-x.invariant in
    let t = c.in-Some.ensures.steps in
    let n = next_is _ _ c.args.self.now.shift.dx _ _ _ _ _ _ i.way i.sweeping t.1.0 t.1.1 in
    let y = c.ranges.y in simp to_z-of_z (and_from _ _ n.here c.requires)

pub loop-x-preserved : goal.loop-x-preserved
loop-x-preserved g c =
    let y = c.ranges.y in
    let f : SFits w32 c.in-Some.x = search rules in
    let i = c.loop-x.invariant in
    let t = c.in-Some.ensures.steps in
    let n = next_is _ _ c.args.self.now.shift.dx _ _ _ _ _ _ i.way i.sweeping t.1.0 t.1.1 in
    record {
      can = search rules;
      ends = search rules;
      way = t.0 ∙ i.way;
      sweeping = rw t.0 (sweeps_on _ _ _ _ _ _ _ _ i.sweeping t.1.0 t.1.1);
      drawn = simp to_z-of_z (cell_step _ _ _ _ _ _ _ _ _ _ _ _ _ _ _ _ _ _ _ _ n (simp to_z-of_z at i.drawn) (simp to_z-of_z at c.copy_cell.ensures));
    }

pub returns : goal.returns
returns g c =
    let q = c.args.self.now.target in
    let i = c.loop-x.invariant in
    let t = c.in-None.ensures.steps in
    let y = c.ranges.y in
    drawn_like _ _ _ _ _ _ _ _ _ (λ a b. ap (λ p. (p && spans c.args.y 1 b) && (g.S.Surface.means c.args.surface.now).opens a b) (all_done q.left q.right _ _ a t.1)) (simp to_z-of_z at i.drawn)
