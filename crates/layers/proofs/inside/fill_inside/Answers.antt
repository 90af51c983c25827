use Rattle.std.proofs.Common.{◌≡◌, ◌&&◌, ap, ◌∙◌, subst, subst₂, rules}
use Rattle.std.proofs.lemmas.Int.{to_z-of_z}
use Rattle.surface.specs.Meaning.{strip, drawn}
use Rattle.surface.specs.Rects.{holds}
use Rattle.layers.specs.Layers.{fenced}
use Rattle.layers.proofs.Piles.{below_fence}
use Rattle.layers.proofs.inside.fill_inside.Goals as goal

pub returns-clause-picture : goal.returns-clause-picture
returns-clause-picture g c =
    let fx = c.ranges.x in
    let fy = c.ranges.y in
    let m = g.S.Surface.means in
    let cells = strip c.args.x c.args.y c.args.n in
    let fence = c.new-fence.result in
    let last = c.fill.new.self in
    let left = c.fill.ensures.rest in
    -- the loan ends at the value behind the same reference
    let name : c.into_below.result.ghost_name ≡ fence.below.ghost_name = ap (λ r. r.ghost_name) c.into_below.ensures ∙ ap (λ t. t.1.0) left in
    let picture = below_fence fence.rect (m fence.below.now) (m last.below.now) cells (λ _ _. c.args.v)
    (g.met.S.Surface.stays _ _ (ap (λ t. t.1.1) left))
    (subst (λ r. fenced r (m last.below.now) ≡ drawn cells (λ _ _. c.args.v) (fenced fence.rect (m fence.below.now))) (ap (λ t. t.0) left) (simp to_z-of_z at c.fill.ensures.picture)) in
    let all : m last.below.now ≡ drawn (λ a b. cells a b && holds c.args.rect a b) (λ _ _. c.args.v) (m c.args.surface.now) = subst₂ (λ t r. m last.below.now ≡ drawn (λ a b. cells a b && holds r a b) (λ _ _. c.args.v) (m t)) (ap (λ r. r.now) c.new-fence.ensures.below) c.new-fence.ensures.rect picture in
    search rules
