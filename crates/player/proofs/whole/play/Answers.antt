use Rattle.std.proofs.Common.{vec_items, sym, refl, ap, ◌∙◌, inl, inr, arith}
use Rattle.player.specs.Playing.{ongoing}
use Rattle.player.proofs.Wholes.{going_none, going_next, going_out, going_on, ongoing_push}
use Rattle.player.proofs.whole.play.Goals as goal

pub records-init : goal.records-init
records-init g c =
    let made = c.in_ok-steps.ensures in
    (going_none _ _ _ _ _ _ _ made.items, refl, ap ongoing made.items, omega (arith, made.len), inl made.len, omega (arith, made.capacity, c.saturating_sub-left.ensures))

pub records-preserved : goal.records-preserved
records-preserved g c =
    let i = c.records.invariant in
    let d = c.step-answer.ensures.stepped in
    let more = sym c.if-is_final.ensures in
    let m = going_on _ _ _ _ _ _ _ _ _ _ d i.1 more in (
      going_next _ _ _ _ _ _ _ _ _ _ _ _ _ _ i.0 i.1 d c.push_reserved.ensures.items,
      c.step-answer.ensures.bytes ∙ i.1,
      ap ongoing c.push_reserved.ensures.items ∙ ongoing_push (vec_items c.records.steps) _ i.2 more,
      omega (arith, m.0, i.3, c.push_reserved.ensures.len),
      inr m.1,
      omega (arith, i.5, c.push_reserved.ensures.capacity),
    )

pub returns-clause-played : goal.returns-clause-played
returns-clause-played g c =
    let i = c.records.invariant in
    going_out _ _ _ _ _ _ _ _ _ _ _ _ _ _ i.0 i.2 i.1 c.step-answer.ensures.stepped (sym c.if-is_final.ensures) c.push_reserved.ensures.items
