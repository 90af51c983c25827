use Rattle.std.proofs.Common.{◌+◌, ◌≤◌, [], ◌∷◌, ◌++◌, length, sym, refl, ap, ◌∙◌, subst, arith}
use Rattle.player.specs.Runs.{Steps}
use Rattle.player.specs.declared.whole.Step.{Step}
use Rattle.player.proofs.Wholes.{going_none, going_next, moves, ongoing_push}
use Rattle.std.specs.Option.{option_or}
use Rattle.capi.specs.Listening.{record_fault}
use Rattle.capi.proofs.Firsts.{first_push}
use Rattle.capi.proofs.listening.play_listening.Goals as goal

pub records-init : goal.records-init
records-init g c = ([], going_none _ _ _ _ _ _ [] refl, refl, refl, refl)

pub returns-then-is_final : goal.returns-then-is_final
returns-then-is_final g c =
    let i = c.records.invariant in
    let d = c.step-answer.ensures.stepped in
    let here : Step = record { place = c.records.run.progress.place; answer = c.step-answer.result } in
    let o = going_next _ _ _ _ _ _ _ _ _ _ _ _ (i.0 ++ (here ∷ [])) _ i.1 i.2 d refl in
    record {
      bytes = c.step-answer.ensures.bytes ∙ i.2;
      heard = record {
        steps = i.0 ++ (here ∷ []);
        out = record {
          cells = o.cells;
          plays = o.plays;
          kept = o.kept;
          still = o.still;
          stopped = record { front = i.0; last = here; split = refl; before = i.3; end = sym c.if-is_final.ensures };
        };
        last = refl;
        first = c.noted-first.ensures ∙ ap (λ f. option_or f (record_fault c.step-answer.result)) i.4 ∙ sym (first_push i.0 here);
      };
    }

pub records-smaller : goal.records-smaller
records-smaller g c =
    let i = c.records.invariant in
    let d = c.step-answer.ensures.stepped in
    let file = c.args.run.now.bytes.now in
    let m : (c.records.run.progress.place + 6 ≤ c.step-answer.new.self.progress.place) × (c.step-answer.new.self.progress.place ≤ length file)
    = moves (λ w. w) file c.records.run.progress c.step-answer.result c.step-answer.new.self.progress d.0
    (subst (λ b. Steps (λ w. w) b c.records.run.progress c.step-answer.result c.step-answer.new.self.progress d.0) i.2 d.1) (sym c.if-is_final.ensures) in
    omega (arith, m.0, m.1)

pub records-preserved : goal.records-preserved
records-preserved g c =
    let i = c.records.invariant in
    let d = c.step-answer.ensures.stepped in
    let here : Step = record { place = c.records.run.progress.place; answer = c.step-answer.result } in (
      i.0 ++ (here ∷ []),
      going_next _ _ _ _ _ _ _ _ _ _ _ _ (i.0 ++ (here ∷ [])) _ i.1 i.2 d refl,
      c.step-answer.ensures.bytes ∙ i.2,
      ongoing_push i.0 here i.3 (sym c.if-is_final.ensures),
      c.noted-first.ensures ∙ ap (λ f. option_or f (record_fault c.step-answer.result)) i.4 ∙ sym (first_push i.0 here),
    )
