-- A checked file that was played until it stopped.
use Rattle.std.proofs.Common.{◌≡◌, ℕ, List, ap, subst, arith}
use Rattle.surface.specs.Meaning.{Meaning}
use Rattle.surface.specs.Rects.{Keep}
use Rattle.player.specs.Playing.{PlayedOut}
use Rattle.player.specs.Runs.{begun}
use Rattle.player.specs.declared.progress.Counts.{Counts}
use Rattle.player.specs.declared.progress.Progress.{Progress}
use Rattle.player.specs.declared.whole.Step.{Step}
use Rattle.laws.specs.Runs.{Performed}
use Rattle.laws.proofs.Sayings.{answers, starts}
use Rattle.laws.proofs.Tally.{tallies}

module _ {S R : Type 0} (means : S → Meaning) (keeps : S → Keep) (rest : S → R) (place slots : ℕ) (s s' : S) (steps : List Step) (last : Progress) (counts : Counts) where
  at-begun : (file : List ℕ) → PlayedOut means keeps rest file (begun place slots) s steps last s' → counts ≡ last.counts → Performed means keeps rest file place slots s steps counts s'
  at-begun file h e =
      let n = tallies _ file (begun place slots) _ steps last _ _ h.plays in
      record {
        last = last;
        played = h;
        finished = e;
        taken = let z = ap (λ (n : Counts). n.taken) e in omega (arith, n.taken);
        refused = let z = ap (λ (n : Counts). n.refused) e in omega (arith, n.refused);
        passed_over = let z = ap (λ (n : Counts). n.passed_over) e in omega (arith, n.passed_over);
        rightly = (answers _ file (begun place slots) _ steps last _ _ h.plays (starts file place slots)).0;
      }

  pub performs : (file file' : List ℕ) (t : Progress) → file' ≡ file → t ≡ begun place slots → PlayedOut means keeps rest file' t s steps last s' → counts ≡ last.counts
      → Performed means keeps rest file place slots s steps counts s'
  performs file file' t f e h n =
      at-begun file (subst (λ t. PlayedOut means keeps rest file t s steps last s') e (subst (λ b. PlayedOut means keeps rest b t s steps last s') f h)) n
