-- A grid of one point that is measured three times: with costs 12, 12 and 12, and with 12, 15 and 11.
use Rattle.std.proofs.Common.{◌≡◌, ℕ, List, [], ◌∷◌, None, refl, take}
use Rattle.ch_rank.specs.Bound.{bound, halvings}
use Rattle.ch_rank.specs.Search.{play, search_on}
use Rattle.ch_rank.specs.Ranks.{versions}
use Rattle.ch_rank.specs.Entries.{known, completed}
use Rattle.ch_rank.specs.declared.outcome.Costed.{Costed}
use Rattle.ch_rank.specs.declared.outcome.Outcome.TheVariants.{Cost}
use Rattle.ch_rank.specs.declared.phase.Phase.TheVariants.{Converged}

costs : ℕ → ℕ → ℕ → List Costed
costs a b c = record { trial = 0; outcome = Cost a } ∷ record { trial = 0; outcome = Cost b } ∷ record { trial = 0; outcome = Cost c } ∷ []

-- two measurements give no outcome
waits : (known 3 (take 2 (costs 12 12 12)) 0 ≡ None) × (completed 3 (take 2 (costs 12 12 12)) ≡ [])
unfolding costs
waits = (refl, refl)

same : ((search_on (1 ∷ []) (known 3 (costs 12 12 12))).phase ≡ Converged) × ((search_on (1 ∷ []) (known 3 (costs 12 12 12))).steps ≡ 1) × (versions (completed 3 (costs 12 12 12)) ≡ record { trial = 0; outcome = Cost 12 } ∷ [])
unfolding costs search_on play bound halvings
same = (refl, refl, refl)

least : ((search_on (1 ∷ []) (known 3 (costs 12 15 11))).phase ≡ Converged) × (versions (completed 3 (costs 12 15 11)) ≡ record { trial = 0; outcome = Cost 11 } ∷ [])
unfolding costs search_on play bound halvings
least = (refl, refl)
