-- One coordinate of 21 values, each of cost 12.
use Rattle.std.proofs.Common.{◌≡◌, [], ◌∷◌, Some, refl}
use Rattle.ch_rank.specs.Bound.{bound, halvings}
use Rattle.ch_rank.specs.Search.{Game, play, search_on}
use Rattle.ch_rank.specs.declared.outcome.Outcome.TheVariants.{Cost}
use Rattle.ch_rank.specs.declared.phase.Phase.TheVariants.{Converged}

flat : Game
flat = search_on (21 ∷ []) (λ t. Some (Cost 12))

row : flat.points ≡ (10 ∷ []) ∷ (14 ∷ []) ∷ (6 ∷ []) ∷ (12 ∷ []) ∷ (8 ∷ []) ∷ (11 ∷ []) ∷ (9 ∷ []) ∷ []
unfolding flat search_on play bound halvings
row = refl

ends : (flat.steps ≡ 4) × (flat.phase ≡ Converged)
unfolding flat search_on play bound halvings
ends = (refl, refl)
