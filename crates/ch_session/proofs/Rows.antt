-- Two sessions, call by call.
use Rattle.std.proofs.Common.{pos, ◌≡◌, ℕ, List, [], ◌∷◌, Option, Some, None, true, false, refl}
use Rattle.ch_grid.specs.declared.param.Param.{Param}
use Rattle.ch_grid.specs.Grid.{size}
use Rattle.ch_nest.specs.LoopNest.{LoopNest}
use Rattle.ch_rank.specs.Search.{play, search_on}
use Rattle.ch_rank.specs.Bound.{bound, halvings}
use Rattle.ch_rank.specs.Ranks.{versions, last_of}
use Rattle.ch_rank.specs.Entries.{completed}
use Rattle.ch_rank.specs.declared.outcome.Outcome.TheVariants.{Cost}
use Rattle.ch_script.specs.Recipes.{RecipeParts}
use Rattle.ch_session.specs.declared.event.Event.{Event}
use Rattle.ch_session.specs.declared.event.Event.TheVariants.{Fetch, Report, Claim, Good, Refused, Leave}
use Rattle.ch_session.specs.History.{Theme, entries, news, is_claimed_by, is_held_by, claim_gives, fetch_gives, version_now, is_legal}

module _ (nest : LoopNest) (recipe : RecipeParts) where
  abbrev of_three : ℕ → Theme
  of_three r = record { nest = nest; recipe = recipe; grid = record { low = pos 0; high = pos 2; step = pos 1 } ∷ []; repeat = r }

  -- ---- each trial is measured once

  abbrev once : Theme
  once = of_three 1

  abbrev claims : List Event
  claims = Claim 100 0 ∷ Claim 101 1 ∷ []

  abbrev leaves : List Event
  leaves = Claim 100 0 ∷ Claim 101 1 ∷ Good 100 0 ∷ Fetch 0 (Some 0) 0 ∷ Leave 0 0 ∷ []

  abbrev reports : List Event
  reports = Claim 100 0 ∷ Claim 101 1 ∷ Good 100 0 ∷ Fetch 0 (Some 0) 0 ∷ Leave 0 0 ∷ Fetch 1 (Some 0) 0 ∷ Report 1 0 1 4 0 ∷ []

  abbrev all : List Event
  all = Claim 100 0 ∷ Claim 101 1 ∷ Good 100 0 ∷ Fetch 0 (Some 0) 0 ∷ Leave 0 0 ∷ Fetch 1 (Some 0) 0 ∷ Report 1 0 1 4 0 ∷ Claim 100 2 ∷ Fetch 0 None 1 ∷ []

  first_claims : (claim_gives once [] ≡ Some 0) × (claim_gives once (Claim 100 0 ∷ []) ≡ Some 1) × (is_claimed_by once claims 101 0 ≡ false) × (is_claimed_by once claims 100 0 ≡ true)
  unfolding search_on play bound halvings size
  first_claims = (refl, refl, refl, refl)

  leases : (fetch_gives once (Claim 100 0 ∷ Claim 101 1 ∷ Good 100 0 ∷ []) 0 ≡ Some 0) × (news (Claim 100 0 ∷ Claim 101 1 ∷ Good 100 0 ∷ []) ≡ 1) × (fetch_gives once leaves 1 ≡ Some 0) × (news leaves ≡ 2) × (is_held_by once leaves 0 0 ≡ false)
  unfolding search_on play bound halvings size
  leases = (refl, refl, refl, refl, refl)

  after_reports : (news reports ≡ 3) × (claim_gives once reports ≡ Some 2) × (claim_gives once all ≡ None) × (fetch_gives once all 0 ≡ None) × (version_now once all ≡ 1) × (news all ≡ 3) × (is_legal once all ≡ true)
  unfolding search_on play bound halvings size
  after_reports = (refl, refl, refl, refl, refl, refl, refl)

  -- ---- each trial is measured twice

  abbrev twice : Theme
  twice = of_three 2

  abbrev first_report : List Event
  first_report = Claim 100 0 ∷ Good 100 0 ∷ Fetch 0 (Some 0) 0 ∷ Report 0 0 1 6 1 ∷ []

  abbrev both_reports : List Event
  both_reports = Claim 100 0 ∷ Good 100 0 ∷ Fetch 0 (Some 0) 0 ∷ Report 0 0 1 6 1 ∷ Fetch 1 (Some 0) 0 ∷ Report 1 0 1 4 0 ∷ []

  abbrev all_twice : List Event
  all_twice = Claim 100 0 ∷ Good 100 0 ∷ Fetch 0 (Some 0) 0 ∷ Report 0 0 1 6 1 ∷ Fetch 1 (Some 0) 0 ∷ Report 1 0 1 4 0 ∷ Claim 100 1 ∷ Fetch 0 None 1 ∷ []

  half_way : (news first_report ≡ 2) × (last_of (versions (completed 2 (entries first_report))) ≡ None) × (fetch_gives twice first_report 1 ≡ Some 0)
  unfolding search_on play bound halvings size
  half_way = (refl, refl, refl)

  measured_twice : (news both_reports ≡ 3) × (last_of (versions (completed 2 (entries both_reports))) ≡ Some (record { trial = 0; outcome = Cost 4 })) × (is_held_by twice both_reports 1 0 ≡ false) × (claim_gives twice both_reports ≡ Some 1) × (fetch_gives twice all_twice 0 ≡ None) × (version_now twice all_twice ≡ 1) × (news all_twice ≡ 3) × (is_legal twice all_twice ≡ true)
  unfolding search_on play bound halvings size
  measured_twice = (refl, refl, refl, refl, refl, refl, refl, refl)
