-- A list that may stand in the place of another one does the same where accumulations into one array may change places.
use Rattle.std.proofs.Common.{◌≡◌, refl, sym, ap, ap₂, ℕ, ℤ, Bool, true, false, ◌&&◌, if◌then◌else◌, Option, Some, None, List, [], ◌∷◌, ◌++◌, ◌⊎◌, inl, inr}
use Rattle.std.proofs.lemmas.Bool.{and_parts, eqb-true}
use Rattle.ch_order.specs.Legal.{Conflict, IsChain, IsLegal, IsLegalBy, last_list, steps}
use Rattle.ch_timed.specs.declared.element.Cell.{Cell}
use Rattle.ch_timed.specs.declared.element.Element.{Element}
use Rattle.ch_timed.specs.Conflict.{conflict}
use Rattle.ch_timed.specs.Do.{Store, done, execute}
use Rattle.ch_timed.specs.Flat.{IsInside, StaysInside, done_flat}
use Rattle.ch_timed.specs.Order as order
use Rattle.ch_timed.specs.Order.{Pair, do_all, is_before, or_else, overtaken}
use Rattle.ch_timed.specs.Timed.{Step, same_step}
use Rattle.ch_order.proofs.Commutes.{commutes}
use Rattle.ch_order.proofs.FlatCommutes.{commutes_flat, execute_cells}
use Rattle.ch_order.proofs.Law.{or_else_parts}
use Rattle.ch_order.proofs.Legal.{chain_end, chain_flat, chain_inside, end_by, flat_by, inside_by}
use Rattle.ch_reduce.specs.Accumulation.{accumulates}
use Rattle.ch_reduce.specs.Relaxed.{IsRelaxed, add_to_one, free_conflict}
use Rattle.ch_reduce.proofs.Turned.{is_sum, sums_commute, sums_commute_flat}

free_by : (t : Bool) (o : Option Cell) → (if t then None else o) ≡ None → (t ≡ true) ⊎ (o ≡ None)
free_by true o h = inl refl
free_by false o h = inr h

free_parts : (a b : Step) → free_conflict a b ≡ None → (add_to_one a b ≡ true) ⊎ (conflict a b ≡ None)
free_parts a b h = free_by (add_to_one a b) (conflict a b) h

pub free_commutes : (a b : Step) → free_conflict a b ≡ None → (s : Store) → execute a (execute b s) ≡ execute b (execute a s)
free_commutes a b h s = elim (free_parts a b h) as (λ _. execute a (execute b s) ≡ execute b (execute a s)) [
  | inl e ↦
      let p = and_parts (accumulates a.body && accumulates b.body) _ e in
      let q = and_parts (accumulates a.body) (accumulates b.body) p.0 in
      sums_commute a b (is_sum a q.0) (is_sum b q.1) (eqb-true _ _ p.1) s
  | inr n ↦ commutes a b n s
]

free_commutes_flat : (extents : List (List ℕ)) (a b : Step) → IsInside extents a → IsInside extents b → free_conflict a b ≡ None → (cells : List ℤ)
    → execute_cells extents a (execute_cells extents b cells) ≡ execute_cells extents b (execute_cells extents a cells)
free_commutes_flat extents a b i j h cells = elim (free_parts a b h) as (λ _. execute_cells extents a (execute_cells extents b cells) ≡ execute_cells extents b (execute_cells extents a cells)) [
  | inl e ↦
      let p = and_parts (accumulates a.body && accumulates b.body) _ e in
      let q = and_parts (accumulates a.body) (accumulates b.body) p.0 in
      sums_commute_flat extents a b (is_sum a q.0) (is_sum b q.1) i j (eqb-true _ _ p.1) cells
  | inr n ↦ commutes_flat extents a b i j n cells
]

pub relaxed_end : (old new : List Element) → IsRelaxed old new → (store : Store) → done old store ≡ done new store
relaxed_end = end_by free_conflict free_commutes

pub relaxed_inside : (old new : List Element) → IsRelaxed old new → (extents : List (List ℕ)) → StaysInside extents old → StaysInside extents new
relaxed_inside = inside_by free_conflict

pub relaxed_flat : (old new : List Element) → IsRelaxed old new → (extents : List (List ℕ)) → StaysInside extents old → (cells : List ℤ)
    → done_flat extents old cells ≡ done_flat extents new cells
relaxed_flat old new l extents inside cells = flat_by free_conflict extents (free_commutes_flat extents) old new l inside cells

-- several lists

pub relaxed_chain_end : (first : List Element) (later : List (List Element)) → IsChain IsRelaxed first later → (store : Store)
    → done first store ≡ done (last_list first later) store
relaxed_chain_end first later chain store =
    λ i c. chain_end IsRelaxed (λ _. Unit {0}) (λ old new l s d _. ap (λ t. t d) (relaxed_end old new l s)) first later chain store c tt i

pub relaxed_chain_inside : (first : List Element) (later : List (List Element)) → IsChain IsRelaxed first later → (extents : List (List ℕ))
    → StaysInside extents first → StaysInside extents (last_list first later)
relaxed_chain_inside first later chain extents = chain_inside IsRelaxed extents (λ old new l. relaxed_inside old new l extents) first later chain

pub relaxed_chain_flat : (first : List Element) (later : List (List Element)) → IsChain IsRelaxed first later → (extents : List (List ℕ))
    → StaysInside extents first → (cells : List ℤ) → done_flat extents first cells ≡ done_flat extents (last_list first later) cells
relaxed_chain_flat first later chain extents =
    chain_flat IsRelaxed extents (λ old new l. relaxed_inside old new l extents) (λ old new l. relaxed_flat old new l extents) first later chain

-- fewer pairs must keep their order

module _ (more fewer : Conflict) (weaker : (a b : Step) → more a b ≡ None → fewer a b ≡ None) where
  taken : (t : Bool) (a b : Step) (c d : Option Cell) → (c ≡ None → d ≡ None) → overtaken t a b c ≡ None → overtaken t a b d ≡ None
  taken true a b (Some c) d w h = cc
  taken true a b None d w h = ap (overtaken true a b) (w refl)
  taken false a b c d w h = refl

  none_overtakes : (a : Step) (later new : List Step) → order.overtakes same_step more a later new ≡ None → order.overtakes same_step fewer a later new ≡ None
  none_overtakes a [] new h = refl
  none_overtakes a (b ∷ later) new h =
      let p = or_else_parts (overtaken (is_before same_step b a new) a b (more a b)) (order.overtakes same_step more a later new) h in
      ap₂ or_else (taken (is_before same_step b a new) a b (more a b) (fewer a b) (weaker a b) p.0) (none_overtakes a later new p.1)

  pub none_reversed : (old new : List Step) → order.reversed same_step more old new ≡ None → order.reversed same_step fewer old new ≡ None
  none_reversed [] new h = refl
  none_reversed (a ∷ later) new h =
      let p = or_else_parts (order.overtakes same_step more a later new) (order.reversed same_step more later new) h in
      ap₂ or_else (none_overtakes a later new p.0) (none_reversed later new p.1)

  pub legal_by_fewer : (old new : List Element) → IsLegalBy more old new → IsLegalBy fewer old new
  legal_by_fewer old new l = record {
    old_once = l.old_once;
    new_once = l.new_once;
    kept = l.kept;
    no_others = l.no_others;
    in_turn = none_reversed (steps old) (steps new) l.in_turn;
  }

free_none : (t : Bool) (o : Option Cell) → o ≡ None → (if t then None else o) ≡ None
free_none true o h = refl
free_none false o h = h

pub legal_relaxed : (old new : List Element) → IsLegal old new → IsRelaxed old new
legal_relaxed = legal_by_fewer conflict free_conflict (λ a b h. free_none (add_to_one a b) (conflict a b) h)

pub neighbours : (front back : List Step) (a b : Step) → free_conflict a b ≡ None → (store : Store)
    → do_all execute (front ++ a ∷ b ∷ back) store ≡ do_all execute (front ++ b ∷ a ∷ back) store
neighbours [] back a b n store = ap (do_all execute back) (sym (free_commutes a b n store))
neighbours (x ∷ front) back a b n store = neighbours front back a b n (execute x store)
