-- The meter of a walk and that of the cost, element by element.
use Rattle.std.proofs.Common.{◌≡◌, ap, ap₂, sym, ◌∙◌, refl, ℕ, zero, suc, ◌+◌, ◌*◌, ◌-◌, ◌≤◌, min, ℤ, pos, Bool, true, false, nat_eq, if◌then◌else◌, List, [], ◌∷◌, ◌++◌, get_or, take, map, length, arith}
use Rattle.std.proofs.lemmas.List.{map-append, length-take-le}
use Rattle.ch_cost.specs.Cost.{addresses, held, line, miss, misses, most_cost, slot, turns_begun}
use Rattle.ch_cost.specs.Meter.{Meter, Visit, all_held, metered, visit}
use Rattle.ch_nest.specs.CostModel.{CostModel}
use Rattle.ch_plan.specs.declared.meter.Setting.{Setting}
use Rattle.ch_plan.specs.declared.plan.Right.{Right}
use Rattle.ch_plan.specs.declared.plan.Spot.{Spot}
use Rattle.ch_plan.specs.Planned.{Walked, all_touched, begun, begun_levels, begun_sum, machine_of, metered_leaf, places_of, spot_place, spots, touched, walked}
use Rattle.ch_timed.specs.Order.{do_all}
use Rattle.ch_timed.specs.Vectors.{woven}
use Rattle.ch_plan.specs.Agreement.{Agree}
use Rattle.ch_plan.proofs.Levels.{begun_is}

-- sums that are cut off

pub capped_more : (a b : ℕ) → min most_cost (min most_cost a + b) ≡ min most_cost (a + b)
capped_more a b = omega arith

charged : (b : Bool) (n cost : ℕ) → (if b then min most_cost n else min most_cost (min most_cost n + cost)) ≡ min most_cost (n + cost * (if b then 0 else 1))
charged true n cost = omega arith
charged false n cost = omega arith

pub touched_all : (m : CostModel) (xs slots : List ℕ) (last : List ℤ) (leaf n : ℕ)
    → all_touched m xs (walked slots last leaf (min most_cost n)) ≡ walked (all_held m slots xs) last leaf (min most_cost (n + m.miss * misses m slots xs))
touched_all m [] slots last leaf n = ap (λ k. walked slots last leaf (min most_cost k)) (omega arith)
touched_all m (a ∷ more) slots last leaf n =
    let t : Bool = nat_eq (get_or slots (slot m a) 0) (line m a + 1) in
    let one = charged t n m.miss in
    let rest = touched_all m more (held m slots a) last leaf (n + m.miss * miss m slots a) in
    let sum : (n + m.miss * miss m slots a) + m.miss * misses m (held m slots a) more ≡ n + m.miss * misses m slots (a ∷ more) = omega arith in
    ap (λ k. all_touched m more (walked (held m slots a) last leaf k)) one ∙ rest ∙ ap (λ k. walked (all_held m slots (a ∷ more)) last leaf (min most_cost k)) sum

all_both : (m : CostModel) (xs ys : List ℕ) (w : Walked) → all_touched m (xs ++ ys) w ≡ all_touched m ys (all_touched m xs w)
all_both m [] ys w = refl
all_both m (x ∷ xs) ys w = all_both m xs ys (touched m x w)

-- one statement

pub leaf_walked : (s : Setting) (leaf : ℕ) (write : Spot) (right : Right) (point xs : List ℤ) (w : Walked) (meter : Meter) (ns : List ℕ) (n : ℕ)
    → Agree s (length point) w meter → length (places_of s leaf) ≡ suc (length xs) → xs ≡ take (length (places_of s leaf) - 1) point → map (spot_place point) (spots right) ≡ ns
    → spot_place point write ≡ n
    → metered_leaf s leaf write right point w
    ≡ walked (all_held (machine_of s) meter.slots (ns ++ n ∷ [])) point leaf
    (min most_cost (meter.sum + (1 + s.turn * turns_begun meter.last (woven (map pos (places_of s leaf)) xs) + s.miss * misses (machine_of s) meter.slots (ns ++ n ∷ []))))
leaf_walked s leaf write right point xs w meter ns n a e t reads write_is =
    let m : CostModel = machine_of s in
    let b : ℕ = begun_levels (places_of s leaf) (places_of s w.leaf) point w.last in
    let turns : b ≡ turns_begun meter.last (woven (map pos (places_of s leaf)) xs) = begun_is (places_of s leaf) (places_of s w.leaf) point w.last xs meter.last e t a.last in
    let total : ℕ = meter.sum + (1 + s.turn * turns_begun meter.last (woven (map pos (places_of s leaf)) xs)) in
    let sum : begun_sum s leaf point w ≡ min most_cost total =
    ap (λ k. min most_cost (min most_cost (k + 1) + s.turn * b)) a.sum ∙ capped_twice meter.sum (s.turn * b) ∙ ap (λ k. min most_cost (meter.sum + (1 + s.turn * k))) turns in
    let start : begun s leaf point w ≡ walked meter.slots point leaf (min most_cost total) = ap₂ (λ slots k. walked slots point leaf k) a.slots sum in
    let touches : metered_leaf s leaf write right point w ≡ all_touched m (ns ++ n ∷ []) (walked meter.slots point leaf (min most_cost total)) =
    ap₂ (λ k ks. touched m k (all_touched m ks (begun s leaf point w))) write_is reads ∙ ap (λ z. touched m n (all_touched m ns z)) start ∙ sym (all_both m ns (n ∷ []) (walked meter.slots point leaf (min most_cost total))) in
    let split : total + m.miss * misses m meter.slots (ns ++ n ∷ [])
    ≡ meter.sum + (1 + s.turn * turns_begun meter.last (woven (map pos (places_of s leaf)) xs) + s.miss * misses m meter.slots (ns ++ n ∷ [])) = omega arith in
    touches ∙ touched_all m (ns ++ n ∷ []) meter.slots point leaf total ∙ ap (λ k. walked (all_held m meter.slots (ns ++ n ∷ [])) point leaf (min most_cost k)) split
  where
    capped_twice : (a b : ℕ) → min most_cost (min most_cost (min most_cost a + 1) + b) ≡ min most_cost (a + (1 + b))
    capped_twice a b = omega arith

pub leaf_agrees : (s : Setting) (leaf : ℕ) (write : Spot) (right : Right) (point xs : List ℤ) (w : Walked) (meter : Meter) (v : Visit) (ns : List ℕ) (n : ℕ)
    → Agree s (length point) w meter → length (places_of s leaf) ≡ suc (length xs) → xs ≡ take (length (places_of s leaf) - 1) point → map (spot_place point) (spots right) ≡ ns
    → spot_place point write ≡ n → v.vector ≡ woven (map pos (places_of s leaf)) xs → v.addresses ≡ ns ++ n ∷ []
    → Agree s (length point) (metered_leaf s leaf write right point w) (metered (machine_of s) v meter)
leaf_agrees s leaf write right point xs w meter v ns n a e t reads write_is vector addresses_are =
    let done = leaf_walked s leaf write right point xs w meter ns n a e t reads write_is in
    record {
      long = ap (λ z. length z.last) done;
      slots = ap (λ z. z.slots) done ∙ ap (all_held (machine_of s) meter.slots) (sym addresses_are);
      last = vector ∙ ap (woven (map pos (places_of s leaf))) t ∙ sym (ap (λ z. woven (map pos (places_of s z.leaf)) (take (length (places_of s z.leaf) - 1) z.last)) done);
      sum =
          ap (λ z. z.sum) done
          ∙ ap₂ (λ z zs. min most_cost (meter.sum + (1 + s.turn * turns_begun meter.last z + s.miss * misses (machine_of s) meter.slots zs))) (sym vector) (sym addresses_are);
    }

-- one list after another

do_both : {E S : Type 0} (exec : E → S → S) (xs ys : List E) (s : S) → do_all exec (xs ++ ys) s ≡ do_all exec ys (do_all exec xs s)
do_both exec [] ys s = refl
do_both exec (x ∷ xs) ys s = do_both exec xs ys (exec x s)

pub do_mapped : {X E S : Type 0} (exec : E → S → S) (f : X → E) (xs ys : List X) (s : S) → do_all exec (map f (xs ++ ys)) s ≡ do_all exec (map f ys) (do_all exec (map f xs) s)
do_mapped exec f xs ys s = ap (λ es. do_all exec es s) (map-append f xs ys) ∙ do_both exec (map f xs) (map f ys) s
