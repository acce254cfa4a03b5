-- Two accumulations into one array may change places.
use Rattle.std.proofs.Common.{◌≡◌, ◌≢◌, refl, sym, ap, ◌∙◌, subst, ℕ, ◌<◌, nat_eq, ℤ, pos, ◌+ℤ◌, Bool, true, false, ◌&&◌, if◌then◌else◌, List, [], ◌∷◌, length, map, inl, inr, set, set-set, get_or-set_other, get_or-set_same, arith}
use Rattle.std.proofs.lemmas.Int.{ints}
use Rattle.std.proofs.lemmas.Bool.{both_ways, cases_Bool, cases_lt}
use Rattle.std.proofs.lemmas.List.{set_comm}
use Rattle.std.proofs.lemmas.Int.{int_wrap-add_left}
use Rattle.std.proofs.Math.Seq.{set_out}
use Rattle.std.specs.Int.{int_wrap, w64}
use Rattle.ch_nest.specs.declared.nest.Access.{Access}
use Rattle.ch_nest.specs.declared.nest.Expr.{Expr}
use Rattle.ch_nest.specs.declared.nest.Expr.TheViews.{out-Expr}
use Rattle.ch_nest.specs.declared.nest.Expr.TheFolds.{fold_out-Expr}
use Rattle.ch_nest.specs.Run.{subscripts}
use Rattle.ch_timed.specs.Members.{Each}
use Rattle.ch_timed.specs.Timed.{Step}
use Rattle.ch_timed.specs.Vectors.{same_numbers}
use Rattle.ch_timed.specs.declared.element.Cell.{Cell}
use Rattle.ch_timed.specs.Conflict.{cell_of, reads, reads_step, same_cell, written}
use Rattle.ch_timed.specs.Do.{Store, execute, right_value, value_step}
use Rattle.ch_timed.specs.Flat.{AllInside, IsInside, look, place_of}
use Rattle.ch_order.proofs.Commutes.{picks, same_cell_is, same_cell_turned, unwritten}
use Rattle.ch_timed.proofs.Values.{same_value}
use Rattle.ch_order.proofs.FlatCommutes.{execute_cells, other_place, unchanged}
use Rattle.ch_reduce.specs.Accumulation.{accumulates}
use Rattle.ch_reduce.proofs.Parts.{is_change}

-- the value is what the cell holds, changed by a part that has no access of its array
pub record IsSum (s : Step) : Type 0 where
  pub part : Expr
  pub change : ℤ → ℤ
  pub value : (store : Store) → right_value s.identity.iters store s.body.right
      ≡ int_wrap w64 (store (written s) +ℤ change (right_value s.identity.iters store part))
  pub other : Each (λ a. nat_eq a.array s.body.write.array ≡ false) (reads part)
  pub inside : (extents : List (List ℕ)) → AllInside extents (map (cell_of s.identity.iters) (reads s.body.right))
      → AllInside extents (map (cell_of s.identity.iters) (reads part))

pub is_sum : (s : Step) → accumulates s.body ≡ true → IsSum s
is_sum s h =
    let c = is_change s.identity.iters s.body.write (out-Expr s.body.right) h in
    record {
      part = c.part;
      change = c.change;
      value = λ store. fold_out-Expr ℤ (value_step s.identity.iters store) s.body.right ∙ c.value store;
      other = c.other;
      inside = λ extents i. c.inside extents (subst (λ z. AllInside extents (map (cell_of s.identity.iters) z)) (fold_out-Expr (List Access) reads_step s.body.right) i);
    }

not_cells : (iters : List ℤ) (xs : List Access) (w : Cell) → Each (λ a. nat_eq a.array w.array ≡ false) xs
    → Each (λ c. same_cell c w ≡ false) (map (cell_of iters) xs)
not_cells iters [] w h = tt
not_cells iters (x ∷ xs) w h = (ap (λ t. t && same_numbers (subscripts x iters) w.subs) h.0, not_cells iters xs w h.1)

-- the part of the one has no cell that the other writes
part_apart : (a b : Step) (p : IsSum a) → a.body.write.array ≡ b.body.write.array
    → Each (λ c. same_cell c (written b) ≡ false) (map (cell_of a.identity.iters) (reads p.part))
part_apart a b p one = not_cells a.identity.iters (reads p.part) (written b) (subst (λ n. Each (λ c. nat_eq c.array n ≡ false) (reads p.part)) one p.other)

-- two numbers are added in either order, wrapped on the way
turned : (x y z : ℤ) → int_wrap w64 (int_wrap w64 (x +ℤ y) +ℤ z) ≡ int_wrap w64 (int_wrap w64 (x +ℤ z) +ℤ y)
turned x y z =
    let e : ((x +ℤ y) +ℤ z) ≡ ((x +ℤ z) +ℤ y) = omega (arith, ints) in
    int_wrap-add_left w64 (x +ℤ y) z ∙ ap (int_wrap w64) e ∙ sym (int_wrap-add_left w64 (x +ℤ z) y)

-- stores

at_own : (s : Step) (store : Store) (c : Cell) → same_cell c (written s) ≡ true → execute s store c ≡ right_value s.identity.iters store s.body.right
at_own s store c e = ap (λ t. if t then right_value s.identity.iters store s.body.right else store c) e

at_other : (s : Step) (store : Store) (c : Cell) → same_cell c (written s) ≡ false → execute s store c ≡ store c
at_other s store c e = ap (λ t. if t then right_value s.identity.iters store s.body.right else store c) e

-- the part has the value that it had before the other one
value_after : (a b : Step) (p : IsSum a) → a.body.write.array ≡ b.body.write.array → (s : Store)
    → right_value a.identity.iters (execute b s) a.body.right
    ≡ int_wrap w64 (execute b s (written a) +ℤ p.change (right_value a.identity.iters s p.part))
value_after a b p one s =
    let part = same_value a.identity.iters (execute b s) s p.part (unwritten a.identity.iters b s (reads p.part) (part_apart a b p one)) in
    p.value (execute b s) ∙ ap (λ v. int_wrap w64 (execute b s (written a) +ℤ p.change v)) part

kept_value : (a b : Step) (p : IsSum a) → a.body.write.array ≡ b.body.write.array → same_cell (written a) (written b) ≡ false → (s : Store)
    → right_value a.identity.iters (execute b s) a.body.right ≡ right_value a.identity.iters s a.body.right
kept_value a b p one e s =
    value_after a b p one s ∙ ap (λ v. int_wrap w64 (v +ℤ p.change (right_value a.identity.iters s p.part))) (at_other b s (written a) e) ∙ sym (p.value s)

added_value : (a b : Step) (p : IsSum a) (q : IsSum b) → a.body.write.array ≡ b.body.write.array → written a ≡ written b → same_cell (written a) (written b) ≡ true → (s : Store)
    → right_value a.identity.iters (execute b s) a.body.right
    ≡ int_wrap w64 (int_wrap w64 (s (written a) +ℤ q.change (right_value b.identity.iters s q.part)) +ℤ p.change (right_value a.identity.iters s p.part))
added_value a b p q one w e s =
    value_after a b p one s
    ∙ ap (λ v. int_wrap w64 (v +ℤ p.change (right_value a.identity.iters s p.part)))
    (at_own b s (written a) e ∙ q.value s ∙ ap (λ c. int_wrap w64 (s c +ℤ q.change (right_value b.identity.iters s q.part))) (sym w))

both_pick : (p q : Bool) (x y x' y' z : ℤ) → p ≡ q → x' ≡ y' → (if p then x' else (if q then y else z)) ≡ (if q then y' else (if p then x else z))
both_pick true true x y x' y' z e f = f
both_pick true false x y x' y' z e f = cc
both_pick false true x y x' y' z e f = cc
both_pick false false x y x' y' z e f = refl

pub sums_commute : (a b : Step) → IsSum a → IsSum b → a.body.write.array ≡ b.body.write.array → (s : Store) → execute a (execute b s) ≡ execute b (execute a s)
sums_commute a b p q one s = elim (cases_Bool (same_cell (written a) (written b))) as (λ _. execute a (execute b s) ≡ execute b (execute a s)) [
  | inl e ↦
      let w : written a ≡ written b = same_cell_is (written a) (written b) e in
      let f : same_cell (written b) (written a) ≡ true = subst (λ c. same_cell c (written a) ≡ true) w (subst (λ c. same_cell (written a) c ≡ true) (sym w) e) in
      let va = p.change (right_value a.identity.iters s p.part) in
      let vb = q.change (right_value b.identity.iters s q.part) in
      let mine = added_value a b p q one w e s in
      let theirs = added_value b a q p (sym one) (sym w) f s in
      let same = mine ∙ turned (s (written a)) vb va ∙ ap (λ c. int_wrap w64 (int_wrap w64 (s c +ℤ va) +ℤ vb)) w ∙ sym theirs in
      λ i c. both_pick (same_cell c (written a)) (same_cell c (written b)) (right_value a.identity.iters s a.body.right) (right_value b.identity.iters s b.body.right)
      (right_value a.identity.iters (execute b s) a.body.right) (right_value b.identity.iters (execute a s) b.body.right) (s c) (ap (same_cell c) w) same i
  | inr e ↦
      let f : same_cell (written b) (written a) ≡ false = same_cell_turned (written a) (written b) e in
      λ i c. picks (same_cell c (written a)) (same_cell c (written b)) _ _ _ _ (s c)
      (λ l r. both_ways _ e (subst (λ d. same_cell d (written b) ≡ true) (same_cell_is c (written a) l) r))
      (kept_value a b p one e s) (kept_value b a q (sym one) f s) i
]

-- flat extents

twice : (cells : List ℤ) (k : ℕ) (x y x' y' : ℤ) → (k < length cells → x' ≡ y') → set (set cells k y) k x' ≡ set (set cells k x) k y'
twice cells k x y x' y' h = elim (cases_lt k (length cells)) as (λ _. set (set cells k y) k x' ≡ set (set cells k x) k y') [
  | inl l ↦ set-set cells k y x' ∙ ap (set cells k) (h l) ∙ sym (set-set cells k x y')
  | inr l ↦ set-set cells k y x' ∙ set_out cells k x' l ∙ sym (set_out cells k y' l) ∙ sym (set-set cells k x y')
]

module _ (extents : List (List ℕ)) where
  abbrev flat_right : Step → List ℤ → ℤ
  flat_right s cells = right_value s.identity.iters (look extents cells) s.body.right

  flat_after : (a b : Step) (p : IsSum a) → IsInside extents a → IsInside extents b → a.body.write.array ≡ b.body.write.array → (cells : List ℤ)
      → flat_right a (execute_cells extents b cells)
      ≡ int_wrap w64 (look extents (execute_cells extents b cells) (written a) +ℤ p.change (right_value a.identity.iters (look extents cells) p.part))
  flat_after a b p i j one cells =
      let part = same_value a.identity.iters (look extents (execute_cells extents b cells)) (look extents cells) p.part
      (unchanged extents a.identity.iters (reads p.part) (written b) (flat_right b cells) cells j.writes (p.inside extents i.reads) (part_apart a b p one)) in
      p.value (look extents (execute_cells extents b cells))
      ∙ ap (λ v. int_wrap w64 (look extents (execute_cells extents b cells) (written a) +ℤ p.change v)) part

  flat_kept : (a b : Step) (p : IsSum a) → IsInside extents a → IsInside extents b → a.body.write.array ≡ b.body.write.array → same_cell (written a) (written b) ≡ false → (cells : List ℤ)
      → flat_right a (execute_cells extents b cells) ≡ flat_right a cells
  flat_kept a b p i j one e cells =
      let cell = get_or-set_other cells (place_of extents (written b)) (place_of extents (written a)) (flat_right b cells) (pos 0) (other_place extents (written a) (written b) i.writes j.writes e) in
      flat_after a b p i j one cells ∙ ap (λ v. int_wrap w64 (v +ℤ p.change (right_value a.identity.iters (look extents cells) p.part))) cell ∙ sym (p.value (look extents cells))

  flat_added : (a b : Step) (p : IsSum a) (q : IsSum b) → IsInside extents a → IsInside extents b → a.body.write.array ≡ b.body.write.array → written a ≡ written b
      → (cells : List ℤ) → place_of extents (written a) < length cells
      → flat_right a (execute_cells extents b cells)
      ≡ int_wrap w64 (int_wrap w64 (look extents cells (written a) +ℤ q.change (right_value b.identity.iters (look extents cells) q.part)) +ℤ p.change (right_value a.identity.iters (look extents cells) p.part))
  flat_added a b p q i j one w cells l =
      let here : look extents (execute_cells extents b cells) (written a) ≡ flat_right b cells =
      subst (λ c. look extents (set cells (place_of extents c) (flat_right b cells)) (written a) ≡ flat_right b cells) w
      (get_or-set_same cells (place_of extents (written a)) (flat_right b cells) (pos 0) l) in
      flat_after a b p i j one cells
      ∙ ap (λ v. int_wrap w64 (v +ℤ p.change (right_value a.identity.iters (look extents cells) p.part)))
      (here ∙ q.value (look extents cells) ∙ ap (λ c. int_wrap w64 (look extents cells c +ℤ q.change (right_value b.identity.iters (look extents cells) q.part))) (sym w))

  pub sums_commute_flat : (a b : Step) → IsSum a → IsSum b → IsInside extents a → IsInside extents b → a.body.write.array ≡ b.body.write.array → (cells : List ℤ)
      → execute_cells extents a (execute_cells extents b cells) ≡ execute_cells extents b (execute_cells extents a cells)
  sums_commute_flat a b p q i j one cells = elim (cases_Bool (same_cell (written a) (written b))) as (λ _. execute_cells extents a (execute_cells extents b cells) ≡ execute_cells extents b (execute_cells extents a cells)) [
    | inl e ↦
        let w : written a ≡ written b = same_cell_is (written a) (written b) e in
        let k = place_of extents (written a) in
        let va = p.change (right_value a.identity.iters (look extents cells) p.part) in
        let vb = q.change (right_value b.identity.iters (look extents cells) q.part) in
        let same : k < length cells → flat_right a (execute_cells extents b cells) ≡ flat_right b (execute_cells extents a cells) = λ l.
        flat_added a b p q i j one w cells l ∙ turned (look extents cells (written a)) vb va
        ∙ ap (λ c. int_wrap w64 (int_wrap w64 (look extents cells c +ℤ va) +ℤ vb)) w
        ∙ sym (flat_added b a q p j i (sym one) (sym w) cells (subst (λ c. place_of extents c < length cells) w l)) in
        subst (λ c. set (set cells (place_of extents c) (flat_right b cells)) k (flat_right a (execute_cells extents b cells)) ≡ set (set cells k (flat_right a cells)) (place_of extents c) (flat_right b (execute_cells extents a cells))) w
        (twice cells k (flat_right a cells) (flat_right b cells) (flat_right a (execute_cells extents b cells)) (flat_right b (execute_cells extents a cells)) same)
    | inr e ↦
        let ka = place_of extents (written a) in
        let kb = place_of extents (written b) in
        let f : same_cell (written b) (written a) ≡ false = same_cell_turned (written a) (written b) e in
        let differ : kb ≢ ka = other_place extents (written b) (written a) j.writes i.writes f in
        ap (set (execute_cells extents b cells) ka) (flat_kept a b p i j one e cells)
        ∙ set_comm cells kb ka (flat_right b cells) (flat_right a cells) differ
        ∙ ap (set (execute_cells extents a cells) kb) (sym (flat_kept b a q j i (sym one) f cells))
  ]
