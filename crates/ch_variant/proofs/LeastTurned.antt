-- The pair that is found among those that must keep their order is the least one, by positions.
use Rattle.std.proofs.Common.{◌≡◌, refl, sym, ap, ◌∙◌, subst, Bool, true, false, Option, Some, None, List, [], ◌∷◌, map, inl, inr}
use Rattle.std.proofs.lemmas.Bool.{and_parts}
use Rattle.std.specs.Bool.{IsTrue}
use Rattle.std.specs.Ordering.{is_lt}
use Rattle.std.specs.declared.cmp.Ordering.{Ordering}
use Rattle.std.specs.declared.cmp.Ordering.TheVariants.{Less, Equal, Greater}
use Rattle.ch_order.specs.Legal.{AreAmong, Conflict}
use Rattle.ch_order.proofs.Before.{before_from, from_before}
use Rattle.ch_order.proofs.Least.{IsEarlier}
use Rattle.ch_timed.specs.Members.{In}
use Rattle.ch_timed.specs.Order as order
use Rattle.ch_timed.specs.Order.{Pair, is_before, or_else, overtaken}
use Rattle.ch_timed.specs.Timed.{Step, step, same_step, identities_differ, is_well_formed}
use Rattle.ch_timed.specs.Vectors.{comes_before}
use Rattle.ch_timed.specs.declared.element.Cell.{Cell}
use Rattle.ch_timed.specs.declared.element.Element.{Element}
use Rattle.ch_timed.proofs.Orders.{IsAscending, at_each, in_map, map_in, not_both, not_itself}
use Rattle.ch_timed.proofs.Sorted.{adjacent_ascends}
use Rattle.ch_variant.specs.LeastPairs.{IsLeastTurned, IsTurned}

less_is : (o : Ordering) → is_lt o ≡ true → o ≡ Less
less_is Less h = refl
less_is Equal h = cc
less_is Greater h = cc

earlier_of : (e f : Element) → IsTrue (comes_before e.vector f.vector) → IsEarlier e f
earlier_of e f h = less_is _ h

comes_of : (e f : Element) → IsEarlier e f → IsTrue (comes_before e.vector f.vector)
comes_of e f h = ap is_lt h

-- what a pair that was found tells
record Told (t : Bool) (a b : Step) (o : Option Cell) (p : Pair Step Cell) : Type 0 where
  turned : t ≡ true
  cell : o ≡ Some p.cell
  pair : p ≡ record { first = a; second = b; cell = p.cell }

told : (t : Bool) (a b : Step) (o : Option Cell) (p : Pair Step Cell) → overtaken t a b o ≡ Some p → Told t a b o p
told true a b (Some c) p h =
    let e : record { first = a; second = b; cell = c } ≡ p = cc in
    subst (Told true a b (Some c)) e (record { turned = refl; cell = refl; pair = refl })
told true a b None p h = cc
told false a b o p h = cc

never : {A : Type 0} (o : Option A) (a : A) → o ≡ None → o ≡ Some a → ⊥
never None a h g = cc
never (Some b) a h g = cc

in_rest : (x b : Element) (rest : List Element) → IsEarlier x b → In b (x ∷ rest) → In b rest
in_rest x b rest l (inl k) = absurd (not_itself (λ e. e.vector) x (subst (λ z. IsEarlier x z) (sym k) l))
in_rest x b rest l (inr i) = i

module _ (conflicts : Conflict) where
  -- the pair of e and f, where f overtook e and they must keep their order
  abbrev pair_of : List Element → Element → Element → Option (Pair Step Cell)
  pair_of new e f = overtaken (is_before same_step (step f) (step e) (map step new)) (step e) (step f) (conflicts (step e) (step f))

  abbrev overtakes : List Element → Element → List Element → Option (Pair Step Cell)
  overtakes new a later = order.overtakes same_step conflicts (step a) (map step later) (map step new)

  abbrev reversed : List Element → List Element → Option (Pair Step Cell)
  reversed old new = order.reversed same_step conflicts (map step old) (map step new)

  -- no pair of members with an earlier first element, or the same first and an earlier second one, is turned
  record IsFirst (old new : List Element) (a b : Element) : Type 0 where
    first_in : In a old
    second_in : In b old
    apart : IsEarlier a b
    no_first : (e f : Element) → In e old → In f old → IsEarlier e f → IsEarlier e a → pair_of new e f ≡ None
    no_second : (f : Element) → In f old → IsEarlier a f → IsEarlier f b → pair_of new a f ≡ None

  first_found : (new : List Element) (a : Element) (later : List Element) (p : Pair Step Cell) → IsAscending (λ e. e.vector) later → overtakes new a later ≡ Some p
      → (b : Element) × (In b later × ((pair_of new a b ≡ Some p) × ((f : Element) → In f later → IsEarlier f b → pair_of new a f ≡ None)))
  first_found new a [] p s h = cc
  first_found new a (f ∷ later) p s h = by (pair_of new a f) refl h (first_found new a later p s.1)
    where
      by : (o : Option (Pair Step Cell)) → pair_of new a f ≡ o → or_else o (overtakes new a later) ≡ Some p
          → (overtakes new a later ≡ Some p → (b : Element) × (In b later × ((pair_of new a b ≡ Some p) × ((g : Element) → In g later → IsEarlier g b → pair_of new a g ≡ None))))
          → (b : Element) × (In b (f ∷ later) × ((pair_of new a b ≡ Some p) × ((g : Element) → In g (f ∷ later) → IsEarlier g b → pair_of new a g ≡ None)))
      by (Some q) e k more = (
        f,
        (
          inl refl,
          (
            e ∙ k,
            λ g i l. elim i as (λ _. pair_of new a g ≡ None) [
              | inl m ↦ absurd (not_itself (λ e. e.vector) f (subst (λ z. IsEarlier z f) (sym m) l))
              | inr j ↦ absurd (not_both (λ e. e.vector) f g (at_each _ later s.0 g j) l)
            ],
          ),
        ),
      )
      by None e k more =
          let r = more k in (
            r.0,
            (
              inr r.1.0,
              (
                r.1.1.0,
                λ g i l. elim i as (λ _. pair_of new a g ≡ None) [
                  | inl m ↦ subst (λ z. pair_of new a z ≡ None) m e
                  | inr j ↦ r.1.1.1 g j l
                ],
              ),
            ),
          )

  each_none : (new : List Element) (a : Element) (later : List Element) → overtakes new a later ≡ None → (f : Element) → In f later → pair_of new a f ≡ None
  each_none new a [] h f i = absurd i
  each_none new a (g ∷ later) h f i =
      let p = both_none (pair_of new a g) (overtakes new a later) h in
      elim i as (λ _. pair_of new a f ≡ None) [
        | inl k ↦ subst (λ z. pair_of new a z ≡ None) k p.0
        | inr j ↦ each_none new a later p.1 f j
      ]
    where
      both_none : {A : Type 0} (x y : Option A) → or_else x y ≡ None → (x ≡ None) × (y ≡ None)
      both_none (Some a) y h = cc
      both_none None y h = (refl, h)

  is_least : (old new : List Element) (p : Pair Step Cell) → IsAscending (λ e. e.vector) old → reversed old new ≡ Some p
      → (a b : Element) × (IsFirst old new a b × (pair_of new a b ≡ Some p))
  is_least [] new p s h = cc
  is_least (x ∷ rest) new p s h = by (overtakes new x rest) refl h (is_least rest new p s.1)
    where
      by : (o : Option (Pair Step Cell)) → overtakes new x rest ≡ o → or_else o (reversed rest new) ≡ Some p
          → (reversed rest new ≡ Some p → (a b : Element) × (IsFirst rest new a b × (pair_of new a b ≡ Some p)))
          → (a b : Element) × (IsFirst (x ∷ rest) new a b × (pair_of new a b ≡ Some p))
      by (Some q) e k more =
          let r = first_found new x rest p s.1 (e ∙ k) in (
            x,
            r.0,
            (
              record {
                first_in = inl refl;
                second_in = inr r.1.0;
                apart = at_each _ rest s.0 r.0 r.1.0;
                no_first = λ e f i j l m. absurd (none_before e i m);
                no_second = λ f i l m. elim i as (λ _. pair_of new x f ≡ None) [
                  | inl k ↦ absurd (not_itself (λ e. e.vector) x (subst (λ z. IsEarlier x z) (sym k) l))
                  | inr j ↦ r.1.1.1 f j m
                ];
              },
              r.1.1.0,
            ),
          )
        where
          none_before : (e : Element) → In e (x ∷ rest) → IsEarlier e x → ⊥
          none_before e (inl k) m = not_itself (λ e. e.vector) x (subst (λ z. IsEarlier z x) (sym k) m)
          none_before e (inr j) m = not_both (λ e. e.vector) x e (at_each _ rest s.0 e j) m
      by None e k more =
          let r = more k in
          let none = each_none new x rest e in
          let least = r.2.0 in
          let early = at_each _ rest s.0 r.0 least.first_in in (
            r.0,
            r.1,
            (
              record {
                first_in = inr least.first_in;
                second_in = inr least.second_in;
                apart = least.apart;
                no_first = λ e f i j l m. elim i as (λ _. pair_of new e f ≡ None) [
                  | inl k ↦ subst (λ z. pair_of new z f ≡ None) k (none f (in_rest x f rest (subst (λ z. IsEarlier z f) (sym k) l) j))
                  | inr n ↦ least.no_first e f n (later_in e f n j l) l m
                ];
                no_second = λ f i l m. least.no_second f (later_in r.0 f least.first_in i l) l m;
              },
              r.2.1,
            ),
          )
        where
          later_in : (e f : Element) → In e rest → In f (x ∷ rest) → IsEarlier e f → In f rest
          later_in e f i (inl k) l = absurd (not_both (λ e. e.vector) x e (at_each _ rest s.0 e i) (subst (λ z. IsEarlier e z) (sym k) l))
          later_in e f i (inr j) l = j

  module _ (old new : List Element) (old_fine : is_well_formed old ≡ true) (new_fine : is_well_formed new ≡ true) (kept : AreAmong old new) where
    old_ascends : IsAscending (λ e. e.vector) old
    old_ascends = adjacent_ascends old (and_parts _ _ (and_parts _ _ old_fine).1).0

    new_ascends : IsAscending (λ e. e.vector) new
    new_ascends = adjacent_ascends new (and_parts _ _ (and_parts _ _ new_fine).1).0

    new_once : identities_differ new ≡ true
    new_once = (and_parts _ _ new_fine).0

    -- where a step of the old list stands in the new one
    now_of : (e : Element) → In e old → (n : Element) × (In n new × (step n ≡ step e))
    now_of e i = in_map step new (step e) (kept (step e) (map_in step old e i))

    turned_pair : (a b : Element) (p : Pair Step Cell) → In a old → In b old → IsEarlier a b → pair_of new a b ≡ Some p
        → IsTurned conflicts old new a b p.cell × (p ≡ record { first = step a; second = step b; cell = p.cell })
    turned_pair a b p i j l h =
        let t = told (is_before same_step (step b) (step a) (map step new)) (step a) (step b) (conflicts (step a) (step b)) p h in
        let m = now_of a i in
        let n = now_of b j in
        let before : is_before same_step (step n.0) (step m.0) (map step new) ≡ true =
        subst (λ s. is_before same_step s (step m.0) (map step new) ≡ true) (sym n.1.1) (subst (λ s. is_before same_step (step b) s (map step new) ≡ true) (sym m.1.1) t.turned) in (
          record {
            first = i;
            second = j;
            before = comes_of a b l;
            conflicting = t.cell;
            first_now = m.0;
            second_now = n.0;
            first_there = m.1.0;
            second_there = n.1.0;
            same_first = m.1.1;
            same_second = n.1.1;
            turned = comes_of n.0 m.0 (from_before new m.0 n.0 new_ascends new_once m.1.0 n.1.0 before);
          },
          t.pair,
        )

    pair_turned : (a b : Element) (c : Cell) → IsTurned conflicts old new a b c → pair_of new a b ≡ Some (record { first = step a; second = step b; cell = c })
    pair_turned a b c r =
        let before : is_before same_step (step r.second_now) (step r.first_now) (map step new) ≡ true =
        before_from new r.first_now r.second_now new_ascends new_once r.first_there r.second_there (earlier_of r.second_now r.first_now r.turned) in
        let turned : is_before same_step (step b) (step a) (map step new) ≡ true =
        subst (λ s. is_before same_step s (step a) (map step new) ≡ true) r.same_second (subst (λ s. is_before same_step (step r.second_now) s (map step new) ≡ true) r.same_first before) in
        ap (λ t. overtaken t (step a) (step b) (conflicts (step a) (step b))) turned ∙ ap (overtaken true (step a) (step b)) r.conflicting

    pub found : (p : Pair Step Cell) → reversed old new ≡ Some p
        → (a b : Element) × (IsLeastTurned conflicts old new a b p.cell × (p ≡ record { first = step a; second = step b; cell = p.cell }))
    found p h =
        let r = is_least old new p old_ascends h in
        let l = r.2.0 in
        let q = turned_pair r.0 r.1 p l.first_in l.second_in l.apart r.2.1 in (
          r.0,
          r.1,
          (
            record {
              is = q.0;
              no_first = λ e f d k m. never _ _ (l.no_first e f k.first k.second (earlier_of e f k.before) (earlier_of e r.0 m)) (pair_turned e f d k);
              no_second = λ f d k m. never _ _ (l.no_second f k.second (earlier_of r.0 f k.before) (earlier_of f r.1 m)) (pair_turned r.0 f d k);
            },
            q.1,
          ),
        )
