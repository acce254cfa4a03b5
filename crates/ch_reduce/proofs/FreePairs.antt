-- The pairs of pieces whose bodies accumulate into one array, and the elements of these pieces.
use Rattle.std.proofs.Common.{◌≡◌, refl, sym, ap, ap₂, ◌∙◌, subst, ℕ, zero, suc, ◌+◌, ◌-◌, ◌<◌, ◌≤◌, Bool, true, false, ◌&&◌, ◌||◌, nat_eq, if◌then◌else◌, Option, None, List, [], ◌∷◌, ◌++◌, length, map, drop, drop-cons, get_or, add-one, append_assoc, append-nil, ◌⊎◌, ◌↔◌, inl, inr, arith}
use Rattle.std.specs.List.{list_any}
use Rattle.std.proofs.Math.ListN.{drop_of_length-le}
use Rattle.std.proofs.lemmas.Bool.{and_from, and_parts, both_ways, cases_lt, eq-eqb, eqb-true, or_cases}
use Rattle.std.proofs.lemmas.Bool.Decides.{nat_tests}
use Rattle.std.proofs.lemmas.List.{get_or-map, length-map}
use Rattle.ch_depends.specs.Depends.{pair_of}
use Rattle.ch_depends.specs.Free.{are_free, conflict_but, pair_of_elements, reversed_but}
use Rattle.ch_depends.specs.Sought.{is_listed, is_pair}
use Rattle.ch_depends.proofs.BySteps.{by_steps}
use Rattle.ch_depends.proofs.FreePieces.{IsOf, listed_is, nth_of, same_answer}
use Rattle.ch_depends.specs.declared.answers.PiecePair.{PiecePair}
use Rattle.ch_nest.specs.declared.nest.Body.{Body}
use Rattle.ch_reduce.specs.Accumulation.{accumulates}
use Rattle.ch_reduce.specs.FreePairs.{AreFreePairs, Ascends, IsFreePair, Precedes, pairs_from, pairs_with}
use Rattle.ch_reduce.specs.Relaxed.{add_to_one, bodies_add_to_one, free_conflict, relaxed_reversed}
use Rattle.ch_space.specs.declared.piece.Piece.{Piece}
use Rattle.ch_space.specs.Keeps.{AreApart, places_of}
use Rattle.ch_space.specs.Pieces.{element_at, elements, instances, listed}
use Rattle.ch_space.proofs.Membership.{append_left, append_right, in_append}
use Rattle.ch_space.proofs.PieceElements.{StandsFor}
use Rattle.ch_space.proofs.PieceNumbers.{how_many, in_listed, instance_in, members_are, nth_in, stands_places}
use Rattle.ch_timed.specs.Conflict.{conflict}
use Rattle.ch_timed.specs.declared.element.Cell.{Cell}
use Rattle.ch_timed.specs.declared.element.Element.{Element}
use Rattle.ch_timed.specs.Members.{Each, In}
use Rattle.ch_space.specs.Members.{members}
use Rattle.ch_timed.specs.Timed.{pieces, step}
use Rattle.ch_timed.proofs.Orders.{in_map, map_in}

-- two bodies in either order

same_turned : (m n : ℕ) → nat_eq m n ≡ nat_eq n m
same_turned m n = same_answer (nat_eq m n) (nat_eq n m) (λ e. eq-eqb n m (sym (eqb-true m n e))) (λ e. eq-eqb m n (sym (eqb-true n m e)))

and_turned : (a b : Bool) → (a && b) ≡ (b && a)
and_turned true true = refl
and_turned true false = refl
and_turned false true = refl
and_turned false false = refl

adds_turned : (b c : Body) → bodies_add_to_one b c ≡ bodies_add_to_one c b
adds_turned b c = ap₂ (λ x y. x && y) (and_turned (accumulates b) (accumulates c)) (same_turned b.write.array c.write.array)

-- which pairs are listed

pub record IsWith (i j : ℕ) (b : Body) (cs : List Body) (p : PiecePair) : Type 0 where
  pub one : p.one ≡ i
  pub from : j ≤ p.other
  pub below : p.other < j + length cs
  pub adds : (d : Body) → bodies_add_to_one b (get_or cs (p.other - j) d) ≡ true

pair_is : (i j : ℕ) (p : PiecePair) → p.one ≡ i → p.other ≡ j → record { one = i; other = j } ≡ p
pair_is i j p e f = λ k. record { one = sym e k; other = sym f k }

first_behind : (c : Body) (cs : List Body) (m j : ℕ) (d : Body) → suc j ≤ m → get_or (c ∷ cs) (m - j) d ≡ get_or cs (m - suc j) d
first_behind c cs m j d l = let e : m - j ≡ suc (m - suc j) = omega arith in ap (λ k. get_or (c ∷ cs) k d) e

first_at : (c : Body) (cs : List Body) (m j : ℕ) (d : Body) → m ≡ j → get_or (c ∷ cs) (m - j) d ≡ c
first_at c cs m j d e = let f : m - j ≡ 0 = omega arith in ap (λ k. get_or (c ∷ cs) k d) f

module _ (i : ℕ) (b : Body) where
  behind : (j : ℕ) (c : Body) (cs : List Body) (p : PiecePair) → IsWith i (suc j) b cs p → IsWith i j b (c ∷ cs) p
  behind j c cs p w = record {
    one = w.one;
    from = let l = w.from in omega arith;
    below = let l = w.below in omega arith;
    adds = λ d. ap (bodies_add_to_one b) (first_behind c cs p.other j d w.from) ∙ w.adds d;
  }

  later : (j : ℕ) (c : Body) (cs : List Body) (p : PiecePair) → IsWith i j b (c ∷ cs) p → suc j ≤ p.other → IsWith i (suc j) b cs p
  later j c cs p w l = record {
    one = w.one;
    from = l;
    below = let m = w.below in omega arith;
    adds = λ d. sym (ap (bodies_add_to_one b) (first_behind c cs p.other j d l)) ∙ w.adds d;
  }

  pub with_only : (j : ℕ) (cs : List Body) (p : PiecePair) → In p (pairs_with i b j cs) → IsWith i j b cs p
  with_only j [] p h = absurd h
  with_only j (c ∷ cs) p h = by (bodies_add_to_one b c) refl (λ k. with_only (suc j) cs p k) h
    where
      by : (t : Bool) → bodies_add_to_one b c ≡ t → (In p (pairs_with i b (suc j) cs) → IsWith i (suc j) b cs p)
          → In p (if t then record { one = i; other = j } ∷ pairs_with i b (suc j) cs else pairs_with i b (suc j) cs) → IsWith i j b (c ∷ cs) p
      by true e more (inl k) = record {
        one = ap (λ z. z.one) (sym k);
        from = let f : p.other ≡ j = ap (λ z. z.other) (sym k) in omega arith;
        below = let f : p.other ≡ j = ap (λ z. z.other) (sym k) in omega arith;
        adds = λ d. ap (bodies_add_to_one b) (first_at c cs p.other j d (ap (λ z. z.other) (sym k))) ∙ e;
      }
      by true e more (inr k) = behind j c cs p (more k)
      by false e more k = behind j c cs p (more k)

  pub with_all : (j : ℕ) (cs : List Body) (p : PiecePair) → IsWith i j b cs p → In p (pairs_with i b j cs)
  with_all j [] p w = let l = w.below in let m = w.from in absurd (omega arith)
  with_all j (c ∷ cs) p w = by (bodies_add_to_one b c) refl (λ l. with_all (suc j) cs p (later j c cs p w l))
    where
      here_or : (p.other ≡ j) ⊎ (suc j ≤ p.other)
      here_or = let l = w.from in elim (cases_lt j p.other) as (λ _. (p.other ≡ j) ⊎ (suc j ≤ p.other)) [ inl m ↦ inr (omega arith) | inr m ↦ inl (omega arith) ]

      by : (t : Bool) → bodies_add_to_one b c ≡ t → (suc j ≤ p.other → In p (pairs_with i b (suc j) cs))
          → In p (if t then record { one = i; other = j } ∷ pairs_with i b (suc j) cs else pairs_with i b (suc j) cs)
      by true e more = elim here_or as (λ _. In p (record { one = i; other = j } ∷ pairs_with i b (suc j) cs)) [
        | inl f ↦ inl (pair_is i j p w.one f)
        | inr l ↦ inr (more l)
      ]
      by false e more = elim here_or as (λ _. In p (pairs_with i b (suc j) cs)) [
        | inl f ↦ absurd (both_ways (bodies_add_to_one b c) e (sym (ap (bodies_add_to_one b) (first_at c cs p.other j c f)) ∙ w.adds c))
        | inr l ↦ more l
      ]

-- of the pieces from i on
pub record IsFrom (i : ℕ) (bs : List Body) (p : PiecePair) : Type 0 where
  pub from : i ≤ p.one
  pub ordered : p.one ≤ p.other
  pub below : p.other < i + length bs
  pub adds : (d : Body) → bodies_add_to_one (get_or bs (p.one - i) d) (get_or bs (p.other - i) d) ≡ true

pub from_only : (i : ℕ) (bs : List Body) (p : PiecePair) → In p (pairs_from i bs) → IsFrom i bs p
from_only i [] p h = absurd h
from_only i (b ∷ bs) p h = elim (in_append (pairs_with i b i (b ∷ bs)) (pairs_from (suc i) bs) p h) as (λ _. IsFrom i (b ∷ bs) p) [
  | inl k ↦
      let w = with_only i b i (b ∷ bs) p k in
      let e = w.one in
      let f = w.from in
      record {
        from = omega arith;
        ordered = omega arith;
        below = w.below;
        adds = λ d. ap (λ c. bodies_add_to_one c (get_or (b ∷ bs) (p.other - i) d)) (first_at b bs p.one i d e) ∙ w.adds d;
      }
  | inr k ↦
      let w = from_only (suc i) bs p k in
      let e = w.from in
      let f = w.ordered in
      let g = w.below in
      record {
        from = omega arith;
        ordered = f;
        below = omega arith;
        adds = λ d. ap₂ bodies_add_to_one (first_behind b bs p.one i d e) (first_behind b bs p.other i d (omega arith)) ∙ w.adds d;
      }
]

pub from_all : (i : ℕ) (bs : List Body) (p : PiecePair) → IsFrom i bs p → In p (pairs_from i bs)
from_all i [] p w = let l = w.below in let m = w.from in let o = w.ordered in absurd (omega arith)
from_all i (b ∷ bs) p w = elim (cases_lt i p.one) as (λ _. In p (pairs_from i (b ∷ bs))) [
  | inl l ↦
      let o = w.ordered in
      let m = w.below in
      append_right (pairs_with i b i (b ∷ bs)) (pairs_from (suc i) bs) p
      (from_all (suc i) bs p (record {
        from = omega arith;
        ordered = o;
        below = omega arith;
        adds = λ d. sym (ap₂ bodies_add_to_one (first_behind b bs p.one i d (omega arith)) (first_behind b bs p.other i d (omega arith))) ∙ w.adds d;
      }))
  | inr l ↦
      let f = w.from in
      let o = w.ordered in
      let e : p.one ≡ i = omega arith in
      append_left (pairs_with i b i (b ∷ bs)) (pairs_from (suc i) bs) p
      (with_all i b i (b ∷ bs) p (record {
        one = e;
        from = omega arith;
        below = w.below;
        adds = λ d. sym (ap (λ c. bodies_add_to_one c (get_or (b ∷ bs) (p.other - i) d)) (first_at b bs p.one i d e)) ∙ w.adds d;
      }))
]

-- they ascend

each_in : {X : Type 0} (P : X → Type 0) (xs : List X) → ((x : X) → In x xs → P x) → Each P xs
each_in P [] h = tt
each_in P (x ∷ xs) h = (h x (inl refl), each_in P xs (λ y i. h y (inr i)))

with_ascends : (i : ℕ) (b : Body) (j : ℕ) (cs : List Body) → Ascends (pairs_with i b j cs)
with_ascends i b j [] = tt
with_ascends i b j (c ∷ cs) = by (bodies_add_to_one b c) (with_ascends i b (suc j) cs)
  where
    by : (t : Bool) → Ascends (pairs_with i b (suc j) cs) → Ascends (if t then record { one = i; other = j } ∷ pairs_with i b (suc j) cs else pairs_with i b (suc j) cs)
    by true more = (
      each_in (Precedes (record { one = i; other = j })) (pairs_with i b (suc j) cs) (λ p k. let w = with_only i b (suc j) cs p k in let l = w.from in inr (sym w.one, omega arith)),
      more,
    )
    by false more = more

each_append : {X : Type 0} (P : X → Type 0) (xs ys : List X) → Each P xs → Each P ys → Each P (xs ++ ys)
each_append P [] ys h g = g
each_append P (x ∷ xs) ys h g = (h.0, each_append P xs ys h.1 g)

joined_ascends : (ps qs : List PiecePair) → Ascends ps → Ascends qs → ((p q : PiecePair) → In p ps → In q qs → Precedes p q) → Ascends (ps ++ qs)
joined_ascends [] qs a b h = b
joined_ascends (p ∷ ps) qs a b h = (
  each_append (Precedes p) ps qs a.0 (each_in (Precedes p) qs (λ q i. h p q (inl refl) i)),
  joined_ascends ps qs a.1 b (λ r q i j. h r q (inr i) j),
)

pub from_ascends : (i : ℕ) (bs : List Body) → Ascends (pairs_from i bs)
from_ascends i [] = tt
from_ascends i (b ∷ bs) =
    joined_ascends (pairs_with i b i (b ∷ bs)) (pairs_from (suc i) bs) (with_ascends i b i (b ∷ bs)) (from_ascends (suc i) bs)
    (λ p q k l. let w = with_only i b i (b ∷ bs) p k in let v = from_only (suc i) bs q l in let e = w.one in let f = v.from in inl (omega arith))

-- whether two numbers are a listed pair

any_in : {X : Type 0} (t : X → Bool) (xs : List X) → list_any t xs ≡ true → (x : X) × (In x xs × (t x ≡ true))
any_in t [] h = absurd (cc)
any_in t (x ∷ xs) h = elim (or_cases (t x) (list_any t xs) h) as (λ _. (y : _) × (In y (x ∷ xs) × (t y ≡ true))) [
  | inl e ↦ (x, (inl refl, e))
  | inr k ↦ let r = any_in t xs k in (r.0, (inr r.1.0, r.1.1))
]

in_any : {X : Type 0} (t : X → Bool) (xs : List X) (x : X) → In x xs → t x ≡ true → list_any t xs ≡ true
in_any t [] x i e = absurd i
in_any t (y ∷ ys) x (inl k) e = ap (λ b. b || list_any t ys) (ap t k ∙ e)
in_any t (y ∷ ys) x (inr i) e = either (t y) (list_any t ys) (in_any t ys x i e)
  where
    either : (a b : Bool) → b ≡ true → (a || b) ≡ true
    either true b h = refl
    either false b h = h

pair_here : (i j : ℕ) (p : PiecePair) → p.one ≡ i → p.other ≡ j → is_pair i j p ≡ true
pair_here i j p e f = ap (λ t. t || (nat_eq p.other i && nat_eq p.one j)) (and_from _ _ (eq-eqb p.one i e) (eq-eqb p.other j f))

pair_there : (i j : ℕ) (p : PiecePair) → p.other ≡ i → p.one ≡ j → is_pair i j p ≡ true
pair_there i j p e f = either (nat_eq p.one i && nat_eq p.other j) _ (and_from _ _ (eq-eqb p.other i e) (eq-eqb p.one j f))
  where
    either : (a b : Bool) → b ≡ true → (a || b) ≡ true
    either true b h = refl
    either false b h = h

listed_adds : (bs : List Body) (i j : ℕ) (b c : Body) → i < length bs → j < length bs → get_or bs i b ≡ b → get_or bs j c ≡ c
    → is_listed (pairs_from 0 bs) i j ≡ bodies_add_to_one b c
listed_adds bs i j b c k l e f = same_answer (is_listed (pairs_from 0 bs) i j) (bodies_add_to_one b c) to from
  where
    at : (m n : ℕ) (d : Body) → m < length bs → get_or bs m d ≡ d → n ≡ m → (x : Body) → get_or bs (n - 0) x ≡ d
    at m n d a h g x = let same : n - 0 ≡ m = omega arith in ap (λ z. get_or bs z x) same ∙ any_default bs m x d a ∙ h
      where
        any_default : (ys : List Body) (m : ℕ) (x y : Body) → m < length ys → get_or ys m x ≡ get_or ys m y
        any_default [] m x y a = absurd (omega arith)
        any_default (z ∷ zs) zero x y a = refl
        any_default (z ∷ zs) (suc m) x y a = any_default zs m x y (omega arith)

    to : is_listed (pairs_from 0 bs) i j ≡ true → bodies_add_to_one b c ≡ true
    to h =
        let p = any_in (is_pair i j) (pairs_from 0 bs) h in
        let w = from_only 0 bs p.0 p.1.0 in
        elim (or_cases (nat_eq p.0.one i && nat_eq p.0.other j) (nat_eq p.0.other i && nat_eq p.0.one j) p.1.1) as (λ _. bodies_add_to_one b c ≡ true) [
          | inl t ↦
              let q = and_parts (nat_eq p.0.one i) (nat_eq p.0.other j) t in
              sym (ap₂ bodies_add_to_one (at i p.0.one b k e (eqb-true p.0.one i q.0) b) (at j p.0.other c l f (eqb-true p.0.other j q.1) b)) ∙ w.adds b
          | inr t ↦
              let q = and_parts (nat_eq p.0.other i) (nat_eq p.0.one j) t in
              adds_turned b c ∙ sym (ap₂ bodies_add_to_one (at j p.0.one c l f (eqb-true p.0.one j q.1) b) (at i p.0.other b k e (eqb-true p.0.other i q.0) b)) ∙ w.adds b
        ]

    from : bodies_add_to_one b c ≡ true → is_listed (pairs_from 0 bs) i j ≡ true
    from h = elim (cases_lt j i) as (λ _. is_listed (pairs_from 0 bs) i j ≡ true) [
      | inl less ↦
          in_any (is_pair i j) (pairs_from 0 bs) (record { one = j; other = i })
          (from_all 0 bs (record { one = j; other = i }) (record {
            from = omega arith;
            ordered = omega arith;
            below = omega arith;
            adds = λ d. ap₂ bodies_add_to_one (at j j c l f refl d) (at i i b k e refl d) ∙ adds_turned c b ∙ h;
          }))
          (pair_there i j (record { one = j; other = i }) refl refl)
      | inr more ↦
          in_any (is_pair i j) (pairs_from 0 bs) (record { one = i; other = j })
          (from_all 0 bs (record { one = i; other = j }) (record {
            from = omega arith;
            ordered = omega arith;
            below = omega arith;
            adds = λ d. ap₂ bodies_add_to_one (at i i b k e refl d) (at j j c l f refl d) ∙ h;
          }))
          (pair_here i j (record { one = i; other = j }) refl refl)
    ]

-- the elements of the pieces

module _ (ps : List Piece) (apart : AreApart ps) where
  abbrev bodies : List Body
  bodies = map (λ p. p.body) ps

  long : length bodies ≡ length ps
  long = length-map ps (λ p. p.body)

  body_at : (n : ℕ) (p : Piece) → n < length ps → get_or ps n p ≡ p → get_or bodies n p.body ≡ p.body
  body_at n p l e = get_or-map (λ p. p.body) ps n p p.body l ∙ ap (λ q. q.body) e

  -- the number and the piece of an element of the list
  record HasNumber (e : Element) : Type 0 where
    pub number : ℕ
    pub piece : Piece
    pub of : IsOf ps number piece e
    pub body : e.body ≡ piece.body

  number_of : (e : Element) → In e (listed ps) → HasNumber e
  number_of e i =
      let s : StandsFor ps e = in_listed ps e i in
      let n = nth_of ps s.piece s.piece s.is_piece in
      record {
        number = n.0;
        piece = s.piece;
        of = record { below = n.1.0; is = n.1.1; stands = stands_places ps e apart s };
        body = ap (λ z. z.body) (sym s.is);
      }

  pub are_free_pairs : AreFreePairs (listed ps) (pairs_from 0 bodies)
  are_free_pairs e f i j =
      let n = number_of e i in
      let m = number_of f j in
      listed_is ps apart (pairs_from 0 bodies) n.number m.number n.piece m.piece e f n.of m.of
      ∙ listed_adds bodies n.number m.number n.piece.body m.piece.body (let l = n.of.below in omega (arith, long)) (let l = m.of.below in omega (arith, long))
      (body_at n.number n.piece n.of.below n.of.is) (body_at m.number m.piece m.of.below m.of.is)
      ∙ sym (ap₂ bodies_add_to_one n.body m.body)

  -- an element of piece k has its body
  member_body : (k : ℕ) (d : Piece) (e : Element) → k < length ps → In e (members (listed ps) k) → e.body ≡ (get_or ps k d).body
  member_body k d e l i =
      let x = in_map (element_at (get_or ps k d)) (instances (get_or ps k d)) e (subst (In e) (members_are ps k d apart l) i) in
      ap (λ z. z.body) (sym x.1.1)

  -- and there is one
  some_member : (k : ℕ) (d : Piece) → k < length ps → (e : Element) × In e (members (listed ps) k)
  some_member k d l =
      let p = get_or ps k d in
      let x = some_in (instances p) (instance_in ps p apart (nth_in ps k d l)) in
      (element_at p x.0, subst (In (element_at p x.0)) (sym (members_are ps k d apart l)) (map_in (element_at p) (instances p) x.0 x.1))
    where
      some_in : {X : Type 0} (xs : List X) → (xs ≡ [] → ⊥) → (x : X) × In x xs
      some_in [] h = absurd (h refl)
      some_in (x ∷ xs) h = (x, inl refl)

  many : length (pieces (listed ps)) ≡ length ps
  many = how_many ps apart

  -- the body of piece k
  body_by : (k : ℕ) (q : Piece) (d : Body) → k < length ps → get_or bodies (k - 0) d ≡ (get_or ps k q).body
  body_by k q d l = let u : k - 0 ≡ k = omega arith in ap (λ n. get_or bodies n d) u ∙ get_or-map (λ p. p.body) ps k q d l

  some_piece : (qs : List Piece) → 0 < length qs → Piece
  some_piece [] l = absurd (omega arith)
  some_piece (q ∷ qs) l = q

  pub pairs_only : (p : PiecePair) → In p (pairs_from 0 bodies) → IsFreePair (listed ps) p
  pairs_only p h =
      let w = from_only 0 bodies p h in
      let o = w.ordered in
      let l = w.below in
      let n = long in
      let m = many in
      let below : p.other < length ps = omega arith in
      let q = some_piece ps (omega arith) in
      record {
        ordered = o;
        exists = omega arith;
        adds = λ e f i j.
            ap₂ bodies_add_to_one (member_body p.one q e (omega arith) i ∙ sym (body_by p.one q q.body (omega arith)))
            (member_body p.other q f below j ∙ sym (body_by p.other q q.body below))
            ∙ w.adds q.body;
      }

  pub pairs_all : (p : PiecePair) → IsFreePair (listed ps) p → In p (pairs_from 0 bodies)
  pairs_all p w =
      let o = w.ordered in
      let l = w.exists in
      let n = long in
      let m = many in
      let below : p.other < length ps = omega arith in
      let first : p.one < length ps = omega arith in
      let q = some_piece ps (omega arith) in
      let e = some_member p.one q first in
      let f = some_member p.other q below in
      from_all 0 bodies p (record {
        from = omega arith;
        ordered = o;
        below = omega arith;
        adds = λ d.
            ap₂ bodies_add_to_one (body_by p.one q d first ∙ sym (member_body p.one q e.0 first e.1)) (body_by p.other q d below ∙ sym (member_body p.other q f.0 below f.1))
            ∙ w.adds e.0 f.0 e.1 f.1;
      })

-- what free_pairs answers

module _ (list : List Element) (ps : List Piece) (apart : AreApart ps) (is : listed ps ≡ list) (pairs : List PiecePair) (all : pairs ≡ pairs_from 0 (map (λ p. p.body) ps)) where
  pub told_ascends : Ascends pairs
  told_ascends = subst Ascends (sym all) (from_ascends 0 (map (λ p. p.body) ps))

  pub told_exactly : (p : PiecePair) → In p pairs ↔ IsFreePair list p
  told_exactly p = (
    λ i. subst (λ z. IsFreePair z p) is (pairs_only ps apart p (subst (In p) all i)),
    λ w. subst (In p) (sym all) (pairs_all ps apart p (subst (λ z. IsFreePair z p) (sym is) w)),
  )

  pub told_free : AreFreePairs list pairs
  told_free = subst (λ z. AreFreePairs z pairs) is (subst (AreFreePairs (listed ps)) (sym all) (are_free_pairs ps apart))

-- the least reversed pair of the others

without : (t u : Bool) (o : Option Cell) → t ≡ u → (if t then None else o) ≡ (if u then None else o)
without t u o e = ap (λ b. if b then None else o) e

pub relaxed_is : (old new : List Element) (free : List PiecePair) → AreFreePairs old free → pair_of_elements (reversed_but old new free) ≡ pair_of (relaxed_reversed old new)
relaxed_is old new free h =
    by_steps old new free free_conflict (λ e f i j. without (are_free old free e f) (add_to_one (step e) (step f)) (conflict (step e) (step f)) (h e f i j))

-- one pair more

pair_joined : (t : Bool) (ps rest : List PiecePair) (p : PiecePair) → (ps ++ (if t then p ∷ [] else [])) ++ rest ≡ ps ++ (if t then p ∷ rest else rest)
pair_joined true ps rest p = append_assoc ps (p ∷ []) rest
pair_joined false ps rest p = ap (λ z. z ++ rest) (append-nil ps)

body_drop : (ps : List Piece) (j : ℕ) (d : Piece) → j < length ps → drop j (map (λ p. p.body) ps) ≡ (get_or ps j d).body ∷ drop (j + 1) (map (λ p. p.body) ps)
body_drop ps j d l =
    let bs : List Body = map (λ p. p.body) ps in
    drop-cons bs j d.body (let n = length-map ps (λ p. p.body) in omega arith)
    ∙ ap₂ (λ b k. b ∷ drop k bs) (get_or-map (λ p. p.body) ps j d d.body l) (sym (add-one j))

pub pair_more : (ps : List Piece) (p : Piece) (i j : ℕ) (d : Piece) (old now next : List PiecePair) → j < length ps
    → next ≡ now ++ (if bodies_add_to_one p.body (get_or ps j d).body then record { one = i; other = j } ∷ [] else [])
    → now ++ pairs_with i p.body j (drop j (map (λ p. p.body) ps)) ≡ old → next ++ pairs_with i p.body (j + 1) (drop (j + 1) (map (λ p. p.body) ps)) ≡ old
pair_more ps p i j d old now next l e h =
    let bs : List Body = map (λ p. p.body) ps in
    ap₂ (λ z k. z ++ pairs_with i p.body k (drop (j + 1) bs)) e (add-one j)
    ∙ pair_joined (bodies_add_to_one p.body (get_or ps j d).body) now (pairs_with i p.body (suc j) (drop (j + 1) bs)) (record { one = i; other = j })
    ∙ ap (λ cs. now ++ pairs_with i p.body j cs) (sym (body_drop ps j d l)) ∙ h

pub pairs_all_pushed : (ps : List Piece) (p : Piece) (i j : ℕ) (old now : List PiecePair) → length ps ≤ j → now ++ pairs_with i p.body j (drop j (map (λ p. p.body) ps)) ≡ old → now ≡ old
pairs_all_pushed ps p i j old now l h =
    let bs : List Body = map (λ p. p.body) ps in
    let none : drop j bs ≡ [] = drop_of_length-le bs (let n = length-map ps (λ p. p.body) in omega arith) in
    sym (append-nil now) ∙ ap (λ cs. now ++ pairs_with i p.body j cs) (sym none) ∙ h

-- the pairs of one piece more

pub piece_more : (ps : List Piece) (i : ℕ) (d : Piece) (now next : List PiecePair) → i < length ps
    → next ≡ now ++ pairs_with i (get_or ps i d).body i (drop i (map (λ p. p.body) ps))
    → now ++ pairs_from i (drop i (map (λ p. p.body) ps)) ≡ pairs_from 0 (map (λ p. p.body) ps) → next ++ pairs_from (i + 1) (drop (i + 1) (map (λ p. p.body) ps)) ≡ pairs_from 0 (map (λ p. p.body) ps)
piece_more ps i d now next l e h =
    let bs : List Body = map (λ p. p.body) ps in
    let b : Body = (get_or ps i d).body in
    ap₂ (λ z k. z ++ pairs_from k (drop (i + 1) bs)) e (add-one i)
    ∙ append_assoc now (pairs_with i b i (drop i bs)) (pairs_from (suc i) (drop (i + 1) bs))
    ∙ ap (λ cs. now ++ (pairs_with i b i cs ++ pairs_from (suc i) (drop (i + 1) bs))) (body_drop ps i d l)
    ∙ ap (λ cs. now ++ pairs_from i cs) (sym (body_drop ps i d l)) ∙ h

pub pieces_all : (ps : List Piece) (i : ℕ) (now : List PiecePair) → length ps ≤ i → now ++ pairs_from i (drop i (map (λ p. p.body) ps)) ≡ pairs_from 0 (map (λ p. p.body) ps)
    → now ≡ pairs_from 0 (map (λ p. p.body) ps)
pieces_all ps i now l h =
    let bs : List Body = map (λ p. p.body) ps in
    let none : drop i bs ≡ [] = drop_of_length-le bs (let n = length-map ps (λ p. p.body) in omega arith) in
    sym (append-nil now) ∙ ap (λ cs. now ++ pairs_from i cs) (sym none) ∙ h
