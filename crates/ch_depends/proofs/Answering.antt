-- What the functions that read spaces want.
use Rattle.std.proofs.Common.{◌≡◌, sym, ap, ◌∙◌, subst, ℕ, ◌+◌, ◌<◌, ◌≤◌, true, Option, Some, None, List, [], ◌∷◌, ◌++◌, map, min, slice_get, Result, Ok, Err, IfOk, OnOk, arith}
use Rattle.std.specs.declared.alloc.AllocError.{AllocError}
use Rattle.std.specs.List.{All}
use Rattle.ch_depends.specs.declared.answers.Level.{Level}
use Rattle.ch_depends.specs.declared.answers.Pair.{Pair}
use Rattle.ch_depends.specs.declared.candidates.Candidate.{Candidate}
use Rattle.ch_depends.specs.declared.sides.Side.{Side}
use Rattle.ch_depends.specs.Depends.{IsDependence, pair_of}
use Rattle.ch_depends.specs.Sought.{IsBest, IsMet, IsPaired, IsSide, Lists, MetBefore, Meets, Reversed, SomeOf, level_at}
use Rattle.ch_depends.proofs.Dependences.{dependence, few_levels, in_sides, met}
use Rattle.ch_depends.proofs.Listing.{met_push, met_skip}
use Rattle.ch_order.specs.Legal.{AreAmong}
use Rattle.ch_space.specs.declared.piece.Piece.{Piece}
use Rattle.ch_space.specs.Keeps.{AreApart}
use Rattle.ch_space.specs.Pieces.{listed}
use Rattle.ch_space.proofs.EndsOf.{at_all}
use Rattle.ch_timed.specs.Conflict.{conflict, reversed}
use Rattle.ch_timed.specs.declared.element.Element.{Element}
use Rattle.ch_timed.specs.Members.{In}
use Rattle.ch_timed.specs.Order.{overtaken}
use Rattle.ch_timed.specs.Timed.{identities_differ, step}

-- one triple

module _ (sides : List Side) (i j k : ℕ) (levels : List Level) (s u : Side) (is : slice_get sides i ≡ Some s) (iu : slice_get sides j ≡ Some u) (h : Lists (MetBefore sides i j k) levels) where
  pub pushes : (new : List Level) (r : Result (Unit {0}) AllocError) → Meets s.piece.now u.piece.now k → OnOk r (new ≡ levels ++ level_at i j k ∷ []) → OnOk r (Lists (MetBefore sides i j (k + 1)) new)
  pushes new (Ok x) m e = subst (Lists (MetBefore sides i j (k + 1))) (sym e) (met_push sides i j k levels h (record { from = s; to = u; is_from = is; is_to = iu; meets = m }))
  pushes new (Err x) m e = tt

  pub skips : (Meets s.piece.now u.piece.now k → ⊥) → Lists (MetBefore sides i j (k + 1)) levels
  skips n =
      met_skip sides i j k levels h
      (λ m.
      let a : s ≡ m.from = same (sym is ∙ m.is_from) in
      let b : u ≡ m.to = same (sym iu ∙ m.is_to) in
      n (subst (λ z. Meets z.piece.now u.piece.now k) (sym a) (subst (λ z. Meets m.from.piece.now z.piece.now k) (sym b) m.meets)))
    where
      same : {x y : Side} → Some x ≡ Some y → x ≡ y
      same e = cc

side_in : (sides : List Side) (k : ℕ) (s : Side) → slice_get sides k ≡ Some s → In s sides
side_in sides k s e = in_sides sides k s e

-- no triple of two pieces has more levels than both have

pub few_between : (sides : List Side) (i j n : ℕ) (s u : Side) → All IsSide sides → slice_get sides i ≡ Some s → slice_get sides j ≡ Some u → min s.piece.now.levels u.piece.now.levels + 1 ≤ n
    → (t : Level) → IsMet sides t → t.from ≡ i → t.to ≡ j → t.level < n
few_between sides i j n s u all is iu l t m a b =
    let p : s ≡ m.from = same (sym is ∙ ap (slice_get sides) (sym a) ∙ m.is_from) in
    let q : u ≡ m.to = same (sym iu ∙ ap (slice_get sides) (sym b) ∙ m.is_to) in
    let ws = (at_all IsSide sides s all (side_in sides i s is)).plain.whole in
    let wu = (at_all IsSide sides u all (side_in sides j u iu)).plain.whole in
    let f = few_levels s.piece.now u.piece.now t.level ws wu (subst (λ z. Meets z.piece.now u.piece.now t.level) (sym p) (subst (λ z. Meets m.from.piece.now z.piece.now t.level) (sym q) m.meets)) in
    omega arith
  where
    same : {x y : Side} → Some x ≡ Some y → x ≡ y
    same e = cc

-- the triples are the dependences

pub exactly : (list : List Element) (ps all : List Piece) (sides items : List Side) (r : Result (List Level) AllocError) → AreApart ps → listed ps ≡ list → all ≡ ps → map (λ s. s.piece.now) sides ≡ all → items ≡ sides
    → IfOk r (Lists (IsMet items)) → IfOk r (λ levels. (t : Level) → (In t levels → IsDependence list t) × (IsDependence list t → In t levels))
exactly list ps all sides items (Ok levels) apart e f g i h = λ t.
    let pieces : map (λ s. s.piece.now) items ≡ ps = ap (map (λ s. s.piece.now)) i ∙ g ∙ f in (
      λ m. subst (λ z. IsDependence z t) e (dependence ps apart items pieces t (h.only t m)),
      λ d. h.all t (met ps apart items pieces t (subst (λ z. IsDependence z t) (sym e) d)),
    )
exactly list ps all sides items (Err x) apart e f g i h = tt
