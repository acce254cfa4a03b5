-- Two lists of places that are apart have a first place at which they differ; what keeps it keeps their order, and keeps them apart.
use Rattle.std.proofs.Common.{◌≡◌, refl, sym, ap, ap₂, ◌∙◌, subst, ℤ, ◌<ℤ◌, true, not, ◌&&◌, ◌||◌, List, [], ◌∷◌, ◌++◌, length, take}
use Rattle.std.specs.Ordering.{int_cmp, is_eq, ordering_reverse, ordering_then, MatchOrdering}
use Rattle.std.specs.declared.cmp.Ordering.{Ordering}
use Rattle.std.specs.declared.cmp.Ordering.TheVariants.{Less, Equal, Greater}
use Rattle.std.specs.Cmp.{IsTotalOrder, int_cmp_total, int_ranked, tied_itself}
use Rattle.std.specs.Cmp.Lexicographic.{slice_cmp, lists_total}
use Rattle.std.specs.FinMap.{slice_cmp-IsAntisymmetric, int_cmp-IsAntisymmetric}
use Rattle.ch_space.specs.declared.piece.Piece.{Piece}
use Rattle.ch_space.specs.Keeps.{AreApart, places_of}
use Rattle.ch_space.specs.Pieces.{listed}
use Rattle.ch_space.proofs.PieceElements.{cons_comes, less_comes}
use Rattle.ch_moved.proofs.Replaced.{places_apart, same_apart, turned}
use Rattle.ch_timed.specs.Members.{In}
use Rattle.ch_timed.specs.Timed.{is_well_formed}
use Rattle.ch_timed.specs.Vectors.{same_numbers}
use Rattle.ch_timed.proofs.Blocks.{int_less}
use Rattle.ch_timed.proofs.Prefixes.{apart}

order : IsTotalOrder (slice_cmp int_cmp)
order = lists_total int_cmp_total

-- the lists are the same up to a place at which the first one has the lesser number
pub record Parts (a b : List ℤ) : Type 0 where
  pub front : List ℤ
  pub x : ℤ
  pub y : ℤ
  pub rest : List ℤ
  pub others : List ℤ
  pub is_a : a ≡ front ++ x ∷ rest
  pub is_b : b ≡ front ++ y ∷ others
  pub less : x <ℤ y

same_step : (p : ℤ) (ps qs : List ℤ) → same_numbers (p ∷ ps) (p ∷ qs) ≡ same_numbers ps qs
same_step p ps qs = ap (λ o. is_eq (ordering_then o (slice_cmp int_cmp ps qs))) (tied_itself int_cmp_total p)

apart_step : (p : ℤ) (ps qs : List ℤ) → apart (p ∷ ps) (p ∷ qs) ≡ apart ps qs
apart_step p ps qs =
    let a = same_step p ps qs in
    let b = same_step p ps (take (length ps) qs) in
    let c = same_step p qs (take (length qs) ps) in
    ap₂ (λ s t. s || t) a (ap₂ (λ s t. not s && not t) b c)

apart_at : (a b : ℤ) (ps qs : List ℤ) → a <ℤ b → apart (a ∷ ps) (b ∷ qs) ≡ true
apart_at a b ps qs l =
    let less : int_cmp a b ≡ Less = int_less a b l in
    let more : int_cmp b a ≡ Greater = int_cmp_total.antisymm b a ∙ ap ordering_reverse less in
    rw (less, more) refl

front_less : (front rest others : List ℤ) (x y : ℤ) → x <ℤ y → slice_cmp int_cmp (front ++ x ∷ rest) (front ++ y ∷ others) ≡ Less
front_less [] rest others x y l = less_comes x y rest others l
front_less (p ∷ front) rest others x y l = cons_comes p (front ++ x ∷ rest) (front ++ y ∷ others) (front_less front rest others x y l)

front_apart : (front rest others : List ℤ) (x y : ℤ) → x <ℤ y → apart (front ++ x ∷ rest) (front ++ y ∷ others) ≡ true
front_apart [] rest others x y l = apart_at x y rest others l
front_apart (p ∷ front) rest others x y l = apart_step p (front ++ x ∷ rest) (front ++ y ∷ others) ∙ front_apart front rest others x y l

pub parts_less : (a b : List ℤ) → Parts a b → slice_cmp int_cmp a b ≡ Less
parts_less a b p = ap₂ (slice_cmp int_cmp) p.is_a p.is_b ∙ front_less p.front p.rest p.others p.x p.y p.less

pub parts_apart : (a b : List ℤ) → Parts a b → apart a b ≡ true
parts_apart a b p = ap₂ apart p.is_a p.is_b ∙ front_apart p.front p.rest p.others p.x p.y p.less

pub less_parts : (a b : List ℤ) → slice_cmp int_cmp a b ≡ Less → apart a b ≡ true → Parts a b
less_parts [] [] h f = absurd cc
less_parts [] (y ∷ ys) h f = absurd cc
less_parts (x ∷ xs) [] h f = absurd cc
less_parts (x ∷ xs) (y ∷ ys) h f = by (int_cmp x y) refl (int_ranked x y (int_cmp x y) refl) (λ e. less_parts xs ys (rest_less e) (rest_apart e))
  where
    rest_less : x ≡ y → slice_cmp int_cmp xs ys ≡ Less
    rest_less e = sym (ap (λ o. ordering_then o (slice_cmp int_cmp xs ys)) (subst (λ z. int_cmp x z ≡ Equal) e (tied_itself int_cmp_total x))) ∙ h

    rest_apart : x ≡ y → apart xs ys ≡ true
    rest_apart e = sym (apart_step x xs ys) ∙ subst (λ z. apart (x ∷ xs) (z ∷ ys) ≡ true) (sym e) f

    by : (o : Ordering) → int_cmp x y ≡ o → MatchOrdering o (x <ℤ y) (x ≡ y) (y <ℤ x) → (x ≡ y → Parts xs ys) → Parts (x ∷ xs) (y ∷ ys)
    by Less k l more = record { front = []; x = x; y = y; rest = xs; others = ys; is_a = refl; is_b = refl; less = l }
    by Equal k e more =
        let p = more e in
        record { front = x ∷ p.front; x = p.x; y = p.y; rest = p.rest; others = p.others; is_a = ap (λ t. x ∷ t) p.is_a; is_b = ap₂ (λ z t. z ∷ t) (sym e) p.is_b; less = p.less }
    by Greater k l more = absurd (greater (ap (λ o. ordering_then o (slice_cmp int_cmp xs ys)) k ∙ refl) h)
      where
        greater : slice_cmp int_cmp (x ∷ xs) (y ∷ ys) ≡ Greater → slice_cmp int_cmp (x ∷ xs) (y ∷ ys) ≡ Less → ⊥
        greater g l = cc

-- what keeps where places part

abbrev pub KeepsParts : (List ℤ → List ℤ) → List Piece → Type 0
KeepsParts placed ps = (p q : Piece) → In p ps → In q ps → Parts (places_of p) (places_of q) → Parts (placed (places_of p)) (placed (places_of q))

module _ (placed : List ℤ → List ℤ) (ps : List Piece) (a : AreApart ps) (fine : is_well_formed (listed ps) ≡ true) (keeps : KeepsParts placed ps) where
  kept : (p q : Piece) → In p ps → In q ps → slice_cmp int_cmp (places_of p) (places_of q) ≡ Less → Parts (placed (places_of p)) (placed (places_of q))
  kept p q i j l = keeps p q i j (less_parts (places_of p) (places_of q) l (places_apart ps a fine p q i j))

  pub keeps_order : (p q : Piece) → In p ps → In q ps → slice_cmp int_cmp (places_of p) (places_of q) ≡ Less
      → slice_cmp int_cmp (placed (places_of p)) (placed (places_of q)) ≡ Less
  keeps_order p q i j l = parts_less _ _ (kept p q i j l)

  pub keeps_apart : (p q : Piece) → In p ps → In q ps → apart (placed (places_of p)) (placed (places_of q)) ≡ true
  keeps_apart p q i j = by (slice_cmp int_cmp (places_of p) (places_of q)) refl
    where
      by : (o : Ordering) → slice_cmp int_cmp (places_of p) (places_of q) ≡ o → apart (placed (places_of p)) (placed (places_of q)) ≡ true
      by Less k = parts_apart _ _ (kept p q i j k)
      by Equal k =
          let e = slice_cmp-IsAntisymmetric int_cmp-IsAntisymmetric (places_of p) (places_of q) k in
          subst (λ z. apart (placed (places_of p)) (placed z) ≡ true) e (same_apart (placed (places_of p)))
      by Greater k = turned (placed (places_of q)) (placed (places_of p)) (parts_apart _ _ (kept q p j i (order.antisymm (places_of q) (places_of p) ∙ ap ordering_reverse k)))
