-- The least value of a level, by the points of pieces and by the elements of the list.
use Rattle.std.proofs.Common.{◌≡◌, ◌≢◌, refl, sym, ap, ◌∙◌, subst, ℕ, zero, suc, ◌+◌, ◌-◌, ◌*◌, ◌<◌, ◌≤◌, ◌^◌, ◌⊎◌, inl, inr, ℤ, pos, negsuc, neg_ℤ, ◌+ℤ◌, ◌-ℤ◌, ◌*ℤ◌, ◌≤ℤ◌, ◌<ℤ◌, int_le, int_lt, unsigned_abs, Bool, true, false, if◌then◌else◌, Some, None, List, [], ◌∷◌, ◌++◌, length, map, take, get_or, arith, append_assoc, length-append}
use Rattle.std.specs.List.{All, filter, fold}
use Rattle.std.specs.Int.{int_max, int_min}
use Rattle.std.proofs.lemmas.Int.{ints, fold-int_max_bounds, fold-int_min_bounds, unsigned_abs-mul}
use Rattle.std.proofs.lemmas.List.Elements.{All-append, All-cons, All-nil}
use Rattle.std.proofs.lemmas.Bool.{and_from, and_parts, lt-ltb, ltb-true}
use Rattle.std.proofs.lemmas.Nat.{mul-le}
use Rattle.ch_affine.specs.Affine.{IsAtMost, IsSmall, dot, form, value}
use Rattle.ch_affine.specs.Form.{Form}
use Rattle.ch_affine.specs.Rows.{IsSystem, all_hold}
use Rattle.ch_poly.specs.Points.{box_points, least_of as least_point_value, points}
use Rattle.ch_cut.specs.Cut.{greatest_of, least_of, level_values, peels}
use Rattle.ch_cut.specs.Forms.{at_most}
use Rattle.ch_cut.specs.Ends.{IsBelow, IsBelowAll, IsLeastIn, IsLeastOf, IsLesser, IsReached}
use Rattle.ch_cut.specs.Forms.{holds_at}
use Rattle.ch_moved.specs.Arguments.{at_level, natural}
use Rattle.ch_moved.proofs.Values.{length_zeros}
use Rattle.ch_space.specs.Built.{zeros}
use Rattle.ch_space.proofs.Rowed.{dot_zeros}
use Rattle.ch_space.specs.declared.piece.Piece.{Piece}
use Rattle.ch_space.specs.Keeps.{AreApart, IsWhole, places_of}
use Rattle.ch_space.specs.Pieces.{element_at, instances, listed}
use Rattle.ch_space.proofs.EndsOf.{at_all, instance_small}
use Rattle.ch_space.proofs.Membership.{begins_take, filter_in, in_append, in_box_points, in_filter, in_instances, inside_take, instances_in, take_begins}
use Rattle.ch_space.proofs.PieceElements.{element_places, element_values, length_pos, levels_of, whole_in}
use Rattle.ch_space.proofs.PieceNumbers.{in_listed, lists_same, listed_in, some_in, stands_places}
use Rattle.ch_timed.specs.declared.element.Element.{Element}
use Rattle.ch_timed.specs.Groups.{in_group, piece}
use Rattle.ch_timed.specs.Members.{In}
use Rattle.ch_timed.specs.Vectors.{places, shares, values}
use Rattle.ch_timed.proofs.Orders.{in_map, map_in}

-- the value of a multiple of one variable
dot_multiple : (before after : ℕ) (c : ℤ) (xs : List ℤ) → dot (zeros before ++ c ∷ zeros after) xs ≡ c *ℤ get_or xs before (pos 0)
dot_multiple zero after c [] = sym (times_nothing c)
  where
    times_nothing : (c : ℤ) → c *ℤ pos 0 ≡ pos 0
    times_nothing c = omega (arith, ints)
dot_multiple zero after c (x ∷ xs) = omega (arith, ints, dot_zeros after xs)
dot_multiple (suc before) after c [] = sym (times_nothing c)
  where
    times_nothing : (c : ℤ) → c *ℤ pos 0 ≡ pos 0
    times_nothing c = omega (arith, ints)
dot_multiple (suc before) after c (x ∷ xs) = omega (arith, ints, dot_multiple before after c xs)

-- the least of a list

pub record IsLeast (xs : List ℤ) (v : ℤ) : Type 0 where
  pub there : In v xs
  pub below : (x : ℤ) → In x xs → v ≤ℤ x

one_of : (b : Bool) (x z : ℤ) → (z ≡ (if b then x else z)) ⊎ (x ≡ (if b then x else z))
one_of true x z = inr refl
one_of false x z = inl refl

fold_in : (z : ℤ) (zs : List ℤ) → In (fold int_min z zs) (z ∷ zs)
fold_in z [] = inl refl
fold_in z (x ∷ xs) = elim (fold_in (int_min z x) xs) as (λ _. In (fold int_min (int_min z x) xs) (z ∷ x ∷ xs)) [
  | inl k ↦ elim (one_of (int_lt x z) x z) as (λ _. In (fold int_min (int_min z x) xs) (z ∷ x ∷ xs)) [
    | inl m ↦ inl (m ∙ k)
    | inr m ↦ inr (inl (m ∙ k))
  ]
  | inr k ↦ inr (inr k)
]

fold_in_greatest : (z : ℤ) (zs : List ℤ) → In (fold int_max z zs) (z ∷ zs)
fold_in_greatest z [] = inl refl
fold_in_greatest z (x ∷ xs) = elim (fold_in_greatest (int_max z x) xs) as (λ _. In (fold int_max (int_max z x) xs) (z ∷ x ∷ xs)) [
  | inl k ↦ elim (one_of (int_lt x z) z x) as (λ _. In (fold int_max (int_max z x) xs) (z ∷ x ∷ xs)) [
    | inl m ↦ inr (inl (m ∙ k))
    | inr m ↦ inl (m ∙ k)
  ]
  | inr k ↦ inr (inr k)
]

fold_below : (z : ℤ) (zs : List ℤ) (y : ℤ) → In y (z ∷ zs) → fold int_min z zs ≤ℤ y
fold_below z zs y i =
    let b = fold-int_min_bounds z zs (fold int_min z zs) refl in
    elim i as (λ _. fold int_min z zs ≤ℤ y) [ inl e ↦ subst (λ w. fold int_min z zs ≤ℤ w) e b.0 | inr j ↦ at_all (λ w. fold int_min z zs ≤ℤ w) zs y b.1 j ]

fold_above : (z : ℤ) (zs : List ℤ) (y : ℤ) → In y (z ∷ zs) → y ≤ℤ fold int_max z zs
fold_above z zs y i =
    let b = fold-int_max_bounds z zs (fold int_max z zs) refl in
    elim i as (λ _. y ≤ℤ fold int_max z zs) [ inl e ↦ subst (λ w. w ≤ℤ fold int_max z zs) e b.0 | inr j ↦ at_all (λ w. w ≤ℤ fold int_max z zs) zs y b.1 j ]

both_least : (a b : ℤ) → a ≤ℤ b → b ≤ℤ a → a ≡ b
both_least a b h k = omega (arith, ints)

pub least_is : (xs : List ℤ) (v : ℤ) → In v xs → ((x : ℤ) → In x xs → v ≤ℤ x) → least_of xs ≡ v
least_is [] v i h = absurd i
least_is (z ∷ zs) v i h = both_least (fold int_min z zs) v (fold_below z zs v i) (h (fold int_min z zs) (fold_in z zs))

pub greatest_is : (xs : List ℤ) (v : ℤ) → In v xs → ((x : ℤ) → In x xs → x ≤ℤ v) → greatest_of xs ≡ v
greatest_is [] v i h = absurd i
greatest_is (z ∷ zs) v i h = both_least (fold int_max z zs) v (h (fold int_max z zs) (fold_in_greatest z zs)) (fold_above z zs v i)

-- what the solver answers
some_least : (zs : List ℤ) (v : ℤ) → Some v ≡ least_point_value zs → IsLeast zs v
some_least [] v e = absurd cc
some_least (z ∷ zs) v e =
    let f : fold int_min z zs ≡ v = same (fold int_min z zs) v e in
    record { there = subst (λ w. In w (z ∷ zs)) f (fold_in z zs); below = λ x i. subst (λ w. w ≤ℤ x) f (fold_below z zs x i) }
  where
    same : (a b : ℤ) → Some b ≡ Some a → a ≡ b
    same a b e = cc

none_there : (zs : List ℤ) (x : ℤ) → None ≡ least_point_value zs → In x zs → ⊥
none_there [] x e i = i
none_there (z ∷ zs) x e i = cc

-- The points of a piece and its instances.

take_at : (n k : ℕ) (xs : List ℤ) → k < n → get_or (take n xs) k (pos 0) ≡ get_or xs k (pos 0)
take_at zero k xs h = absurd (omega arith)
take_at (suc n) k [] h = refl
take_at (suc n) zero (x ∷ xs) h = refl
take_at (suc n) (suc k) (x ∷ xs) h = take_at n k xs (omega arith)

pub multiple_small : (before after : ℕ) (factor : ℤ) → before + after < 4096 → IsAtMost 1 factor → IsSmall (form (zeros before ++ factor ∷ zeros after) (pos 0))
multiple_small before after factor few near = record {
  few = let a = length-append (zeros before) (factor ∷ zeros after) in let b = length_zeros before in let c = length_zeros after in omega arith;
  coefs = All-append (IsAtMost (2 ^ 60)) (zeros before) (factor ∷ zeros after) (small_zeros before) (All-cons (IsAtMost (2 ^ 60)) factor (zeros after) (omega arith) (small_zeros after));
  constant = omega arith;
}
  where
    small_zeros : (n : ℕ) → All (IsAtMost (2 ^ 60)) (zeros n)
    small_zeros zero = All-nil (IsAtMost (2 ^ 60))
    small_zeros (suc n) = All-cons (IsAtMost (2 ^ 60)) (pos 0) (zeros n) (omega arith) (small_zeros n)

pub multiple_is : (before after : ℕ) (factor : ℤ) (front pushed made : List ℤ) → front ≡ zeros before → pushed ≡ front ++ factor ∷ [] → made ≡ pushed ++ zeros after → made ≡ zeros before ++ factor ∷ zeros after
multiple_is before after factor front pushed made e p m = m ∙ ap (λ z. z ++ zeros after) (p ∙ ap (λ z. z ++ factor ∷ []) e) ∙ append_assoc (zeros before) (factor ∷ []) (zeros after)

pub multiple_is_small : (before after : ℕ) (factor : ℤ) (front pushed made : List ℤ) → before + after < 4096 → IsAtMost 1 factor → front ≡ zeros before → pushed ≡ front ++ factor ∷ []
    → made ≡ pushed ++ zeros after → IsSmall (record { coefs = made; constant = pos 0 })
multiple_is_small before after factor front pushed made few near e p m =
    subst (λ z. IsSmall (record { coefs = z; constant = pos 0 })) (sym (multiple_is before after factor front pushed made e p m)) (multiple_small before after factor few near)

module _ (p : Piece) (level : ℕ) (factor : ℤ) (w : IsWhole p) (some : 1 ≤ level) (deep : level ≤ p.levels) where
  abbrev pub multiple : Form
  multiple = form (zeros (level - 1) ++ factor ∷ zeros (p.system.vars - level)) (pos 0)

  value_at : (xs : List ℤ) → value multiple xs ≡ factor *ℤ at_level level xs
  value_at xs = nothing_more _ ∙ dot_multiple (level - 1) (p.system.vars - level) factor xs
    where
      nothing_more : (z : ℤ) → pos 0 +ℤ z ≡ z
      nothing_more z = omega (arith, ints)

  front_instance : (ys : List ℤ) → In ys (points p.system) → In (take p.levels ys) (instances p)
  front_instance ys i = instances_in p (take p.levels ys) (record {
    inside = inside_take p.levels p.system.boxes ys (in_box_points p.system.boxes ys (in_filter (all_hold p.system.rows) (box_points p.system.boxes) ys i).0);
    point = ys;
    is_point = i;
    front = take_begins p.levels ys;
  })

  front_value : (ys : List ℤ) → at_level level (take p.levels ys) ≡ at_level level ys
  front_value ys = take_at p.levels (level - 1) ys (omega arith)

  point_value : (xs : List ℤ) → In xs (instances p) → In (factor *ℤ at_level level xs) (map (value multiple) (points p.system))
  point_value xs i =
      let s = in_instances p xs i in
      let same : at_level level xs ≡ at_level level s.point =
      ap (at_level level) (sym (begins_take xs s.point s.front)) ∙ ap (λ n. at_level level (take n s.point)) (levels_of p xs w i) ∙ front_value s.point in
      subst (λ z. In z (map (value multiple) (points p.system))) (value_at s.point ∙ ap (λ z. factor *ℤ z) (sym same)) (map_in (value multiple) (points p.system) s.point s.is_point)

  pub least_there : (v : ℤ) → Some v ≡ least_point_value (map (value multiple) (points p.system)) → IsLeastIn p level factor v
  least_there v e =
      let l = some_least (map (value multiple) (points p.system)) v e in
      let y = in_map (value multiple) (points p.system) v l.there in
      record {
        has = record { instance = take p.levels y.0; is_instance = front_instance y.0 y.1.0; is = ap (λ z. factor *ℤ z) (front_value y.0) ∙ sym (value_at y.0) ∙ y.1.1 };
        below = λ xs i. l.below (factor *ℤ at_level level xs) (point_value xs i);
      }

  pub least_some : instances p ≢ [] → None ≡ least_point_value (map (value multiple) (points p.system)) → ⊥
  least_some there e =
      let x = some_in (instances p) there in
      none_there (map (value multiple) (points p.system)) (factor *ℤ at_level level x.0) e (point_value x.0 x.1)

  pub multiple_long : (f : Form) → f ≡ multiple → length f.coefs ≡ p.system.vars
  multiple_long f e =
      let a = length-append (zeros (level - 1)) (factor ∷ zeros (p.system.vars - level)) in
      let b = length_zeros (level - 1) in
      let c = length_zeros (p.system.vars - level) in
      let v = w.variables in
      ap (λ z. length z.coefs) e ∙ omega arith

  pub least_by : (f : Form) (v : ℤ) → f ≡ multiple → Some v ≡ least_point_value (map (value f) (points p.system)) → IsLeastIn p level factor v
  least_by f v e h = least_there v (h ∙ ap (λ z. least_point_value (map (value z) (points p.system))) e)

  pub none_by : (f : Form) → f ≡ multiple → instances p ≢ [] → None ≡ least_point_value (map (value f) (points p.system)) → ⊥
  none_by f e there h = least_some there (h ∙ ap (λ z. least_point_value (map (value z) (points p.system))) e)

  pub least_near : (v : ℤ) → IsSystem p.system → IsAtMost 1 factor → IsLeastIn p level factor v → IsAtMost (2 ^ 54) v
  least_near v s f l =
      let xs = l.has.instance in
      let small = instance_small p xs s l.has.is_instance in
      let near : unsigned_abs (at_level level xs) ≤ 2 ^ 54 = small (level - 1) (pos 0) (let e = levels_of p xs w l.has.is_instance in omega arith) in
      let e = unsigned_abs-mul factor (at_level level xs) in
      let m : unsigned_abs factor * unsigned_abs (at_level level xs) ≤ 1 * 2 ^ 54 = mul-le (unsigned_abs factor) (unsigned_abs (at_level level xs)) 1 (2 ^ 54) f near in
      subst (IsAtMost (2 ^ 54)) l.has.is (omega arith)

-- One more piece.

pub level_deep : (p : Piece) (ours : List ℤ) (level : ℕ) → IsWhole p → shares level ours (places_of p) ≡ true → level ≤ p.levels
level_deep p ours level w h = let l = ltb-true level (length (places_of p)) (and_parts _ _ (and_parts _ _ h).0).1 in let m = length_pos p.places in let e = w.places in omega arith

pub shares_itself : (p : Piece) (level : ℕ) → IsWhole p → level ≤ p.levels → shares level (places_of p) (places_of p) ≡ true
shares_itself p level w h =
    let m = length_pos p.places in
    let e = w.places in
    let l : level < length (places_of p) = omega arith in
    and_from _ _ (and_from _ _ (lt-ltb level (length (places_of p)) l) (lt-ltb level (length (places_of p)) l)) (lists_same (take level (places_of p)) (take level (places_of p)) refl)

pub first_reached : (ps : List Piece) (p : Piece) (level : ℕ) (factor v : ℤ) → IsWhole p → level ≤ p.levels → In p ps → IsLeastIn p level factor v → IsReached ps (places_of p) level factor v
first_reached ps p level factor v w h i l = record { piece = p; is_piece = i; shared = shares_itself p level w h; has = l.has }

pub same_lesser : (ours : List ℤ) (p : Piece) (level : ℕ) (factor least v : ℤ) → v ≡ least → (shares level ours (places_of p) ≡ true → IsBelow p level factor least) → IsLesser ours p level factor least v
same_lesser ours p level factor least v e h = record { most = omega (arith, ints); below = λ s. subst (IsBelow p level factor) (sym e) (h s); from = inl e }

pub new_lesser : (ours : List ℤ) (p : Piece) (level : ℕ) (factor least v : ℤ) → v <ℤ least → shares level ours (places_of p) ≡ true → IsLeastIn p level factor v → IsLesser ours p level factor least v
new_lesser ours p level factor least v h s l = record { most = omega (arith, ints); below = λ t. l.below; from = inr (s, l.has) }

pub no_less : (p : Piece) (level : ℕ) (factor v w : ℤ) → w ≤ℤ v → IsBelow p level factor v → IsBelow p level factor w
no_less p level factor v w h b xs i = let k = b xs i in omega (arith, ints)

pub reached_more : (ps : List Piece) (p : Piece) (ours : List ℤ) (level : ℕ) (factor least v : ℤ) → In p ps → IsLesser ours p level factor least v → IsReached ps ours level factor least
    → IsReached ps ours level factor v
reached_more ps p ours level factor least v i l r = elim l.from as (λ _. IsReached ps ours level factor v) [
  | inl e ↦ subst (IsReached ps ours level factor) (sym e) r
  | inr h ↦ record { piece = p; is_piece = i; shared = h.0; has = h.1 }
]

pub below_more : (ps : List Piece) (p : Piece) (ours : List ℤ) (level : ℕ) (factor least v : ℤ) → IsLesser ours p level factor least v → IsBelowAll ps ours level factor least
    → IsBelowAll (ps ++ p ∷ []) ours level factor v
below_more ps p ours level factor least v l all q i s = elim (in_append ps (p ∷ []) q i) as (λ _. IsBelow q level factor v) [
  | inl j ↦ no_less q level factor least v l.most (all q j s)
  | inr j ↦ elim j as (λ _. IsBelow q level factor v) [
    | inl e ↦ subst (λ z. IsBelow z level factor v) e (l.below (subst (λ z. shares level ours (places_of z) ≡ true) (sym e) s))
    | inr k ↦ absurd k
  ]
]

-- The elements of the list.

module _ (ps : List Piece) (a : AreApart ps) (s level : ℤ) where
  abbrev ours_of : List ℤ
  ours_of = piece (listed ps) (natural s)

  abbrev test_of : Element → Bool
  test_of e = in_group (listed ps) (natural s) (natural level) (places e.vector)

  value_in : (p : Piece) (xs : List ℤ) → In p ps → In xs (instances p) → shares (natural level) ours_of (places_of p) ≡ true → In (at_level (natural level) xs) (level_values (listed ps) s level)
  value_in p xs i j h =
      let w = whole_in ps p a i in
      let e = element_at p xs in
      let there = listed_in ps p e i (map_in (element_at p) (instances p) xs j) in
      let shared : test_of e ≡ true = ap (shares (natural level) ours_of) (element_places p xs w j) ∙ h in
      subst (λ z. In z (level_values (listed ps) s level)) (ap (at_level (natural level)) (element_values p xs w j))
      (map_in (λ e. at_level (natural level) (values e.vector)) (filter test_of (listed ps)) e (filter_in test_of (listed ps) e there shared))

  -- a value comes from an instance of some piece
  record Comes (x : ℤ) : Type 0 where
    piece : Piece
    is_piece : In piece ps
    shared : shares (natural level) ours_of (places_of piece) ≡ true
    instance : List ℤ
    is_instance : In instance (instances piece)
    is : at_level (natural level) instance ≡ x

  comes : (x : ℤ) → In x (level_values (listed ps) s level) → Comes x
  comes x i =
      let e = in_map (λ e. at_level (natural level) (values e.vector)) (filter test_of (listed ps)) x i in
      let f = in_filter test_of (listed ps) e.0 e.1.0 in
      let t = in_listed ps e.0 f.0 in
      let w = whole_in ps t.piece a t.is_piece in
      record {
        piece = t.piece;
        is_piece = t.is_piece;
        shared = ap (shares (natural level) ours_of) (sym (stands_places ps e.0 a t)) ∙ f.1;
        instance = t.instance;
        is_instance = t.is_instance;
        is = ap (at_level (natural level)) (sym (element_values t.piece t.instance w t.is_instance)) ∙ ap (λ z. at_level (natural level) (values z.vector)) t.is ∙ e.1.1;
      }

  one_times : (z : ℤ) → pos 1 *ℤ z ≡ z
  one_times z = omega (arith, ints)

  opposite_times : (z : ℤ) → negsuc 0 *ℤ z ≡ neg_ℤ z
  opposite_times z = omega (arith, ints)

  twice_opposite : (x v : ℤ) → neg_ℤ x ≡ v → x ≡ neg_ℤ v
  twice_opposite x v e = omega (arith, ints)

  opposite_above : (x v : ℤ) → v ≤ℤ neg_ℤ x → x ≤ℤ neg_ℤ v
  opposite_above x v e = omega (arith, ints)

  pub least_values : (v : ℤ) → IsLeastOf ps ours_of (natural level) (pos 1) v → least_of (level_values (listed ps) s level) ≡ v
  least_values v l =
      let r = l.reached in
      least_is (level_values (listed ps) s level) v
      (subst (λ z. In z (level_values (listed ps) s level)) (sym (one_times _) ∙ r.has.is) (value_in r.piece r.has.instance r.is_piece r.has.is_instance r.shared))
      (λ x i.
      let c = comes x i in
      subst (λ z. v ≤ℤ z) (one_times _ ∙ c.is) (l.below c.piece c.is_piece c.shared c.instance c.is_instance))

  pub greatest_values : (v : ℤ) → IsLeastOf ps ours_of (natural level) (negsuc 0) v → greatest_of (level_values (listed ps) s level) ≡ neg_ℤ v
  greatest_values v l =
      let r = l.reached in
      greatest_is (level_values (listed ps) s level) (neg_ℤ v)
      (subst (λ z. In z (level_values (listed ps) s level)) (twice_opposite _ v (sym (opposite_times _) ∙ r.has.is)) (value_in r.piece r.has.instance r.is_piece r.has.is_instance r.shared))
      (λ x i.
      let c = comes x i in
      subst (λ z. z ≤ℤ neg_ℤ v) c.is (opposite_above _ v (subst (λ z. v ≤ℤ z) (opposite_times _) (l.below c.piece c.is_piece c.shared c.instance c.is_instance))))

  -- The turns up to a value are those that are peeled off.

  at_most_value : (v : ℤ) (xs : List ℤ) → value (at_most (natural level) v) xs ≡ v +ℤ neg_ℤ (at_level (natural level) xs)
  at_most_value v xs = ap (λ z. v +ℤ z) (dot_multiple (natural level - 1) 0 (negsuc 0) xs ∙ opposite_times _)

  next_up : (x v : ℤ) → int_le (pos 0) (v +ℤ neg_ℤ x) ≡ int_lt x (v +ℤ pos 1)
  next_up x v = grind (arith, ints)

  last_down : (x v : ℤ) → int_le (pos 0) (v +ℤ neg_ℤ x) ≡ int_le x v
  last_down x v = grind (arith, ints)

  up_to : (x v k g : ℤ) → g ≡ (v +ℤ pos 1) -ℤ k → int_le (pos 0) (v +ℤ neg_ℤ x) ≡ int_lt x (g +ℤ k)
  up_to x v k g e = let f : g +ℤ k ≡ v +ℤ pos 1 = omega (arith, ints) in next_up x v ∙ ap (int_lt x) (sym f)

  down_to : (x v k g : ℤ) → g ≡ neg_ℤ (k -ℤ v) → int_le (pos 0) (v +ℤ neg_ℤ x) ≡ int_le x (g +ℤ k)
  down_to x v k g e = let f : g +ℤ k ≡ v = omega (arith, ints) in last_down x v ∙ ap (int_le x) (sym f)

  above_zero : (k : ℤ) → int_lt (pos 0) k ≡ true → pos 0 <ℤ k
  above_zero k e = grind (arith, ints)

  not_above : (k : ℤ) → int_lt (pos 0) k ≡ false → k ≤ℤ pos 0
  not_above k e = grind (arith, ints)

  pub peels_up_to : (k v : ℤ) (xs : List ℤ) → (pos 0 <ℤ k → IsLeastOf ps ours_of (natural level) (pos 1) ((v +ℤ pos 1) -ℤ k))
      → (k ≤ℤ pos 0 → IsLeastOf ps ours_of (natural level) (negsuc 0) (k -ℤ v)) → holds_at (at_most (natural level) v) xs ≡ peels (listed ps) s level k xs
  peels_up_to k v xs front back = ap (int_le (pos 0)) (at_most_value v xs) ∙ by (int_lt (pos 0) k) refl
    where
      by : (b : Bool) → int_lt (pos 0) k ≡ b
          → int_le (pos 0) (v +ℤ neg_ℤ (at_level (natural level) xs))
          ≡ (if b then int_lt (at_level (natural level) xs) (least_of (level_values (listed ps) s level) +ℤ k) else int_le (at_level (natural level) xs) (greatest_of (level_values (listed ps) s level) +ℤ k))
      by true e = up_to _ v k _ (least_values ((v +ℤ pos 1) -ℤ k) (front (above_zero k e)))
      by false e = down_to _ v k _ (greatest_values (k -ℤ v) (back (not_above k e)))
