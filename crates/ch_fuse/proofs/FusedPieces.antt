-- Fused pieces stay apart, where no cause forbids to fuse.
use Rattle.std.proofs.Common.{◌≡◌, refl, sym, ap, ap₂, ◌∙◌, subst, ℕ, ◌-◌, ◌<◌, ◌≤◌, ℤ, pos, negsuc, ◌≤ℤ◌, Bool, true, false, ◌&&◌, cond, ltb, int_le, None, List, [], ◌∷◌, length, map, take, get_or, ◌⊎◌, inl, inr, arith}
use Rattle.std.proofs.lemmas.Bool.{and_from, and_parts, both_ways}
use Rattle.std.proofs.lemmas.Int.{ints}
use Rattle.ch_fuse.specs.Fused.{body_width, elsewhere, first_place, fuse_cause, fused_pieces, fused_places, fuses, in_groups, least, place_at}
use Rattle.ch_fuse.specs.Replaced.{relocated, replaced}
use Rattle.ch_fuse.proofs.Differing.{Differ, DiffersAt, front_same, fronts_differ}
use Rattle.ch_fuse.proofs.Extremes.{greatest_bounds, least_in}
use Rattle.ch_fuse.proofs.FusedPlaces.{IsBelow, fused_differ}
use Rattle.ch_moved.specs.Arguments.{has_level, natural}
use Rattle.ch_moved.specs.Causes.{named_twice, no_level, no_piece}
use Rattle.ch_moved.proofs.Allowed.{none_first, passes_first}
use Rattle.ch_moved.proofs.Named.{passes}
use Rattle.ch_space.proofs.Membership.{any_from, any_in, filter_in, in_filter}
use Rattle.ch_space.proofs.PieceNumbers.{lists_same, same_lists}
use Rattle.ch_timed.specs.Groups.{in_group, piece}
use Rattle.ch_timed.specs.Members.{In}
use Rattle.ch_timed.specs.Timed.{pieces}
use Rattle.ch_timed.specs.Vectors.{same_numbers, shares}
use Rattle.ch_timed.specs.declared.element.Element.{Element}
use Rattle.ch_timed.proofs.Orders.{in_map, map_in}

pub level_of : (list : List Element) (numbers : List ℤ) (level s : ℤ) → no_level list numbers level ≡ None → In s numbers → has_level list level s ≡ true
level_of list [] level s e i = absurd i
level_of list (t ∷ ts) level s e (inl k) = subst (λ z. has_level list level z ≡ true) k (passes_first (has_level list level t) _ (no_level list ts level) e).0
level_of list (t ∷ ts) level s e (inr i) = level_of list ts level s (passes_first (has_level list level t) _ (no_level list ts level) e).1 i

at_least_one : (level : ℤ) → int_le (pos 1) level ≡ true → 1 ≤ natural level
at_least_one (pos n) e = grind (arith, ints)
at_least_one (negsuc n) e = absurd cc

pub some_level : (list : List Element) (numbers : List ℤ) (level s : ℤ) → no_level list numbers level ≡ None → In s numbers → 1 ≤ natural level
some_level list numbers level s e i = at_least_one level (and_parts (int_le (pos 1) level) _ (level_of list numbers level s e i)).0

-- what shares a level

pub record Shares (l : ℕ) (a b : List ℤ) : Type 0 where
  pub left : l < length a
  pub right : l < length b
  pub same : take l a ≡ take l b

pub shares_parts : (l : ℕ) (a b : List ℤ) → shares l a b ≡ true → Shares l a b
shares_parts l a b h =
    let p = and_parts (ltb l (length a) && ltb l (length b)) (same_numbers (take l a) (take l b)) h in
    let q = and_parts (ltb l (length a)) (ltb l (length b)) p.0 in
    let x = q.0 in
    let y = q.1 in
    record { left = grind arith; right = grind arith; same = same_lists _ _ p.1 }

shares_by : (l : ℕ) (a b : List ℤ) → l < length a → l < length b → take l a ≡ take l b → shares l a b ≡ true
shares_by l a b m n e =
    let x : ltb l (length a) ≡ true = grind arith in
    let y : ltb l (length b) ≡ true = grind arith in
    and_from _ _ (and_from _ _ x y) (lists_same _ _ e)

least_member : (x : ℤ) (xs : List ℤ) → In x xs → In (least xs) xs
least_member x [] i = absurd i
least_member x (y ∷ ys) i = least_in y ys

module _ (list : List Element) (numbers : List ℤ) (level : ℤ) where
  -- a named piece that shares the level
  named_in : (a : List ℤ) → in_groups list numbers level a ≡ true → (s : ℤ) × In s numbers × Shares (natural level) (piece list (natural s)) a
  named_in a h =
      let r = any_from (λ s. in_group list (natural s) (natural level) a) numbers h in
      (r.0, r.1.0, shares_parts (natural level) (piece list (natural r.0)) a r.1.1)

  pub deep_inside : (a : List ℤ) → in_groups list numbers level a ≡ true → natural level < length a
  deep_inside a h = (named_in a h).2.right

  module _ (cause : fuse_cause list numbers level ≡ None) where
    parts : (no_level list numbers level ≡ None) × (elsewhere list numbers level ≡ None)
    parts =
        let a = none_first (no_piece list numbers) _ cause in
        let b = none_first (no_level list numbers level) _ a.1 in
        let c = none_first (named_twice numbers) _ b.1 in
        let d = none_first (elsewhere list numbers level) _ c.1 in
        (b.0, d.0)

    pub some_inside : (a : List ℤ) → in_groups list numbers level a ≡ true → 1 ≤ natural level
    some_inside a h = let s = named_in a h in some_level list numbers level s.0 parts.0 s.1

    fronts_by : (ns : List ℤ) → elsewhere list ns level ≡ None → (s t : ℤ) → In s ns → In t ns
        → take (natural level - 1) (piece list (natural s)) ≡ take (natural level - 1) (piece list (natural t))
    fronts_by [] e s t i j = absurd i
    fronts_by (n ∷ ns) e s t i j = sym (from_first s i) ∙ from_first t j
      where
        from_first : (t : ℤ) → In t (n ∷ ns) → take (natural level - 1) (piece list (natural n)) ≡ take (natural level - 1) (piece list (natural t))
        from_first t (inl k) = ap (λ z. take (natural level - 1) (piece list (natural z))) k
        from_first t (inr i) =
            same_lists _ _ (passes 5 (λ t. same_numbers (take (natural level - 1) (piece list (natural n))) (take (natural level - 1) (piece list (natural t)))) ns t e i)

    near : (a b : List ℤ) (k : ℕ) → in_groups list numbers level a ≡ true → in_groups list numbers level b ≡ true → k < natural level - 1 → get_or a k (pos 0) ≡ get_or b k (pos 0)
    near a b k s t l =
        let x = named_in a s in
        let y = named_in b t in
        sym (front_same (natural level) k (piece list (natural x.0)) a x.2.same (omega arith))
        ∙ front_same (natural level - 1) k (piece list (natural x.0)) (piece list (natural y.0)) (fronts_by numbers parts.1 x.0 y.0 x.1 y.1) l
        ∙ front_same (natural level) k (piece list (natural y.0)) b y.2.same (omega arith)

    fused_in : (a : List ℤ) → In a (pieces list) → in_groups list numbers level a ≡ true → In a (fused_pieces list numbers level)
    fused_in a i h = filter_in (in_groups list numbers level) (pieces list) a i h

    leader : (a : List ℤ) → In a (pieces list) → in_groups list numbers level a ≡ true
        → (r : List ℤ) × In r (pieces list) × (in_groups list numbers level r ≡ true) × (get_or r (natural level - 1) (pos 0) ≡ first_place list numbers level)
    leader a i h =
        let xs = map (place_at (natural level - 1)) (fused_pieces list numbers level) in
        let m = least_member (place_at (natural level - 1) a) xs (map_in (place_at (natural level - 1)) (fused_pieces list numbers level) a (fused_in a i h)) in
        let r = in_map (place_at (natural level - 1)) (fused_pieces list numbers level) (least xs) m in
        let f = in_filter (in_groups list numbers level) (pieces list) r.0 r.1.0 in
        (r.0, f.0, f.1, r.1.1)

    outside : (r q : List ℤ) → in_groups list numbers level r ≡ true → in_groups list numbers level q ≡ false → natural level < length q → (k : ℕ) × (k < natural level) × DiffersAt r q k
    outside r q s t l =
        let x = named_in r s in
        let ours = piece list (natural x.0) in
        let left = x.2.left in
        let right = x.2.right in
        let d =
        fronts_differ (natural level) ours q (omega arith) (omega arith) (λ e.
        both_ways _ t (any_in (λ n. in_group list (natural n) (natural level) q) numbers x.0 x.1 (shares_by (natural level) ours q left l e))) in
        let below = d.1 in
        (d.0, d.1, record { left = omega arith; right = d.2.right; differ = λ e. d.2.differ (front_same (natural level) d.0 ours r x.2.same d.1 ∙ e) })

    module _ (far : (a b : List ℤ) → In a (pieces list) → In b (pieces list) → (a ≡ b) ⊎ Differ a b) (known : (a : List ℤ) → In a (pieces list) → (k : ℕ) → pos 0 ≤ℤ get_or a k (pos 0)) where
      within : (a : List ℤ) → In a (pieces list) → in_groups list numbers level a ≡ true → IsBelow (body_width list numbers level) (get_or a (natural level) (pos 0))
      within a i h =
          let b =
          greatest_bounds (map (place_at (natural level)) (fused_pieces list numbers level)) (place_at (natural level) a)
          (map_in (place_at (natural level)) (fused_pieces list numbers level) a (fused_in a i h)) in
          record { some = known a i (natural level); below = omega (arith, ints) }

      abbrev new : List ℤ → List ℤ
      new = fused_places (natural level) (body_width list numbers level) (first_place list numbers level)

      by_level : 1 ≤ natural level → (a b : List ℤ) → In a (pieces list) → In b (pieces list) → Differ a b → Differ (replaced (in_groups list numbers level) new a) (replaced (in_groups list numbers level) new b)
      by_level some =
          fused_differ (natural level) (body_width list numbers level) (first_place list numbers level) some (pieces list) (in_groups list numbers level) far deep_inside near leader within outside

      by : (x y : Bool) (a b : List ℤ) → in_groups list numbers level a ≡ x → in_groups list numbers level b ≡ y → In a (pieces list) → In b (pieces list) → Differ a b
          → Differ (replaced (in_groups list numbers level) new a) (replaced (in_groups list numbers level) new b)
      by true y a b s t i j d = by_level (some_inside a s) a b i j d
      by false true a b s t i j d = by_level (some_inside b t) a b i j d
      by false false a b s t i j d = subst (λ z. Differ (cond z (new a) a) (replaced (in_groups list numbers level) new b)) (sym s) (subst (λ z. Differ a (cond z (new b) b)) (sym t) d)

      pub fusing_differs : (a b : List ℤ) → In a (pieces list) → In b (pieces list) → Differ a b → Differ (replaced (in_groups list numbers level) new a) (replaced (in_groups list numbers level) new b)
      fusing_differs a b i j d = by (in_groups list numbers level a) (in_groups list numbers level b) a b refl refl i j d

-- as the code has the level, the width and the first place

module _ (list : List Element) (numbers : List ℤ) (level : ℤ) (d : ℕ) (width first : ℤ) (e : d ≡ natural level) (f : width ≡ body_width list numbers (pos d)) (g : first ≡ first_place list numbers (pos d)) where
  width_is : width ≡ body_width list numbers level
  width_is = f ∙ ap (λ n. body_width list numbers (pos n)) e

  first_is : first ≡ first_place list numbers level
  first_is = g ∙ ap (λ n. first_place list numbers (pos n)) e

  pub fusing_is : relocated (in_groups list numbers (pos d)) (fused_places d width first) ≡ fuses list numbers level
  fusing_is =
      ap₂ (λ w x. relocated (in_groups list numbers (pos d)) (fused_places d w x)) width_is first_is
      ∙ ap (λ n. relocated (in_groups list numbers (pos n)) (fused_places n (body_width list numbers level) (first_place list numbers level))) e

  pub fusing_keeps : fuse_cause list numbers level ≡ None → ((a b : List ℤ) → In a (pieces list) → In b (pieces list) → (a ≡ b) ⊎ Differ a b)
      → ((a : List ℤ) → In a (pieces list) → (k : ℕ) → pos 0 ≤ℤ get_or a k (pos 0)) → (a b : List ℤ) → In a (pieces list) → In b (pieces list) → Differ a b
      → Differ (replaced (in_groups list numbers (pos d)) (fused_places d width first) a) (replaced (in_groups list numbers (pos d)) (fused_places d width first) b)
  fusing_keeps cause far known a b i j x =
      let h = fusing_differs list numbers level cause far known a b i j x in
      subst (λ n. Differ (replaced (in_groups list numbers (pos n)) (fused_places n width first) a) (replaced (in_groups list numbers (pos n)) (fused_places n width first) b)) (sym e)
      (subst (λ w. Differ (replaced (in_groups list numbers level) (fused_places (natural level) w first) a) (replaced (in_groups list numbers level) (fused_places (natural level) w first) b)) (sym width_is)
      (subst (λ w. Differ (replaced (in_groups list numbers level) (fused_places (natural level) (body_width list numbers level) w) a) (replaced (in_groups list numbers level) (fused_places (natural level) (body_width list numbers level) w) b)) (sym first_is) h))

  pub some_depth : fuse_cause list numbers level ≡ None → (a : List ℤ) → in_groups list numbers (pos d) a ≡ true → 1 ≤ d
  some_depth cause a h = let k = some_inside list numbers level cause a (ap (λ n. in_groups list numbers (pos n) a) (sym e) ∙ h) in omega arith
