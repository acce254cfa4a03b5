-- What the layout of the copies says of the pieces.
use Rattle.std.proofs.Common.{◌≡◌, refl, sym, ap, ap₂, ◌∙◌, subst, ℕ, zero, suc, ◌+◌, ◌-◌, ◌*◌, ◌<◌, ◌≤◌, ℤ, pos, ◌+ℤ◌, ◌≤ℤ◌, Bool, true, false, cond, List, [], ◌∷◌, length, map, get_or, inl, inr, arith}
use Rattle.std.specs.List.{All, filter, list_all, range_with_len}
use Rattle.std.proofs.lemmas.Bool.{and_from, and_parts, both_ways}
use Rattle.std.proofs.lemmas.Int.{int_max_is, ints}
use Rattle.std.proofs.lemmas.List.{ext_get_or}
use Rattle.std.proofs.lemmas.List.FromFn.{get_or-map-range_with_len, length-map-range_with_len}
use Rattle.ch_moved.specs.Arguments.{natural}
use Rattle.ch_space.specs.declared.piece.Piece.{Piece}
use Rattle.ch_space.specs.Keeps.{IsLimited, IsSpace, most_commands, most_weight, places_of}
use Rattle.ch_space.proofs.EndsOf.{at_all}
use Rattle.ch_space.proofs.Membership.{filter_in}
use Rattle.ch_space.proofs.PieceElements.{length_pos, whole_in}
use Rattle.ch_space.proofs.PieceNumbers.{all_in}
use Rattle.ch_timed.specs.declared.element.Element.{Element}
use Rattle.ch_timed.specs.Groups.{piece}
use Rattle.ch_timed.specs.Members.{In}
use Rattle.ch_timed.specs.Timed.{pieces}
use Rattle.ch_timed.specs.Vectors.{places, shares}
use Rattle.ch_timed.proofs.Orders.{map_in}
use Rattle.ch_unroll.specs.declared.layout.Layout.{Layout}
use Rattle.ch_unroll.specs.Copies.{ArePlaced}
use Rattle.ch_unroll.specs.Layouts.{IsLaidOut, sharing, width_at}
use Rattle.ch_unroll.specs.Unrolled.{copy_level, copy_width, deepest_shared, greatest, group_places, unrolled_element, unrolls}
use Rattle.ch_unroll.proofs.Copied.{moves}
use Rattle.ch_unroll.proofs.Layouts.{at_pos}
use Rattle.ch_unroll.proofs.Splitting.{shares_from, shares_parts, take_less}

-- lists of which all pass a test

filter_passes : {X : Type 0} (t : X → Bool) (xs : List X) → list_all t (filter t xs) ≡ true
filter_passes t [] = refl
filter_passes t (x ∷ xs) = by (t x) refl (filter_passes t xs)
  where
    by : (b : Bool) → t x ≡ b → list_all t (filter t xs) ≡ true → list_all t (cond b (x ∷ filter t xs) (filter t xs)) ≡ true
    by true e h = and_from _ _ e h
    by false e h = h

member_passes : {X : Type 0} (t : X → Bool) (xs : List X) (x : X) → list_all t xs ≡ true → In x xs → t x ≡ true
member_passes t [] x h i = absurd i
member_passes t (y ∷ xs) x h (inl e) = subst (λ z. t z ≡ true) e (and_parts _ _ h).0
member_passes t (y ∷ xs) x h (inr i) = member_passes t xs x (and_parts _ _ h).1 i

-- the deepest level

deepest_shares : (more level : ℕ) (ours : List ℤ) (all : List (List ℤ)) → list_all (shares level ours) all ≡ true → list_all (shares (deepest_shared more level ours all) ours) all ≡ true
deepest_shares zero level ours all h = h
deepest_shares (suc more) level ours all h = by (list_all (shares (level + suc more) ours) all) refl (deepest_shares more level ours all h)
  where
    by : (b : Bool) → list_all (shares (level + suc more) ours) all ≡ b → list_all (shares (deepest_shared more level ours all) ours) all ≡ true
        → list_all (shares (cond b (level + suc more) (deepest_shared more level ours all)) ours) all ≡ true
    by true e r = e
    by false e r = r

deepest_least : (more level : ℕ) (ours : List ℤ) (all : List (List ℤ)) → level ≤ deepest_shared more level ours all
deepest_least zero level ours all = omega arith
deepest_least (suc more) level ours all = by (list_all (shares (level + suc more) ours) all) (deepest_least more level ours all)
  where
    by : (b : Bool) → level ≤ deepest_shared more level ours all → level ≤ cond b (level + suc more) (deepest_shared more level ours all)
    by true h = omega arith
    by false h = h

greatest_least : (xs : List ℤ) (x : ℤ) → In x xs → x ≤ℤ greatest xs
greatest_least [] x i = absurd i
greatest_least (y ∷ xs) x (inl e) = let f : y ≡ x = e in omega (arith, ints, int_max_is)
greatest_least (y ∷ xs) x (inr i) = let h = greatest_least xs x i in omega (arith, ints, int_max_is)

-- where all that share the level share the deeper one, these are the same
same_sharing : (level deeper : ℕ) (ours : List ℤ) (all : List (List ℤ)) → level ≤ deeper → list_all (shares deeper ours) (sharing level ours all) ≡ true → sharing deeper ours all ≡ sharing level ours all
same_sharing level deeper ours [] l h = refl
same_sharing level deeper ours (ps ∷ all) l h = by (shares level ours ps) refl (λ a. same_sharing level deeper ours all l a) h
  where
    by : (b : Bool) → shares level ours ps ≡ b → (list_all (shares deeper ours) (sharing level ours all) ≡ true → sharing deeper ours all ≡ sharing level ours all)
        → list_all (shares deeper ours) (cond b (ps ∷ sharing level ours all) (sharing level ours all)) ≡ true
        → cond (shares deeper ours ps) (ps ∷ sharing deeper ours all) (sharing deeper ours all) ≡ cond b (ps ∷ sharing level ours all) (sharing level ours all)
    by true e more a =
        let p = and_parts _ _ a in
        ap (λ b. cond b (ps ∷ sharing deeper ours all) (sharing deeper ours all)) p.0 ∙ ap (λ z. ps ∷ z) (more p.1)
    by false e more a = not_deeper (shares deeper ours ps) refl
      where
        not_deeper : (b : Bool) → shares deeper ours ps ≡ b → cond b (ps ∷ sharing deeper ours all) (sharing deeper ours all) ≡ sharing level ours all
        not_deeper false f = more a
        not_deeper true f =
            let s = shares_parts deeper ours ps f in
            let m = s.in_ours in
            let n = s.in_theirs in
            absurd (both_ways (shares level ours ps) e (shares_from level ours ps (record { in_ours = omega arith; in_theirs = omega arith; same = take_less level deeper ours ps l s.same })))

-- the places of the group

map_filter : {X Y : Type 0} (f : X → Y) (t : Y → Bool) (xs : List X) → map f (filter (λ x. t (f x)) xs) ≡ filter t (map f xs)
map_filter f t [] = refl
map_filter f t (x ∷ xs) = by (t (f x)) (map_filter f t xs)
  where
    by : (b : Bool) → map f (filter (λ x. t (f x)) xs) ≡ filter t (map f xs)
        → map f (cond b (x ∷ filter (λ x. t (f x)) xs) (filter (λ x. t (f x)) xs)) ≡ cond b (f x ∷ filter t (map f xs)) (filter t (map f xs))
    by true h = ap (λ z. f x ∷ z) h
    by false h = h

all_items : {X : Type 0} (xs : List X) (d : X) → map (λ k. get_or xs k d) (range_with_len 0 (length xs)) ≡ xs
all_items xs d =
    let n = length-map-range_with_len (λ k. get_or xs k d) 0 (length xs) in
    ext_get_or d _ xs n (λ k l. get_or-map-range_with_len (λ k. get_or xs k d) 0 (length xs) k k d (omega arith) (omega arith))

group_is : (list : List Element) (s level : ℤ) → group_places list s level ≡ sharing (natural level) (piece list (natural s)) (pieces list)
group_is list s level =
    map_filter (piece list) (shares (natural level) (piece list (natural s))) (range_with_len 0 (length (pieces list)))
    ∙ ap (filter (shares (natural level) (piece list (natural s)))) (all_items (pieces list) [])

-- what the layout says

module _ (ps : List Piece) (ours : List ℤ) (l amount : ℕ) (u : Layout) (laid : IsLaidOut (map places_of ps) ours l amount u) where
  share_behind : list_all (shares u.behind ours) (sharing l ours (map places_of ps)) ≡ true
  share_behind =
      subst (λ n. list_all (shares n ours) (sharing l ours (map places_of ps)) ≡ true) (sym laid.behind)
      (deepest_shares (length ours - 1 - l) l ours (sharing l ours (map places_of ps)) (filter_passes (shares l ours) (map places_of ps)))

  not_above : l ≤ u.behind
  not_above = subst (λ n. l ≤ n) (sym laid.behind) (deepest_least (length ours - 1 - l) l ours (sharing l ours (map places_of ps)))

  pub deep : (p : Piece) → In p ps → shares u.level ours (places_of p) ≡ true → shares u.behind ours (places_of p) ≡ true
  deep p i s =
      member_passes (shares u.behind ours) (sharing l ours (map places_of ps)) (places_of p) share_behind
      (filter_in (shares l ours) (map places_of ps) (places_of p) (map_in places_of ps p i) (subst (λ n. shares n ours (places_of p) ≡ true) laid.level s))

  place_least : (p : Piece) → In p ps → shares u.behind ours (places_of p) ≡ true → get_or p.places u.behind 0 < u.width
  place_least p i s =
      let f : List ℤ → ℤ = λ ps. get_or ps u.behind (pos 0) in
      let g =
      greatest_least (map f (sharing u.behind ours (map places_of ps))) (f (places_of p))
      (map_in f (sharing u.behind ours (map places_of ps)) (places_of p) (filter_in (shares u.behind ours) (map places_of ps) (places_of p) (map_in places_of ps p i) s)) in
      by (get_or p.places u.behind 0) (f (places_of p)) (greatest (map f (sharing u.behind ours (map places_of ps)))) (at_pos p.places u.behind) g laid.width
    where
      by : (n : ℕ) (x m : ℤ) → x ≡ pos n → x ≤ℤ m → pos u.width ≡ pos 1 +ℤ m → n < u.width
      by n x m e h w = omega (arith, ints)

  pub are_placed : (arrays : ℕ) (counts : List ℕ) (temps : List (List ℕ)) (w c : ℕ) → IsSpace arrays ps counts temps w c → 1 ≤ l → 1 ≤ amount → amount ≤ 32 → w * amount ≤ most_weight → c < most_commands → All (ArePlaced u ours) ps
  are_placed arrays counts temps w c space some grows few light left = all_in (ArePlaced u ours) ps (λ p i s.
      let d = deep p i s in
      let parts = shares_parts u.behind ours (places_of p) d in
      let whole = whole_in ps p space.apart i in
      let a = laid.level in
      let b = laid.amount in
      let n = not_above in
      record {
        whole = whole;
        level = omega arith;
        deeper = omega arith;
        behind = let e = length_pos p.places in let f = whole.places in let g = parts.in_theirs in omega arith;
        room = record { weight = w; commands = c; limited = at_all (IsLimited w c) ps p space.limited i; some = space.some_weight; small = subst (λ n. w * n ≤ most_weight) (sym b) light; few = left };
        some = omega arith;
        few = omega arith;
        near = laid.near;
        place = place_least p i d;
      })

-- unrolling is what follows from the layout

abbrev general : ℕ → List ℤ → ℕ → ℤ → ℤ → ℤ → Element → Element
general l ours h width level amount e = cond (shares l ours (places e.vector)) (unrolled_element h width level amount e) e

pub moves_are : (ps : List Piece) (list : List Element) (s level amount : ℤ) (l n : ℕ) (u : Layout) → pieces list ≡ map places_of ps → level ≡ pos l → amount ≡ pos n
    → IsLaidOut (map places_of ps) (piece list (natural s)) l n u → moves u (piece list (natural s)) ≡ unrolls list s level amount
moves_are ps list s level amount l n u numbers e f laid =
    let ours = piece list (natural s) in
    let le : u.level ≡ natural level = laid.level ∙ ap natural (sym e) in
    let group_same : group_places list s level ≡ sharing l ours (map places_of ps) =
    group_is list s level ∙ ap₂ (λ k z. sharing k (piece list (natural s)) z) (ap natural e) numbers in
    let behind : u.behind ≡ copy_level list s level =
    laid.behind ∙ ap₂ (λ k z. deepest_shared (length (piece list (natural s)) - 1 - k) k (piece list (natural s)) z) (ap natural (sym e)) (sym group_same) in
    let sharing_same : sharing u.behind ours (map places_of ps) ≡ group_places list s level =
    same_sharing l u.behind ours (map places_of ps) (not_above ps ours l n u laid) (share_behind ps ours l n u laid) ∙ sym group_same in
    let width : pos u.width ≡ copy_width list s level = laid.width ∙ ap₂ width_at behind sharing_same in
    let top : pos u.level ≡ level = ap pos laid.level ∙ sym e in
    let many : pos u.amount ≡ amount = ap pos laid.amount ∙ sym f in
    λ i. general (le i) (piece list (natural s)) (behind i) (width i) (top i) (many i)
