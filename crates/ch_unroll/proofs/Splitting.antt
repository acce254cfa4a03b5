-- Places that differ at a level at which neither ends: what becomes of them where a place behind a level changes.
use Rattle.std.proofs.Common.{◌≡◌, ◌≢◌, refl, sym, ap, ap₂, ◌∙◌, subst, ℕ, zero, suc, ◌+◌, ◌*◌, ◌<◌, ◌≤◌, ℤ, pos, ◌*ℤ◌, ◌<ℤ◌, true, false, ◌&&◌, ltb, List, [], ◌∷◌, ◌++◌, length, take, drop, get_or, set, inl, inr, ◌⊎◌, arith, length-append}
use Rattle.std.specs.Ordering.{int_cmp, ordering_reverse, MatchOrdering}
use Rattle.std.specs.declared.cmp.Ordering.{Ordering}
use Rattle.std.specs.declared.cmp.Ordering.TheVariants.{Less, Equal, Greater}
use Rattle.std.specs.Cmp.{IsTotalOrder, int_cmp_total, int_ranked}
use Rattle.std.specs.Cmp.Lexicographic.{slice_cmp, lists_total}
use Rattle.std.specs.FinMap.{slice_cmp-IsAntisymmetric, int_cmp-IsAntisymmetric}
use Rattle.std.proofs.lemmas.Bool.{and_from, and_parts, both_ways, cases_eq, cases_lt}
use Rattle.std.proofs.lemmas.Int.{ints}
use Rattle.std.proofs.lemmas.List.{get_or-set_other, get_or-set_same, length-set, take-set-le, take_at}
use Rattle.std.proofs.Math.IntN.{pos-*ℤ-pos}
use Rattle.std.proofs.Math.Seq.{take-set-lt}
use Rattle.ch_moved.proofs.Parting.{Parts, less_parts, parts_apart}
use Rattle.ch_moved.proofs.Replaced.{turned}
use Rattle.ch_order.proofs.Euclid.{unique}
use Rattle.ch_space.proofs.PieceNumbers.{lists_same, same_lists}
use Rattle.ch_timed.specs.Vectors.{shares}
use Rattle.ch_timed.proofs.Prefixes.{apart}

order : IsTotalOrder (slice_cmp int_cmp)
order = lists_total int_cmp_total

-- the lists are the same up to a place, where they differ
pub record Splits (a b : List ℤ) : Type 0 where
  pub at : ℕ
  pub in_a : at < length a
  pub in_b : at < length b
  pub front : take at a ≡ take at b
  pub differ : get_or a at (pos 0) ≢ get_or b at (pos 0)

abbrev pub splits_back : (a b : List ℤ) → Splits a b → Splits b a
splits_back a b s = record { at = s.at; in_a = s.in_b; in_b = s.in_a; front = sym s.front; differ = λ e. s.differ (sym e) }

pub splits_differ : (a b : List ℤ) → Splits a b → a ≡ b → ⊥
splits_differ a b s e = s.differ (ap (λ z. get_or z s.at (pos 0)) e)

number_behind : (front rest : List ℤ) (x : ℤ) → get_or (front ++ x ∷ rest) (length front) (pos 0) ≡ x
number_behind [] rest x = refl
number_behind (y ∷ front) rest x = number_behind front rest x

parts_split : (a b : List ℤ) → Parts a b → Splits a b
parts_split a b p = record {
  at = length p.front;
  in_a = let l = ap length p.is_a ∙ length-append p.front (p.x ∷ p.rest) in omega arith;
  in_b = let l = ap length p.is_b ∙ length-append p.front (p.y ∷ p.others) in omega arith;
  front =
      ap (take (length p.front)) p.is_a ∙ take_at p.front (p.x ∷ p.rest) (length p.front) refl ∙ sym (ap (take (length p.front)) p.is_b ∙ take_at p.front (p.y ∷ p.others) (length p.front) refl);
  differ = λ e.
      let f : p.x ≡ p.y =
      sym (ap (λ z. get_or z (length p.front) (pos 0)) p.is_a ∙ number_behind p.front p.rest p.x) ∙ e ∙ ap (λ z. get_or z (length p.front) (pos 0)) p.is_b ∙ number_behind p.front p.others p.y in
      let l = p.less in
      omega (arith, ints);
}

cut_at : (xs : List ℤ) (k : ℕ) → k < length xs → xs ≡ take k xs ++ get_or xs k (pos 0) ∷ drop (suc k) xs
cut_at [] k h = absurd (omega arith)
cut_at (x ∷ xs) zero h = refl
cut_at (x ∷ xs) (suc k) h = ap (λ t. x ∷ t) (cut_at xs k (omega arith))

split_parts : (a b : List ℤ) (s : Splits a b) → get_or a s.at (pos 0) <ℤ get_or b s.at (pos 0) → Parts a b
split_parts a b s l = record {
  front = take s.at a;
  x = get_or a s.at (pos 0);
  y = get_or b s.at (pos 0);
  rest = drop (suc s.at) a;
  others = drop (suc s.at) b;
  is_a = cut_at a s.at s.in_a;
  is_b = cut_at b s.at s.in_b ∙ ap (λ z. z ++ get_or b s.at (pos 0) ∷ drop (suc s.at) b) (sym s.front);
  less = l;
}

pub splits_apart : (a b : List ℤ) → Splits a b → apart a b ≡ true
splits_apart a b s = by (int_cmp (get_or a s.at (pos 0)) (get_or b s.at (pos 0))) (int_ranked (get_or a s.at (pos 0)) (get_or b s.at (pos 0)) (int_cmp (get_or a s.at (pos 0)) (get_or b s.at (pos 0))) refl)
  where
    by : (o : Ordering) → MatchOrdering o (get_or a s.at (pos 0) <ℤ get_or b s.at (pos 0)) (get_or a s.at (pos 0) ≡ get_or b s.at (pos 0)) (get_or b s.at (pos 0) <ℤ get_or a s.at (pos 0)) → apart a b ≡ true
    by Less l = parts_apart a b (split_parts a b s l)
    by Equal e = absurd (s.differ e)
    by Greater l = turned b a (parts_apart b a (split_parts b a (splits_back a b s) l))

pub apart_split : (a b : List ℤ) → apart a b ≡ true → (a ≡ b) ⊎ Splits a b
apart_split a b h = by (slice_cmp int_cmp a b) refl
  where
    by : (o : Ordering) → slice_cmp int_cmp a b ≡ o → (a ≡ b) ⊎ Splits a b
    by Less k = inr (parts_split a b (less_parts a b k h))
    by Equal k = inl (slice_cmp-IsAntisymmetric int_cmp-IsAntisymmetric a b k)
    by Greater k = inr (splits_back b a (parts_split b a (less_parts b a (order.antisymm b a ∙ ap ordering_reverse k) (turned a b h))))

-- what it means to share a level
pub record Shares (level : ℕ) (ours theirs : List ℤ) : Type 0 where
  pub in_ours : level < length ours
  pub in_theirs : level < length theirs
  pub same : take level ours ≡ take level theirs

pub shares_parts : (level : ℕ) (ours theirs : List ℤ) → shares level ours theirs ≡ true → Shares level ours theirs
shares_parts level ours theirs h =
    let a = and_parts (ltb level (length ours) && ltb level (length theirs)) _ h in
    let b = and_parts (ltb level (length ours)) (ltb level (length theirs)) a.0 in
    record { in_ours = let t = b.0 in grind arith; in_theirs = let t = b.1 in grind arith; same = same_lists (take level ours) (take level theirs) a.1 }

pub shares_from : (level : ℕ) (ours theirs : List ℤ) → Shares level ours theirs → shares level ours theirs ≡ true
shares_from level ours theirs s =
    let a : ltb level (length ours) ≡ true = let l = s.in_ours in grind arith in
    let b : ltb level (length theirs) ≡ true = let l = s.in_theirs in grind arith in
    and_from _ _ (and_from _ _ a b) (lists_same (take level ours) (take level theirs) s.same)

pub take_less : (n k : ℕ) (xs ys : List ℤ) → n ≤ k → take k xs ≡ take k ys → take n xs ≡ take n ys
take_less n k xs ys l e = sym (shorter n k xs l) ∙ ap (take n) e ∙ shorter n k ys l
  where
    shorter : (n k : ℕ) (xs : List ℤ) → n ≤ k → take n (take k xs) ≡ take n xs
    shorter zero k xs l = refl
    shorter (suc n) zero xs l = absurd (omega arith)
    shorter (suc n) (suc k) [] l = refl
    shorter (suc n) (suc k) (x ∷ xs) l = ap (λ t. x ∷ t) (shorter n k xs (omega arith))

same_at : (n k : ℕ) (xs ys : List ℤ) → k < n → take n xs ≡ take n ys → k < length xs → k < length ys → get_or xs k (pos 0) ≡ get_or ys k (pos 0)
same_at zero k xs ys l e a b = absurd (omega arith)
same_at (suc n) k [] ys l e a b = absurd (omega arith)
same_at (suc n) k (x ∷ xs) [] l e a b = absurd (omega arith)
same_at (suc n) zero (x ∷ xs) (y ∷ ys) l e a b = cc
same_at (suc n) (suc k) (x ∷ xs) (y ∷ ys) l e a b = let f : take n xs ≡ take n ys = cc in same_at n k xs ys (omega arith) f (omega arith) (omega arith)

-- Places that share the level, with another place behind a deeper one, and places that don't.
pub outside_splits : (level h : ℕ) (ours a b : List ℤ) (v : ℤ) → level ≤ h → shares level ours a ≡ true → shares level ours b ≡ false → apart a b ≡ true → Splits (set a h v) b
outside_splits level h ours a b v l s t f = elim (apart_split a b f) as (λ _. Splits (set a h v) b) [
  | inl e ↦ absurd (both_ways (shares level ours b) t (subst (λ z. shares level ours z ≡ true) e s))
  | inr p ↦ elim (cases_lt p.at h) as (λ _. Splits (set a h v) b) [
    | inl m ↦
        let n = length-set a h v in
        let i = p.in_a in
        record {
          at = p.at;
          in_a = omega arith;
          in_b = p.in_b;
          front = take-set-le p.at a h v (omega arith) ∙ p.front;
          differ = λ e. p.differ (sym (get_or-set_other a h p.at v (pos 0) (λ e. absurd (omega arith))) ∙ e);
        }
    | inr m ↦
        let o = shares_parts level ours a s in
        let i = p.in_b in
        absurd (both_ways (shares level ours b) t
        (shares_from level ours b (record { in_ours = o.in_ours; in_theirs = omega arith; same = o.same ∙ take_less level p.at a b (omega arith) p.front })))
  ]
]

-- two places that share the level, with other places behind it: they differ there, or behind it, or are the same in all
pub inside_splits : (h : ℕ) (a b : List ℤ) (v w : ℤ) → h < length a → h < length b → take h a ≡ take h b → (v ≡ w → get_or a h (pos 0) ≡ get_or b h (pos 0)) → apart a b ≡ true
    → Splits (set a h v) (set b h w) ⊎ ((v ≡ w) × (a ≡ b))
inside_splits h a b v w la lb front same f = by (int_cmp v w) (int_ranked v w (int_cmp v w) refl)
  where
    there : (v ≢ w) → Splits (set a h v) (set b h w)
    there n =
        let m = length-set a h v in
        let o = length-set b h w in
        record {
          at = h;
          in_a = omega arith;
          in_b = omega arith;
          front = take-set-le h a h v (omega arith) ∙ front ∙ sym (take-set-le h b h w (omega arith));
          differ = λ e. n (sym (get_or-set_same a h v (pos 0) la) ∙ e ∙ get_or-set_same b h w (pos 0) lb);
        }

    behind : (v ≡ w) → Splits a b → Splits (set a h v) (set b h w)
    behind e p =
        let m = length-set a h v in
        let o = length-set b h w in
        let i = p.in_a in
        let j = p.in_b in
        let n : h < p.at = elim (cases_lt h p.at) as (λ _. h < p.at) [
          | inl l ↦ l
          | inr l ↦ absurd (p.differ (elim (cases_eq p.at h) as (λ _. get_or a p.at (pos 0) ≡ get_or b p.at (pos 0)) [
            | inl q ↦ ap (λ k. get_or a k (pos 0)) q ∙ same e ∙ ap (λ k. get_or b k (pos 0)) (sym q)
            | inr q ↦ same_at h p.at a b (omega arith) front p.in_a p.in_b
          ]))
        ] in
        record {
          at = p.at;
          in_a = omega arith;
          in_b = omega arith;
          front = take-set-lt p.at a h v n ∙ ap₂ (λ z x. set z h x) p.front e ∙ sym (take-set-lt p.at b h w n);
          differ = λ f.
              p.differ (sym (get_or-set_other a h p.at v (pos 0) (λ e. absurd (omega arith))) ∙ f ∙ get_or-set_other b h p.at w (pos 0) (λ e. absurd (omega arith)));
        }

    by : (o : Ordering) → MatchOrdering o (v <ℤ w) (v ≡ w) (w <ℤ v) → Splits (set a h v) (set b h w) ⊎ ((v ≡ w) × (a ≡ b))
    by Less l = inl (there (λ e. absurd (omega (arith, ints))))
    by Greater l = inl (there (λ e. absurd (omega (arith, ints))))
    by Equal e = elim (apart_split a b f) as (λ _. Splits (set a h v) (set b h w) ⊎ ((v ≡ w) × (a ≡ b))) [
      | inl s ↦ inr (e, s)
      | inr p ↦ inl (behind e p)
    ]

-- the place of a copy tells which copy it is, and the place in it
pub which_copy : (width r s m n : ℕ) → m < width → n < width → r * width + m ≡ s * width + n → (r ≡ s) × (m ≡ n)
which_copy width r s m n l k e =
    let u = unique width (pos r) (pos s) m n l k (omega (arith, ints, product r, product s)) in
    (let e = u.0 in omega (arith, ints), u.1)
  where
    product : (x : ℕ) → pos x *ℤ pos width ≡ pos (x * width)
    product x = pos-*ℤ-pos x width
