-- An extent is no greater than it has to be: some two cells that are used with one prefix stand that far apart.
use Rattle.std.proofs.Common.{◌≡◌, refl, sym, ap, ◌∙◌, subst, ℕ, zero, suc, ◌+◌, ◌<◌, max, ℤ, pos, ◌-ℤ◌, unsigned_abs, true, List, [], ◌∷◌, length, map, get_or, ◌⊎◌, inl, inr, arith}
use Rattle.std.proofs.lemmas.Int.{ints}
use Rattle.std.proofs.lemmas.Bool.{cases_Bool, cases_lt}
use Rattle.ch_timed.specs.Members.{In}
use Rattle.ch_timed.specs.Vectors.{same_numbers}
use Rattle.ch_copied.specs.Uses.{Use, extents, raised, raised_by, raised_by_all}
use Rattle.ch_copied.proofs.Sharing.{numbers_self}
use Rattle.ch_copied.proofs.Wide.{raised_by_length, raised_by_all_length}

raised_get : (cs ds : List ℤ) (es : List ℕ) (k : ℕ) → k < length cs → k < length ds → k < length es
    → get_or (raised cs ds es) k 0 ≡ max (get_or es k 0) (unsigned_abs (get_or cs k (pos 0) -ℤ get_or ds k (pos 0)) + 1)
raised_get [] ds es k l m n = absurd (omega arith)
raised_get (c ∷ cs) [] es k l m n = absurd (omega arith)
raised_get (c ∷ cs) (d ∷ ds) [] k l m n = absurd (omega arith)
raised_get (c ∷ cs) (d ∷ ds) (e ∷ es) zero l m n = refl
raised_get (c ∷ cs) (d ∷ ds) (e ∷ es) (suc k) l m n = raised_get cs ds es k (omega arith) (omega arith) (omega arith)

one_of : (a b : ℕ) → (max a b ≡ a) ⊎ (max a b ≡ b)
one_of a b = elim (cases_lt a b) as (λ _. (max a b ≡ a) ⊎ (max a b ≡ b)) [ inl l ↦ inr (omega arith) | inr l ↦ inl (omega arith) ]

module _ (m : ℕ) (all : List Use) (long : (u : Use) → In u all → length u.cell ≡ m) where
  -- some two cells with one prefix differ by so much less 1 in dimension k
  abbrev pub Attained : ℕ → ℕ → Type 0
  Attained k e = (u : Use) × ((v : Use) × (In u all × (In v all × ((same_numbers u.prefix v.prefix ≡ true)
      × (unsigned_abs (get_or u.cell k (pos 0) -ℤ get_or v.cell k (pos 0)) + 1 ≡ e)))))

  abbrev AreAttained : List ℕ → Type 0
  AreAttained es = (k : ℕ) → k < m → Attained k (get_or es k 0)

  raised_attained : (u v : Use) → In u all → In v all → same_numbers u.prefix v.prefix ≡ true → (es : List ℕ) → length es ≡ m → AreAttained es → AreAttained (raised u.cell v.cell es)
  raised_attained u v i j s es n h k l =
      let a = long u i in
      let b = long v j in
      let e = raised_get u.cell v.cell es k (omega arith) (omega arith) (omega arith) in
      elim (one_of (get_or es k 0) (unsigned_abs (get_or u.cell k (pos 0) -ℤ get_or v.cell k (pos 0)) + 1)) as (λ _. Attained k (get_or (raised u.cell v.cell es) k 0)) [
        | inl q ↦ subst (Attained k) (sym (e ∙ q)) (h k l)
        | inr q ↦ subst (Attained k) (sym (e ∙ q)) (u, (v, (i, (j, (s, refl)))))
      ]

  by_attained : (u : Use) → In u all → (vs : List Use) → ((v : Use) → In v vs → In v all) → (es : List ℕ) → length es ≡ m → AreAttained es → AreAttained (raised_by u vs es)
  by_attained u i [] w es n h = h
  by_attained u i (v ∷ vs) w es n h =
      let r = by_attained u i vs (λ z j. w z (inr j)) es n h in
      elim (cases_Bool (same_numbers u.prefix v.prefix)) as (λ _. AreAttained (raised_by u (v ∷ vs) es)) [
        | inl s ↦ rw s (raised_attained u v i (w v (inl refl)) s (raised_by u vs es) (raised_by_length u vs es ∙ n) r)
        | inr s ↦ rw s r
      ]

  all_attained : (us : List Use) → ((u : Use) → In u us → In u all) → (es : List ℕ) → length es ≡ m → AreAttained es → AreAttained (raised_by_all us all es)
  all_attained [] w es n h = h
  all_attained (u ∷ us) w es n h =
      by_attained u (w u (inl refl)) all (λ v j. j) (raised_by_all us all es) (raised_by_all_length us all es ∙ n) (all_attained us (λ z j. w z (inr j)) es n h)

ones_at : (cs : List ℤ) (k : ℕ) → k < length cs → get_or {A = ℕ} (map (λ c. 1) cs) k 0 ≡ 1
ones_at [] k l = absurd (omega arith)
ones_at (c ∷ cs) zero l = refl
ones_at (c ∷ cs) (suc k) l = ones_at cs k (omega arith)

ones_many : (cs : List ℤ) → length {A = ℕ} (map (λ c. 1) cs) ≡ length cs
ones_many [] = refl
ones_many (c ∷ cs) = ap (λ n. suc n) (ones_many cs)

nothing_apart : (x : ℤ) → unsigned_abs (x -ℤ x) + 1 ≡ 1
nothing_apart x = omega (arith, ints)

pub extents_attained : (m : ℕ) (us : List Use) (long : (u : Use) → In u us → length u.cell ≡ m) (w : Use) → In w us → (k : ℕ) → k < m
    → Attained m us long k (get_or (extents us) k 0)
extents_attained m [] long w i = absurd i
extents_attained m (u ∷ us) long w i =
    all_attained m (u ∷ us) long (u ∷ us) (λ v j. j) (map (λ c. 1) u.cell) (ones_many u.cell ∙ long u (inl refl))
    (λ k l. subst (Attained m (u ∷ us) long k) (sym (ones_at u.cell k (let e = long u (inl refl) in omega arith)))
    (u, (u, (inl refl, (inl refl, (numbers_self u.prefix, nothing_apart (get_or u.cell k (pos 0))))))))
