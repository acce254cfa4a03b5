-- The buffer is wide enough: cells that are used with one prefix stand at different places of it.
use Rattle.std.proofs.Common.{◌≡◌, refl, sym, ap, ap₂, ◌∙◌, subst, ℕ, zero, suc, ◌*◌, ◌<◌, ◌≤◌, ℤ, pos, ◌+ℤ◌, ◌-ℤ◌, ◌*ℤ◌, ◌<ℤ◌, unsigned_abs, true, List, [], ◌∷◌, length, map, inl, inr, arith, mul-le-mul_right}
use Rattle.std.proofs.lemmas.Int.{ints}
use Rattle.std.proofs.lemmas.Bool.{cases_Bool}
use Rattle.std.specs.Int.{int_div_euclid, int_rem_euclid}
use Rattle.std.specs.Ordering.{int_cmp, MatchOrdering}
use Rattle.std.specs.declared.cmp.Ordering.{Ordering}
use Rattle.std.specs.declared.cmp.Ordering.TheVariants.{Less, Equal, Greater}
use Rattle.std.specs.Cmp.{int_ranked}
use Rattle.ch_nest.specs.Run.{modulo}
use Rattle.ch_timed.specs.Members.{In}
use Rattle.ch_timed.specs.Vectors.{same_numbers}
use Rattle.ch_copied.specs.Uses.{Use, extents, raised, raised_by, raised_by_all}
use Rattle.ch_copied.proofs.Wrapping.{wrap}
use Rattle.ch_order.proofs.Euclid.{split}
use Rattle.ch_copied.proofs.Multiples.{times_more}
use Rattle.ch_copied.proofs.Lists.{parts_same}

-- the subscripts differ by less than the extents
abbrev pub Within : List ℤ → List ℤ → List ℕ → Type 0
Within [] [] [] = Unit {0}
Within [] [] (e ∷ es) = ⊥
Within [] (d ∷ ds) es = ⊥
Within (c ∷ cs) [] es = ⊥
Within (c ∷ cs) (d ∷ ds) [] = ⊥
Within (c ∷ cs) (d ∷ ds) (e ∷ es) = (unsigned_abs (c -ℤ d) < e) × Within cs ds es

pub raised_length : (cs ds : List ℤ) (es : List ℕ) → length (raised cs ds es) ≡ length es
raised_length [] ds es = refl
raised_length (c ∷ cs) [] es = refl
raised_length (c ∷ cs) (d ∷ ds) [] = refl
raised_length (c ∷ cs) (d ∷ ds) (e ∷ es) = ap (λ n. suc n) (raised_length cs ds es)

raised_has : (cs ds : List ℤ) (es : List ℕ) → length cs ≡ length es → length ds ≡ length es → Within cs ds (raised cs ds es)
raised_has [] [] [] h g = tt
raised_has [] [] (e ∷ es) h g = absurd (omega arith)
raised_has [] (d ∷ ds) [] h g = absurd (omega arith)
raised_has [] (d ∷ ds) (e ∷ es) h g = absurd (omega arith)
raised_has (c ∷ cs) [] [] h g = absurd (omega arith)
raised_has (c ∷ cs) [] (e ∷ es) h g = absurd (omega arith)
raised_has (c ∷ cs) (d ∷ ds) [] h g = absurd (omega arith)
raised_has (c ∷ cs) (d ∷ ds) (e ∷ es) h g = (omega arith, raised_has cs ds es (omega arith) (omega arith))

raised_keeps : (cs ds ys zs : List ℤ) (es : List ℕ) → Within cs ds es → Within cs ds (raised ys zs es)
raised_keeps cs ds [] zs es w = w
raised_keeps cs ds (y ∷ ys) [] es w = w
raised_keeps cs ds (y ∷ ys) (z ∷ zs) [] w = w
raised_keeps [] [] (y ∷ ys) (z ∷ zs) (e ∷ es) w = absurd w
raised_keeps [] (d ∷ ds) (y ∷ ys) (z ∷ zs) (e ∷ es) w = absurd w
raised_keeps (c ∷ cs) [] (y ∷ ys) (z ∷ zs) (e ∷ es) w = absurd w
raised_keeps (c ∷ cs) (d ∷ ds) (y ∷ ys) (z ∷ zs) (e ∷ es) w = let l = w.0 in (omega arith, raised_keeps cs ds ys zs es w.1)

pub raised_by_length : (u : Use) (vs : List Use) (es : List ℕ) → length (raised_by u vs es) ≡ length es
raised_by_length u [] es = refl
raised_by_length u (v ∷ vs) es = elim (cases_Bool (same_numbers u.prefix v.prefix)) as (λ _. length (raised_by u (v ∷ vs) es) ≡ length es) [
  | inl h ↦ rw h (raised_length u.cell v.cell (raised_by u vs es) ∙ raised_by_length u vs es)
  | inr h ↦ rw h (raised_by_length u vs es)
]

pub raised_by_all_length : (us vs : List Use) (es : List ℕ) → length (raised_by_all us vs es) ≡ length es
raised_by_all_length [] vs es = refl
raised_by_all_length (u ∷ us) vs es = raised_by_length u vs (raised_by_all us vs es) ∙ raised_by_all_length us vs es

raised_by_keeps : (cs ds : List ℤ) (u : Use) (vs : List Use) (es : List ℕ) → Within cs ds es → Within cs ds (raised_by u vs es)
raised_by_keeps cs ds u [] es w = w
raised_by_keeps cs ds u (v ∷ vs) es w = elim (cases_Bool (same_numbers u.prefix v.prefix)) as (λ _. Within cs ds (raised_by u (v ∷ vs) es)) [
  | inl h ↦ rw h (raised_keeps cs ds u.cell v.cell (raised_by u vs es) (raised_by_keeps cs ds u vs es w))
  | inr h ↦ rw h (raised_by_keeps cs ds u vs es w)
]

raised_by_has : (u v : Use) (vs : List Use) (es : List ℕ) → In v vs → same_numbers u.prefix v.prefix ≡ true → length u.cell ≡ length es → length v.cell ≡ length es
    → Within u.cell v.cell (raised_by u vs es)
raised_by_has u v [] es i h m n = absurd i
raised_by_has u v (w ∷ vs) es (inl e) h m n =
    subst (λ (z : Use). Within u.cell v.cell (raised_by u (z ∷ vs) es)) (sym e)
    (rw h (raised_has u.cell v.cell (raised_by u vs es) (m ∙ sym (raised_by_length u vs es)) (n ∙ sym (raised_by_length u vs es))))
raised_by_has u v (w ∷ vs) es (inr i) h m n = elim (cases_Bool (same_numbers u.prefix w.prefix)) as (λ _. Within u.cell v.cell (raised_by u (w ∷ vs) es)) [
  | inl g ↦ rw g (raised_keeps u.cell v.cell u.cell w.cell (raised_by u vs es) (raised_by_has u v vs es i h m n))
  | inr g ↦ rw g (raised_by_has u v vs es i h m n)
]

raised_by_all_has : (u v : Use) (us vs : List Use) (es : List ℕ) → In u us → In v vs → same_numbers u.prefix v.prefix ≡ true → length u.cell ≡ length es → length v.cell ≡ length es
    → Within u.cell v.cell (raised_by_all us vs es)
raised_by_all_has u v [] vs es i j h m n = absurd i
raised_by_all_has u v (w ∷ us) vs es (inl e) j h m n =
    subst (λ (z : Use). Within u.cell v.cell (raised_by z vs (raised_by_all us vs es))) (sym e)
    (raised_by_has u v vs (raised_by_all us vs es) j h (m ∙ sym (raised_by_all_length us vs es)) (n ∙ sym (raised_by_all_length us vs es)))
raised_by_all_has u v (w ∷ us) vs es (inr i) j h m n = raised_by_keeps u.cell v.cell w vs (raised_by_all us vs es) (raised_by_all_has u v us vs es i j h m n)

ones_length : (cs : List ℤ) → length {A = ℕ} (map (λ c. 1) cs) ≡ length cs
ones_length [] = refl
ones_length (c ∷ cs) = ap (λ n. suc n) (ones_length cs)

pub extents_within : (m : ℕ) (us : List Use) → ((u : Use) → In u us → length u.cell ≡ m) → (u v : Use) → In u us → In v us
    → same_numbers u.prefix v.prefix ≡ true → Within u.cell v.cell (extents us)
extents_within m [] h u v i j s = absurd i
extents_within m (w ∷ us) h u v i j s =
    let k = ones_length w.cell ∙ h w (inl refl) in
    raised_by_all_has u v (w ∷ us) (w ∷ us) (map (λ c. 1) w.cell) i j s (h u i ∙ sym k) (h v j ∙ sym k)

pub extents_length : (m : ℕ) (us : List Use) → ((u : Use) → In u us → length u.cell ≡ m) → (u : Use) → In u us → length (extents us) ≡ m
extents_length m [] h u i = absurd i
extents_length m (w ∷ us) h u i = raised_by_all_length (w ∷ us) (w ∷ us) (map (λ c. 1) w.cell) ∙ ones_length w.cell ∙ h w (inl refl)

far : (q r : ℤ) (e : ℕ) (b : ℤ) → q <ℤ r → e ≤ unsigned_abs ((q *ℤ pos e +ℤ b) -ℤ (r *ℤ pos e +ℤ b))
far q r e b h =
    let n = unsigned_abs (r -ℤ q) in
    let there : r ≡ q +ℤ pos (unsigned_abs (r -ℤ q)) = omega (arith, ints) in
    let some : 1 ≤ unsigned_abs (r -ℤ q) = omega (arith, ints) in
    let made : r *ℤ pos e ≡ q *ℤ pos e +ℤ pos (unsigned_abs (r -ℤ q) * e) = ap (λ z. z *ℤ pos e) there ∙ times_more q (unsigned_abs (r -ℤ q)) e in
    let long : 1 * e ≤ unsigned_abs (r -ℤ q) * e = mul-le-mul_right e some in
    omega (arith, ints)

turned : (c d : ℤ) → unsigned_abs (c -ℤ d) ≡ unsigned_abs (d -ℤ c)
turned c d = omega (arith, ints)

-- numbers that differ by less than the modulus have different remainders
same_number : (c d : ℤ) (e : ℕ) → unsigned_abs (c -ℤ d) < e → int_rem_euclid c (pos e) ≡ int_rem_euclid d (pos e) → c ≡ d
same_number c d e l same = by (int_cmp q r) (int_ranked q r (int_cmp q r) refl)
  where
    q : ℤ
    q = int_div_euclid c (pos e)

    r : ℤ
    r = int_div_euclid d (pos e)

    b : ℤ
    b = int_rem_euclid c (pos e)

    some : 0 < e
    some = omega arith

    made : c ≡ q *ℤ pos e +ℤ b
    made = split c e some

    other : d ≡ r *ℤ pos e +ℤ b
    other = split d e some ∙ ap (λ z. r *ℤ pos e +ℤ z) (sym same)

    by : (o : Ordering) → MatchOrdering o (q <ℤ r) (q ≡ r) (r <ℤ q) → c ≡ d
    by Less h = let f = far q r e b h in let g = ap₂ (λ x y. unsigned_abs (x -ℤ y)) made other in absurd (omega arith)
    by Equal h = made ∙ ap (λ z. z *ℤ pos e +ℤ b) h ∙ sym other
    by Greater h = let f = far r q e b h in let g = ap₂ (λ x y. unsigned_abs (x -ℤ y)) other made in let t = turned c d in absurd (omega arith)

pub wrap_same : (cs ds : List ℤ) (es : List ℕ) → Within cs ds es → wrap es cs ≡ wrap es ds → cs ≡ ds
wrap_same [] [] [] w h = refl
wrap_same [] [] (e ∷ es) w h = absurd w
wrap_same [] (d ∷ ds) es w h = absurd w
wrap_same (c ∷ cs) [] es w h = absurd w
wrap_same (c ∷ cs) (d ∷ ds) [] w h = absurd w
wrap_same (c ∷ cs) (d ∷ ds) (zero ∷ es) w h = let l = w.0 in absurd (omega arith)
wrap_same (c ∷ cs) (d ∷ ds) (suc e ∷ es) w h =
    let p = parts_same (modulo (suc e) c) (modulo (suc e) d) (wrap es cs) (wrap es ds) h in
    ap₂ (λ x xs. x ∷ xs) (same_number c d (suc e) w.0 p.0) (wrap_same cs ds es w.1 p.1)
