-- Bounds that say nothing beside others, and bounds without variables, whose divisor is 1 then.
use Rattle.std.proofs.Common.{◌≡◌, refl, sym, ap, ◌∙◌, subst, ℕ, ◌+◌, ◌<◌, ◌≤◌, ◌⊎◌, inl, inr, ℤ, pos, ◌*ℤ◌, Bool, true, false, nat_eq, nat_le, List, [], ◌∷◌, ◌++◌, length, take, get_or, arith, length-append}
use Rattle.std.specs.List.{All, list_all}
use Rattle.std.proofs.lemmas.Bool.{and_from, and_parts}
use Rattle.std.proofs.lemmas.Bool.Decides.{nat_tests}
use Rattle.std.proofs.lemmas.Int.{ints}
use Rattle.std.proofs.lemmas.List.{take_all, take_more}
use Rattle.ch_affine.specs.Affine.{dot}
use Rattle.ch_code.specs.declared.code.Bound.{Bound}
use Rattle.ch_code.specs.WellFormed.{bound_fits, form_fits}
use Rattle.ch_timed.specs.Members.{Each}
use Rattle.ch_codegen.specs.Bounds.{Adds, Implies, IsBeyond, IsNumber, IsSaid, Meets, Replaces, Thins, end_of}
use Rattle.ch_codegen.proofs.Fixes.{down_from, down_to, each_at, number_value, up_from, up_to}

pub implied : (is_low : Bool) (b c : Bound) → b.divisor ≡ c.divisor → b.form.coefs ≡ c.form.coefs → IsBeyond is_low b.form.constant c.form.constant → Implies is_low b c
implied true b c d f g xs x h =
    let s : dot b.form.coefs xs ≡ dot c.form.coefs xs = ap (λ cs. dot cs xs) f in
    let t : pos b.divisor *ℤ x ≡ pos c.divisor *ℤ x = ap (λ n. pos n *ℤ x) d in
    omega (arith, ints, s, t, g, h)
implied false b c d f g xs x h =
    let s : dot b.form.coefs xs ≡ dot c.form.coefs xs = ap (λ cs. dot cs xs) f in
    let t : pos b.divisor *ℤ x ≡ pos c.divisor *ℤ x = ap (λ n. pos n *ℤ x) d in
    omega (arith, ints, s, t, g, h)

pub said_by : (is_low : Bool) (bounds : List Bound) (b other : Bound) (k : ℕ) → k < length bounds → other ≡ get_or bounds k other → Implies is_low other b → IsSaid is_low bounds b
said_by is_low bounds b other k l e h xs x met = h xs x (each_at (Meets is_low xs x) bounds k other l e met)

each_both : {X : Type 0} (P : X → Type 0) (xs ys : List X) → Each P (xs ++ ys) → Each P xs × Each P ys
each_both P [] ys h = (tt, h)
each_both P (x ∷ xs) ys h = let r = each_both P xs ys h.1 in ((h.0, r.0), r.1)

each_join : {X : Type 0} (P : X → Type 0) (xs ys : List X) → Each P xs → Each P ys → Each P (xs ++ ys)
each_join P [] ys h k = k
each_join P (x ∷ xs) ys h k = (h.0, each_join P xs ys h.1 k)

all_both : (d : ℕ) (bs cs : List Bound) → list_all (bound_fits d) (bs ++ cs) ≡ true → (list_all (bound_fits d) bs ≡ true) × (list_all (bound_fits d) cs ≡ true)
all_both d [] cs h = (refl, h)
all_both d (b ∷ bs) cs h =
    let p = and_parts (bound_fits d b) (list_all (bound_fits d) (bs ++ cs)) h in
    let r = all_both d bs cs p.1 in
    (and_from _ _ p.0 r.0, r.1)

all_join : (d : ℕ) (bs cs : List Bound) → list_all (bound_fits d) bs ≡ true → list_all (bound_fits d) cs ≡ true → list_all (bound_fits d) (bs ++ cs) ≡ true
all_join d [] cs h k = k
all_join d (b ∷ bs) cs h k =
    let p = and_parts (bound_fits d b) (list_all (bound_fits d) bs) h in
    and_from _ _ p.0 (all_join d bs cs p.1 k)

pub thins_none : (is_low : Bool) (new : Bound) → Thins is_low new [] []
thins_none is_low new = record { fit = λ d h. h; from = λ xs x m h. h; to = λ xs x h. h }

thins_push : (is_low : Bool) (new b : Bound) (bounds kept : List Bound) → Thins is_low new bounds kept → Thins is_low new (bounds ++ b ∷ []) (kept ++ b ∷ [])
thins_push is_low new b bounds kept t = record {
  fit = λ d h. let p = all_both d bounds (b ∷ []) h in all_join d kept (b ∷ []) (t.fit d p.0) p.1;
  from = λ xs x m h. let p = each_both (Meets is_low xs x) kept (b ∷ []) h in each_join (Meets is_low xs x) bounds (b ∷ []) (t.from xs x m p.0) p.1;
  to = λ xs x h. let p = each_both (Meets is_low xs x) bounds (b ∷ []) h in each_join (Meets is_low xs x) kept (b ∷ []) (t.to xs x p.0) p.1;
}

thins_drop : (is_low : Bool) (new b : Bound) (bounds kept : List Bound) → Implies is_low new b → Thins is_low new bounds kept → Thins is_low new (bounds ++ b ∷ []) kept
thins_drop is_low new b bounds kept i t = record {
  fit = λ d h. t.fit d (all_both d bounds (b ∷ []) h).0;
  from = λ xs x m h. each_join (Meets is_low xs x) bounds (b ∷ []) (t.from xs x m h) (i xs x m, tt);
  to = λ xs x h. t.to xs x (each_both (Meets is_low xs x) bounds (b ∷ []) h).0;
}

pub thins_more : (is_low : Bool) (new b : Bound) (bounds : List Bound) (k : ℕ) (kept all : List Bound) → k < length bounds → b ≡ get_or bounds k b
    → (all ≡ kept ++ b ∷ []) ⊎ ((all ≡ kept) × Implies is_low new b) → Thins is_low new (take k bounds) kept → Thins is_low new (take (k + 1) bounds) all
thins_more is_low new b bounds k kept all l e s t =
    let more : take (k + 1) bounds ≡ take k bounds ++ b ∷ [] = take_more bounds k b l ∙ ap (λ z. take k bounds ++ z ∷ []) (sym e) in
    subst (λ bs. Thins is_low new bs all) (sym more) (elim s as (λ _. Thins is_low new (take k bounds ++ b ∷ []) all) [
      | inl i ↦ subst (Thins is_low new (take k bounds ++ b ∷ [])) (sym i) (thins_push is_low new b (take k bounds) kept t)
      | inr i ↦ subst (Thins is_low new (take k bounds ++ b ∷ [])) (sym i.0) (thins_drop is_low new b (take k bounds) kept i.1 t)
    ])

pub thins_whole : (is_low : Bool) (new : Bound) (bounds : List Bound) (k : ℕ) (kept : List Bound) → length bounds ≤ k → Thins is_low new (take k bounds) kept → Thins is_low new bounds kept
thins_whole is_low new bounds k kept l t = subst (λ bs. Thins is_low new bs kept) (take_all k bounds l) t

le_true : (n m : ℕ) → n ≤ m → nat_le n m ≡ true
le_true n m l = grind (arith, nat_tests, l)

pub adds_said : (is_low : Bool) (bounds : List Bound) (b : Bound) → IsSaid is_low bounds b → Adds is_low bounds b bounds
adds_said is_low bounds b s = record { fit = λ d h f. h; old = λ xs x h. h; told = s; kept = λ xs x h m. h }

pub adds_thin : (is_low : Bool) (bounds kept all : List Bound) (b : Bound) → Thins is_low b bounds kept → all ≡ kept ++ b ∷ [] → Adds is_low bounds b all
adds_thin is_low bounds kept all b t is = subst (Adds is_low bounds b) (sym is) (record {
  fit = λ d h f.
      let p = and_parts (nat_le 1 (length bounds)) (list_all (bound_fits d) bounds) h in
      let l = length-append kept (b ∷ []) in
      and_from _ _ (le_true 1 (length (kept ++ b ∷ [])) (omega (arith, l))) (all_join d kept (b ∷ []) (t.fit d p.1) (and_from _ _ f refl));
  old = λ xs x h. let p = each_both (Meets is_low xs x) kept (b ∷ []) h in t.from xs x p.1.0 p.0;
  told = λ xs x h. (each_both (Meets is_low xs x) kept (b ∷ []) h).1.0;
  kept = λ xs x h m. each_join (Meets is_low xs x) kept (b ∷ []) (t.to xs x h) (m, tt);
})

pub adds_replaced : (is_low : Bool) (bounds all : List Bound) (b c : Bound) → Replaces is_low b c → Adds is_low bounds c all → Adds is_low bounds b all
adds_replaced is_low bounds all b c r a = record {
  fit = λ d h f. a.fit d h (r.fit d f);
  old = a.old;
  told = λ xs x h. r.from xs x (a.told xs x h);
  kept = λ xs x h m. a.kept xs x h (r.to xs x m);
}

pub replaces_itself : (is_low : Bool) (b c : Bound) → c ≡ b → Replaces is_low b c
replaces_itself is_low b c is = subst (Replaces is_low b) (sym is) (record { fit = λ d h. h; from = λ xs x h. h; to = λ xs x h. h })

once : (x : ℤ) → pos 1 *ℤ x ≡ x
once x = omega (arith, ints)

whole_value : (c : Bound) (xs : List ℤ) (x : ℤ) → c.divisor ≡ 1 → pos c.divisor *ℤ x ≡ x
whole_value c xs x d = ap (λ n. pos n *ℤ x) d ∙ once x

pub replaced : (is_low : Bool) (b c : Bound) → IsNumber b → 1 ≤ b.divisor → c.form.coefs ≡ b.form.coefs → c.form.constant ≡ end_of is_low b → c.divisor ≡ 1 → Replaces is_low b c
replaced is_low b c n s f e d = record { fit = fits; from = from is_low e; to = to is_low e }
  where
    number : IsNumber c
    number = subst (All (λ z. z ≡ pos 0)) (sym f) n

    fits : (k : ℕ) → bound_fits k b ≡ true → bound_fits k c ≡ true
    fits k h =
        let p = and_parts (form_fits k b.form) (nat_le 1 b.divisor) h in
        and_from _ _ (ap (λ cs. nat_eq (length cs) k) f ∙ p.0) (ap (nat_le 1) d)

    from : (low : Bool) → c.form.constant ≡ end_of low b → Implies low c b
    from true g xs x h =
        let v = number_value c xs number in
        let w = whole_value c xs x d in
        up_to b xs x n s (omega (arith, ints, g, v, w, h))
    from false g xs x h =
        let v = number_value c xs number in
        let w = whole_value c xs x d in
        down_to b xs x n s (omega (arith, ints, g, v, w, h))

    to : (low : Bool) → c.form.constant ≡ end_of low b → Implies low b c
    to true g xs x h =
        let v = number_value c xs number in
        let w = whole_value c xs x d in
        let u = up_from b xs x n s h in
        omega (arith, ints, g, v, w, u)
    to false g xs x h =
        let v = number_value c xs number in
        let w = whole_value c xs x d in
        let u = down_from b xs x n s h in
        omega (arith, ints, g, v, w, u)
