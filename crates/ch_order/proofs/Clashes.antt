-- Two steps conflict where they write one cell, or one of them reads what the other writes.
use Rattle.std.proofs.Common.{◌≡◌, refl, sym, ap, ap₂, ◌∙◌, subst, ℤ, Bool, true, false, ◌&&◌, ◌||◌, Option, Some, None, is_some, List, [], ◌∷◌, ◌++◌, map, ◌⊎◌, inl, inr}
use Rattle.std.proofs.lemmas.Bool.{cases_Bool, or_parts}
use Rattle.ch_nest.specs.declared.nest.Access.{Access}
use Rattle.ch_nest.specs.declared.nest.Expr.{Expr}
use Rattle.ch_nest.specs.declared.nest.Expr.TheVariants.{Add, Sub, Mul}
use Rattle.ch_timed.specs.declared.element.Cell.{Cell}
use Rattle.ch_timed.specs.Timed.{Step}
use Rattle.ch_timed.specs.Conflict.{cell_of, cells_of, same_cell, has_cell, writes_cell, clash, chosen, conflict, reads, written}
use Rattle.ch_timed.specs.Members.{Each}
use Rattle.ch_timed.proofs.Rolls.{reads_add, reads_sub, reads_mul}
use Rattle.ch_order.proofs.Commutes.{apart_from, same_cell_is, same_cell_turned, writes_last, has_each}

or_assoc : (s t u : Bool) → (s || (t || u)) ≡ ((s || t) || u)
or_assoc true t u = refl
or_assoc false t u = refl

pub has_both : (c : Cell) (iters : List ℤ) (xs ys : List Access) → has_cell c (map (cell_of iters) (xs ++ ys)) ≡ (has_cell c (map (cell_of iters) xs) || has_cell c (map (cell_of iters) ys))
has_both c iters [] ys = refl
has_both c iters (x ∷ xs) ys = ap (λ t. same_cell c (cell_of iters x) || t) (has_both c iters xs ys) ∙ or_assoc (same_cell c (cell_of iters x)) _ _

has_last : (c d : Cell) (cs : List Cell) → has_cell c (cs ++ d ∷ []) ≡ (has_cell c cs || same_cell c d)
has_last c d [] = or_none (same_cell c d)
  where
    or_none : (t : Bool) → (t || false) ≡ t
    or_none true = refl
    or_none false = refl
has_last c d (e ∷ cs) = ap (λ t. same_cell c e || t) (has_last c d cs) ∙ or_assoc (same_cell c e) _ _

has_none : (w : Cell) (cs : List Cell) → Each (λ c. same_cell c w ≡ false) cs → has_cell w cs ≡ false
has_none w [] h = refl
has_none w (c ∷ cs) h = ap₂ (λ s t. s || t) (same_cell_turned c w h.0) (has_none w cs h.1)

none_clash : (ours theirs cs : List Cell) → Each (λ c. (has_cell c theirs && (writes_cell c ours || writes_cell c theirs)) ≡ false) cs → clash ours theirs cs ≡ None
none_clash ours theirs [] h = refl
none_clash ours theirs (c ∷ cs) h = ap (λ t. chosen t c (clash ours theirs cs)) h.0 ∙ none_clash ours theirs cs h.1

-- a cell that is read by the one, where the other doesn't write it and doesn't access what the one writes
read_free : (c wa wb : Cell) (ours theirs : List Cell) → same_cell wb c ≡ false → has_cell wa (theirs ++ wb ∷ []) ≡ false
    → (has_cell c (theirs ++ wb ∷ []) && (writes_cell c (ours ++ wa ∷ []) || writes_cell c (theirs ++ wb ∷ []))) ≡ false
read_free c wa wb ours theirs n h = elim (cases_Bool (same_cell c wa)) as (λ _. (has_cell c (theirs ++ wb ∷ []) && (writes_cell c (ours ++ wa ∷ []) || writes_cell c (theirs ++ wb ∷ []))) ≡ false) [
  | inl e ↦
      let free : has_cell c (theirs ++ wb ∷ []) ≡ false = subst (λ d. has_cell d (theirs ++ wb ∷ []) ≡ false) (sym (same_cell_is c wa e)) h in
      ap (λ t. t && (writes_cell c (ours ++ wa ∷ []) || writes_cell c (theirs ++ wb ∷ []))) free
  | inr e ↦
      ap₂ (λ s t. has_cell c (theirs ++ wb ∷ []) && (s || t)) (writes_last c wa ours ∙ e) (writes_last c wb theirs ∙ same_cell_turned wb c n)
      ∙ and_none (has_cell c (theirs ++ wb ∷ []))
]
  where
    and_none : (t : Bool) → (t && false) ≡ false
    and_none true = refl
    and_none false = refl

reads_free : (wa wb : Cell) (ours theirs cs : List Cell) → Each (λ c. same_cell wb c ≡ false) cs → has_cell wa (theirs ++ wb ∷ []) ≡ false
    → Each (λ c. (has_cell c (theirs ++ wb ∷ []) && (writes_cell c (ours ++ wa ∷ []) || writes_cell c (theirs ++ wb ∷ []))) ≡ false) (cs ++ wa ∷ [])
reads_free wa wb ours theirs [] n h = (ap (λ t. t && (writes_cell wa (ours ++ wa ∷ []) || writes_cell wa (theirs ++ wb ∷ []))) h, tt)
reads_free wa wb ours theirs (c ∷ cs) n h = (read_free c wa wb ours theirs n.0 h, reads_free wa wb ours theirs cs n.1 h)

tested : (o : Option Cell) (t : Bool) → (o ≡ None → t ≡ false) → (t ≡ false → o ≡ None) → is_some o ≡ t
tested None t f g = sym (f refl)
tested (Some c) true f g = refl
tested (Some c) false f g = let e : Some c ≡ None = g refl in cc

pub conflict_is : (a b : Step) → is_some (conflict a b)
    ≡ (same_cell (written a) (written b) || (has_cell (written a) (map (cell_of b.identity.iters) (reads b.body.right)) || has_cell (written b) (map (cell_of a.identity.iters) (reads a.body.right))))
conflict_is a b =
    let wa = written a in
    let wb = written b in
    let ours = map (cell_of a.identity.iters) (reads a.body.right) in
    let theirs = map (cell_of b.identity.iters) (reads b.body.right) in
    tested (conflict a b) (same_cell wa wb || (has_cell wa theirs || has_cell wb ours))
    (λ h. let p = apart_from a b h in ap₂ (λ s t. s || t) p.writes (ap₂ (λ s t. s || t) (has_none wa theirs p.theirs) (has_none wb ours p.ours)))
    (λ h. let p = or_parts (same_cell wa wb) (has_cell wa theirs || has_cell wb ours) h in
    let q = or_parts (has_cell wa theirs) (has_cell wb ours) p.1 in
    none_clash (cells_of a) (cells_of b) (cells_of a) (reads_free wa wb ours theirs ours (has_each wb ours q.1) (has_last wa wb theirs ∙ ap₂ (λ s t. s || t) q.0 p.0)))

-- a right side of two parts reads what they read
pub reads_parts : (e x y v w : Expr) (c : Cell) (iters : List ℤ) → v ≡ x → w ≡ y → (e ≡ Add x y) ⊎ ((e ≡ Sub x y) ⊎ (e ≡ Mul x y))
    → has_cell c (map (cell_of iters) (reads e)) ≡ (has_cell c (map (cell_of iters) (reads v)) || has_cell c (map (cell_of iters) (reads w)))
reads_parts e x y v w c iters ev ew is = whole is ∙ has_both c iters (reads x) (reads y) ∙ ap₂ (λ s t. has_cell c (map (cell_of iters) (reads s)) || has_cell c (map (cell_of iters) (reads t))) (sym ev) (sym ew)
  where
    whole : (e ≡ Add x y) ⊎ ((e ≡ Sub x y) ⊎ (e ≡ Mul x y)) → has_cell c (map (cell_of iters) (reads e)) ≡ has_cell c (map (cell_of iters) (reads x ++ reads y))
    whole (inl i) = ap (λ z. has_cell c (map (cell_of iters) z)) (ap reads i ∙ reads_add x y)
    whole (inr (inl i)) = ap (λ z. has_cell c (map (cell_of iters) z)) (ap reads i ∙ reads_sub x y)
    whole (inr (inr i)) = ap (λ z. has_cell c (map (cell_of iters) z)) (ap reads i ∙ reads_mul x y)

pub or_first : (r p s : Bool) → r ≡ p → r ≡ true → r ≡ (p || s)
or_first r p s e h = h ∙ sym (ap (λ t. t || s) (sym e ∙ h))

pub or_second : (q p s r : Bool) → q ≡ p → q ≡ false → r ≡ s → r ≡ (p || s)
or_second q p s r e h f = f ∙ sym (ap (λ t. t || s) (sym e ∙ h))
