-- Two elements without a conflict may change places.
use Rattle.std.proofs.Common.{◌≡◌, refl, sym, ap, ◌∙◌, subst, ℤ, Bool, true, false, ◌&&◌, ◌||◌, if◌then◌else◌, Option, None, List, [], ◌∷◌, ◌++◌, map, inl, inr}
use Rattle.std.proofs.lemmas.Bool.{both_ways, and_parts, or_parts, or_left, or_right, and_cases, false_from_ne_true, and_from, eqb-true, eq-eqb}
use Rattle.std.specs.Ordering.{is_eq}
use Rattle.std.specs.declared.cmp.Ordering.{Ordering}
use Rattle.std.specs.declared.cmp.Ordering.TheVariants.{Less, Equal, Greater}
use Rattle.std.specs.Cmp.{tied_itself, int_cmp_total}
use Rattle.std.specs.Cmp.Lexicographic.{lists_total}
use Rattle.std.specs.FinMap.{slice_cmp-IsAntisymmetric, int_cmp-IsAntisymmetric}
use Rattle.ch_nest.specs.declared.nest.Access.{Access}
use Rattle.ch_timed.proofs.Values.{Agree, each_parts, same_value}
use Rattle.ch_timed.specs.Members.{Each}
use Rattle.ch_timed.specs.declared.element.Cell.{Cell}
use Rattle.ch_timed.specs.Timed.{Step}
use Rattle.ch_timed.specs.Conflict.{cell_of, cells_of, same_cell, has_cell, writes_cell, clash, chosen, conflict, reads, written}
use Rattle.ch_timed.specs.Do.{Store, execute}

-- cells
pub is_eq_Equal : (o : Ordering) → is_eq o ≡ true → o ≡ Equal
is_eq_Equal Less h = cc
is_eq_Equal Equal h = refl
is_eq_Equal Greater h = cc

pub same_cell_is : (c d : Cell) → same_cell c d ≡ true → c ≡ d
same_cell_is c d h =
    let p = and_parts _ _ h in
    let a : c.array ≡ d.array = eqb-true _ _ p.0 in
    let b : c.subs ≡ d.subs = slice_cmp-IsAntisymmetric int_cmp-IsAntisymmetric c.subs d.subs (is_eq_Equal _ p.1) in
    λ i. record { array = a i; subs = b i }

pub same_cell_self : (c : Cell) → same_cell c c ≡ true
same_cell_self c = and_from _ _ (eq-eqb c.array c.array refl) (ap is_eq (tied_itself (lists_total int_cmp_total) c.subs))

pub has_each : (c : Cell) (ds : List Cell) → has_cell c ds ≡ false → Each (λ d. same_cell c d ≡ false) ds
has_each c [] h = tt
has_each c (d ∷ ds) h = let p = or_parts _ _ h in (p.0, has_each c ds p.1)

has_last : (c d : Cell) (ds : List Cell) → same_cell c d ≡ true → has_cell c (ds ++ d ∷ []) ≡ true
has_last c d [] h = or_left _ _ h
has_last c d (e ∷ ds) h = or_right _ _ (has_last c d ds h)

pub writes_last : (c d : Cell) (ds : List Cell) → writes_cell c (ds ++ d ∷ []) ≡ same_cell c d
writes_last c d [] = refl
writes_last c d (e ∷ []) = refl
writes_last c d (e ∷ f ∷ ds) = writes_last c d (f ∷ ds)

chosen_none : (b : Bool) (c : Cell) (more : Option Cell) → chosen b c more ≡ None → (b ≡ false) × (more ≡ None)
chosen_none true c more h = cc
chosen_none false c more h = (refl, h)

clash_none : (ours theirs cs : List Cell) → clash ours theirs cs ≡ None
    → Each (λ c. (has_cell c theirs && (writes_cell c ours || writes_cell c theirs)) ≡ false) cs
clash_none ours theirs [] h = tt
clash_none ours theirs (c ∷ cs) h = let p = chosen_none _ c _ h in (p.0, clash_none ours theirs cs p.1)

same_cell_sym : (c d : Cell) → same_cell c d ≡ true → same_cell d c ≡ true
same_cell_sym c d h = subst (λ e. same_cell e c ≡ true) (same_cell_is c d h) (same_cell_self c)

pub same_cell_turned : (c d : Cell) → same_cell c d ≡ false → same_cell d c ≡ false
same_cell_turned c d h = false_from_ne_true _ (λ e. both_ways _ h (same_cell_sym d c e))

pub each_kept : {X : Type 0} (P Q : X → Type 0) (xs : List X) → ((x : X) → P x → Q x) → Each P xs → Each Q xs
each_kept P Q [] f h = tt
each_kept P Q (x ∷ xs) f h = (f x h.0, each_kept P Q xs f h.1)

pub each_map : {X Y : Type 0} (P : Y → Type 0) (f : X → Y) (xs : List X) → Each P (map f xs) → Each (λ x. P (f x)) xs
each_map P f [] h = tt
each_map P f (x ∷ xs) h = (h.0, each_map P f xs h.1)

-- what is not written by the one is not changed for the other
pub record Apart (a b : Step) : Type 0 where
  pub writes : same_cell (written a) (written b) ≡ false
  pub theirs : Each (λ c. same_cell c (written a) ≡ false) (map (cell_of b.identity.iters) (reads b.body.right))
  pub ours : Each (λ c. same_cell c (written b) ≡ false) (map (cell_of a.identity.iters) (reads a.body.right))

not_written : (c wb : Cell) (theirs : List Cell) (t : Bool) → (has_cell c (theirs ++ wb ∷ []) && (t || writes_cell c (theirs ++ wb ∷ []))) ≡ false → same_cell c wb ≡ false
not_written c wb theirs t e = false_from_ne_true _ (λ same.
    elim (and_cases (has_cell c (theirs ++ wb ∷ [])) (t || writes_cell c (theirs ++ wb ∷ [])) e) [
      | inl f ↦ both_ways _ f (has_last c wb theirs same)
      | inr f ↦ both_ways _ (or_parts t _ f).1 (writes_last c wb theirs ∙ same)
    ])

first_false : (p q : Bool) → (p && q) ≡ false → q ≡ true → p ≡ false
first_false true q h e = absurd (both_ways q h e)
first_false false q h e = refl

pub apart_from : (a b : Step) → conflict a b ≡ None → Apart a b
apart_from a b h =
    let wa = written a in
    let wb = written b in
    let ours = map (cell_of a.identity.iters) (reads a.body.right) in
    let theirs = map (cell_of b.identity.iters) (reads b.body.right) in
    let all = each_parts (λ c. (has_cell c (cells_of b) && (writes_cell c (cells_of a) || writes_cell c (cells_of b))) ≡ false) ours (wa ∷ []) (clash_none (cells_of a) (cells_of b) (cells_of a) h) in
    let mine = first_false (has_cell wa (cells_of b)) (writes_cell wa (cells_of a) || writes_cell wa (cells_of b)) all.1.0
    (or_left _ _ (writes_last wa wa ours ∙ same_cell_self wa)) in
    let others = each_parts (λ d. same_cell wa d ≡ false) theirs (wb ∷ []) (has_each wa (cells_of b) mine) in
    record {
      writes = others.1.0;
      theirs = each_kept _ _ theirs (λ c e. same_cell_turned wa c e) others.0;
      ours = each_kept _ _ ours (λ c e. not_written c wb theirs (writes_cell c (cells_of a)) e) all.0;
    }

pub unwritten : (iters : List ℤ) (b : Step) (s : Store) (accesses : List Access)
    → Each (λ c. same_cell c (written b) ≡ false) (map (cell_of iters) accesses) → Agree iters (execute b s) s accesses
unwritten iters b s accesses h =
    each_kept _ _ accesses (λ a e. rw e refl) (each_map (λ c. same_cell c (written b) ≡ false) (cell_of iters) accesses h)

pub picks : (p q : Bool) (x y x' y' z : ℤ) → (p ≡ true → q ≡ true → ⊥) → x' ≡ x → y' ≡ y
    → (if p then x' else (if q then y else z)) ≡ (if q then y' else (if p then x else z))
picks true true x y x' y' z n e f = absurd (n refl refl)
picks true false x y x' y' z n e f = e
picks false true x y x' y' z n e f = sym f
picks false false x y x' y' z n e f = refl

pub commutes : (a b : Step) → conflict a b ≡ None → (s : Store) → execute a (execute b s) ≡ execute b (execute a s)
commutes a b h s =
    let apart = apart_from a b h in
    let mine = same_value a.identity.iters (execute b s) s a.body.right (unwritten a.identity.iters b s (reads a.body.right) apart.ours) in
    let theirs = same_value b.identity.iters (execute a s) s b.body.right (unwritten b.identity.iters a s (reads b.body.right) apart.theirs) in
    λ i c. picks (same_cell c (written a)) (same_cell c (written b)) _ _ _ _ (s c)
    (λ p q. both_ways _ apart.writes (subst (λ d. same_cell d (written b) ≡ true) (same_cell_is c (written a) p) q)) mine theirs i
