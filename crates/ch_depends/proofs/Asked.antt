-- Two steps conflict exactly where two accesses name one cell, of which one is the write of its step.
use Rattle.std.proofs.Common.{◌≡◌, ◌≢◌, refl, sym, ap, ◌∙◌, subst, ℤ, true, ◌||◌, Option, Some, None, is_some, List, [], ◌∷◌, map, inl, inr}
use Rattle.std.proofs.lemmas.Bool.{or_cases, or_left, or_right}
use Rattle.ch_depends.specs.Sought.{IsAsked}
use Rattle.ch_nest.specs.declared.nest.Access.{Access}
use Rattle.ch_timed.specs.declared.element.Cell.{Cell}
use Rattle.ch_timed.specs.Conflict.{cell_of, conflict, has_cell, reads, same_cell, written}
use Rattle.ch_timed.specs.Members.{In}
use Rattle.ch_timed.specs.Timed.{Step}
use Rattle.ch_order.proofs.Clashes.{conflict_is}
use Rattle.ch_order.proofs.Commutes.{same_cell_is, same_cell_self}

-- the access of a cell that a list of cells has
has_access : (c : Cell) (iters : List ℤ) (xs : List Access) → has_cell c (map (cell_of iters) xs) ≡ true → (x : Access) × (In x xs × (c ≡ cell_of iters x))
has_access c iters [] h = cc
has_access c iters (x ∷ xs) h = elim (or_cases (same_cell c (cell_of iters x)) (has_cell c (map (cell_of iters) xs)) h) [
  | inl e ↦ (x, (inl refl, same_cell_is c (cell_of iters x) e))
  | inr e ↦ let r = has_access c iters xs e in (r.0, (inr r.1.0, r.1.1))
]

has_by : (c : Cell) (iters : List ℤ) (xs : List Access) (x : Access) → In x xs → c ≡ cell_of iters x → has_cell c (map (cell_of iters) xs) ≡ true
has_by c iters [] x i e = absurd i
has_by c iters (y ∷ ys) x (inl k) e =
    or_left (same_cell c (cell_of iters y)) _ (subst (λ z. same_cell c z ≡ true) (e ∙ ap (cell_of iters) (sym k)) (same_cell_self c))
has_by c iters (y ∷ ys) x (inr i) e = or_right (same_cell c (cell_of iters y)) _ (has_by c iters ys x i e)

pub some_is : {X : Type 0} (o : Option X) → is_some o ≡ true → o ≢ None
some_is None h = cc
some_is (Some x) h = λ e. cc

pub is_some_by : {X : Type 0} (o : Option X) → o ≢ None → is_some o ≡ true
is_some_by None h = absurd (h refl)
is_some_by (Some x) h = refl

-- two such accesses that name one cell
pub record Names (a b : Step) : Type 0 where
  pub access : Access
  pub other : Access
  pub asked : IsAsked a.body b.body access other
  pub cell : cell_of a.identity.iters access ≡ cell_of b.identity.iters other

pub named : (a b : Step) → conflict a b ≢ None → Names a b
named a b n =
    elim (or_cases (same_cell (written a) (written b)) (has_cell (written a) (map (cell_of b.identity.iters) (reads b.body.right)) || has_cell (written b) (map (cell_of a.identity.iters) (reads a.body.right)))
    (sym (conflict_is a b) ∙ is_some_by (conflict a b) n)) as (λ _. Names a b) [
      | inl e ↦ record { access = a.body.write; other = b.body.write; asked = inl (refl, refl); cell = same_cell_is (written a) (written b) e }
      | inr e ↦ elim (or_cases (has_cell (written a) (map (cell_of b.identity.iters) (reads b.body.right))) (has_cell (written b) (map (cell_of a.identity.iters) (reads a.body.right))) e) as (λ _. Names a b) [
        | inl f ↦ let r = has_access (written a) b.identity.iters (reads b.body.right) f in
            record { access = a.body.write; other = r.0; asked = inr (inl (refl, r.1.0)); cell = r.1.1 }
        | inr f ↦ let r = has_access (written b) a.identity.iters (reads a.body.right) f in
            record { access = r.0; other = b.body.write; asked = inr (inr (r.1.0, refl)); cell = sym r.1.1 }
      ]
    ]

conflicts_by : (a b : Step) → (same_cell (written a) (written b) || (has_cell (written a) (map (cell_of b.identity.iters) (reads b.body.right)) || has_cell (written b) (map (cell_of a.identity.iters) (reads a.body.right)))) ≡ true
    → conflict a b ≢ None
conflicts_by a b h = some_is (conflict a b) (conflict_is a b ∙ h)

pub clashing : (a b : Step) (x y : Access) → IsAsked a.body b.body x y → cell_of a.identity.iters x ≡ cell_of b.identity.iters y → conflict a b ≢ None
clashing a b x y (inl k) e =
    let c : written a ≡ written b = ap (cell_of a.identity.iters) (sym k.0) ∙ e ∙ ap (cell_of b.identity.iters) k.1 in
    conflicts_by a b (or_left (same_cell (written a) (written b)) _ (subst (λ z. same_cell (written a) z ≡ true) c (same_cell_self (written a))))
clashing a b x y (inr (inl k)) e =
    let c : written a ≡ cell_of b.identity.iters y = ap (cell_of a.identity.iters) (sym k.0) ∙ e in
    conflicts_by a b (or_right (same_cell (written a) (written b)) _ (or_left _ _ (has_by (written a) b.identity.iters (reads b.body.right) y k.1 c)))
clashing a b x y (inr (inr k)) e =
    let c : written b ≡ cell_of a.identity.iters x = sym (e ∙ ap (cell_of b.identity.iters) k.1) in
    conflicts_by a b (or_right (same_cell (written a) (written b)) _ (or_right _ _ (has_by (written b) a.identity.iters (reads a.body.right) x k.0 c)))
