-- One more point of the scan.
use Rattle.std.proofs.Common.{◌≡◌, refl, sym, ap, ap₂, ◌∙◌, subst, ℕ, suc, ◌+◌, ◌<◌, ℤ, Bool, true, false, ◌&&◌, nat_lt, if◌then◌else◌, Option, Some, None, List, add-one}
use Rattle.std.specs.List.{list_all}
use Rattle.ch_affine.specs.Form.{Form}
use Rattle.ch_grid.specs.declared.param.Param.{Param}
use Rattle.ch_grid.specs.Grid.{sizes}
use Rattle.ch_grid.specs.Points.{count, is_point, number}
use Rattle.ch_constrain.specs.declared.search.Found.{Found}
use Rattle.ch_constrain.specs.Nearest.{distance, is_admissible, is_met, is_nearer, nearest, nearest_of, point_at, values}
use Rattle.ch_constrain.specs.Scanned.{Finds, IsFound, is_before}
use Rattle.ch_constrain.proofs.Numbered.{number_back, point_back, point_in}

before_is : (params : List Param) (point other : List ℕ) (f : Found) (best : Option Found) (prev : Option (List ℕ))
    → Finds params point best prev → f.distance ≡ distance point other → is_before f best ≡ is_nearer point other prev
before_is params point other f None None m e = refl
before_is params point other f (Some b) (Some p) m e = ap₂ nat_lt e m.far
before_is params point other f None (Some p) m e = absurd m
before_is params point other f (Some b) None m e = absurd m

module _ (params : List Param) (rows : List Form) (point other : List ℕ) (k : ℕ) (f : Found) where
  taken : (t : Bool) (best : Option Found) (prev : Option (List ℕ)) → IsFound params point f (point_at (sizes params) k) → Finds params point best prev
      → Finds params point (if t then Some f else best) (if t then Some (point_at (sizes params) k) else prev)
  taken true best prev i m = i
  taken false best prev i m = m

  scanned : (best : Option Found) → other ≡ point_at (sizes params) k → f.number ≡ k → k < count (sizes params) → f.distance ≡ distance point other
      → Finds params point best (nearest_of params rows point k)
      → Finds params point (if list_all (is_met (values params other)) rows && is_before f best then Some f else best) (nearest_of params rows point (k + 1))
  scanned best is e l d m =
      let n : is_before f best ≡ is_nearer point (point_at (sizes params) k) (nearest_of params rows point k) =
      before_is params point other f best (nearest_of params rows point k) m d ∙ ap (λ o. is_nearer point o (nearest_of params rows point k)) is in
      let a : list_all (is_met (values params other)) rows ≡ is_admissible params rows (point_at (sizes params) k) = ap (is_admissible params rows) is in
      let found : IsFound params point f (point_at (sizes params) k) = record {
        below = subst (λ z. z < count (sizes params)) (sym e) l;
        is = ap (point_at (sizes params)) e;
        far = d ∙ ap (distance point) is;
      } in
      subst (λ z. Finds params point (if list_all (is_met (values params other)) rows && is_before f best then Some f else best) (nearest_of params rows point z)) (sym (add-one k))
      (subst (λ t. Finds params point (if t then Some f else best) (nearest_of params rows point (suc k))) (sym (ap₂ ◌&&◌ a n))
      (taken (is_admissible params rows (point_at (sizes params) k) && is_nearer point (point_at (sizes params) k) (nearest_of params rows point k)) best (nearest_of params rows point k) found m))

  -- the same where the numbers are known to be the values
  pub scanned_numbers : (numbers : List ℤ) (best next : Option Found) → next ≡ (if list_all (is_met numbers) rows && is_before f best then Some f else best) → numbers ≡ values params other
      → other ≡ point_at (sizes params) k → f.number ≡ k → k < count (sizes params) → f.distance ≡ distance point other → Finds params point best (nearest_of params rows point k)
      → Finds params point next (nearest_of params rows point (k + 1))
  scanned_numbers numbers best next h v is e l d m =
      subst (λ o. Finds params point o (nearest_of params rows point (k + 1))) (sym (h ∙ ap (λ w. if list_all (is_met w) rows && is_before f best then Some f else best) v))
      (scanned best is e l d m)

-- the point that stands there is that of its number
pub is_at : (ns other : List ℕ) (k : ℕ) → is_point ns other ≡ true → number ns other ≡ k → other ≡ point_at ns k
is_at ns other k h e = sym (point_back ns other h) ∙ ap (point_at ns) e

-- what was found, at the end
pub none_found : (params : List Param) (point : List ℕ) (o : Option (List ℕ)) → Finds params point None o → None ≡ o
none_found params point None m = refl
none_found params point (Some p) m = absurd m

pub found_below : (params : List Param) (point : List ℕ) (f : Found) (o : Option (List ℕ)) → Finds params point (Some f) o → f.number < count (sizes params)
found_below params point f None m = absurd m
found_below params point f (Some p) m = m.below

pub one_found : (params : List Param) (point : List ℕ) (f : Found) (o : Option (List ℕ)) → Finds params point (Some f) o → Some (point_at (sizes params) f.number) ≡ o
one_found params point f None m = absurd m
one_found params point f (Some p) m = ap Some m.is

-- at the end all points were looked at
pub all_scanned : (params : List Param) (rows : List Form) (point : List ℕ) (best : Option Found) (k : ℕ) → k ≡ count (sizes params) → Finds params point best (nearest_of params rows point k)
    → Finds params point best (nearest params rows point)
all_scanned params rows point best k e m = subst (λ z. Finds params point best (nearest_of params rows point z)) e m

-- the first point
pub first_number : (ns other : List ℕ) → other ≡ point_at ns 0 → 0 < count ns → (is_point ns other ≡ true) × (number ns other ≡ 0)
first_number ns other e l = (subst (λ z. is_point ns z ≡ true) (sym e) (point_in ns 0 l), ap (number ns) e ∙ number_back ns 0 l)
