-- Which accesses are moved, and which cells.
use Rattle.std.proofs.Common.{◌≡◌, refl, sym, ap, ap₂, ◌∙◌, subst, ℕ, suc, ℤ, true, List, [], ◌∷◌, map, take, inl, inr}
use Rattle.std.specs.List.{filter, flat_map}
use Rattle.std.proofs.lemmas.Bool.{and_from, and_parts, eqb-true}
use Rattle.ch_nest.specs.declared.nest.Access.{Access}
use Rattle.ch_nest.specs.declared.nest.Body.{Body}
use Rattle.ch_order.specs.Accesses.{same_access}
use Rattle.ch_order.proofs.Accesses.{same_access_is}
use Rattle.ch_timed.specs.declared.element.Element.{Element}
use Rattle.ch_timed.specs.Members.{In}
use Rattle.ch_timed.specs.Conflict.{reads}
use Rattle.ch_timed.specs.Timed.{pieces}
use Rattle.ch_timed.specs.Vectors.{places, same_numbers, shares}
use Rattle.ch_timed.proofs.ClosedUp.{its_piece}
use Rattle.ch_timed.proofs.Orders.{in_map, map_in}
use Rattle.ch_copied.specs.Accesses.{names, read_accesses, written_accesses}
use Rattle.ch_copied.specs.Uses.{Transfer, Use, same_use, transfers, use_of, uses, with_places}
use Rattle.ch_copied.proofs.Different.{different_in, in_different}
use Rattle.ch_copied.proofs.Lists.{filter_in, first_member, flat_in, in_filter, in_flat, in_take}
use Rattle.ch_copied.proofs.Runs.{eq_is}
use Rattle.ch_copied.proofs.Sharing.{are_numbers, numbers_are, numbers_self}

pub use_is : (u v : Use) → same_use u v ≡ true → u ≡ v
use_is u v h =
    let p = and_parts _ _ h in
    let a = numbers_are _ _ p.0 in
    let b = numbers_are _ _ p.1 in
    λ i. record { prefix = a i; cell = b i }

pub use_self : (u : Use) → same_use u u ≡ true
use_self u = and_from _ _ (numbers_self u.prefix) (numbers_self u.cell)

pub read_in : (array : ℕ) (b : Body) (r : Access) → In r (reads b.right) → names array r ≡ true → In r (read_accesses array b)
read_in array b r i h = different_in same_access same_access_is (filter (names array) (reads b.right)) r (filter_in (names array) (reads b.right) r i h)

pub in_read : (array : ℕ) (b : Body) (r : Access) → In r (read_accesses array b) → In r (reads b.right) × (names array r ≡ true)
in_read array b r i = in_filter (names array) (reads b.right) r (in_different same_access (filter (names array) (reads b.right)) r i)

pub written_in : (array : ℕ) (b : Body) → names array b.write ≡ true → In b.write (written_accesses array b)
written_in array b h = filter_in (names array) (b.write ∷ []) b.write (inl refl) h

pub in_written : (array : ℕ) (b : Body) (r : Access) → In r (written_accesses array b) → (b.write ≡ r) × (names array r ≡ true)
in_written array b r i =
    let p = in_filter (names array) (b.write ∷ []) r i in
    (elim p.0 as (λ _. b.write ≡ r) [ inl e ↦ e | inr j ↦ absurd j ], p.1)

-- elements with the same places have the same body
abbrev pub OneBody : List Element → Type 0
OneBody list = (e f : Element) → In e list → In f list → places e.vector ≡ places f.vector → e.body ≡ f.body

module _ (list : List Element) (ours : List ℤ) (around : ℕ) where
  pub with_in : (ps : List ℤ) (e : Element) → In e list → places e.vector ≡ ps → In e (with_places ps list)
  with_in ps e i h = filter_in (λ z. same_numbers ps (places z.vector)) list e i (are_numbers ps (places e.vector) (sym h))

  pub in_with : (ps : List ℤ) (e : Element) → In e (with_places ps list) → In e list × (places e.vector ≡ ps)
  in_with ps e i = let p = in_filter (λ z. same_numbers ps (places z.vector)) list e i in (p.0, sym (numbers_are ps (places e.vector) p.1))

  pub transfer_in : (chosen : Body → List Access) → OneBody list → (e : Element) → In e list → shares (suc around) ours (places e.vector) ≡ true
      → (a : Access) → In a (chosen e.body) → In (record { places = places e.vector; access = a }) (transfers chosen list ours around)
  transfer_in chosen bodies e i h a j =
      let ps = places e.vector in
      let f = first_member (with_places ps list) e (with_in ps e i refl) in
      let w = in_with ps f.0 f.1.0 in
      let same : e.body ≡ f.0.body = bodies e f.0 i w.0 (sym w.1) in
      let made : Access → Transfer = λ b. record { places = ps; access = b } in
      flat_in (λ qs. flat_map (λ (z : Element). map (λ b. record { places = qs; access = b }) (chosen z.body)) (take 1 (with_places qs list)))
      (filter (shares (suc around) ours) (pieces list)) ps (record { places = ps; access = a })
      (filter_in (shares (suc around) ours) (pieces list) ps (its_piece list e i) h)
      (flat_in (λ (z : Element). map (λ b. record { places = ps; access = b }) (chosen z.body)) (take 1 (with_places ps list)) f.0 (record { places = ps; access = a }) f.1.1
      (map_in (λ b. record { places = ps; access = b }) (chosen f.0.body) a (subst (λ b. In a (chosen b)) same j)))

  pub in_transfers : (chosen : Body → List Access) (t : Transfer) → In t (transfers chosen list ours around)
      → (f : Element) × (In f list × ((places f.vector ≡ t.places) × ((shares (suc around) ours t.places ≡ true) × In t.access (chosen f.body))))
  in_transfers chosen t i =
      let p = in_flat (λ qs. flat_map (λ (z : Element). map (λ b. record { places = qs; access = b }) (chosen z.body)) (take 1 (with_places qs list)))
      (filter (shares (suc around) ours) (pieces list)) t i in
      let q = in_flat (λ (z : Element). map (λ b. record { places = p.0; access = b }) (chosen z.body)) (take 1 (with_places p.0 list)) t p.1.1 in
      let r = in_map (λ b. record { places = p.0; access = b }) (chosen q.0.body) t q.1.1 in
      let w = in_with p.0 q.0 (in_take (with_places p.0 list) q.0 q.1.0) in
      let s = (in_filter (shares (suc around) ours) (pieces list) p.0 p.1.0).1 in
      let same : p.0 ≡ t.places = ap (λ (z : Transfer). z.places) r.1.1 in
      (q.0, (w.0, (w.1 ∙ same, (subst (λ z. shares (suc around) ours z ≡ true) same s, subst (λ (z : Transfer). In z.access (chosen q.0.body)) r.1.1 r.1.0))))

  pub use_in : (t : Transfer) (e : Element) → In e list → places e.vector ≡ t.places → In (use_of around t.access e) (uses list around t)
  use_in t e i h =
      different_in same_use use_is (map (use_of around t.access) (with_places t.places list)) (use_of around t.access e)
      (map_in (use_of around t.access) (with_places t.places list) e (with_in t.places e i h))

  pub in_uses : (t : Transfer) (u : Use) → In u (uses list around t) → (e : Element) × (In e list × ((places e.vector ≡ t.places) × (use_of around t.access e ≡ u)))
  in_uses t u i =
      let j = in_different same_use (map (use_of around t.access) (with_places t.places list)) u i in
      let p = in_map (use_of around t.access) (with_places t.places list) u j in
      let w = in_with t.places p.0 p.1.0 in
      (p.0, (w.0, (w.1, p.1.1)))
