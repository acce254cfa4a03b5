-- The list with the buffer has the meaning of the list without it.
use Rattle.std.proofs.Common.{◌≡◌, refl, ap, ◌∙◌, subst, ℕ, suc, ℤ, Bool, true, false, if◌then◌else◌, List, [], ◌∷◌, map, take, ◌⊎◌, inl, inr}
use Rattle.std.proofs.lemmas.Bool.{cases_Bool}
use Rattle.std.specs.Ordering.{int_cmp}
use Rattle.std.specs.declared.cmp.Ordering.TheVariants.{Less}
use Rattle.std.specs.Cmp.Lexicographic.{slice_cmp}
use Rattle.ch_timed.specs.declared.element.Cell.{Cell}
use Rattle.ch_timed.specs.declared.element.Element.{Element}
use Rattle.ch_timed.specs.Members.{Each, In}
use Rattle.ch_timed.specs.Order.{do_all}
use Rattle.ch_timed.specs.Timed.{in_order, step}
use Rattle.ch_timed.specs.Vectors.{places, shares}
use Rattle.ch_timed.specs.Do.{Store, done, execute}
use Rattle.ch_timed.proofs.ClosedUp.{same_steps}
use Rattle.ch_timed.proofs.Orders.{IsAscending, ascending_same}
use Rattle.ch_timed.proofs.Sorted.{adjacent_ascends}
use Rattle.ch_copied.specs.Plans.{Plan}
use Rattle.ch_copied.specs.Bodies.{redirected}
use Rattle.ch_copied.specs.Copied.{copied, kept, new_place, replaced}
use Rattle.ch_copied.specs.Copyable.{IsCopyable}
use Rattle.ch_copied.proofs.Acts.{Comes, acts, at, in_order_are, is_other, is_works, keeps_in, new_does, new_element, old_does, olds}
use Rattle.ch_copied.proofs.Moving.{load_is, store_is}
use Rattle.ch_copied.proofs.Simulation.{Act, other, works, loads, stores, new_do, old_do, same_outside}
use Rattle.ch_copied.proofs.Sound.{IsPlanned, all, all_ascend, ascends_of, it_comes, long_use, sound, to, unclosed, unclosed_ascends, was_less}

module _ (p : Plan) (list : List Element) (dimensions : ℕ) (planned : IsPlanned p list) (fine : IsCopyable list p.array p.buffer dimensions) where
  abbrev these : List Act
  these = all p list dimensions planned fine

  pub step_of : (e : Element) (b : Bool) → shares (suc p.around) p.ours (places e.vector) ≡ b
      → step (kept p e) ≡ record { identity = e.identity; body = if b then redirected p e.body else e.body }
  step_of e b h = rw h refl

  pub each_does : (a : Act) → Comes p list a → (t : Store) → execute (step (new_element p a)) t ≡ new_do p a t
  each_does (other e) c t = ap (λ s. execute s t) (step_of e false c.1)
  each_does (works e) c t = ap (λ s. execute s t) (step_of e true c.1)
  each_does (loads l k u) c t = load_is p u (long_use p list dimensions planned fine c.0 u (inl c.1.0) c.1.1.0) l k t
  each_does (stores l k u) c t = store_is p u (long_use p list dimensions planned fine c.0 u (inr c.1.0) c.1.1.0) l k t

  -- the elements of the old list, in its order

  olds_in : (more : List Act) (e : Element) → In e (olds more) → In (other e) more ⊎ In (works e) more
  olds_in [] e i = absurd i
  olds_in (other f ∷ more) e (inl h) = inl (inl (ap other h))
  olds_in (other f ∷ more) e (inr i) = elim (olds_in more e i) [ inl j ↦ inl (inr j) | inr j ↦ inr (inr j) ]
  olds_in (works f ∷ more) e (inl h) = inr (inl (ap works h))
  olds_in (works f ∷ more) e (inr i) = elim (olds_in more e i) [ inl j ↦ inl (inr j) | inr j ↦ inr (inr j) ]
  olds_in (loads l k u ∷ more) e i = elim (olds_in more e i) [ inl j ↦ inl (inr j) | inr j ↦ inr (inr j) ]
  olds_in (stores l k u ∷ more) e i = elim (olds_in more e i) [ inl j ↦ inl (inr j) | inr j ↦ inr (inr j) ]

  abbrev OldIn : List Element → Act → Type 0
  OldIn es (other e) = In e es
  OldIn es (works e) = In e es
  OldIn es (loads l k u) = Unit {0}
  OldIn es (stores l k u) = Unit {0}

  old_more : (es : List Element) (f : Element) (a : Act) → OldIn es a → OldIn (f ∷ es) a
  old_more es f (other e) i = inr i
  old_more es f (works e) i = inr i
  old_more es f (loads l k u) i = tt
  old_more es f (stores l k u) i = tt

  old_first : (a : Act) (more : List Act) → OldIn (olds (a ∷ more)) a
  old_first (other e) more = inl refl
  old_first (works e) more = inl refl
  old_first (loads l k u) more = tt
  old_first (stores l k u) more = tt

  in_olds : (more : List Act) (a : Act) → In a more → OldIn (olds more) a
  in_olds [] a i = absurd i
  in_olds (b ∷ more) a (inl h) = subst (OldIn (olds (b ∷ more))) h (old_first b more)
  in_olds (other e ∷ more) a (inr i) = old_more (olds more) e a (in_olds more a i)
  in_olds (works e ∷ more) a (inr i) = old_more (olds more) e a (in_olds more a i)
  in_olds (loads l k u ∷ more) a (inr i) = in_olds more a i
  in_olds (stores l k u ∷ more) a (inr i) = in_olds more a i

  later_olds : (v : List ℤ) (more : List Act) → Each (λ b. slice_cmp int_cmp (replaced (take p.around p.ours) (new_place p) v) (at p b) ≡ Less) more
      → Each (λ (f : Element). slice_cmp int_cmp v f.vector ≡ Less) (olds more)
  later_olds v [] h = tt
  later_olds v (other e ∷ more) h = (was_less p list dimensions planned fine v e.vector h.0, later_olds v more h.1)
  later_olds v (works e ∷ more) h = (was_less p list dimensions planned fine v e.vector h.0, later_olds v more h.1)
  later_olds v (loads l k u ∷ more) h = later_olds v more h.1
  later_olds v (stores l k u ∷ more) h = later_olds v more h.1

  olds_ascend : (more : List Act) → IsAscending (at p) more → IsAscending (λ (e : Element). e.vector) (olds more)
  olds_ascend [] h = tt
  olds_ascend (other e ∷ more) h = (later_olds e.vector more h.0, olds_ascend more h.1)
  olds_ascend (works e ∷ more) h = (later_olds e.vector more h.0, olds_ascend more h.1)
  olds_ascend (loads l k u ∷ more) h = olds_ascend more h.1
  olds_ascend (stores l k u ∷ more) h = olds_ascend more h.1

  olds_are : olds these ≡ list
  olds_are =
      ascending_same (λ (e : Element). e.vector) (olds these) list (olds_ascend these (all_ascend p list dimensions planned fine)) (adjacent_ascends list (ascends_of list fine.well_formed))
      (λ e i. elim (olds_in these e i) as (λ _. In e list) [
        | inl j ↦ (it_comes p list dimensions planned fine (other e) j).0
        | inr j ↦ (it_comes p list dimensions planned fine (works e) j).0
      ])
      (λ e i. elim (cases_Bool (shares (suc p.around) p.ours (places e.vector))) as (λ _. In e (olds these)) [
        | inl h ↦ in_olds these (works e) (to p list dimensions planned fine (works e) (subst (λ z. In z (acts p list)) (is_works p e h) (keeps_in p list e i)))
        | inr h ↦ in_olds these (other e) (to p list dimensions planned fine (other e) (subst (λ z. In z (acts p list)) (is_other p e h) (keeps_in p list e i)))
      ])

  abbrev put_together : List Element
  put_together = unclosed p list dimensions planned fine

  -- every cell that isn't one of the buffer
  pub same_meaning : (s : Store) (c : Cell) → (c.array ≡ p.buffer → ⊥) → done (copied p list) s c ≡ done list s c
  same_meaning s c n =
      let closed : done (copied p list) s ≡ do_all execute (map step (in_order put_together)) s =
      ap (λ steps. do_all execute steps s) (same_steps (in_order put_together) (unclosed_ascends p list dimensions planned fine)) in
      let new : do_all execute (map step (in_order put_together)) s ≡ do_all (new_do p) these s =
      ap (λ es. do_all execute (map step es) s) (in_order_are p list)
      ∙ new_does p these (λ a i t. each_does a (it_comes p list dimensions planned fine a i) t) s in
      let old : do_all old_do these s ≡ done list s = old_does these s ∙ ap (λ es. do_all execute (map step es) s) olds_are in
      ap (λ f. f c) (closed ∙ new)
      ∙ same_outside p (at p) these (sound p list dimensions planned fine) (all_ascend p list dimensions planned fine) s c n
      ∙ ap (λ f. f c) old
