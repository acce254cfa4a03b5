-- What the loops over lists keep, and what their answers tell.
use Rattle.std.proofs.Common.{◌≡◌, refl, sym, ap, ◌∙◌, subst, Bool, true, false, not, Option, Some, None, is_some, List, [], ◌∷◌, inl, inr}
use Rattle.ch_order.specs.Legal.{AreAmong, steps}
use Rattle.ch_timed.specs.declared.element.Element.{Element}
use Rattle.ch_timed.specs.Members.{In}
use Rattle.ch_timed.specs.Timed.{step}

-- members

pub among_more : (list more other : List Element) (e : Element) → list ≡ e ∷ more → In (step e) (steps other) → AreAmong more other → AreAmong list other
among_more list more other e h i a = subst (λ l. AreAmong l other) (sym h) (both i a)
  where
    both : In (step e) (steps other) → AreAmong more other → AreAmong (e ∷ more) other
    both i a s (inl k) = subst (λ t. In t (steps other)) k i
    both i a s (inr j) = a s j

pub among_none : (list other : List Element) → list ≡ [] → AreAmong list other
among_none list other h = λ s i. absurd (subst (λ l. In s (steps l)) h i)

-- answers

pub untrue : false ≡ true → ⊥
untrue h = cc

pub none_of : {A : Type 0} (o : Option A) (r : Bool) → r ≡ is_some o → not r ≡ true → o ≡ None
none_of None r e h = refl
none_of (Some x) r e h = absurd (untrue (sym (ap not e) ∙ h))

pub not_of : {A : Type 0} (o : Option A) (r : Bool) → r ≡ is_some o → o ≡ None → not r ≡ true
not_of o r e h = ap not (e ∙ ap is_some h)
