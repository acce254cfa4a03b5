-- A legal list of entries: its beginnings, and one entry more.
use Rattle.std.proofs.Common.{◌≡◌, ℕ, Bool, true, false, ◌&&◌, List, [], ◌∷◌, ◌++◌, refl, sym, subst, append_assoc, append-nil}
use Rattle.ch_grid.specs.declared.param.Param.{Param}
use Rattle.ch_rank.specs.declared.outcome.Costed.{Costed}
use Rattle.ch_rank.specs.Entries.{at_entries, may_enter, are_legal_after}

both : (a b : Bool) → (a && b) ≡ true → (a ≡ true) × (b ≡ true)
both true b h = (refl, h)
both false b h = absurd (cc)

and_of : (a b : Bool) → a ≡ true → b ≡ true → (a && b) ≡ true
and_of true true p q = refl
and_of true false p q = absurd (cc)
and_of false b p q = absurd (cc)

module _ (grid : List Param) (r : ℕ) where
  pub legal_one_more : (before es : List Costed) (c : Costed) → are_legal_after grid r before es ≡ true → may_enter (at_entries grid r (before ++ es)) c.trial c.outcome ≡ true → are_legal_after grid r before (es ++ c ∷ []) ≡ true
  legal_one_more before [] c h m = and_of (may_enter (at_entries grid r before) c.trial c.outcome) true (subst (λ (v : List Costed). may_enter (at_entries grid r v) c.trial c.outcome ≡ true) (append-nil before) m) refl
  legal_one_more before (d ∷ es) c h m =
      let b = both (may_enter (at_entries grid r before) d.trial d.outcome) (are_legal_after grid r (before ++ d ∷ []) es) h in
      and_of (may_enter (at_entries grid r before) d.trial d.outcome) (are_legal_after grid r (before ++ d ∷ []) (es ++ c ∷ [])) b.0
      (legal_one_more (before ++ d ∷ []) es c b.1 (subst (λ (v : List Costed). may_enter (at_entries grid r v) c.trial c.outcome ≡ true) (sym (append_assoc before (d ∷ []) es)) m))

  pub legal_parts : (before es more : List Costed) → are_legal_after grid r before (es ++ more) ≡ true → (are_legal_after grid r before es ≡ true) × (are_legal_after grid r (before ++ es) more ≡ true)
  legal_parts before [] more h = (refl, subst (λ (v : List Costed). are_legal_after grid r v more ≡ true) (sym (append-nil before)) h)
  legal_parts before (d ∷ es) more h =
      let b = both (may_enter (at_entries grid r before) d.trial d.outcome) (are_legal_after grid r (before ++ d ∷ []) (es ++ more)) h in
      let i = legal_parts (before ++ d ∷ []) es more b.1 in (
        and_of (may_enter (at_entries grid r before) d.trial d.outcome) (are_legal_after grid r (before ++ d ∷ []) es) b.0 i.0,
        subst (λ (v : List Costed). are_legal_after grid r v more ≡ true) (append_assoc before (d ∷ []) es) i.1,
      )
