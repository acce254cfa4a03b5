-- There is one list of entries that follow one another up to the search's end.
use Rattle.std.proofs.Common.{◌≡◌, ◌∙◌, sym, ap, ap₂, subst, refl, ℕ, Some, List, [], ◌∷◌, ◌++◌, length, slice_get, append-nil, append_assoc, arith}
use Rattle.ch_grid.specs.declared.param.Param.{Param}
use Rattle.ch_rank.specs.Entries.{at_entries, pending, played}
use Rattle.ch_rank.specs.declared.outcome.Costed.{Costed}
use Rattle.ch_rank.specs.declared.phase.Phase.TheVariants.{Converged}
use Rattle.ch_rank.proofs.Waiting.{end_waits}
use Rattle.ch_report.specs.Summary.{summary}
use Rattle.ch_report.specs.declared.part.SessionPart.{SessionPart}
use Rattle.ch_tune.specs.Tuned.{Follow, IsNext, IsTuned, Judged, lines_of, outcome_of, point_in}

module _ (grid : List Param) (repeat : ℕ) (judged : Judged) where
  abbrev Ended : List Costed → Type 0
  Ended es = (played (at_entries grid repeat es)).phase ≡ Converged

  -- behind the end comes no entry
  none_next : (before : List Costed) (e : Costed) → Ended before → IsNext grid repeat judged before e → ⊥
  none_next before e over n = by (pending (at_entries grid repeat before)) (end_waits (at_entries grid repeat before) over) n.least
    where
      by : (ts : List ℕ) → length ts ≡ 0 → slice_get ts 0 ≡ Some e.trial → ⊥
      by [] z h = cc h
      by (t ∷ ts) z h = omega (arith, z)

  same_next : (before : List Costed) (d e : Costed) → IsNext grid repeat judged before d → IsNext grid repeat judged before e → d ≡ e
  same_next before d e m n =
      let trial : d.trial ≡ e.trial = cc (m.least, n.least) in
      let outcome : d.outcome ≡ e.outcome = m.outcome ∙ ap (λ t. outcome_of (judged (point_in grid repeat before t))) trial ∙ sym n.outcome in
      λ i. record { trial = trial i; outcome = outcome i }

  same_entries : (before ds es : List Costed) → Follow grid repeat judged before ds → Follow grid repeat judged before es → Ended (before ++ ds) → Ended (before ++ es) → ds ≡ es
  same_entries before [] [] f g x y = refl
  same_entries before [] (e ∷ es) f g x y = absurd (none_next before e (subst Ended (append-nil before) x) g.0)
  same_entries before (d ∷ ds) [] f g x y = absurd (none_next before d (subst Ended (append-nil before) y) f.0)
  same_entries before (d ∷ ds) (e ∷ es) f g x y =
      let here : d ≡ e = same_next before d e f.0 g.0 in
      let rest : ds ≡ es = same_entries (before ++ d ∷ []) ds es f.1 (subst (λ z. Follow grid repeat judged (before ++ z ∷ []) es) (sym here) g.1)
      (subst Ended (sym (append_assoc before (d ∷ []) ds)) x)
      (subst Ended (sym (append_assoc before (d ∷ []) es)) (subst (λ z. Ended (before ++ z ∷ es)) (sym here) y)) in
      ap₂ (λ z zs. z ∷ zs) here rest

  pub same_part : (one other : SessionPart) → IsTuned grid repeat judged one → IsTuned grid repeat judged other → one ≡ other
  same_part one other a b =
      a.told ∙ ap (λ es. summary (at_entries grid repeat es) (lines_of grid repeat judged [] es)) (same_entries [] a.entries b.entries a.follows b.follows a.ended b.ended) ∙ sym b.told
