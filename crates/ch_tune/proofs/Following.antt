-- Entries that follow one another: one more.
use Rattle.std.proofs.Common.{◌≡◌, ◌∙◌, sym, ap, subst, ℕ, List, [], ◌∷◌, ◌++◌, append-nil, append_assoc}
use Rattle.ch_grid.specs.declared.param.Param.{Param}
use Rattle.ch_rank.specs.declared.outcome.Costed.{Costed}
use Rattle.ch_tune.specs.Tuned.{Follow, IsNext, Judged, line_of, lines_of, point_in}

module _ (grid : List Param) (repeat : ℕ) (judged : Judged) where
  pub follow_more : (before es : List Costed) (e : Costed) → Follow grid repeat judged before es → IsNext grid repeat judged (before ++ es) e
      → Follow grid repeat judged before (es ++ e ∷ [])
  follow_more before [] e f n = (subst (λ v. IsNext grid repeat judged v e) (append-nil before) n, tt)
  follow_more before (d ∷ es) e f n =
      (f.0, follow_more (before ++ d ∷ []) es e f.1 (subst (λ v. IsNext grid repeat judged v e) (sym (append_assoc before (d ∷ []) es)) n))

  pub lines_more : (before es : List Costed) (e : Costed)
      → lines_of grid repeat judged before (es ++ e ∷ []) ≡ lines_of grid repeat judged before es ++ line_of (point_in grid repeat (before ++ es) e.trial) judged e.trial ∷ []
  lines_more before [] e = ap (λ v. line_of (point_in grid repeat v e.trial) judged e.trial ∷ []) (sym (append-nil before))
  lines_more before (d ∷ es) e =
      ap (λ ls. line_of (point_in grid repeat before d.trial) judged d.trial ∷ ls)
      (lines_more (before ++ d ∷ []) es e ∙ ap (λ v. lines_of grid repeat judged (before ++ d ∷ []) es ++ line_of (point_in grid repeat v e.trial) judged e.trial ∷ []) (append_assoc before (d ∷ []) es))
