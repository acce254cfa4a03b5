-- What the fetch that decides settles, with what came before it.
use Rattle.std.proofs.Common.{◌≡◌, ℕ, ◌+◌, true, false, List, [], ◌∷◌, Option, Some, None, Result, Ok, Err, refl, sym, ap, ◌∙◌, subst}
use Rattle.std.specs.Prelude.{IfOk}
use Rattle.ch_book.specs.Books.{with_events}
use Rattle.ch_book.specs.declared.book.Book.{Book}
use Rattle.ch_conduct.proofs.OneCall.{settles_eager}
use Rattle.ch_conduct.specs.Meaning.{Judge, Meaning, judge_of}
use Rattle.ch_conduct.specs.Places.{point}
use Rattle.ch_conduct.specs.Turns.{Knowledge, Called, Compared, Settles}
use Rattle.ch_conduct.specs.declared.report.How.{How}
use Rattle.ch_nest.specs.CostModel.{CostModel}
use Rattle.ch_seats.specs.Benches.{CostIs}
use Rattle.ch_seats.specs.Seated.{theme_in, IsBook}
use Rattle.ch_session.specs.History.{Theme}
use Rattle.ch_session.specs.Making.{Making}
use Rattle.ch_session.specs.Replies.{trial_made}

pub eager_settled : {E : Type 0} (r : Result How E) (th : Theme) (k : Judge) (c : ℕ) (machine : CostModel) (before : Option How) (j : ℕ) (s y z : Knowledge) (reads : List ℕ) →
    Compared false before s y reads → IfOk r (λ how. Settles th k c machine j how y z) → IfOk r (λ how. Called th k c false machine before j how s z)
eager_settled (Ok how) th k c machine before j s y z reads m x = settles_eager th k c false machine before j how s y z reads refl m x
eager_settled (Err x) th k c machine before j s y z reads m q = tt

-- what a trial's run tells of its point
pub cost_of_trial : {V : Type 0} (m : Meaning) (machine : CostModel) (b : Book V) (h : List _) (t i : ℕ) (k : Making) (x : ℕ) → IsBook m i b → k ≡ trial_made (with_events b h) t → CostIs m machine k x →
    ((judge_of m i).refusal (point (theme_in b) h t) ≡ None) × (x ≡ (judge_of m i).cost machine (point (theme_in b) h t))
cost_of_trial m machine b h t i k x is made cost =
    subst (λ (s : ℕ). ((judge_of m s).refusal (point (theme_in b) h t) ≡ None) × (x ≡ (judge_of m s).cost machine (point (theme_in b) h t))) is.0 (subst (λ (y : Making). CostIs m machine y x) made cost)
