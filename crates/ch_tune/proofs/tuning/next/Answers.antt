use Rattle.std.proofs.Common.{◌≡◌, ◌∙◌, sym, ap, ap₂, subst, true, false, Some, ◌++◌, ◌∷◌, [], slice_get, rules}
use Rattle.std.proofs.lemmas.Option.{slice_get-get_or}
use Rattle.ch_rank.specs.Entries.{Searched, are_legal, may_enter, pending, played}
use Rattle.ch_rank.specs.Search.{point_at}
use Rattle.ch_rank.specs.declared.outcome.Costed.{Costed}
use Rattle.ch_tune.specs.Steps.{AreJudged}
use Rattle.ch_tune.specs.Tuned.{found_of, outcome_of}
use Rattle.ch_tune.proofs.Judging.{judged_more, may_be_entered}
use Rattle.ch_tune.proofs.tuning.next.Goals as goal

pub unreachable-requires : goal.unreachable-requires
unreachable-requires g c =
    let s = c.args.search.now in
    let t = c.pending_at-trial.result in
    let judged = g.J.Judge.judged c.args.judge.now in
    let least : slice_get (pending s) 0 ≡ Some t = slice_get-get_or (pending s) 0 0 c.requires.some ∙ ap Some (sym c.pending_at-trial.ensures.value) in
    let point : c.as_slice.result.now ≡ point_at (played s) t = search rules in
    let found : c.in_ok-found.found ≡ found_of (judged (point_at (played s) t)) = c.in_ok-found.ensures ∙ ap (λ p. found_of (judged p)) point in
    let outcome : c.outcome_of.result ≡ outcome_of (judged (point_at (played s) t)) = c.outcome_of.ensures (judged (point_at (played s) t)) found in
    let may : may_enter s t c.outcome_of.result ≡ true = may_be_entered judged s t c.outcome_of.result c.requires.judged least c.pending_at-trial.ensures.here outcome in
    let same : c.reserve.new.self ≡ record s { spare = c.reserve.new.self.spare } = c.in_ok-reserve.ensures.ok.1 in
    let not : may_enter (record s { spare = c.reserve.new.self.spare }) t c.outcome_of.result ≡ false = subst (λ (z : Searched). may_enter z t c.outcome_of.result ≡ false) same c.in-Err.ensures.err.1 in
    let both : true ≡ false = sym may ∙ not in
    cc both

pub returns-clause-adds : goal.returns-clause-adds
returns-clause-adds g c =
    let s = c.args.search.now in
    let t = c.pending_at-trial.result in
    let judged = g.J.Judge.judged c.args.judge.now in
    let least : slice_get (pending s) 0 ≡ Some t = slice_get-get_or (pending s) 0 0 c.requires.some ∙ ap Some (sym c.pending_at-trial.ensures.value) in
    let read : c.in_ok-point.point ≡ point_at (played s) t = search rules in
    let point : c.as_slice.result.now ≡ point_at (played s) t = search rules in
    let found : c.in_ok-found.found ≡ found_of (judged (point_at (played s) t)) = c.in_ok-found.ensures ∙ ap (λ p. found_of (judged p)) point in
    let outcome : c.outcome_of.result ≡ outcome_of (judged (point_at (played s) t)) = c.outcome_of.ensures (judged (point_at (played s) t)) found in
    let entry : Costed = record { trial = t; outcome = c.outcome_of.result } in
    let same : c.reserve.new.self ≡ record s { spare = c.reserve.new.self.spare } = c.in_ok-reserve.ensures.ok.1 in
    let now : c.enter.new.self ≡ record c.reserve.new.self { entries = c.reserve.new.self.entries ++ entry ∷ []; spare = c.enter.new.self.spare } = search rules in
    let added : c.enter.new.self ≡ record s { entries = s.entries ++ entry ∷ []; spare = c.enter.new.self.spare } =
    now ∙ ap (λ (z : Searched). record z { entries = z.entries ++ entry ∷ []; spare = c.enter.new.self.spare }) same in
    record {
      entry = entry;
      next = record { least = least; outcome = outcome };
      added = ap (λ (z : Searched). z.entries) added;
      told = ap₂ (λ p f. record { trial = t; point = p; found = f }) read found;
      all = subst (λ (z : Searched). AreJudged judged z) (sym added)
          (judged_more judged s.grid s.repeat s.entries entry (subst (λ (z : Searched). are_legal z.grid z.repeat z.entries ≡ true) added c.entries_are_legal.ensures)
          c.requires.judged c.pending_at-trial.ensures.here outcome);
    }
