use Rattle.std.proofs.Common.{◌≡◌, ◌∙◌, sym, ap, ap₂, subst, [], ◌∷◌, ◌++◌, arith, rules}
use Rattle.std.specs.Bool.{IsTrue}
use Rattle.std.specs.List.{list_all}
use Rattle.std.proofs.lemmas.Result.{IfOk-weaker}
use Rattle.ch_grid.specs.Grid.{sizes}
use Rattle.ch_grid.specs.Points.{is_point}
use Rattle.ch_rank.specs.Entries.{at_entries, played}
use Rattle.ch_rank.specs.declared.phase.Phase.TheVariants.{Converged}
use Rattle.ch_report.proofs.RankLines.{all_with}
use Rattle.ch_report.specs.Summary.{summary}
use Rattle.ch_tune.specs.Tuned.{Follow, lines_of}
use Rattle.ch_tune.proofs.Following.{follow_more, lines_more}
use Rattle.ch_tune.proofs.tuning.tune.Goals as goal

pub loop-search-preserved : goal.loop-search-preserved
loop-search-preserved g c =
    let judged = g.J.Judge.judged c.args.judge.now in
    let s = c.loop-search.search in
    let t = c.next.new.search in
    let line = c.in_ok-line.line in
    let lines = c.loop-search.lines in
    let kept = c.loop-search.invariant in
    let adds = c.in_ok-line.ensures.adds in
    let e = adds.entry in
    let grid : t.grid ≡ s.grid = c.next.ensures.grid in
    let repeat : t.repeat ≡ s.repeat = c.next.ensures.repeat in
    let pushed : c.push.new.self ≡ lines ++ line ∷ [] = search rules in
    let follows : Follow s.grid s.repeat judged [] (s.entries ++ e ∷ []) = follow_more s.grid s.repeat judged [] s.entries e kept.follows adds.next in
    let told : c.push.new.self ≡ lines_of s.grid s.repeat judged [] (s.entries ++ e ∷ []) =
    pushed ∙ ap₂ (λ ls l. ls ++ l ∷ []) kept.told adds.told ∙ sym (lines_more s.grid s.repeat judged [] s.entries e) in
    let here : IsTrue (is_point (sizes s.grid) line.point) = subst (λ ps. IsTrue (is_point (sizes ps) line.point)) (sym kept.grid) c.in_ok-line.ensures.inside in
    record {
      grid = grid ∙ kept.grid;
      repeat = repeat ∙ kept.repeat;
      follows = subst (λ es. Follow t.grid t.repeat judged [] es) (sym adds.added)
          (subst (λ r. Follow t.grid r judged [] (s.entries ++ e ∷ [])) (sym repeat)
          (subst (λ ps. Follow ps s.repeat judged [] (s.entries ++ e ∷ [])) (sym grid) follows));
      told = told ∙ ap (λ ps. lines_of ps s.repeat judged [] (s.entries ++ e ∷ [])) (sym grid)
          ∙ ap (λ r. lines_of t.grid r judged [] (s.entries ++ e ∷ [])) (sym repeat)
          ∙ ap (λ es. lines_of t.grid t.repeat judged [] es) (sym adds.added);
      all = adds.all;
      inside = subst (λ ls. IsTrue (list_all (λ d. is_point (sizes t.grid) d.point) ls)) (sym pushed)
          (subst (λ ps. IsTrue (list_all (λ d. is_point (sizes ps) d.point) (lines ++ line ∷ []))) (sym grid)
          (all_with (λ d. is_point (sizes s.grid) d.point) lines line kept.inside here));
    }

pub returns-clause-tuned : goal.returns-clause-tuned
returns-clause-tuned g c =
    let judged = g.J.Judge.judged c.args.judge.now in
    let params = g.J.Judge.params c.args.judge.now in
    let r = c.args.repeat in
    let s = c.loop-search.search in
    let kept = c.loop-search.invariant in
    let none : c.pending.result ≡ 0 = omega (arith, c.loop-search-test.false) in
    let over : (played (at_entries s.grid s.repeat s.entries)).phase ≡ Converged = c.pending.ensures.end.0 none in
    IfOk-weaker c.summary.result _ _ (λ part h. record {
      entries = s.entries;
      follows = subst (λ n. Follow params n judged [] s.entries) kept.repeat
          (subst (λ ps. Follow ps s.repeat judged [] s.entries) kept.grid kept.follows);
      ended = subst (λ n. (played (at_entries params n s.entries)).phase ≡ Converged) kept.repeat
          (subst (λ ps. (played (at_entries ps s.repeat s.entries)).phase ≡ Converged) kept.grid over);
      told = h ∙ ap (λ ls. summary (at_entries s.grid s.repeat s.entries) ls) kept.told
          ∙ ap (λ ps. summary (at_entries ps s.repeat s.entries) (lines_of ps s.repeat judged [] s.entries)) kept.grid
          ∙ ap (λ n. summary (at_entries params n s.entries) (lines_of params n judged [] s.entries)) kept.repeat;
    }) c.summary.ensures.value
