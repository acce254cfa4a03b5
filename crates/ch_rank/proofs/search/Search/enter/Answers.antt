use Rattle.std.proofs.Common.{◌≡◌, ◌≤◌, ◌*◌, ◌+◌, Bool, true, false, cond, ◌&&◌, nat_lt, length, ◌-◌, subst, sym, ap, ◌∙◌, arith, ℕ, ◌<◌, vec_len, vec_capacity, refl, Option}
use Rattle.std.proofs.lemmas.Bool.Decides.{nat_tests}
use Rattle.ch_grid.specs.Grid.{sizes}
use Rattle.ch_rank.specs.declared.outcome.Outcome.{Outcome}
use Rattle.ch_rank.specs.declared.outcome.Costed.{Costed}
use Rattle.ch_rank.specs.declared.tally.Tally.{Tally}
use Rattle.ch_rank.specs.Search.{Game}
use Rattle.ch_rank.specs.Board.{IsRound}
use Rattle.ch_rank.specs.Entries.{at_entries, known, is_refused, Searched, outcome_with, lesser, completed_now}
use Rattle.ch_rank.specs.Ranks.{better_by}
use Rattle.ch_grid.specs.Points.{count}
use Rattle.ch_rank.proofs.Finding.{few_now, versions_small}
use Rattle.ch_rank.proofs.Entering.{played_round, cells_of, entered_now, allowed_now, refused_now, searched_now}
use Rattle.ch_rank.proofs.search.Search.enter.Goals as goal

not_late : (a b : Bool) → (a && b) ≡ false → a ≡ true → b ≡ false
not_late true b e f = e
not_late false b e f = absurd (cc)

late : (a b : Bool) → (a && b) ≡ true → (a ≡ true) × (b ≡ true)
late true b e = (refl, e)
late false b e = absurd (cc)

at_least : (x y : ℕ) → nat_lt x y ≡ false → y ≤ x
at_least x y e = grind (arith, nat_tests)

below : (x y : ℕ) → nat_lt x y ≡ true → x < y
below x y e = grind (arith, nat_tests)

pub settle-requires-clause-round : goal.settle-requires-clause-round
settle-requires-clause-round c = subst (λ (g : Game). IsRound g) (sym c.self.invariant.game) (played_round (sizes c.self.inside.params.items) (known c.self.inside.repeat c.self.inside.entries.items))

pub invariant_of-self : goal.invariant_of-self
invariant_of-self c =
    let i = c.self.inside in
    let here : c.args.trial < length i.game.points = omega (arith, c.len.ensures.value, c.if-trial-len.false) in
    let cells = cells_of i.params.items i.repeat i.game i.outcomes.items i.tallies.items i.entries.items i.best i.versions i.most c.args.trial c.index.result.now c.index-tally.result.now c.self.invariant here c.index.ensures (cc (c.is_some.ensures, c.if-is_some.false)) c.index-tally.ensures in
    let f : is_refused c.args.outcome ≡ true → i.repeat ≤ c.index-tally.result.now.left = λ e. at_least c.index-tally.result.now.left i.repeat (not_late (is_refused c.args.outcome) (nat_lt c.index-tally.result.now.left i.repeat) (sym c.is_late.ensures ∙ c.if-is_late.false) e) in
    let ok = allowed_now i.params.items i.repeat i.game i.outcomes.items i.tallies.items i.entries.items i.best i.versions i.most 0 c.args.trial (at_entries i.params.items i.repeat i.entries.items) c.index-tally.result.now c.args.outcome c.self.invariant refl here cells f in
    let n = entered_now i.params.items i.repeat i.game c.settle.new.self i.outcomes.items c.deref.result.now i.tallies.items i.entries.items c.push_reserved.new.self.items i.best c.better-self-inside.result i.versions (i.versions + c.versions_by.result) i.most c.args.trial c.args.outcome c.index-tally.result.now c.with.result c.outcome_with-done.result c.self.invariant here cells ok c.outcome_with-done.ensures c.with.ensures c.push_reserved.ensures.items (ap (λ n. i.versions + n) c.versions_by.ensures.value) c.better-self-inside.ensures c.deref.ensures.value c.settle.ensures.fits c.settle.ensures.led c.settle.ensures.over in
    n

pub returns-clause-ok : goal.returns-clause-ok
returns-clause-ok c =
    let i = c.self.inside in
    let here : c.args.trial < length i.game.points = omega (arith, c.len.ensures.value, c.if-trial-len.false) in
    let cells = cells_of i.params.items i.repeat i.game i.outcomes.items i.tallies.items i.entries.items i.best i.versions i.most c.args.trial c.index.result.now c.index-tally.result.now c.self.invariant here c.index.ensures (cc (c.is_some.ensures, c.if-is_some.false)) c.index-tally.ensures in
    let spare = vec_capacity i.entries - vec_len i.entries in
    let f : is_refused c.args.outcome ≡ true → i.repeat ≤ c.index-tally.result.now.left = λ e. at_least c.index-tally.result.now.left i.repeat (not_late (is_refused c.args.outcome) (nat_lt c.index-tally.result.now.left i.repeat) (sym c.is_late.ensures ∙ c.if-is_late.false) e) in
    let p = allowed_now i.params.items i.repeat i.game i.outcomes.items i.tallies.items i.entries.items i.best i.versions i.most spare c.args.trial c.args.self.now c.index-tally.result.now c.args.outcome c.self.invariant c.self.view_is here cells f in
    (p, searched_now c.args.self.now i.params.items i.repeat i.entries.items c.push_reserved.new.self.items spare (vec_capacity c.push_reserved.new.self - vec_len c.push_reserved.new.self) (record { trial = c.args.trial; outcome = c.args.outcome }) c.self.view_is c.push_reserved.ensures.items (omega (arith, c.push_reserved.ensures.len, c.push_reserved.ensures.capacity)))

pub returns-clause-few : goal.returns-clause-few
returns-clause-few c =
    let i = c.self.inside in
    let here : c.args.trial < length i.game.points = omega (arith, c.len.ensures.value, c.if-trial-len.false) in
    let cells = cells_of i.params.items i.repeat i.game i.outcomes.items i.tallies.items i.entries.items i.best i.versions i.most c.args.trial c.index.result.now c.index-tally.result.now c.self.invariant here c.index.ensures (cc (c.is_some.ensures, c.if-is_some.false)) c.index-tally.ensures in
    let f : is_refused c.args.outcome ≡ true → i.repeat ≤ c.index-tally.result.now.left = λ e. at_least c.index-tally.result.now.left i.repeat (not_late (is_refused c.args.outcome) (nat_lt c.index-tally.result.now.left i.repeat) (sym c.is_late.ensures ∙ c.if-is_late.false) e) in
    let ok = allowed_now i.params.items i.repeat i.game i.outcomes.items i.tallies.items i.entries.items i.best i.versions i.most 0 c.args.trial (at_entries i.params.items i.repeat i.entries.items) c.index-tally.result.now c.args.outcome c.self.invariant refl here cells f in
    let n = entered_now i.params.items i.repeat i.game c.settle.new.self i.outcomes.items c.deref.result.now i.tallies.items i.entries.items c.push_reserved.new.self.items i.best c.better-self-inside.result i.versions (i.versions + c.versions_by.result) i.most c.args.trial c.args.outcome c.index-tally.result.now c.with.result c.outcome_with-done.result c.self.invariant here cells ok c.outcome_with-done.ensures c.with.ensures c.push_reserved.ensures.items (ap (λ n. i.versions + n) c.versions_by.ensures.value) c.better-self-inside.ensures c.deref.ensures.value c.settle.ensures.fits c.settle.ensures.led c.settle.ensures.over in
    few_now i.params.items i.repeat c.settle.new.self _ _ c.push_reserved.new.self.items c.better-self-inside.result _ i.most n

pub returns-then-trial-len-clause-few : goal.returns-then-trial-len-clause-few
returns-then-trial-len-clause-few c = let i = c.self.inside in subst (λ (x : Searched). length x.entries ≤ x.repeat * count (sizes x.grid)) c.self.view_is (few_now i.params.items i.repeat _ _ _ i.entries.items i.best i.versions i.most c.self.invariant)

pub returns-then-is_late-clause-few : goal.returns-then-is_late-clause-few
returns-then-is_late-clause-few c = let i = c.self.inside in subst (λ (x : Searched). length x.entries ≤ x.repeat * count (sizes x.grid)) c.self.view_is (few_now i.params.items i.repeat _ _ _ i.entries.items i.best i.versions i.most c.self.invariant)

pub returns-then-is_late-clause-err : goal.returns-then-is_late-clause-err
returns-then-is_late-clause-err c =
    let i = c.self.inside in
    let here : c.args.trial < length i.game.points = omega (arith, c.len.ensures.value, c.if-trial-len.false) in
    let cells = cells_of i.params.items i.repeat i.game i.outcomes.items i.tallies.items i.entries.items i.best i.versions i.most c.args.trial c.index.result.now c.index-tally.result.now c.self.invariant here c.index.ensures (cc (c.is_some.ensures, c.if-is_some.false)) c.index-tally.ensures in
    let l = late (is_refused c.args.outcome) (nat_lt c.index-tally.result.now.left i.repeat) (sym c.is_late.ensures ∙ c.if-is_late.true) in
    (refl, refused_now i.params.items i.repeat i.entries.items (vec_capacity i.entries - vec_len i.entries) c.args.trial c.args.self.now c.index-tally.result.now c.args.outcome c.self.view_is cells l.0 (below _ _ l.1), refl)

pub overflow_add-self : goal.overflow_add-self
overflow_add-self c = let i = c.self.inside in let v = versions_small i.params.items i.repeat _ _ _ i.entries.items i.best i.versions i.most c.self.invariant in omega (arith, v, c.versions_by.ensures.one)
