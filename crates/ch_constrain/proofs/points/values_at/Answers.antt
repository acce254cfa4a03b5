use Rattle.std.proofs.Common.{◌≡◌, ◌∙◌, ◌++◌, ◌+◌, ap, drop, ◌∷◌, [], length, arith, rules}
use Rattle.ch_constrain.specs.Nearest.{values}
use Rattle.ch_constrain.proofs.Coordinates.{all_values, few_params, length_of, value_turn}
use Rattle.ch_constrain.proofs.Onward.{values_long}
use Rattle.ch_constrain.proofs.Values.{values_small}
use Rattle.ch_grid.proofs.Sizes.{within_facts}
use Rattle.ch_constrain.proofs.points.values_at.Goals as goal

pub overflow_cast-k : goal.overflow_cast-k
overflow_cast-k c =
    let l = length_of c.args.grid.now.params c.args.point.now c.requires in
    let f = few_params c.args.grid.now.params c.args.grid.now.within in omega arith

pub value_of-requires-clause-index : goal.value_of-requires-clause-index
value_of-requires-clause-index c =
    (value_turn c.args.grid.now.params c.args.point.now c.loop-k.values c.loop-k.k c.requires (omega arith) c.loop-k.invariant.inside).index

pub loop-k-preserved : goal.loop-k-preserved
loop-k-preserved c =
    let t = value_turn c.args.grid.now.params c.args.point.now c.loop-k.values c.loop-k.k c.requires (omega arith) c.loop-k.invariant.inside in
    let e : c.push.new.self ≡ c.loop-k.values ++ c.value_of.result ∷ [] = search rules in
    record { so_far = ap (λ l. l ++ values (drop (c.loop-k.k + 1) c.args.grid.now.params) (drop (c.loop-k.k + 1) c.args.point.now)) e ∙ t.on c.value_of.result c.value_of.ensures ∙ c.loop-k.invariant.so_far; inside = t.inside }

pub returns-clause-exact : goal.returns-clause-exact
returns-clause-exact c = all_values c.args.grid.now.params c.args.point.now c.loop-k.values c.loop-k.k (omega arith) c.loop-k.invariant.so_far

pub returns-clause-count : goal.returns-clause-count
returns-clause-count c =
    ap length (all_values c.args.grid.now.params c.args.point.now c.loop-k.values c.loop-k.k (omega arith) c.loop-k.invariant.so_far)
    ∙ values_long c.args.grid.now.params c.args.point.now c.requires

pub returns-clause-small : goal.returns-clause-small
returns-clause-small c =
    let e = all_values c.args.grid.now.params c.args.point.now c.loop-k.values c.loop-k.k (omega arith) c.loop-k.invariant.so_far in
    rw e (values_small c.args.grid.now.params c.args.point.now (within_facts c.args.grid.now.params c.args.grid.now.within).good c.requires)
