use Rattle.std.proofs.Common.{refl, arith}
use Rattle.ch_grid.specs.Grid.{sizes}
use Rattle.ch_constrain.proofs.Coordinates.{few_params, length_of}
use Rattle.ch_constrain.proofs.Onward.{at_step, carry_on, new_numbers, not_after_last, not_carried, went_on}
use Rattle.ch_constrain.proofs.points.advance.Goals as goal

pub loop-k-init : goal.loop-k-init
loop-k-init c = record {
  carried = not_carried (sizes c.args.grid.now.params) c.args.point.now _ c.requires.point refl;
  numbers = c.requires.numbers;
}

pub overflow_add-next : goal.overflow_add-next
overflow_add-next c = let s = (at_step c.args.grid.now.params c.args.point.now c.loop-k.point c.loop-k.numbers c.loop-k.k c.args.grid.now.within c.requires.point c.loop-k-test.true (omega arith) c.loop-k.invariant.carried c.loop-k.invariant.numbers).small in omega arith

pub overflow_cast-k : goal.overflow_cast-k
overflow_cast-k c =
    let l = length_of c.args.grid.now.params c.args.point.now c.requires.point in
    let f = few_params c.args.grid.now.params c.args.grid.now.within in omega arith

pub size_of-requires : goal.size_of-requires
size_of-requires c = (at_step c.args.grid.now.params c.args.point.now c.loop-k.point c.loop-k.numbers c.loop-k.k c.args.grid.now.within c.requires.point c.loop-k-test.true (omega arith) c.loop-k.invariant.carried c.loop-k.invariant.numbers).param

pub set_index-requires-clause-param : goal.set_index-requires-clause-param
set_index-requires-clause-param c = (at_step c.args.grid.now.params c.args.point.now c.loop-k.point c.loop-k.numbers c.loop-k.k c.args.grid.now.within c.requires.point c.loop-k-test.true (omega arith) c.loop-k.invariant.carried c.loop-k.invariant.numbers).param

pub set_index-requires-clause-index : goal.set_index-requires-clause-index
set_index-requires-clause-index c = (at_step c.args.grid.now.params c.args.point.now c.loop-k.point c.loop-k.numbers c.loop-k.k c.args.grid.now.within c.requires.point c.loop-k-test.true (omega arith) c.loop-k.invariant.carried c.loop-k.invariant.numbers).below _ c.size_of.result c.size_of.ensures.value c.if-next-size_of.true

pub set_index-requires-clause-long : goal.set_index-requires-clause-long
set_index-requires-clause-long c = (at_step c.args.grid.now.params c.args.point.now c.loop-k.point c.loop-k.numbers c.loop-k.k c.args.grid.now.within c.requires.point c.loop-k-test.true (omega arith) c.loop-k.invariant.carried c.loop-k.invariant.numbers).point_long

pub set_index-requires-clause-numbers_long : goal.set_index-requires-clause-numbers_long
set_index-requires-clause-numbers_long c = (at_step c.args.grid.now.params c.args.point.now c.loop-k.point c.loop-k.numbers c.loop-k.k c.args.grid.now.within c.requires.point c.loop-k-test.true (omega arith) c.loop-k.invariant.carried c.loop-k.invariant.numbers).numbers_long

pub returns-then-next-size_of-clause-point : goal.returns-then-next-size_of-clause-point
returns-then-next-size_of-clause-point c =
    (went_on c.args.grid.now.params c.args.point.now c.loop-k.point c.loop-k.numbers c.loop-k.k c.args.grid.now.within c.requires.point c.loop-k-test.true (omega arith) c.loop-k.invariant.carried c.loop-k.invariant.numbers _ c.size_of.result c.set_index.new.point c.set_index.ensures.point refl c.size_of.ensures.value c.if-next-size_of.true).0

pub returns-then-next-size_of-clause-numbers : goal.returns-then-next-size_of-clause-numbers
returns-then-next-size_of-clause-numbers c =
    new_numbers c.args.grid.now.params c.args.point.now c.loop-k.point c.loop-k.numbers c.loop-k.k c.args.grid.now.within c.requires.point c.loop-k-test.true (omega arith) c.loop-k.invariant.carried c.loop-k.invariant.numbers _ c.set_index.new.point c.set_index.new.numbers c.set_index.ensures.point c.set_index.ensures.value

pub returns-then-next-size_of-clause-next : goal.returns-then-next-size_of-clause-next
returns-then-next-size_of-clause-next c = λ _.
    (went_on c.args.grid.now.params c.args.point.now c.loop-k.point c.loop-k.numbers c.loop-k.k c.args.grid.now.within c.requires.point c.loop-k-test.true (omega arith) c.loop-k.invariant.carried c.loop-k.invariant.numbers _ c.size_of.result c.set_index.new.point c.set_index.ensures.point refl c.size_of.ensures.value c.if-next-size_of.true).1

pub set_index-requires-in-loop-k-clause-param : goal.set_index-requires-in-loop-k-clause-param
set_index-requires-in-loop-k-clause-param c = (at_step c.args.grid.now.params c.args.point.now c.loop-k.point c.loop-k.numbers c.loop-k.k c.args.grid.now.within c.requires.point c.loop-k-test.true (omega arith) c.loop-k.invariant.carried c.loop-k.invariant.numbers).param

pub set_index-requires-in-loop-k-clause-index : goal.set_index-requires-in-loop-k-clause-index
set_index-requires-in-loop-k-clause-index c = (at_step c.args.grid.now.params c.args.point.now c.loop-k.point c.loop-k.numbers c.loop-k.k c.args.grid.now.within c.requires.point c.loop-k-test.true (omega arith) c.loop-k.invariant.carried c.loop-k.invariant.numbers).below 0 c.size_of.result c.size_of.ensures.value c.size_of.ensures.some

pub set_index-requires-in-loop-k-clause-long : goal.set_index-requires-in-loop-k-clause-long
set_index-requires-in-loop-k-clause-long c = (at_step c.args.grid.now.params c.args.point.now c.loop-k.point c.loop-k.numbers c.loop-k.k c.args.grid.now.within c.requires.point c.loop-k-test.true (omega arith) c.loop-k.invariant.carried c.loop-k.invariant.numbers).point_long

pub set_index-requires-in-loop-k-clause-numbers_long :
    goal.set_index-requires-in-loop-k-clause-numbers_long
set_index-requires-in-loop-k-clause-numbers_long c = (at_step c.args.grid.now.params c.args.point.now c.loop-k.point c.loop-k.numbers c.loop-k.k c.args.grid.now.within c.requires.point c.loop-k-test.true (omega arith) c.loop-k.invariant.carried c.loop-k.invariant.numbers).numbers_long

pub loop-k-preserved : goal.loop-k-preserved
loop-k-preserved c = record {
  carried = carry_on c.args.grid.now.params c.args.point.now c.loop-k.point c.loop-k.numbers c.loop-k.k c.args.grid.now.within c.requires.point c.loop-k-test.true (omega arith) c.loop-k.invariant.carried c.loop-k.invariant.numbers c.size_of.result c.set_index-in-loop-k.new.point c.set_index-in-loop-k.ensures.point c.size_of.ensures.value c.if-next-size_of.false;
  numbers = new_numbers c.args.grid.now.params c.args.point.now c.loop-k.point c.loop-k.numbers c.loop-k.k c.args.grid.now.within c.requires.point c.loop-k-test.true (omega arith) c.loop-k.invariant.carried c.loop-k.invariant.numbers 0 c.set_index-in-loop-k.new.point c.set_index-in-loop-k.new.numbers c.set_index-in-loop-k.ensures.point c.set_index-in-loop-k.ensures.value;
}

pub returns-clause-point : goal.returns-clause-point
returns-clause-point c = c.loop-k.invariant.carried.inside

pub returns-clause-next : goal.returns-clause-next
returns-clause-next c = λ l. absurd (not_after_last (sizes c.args.grid.now.params) c.args.point.now c.loop-k.point c.loop-k.k c.loop-k-test.false c.loop-k.invariant.carried l)
