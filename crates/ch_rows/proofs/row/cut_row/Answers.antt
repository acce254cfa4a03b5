use Rattle.std.proofs.Common.{rules, ◌≡◌, ◌+◌, ◌<◌, ◌≤◌, ◌++◌, ◌∷◌, [], ℕ, length, get_or, sym, ap, ◌∙◌, subst, arith, length-append}
use Rattle.ch_rows.proofs.Cutting.{Uncut, CutFrom, all_uncut, uncut_here, cut_walk, cut_may, cut_others}
use Rattle.ch_rows.proofs.row.cut_row.Goals as goal
use Rattle.ch_rows.specs.FirstSeats.{MayCut, Blank, IsNew}
use Rattle.ch_seats.proofs.Walking.{walk_init, walk_end, row_push}

pub loop-i-init : goal.loop-i-init
loop-i-init g c =
    let n = c.args.number in
    let t = c.args.turns in
    let none = c.in_ok-row.ensures.items in
    record {
      walk = walk_init (Uncut n t c.args.seats.now) (CutFrom n t c.args.seats.now) c.args.books.now c.args.seats.now (all_uncut n t c.args.books.now c.args.seats.now c.requires.seats.0);
      long = ap length none;
      room = search rules;
      new = λ j a b low. absurd (omega arith);
    }

pub cut-requires-clause-seat : goal.cut-requires-clause-seat
cut-requires-clause-seat g c =
    uncut_here c.args.number c.args.turns (MayCut c.args.turns) c.args.books.now c.args.seats.now c.loop-i.seats c.loop-i.i c.index-books-i.result c.index-seats-i.result c.loop-i-test.true c.index-books-i.is c.loop-i.invariant.walk c.requires.seats

pub cut-requires-clause-blank : goal.cut-requires-clause-blank
cut-requires-clause-blank g c =
    uncut_here c.args.number c.args.turns (Blank c.args.number) c.args.books.now c.args.seats.now c.loop-i.seats c.loop-i.i c.index-books-i.result c.index-seats-i.result c.loop-i-test.true c.index-books-i.is c.loop-i.invariant.walk c.requires.blank

pub loop-i-preserved : goal.loop-i-preserved
loop-i-preserved g c =
    let n = c.args.number in
    let t = c.args.turns in
    let was = c.loop-i.invariant in
    let items = c.push_reserved.ensures.items in
    record {
      walk = cut_walk n t c.args.books.now c.args.seats.now c.loop-i.seats c.loop-i.i c.index-books-i.result c.index-seats-i.result c.cut.new.seat c.requires.seats.0 c.loop-i-test.true c.index-books-i.is was.walk
          (record { first = c.cut.ensures.seat; left = c.cut.ensures.turns; others = c.cut.ensures.others });
      long = ap length items ∙ (length-append c.loop-i.row.items (c.cut.result ∷ []) ∙ ap (λ (k : ℕ). k + 1) was.long);
      room = search rules;
      new = subst (λ v. (j : ℕ) (a : _) (b : _) → j < c.loop-i.i + 1 → IsNew n t j (get_or c.args.books.now j a) (get_or v j b)) (sym items)
          (row_push (IsNew n t) c.args.books.now c.loop-i.row.items c.loop-i.i c.index-books-i.result c.cut.result c.loop-i-test.true was.long c.index-books-i.is c.cut.ensures.new was.new);
    }

pub returns-clause-seats : goal.returns-clause-seats
returns-clause-seats g c = λ rest r. cut_may c.args.number c.args.turns rest c.args.books.now c.args.seats.now c.loop-i.seats r
    (walk_end (Uncut c.args.number c.args.turns c.args.seats.now) (CutFrom c.args.number c.args.turns c.args.seats.now) c.args.books.now c.loop-i.seats c.loop-i.i (search rules) c.loop-i.invariant.walk)

pub returns-clause-others : goal.returns-clause-others
returns-clause-others g c = λ x ne r. cut_others c.args.number c.args.turns x c.args.books.now c.args.seats.now c.loop-i.seats ne r
    (walk_end (Uncut c.args.number c.args.turns c.args.seats.now) (CutFrom c.args.number c.args.turns c.args.seats.now) c.args.books.now c.loop-i.seats c.loop-i.i (search rules) c.loop-i.invariant.walk)

pub returns-clause-new : goal.returns-clause-new
returns-clause-new g c =
    let ends : c.loop-i.i ≡ length c.args.books.now = search rules in
    (c.loop-i.invariant.long ∙ ends, λ j a b low. c.loop-i.invariant.new j a b (subst (λ (k : ℕ). j < k) (sym ends) low))
