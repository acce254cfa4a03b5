use Rattle.std.proofs.Common.{◌≡◌, ◌≤◌, [], ap, sym, ◌∙◌, subst, length, arith}
use Rattle.ch_space.proofs.NextPlaces.{all_numbers, numbers_zero, numbers_same, numbers_next, at_like}
use Rattle.ch_pieces.proofs.closing.numbers_after.Goals as goal
use Rattle.ch_pieces.proofs.closing.numbers_after.Goals.{then-like-k+in_ok-push, else-like-k+then-like-k-2+in_ok-push-2, else-like-k+else-like-k-2+in_ok-push-3}

pub returns : goal.returns
returns c =
    all_numbers c.loop-k.k c.args.before.now c.args.closed.now c.args.places.now c.loop-k.numbers c.loop-k.like.now c.loop-k-test.false c.loop-k.invariant.numbers

pub loop-k-preserved : goal.loop-k-preserved
loop-k-preserved c =
    let short = c.loop-k.invariant.short in
    let numbers = c.loop-k.invariant.numbers in
    elim c.if-like-k.branch [
      | then-like-k+in_ok-push w ↦
          let s : c.if-like-k.like.now ≡ c.loop-k.like.now = ap (λ b. b.now) w.like-is in
          record {
            short = subst (λ z. length z ≤ length c.args.closed.now) (sym s) short;
            numbers = at_like c.loop-k.k _ c.if-like-k.numbers c.if-like-k.like.now c.loop-k.like.now c.args.closed.now c.args.places.now s
                (numbers_zero c.loop-k.k _ c.loop-k.numbers c.if-like-k.numbers c.loop-k.like.now c.args.closed.now c.args.places.now w.if-like-k.true c.loop-k-test.true numbers
                (w.numbers-is ∙ w.in_ok-push.ensures.ok));
          }
      | else-like-k+then-like-k-2+in_ok-push-2 w ↦
          let s : c.if-like-k.like.now ≡ c.loop-k.like.now = ap (λ b. b.now) w.like-is in
          let h = w.if-like-k.false in
          record {
            short = subst (λ z. length z ≤ length c.args.closed.now) (sym s) short;
            numbers = at_like c.loop-k.k _ c.if-like-k.numbers c.if-like-k.like.now c.loop-k.like.now c.args.closed.now c.args.places.now s
                (numbers_same c.loop-k.k _ c.loop-k.numbers c.if-like-k.numbers c.loop-k.like.now c.args.closed.now c.args.places.now h (omega arith) c.loop-k-test.true w.if-like-k-2.true numbers
                (w.numbers-is ∙ w.in_ok-push-2.ensures.ok));
          }
      | else-like-k+else-like-k-2+in_ok-push-3 w ↦
          let s : c.if-like-k.like.now ≡ [] = ap (λ b. b.now) w.like-is in
          let h = w.if-like-k.false in
          record {
            short = subst (λ z. length z ≤ length c.args.closed.now) (sym s) (omega arith);
            numbers = at_like c.loop-k.k _ c.if-like-k.numbers c.if-like-k.like.now [] c.args.closed.now c.args.places.now s
                (numbers_next c.loop-k.k _ c.loop-k.numbers c.if-like-k.numbers c.loop-k.like.now c.args.closed.now c.args.places.now h (omega arith) c.loop-k-test.true w.if-like-k-2.false numbers
                (w.numbers-is ∙ w.in_ok-push-3.ensures.ok));
          }
    ]
