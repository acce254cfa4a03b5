use Rattle.std.proofs.Common.{◌≤◌, ◌^◌, ℕ, refl, arith}
use Rattle.std.proofs.lemmas.List.Elements.{All-push, All-same}
use Rattle.ch_datacopy.specs.Widths.{IsWidth}
use Rattle.ch_datacopy.proofs.Redirects.{extents_more}
use Rattle.ch_datacopy.proofs.widths.extents.Goals as goal

pub loop-k-preserved : goal.loop-k-preserved
loop-k-preserved c =
    let r = extents_more (λ j w. IsWidth c.args.around c.args.cells j c.args.all.now c.args.all.now w) c.loop-k.extents c.push.new.self c.loop-k.k c.in_ok-wide.wide _ c.loop-k.invariant.count
    c.loop-k.invariant.each refl c.in_ok-wide.ensures.width c.in_ok-push.ensures.ok in
    let n = c.in_ok-wide.ensures.near in
    record {
      count = r.0;
      each = r.1;
      small = All-same (λ (e : ℕ). e ≤ 2 ^ 20) _ _ c.in_ok-push.ensures.ok (All-push (λ (e : ℕ). e ≤ 2 ^ 20) c.loop-k.extents _ c.loop-k.invariant.small (omega (arith, n)));
    }

pub returns-clause-widths : goal.returns-clause-widths
returns-clause-widths c = record {
  count = let n = c.loop-k.invariant.count in let f = c.loop-k-test.false in omega arith;
  each = λ k l. c.loop-k.invariant.each k (let f = c.loop-k-test.false in omega (arith, l, f));
}
