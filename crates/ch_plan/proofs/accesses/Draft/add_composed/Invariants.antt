use Rattle.std.proofs.Common.{◌≡◌, ◌+ℤ◌, ◌*ℤ◌, ℤ, List, length, take, w64}
use Rattle.std.specs.Int.{int_wrap}
use Rattle.ch_affine.specs.Affine.{dot}
use Rattle.ch_plan.specs.Ready.{formed, iters_at}
use Rattle.ch_plan.proofs.accesses.Draft.add_composed.Given as goal

abbrev pub invariant-loop-k : goal.invariant-loop-k
invariant-loop-k l = record {
  long : length l.self.coefs.items ≡ length l.fn.self.coefs.items;
  residues : l.self.residues ≡ l.fn.self.residues;
  value : (xs : List ℤ) → int_wrap w64 (formed l.self xs)
      ≡ int_wrap w64 (formed l.fn.self xs +ℤ l.factor *ℤ (l.form.constant +ℤ dot (take l.k l.weights) (iters_at l.origin xs)));
}
