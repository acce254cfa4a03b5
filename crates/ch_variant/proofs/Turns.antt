-- One command more: what holds of the program after it, where it held of the one before.
use Rattle.std.proofs.Common.{◌≡◌, ◌∙◌, arith, Bool, true, false, ℕ, ◌+◌, ◌<◌, ◌≤◌, ℤ, Ok, List, length, get_or}
use Rattle.ch_nest.specs.LoopNest.{LoopNest}
use Rattle.ch_script.specs.declared.recipe.Command.{Command}
use Rattle.ch_space.specs.Listed.{Listed}
use Rattle.ch_variant.specs.Applied.{one, plain}
use Rattle.ch_variant.specs.Arguments.{scope}
use Rattle.ch_variant.specs.Commands.{IsBehind, frees_sums}
use Rattle.ch_variant.specs.Meaning.{Keeps}
use Rattle.ch_variant.proofs.Kept.{keeps_on}
use Rattle.ch_variant.proofs.Stepwise.{Reaches, reaches_freed, reaches_more}

-- what holds after k commands
pub record Holds (nest : LoopNest) (values : List ℤ) (cs : List Command) (k : ℕ) (sums : Bool) (p : Listed) : Type 0 where
  pub reached : Reaches (scope nest values) cs (plain nest) k sums p
  pub keeps : Keeps (plain nest) p
  pub arrays : p.arrays ≡ length nest.arrays
  pub counted : p.commands ≤ k
  pub buffered : length p.temps ≤ k

pub one_more : (nest : LoopNest) (values : List ℤ) (cs : List Command) (p q : Listed) (k : ℕ) (sums : Bool) (c : Command) → frees_sums c ≡ false
    → one (scope nest values) sums (k + 1) c p ≡ Ok q → k < length cs → c ≡ get_or cs k c → Holds nest values cs k sums p
    → Keeps p q → IsBehind p q → Holds nest values cs (k + 1) sums q
one_more nest values cs p q k sums c m o l e h more behind =
    let few = h.counted in
    let some = h.buffered in
    let next = behind.commands in
    let longer = behind.buffers in
    record {
      reached = reaches_more (scope nest values) cs (plain nest) p q k sums c h.reached l e m o;
      keeps = keeps_on (plain nest) p q h.arrays h.keeps more;
      arrays = behind.arrays ∙ h.arrays;
      counted = omega (arith, few, next);
      buffered = omega (arith, some, longer);
    }

pub freed_now : (nest : LoopNest) (values : List ℤ) (cs : List Command) (p : Listed) (k : ℕ) (sums : Bool) (c : Command) → frees_sums c ≡ true
    → k < length cs → c ≡ get_or cs k c → Holds nest values cs k sums p → Holds nest values cs (k + 1) true p
freed_now nest values cs p k sums c m l e h =
    let few = h.counted in
    let some = h.buffered in
    record {
      reached = reaches_freed (scope nest values) cs (plain nest) p k sums c h.reached l e m;
      keeps = h.keeps;
      arrays = h.arrays;
      counted = omega (arith, few);
      buffered = omega (arith, some);
    }
