-- What holds where no cause forbids a command.
use Rattle.std.proofs.Common.{◌≡◌, refl, ℕ, ℤ, unsigned_abs, Bool, true, false, cond, Option, Some, None, List, [], ◌∷◌, leb}
use Rattle.std.specs.List.{All}
use Rattle.std.proofs.lemmas.Bool.{leb-true}
use Rattle.std.proofs.lemmas.List.Elements.{All-cons, All-nil}
use Rattle.ch_affine.specs.Affine.{IsAtMost}
use Rattle.ch_moved.specs.Causes.{first_failing, first_of}
use Rattle.ch_nest.specs.declared.cause.Shape.{Shape}

pub none_first : (o : Option Shape) (more : List (Option Shape)) → first_of (o ∷ more) ≡ None → (o ≡ None) × (first_of more ≡ None)
none_first None more e = (refl, e)
none_first (Some c) more e = cc

pub test_of : (b : Bool) (c : Shape) → cond b None (Some c) ≡ None → b ≡ true
test_of true c e = refl
test_of false c e = cc

pub passes_first : (b : Bool) (c : Shape) (rest : Option Shape) → cond b rest (Some c) ≡ None → (b ≡ true) × (rest ≡ None)
passes_first true c rest e = (refl, e)
passes_first false c rest e = cc

-- where no amount is too large, all are small
pub all_small : (most : ℕ) (amounts : List ℤ) → first_failing 4 (λ a. leb (unsigned_abs a) most) amounts ≡ None → All (IsAtMost most) amounts
all_small most [] e = All-nil (IsAtMost most)
all_small most (a ∷ as') e =
    let r = passes_first (leb (unsigned_abs a) most) _ (first_failing 4 (λ z. leb (unsigned_abs z) most) as') e in
    All-cons (IsAtMost most) a as' (leb-true (unsigned_abs a) most r.0) (all_small most as' r.1)
