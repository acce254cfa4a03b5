-- One layer of a redirected right side, at each form of expression.
use Rattle.std.proofs.Common.{◌≡◌, sym, ap, ◌∙◌, ℕ, ℤ}
use Rattle.ch_nest.specs.declared.nest.Access.{Access}
use Rattle.ch_nest.specs.declared.nest.Expr.{Expr}
use Rattle.ch_nest.specs.declared.nest.Expr.TheVariants.{Number, Iter, Read, Neg, Add, Sub, Mul, rolls-Number, rolls-Iter, rolls-Read, rolls-Neg, rolls-Add, rolls-Sub, rolls-Mul}
use Rattle.ch_nest.specs.declared.nest.Expr.TheFolds.{fold-roll-Expr}
use Rattle.ch_copied.specs.Plans.{Plan}
use Rattle.ch_copied.specs.Bodies.{redirect, redirect_step, redirected_access}

pub redirect_number : (p : Plan) (n : ℤ) → redirect p (Number n) ≡ Number n
redirect_number p n = ap (redirect p) (sym (rolls-Number n)) ∙ fold-roll-Expr Expr (redirect_step p) _

pub redirect_iter : (p : Plan) (k : ℕ) → redirect p (Iter k) ≡ Iter k
redirect_iter p k = ap (redirect p) (sym (rolls-Iter k)) ∙ fold-roll-Expr Expr (redirect_step p) _

pub redirect_read : (p : Plan) (a : Access) → redirect p (Read a) ≡ Read (redirected_access p a)
redirect_read p a = ap (redirect p) (sym (rolls-Read a)) ∙ fold-roll-Expr Expr (redirect_step p) _

pub redirect_neg : (p : Plan) (x : Expr) → redirect p (Neg x) ≡ Neg (redirect p x)
redirect_neg p x = ap (redirect p) (sym (rolls-Neg x)) ∙ fold-roll-Expr Expr (redirect_step p) _

pub redirect_add : (p : Plan) (x y : Expr) → redirect p (Add x y) ≡ Add (redirect p x) (redirect p y)
redirect_add p x y = ap (redirect p) (sym (rolls-Add x y)) ∙ fold-roll-Expr Expr (redirect_step p) _

pub redirect_sub : (p : Plan) (x y : Expr) → redirect p (Sub x y) ≡ Sub (redirect p x) (redirect p y)
redirect_sub p x y = ap (redirect p) (sym (rolls-Sub x y)) ∙ fold-roll-Expr Expr (redirect_step p) _

pub redirect_mul : (p : Plan) (x y : Expr) → redirect p (Mul x y) ≡ Mul (redirect p x) (redirect p y)
redirect_mul p x y = ap (redirect p) (sym (rolls-Mul x y)) ∙ fold-roll-Expr Expr (redirect_step p) _
