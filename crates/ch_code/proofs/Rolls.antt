-- One layer of the texts of right sides and of code, at each form of them.
use Rattle.std.proofs.Common.{◌≡◌, sym, ap, ◌∙◌, ℕ, suc, ℤ, Bool, true, List, ◌++◌, map}
use Rattle.std.specs.Prelude.{codes}
use Rattle.ch_affine.specs.Form.{Form}
use Rattle.ch_affine.specs.Rows.{Rows}
use Rattle.ch_nest.specs.declared.nest.Access.{Access}
use Rattle.ch_nest.specs.declared.nest.ArrayDecl.{ArrayDecl}
use Rattle.ch_nest.specs.declared.nest.Body.{Body}
use Rattle.ch_nest.specs.declared.nest.Expr.{Expr}
use Rattle.ch_nest.specs.declared.nest.Expr.TheVariants.{Number, Iter, Read, Neg, Add, Sub, Mul, rolls-Number, rolls-Iter, rolls-Read, rolls-Neg, rolls-Add, rolls-Sub, rolls-Mul}
use Rattle.ch_nest.specs.declared.nest.Expr.TheFolds.{fold-roll-Expr}
use Rattle.ch_timed.specs.declared.element.Label.{Label}
use Rattle.ch_code.specs.BodyText.{Side, access_text, encloses_number, encloses_product, encloses_sum, expr_layer, expr_text, infix_text, operand_text}
use Rattle.ch_code.specs.declared.bodies.Standing.{Standing}
use Rattle.ch_code.specs.declared.bodies.Standing.TheVariants.{Sum, Product, Operand, Negated}
use Rattle.ch_code.specs.FormText.{original, variable_text}
use Rattle.ch_code.specs.LoopText.{for_text, if_text}
use Rattle.ch_code.specs.CodeText.{Printed, brace_lead, braced_text, code_layer, code_text, lead, leaf_text, level_of}
use Rattle.ch_code.specs.declared.code.Bound.{Bound}
use Rattle.ch_code.specs.declared.code.Code.{Code}
use Rattle.ch_code.specs.declared.code.Code.TheVariants.{Seq, Loop, Guard, Leaf, rolls-Seq, rolls-Loop, rolls-Guard, rolls-Leaf}
use Rattle.ch_code.specs.declared.code.Code.TheFolds.{fold-roll-Code}

module _ (arrays : List ArrayDecl) (n : ℕ) (standing : Standing) where
  at_standing : {f g : Side} → f ≡ g → f standing ≡ g standing
  at_standing e = ap (λ f. f standing) e

  pub number_is : (z : ℤ) → expr_text arrays n (Number z) standing ≡ operand_text (encloses_number standing z) z
  number_is z = at_standing (ap (expr_text arrays n) (sym (rolls-Number z)) ∙ fold-roll-Expr Side (expr_layer arrays n) _)

  pub iter_is : (k : ℕ) → expr_text arrays n (Iter k) standing ≡ variable_text original (suc k)
  iter_is k = at_standing (ap (expr_text arrays n) (sym (rolls-Iter k)) ∙ fold-roll-Expr Side (expr_layer arrays n) _)

  pub read_is : (a : Access) → expr_text arrays n (Read a) standing ≡ access_text arrays n a
  read_is a = at_standing (ap (expr_text arrays n) (sym (rolls-Read a)) ∙ fold-roll-Expr Side (expr_layer arrays n) _)

  pub neg_is : (x : Expr) → expr_text arrays n (Neg x) standing ≡ codes "-" ++ expr_text arrays n x Negated
  neg_is x = at_standing (ap (expr_text arrays n) (sym (rolls-Neg x)) ∙ fold-roll-Expr Side (expr_layer arrays n) _)

  pub add_is : (x y : Expr)
      → expr_text arrays n (Add x y) standing
      ≡ infix_text (encloses_sum standing) (expr_text arrays n x Sum) (codes " + ") (expr_text arrays n y Product)
  add_is x y = at_standing (ap (expr_text arrays n) (sym (rolls-Add x y)) ∙ fold-roll-Expr Side (expr_layer arrays n) _)

  pub sub_is : (x y : Expr)
      → expr_text arrays n (Sub x y) standing
      ≡ infix_text (encloses_sum standing) (expr_text arrays n x Sum) (codes " - ") (expr_text arrays n y Product)
  sub_is x y = at_standing (ap (expr_text arrays n) (sym (rolls-Sub x y)) ∙ fold-roll-Expr Side (expr_layer arrays n) _)

  pub mul_is : (x y : Expr)
      → expr_text arrays n (Mul x y) standing
      ≡ infix_text (encloses_product standing) (expr_text arrays n x Product) (codes " * ") (expr_text arrays n y Operand)
  mul_is x y = at_standing (ap (expr_text arrays n) (sym (rolls-Mul x y)) ∙ fold-roll-Expr Side (expr_layer arrays n) _)

module _ (arrays : List ArrayDecl) (behind : Bool) (level around : ℕ) where
  at_place : {f g : Printed} → f ≡ g → f behind level around ≡ g behind level around
  at_place e = ap (λ f. f behind level around) e

  pub seq_is : (parts : List Code)
      → code_text arrays (Seq parts) behind level around ≡ brace_lead behind level ++ braced_text (map (code_text arrays) parts) level around
  seq_is parts = at_place (ap (code_text arrays) (sym (rolls-Seq parts)) ∙ fold-roll-Code Printed (code_layer arrays) _)

  pub loop_is : (number : ℕ) (lows highs : List Bound) (inner : Code)
      → code_text arrays (Loop number lows highs inner) behind level around
      ≡ lead behind level ++ for_text around number lows highs ++ code_text arrays inner true (level_of behind level) (suc around)
  loop_is number lows highs inner = at_place (ap (code_text arrays) (sym (rolls-Loop number lows highs inner)) ∙ fold-roll-Code Printed (code_layer arrays) _)

  pub guard_is : (system : Rows) (inner : Code)
      → code_text arrays (Guard system inner) behind level around
      ≡ lead behind level ++ if_text around system ++ code_text arrays inner true (level_of behind level) around
  guard_is system inner = at_place (ap (code_text arrays) (sym (rolls-Guard system inner)) ∙ fold-roll-Code Printed (code_layer arrays) _)

  pub leaf_is : (label : Label) (body : Body) (origin : List Form) (places : List ℕ)
      → code_text arrays (Leaf label body origin places) behind level around ≡ lead behind level ++ leaf_text arrays around label body origin places
  leaf_is label body origin places = at_place (ap (code_text arrays) (sym (rolls-Leaf label body origin places)) ∙ fold-roll-Code Printed (code_layer arrays) _)
