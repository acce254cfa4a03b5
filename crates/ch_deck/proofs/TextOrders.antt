-- The accesses that a program's text tells are those of its statements, one after another: so an access that leaves its array has the
-- number of its place.
use Rattle.std.proofs.Common.{◌≡◌, refl, sym, ap, ap₂, ◌∙◌, subst, ℕ, List, [], ◌∷◌, ◌++◌, append_assoc}
use Rattle.std.specs.List.{flat_map}
use Rattle.std.proofs.lemmas.List.{append-nil}
use Rattle.ch_affine.specs.Form.{Form}
use Rattle.ch_nest.specs.declared.nest.Access.{Access}
use Rattle.ch_nest.specs.declared.nest.Body.{Body}
use Rattle.ch_nest.specs.declared.nest.Expr.{Expr, map-Expr}
use Rattle.ch_nest.specs.declared.nest.Expr.TheOpen.{Expr-F}
use Rattle.ch_nest.specs.declared.nest.Expr.TheFolds.{fold-roll-Expr, ind-Expr}
use Rattle.ch_nest.specs.declared.nest.Item.{Item}
use Rattle.ch_nest.specs.declared.nest.Item.TheVariants.{Loop, If, Assign}
use Rattle.ch_nest.specs.declared.nest.Item.TheFolds.{fold-Item}
use Rattle.ch_nestparse.specs.TextOrder as text
use Rattle.ch_nestparse.proofs.ItemsFit.{fold_assign, fold_if, fold_loop}
use Rattle.ch_space.specs.Judged.{bodies, bodies_of, text_accesses}
use Rattle.ch_space.proofs.Subscripted.{assign_bodies, if_bodies, loop_bodies}
use Rattle.ch_timed.specs.Conflict.{reads, reads_step}
use Rattle.ch_timed.specs.Members.{Each}
use Rattle.ch_timed.proofs.ItemCases.{each_item}

-- the reads of a right side

abbrev SameReads : Expr → Type 0
SameReads e = text.reads e ≡ reads e

abbrev Known : Type 0
Known = (e : Expr) × SameReads e

abbrev bare : Known → Expr
bare k = k.0

layer : (y : Expr-F Known)
    → text.reads_step (map-Expr Expr (List Access) text.reads (map-Expr Known Expr bare y)) ≡ reads_step (map-Expr Expr (List Access) reads (map-Expr Known Expr bare y))
layer (Expr-F.Number m) = refl
layer (Expr-F.Iter k) = refl
layer (Expr-F.Read a) = refl
layer (Expr-F.Neg x) = x.1
layer (Expr-F.Add x y) = ap₂ (λ (xs ys : List Access). xs ++ ys) x.1 y.1
layer (Expr-F.Sub x y) = ap₂ (λ (xs ys : List Access). xs ++ ys) x.1 y.1
layer (Expr-F.Mul x y) = ap₂ (λ (xs ys : List Access). xs ++ ys) x.1 y.1

same_reads : (e : Expr) → SameReads e
same_reads = ind-Expr SameReads (λ x y is.
    fold-roll-Expr (List Access) text.reads_step x
    ∙ subst (λ z. text.reads_step (map-Expr Expr (List Access) text.reads z) ≡ reads_step (map-Expr Expr (List Access) reads z)) is (layer y)
    ∙ sym (fold-roll-Expr (List Access) reads_step x))

-- the accesses of items

abbrev accesses_of : Item → List Access
accesses_of = fold-Item (List Access) text.accesses_step

flat_both : (xs ys : List Body) → flat_map text_accesses (xs ++ ys) ≡ flat_map text_accesses xs ++ flat_map text_accesses ys
flat_both [] ys = refl
flat_both (x ∷ xs) ys =
    ap (λ (zs : List Access). text_accesses x ++ zs) (flat_both xs ys) ∙ sym (append_assoc (text_accesses x) (flat_map text_accesses xs) (flat_map text_accesses ys))

abbrev SameOrder : Item → Type 0
SameOrder item = accesses_of item ≡ flat_map text_accesses (bodies_of item)

each_same : (items : List Item) → Each SameOrder items → text.text_accesses items ≡ flat_map text_accesses (bodies items)
each_same [] h = refl
each_same (i ∷ is) h = ap₂ (λ (xs ys : List Access). xs ++ ys) h.0 (each_same is h.1) ∙ sym (flat_both (bodies_of i) (bodies is))

same_loop : (lows highs : List Form) (step : ℕ) (items : List Item) → Each SameOrder items → SameOrder (Loop lows highs step items)
same_loop lows highs step items h =
    fold_loop text.accesses_step lows highs step items ∙ each_same items h ∙ sym (ap (flat_map text_accesses) (loop_bodies lows highs step items))

same_if : (row : Form) (items : List Item) → Each SameOrder items → SameOrder (If row items)
same_if row items h = fold_if text.accesses_step row items ∙ each_same items h ∙ sym (ap (flat_map text_accesses) (if_bodies row items))

same_assign : (label : ℕ) (body : Body) → SameOrder (Assign label body)
same_assign label body =
    fold_assign text.accesses_step label body ∙ ap (λ xs. body.write ∷ xs) (same_reads body.right)
    ∙ sym (append-nil (text_accesses body)) ∙ sym (ap (flat_map text_accesses) (assign_bodies label body))

-- the accesses in the order of the text are those of the statements, in their order, the write before the reads
pub text_order : (items : List Item) → text.text_accesses items ≡ flat_map text_accesses (bodies items)
text_order items = each_same items (each_item SameOrder same_loop same_if same_assign items)
