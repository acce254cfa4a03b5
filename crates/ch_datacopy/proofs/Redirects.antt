-- Bodies and accesses as they are made are those of the plan.
use Rattle.std.proofs.Common.{◌≡◌, refl, sym, ap, ap₂, ◌∙◌, ℕ, ◌+◌, ◌<◌, ◌≤◌, Bool, true, false, List, [], ◌∷◌, ◌++◌, length, get_or, arith, below_more, length-append}
use Rattle.std.specs.Prelude.{if◌then◌else◌, nat_lt}
use Rattle.std.proofs.lemmas.Bool.{eq-eqb, eqb-true, lt-ltb, ltb-true}
use Rattle.std.proofs.Math.ListN.{get_or-append}
use Rattle.std.proofs.Math.Seq.{get_or-append_seam}
use Rattle.ch_copied.specs.Accesses.{names}
use Rattle.ch_copied.specs.Bodies.{in_body, moved_cell, out_body, redirect, redirected, redirected_access, variables, wrapped}
use Rattle.ch_copied.specs.Plans.{Plan}
use Rattle.ch_copied.proofs.Rolls.{redirect_neg}
use Rattle.ch_copied.proofs.Simulation.{unredirected}
use Rattle.ch_datacopy.specs.Targets.{IsTarget}
use Rattle.ch_datacopy.specs.Works.{move_body}
use Rattle.ch_datacopy.specs.declared.redirect.Target.{Target}
use Rattle.ch_nest.specs.declared.nest.Access.{Access}
use Rattle.ch_nest.specs.declared.nest.Body.{Body}
use Rattle.ch_nest.specs.declared.nest.Expr.{Expr}
use Rattle.ch_nest.specs.declared.nest.Expr.TheVariants.{Neg, Read}
use Rattle.ch_nest.specs.declared.nest.Sub as subscript

pub is_false : (b : Bool) → (b ≡ true → ⊥) → b ≡ false
is_false true h = absurd (h refl)
is_false false h = refl

abbrev access_of : ℕ → List subscript.Sub → Access
access_of array subs = record { array = array; subs = subs }

abbrev body_of : Access → Expr → Body
body_of write right = record { write = write; right = right }

-- an access of another array stays
pub other_access : (p : Plan) (target : Target) (sizes : List ℕ) (a new : Access) → IsTarget target sizes p → (a.array ≡ target.array → ⊥) → new ≡ a → new ≡ redirected_access p a
other_access p target sizes a new t n e =
    e ∙ sym (unredirected p a (is_false (names p.array a) (λ h. n (eqb-true a.array p.array h ∙ t.array))))

-- an access of the array is one of the buffer
pub buffer_access : (p : Plan) (target : Target) (sizes : List ℕ) (a : Access) (subs : List subscript.Sub) → IsTarget target sizes p → a.array ≡ target.array → subs ≡ wrapped a.subs sizes
    → access_of target.buffer subs ≡ redirected_access p a
buffer_access p target sizes a subs t e s =
    made ∙ sym (ap (λ b. if b then access_of p.buffer (wrapped a.subs p.extents) else a) (eq-eqb a.array p.array (e ∙ sym t.array)))
  where
    there : subs ≡ wrapped a.subs p.extents
    there = s ∙ ap (wrapped a.subs) (sym t.extents)

    made : access_of target.buffer subs ≡ access_of p.buffer (wrapped a.subs p.extents)
    made = ap₂ access_of (sym t.buffer) there

-- the cell of a move
pub cell_access : (p : Plan) (target : Target) (sizes : List ℕ) (around : ℕ) (subs : List subscript.Sub) → IsTarget target sizes p → p.around ≡ around
    → ((es : List ℕ) → length es ≡ length sizes → subs ≡ variables around es) → access_of target.array subs ≡ moved_cell p
cell_access p target sizes around subs t e h = ap₂ access_of (sym t.array) there
  where
    there : subs ≡ variables p.around p.extents
    there = h p.extents (ap length t.extents) ∙ ap (λ n. variables n p.extents) (sym e)

pub in_is : (p : Plan) (cell write : Access) → cell ≡ moved_cell p → write ≡ redirected_access p cell → body_of write (Read cell) ≡ in_body p
in_is p cell write c w = ap₂ body_of (w ∙ ap (redirected_access p) c) (ap Read c)

pub out_is : (p : Plan) (cell read : Access) → cell ≡ moved_cell p → read ≡ redirected_access p cell → body_of cell (Read read) ≡ out_body p
out_is p cell read c r = ap₂ body_of c (ap Read (r ∙ ap (redirected_access p) c))

pub in_move : (p : Plan) (k ins : ℕ) (b : Body) → length p.ins ≡ ins → k < ins → b ≡ in_body p → b ≡ move_body p k
in_move p k ins b l m e = e ∙ sym (ap (λ t. if t then in_body p else out_body p) (lt-ltb k (length p.ins) (omega (arith, l, m))))

pub out_move : (p : Plan) (k ins : ℕ) (b : Body) → length p.ins ≡ ins → ins ≤ k → b ≡ out_body p → b ≡ move_body p k
out_move p k ins b l m e = e ∙ sym (ap (λ t. if t then in_body p else out_body p) (is_false (nat_lt k (length p.ins)) (λ h. let x = ltb-true k (length p.ins) h in omega (arith, l, m, x))))

pub body_is : (p : Plan) (b made : Body) → made.write ≡ redirected_access p b.write → made.right ≡ redirect p b.right → made ≡ redirected p b
body_is p b made w r = λ i. record { write = w i; right = r i }

-- right sides of one part, and of two

pub neg_is : (p : Plan) (e x got inner new : Expr) → e ≡ Neg x → got ≡ x → inner ≡ redirect p got → new ≡ inner → Neg new ≡ redirect p e
neg_is p e x got inner new a b i n = ap Neg (n ∙ i ∙ ap (redirect p) b) ∙ sym (redirect_neg p x) ∙ ap (redirect p) (sym a)

pub two_are : (p : Plan) (make : Expr → Expr → Expr) → ((x y : Expr) → redirect p (make x y) ≡ make (redirect p x) (redirect p y)) → (e x y got other left right first second : Expr)
    → e ≡ make x y → got ≡ x → other ≡ y → left ≡ redirect p got → right ≡ redirect p other → first ≡ left → second ≡ right → make first second ≡ redirect p e
two_are p make h e x y got other left right first second a b c l r f s =
    ap₂ make (f ∙ l ∙ ap (redirect p) b) (s ∙ r ∙ ap (redirect p) c) ∙ sym (h x y) ∙ ap (redirect p) (sym a)

-- one extent more

pub extents_more : (P : ℕ → ℕ → Type 0) (es next : List ℕ) (k w e : ℕ) → length es ≡ k → ((j : ℕ) → j < k → (wide : ℕ) × (get_or es j 0 ≡ wide + 1) × P j wide) → e ≡ w + 1 → P k w → next ≡ es ++ e ∷ []
    → (length next ≡ k + 1) × ((j : ℕ) → j < k + 1 → (wide : ℕ) × (get_or next j 0 ≡ wide + 1) × P j wide)
extents_more P es next k w e l h s p n = (many, below_more At k old here)
  where
    At : ℕ → Type 0
    At j = (wide : ℕ) × (get_or next j 0 ≡ wide + 1) × P j wide

    many : length next ≡ k + 1
    many = ap length n ∙ length-append es (e ∷ []) ∙ omega (arith, l)

    old : (j : ℕ) → j < k → (wide : ℕ) × (get_or next j 0 ≡ wide + 1) × P j wide
    old j m = let x = h j m in (x.0, ap (λ z. get_or z j 0) n ∙ get_or-append es (e ∷ []) 0 j (omega (arith, l, m)) ∙ x.1, x.2)

    here : (wide : ℕ) × (get_or next k 0 ≡ wide + 1) × P k wide
    here = (w, ap₂ (λ z j. get_or z j 0) n (sym l) ∙ get_or-append_seam es e [] 0 ∙ s, p)
