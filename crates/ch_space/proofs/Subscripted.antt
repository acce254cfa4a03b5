-- The accesses of statements, their numbers and cells, one step on.
use Rattle.std.proofs.Common.{◌≡◌, refl, sym, ap, ◌∙◌, ℕ, zero, suc, ◌+◌, ◌*◌, ◌^◌, ◌<◌, ◌≤◌, ℤ, ◌+ℤ◌, ◌*ℤ◌, ◌≤ℤ◌, unsigned_abs, nat_eq, Bool, true, false, Option, Some, List, [], ◌∷◌, ◌++◌, length, map, drop, take, get_or, append_assoc, add-one, arith}
use Rattle.std.specs.Bool.{IsTrue}
use Rattle.std.specs.List.{All, list_all}
use Rattle.std.proofs.Math.Nat.{mul-le-mul_left, mul-le-mul_right}
use Rattle.std.proofs.lemmas.Bool.{and_parts, eqb-true, leb-true}
use Rattle.std.proofs.lemmas.Int.{ints, unsigned_abs-mul}
use Rattle.std.proofs.lemmas.List.Elements.{All-head, All-tail, All-nil, All-cons, All-weaker}
use Rattle.std.proofs.lemmas.List.{length-append}
use Rattle.std.proofs.lemmas.List.{drop_more, map-append, take_more}
use Rattle.ch_affine.specs.Affine.{dot, IsAtMost}
use Rattle.ch_affine.specs.Form.{Form}
use Rattle.ch_affine.specs.Rows.{lies_in}
use Rattle.ch_affine.specs.declared.system.Range.{Range}
use Rattle.ch_nest.proofs.Corners.{LiesFirst, lies_first}
use Rattle.ch_nest.proofs.Places.{plain_sub}
use Rattle.ch_nest.specs.Arrays.{extents_of}
use Rattle.ch_nest.specs.At.{IsAt}
use Rattle.ch_nest.specs.Limits.{deepest, most_affine}
use Rattle.ch_nest.specs.declared.nest.Access.{Access}
use Rattle.ch_nest.specs.declared.nest.ArrayDecl.{ArrayDecl}
use Rattle.ch_nest.specs.declared.nest.Body.{Body}
use Rattle.ch_nest.specs.declared.nest.Item.{Item}
use Rattle.ch_nest.specs.declared.nest.Item.TheVariants.{Loop, If, Assign, rolls-Loop, rolls-If, rolls-Assign}
use Rattle.ch_nest.specs.declared.nest.Item.TheFolds.{fold-roll-Item}
use Rattle.ch_nest.specs.declared.nest.Sub.{Sub}
use Rattle.ch_nest.specs.Run.{sub_value}
use Rattle.ch_nest.specs.Shape.{access_fits, body_fits, coefs_fit, constant_fits, form_fits, has_dimensions, is_at_most, sub_fits, IsSmall}
use Rattle.ch_nest.specs.Sound.{access_inside}
use Rattle.ch_space.specs.declared.accesses.Leaving.{Leaving}
use Rattle.ch_space.specs.Judged.{access_count, bodies, bodies_of, bodies_step, first_leaving, text_accesses}
use Rattle.ch_space.specs.JudgingWalk.{IsNear}
use Rattle.ch_space.proofs.Bodies.{Fits, body_accesses}
use Rattle.ch_timed.specs.Conflict.{cell_of, reads}
use Rattle.ch_timed.specs.Members.{Each}

-- the numbers of accesses

pub loop_bodies : (lows highs : List Form) (step : ℕ) (items : List Item) → bodies_of (Loop lows highs step items) ≡ bodies items
loop_bodies lows highs step items = ap bodies_of (sym (rolls-Loop lows highs step items)) ∙ fold-roll-Item (List Body) bodies_step _

pub if_bodies : (row : Form) (items : List Item) → bodies_of (If row items) ≡ bodies items
if_bodies row items = ap bodies_of (sym (rolls-If row items)) ∙ fold-roll-Item (List Body) bodies_step _

pub assign_bodies : (label : ℕ) (body : Body) → bodies_of (Assign label body) ≡ body ∷ []
assign_bodies label body = ap bodies_of (sym (rolls-Assign label body)) ∙ fold-roll-Item (List Body) bodies_step _

pub counts_loop : (item : Item) (lows highs : List Form) (step : ℕ) (items : List Item) (counts next : List ℕ) → item ≡ Loop lows highs step items
    → next ≡ counts ++ map access_count (bodies items) → next ≡ counts ++ map access_count (bodies_of item)
counts_loop item lows highs step items counts next is h = rw (is, loop_bodies lows highs step items) h

pub counts_if : (item : Item) (row : Form) (items : List Item) (counts next : List ℕ) → item ≡ If row items
    → next ≡ counts ++ map access_count (bodies items) → next ≡ counts ++ map access_count (bodies_of item)
counts_if item row items counts next is h = rw (is, if_bodies row items) h

pub counts_assign : (item : Item) (label : ℕ) (body : Body) (counts next : List ℕ) (n : ℕ) → item ≡ Assign label body → n ≡ access_count body
    → next ≡ counts ++ n ∷ [] → next ≡ counts ++ map access_count (bodies_of item)
counts_assign item label body counts next n is e h = rw (is, assign_bodies label body, ← e) h

pub counts_go_on : (items : List Item) (k : ℕ) (d : Item) (counts next total : List ℕ) → k < length items
    → next ≡ counts ++ map access_count (bodies_of (get_or items k d)) → counts ++ map access_count (bodies (drop k items)) ≡ total
    → next ++ map access_count (bodies (drop (k + 1) items)) ≡ total
counts_go_on items k d counts next total l e h =
    let here = map access_count (bodies_of (get_or items k d)) in
    let more = map access_count (bodies (drop (k + 1) items)) in
    ap (λ xs. xs ++ more) e ∙ append_assoc counts here more
    ∙ ap (λ xs. counts ++ xs) (sym (map-append access_count (bodies_of (get_or items k d)) (bodies (drop (k + 1) items))))
    ∙ ap (λ is. counts ++ map access_count (bodies is)) (sym (drop_more items k d l)) ∙ h

-- the cell of an access

pub values_go_on : (point : List ℤ) (subs : List Sub) (k : ℕ) (d : Sub) (values : List ℤ) → k < length subs → values ≡ map (sub_value point) (take k subs)
    → values ++ sub_value point (get_or subs k d) ∷ [] ≡ map (sub_value point) (take (k + 1) subs)
values_go_on point subs k d values l h =
    ap (λ vs. vs ++ sub_value point (get_or subs k d) ∷ []) h ∙ sym (map-append (sub_value point) (take k subs) (get_or subs k d ∷ []))
    ∙ ap (map (sub_value point)) (sym (take_more subs k d l))

list_all_at : {X : Type 0} (p : X → Bool) (xs : List X) (k : ℕ) (d : X) → k < length xs → IsTrue (list_all p xs) → IsTrue (p (get_or xs k d))
list_all_at p [] k d l h = absurd (omega arith)
list_all_at p (x ∷ xs) zero d l h = (and_parts (p x) (list_all p xs) h).0
list_all_at p (x ∷ xs) (suc k) d l h = list_all_at p xs k d (omega arith) ((and_parts (p x) (list_all p xs) h).1)

pub sub_at : (n : ℕ) (subs : List Sub) (k : ℕ) (d : Sub) → k < length subs → IsTrue (list_all (sub_fits n) subs) → IsTrue (sub_fits n (get_or subs k d))
sub_at n subs k d l h = list_all_at (sub_fits n) subs k d l h

-- a subscript at a point of a nest's loops has room in 64 bits

dot_small : (cs xs : List ℤ) → IsTrue (list_all (is_at_most most_affine) cs) → All (IsAtMost (2 ^ 30)) xs → unsigned_abs (dot cs xs) ≤ length cs * 2 ^ 60
dot_small [] xs c s = omega arith
dot_small (c ∷ cs) [] h s = omega arith
dot_small (c ∷ cs) (x ∷ xs) h s =
    let a : unsigned_abs c ≤ 2 ^ 30 = leb-true _ _ ((and_parts _ _ h).0) in
    let b : unsigned_abs x ≤ 2 ^ 30 = All-head (IsAtMost (2 ^ 30)) x xs s in
    let p : unsigned_abs (c *ℤ x) ≤ 2 ^ 60 = omega (arith, unsigned_abs-mul c x, mul-le-mul_right (unsigned_abs x) a, mul-le-mul_left (2 ^ 30) b) in
    omega (arith, ints, p, dot_small cs xs ((and_parts _ _ h).1) (All-tail (IsAtMost (2 ^ 30)) x xs s))

pub sub_small : (point : List ℤ) (s : Sub) → IsNear point → IsTrue (sub_fits (length point) s) → unsigned_abs (sub_value point s) < 2 ^ 63
sub_small point s near h =
    let form = (and_parts (form_fits (length point) s.form) (nat_eq s.modulus 0) h).0 in
    let parts = and_parts (coefs_fit (length point) s.form) (constant_fits s.form) form in
    let coefs = and_parts (nat_eq (length s.form.coefs) (length point)) (list_all (is_at_most most_affine) s.form.coefs) parts.0 in
    let size : length s.form.coefs ≡ length point = eqb-true (length s.form.coefs) (length point) coefs.0 in
    let few : length point ≤ 6 = near.few in
    let below : unsigned_abs (dot s.form.coefs point) ≤ length s.form.coefs * 2 ^ 60 = dot_small s.form.coefs point coefs.1 near.small in
    let constant : unsigned_abs s.form.constant ≤ 2 ^ 30 = leb-true (unsigned_abs s.form.constant) most_affine parts.1 in
    let all : unsigned_abs (s.form.constant +ℤ dot s.form.coefs point) < 2 ^ 63 = omega (arith, ints, constant, below, size, few) in
    rw (sym (plain_sub point s h)) all

between : (r : Range) (x : ℤ) → IsSmall r → r.low ≤ℤ x → x ≤ℤ r.high → IsAtMost (2 ^ 30) x
between r x s l h =
    let low : unsigned_abs r.low ≤ 2 ^ 30 = leb-true _ _ ((and_parts _ _ s).0) in
    let high : unsigned_abs r.high ≤ 2 ^ 30 = leb-true _ _ ((and_parts _ _ s).1) in
    omega (arith, ints)

lies_near : (rs : List Range) (xs : List ℤ) → All IsSmall rs → IsTrue (lies_in rs xs) → All (IsAtMost (2 ^ 30)) xs
lies_near [] [] s h = All-nil (IsAtMost (2 ^ 30))
lies_near [] (x ∷ xs) s h = absurd cc
lies_near (r ∷ rs) [] s h = absurd cc
lies_near (r ∷ rs) (x ∷ xs) s h =
    let f : LiesFirst r rs x xs = lies_first r rs x xs h in
    All-cons (IsAtMost (2 ^ 30)) x xs (between r x (All-head IsSmall r rs s) f.low f.high) (lies_near rs xs (All-tail IsSmall r rs s) f.others)

pub near_at : (arrays : List ArrayDecl) (item : Item) (point : List ℤ) → length point ≤ deepest → IsAt arrays item point → IsNear point
near_at arrays item point few a = record { few = few; small = lies_near a.boxes point a.small a.inside }

pub near_small : (point : List ℤ) → IsNear point → All (IsAtMost (2 ^ 54)) point
near_small point near = All-weaker (IsAtMost (2 ^ 30)) (IsAtMost (2 ^ 54)) weaker point near.small
  where
    weaker : (x : ℤ) → IsAtMost (2 ^ 30) x → IsAtMost (2 ^ 54) x
    weaker x h = omega arith

pub inner_shallow : (point inner : List ℤ) (x : ℤ) → length point < deepest → inner ≡ point ++ x ∷ [] → length inner ≤ deepest
inner_shallow point inner x l e = rw e (simp length-append (omega arith))

-- the first access that leaves its array

pub subs_at : (arrays : List ArrayDecl) (n : ℕ) (accesses : List Access) (k : ℕ) (d : Access) → k < length accesses → IsTrue (list_all (access_fits arrays n) accesses)
    → IsTrue (list_all (sub_fits n) (get_or accesses k d).subs)
subs_at arrays n accesses k d l h =
    let a = get_or accesses k d in
    (and_parts (has_dimensions arrays a.array (length a.subs)) (list_all (sub_fits n) a.subs) (list_all_at (access_fits arrays n) accesses k d l h)).1

pub access_at : (arrays : List ArrayDecl) (n : ℕ) (listed : List Access) (k : ℕ) (d : Access) → k < length listed → IsTrue (list_all (access_fits arrays n) listed)
    → IsTrue (access_fits arrays n (get_or listed k d))
access_at arrays n listed k d l h = list_all_at (access_fits arrays n) listed k d l h

pub leaving_goes_on : (arrays : List ArrayDecl) (point : List ℤ) (listed : List Access) (k here : ℕ) (d : Access) (total : Option Leaving) → k < length listed
    → access_inside (extents_of arrays) point (get_or listed k d) ≡ true → first_leaving (extents_of arrays) point here (drop k listed) ≡ total
    → first_leaving (extents_of arrays) point (here + 1) (drop (k + 1) listed) ≡ total
leaving_goes_on arrays point listed k here d total l i h =
    let a = rw (drop_more listed k d l, i) at h in rw add-one a

pub leaving_here : (arrays : List ArrayDecl) (point : List ℤ) (listed : List Access) (k here : ℕ) (d : Access) (total : Option Leaving) → k < length listed
    → access_inside (extents_of arrays) point (get_or listed k d) ≡ false → first_leaving (extents_of arrays) point here (drop k listed) ≡ total
    → Some (record { access = here; cell = cell_of point (get_or listed k d) }) ≡ total
leaving_here arrays point listed k here d total l i h = let a = rw (drop_more listed k d l, i) at h in a

all_of_each : {X : Type 0} (p : X → Bool) (xs : List X) → Each (λ x. IsTrue (p x)) xs → IsTrue (list_all p xs)
all_of_each p [] h = refl
all_of_each p (x ∷ xs) h = rw h.0 (all_of_each p xs h.1)

front : {X : Type 0} (P : X → Type 0) (xs ys : List X) → Each P (xs ++ ys) → Each P xs
front P [] ys h = tt
front P (x ∷ xs) ys h = (h.0, front P xs ys h.1)

back : {X : Type 0} (P : X → Type 0) (xs ys : List X) → Each P (xs ++ ys) → Each P ys
back P [] ys h = h
back P (x ∷ xs) ys h = back P xs ys h.1

pub text_fits : (arrays : List ArrayDecl) (n : ℕ) (b : Body) → IsTrue (body_fits arrays n b) → IsTrue (list_all (access_fits arrays n) (text_accesses b))
text_fits arrays n b h =
    let e = body_accesses arrays n b h in
    all_of_each (access_fits arrays n) (text_accesses b) ((back (Fits arrays n) (reads b.right) (b.write ∷ []) e).0, front (Fits arrays n) (reads b.right) (b.write ∷ []) e)
