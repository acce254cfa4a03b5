-- The rows which say that forms have values in ranges.
use Rattle.std.proofs.Common.{◌≡◌, refl, sym, ap, ap₂, ◌∙◌, subst, ℕ, zero, suc, ◌+◌, ◌<◌, ◌≤◌, ◌^◌, ℤ, pos, neg_ℤ, ◌+ℤ◌, ◌-ℤ◌, ◌≤ℤ◌, int_le, int_lt, Bool, true, false, ◌&&◌, Result, Ok, Err, OnOk, List, [], ◌∷◌, ◌++◌, map, length, take, drop, get_or, arith}
use Rattle.std.specs.Bool.{IsTrue}
use Rattle.std.specs.List.{All}
use Rattle.std.proofs.Math.IntN.{+ℤ_assoc}
use Rattle.std.proofs.lemmas.Int.{ints}
use Rattle.std.proofs.lemmas.List.{drop_more, length-map, take_all}
use Rattle.std.proofs.lemmas.List.Elements.{All-push, All-map, All-weaker}
use Rattle.std.proofs.lemmas.List.Folds.{list_all-append}
use Rattle.ch_affine.specs.Form.{Form}
use Rattle.ch_affine.specs.Affine.{IsAtMost, IsSmall, dot, form, value}
use Rattle.ch_affine.specs.Rows.{all_hold, lies_in}
use Rattle.ch_affine.specs.declared.system.Range.{Range}
use Rattle.ch_moved.specs.Changed.{AllLong}
use Rattle.ch_moved.specs.Spread.{above, opposite}
use Rattle.ch_moved.specs.Substituted.{image}
use Rattle.ch_nest.specs.Shape.{least_in, least_sum, least_term}
use Rattle.ch_nest.proofs.Corners.{least_le}
use Rattle.ch_poly.proofs.Contradicts.{neg_times}

-- the least value, one coefficient on
pub least_more : (cs : List ℤ) (rs : List Range) (k : ℕ) (d : Range) (sum more next total : ℤ) → k < length cs → length cs ≡ length rs
    → more ≡ least_term (get_or cs k (pos 0)) (get_or rs k d) → next ≡ sum +ℤ more
    → sum +ℤ least_sum (drop k cs) (drop k rs) ≡ total → next +ℤ least_sum (drop (k + 1) cs) (drop (k + 1) rs) ≡ total
least_more cs rs k d sum more next total l same m n h =
    let lr : k < length rs = omega arith in
    let a = rw (drop_more cs k (pos 0) l, drop_more rs k d lr) at h in
    rw (n, m, +ℤ_assoc) a

-- the opposite form

dot_opposite : (cs xs : List ℤ) → dot (map neg_ℤ cs) xs ≡ neg_ℤ (dot cs xs)
dot_opposite [] xs = refl
dot_opposite (c ∷ cs) [] = refl
dot_opposite (c ∷ cs) (x ∷ xs) = let e = neg_times c x in omega (arith, ints, dot_opposite cs xs)

pub value_opposite : (f : Form) (xs : List ℤ) → value (opposite f) xs ≡ neg_ℤ (value f xs)
value_opposite f xs = omega (arith, ints, dot_opposite f.coefs xs)

neg_small : (x : ℤ) → IsAtMost (2 ^ 60) x → IsAtMost (2 ^ 60) (neg_ℤ x)
neg_small x h = omega (arith, ints)

pub opposite_small : (f now : Form) (coefs : List ℤ) (k : ℕ) (constant : ℤ) → IsSmall f → f ≡ now → length f.coefs ≤ k → coefs ≡ map neg_ℤ (take k now.coefs) → constant ≡ neg_ℤ f.constant
    → IsSmall (form coefs constant)
opposite_small f now coefs k constant s n l e c =
    let P : ℤ → Type 0 = IsAtMost (2 ^ 60) in
    let same : coefs ≡ map neg_ℤ f.coefs = e ∙ ap (λ g. map neg_ℤ (take k g.coefs)) (sym n) ∙ ap (map neg_ℤ) (take_all k f.coefs l) in
    record {
      few = subst (λ n. n ≤ 4096) (sym (ap length same ∙ length-map f.coefs neg_ℤ)) s.few;
      coefs = subst (All P) (sym same) (All-map P neg_ℤ f.coefs (All-weaker P (λ x. P (neg_ℤ x)) neg_small f.coefs s.coefs));
      constant = subst P (sym c) (neg_small f.constant s.constant);
    }

-- one bound

value_above : (f : Form) (m : ℤ) (xs : List ℤ) → value (above f m) xs ≡ value f xs -ℤ m
value_above f m xs = omega (arith, ints)

same_tests : (v m w : ℤ) → w ≡ v -ℤ m → int_le (pos 0) w ≡ int_le m v
same_tests v m w e = by (int_le (pos 0) w) (int_le m v) refl refl
  where
    by : (a b : Bool) → int_le (pos 0) w ≡ a → int_le m v ≡ b → a ≡ b
    by true true f g = refl
    by false false f g = refl
    by true false f g = absurd (grind (arith, ints))
    by false true f g = absurd (grind (arith, ints))

pub hold_push : (rows : List Form) (f : Form) (ys : List ℤ) → all_hold (rows ++ f ∷ []) ys ≡ (all_hold rows ys && int_le (pos 0) (value f ys))
hold_push rows f ys = list_all-append (λ f. int_le (pos 0) (value f ys)) rows (f ∷ []) ∙ ap (λ t. all_hold rows ys && t) (and_true (int_le (pos 0) (value f ys)))
  where
    and_true : (b : Bool) → (b && true) ≡ b
    and_true true = refl
    and_true false = refl

-- the row is added
pub bound_pushed : (rows new : List Form) (row f : Form) (m : ℤ) → row ≡ above f m → new ≡ rows ++ row ∷ []
    → (ys : List ℤ) → all_hold new ys ≡ (all_hold rows ys && int_le m (value f ys))
bound_pushed rows new row f m e n ys =
    ap (λ fs. all_hold fs ys) n ∙ hold_push rows row ys
    ∙ ap (λ t. all_hold rows ys && t) (same_tests (value f ys) m (value row ys) (ap (λ g. value g ys) e ∙ value_above f m ys))

-- in the whole boxes the form is at least m: no row is needed
pub bound_sure : (boxes : List Range) (rows : List Form) (row f : Form) (m : ℤ) → row ≡ above f m → length f.coefs ≡ length boxes → pos 0 ≤ℤ least_in boxes row
    → (ys : List ℤ) → IsTrue (lies_in boxes ys) → all_hold rows ys ≡ (all_hold rows ys && int_le m (value f ys))
bound_sure boxes rows row f m e l h ys i =
    let low : pos 0 ≤ℤ ((f.constant -ℤ m) +ℤ least_sum f.coefs boxes) = subst (λ g. pos 0 ≤ℤ least_in boxes g) e h in
    let least = least_le f.coefs boxes ys l i in
    let sure : m ≤ℤ value f ys = omega (arith, ints) in
    let t : int_le m (value f ys) ≡ true = grind (arith, ints) in
    sym (ap (λ t. all_hold rows ys && t) t ∙ and_true (all_hold rows ys))
  where
    and_true : (b : Bool) → (b && true) ≡ b
    and_true true = refl
    and_true false = refl

pub long_push : (n : ℕ) (rows new : List Form) (row f : Form) (m : ℤ) → row ≡ above f m → new ≡ rows ++ row ∷ [] → length f.coefs ≡ n → AllLong n rows → AllLong n new
long_push n rows new row f m e h l a =
    subst (AllLong n) (sym h) (All-push (λ f. length f.coefs ≡ n) rows row a (ap (λ g. length g.coefs) e ∙ l))

-- both bounds

flipped : (v h w : ℤ) → w ≡ neg_ℤ v → int_le (neg_ℤ h) w ≡ int_le v h
flipped v h w e = by (int_le (neg_ℤ h) w) (int_le v h) refl refl
  where
    by : (a b : Bool) → int_le (neg_ℤ h) w ≡ a → int_le v h ≡ b → a ≡ b
    by true true f g = refl
    by false false f g = refl
    by true false f g = absurd (grind (arith, ints))
    by false true f g = absurd (grind (arith, ints))

and_assoc : (a b c : Bool) → ((a && b) && c) ≡ (a && (b && c))
and_assoc true b c = refl
and_assoc false b c = refl

bounds_hold : (f g : Form) (low high minus : ℤ) (ys : List ℤ) (old mid new : Bool) → g ≡ opposite f → minus ≡ neg_ℤ high
    → mid ≡ (old && int_le low (value f ys)) → new ≡ (mid && int_le minus (value g ys))
    → new ≡ (old && (int_le low (value f ys) && int_le (value f ys) high))
bounds_hold f g low high minus ys old mid new e m a b =
    b ∙ ap₂ (λ s t. s && t) a (ap (λ z. int_le z (value g ys)) m ∙ flipped (value f ys) high (value g ys) (ap (λ h. value h ys) e ∙ value_opposite f ys))
    ∙ and_assoc old (int_le low (value f ys)) (int_le (value f ys) high)

-- the bounds of one more form
lies_more : (ranges : List Range) (gs : List Form) (ys : List ℤ) (k : ℕ) (r : Range) (g : Form) → k < length gs → length gs ≡ length ranges
    → lies_in (take (k + 1) ranges) (image (take (k + 1) gs) ys)
    ≡ (lies_in (take k ranges) (image (take k gs) ys) && (int_le (get_or ranges k r).low (value (get_or gs k g) ys) && int_le (value (get_or gs k g) ys) (get_or ranges k r).high))
lies_more [] gs ys k r g l e = absurd (omega arith)
lies_more (b ∷ bs) [] ys k r g l e = absurd (omega arith)
lies_more (b ∷ bs) (f ∷ fs) ys zero r g l e = last (int_le b.low (value f ys)) (int_le (value f ys) b.high)
  where
    last : (a b : Bool) → ((a && b) && true) ≡ (true && (a && b))
    last true true = refl
    last true false = refl
    last false b = refl
lies_more (b ∷ bs) (f ∷ fs) ys (suc k) r g l e =
    let m : suc k + 1 ≡ suc (k + 1) = omega arith in
    ap (λ n. lies_in (take n (b ∷ bs)) (image (take n (f ∷ fs)) ys)) m
    ∙ ap (λ t. (int_le b.low (value f ys) && int_le (value f ys) b.high) && t) (lies_more bs fs ys k r g (omega arith) (omega arith))
    ∙ sym (and_assoc (int_le b.low (value f ys) && int_le (value f ys) b.high) _ _)

pub conditions_more : (ranges : List Range) (gs : List Form) (ys : List ℤ) (k : ℕ) (r : Range) (g : Form) (extra old new : Bool) → k < length gs → length gs ≡ length ranges
    → old ≡ (extra && lies_in (take k ranges) (image (take k gs) ys))
    → new ≡ (old && (int_le (get_or ranges k r).low (value (get_or gs k g) ys) && int_le (value (get_or gs k g) ys) (get_or ranges k r).high))
    → new ≡ (extra && lies_in (take (k + 1) ranges) (image (take (k + 1) gs) ys))
conditions_more ranges gs ys k r g extra old new l e a b =
    let here : Bool = int_le (get_or ranges k r).low (value (get_or gs k g) ys) && int_le (value (get_or gs k g) ys) (get_or ranges k r).high in
    b ∙ ap (λ t. t && here) a ∙ and_assoc extra (lies_in (take k ranges) (image (take k gs) ys)) here ∙ ap (λ t. extra && t) (sym (lies_more ranges gs ys k r g l e))

pub bounds_done : {X E : Type 0} (r : Result X E) (boxes : List Range) (f g : Form) (low high minus : ℤ) (old mid new : List ℤ → Bool) → g ≡ opposite f → minus ≡ neg_ℤ high
    → ((ys : List ℤ) → IsTrue (lies_in boxes ys) → mid ys ≡ (old ys && int_le low (value f ys)))
    → OnOk r ((ys : List ℤ) → IsTrue (lies_in boxes ys) → new ys ≡ (mid ys && int_le minus (value g ys)))
    → OnOk r ((ys : List ℤ) → IsTrue (lies_in boxes ys) → new ys ≡ (old ys && (int_le low (value f ys) && int_le (value f ys) high)))
bounds_done (Ok x) boxes f g low high minus old mid new e m a b = λ ys i. bounds_hold f g low high minus ys (old ys) (mid ys) (new ys) e m (a ys i) (b ys i)
bounds_done (Err o) boxes f g low high minus old mid new e m a b = tt

pub not_below : (v w : ℤ) → v ≡ w → int_lt v (pos 0) ≡ false → pos 0 ≤ℤ w
not_below v w e f = let n : pos 0 ≤ℤ v = grind (arith, ints) in omega (arith, ints)
