-- The steps of the computation of a row with forms put in, and where its numbers are too large.
use Rattle.std.proofs.Common.{◌≡◌, refl, sym, ap, ap₂, ◌∙◌, subst, ℕ, zero, suc, ◌+◌, ◌-◌, ◌<◌, ◌≤◌, ◌^◌, ℤ, pos, ◌+ℤ◌, ◌*ℤ◌, List, [], ◌∷◌, ◌++◌, map, length, take, drop, get_or, arith, length-append, length-drop, take_at, drop_at, append_assoc, ◌↔◌, Option, Some, None}
use Rattle.std.specs.List.{All}
use Rattle.std.specs.Option.{MatchOption, IfSome, IsSome}
use Rattle.std.proofs.Math.IntN.{+ℤ_assoc}
use Rattle.std.proofs.lemmas.Int.{ints}
use Rattle.std.proofs.lemmas.List.{drop_more, drop_all, take_more, take_rest}
use Rattle.std.proofs.lemmas.List.Elements.{All-nil, All-cons, All-append, All-take, All-drop, All-same}
use Rattle.ch_affine.specs.Form.{Form}
use Rattle.ch_affine.specs.Affine.{IsAtMost, IsSmall, dot, form}
use Rattle.ch_moved.specs.Changed.{AllLong}
use Rattle.ch_moved.specs.Spread.{column, constants, spread}
use Rattle.ch_moved.specs.Substituted.{substituted}
use Rattle.ch_moved.proofs.Substitutes.{front, length_zeros, length_front, coefficient_is, constant_is}
use Rattle.ch_space.specs.Built.{zeros}

-- what is known of the value that an option has
pub some_value : {X : Type 0} (o : Option X) (P : Type 0) (Q : X → Type 0) (x : X) → MatchOption o P Q → o ≡ Some x → Q x
some_value o P Q x m e = subst (λ r. MatchOption r P Q) e m

-- and where it has none
pub none_value : {X : Type 0} (o : Option X) (P : Type 0) (Q : X → Type 0) → MatchOption o P Q → o ≡ None → P
none_value o P Q m e = subst (λ r. MatchOption r P Q) e m

dot_nil : (cs : List ℤ) → dot cs [] ≡ pos 0
dot_nil [] = refl
dot_nil (c ∷ cs) = refl

-- a sum over the forms, one form on, and at its end
module _ (h : Form → ℤ) (cs : List ℤ) (gs : List Form) (k : ℕ) where
  pub forms_more : (d : Form) (sum more next total : ℤ) → k < length gs → length gs ≤ length cs → more ≡ get_or cs k (pos 0) *ℤ h (get_or gs k d) → next ≡ sum +ℤ more
      → sum +ℤ dot (drop k cs) (map h (drop k gs)) ≡ total → next +ℤ dot (drop (k + 1) cs) (map h (drop (k + 1) gs)) ≡ total
  forms_more d sum more next total l few m n e =
      let lc : k < length cs = omega arith in
      let a = rw (drop_more cs k (pos 0) lc, drop_more gs k d l) at e in
      rw (n, m, +ℤ_assoc) a

  pub forms_end : (sum total : ℤ) → length gs ≤ k → sum +ℤ dot (drop k cs) (map h (drop k gs)) ≡ total → sum ≡ total
  forms_end sum total l e =
      let z = ap (λ t. dot (drop k cs) (map h t)) (drop_all k gs l) ∙ dot_nil (drop k cs) in
      omega (arith, ints, z, e)

pub next_taken : (xs now next : List ℤ) (k : ℕ) (v : ℤ) → k < length xs → v ≡ get_or xs k (pos 0) → now ≡ take k xs → next ≡ now ++ v ∷ [] → next ≡ take (k + 1) xs
next_taken xs now next k v l e a n = n ∙ ap₂ (λ t z. t ++ z ∷ []) a e ∙ sym (take_more xs k (pos 0) l)

-- a number that is too large

left_of : (P : ℤ → Type 0) (xs ys : List ℤ) → All P (xs ++ ys) → All P xs
left_of P xs ys a = All-same P xs (take (length xs) (xs ++ ys)) (sym (take_at xs ys (length xs) refl)) (All-take P (length xs) (xs ++ ys) a)

right_of : (P : ℤ → Type 0) (xs ys : List ℤ) → All P (xs ++ ys) → All P ys
right_of P xs ys a = All-same P ys (drop (length xs) (xs ++ ys)) (sym (drop_at xs ys (length xs) refl)) (All-drop P (length xs) (xs ++ ys) a)

pub large_coef : (n : ℕ) (gs : List Form) (f : Form) (k : ℕ) (v : ℤ) → AllLong n gs → k < n → v ≡ dot f.coefs (column k gs) → (IsAtMost (2 ^ 60) v → ⊥) → IsSmall (substituted n gs f) → ⊥
large_coef n gs f k v a l e large small =
    let there : k < length (front n gs f).coefs = subst (λ m. k < m) (sym (length_front n gs f a)) l in
    let at = left_of (IsAtMost (2 ^ 60)) (front n gs f).coefs (drop (length gs) f.coefs) small.coefs k (pos 0) there in
    large (subst (IsAtMost (2 ^ 60)) (sym (e ∙ coefficient_is n gs f k a l)) at)

pub large_constant : (n : ℕ) (gs : List Form) (f : Form) (v : ℤ) → v ≡ f.constant +ℤ dot f.coefs (constants gs) → (IsAtMost (2 ^ 60) v → ⊥) → IsSmall (substituted n gs f) → ⊥
large_constant n gs f v e large small = large (subst (IsAtMost (2 ^ 60)) (sym (e ∙ constant_is n gs f)) small.constant)

zeros_small : (n : ℕ) → All (IsAtMost (2 ^ 60)) (zeros n)
zeros_small zero = All-nil (IsAtMost (2 ^ 60))
zeros_small (suc n) = All-cons (IsAtMost (2 ^ 60)) (pos 0) (zeros n) (omega arith) (zeros_small n)

pub length_spread : (n : ℕ) (gs : List Form) (between : ℕ) (f : Form) → AllLong n gs → length gs ≤ length f.coefs
    → length (spread n gs between f).coefs + length gs ≡ n + (between + length f.coefs)
length_spread n gs between f a l =
    let x = length-append (front n gs f).coefs (zeros between ++ drop (length gs) f.coefs) in
    let y = length-append (zeros between) (drop (length gs) f.coefs) in
    let z = length-drop (length gs) f.coefs in
    let u = length_front n gs f a in
    let v = length_zeros between in
    omega arith

-- variables on which it does not depend leave a form small
pub spread_small : (n : ℕ) (gs : List Form) (between : ℕ) (f : Form) → AllLong n gs → length gs ≤ length f.coefs → n + (between + length f.coefs) ≤ 4096 + length gs
    → IsSmall (substituted n gs f) → IsSmall (spread n gs between f)
spread_small n gs between f a l room s =
    let m = length_spread n gs between f a l in
    let P : ℤ → Type 0 = IsAtMost (2 ^ 60) in
    record {
      few = omega arith;
      coefs = All-append P (front n gs f).coefs (zeros between ++ drop (length gs) f.coefs) (left_of P (front n gs f).coefs (drop (length gs) f.coefs) s.coefs)
          (All-append P (zeros between) (drop (length gs) f.coefs) (zeros_small between) (right_of P (front n gs f).coefs (drop (length gs) f.coefs) s.coefs));
      constant = s.constant;
    }

-- the rows with more variables are small

joined_small : (P : ℤ → Type 0) (xs ys zs : List ℤ) → zs ≡ xs ++ ys → All P xs → All P ys → All P zs
joined_small P xs ys zs e a b = All-same P zs (xs ++ ys) e (All-append P xs ys a b)

length_joined : (xs ys zs : List ℤ) → zs ≡ xs ++ ys → length zs ≡ length xs + length ys
length_joined xs ys zs e = ap length e ∙ length-append xs ys

pub widened_small : (f now : Form) (slice first coefs : List ℤ) (more : ℕ) (constant : ℤ) → IsSmall f → f ≡ now → slice ≡ f.coefs → first ≡ slice → coefs ≡ first ++ zeros more
    → length now.coefs + more ≤ 4096 → constant ≡ f.constant → IsSmall (form coefs constant)
widened_small f now slice first coefs more constant s n l a e room k =
    let same : first ≡ f.coefs = a ∙ l in
    let m = length_joined first (zeros more) coefs e in
    let x = ap length same in
    let y = ap (λ g. length g.coefs) n in
    let z = length_zeros more in
    record {
      few = omega arith;
      coefs = joined_small (IsAtMost (2 ^ 60)) first (zeros more) coefs e (All-same (IsAtMost (2 ^ 60)) first f.coefs same s.coefs) (zeros_small more);
      constant = subst (IsAtMost (2 ^ 60)) (sym k) s.constant;
    }

pub kept_small : (f now : Form) (none first slice coefs : List ℤ) (before : ℕ) (constant : ℤ) → IsSmall f → f ≡ now → none ≡ [] → first ≡ none ++ zeros before → slice ≡ f.coefs → coefs ≡ first ++ slice
    → before + length now.coefs ≤ 4096 → constant ≡ f.constant → IsSmall (form coefs constant)
kept_small f now none first slice coefs before constant s n o a l e room k =
    let zero : first ≡ zeros before = a ∙ ap (λ t. t ++ zeros before) o in
    let m = length_joined first slice coefs e in
    let x = ap length zero ∙ length_zeros before in
    let y = ap (λ g. length g.coefs) n in
    let z = ap length l in
    record {
      few = omega arith;
      coefs = joined_small (IsAtMost (2 ^ 60)) first slice coefs e (All-same (IsAtMost (2 ^ 60)) first (zeros before) zero (zeros_small before)) (All-same (IsAtMost (2 ^ 60)) slice f.coefs l s.coefs);
      constant = subst (IsAtMost (2 ^ 60)) (sym k) s.constant;
    }

pub tied_small : (f now : Form) (slice first mid one coefs : List ℤ) (before after : ℕ) (number constant : ℤ) → IsSmall f → f ≡ now → slice ≡ f.coefs → first ≡ slice → mid ≡ first ++ zeros before
    → one ≡ mid ++ number ∷ [] → coefs ≡ one ++ zeros after → IsAtMost 1 number → length now.coefs + (before + 1 + after) ≤ 4096 → constant ≡ f.constant → IsSmall (form coefs constant)
tied_small f now slice first mid one coefs before after number constant s n l a b c d small room k =
    let P : ℤ → Type 0 = IsAtMost (2 ^ 60) in
    let same : first ≡ f.coefs = a ∙ l in
    let large : IsAtMost (2 ^ 60) number = omega arith in
    let all_mid : All P mid = joined_small P first (zeros before) mid b (All-same P first f.coefs same s.coefs) (zeros_small before) in
    let all_one : All P one = joined_small P mid (number ∷ []) one c all_mid (All-cons P number [] large (All-nil P)) in
    let m1 = length_joined first (zeros before) mid b in
    let m2 = length_joined mid (number ∷ []) one c in
    let m3 = length_joined one (zeros after) coefs d in
    let x = ap length same in
    let y = ap (λ g. length g.coefs) n in
    let z1 = length_zeros before in
    let z2 = length_zeros after in
    record {
      few = omega arith;
      coefs = joined_small P one (zeros after) coefs d all_one (zeros_small after);
      constant = subst P (sym k) s.constant;
    }

-- the form that the test of a form's limits answers
pub spread_made : (n : ℕ) (gs : List Form) (between : ℕ) (f : Form) (coefs : List ℤ) (constant : ℤ) (r : Option Form) → AllLong n gs → length gs ≤ length f.coefs → n + (between + length f.coefs) ≤ 4096 + length gs
    → coefs ≡ (front n gs f).coefs ++ (zeros between ++ drop (length gs) f.coefs) → constant ≡ (front n gs f).constant
    → (IsSome r ↔ IsSmall (form coefs constant)) → IfSome r (λ a. a ≡ form coefs constant)
    → MatchOption r (IsSmall (substituted n gs f) → ⊥) (λ g. g ≡ spread n gs between f)
spread_made n gs between f coefs constant (Some g) a l room e k fits value = value ∙ (λ i. form (e i) (k i))
spread_made n gs between f coefs constant None a l room e k fits value =
    let same : form coefs constant ≡ spread n gs between f = λ i. form (e i) (k i) in
    λ small. let t = fits.1 (subst IsSmall (sym same) (spread_small n gs between f a l room small)) in absurd cc

pub spread_coefs : (n : ℕ) (gs : List Form) (between : ℕ) (f : Form) (first mid slice last : List ℤ) → first ≡ (front n gs f).coefs → mid ≡ first ++ zeros between → slice ≡ f.coefs
    → last ≡ mid ++ take (length slice - length gs) (drop (length gs) slice) → last ≡ (front n gs f).coefs ++ (zeros between ++ drop (length gs) f.coefs)
spread_coefs n gs between f first mid slice last a b e h =
    h ∙ ap₂ (λ u v. u ++ v) (b ∙ ap (λ t. t ++ zeros between) a) (take_rest slice (length gs) ∙ ap (drop (length gs)) e)
    ∙ append_assoc (front n gs f).coefs (zeros between) (drop (length gs) f.coefs)
