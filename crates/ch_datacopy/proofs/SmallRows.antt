-- The rows that are made keep to the limits of forms.
use Rattle.std.proofs.Common.{◌≡◌, refl, sym, ap, ◌∙◌, subst, ℕ, zero, suc, ◌+◌, ◌≤◌, ◌^◌, ℤ, pos, negsuc, List, [], ◌∷◌, ◌++◌, length, take, drop, arith, append_assoc, length-append}
use Rattle.std.specs.List.{All}
use Rattle.std.proofs.lemmas.List.Elements.{All-append, All-cons, All-drop, All-nil, All-take}
use Rattle.ch_affine.specs.Affine.{IsAtMost, IsSmall, form}
use Rattle.ch_affine.specs.Form.{Form}
use Rattle.ch_space.specs.Built.{zeros}
use Rattle.ch_datacopy.specs.Cells.{at_one, cell_row, iterator_row, kept_row, spliced}
use Rattle.ch_datacopy.specs.Pairs.{difference}
use Rattle.ch_datacopy.proofs.UseRows.{spliced_long, zeros_long}

zeros_small : (n : ℕ) → All (IsAtMost (2 ^ 60)) (zeros n)
zeros_small zero = All-nil (IsAtMost (2 ^ 60))
zeros_small (suc n) = All-cons (IsAtMost (2 ^ 60)) (pos 0) (zeros n) (omega arith) (zeros_small n)

one_small : (before : ℕ) (c : ℤ) (after : ℕ) → IsAtMost (2 ^ 60) c → All (IsAtMost (2 ^ 60)) (at_one before c after)
one_small before c after h =
    All-append (IsAtMost (2 ^ 60)) (zeros before) (c ∷ zeros after) (zeros_small before)
    (All-cons (IsAtMost (2 ^ 60)) c (zeros after) h (zeros_small after))

one_long : (before : ℕ) (c : ℤ) (after : ℕ) → length (at_one before c after) ≡ before + (1 + after)
one_long before c after =
    let e = length-append (zeros before) (c ∷ zeros after) in
    let f = zeros_long before in
    let g = zeros_long after in
    omega arith

spliced_small : (a m : ℕ) (cs : List ℤ) → All (IsAtMost (2 ^ 60)) cs → All (IsAtMost (2 ^ 60)) (spliced a m cs)
spliced_small a m cs h =
    All-append (IsAtMost (2 ^ 60)) (take a cs) (zeros m ++ drop a cs) (All-take (IsAtMost (2 ^ 60)) a cs h)
    (All-append (IsAtMost (2 ^ 60)) (zeros m) (drop a cs) (zeros_small m) (All-drop (IsAtMost (2 ^ 60)) a cs h))

kept_small : (a m n : ℕ) (f : Form) → IsSmall f → a ≤ length f.coefs → length f.coefs + (m + n) ≤ 4096 → IsSmall (kept_row a m n f)
kept_small a m n f s l room =
    let e = length-append (spliced a m f.coefs) (zeros n) in
    let g = spliced_long a m f.coefs l in
    let z = zeros_long n in
    record {
      few = omega arith;
      coefs = All-append (IsAtMost (2 ^ 60)) (spliced a m f.coefs) (zeros n) (spliced_small a m f.coefs s.coefs) (zeros_small n);
      constant = s.constant;
    }

iterator_small : (a m h before after : ℕ) (o : Form) → IsSmall o → a ≤ length o.coefs → (length o.coefs + m) + (h + (before + (1 + after))) ≤ 4096
    → IsSmall (iterator_row a m h before after o)
iterator_small a m h before after o s l room =
    let P : ℤ → Type 0 = IsAtMost (2 ^ 60) in
    let d = length-append (spliced a m o.coefs ++ zeros h) (at_one before (negsuc 0) after) in
    let e = length-append (spliced a m o.coefs) (zeros h) in
    let g = spliced_long a m o.coefs l in
    let z = zeros_long h in
    let y = one_long before (negsuc 0) after in
    record {
      few = omega arith;
      coefs = All-append (IsAtMost (2 ^ 60)) (spliced a m o.coefs ++ zeros h) (at_one before (negsuc 0) after)
          (All-append (IsAtMost (2 ^ 60)) (spliced a m o.coefs) (zeros h) (spliced_small a m o.coefs s.coefs) (zeros_small h)) (one_small before (negsuc 0) after (omega arith));
      constant = s.constant;
    }

cell_small : (a inner before after : ℕ) (f : Form) → IsSmall f → (a + (before + (1 + after))) + (inner + length f.coefs) ≤ 4096 → IsSmall (cell_row a inner before after f)
cell_small a inner before after f s room =
    let d = length-append (zeros a ++ at_one before (negsuc 0) after) (zeros inner ++ f.coefs) in
    let e = length-append (zeros a) (at_one before (negsuc 0) after) in
    let g = length-append (zeros inner) f.coefs in
    let x = zeros_long a in
    let z = zeros_long inner in
    let y = one_long before (negsuc 0) after in
    record {
      few = omega arith;
      coefs = All-append (IsAtMost (2 ^ 60)) (zeros a ++ at_one before (negsuc 0) after) (zeros inner ++ f.coefs)
          (All-append (IsAtMost (2 ^ 60)) (zeros a) (at_one before (negsuc 0) after) (zeros_small a) (one_small before (negsuc 0) after (omega arith)))
          (All-append (IsAtMost (2 ^ 60)) (zeros inner) f.coefs (zeros_small inner) s.coefs);
      constant = s.constant;
    }

difference_small : (a k after h : ℕ) → ((a + (k + (1 + after))) + (k + (1 + after))) + h ≤ 4096 → IsSmall (difference a k after h)
difference_small a k after h room =
    let b = length-append ((zeros a ++ at_one k (pos 1) after) ++ at_one k (negsuc 0) after) (zeros h) in
    let d = length-append (zeros a ++ at_one k (pos 1) after) (at_one k (negsuc 0) after) in
    let e = length-append (zeros a) (at_one k (pos 1) after) in
    let x = zeros_long a in
    let z = zeros_long h in
    let y = one_long k (pos 1) after in
    let w = one_long k (negsuc 0) after in
    record {
      few = omega arith;
      coefs = All-append (IsAtMost (2 ^ 60)) ((zeros a ++ at_one k (pos 1) after) ++ at_one k (negsuc 0) after) (zeros h)
          (All-append (IsAtMost (2 ^ 60)) (zeros a ++ at_one k (pos 1) after) (at_one k (negsuc 0) after)
          (All-append (IsAtMost (2 ^ 60)) (zeros a) (at_one k (pos 1) after) (zeros_small a) (one_small k (pos 1) after (omega arith))) (one_small k (negsuc 0) after (omega arith)))
          (zeros_small h);
      constant = omega arith;
    }

pub difference_long : (a k after h : ℕ) → length (difference a k after h).coefs ≡ ((a + (k + (1 + after))) + (k + (1 + after))) + h
difference_long a k after h =
    let b = length-append ((zeros a ++ at_one k (pos 1) after) ++ at_one k (negsuc 0) after) (zeros h) in
    let d = length-append (zeros a ++ at_one k (pos 1) after) (at_one k (negsuc 0) after) in
    let e = length-append (zeros a) (at_one k (pos 1) after) in
    let x = zeros_long a in
    let z = zeros_long h in
    let y = one_long k (pos 1) after in
    let w = one_long k (negsuc 0) after in
    omega arith

-- the numbers as they are put one behind another

small_as : (f : Form) (coefs : List ℤ) (constant : ℤ) → coefs ≡ f.coefs → constant ≡ f.constant → IsSmall f → IsSmall (form coefs constant)
small_as f coefs constant e k s = subst IsSmall (λ i. form ((sym e) i) ((sym k) i)) s

pub kept_made : (a m n : ℕ) (f now : Form) (none mid slice coefs : List ℤ) (constant : ℤ) → IsSmall f → f ≡ now → a ≤ length now.coefs → length now.coefs + (m + n) ≤ 4096
    → none ≡ [] → slice ≡ f.coefs → mid ≡ none ++ spliced a m slice → coefs ≡ mid ++ zeros n → constant ≡ f.constant → IsSmall (form coefs constant)
kept_made a m n f now none mid slice coefs constant s e l room o b c d k =
    let same : mid ≡ spliced a m f.coefs = c ∙ ap (λ t. t ++ spliced a m slice) o ∙ ap (spliced a m) b in
    let le : a ≤ length f.coefs = subst (λ (g : Form). a ≤ length g.coefs) (sym e) l in
    let re : length f.coefs + (m + n) ≤ 4096 = subst (λ (g : Form). length g.coefs + (m + n) ≤ 4096) (sym e) room in
    small_as (kept_row a m n f) coefs constant (d ∙ ap (λ t. t ++ zeros n) same) k (kept_small a m n f s le re)

pub kept_is : (a m n : ℕ) (f now : Form) (none mid slice coefs : List ℤ) (constant : ℤ) → f ≡ now
    → none ≡ [] → slice ≡ f.coefs → mid ≡ none ++ spliced a m slice → coefs ≡ mid ++ zeros n → constant ≡ f.constant → form coefs constant ≡ kept_row a m n now
kept_is a m n f now none mid slice coefs constant e o b c d k =
    let same : mid ≡ spliced a m f.coefs = c ∙ ap (λ t. t ++ spliced a m slice) o ∙ ap (spliced a m) b in
    let whole : coefs ≡ (kept_row a m n f).coefs = d ∙ ap (λ t. t ++ zeros n) same in
    (λ i. form (whole i) (k i)) ∙ ap (kept_row a m n) e

iterator_coefs : (a m h before after : ℕ) (cs none mid wide far one coefs : List ℤ) → none ≡ [] → mid ≡ none ++ spliced a m cs → wide ≡ mid ++ zeros h → far ≡ wide ++ zeros before
    → one ≡ far ++ negsuc 0 ∷ [] → coefs ≡ one ++ zeros after → coefs ≡ (spliced a m cs ++ zeros h) ++ at_one before (negsuc 0) after
iterator_coefs a m h before after cs none mid wide far one coefs o b c d e f =
    let first : wide ≡ spliced a m cs ++ zeros h = c ∙ ap (λ t. t ++ zeros h) (b ∙ ap (λ t. t ++ spliced a m cs) o) in
    f ∙ ap (λ t. t ++ zeros after) (e ∙ ap (λ t. t ++ negsuc 0 ∷ []) (d ∙ ap (λ t. t ++ zeros before) first))
    ∙ append_assoc ((spliced a m cs ++ zeros h) ++ zeros before) (negsuc 0 ∷ []) (zeros after)
    ∙ append_assoc (spliced a m cs ++ zeros h) (zeros before) (negsuc 0 ∷ zeros after)

pub iterator_made : (a m h before after : ℕ) (f now : Form) (none mid wide far one slice coefs : List ℤ) (constant : ℤ) → IsSmall f → f ≡ now → a ≤ length now.coefs
    → (length now.coefs + m) + (h + (before + (1 + after))) ≤ 4096
    → none ≡ [] → slice ≡ f.coefs → mid ≡ none ++ spliced a m slice → wide ≡ mid ++ zeros h → far ≡ wide ++ zeros before
    → one ≡ far ++ negsuc 0 ∷ [] → coefs ≡ one ++ zeros after → constant ≡ f.constant → IsSmall (form coefs constant)
iterator_made a m h before after f now none mid wide far one slice coefs constant s e l room o b c d g i j k =
    let le : a ≤ length f.coefs = subst (λ (g : Form). a ≤ length g.coefs) (sym e) l in
    let re : (length f.coefs + m) + (h + (before + (1 + after))) ≤ 4096 = subst (λ (g : Form). (length g.coefs + m) + (h + (before + (1 + after))) ≤ 4096) (sym e) room in
    let c2 : mid ≡ none ++ spliced a m f.coefs = c ∙ ap (λ t. none ++ spliced a m t) b in
    small_as (iterator_row a m h before after f) coefs constant (iterator_coefs a m h before after f.coefs none mid wide far one coefs o c2 d g i j) k (iterator_small a m h before after f s le re)

pub iterator_is : (a m h before after : ℕ) (f now : Form) (none mid wide far one slice coefs : List ℤ) (constant : ℤ) → f ≡ now
    → none ≡ [] → slice ≡ f.coefs → mid ≡ none ++ spliced a m slice → wide ≡ mid ++ zeros h → far ≡ wide ++ zeros before
    → one ≡ far ++ negsuc 0 ∷ [] → coefs ≡ one ++ zeros after → constant ≡ f.constant → form coefs constant ≡ iterator_row a m h before after now
iterator_is a m h before after f now none mid wide far one slice coefs constant e o b c d g i j k =
    let c2 : mid ≡ none ++ spliced a m f.coefs = c ∙ ap (λ t. none ++ spliced a m t) b in
    let whole : coefs ≡ (iterator_row a m h before after f).coefs = iterator_coefs a m h before after f.coefs none mid wide far one coefs o c2 d g i j in
    (λ i. form (whole i) (k i)) ∙ ap (iterator_row a m h before after) e

cell_coefs : (a inner before after : ℕ) (cs none first mid one wide far coefs : List ℤ) → none ≡ [] → first ≡ none ++ zeros a → mid ≡ first ++ zeros before → one ≡ mid ++ negsuc 0 ∷ []
    → wide ≡ one ++ zeros after → far ≡ wide ++ zeros inner → coefs ≡ far ++ cs → coefs ≡ (zeros a ++ at_one before (negsuc 0) after) ++ (zeros inner ++ cs)
cell_coefs a inner before after cs none first mid one wide far coefs o b c d e f g =
    let start : first ≡ zeros a = b ∙ ap (λ t. t ++ zeros a) o in
    let front : wide ≡ zeros a ++ at_one before (negsuc 0) after =
    e ∙ ap (λ t. t ++ zeros after) (d ∙ ap (λ t. t ++ negsuc 0 ∷ []) (c ∙ ap (λ t. t ++ zeros before) start))
    ∙ append_assoc (zeros a ++ zeros before) (negsuc 0 ∷ []) (zeros after)
    ∙ append_assoc (zeros a) (zeros before) (negsuc 0 ∷ zeros after) in
    g ∙ ap (λ t. t ++ cs) (f ∙ ap (λ t. t ++ zeros inner) front)
    ∙ append_assoc (zeros a ++ at_one before (negsuc 0) after) (zeros inner) cs

pub cell_made : (a inner before after : ℕ) (f now : Form) (none first mid one wide far slice coefs : List ℤ) (constant : ℤ) → IsSmall f → f ≡ now
    → (a + (before + (1 + after))) + (inner + length now.coefs) ≤ 4096
    → none ≡ [] → slice ≡ f.coefs → first ≡ none ++ zeros a → mid ≡ first ++ zeros before → one ≡ mid ++ negsuc 0 ∷ []
    → wide ≡ one ++ zeros after → far ≡ wide ++ zeros inner → coefs ≡ far ++ slice → constant ≡ f.constant → IsSmall (form coefs constant)
cell_made a inner before after f now none first mid one wide far slice coefs constant s e room o x b c d g h i k =
    let re : (a + (before + (1 + after))) + (inner + length f.coefs) ≤ 4096 = subst (λ (g : Form). (a + (before + (1 + after))) + (inner + length g.coefs) ≤ 4096) (sym e) room in
    small_as (cell_row a inner before after f) coefs constant (cell_coefs a inner before after f.coefs none first mid one wide far coefs o b c d g h (i ∙ ap (λ t. far ++ t) x)) k (cell_small a inner before after f s re)

pub cell_is : (a inner before after : ℕ) (f now : Form) (none first mid one wide far slice coefs : List ℤ) (constant : ℤ) → f ≡ now
    → none ≡ [] → slice ≡ f.coefs → first ≡ none ++ zeros a → mid ≡ first ++ zeros before → one ≡ mid ++ negsuc 0 ∷ []
    → wide ≡ one ++ zeros after → far ≡ wide ++ zeros inner → coefs ≡ far ++ slice → constant ≡ f.constant → form coefs constant ≡ cell_row a inner before after now
cell_is a inner before after f now none first mid one wide far slice coefs constant e o x b c d g h i k =
    let whole : coefs ≡ (cell_row a inner before after f).coefs = cell_coefs a inner before after f.coefs none first mid one wide far coefs o b c d g h (i ∙ ap (λ t. far ++ t) x) in
    (λ i. form (whole i) (k i)) ∙ ap (cell_row a inner before after) e

difference_coefs : (a k after h : ℕ) (none c1 c2 c3 c4 c5 c6 c7 coefs : List ℤ) → none ≡ [] → c1 ≡ none ++ zeros a → c2 ≡ c1 ++ zeros k → c3 ≡ c2 ++ pos 1 ∷ [] → c4 ≡ c3 ++ zeros after
    → c5 ≡ c4 ++ zeros k → c6 ≡ c5 ++ negsuc 0 ∷ [] → c7 ≡ c6 ++ zeros after → coefs ≡ c7 ++ zeros h → coefs ≡ (difference a k after h).coefs
difference_coefs a k after h none c1 c2 c3 c4 c5 c6 c7 coefs o e1 e2 e3 e4 e5 e6 e7 e8 =
    let start : c1 ≡ zeros a = e1 ∙ ap (λ t. t ++ zeros a) o in
    let front : c4 ≡ zeros a ++ at_one k (pos 1) after =
    e4 ∙ ap (λ t. t ++ zeros after) (e3 ∙ ap (λ t. t ++ pos 1 ∷ []) (e2 ∙ ap (λ t. t ++ zeros k) start))
    ∙ append_assoc (zeros a ++ zeros k) (pos 1 ∷ []) (zeros after)
    ∙ append_assoc (zeros a) (zeros k) (pos 1 ∷ zeros after) in
    let both : c7 ≡ (zeros a ++ at_one k (pos 1) after) ++ at_one k (negsuc 0) after =
    e7 ∙ ap (λ t. t ++ zeros after) (e6 ∙ ap (λ t. t ++ negsuc 0 ∷ []) (e5 ∙ ap (λ t. t ++ zeros k) front))
    ∙ append_assoc ((zeros a ++ at_one k (pos 1) after) ++ zeros k) (negsuc 0 ∷ []) (zeros after)
    ∙ append_assoc (zeros a ++ at_one k (pos 1) after) (zeros k) (negsuc 0 ∷ zeros after) in
    e8 ∙ ap (λ t. t ++ zeros h) both

pub difference_made : (a k after h : ℕ) (none c1 c2 c3 c4 c5 c6 c7 coefs : List ℤ) → ((a + (k + (1 + after))) + (k + (1 + after))) + h ≤ 4096
    → none ≡ [] → c1 ≡ none ++ zeros a → c2 ≡ c1 ++ zeros k → c3 ≡ c2 ++ pos 1 ∷ [] → c4 ≡ c3 ++ zeros after
    → c5 ≡ c4 ++ zeros k → c6 ≡ c5 ++ negsuc 0 ∷ [] → c7 ≡ c6 ++ zeros after → coefs ≡ c7 ++ zeros h → IsSmall (form coefs (pos 0))
difference_made a k after h none c1 c2 c3 c4 c5 c6 c7 coefs room o e1 e2 e3 e4 e5 e6 e7 e8 =
    small_as (difference a k after h) coefs (pos 0) (difference_coefs a k after h none c1 c2 c3 c4 c5 c6 c7 coefs o e1 e2 e3 e4 e5 e6 e7 e8) refl (difference_small a k after h room)

pub difference_form : (a k after h : ℕ) (none c1 c2 c3 c4 c5 c6 c7 coefs : List ℤ)
    → none ≡ [] → c1 ≡ none ++ zeros a → c2 ≡ c1 ++ zeros k → c3 ≡ c2 ++ pos 1 ∷ [] → c4 ≡ c3 ++ zeros after
    → c5 ≡ c4 ++ zeros k → c6 ≡ c5 ++ negsuc 0 ∷ [] → c7 ≡ c6 ++ zeros after → coefs ≡ c7 ++ zeros h → form coefs (pos 0) ≡ difference a k after h
difference_form a k after h none c1 c2 c3 c4 c5 c6 c7 coefs o e1 e2 e3 e4 e5 e6 e7 e8 =
    ap (λ cs. form cs (pos 0)) (difference_coefs a k after h none c1 c2 c3 c4 c5 c6 c7 coefs o e1 e2 e3 e4 e5 e6 e7 e8)
