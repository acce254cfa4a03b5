-- Texts of lists, one element further.
use Rattle.std.proofs.Common.{◌≡◌, refl, sym, ap, ◌∙◌, subst, ℕ, zero, suc, ◌+◌, ◌<◌, ◌≤◌, ℤ, Bool, true, false, not, ◌&&◌, List, [], ◌∷◌, ◌++◌, get_or, take, drop, length, map, inl, inr, arith, append_assoc, length-append}
use Rattle.std.specs.Prelude.{codes}
use Rattle.std.specs.List.{list_all}
use Rattle.std.proofs.lemmas.Bool.{both_ways, cases_lt}
use Rattle.std.proofs.lemmas.List.{drop_more, get_or_append_left}
use Rattle.std.proofs.Math.Seq.{get_or-append_seam}
use Rattle.ch_nest.specs.declared.nest.ArrayDecl.{ArrayDecl}
use Rattle.ch_affine.specs.Form.{Form}
use Rattle.ch_affine.specs.declared.system.Range.{Range}
use Rattle.ch_print.specs.Numbers.{number_text}
use Rattle.ch_code.specs.FormText.{is_zero, sum_text, term_text, times_text}
use Rattle.ch_code.specs.LoopText.{divided_text, more_ranges_text, range_text}
use Rattle.ch_code.specs.BodyText.{has_other, is_digit, is_own, is_plain, is_word, nth_name, own_flags}
use Rattle.ch_code.specs.CodeText.{buffer_line, buffer_lines, code_text, margin, more_origins_text, origin_text, parts_text}
use Rattle.ch_code.specs.declared.code.Code.{Code}

pub times_other : (n : ℕ) → (n ≡ 1 → ⊥) → times_text n ≡ number_text n ++ codes "*"
times_other zero h = refl
times_other (suc zero) h = absurd (h refl)
times_other (suc (suc n)) h = refl

pub sum_more : (letter : ℕ) (first : Bool) (coefs : List ℤ) (constant d : ℤ) (k : ℕ) (out next whole : List ℕ) → k < length coefs
    → next ≡ out ++ term_text letter first (k + 1) (get_or coefs k d)
    → out ++ sum_text letter first (k + 1) (drop k coefs) constant ≡ whole
    → next ++ sum_text letter (is_zero (get_or coefs k d) && first) (k + 1 + 1) (drop (k + 1) coefs) constant ≡ whole
sum_more letter first coefs constant d k out next whole l e h =
    let s : k + 1 + 1 ≡ suc (k + 1) = omega arith in
    let a = rw (drop_more coefs k d l) at h in
    rw (e, s) (append_assoc out _ _ ∙ a)

pub ranges_more : (around : ℕ) (rs : List Range) (k : ℕ) (d : Range) (out next whole : List ℕ) → k < length rs
    → next ≡ out ++ codes ", " ++ range_text around (k + 2) (get_or rs k d)
    → out ++ more_ranges_text around (k + 2) (drop k rs) ≡ whole
    → next ++ more_ranges_text around (k + 1 + 2) (drop (k + 1) rs) ≡ whole
ranges_more around rs k d out next whole l e h =
    let s : k + 1 + 2 ≡ suc (k + 2) = omega arith in
    let a = rw (drop_more rs k d l) at h in
    rw (e, s) (simp append_assoc (simp append_assoc at a))

pub origins_more : (around : ℕ) (fs : List Form) (k : ℕ) (d : Form) (out next whole : List ℕ) → k < length fs
    → next ≡ out ++ codes ", " ++ origin_text around (k + 2) (get_or fs k d)
    → out ++ more_origins_text around (k + 2) (drop k fs) ≡ whole
    → next ++ more_origins_text around (k + 1 + 2) (drop (k + 1) fs) ≡ whole
origins_more around fs k d out next whole l e h =
    let s : k + 1 + 2 ≡ suc (k + 2) = omega arith in
    let a = rw (drop_more fs k d l) at h in
    rw (e, s) (simp append_assoc (simp append_assoc at a))

pub buffers_more : (ts : List (List ℕ)) (k : ℕ) (d : List ℕ) (out next whole : List ℕ) → k < length ts
    → next ≡ out ++ buffer_line k (get_or ts k d)
    → out ++ buffer_lines k (drop k ts) ≡ whole
    → next ++ buffer_lines (k + 1) (drop (k + 1) ts) ≡ whole
buffers_more ts k d out next whole l e h =
    let s : k + 1 ≡ suc k = omega arith in
    let a = rw (drop_more ts k d l, s) at h in
    rw (e, s) (append_assoc out _ _ ∙ a)

pub parts_more : (arrays : List ArrayDecl) (parts : List Code) (level around k : ℕ) (d : Code) (out next whole : List ℕ) → k < length parts
    → next ≡ out ++ code_text arrays (get_or parts k d) false level around
    → out ++ parts_text (map (code_text arrays) (drop k parts)) level around ≡ whole
    → next ++ parts_text (map (code_text arrays) (drop (k + 1) parts)) level around ≡ whole
parts_more arrays parts level around k d out next whole l e h =
    let a = rw (drop_more parts k d l) at h in
    rw e (append_assoc out _ _ ∙ a)

margin_push : (k : ℕ) → margin (suc k) ≡ margin k ++ codes "  "
margin_push zero = refl
margin_push (suc k) = ap (λ m. 32 ∷ 32 ∷ m) (margin_push k)

pub margin_more : (k : ℕ) → margin (k + 1) ≡ margin k ++ codes "  "
margin_more k = let s : k + 1 ≡ suc k = omega arith in rw s (margin_push k)

pub plain_is : (name : List ℕ) → 0 < length name → is_plain name ≡ (not (is_digit (get_or name 0 0)) && list_all is_word name)
plain_is [] h = absurd (omega arith)
plain_is (b ∷ bs) h = refl

pub nth_name_is : (arrays : List ArrayDecl) (n : ℕ) (d : ArrayDecl) → n < length arrays → nth_name arrays n ≡ (get_or arrays n d).name
nth_name_is [] n d h = absurd (omega arith)
nth_name_is (a ∷ arrays) zero d h = refl
nth_name_is (a ∷ arrays) (suc n) d h = nth_name_is arrays n d (omega arith)

nth_name_past : (arrays : List ArrayDecl) (n : ℕ) → length arrays ≤ n → nth_name arrays n ≡ []
nth_name_past [] n h = refl
nth_name_past (a ∷ arrays) zero h = absurd (omega arith)
nth_name_past (a ∷ arrays) (suc n) h = nth_name_past arrays n (omega arith)

pub own_past : (arrays : List ArrayDecl) (n : ℕ) → length arrays ≤ n → is_own arrays n ≡ false
own_past arrays n h = ap (λ name. is_plain name && list_all (has_other name) (take n arrays)) (nth_name_past arrays n h)

pub own_inside : (arrays : List ArrayDecl) (n : ℕ) → is_own arrays n ≡ true → n < length arrays
own_inside arrays n h = elim (cases_lt n (length arrays)) as (λ _. n < length arrays) [
  | inl below ↦ below
  | inr past ↦ absurd (both_ways _ (own_past arrays n past) h)
]

flags_long : (arrays : List ArrayDecl) (n : ℕ) → length (own_flags arrays n) ≡ n
flags_long arrays zero = refl
flags_long arrays (suc n) = let l = length-append (own_flags arrays n) (is_own arrays n ∷ []) in let m = flags_long arrays n in omega (arith, l, m)

flags_push : (arrays : List ArrayDecl) (n : ℕ) → own_flags arrays (suc n) ≡ own_flags arrays n ++ is_own arrays n ∷ []
flags_push arrays n = refl

pub flags_more : (arrays : List ArrayDecl) (n : ℕ) → own_flags arrays (n + 1) ≡ own_flags arrays n ++ is_own arrays n ∷ []
flags_more arrays n = let s : n + 1 ≡ suc n = omega arith in rw s (flags_push arrays n)

last_flag : (arrays : List ArrayDecl) (n : ℕ) (d : Bool) → get_or (own_flags arrays n ++ is_own arrays n ∷ []) n d ≡ is_own arrays n
last_flag arrays n d =
    subst (λ m. get_or (own_flags arrays n ++ is_own arrays n ∷ []) m d ≡ is_own arrays n) (flags_long arrays n) (get_or-append_seam (own_flags arrays n) (is_own arrays n) [] d)

flag_at : (arrays : List ArrayDecl) (n k : ℕ) (d : Bool) → k < n → get_or (own_flags arrays n) k d ≡ is_own arrays k
flag_at arrays zero k d l = absurd (omega arith)
flag_at arrays (suc n) k d l = elim (cases_lt k n) as (λ _. get_or (own_flags arrays n ++ is_own arrays n ∷ []) k d ≡ is_own arrays k) [
  | inl below ↦ get_or_append_left (own_flags arrays n) (is_own arrays n ∷ []) d k (omega (arith, flags_long arrays n, below)) ∙ flag_at arrays n k d below
  | inr past ↦
      let e : k ≡ n = omega (arith, past, l) in
      subst (λ m. get_or (own_flags arrays n ++ is_own arrays n ∷ []) m d ≡ is_own arrays m) (sym e) (last_flag arrays n d)
]

-- what the flags of all arrays say of one
pub flags_say : (arrays : List ArrayDecl) (own : List Bool) (k : ℕ) (d : Bool) → own ≡ own_flags arrays (length arrays) → k < length own → get_or own k d ≡ is_own arrays k
flags_say arrays own k d e l =
    let long = ap length e ∙ flags_long arrays (length arrays) in
    ap (λ flags. get_or flags k d) e ∙ flag_at arrays (length arrays) k d (omega (arith, long, l))

pub flags_end : (arrays : List ArrayDecl) (own : List Bool) (k : ℕ) → own ≡ own_flags arrays (length arrays) → length own ≤ k → is_own arrays k ≡ false
flags_end arrays own k e l =
    let long = ap length e ∙ flags_long arrays (length arrays) in
    own_past arrays k (omega (arith, long, l))

pub divided_other : (rounding : List ℕ) (n : ℕ) (form : List ℕ) → (n ≡ 1 → ⊥) → divided_text rounding n form ≡ rounding ++ codes "((" ++ form ++ codes ") / " ++ number_text n ++ codes ")"
divided_other rounding zero form h = refl
divided_other rounding (suc zero) form h = absurd (h refl)
divided_other rounding (suc (suc n)) form h = refl

pub divided_one : (rounding form : List ℕ) → divided_text rounding 1 form ≡ form
divided_one rounding form = refl
