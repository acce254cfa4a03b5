-- Units of one text are one.
use Rattle.std.proofs.Common.{◌≡◌, refl, sym, ap, ◌∙◌, ℕ, suc, Bool, true, false, not, ◌||◌, nat_eq, List, [], ◌∷◌, ◌++◌, ◌⊎◌, inl, inr, append_assoc}
use Rattle.std.specs.Prelude.{codes}
use Rattle.std.specs.List.{flat_map}
use Rattle.std.proofs.lemmas.Bool.{both_ways, cases_Bool, cond-true, cond-false, eqb-false, ne_eqb, not_from_false, or_parts}
use Rattle.std.proofs.lemmas.List.{append_cancel_left, append-nil}
use Rattle.ch_nest.specs.declared.nest.ArrayDecl.{ArrayDecl}
use Rattle.ch_print.specs.Instances.{buffer_text}
use Rattle.ch_print.specs.Numbers.{number_text}
use Rattle.ch_print.proofs.Readback.{read_number, same_run, stops}
use Rattle.ch_timed.specs.declared.element.Label.TheVariants.{Stmt, Move}
use Rattle.ch_code.specs.BodyText.{is_plain, is_word}
use Rattle.ch_code.specs.LoopText.{for_text, if_text}
use Rattle.ch_code.specs.CodeText.{array_line, buffer_line, buffer_lines, code_text, escaped, extent_text, instance_text, leaf_text, name_text, quoted, unit_text}
use Rattle.ch_code.specs.declared.code.Code.{Code}
use Rattle.ch_code.specs.declared.code.Code.TheOpen.{Code-F}
use Rattle.ch_code.specs.declared.code.Code.TheViews.{out-Code}
use Rattle.ch_code.specs.UnitParts.{UnitParts}
use Rattle.ch_code.proofs.ReadBodies.{named, plain_first, plain_words}
use Rattle.ch_code.proofs.ReadCode.{layer, opened, read_code}
use Rattle.ch_code.proofs.ReadForms.{behind_one, starts_apart}
use Rattle.ch_code.proofs.ReadLists.{leads, read_all}

abbrev special : ℕ → Bool
special b = nat_eq b 34 || nat_eq b 92

escaped_cases : (b : ℕ) → ((special b ≡ true) × (escaped b ≡ 92 ∷ b ∷ [])) ⊎ ((special b ≡ false) × (escaped b ≡ b ∷ []))
escaped_cases b = elim (cases_Bool (special b)) as (λ _. ((special b ≡ true) × (escaped b ≡ 92 ∷ b ∷ [])) ⊎ ((special b ≡ false) × (escaped b ≡ b ∷ []))) [
  | inl h ↦ inl (h, cond-true _ _ _ h)
  | inr h ↦ inr (h, cond-false _ _ _ h)
]

one_byte : (x y : ℕ) (r q : List ℕ) → x ∷ r ≡ y ∷ q → (x ≡ y) × (r ≡ q)
one_byte x y r q e = let h : x ≡ y = cc in let k : r ≡ q = cc in (h, k)

plain_byte : (y : ℕ) (r q : List ℕ) → special y ≡ false → 92 ∷ r ≡ y ∷ q → ⊥
plain_byte y r q h e =
    let s = one_byte 92 y r q e in
    both_ways (special y) h (ap special (sym (s.0)))

read_escaped : (x y : ℕ) (r q : List ℕ) → escaped x ++ r ≡ escaped y ++ q → (x ≡ y) × (r ≡ q)
read_escaped x y r q e = elim (escaped_cases x) as (λ _. (x ≡ y) × (r ≡ q)) [
  | inl a ↦ elim (escaped_cases y) as (λ _. (x ≡ y) × (r ≡ q)) [
    | inl b ↦ one_byte x y r q (behind_one _ _ _ _ (sym (named r _ _ (a.1)) ∙ e ∙ named q _ _ (b.1)))
    | inr b ↦ absurd (plain_byte y (x ∷ r) q (b.0) (sym (named r _ _ (a.1)) ∙ e ∙ named q _ _ (b.1)))
  ]
  | inr a ↦ elim (escaped_cases y) as (λ _. (x ≡ y) × (r ≡ q)) [
    | inl b ↦ absurd (plain_byte x (y ∷ q) r (a.0) (sym (sym (named r _ _ (a.1)) ∙ e ∙ named q _ _ (b.1))))
    | inr b ↦ one_byte x y r q (sym (named r _ _ (a.1)) ∙ e ∙ named q _ _ (b.1))
  ]
]

abbrev unquoted : List ℕ → Bool
unquoted t = not (leads 34 t)

escaped_first : (b : ℕ) (t : List ℕ) → unquoted (escaped b ++ t) ≡ true
escaped_first b t = elim (escaped_cases b) as (λ _. unquoted (escaped b ++ t) ≡ true) [
  | inl a ↦ ap unquoted (named t _ _ (a.1))
  | inr a ↦ ap unquoted (named t _ _ (a.1)) ∙ not_from_false _ (ne_eqb 34 b (λ e. eqb-false b 34 ((or_parts _ _ (a.0)).0) (sym e)))
]

quoted_is : (name r : List ℕ) → quoted name ++ r ≡ codes "\"" ++ (flat_map escaped name ++ 34 ∷ r)
quoted_is name r = simp append_assoc

read_quoted : (m n r q : List ℕ) → quoted m ++ r ≡ quoted n ++ q → (m ≡ n) × (r ≡ q)
read_quoted m n r q e =
    let s = read_all (λ k. escaped) (λ k. flat_map escaped) (λ k. refl) (λ k x xs. refl) unquoted (λ t. Unit {0}) (λ k x t. escaped_first x t) (λ k x t. tt) (λ k x y r q hr hq. read_escaped x y r q)
    0 m n (34 ∷ r) (34 ∷ q) refl refl tt tt (append_cancel_left (codes "\"") _ _ (sym (quoted_is m r) ∙ e ∙ quoted_is n q)) in
    (s.0, behind_one _ _ _ _ (s.1))

name_cases : (name : List ℕ) → ((is_plain name ≡ true) × (name_text name ≡ name)) ⊎ (name_text name ≡ quoted name)
name_cases name = elim (cases_Bool (is_plain name)) as (λ _. ((is_plain name ≡ true) × (name_text name ≡ name)) ⊎ (name_text name ≡ quoted name)) [
  | inl h ↦ inl (h, cond-true _ _ _ h)
  | inr h ↦ inr (cond-false _ _ _ h)
]

quoted_apart : (m n r q : List ℕ) → is_plain m ≡ true → m ++ r ≡ quoted n ++ q → ⊥
quoted_apart m n r q h e = starts_apart is_word _ (m ++ r) refl (plain_first m r h) (sym (quoted_is n q) ∙ sym e)

read_name : (m n r q : List ℕ) → stops is_word r ≡ true → stops is_word q ≡ true → name_text m ++ r ≡ name_text n ++ q → (m ≡ n) × (r ≡ q)
read_name m n r q hr hq e = elim (name_cases m) as (λ _. (m ≡ n) × (r ≡ q)) [
  | inl a ↦ elim (name_cases n) as (λ _. (m ≡ n) × (r ≡ q)) [
    | inl b ↦ same_run is_word m n r q (plain_words m (a.0)) (plain_words n (b.0)) hr hq (sym (named r _ _ (a.1)) ∙ e ∙ named q _ _ (b.1))
    | inr b ↦ absurd (quoted_apart m n r q (a.0) (sym (named r _ _ (a.1)) ∙ e ∙ named q _ _ b))
  ]
  | inr a ↦ elim (name_cases n) as (λ _. (m ≡ n) × (r ≡ q)) [
    | inl b ↦ absurd (quoted_apart n m q r (b.0) (sym (sym (named r _ _ a) ∙ e ∙ named q _ _ (b.1))))
    | inr b ↦ read_quoted m n r q (sym (named r _ _ a) ∙ e ∙ named q _ _ b)
  ]
]

extent_is : (x : ℕ) (r : List ℕ) → extent_text x ++ r ≡ codes "[" ++ (number_text x ++ 93 ∷ r)
extent_is x r = simp append_assoc

read_extent : (x y : ℕ) (r q : List ℕ) → extent_text x ++ r ≡ extent_text y ++ q → (x ≡ y) × (r ≡ q)
read_extent x y r q e =
    let s = read_number x y (93 ∷ r) (93 ∷ q) refl refl (append_cancel_left (codes "[") _ _ (sym (extent_is x r) ∙ e ∙ extent_is y q)) in
    (s.0, behind_one _ _ _ _ (s.1))

read_extents : (xs ys r q : List ℕ) → flat_map extent_text xs ++ 10 ∷ r ≡ flat_map extent_text ys ++ 10 ∷ q → (xs ≡ ys) × (r ≡ q)
read_extents xs ys r q e =
    let s = read_all (λ k. extent_text) (λ k. flat_map extent_text) (λ k. refl) (λ k x xs. refl) (leads 91) (λ t. Unit {0}) (λ k x t. refl) (λ k x t. tt) (λ k x y r q hr hq. read_extent x y r q)
    0 xs ys (10 ∷ r) (10 ∷ q) refl refl tt tt e in
    (s.0, behind_one _ _ _ _ (s.1))

extents_stop : (xs r : List ℕ) → stops is_word (flat_map extent_text xs ++ 10 ∷ r) ≡ true
extents_stop [] r = refl
extents_stop (x ∷ xs) r = refl

array_line_is : (d : ArrayDecl) (r : List ℕ) → array_line d ++ r ≡ codes "array " ++ (name_text d.name ++ (flat_map extent_text d.extents ++ 10 ∷ r))
unfolding array_line
array_line_is d r =
    append_assoc (codes "array " ++ name_text d.name ++ flat_map extent_text d.extents) (codes "\n") r
    ∙ append_assoc (codes "array " ++ name_text d.name) (flat_map extent_text d.extents) (10 ∷ r)
    ∙ append_assoc (codes "array ") (name_text d.name) (flat_map extent_text d.extents ++ 10 ∷ r)

same_array : (a b : ArrayDecl) → a.name ≡ b.name → a.extents ≡ b.extents → a ≡ b
same_array a b n x =
    let with_name : List ℕ → ArrayDecl = λ t. record { name = t; extents = a.extents } in
    let with_extents : List ℕ → ArrayDecl = λ t. record { name = b.name; extents = t } in
    ap with_name n ∙ ap with_extents x

read_array_line : (a b : ArrayDecl) (r q : List ℕ) → array_line a ++ r ≡ array_line b ++ q → (a ≡ b) × (r ≡ q)
read_array_line a b r q e =
    let s = read_name a.name b.name _ _ (extents_stop a.extents r) (extents_stop b.extents q) (append_cancel_left (codes "array ") _ _ (sym (array_line_is a r) ∙ e ∙ array_line_is b q)) in
    let t = read_extents a.extents b.extents r q (s.1) in
    (same_array a b (s.0) (t.0), t.1)

buffer_line_is : (k : ℕ) (xs r : List ℕ) → buffer_line k xs ++ r ≡ codes "buffer " ++ (buffer_text k ++ (flat_map extent_text xs ++ 10 ∷ r))
unfolding buffer_line
buffer_line_is k xs r = simp append_assoc

read_buffer_line : (k : ℕ) (xs ys r q : List ℕ) → buffer_line k xs ++ r ≡ buffer_line k ys ++ q → (xs ≡ ys) × (r ≡ q)
read_buffer_line k xs ys r q e =
    read_extents xs ys r q (append_cancel_left (buffer_text k) _ _ (append_cancel_left (codes "buffer ") _ _ (sym (buffer_line_is k xs r) ∙ e ∙ buffer_line_is k ys q)))

module _ (test : List ℕ → Bool) (brace : (x : List ℕ) → test (123 ∷ x) ≡ false) (loop : (x : List ℕ) → test (102 ∷ x) ≡ false) (guard : (x : List ℕ) → test (105 ∷ x) ≡ false)
    (statement : (x : List ℕ) → test (83 ∷ x) ≡ false) (move : (x : List ℕ) → test (77 ∷ x) ≡ false) where
  layer_test : (arrays : List ArrayDecl) (z : Code-F Code) (r : List ℕ) → test (layer arrays z false 0 0 ++ r) ≡ false
  unfolding for_text if_text leaf_text instance_text
  layer_test arrays (Code-F.Seq parts) r = brace _
  layer_test arrays (Code-F.Loop number lows highs inner) r = loop _
  layer_test arrays (Code-F.Guard system inner) r = guard _
  layer_test arrays (Code-F.Leaf (Stmt i) body origin places) r = statement _
  layer_test arrays (Code-F.Leaf (Move i) body origin places) r = move _

  code_test : (arrays : List ArrayDecl) (c : Code) (r : List ℕ) → test (code_text arrays c false 0 0 ++ r) ≡ false
  code_test arrays c r = ap test (opened arrays c false 0 0 r) ∙ layer_test arrays (out-Code c) r

-- what stands behind the arrays isn't an array's line, and what stands behind the buffers isn't a buffer's
behind_arrays : (arrays : List ArrayDecl) (temps : List (List ℕ)) (k : ℕ) (c : Code) (r : List ℕ) → leads 97 (buffer_lines k temps ++ (code_text arrays c false 0 0 ++ r)) ≡ false
behind_arrays arrays [] k c r = code_test (leads 97) (λ x. refl) (λ x. refl) (λ x. refl) (λ x. refl) (λ x. refl) arrays c r
behind_arrays arrays (t ∷ ts) k c r = ap (leads 97) (append_assoc (buffer_line k t) (buffer_lines (suc k) ts) _ ∙ buffer_line_is k t _)

behind_buffers : (arrays : List ArrayDecl) (c : Code) (r : List ℕ) → leads 98 (code_text arrays c false 0 0 ++ r) ≡ false
behind_buffers arrays c r = code_test (leads 98) (λ x. refl) (λ x. refl) (λ x. refl) (λ x. refl) (λ x. refl) arrays c r

abbrev whole : UnitParts → List ℕ
whole u = flat_map array_line u.arrays ++ (buffer_lines 0 u.temps ++ (code_text u.arrays u.root false 0 0 ++ []))

unit_is : (u : UnitParts) → unit_text u ≡ whole u
unfolding unit_text
unit_is u =
    append_assoc (flat_map array_line u.arrays) (buffer_lines 0 u.temps) (code_text u.arrays u.root false 0 0)
    ∙ ap (λ t. flat_map array_line u.arrays ++ (buffer_lines 0 u.temps ++ t)) (sym (append-nil (code_text u.arrays u.root false 0 0)))

made_same : (u v : UnitParts) → u.root ≡ v.root → u.arrays ≡ v.arrays → u.temps ≡ v.temps → u ≡ v
made_same u v r a t =
    let with_root : Code → UnitParts = λ c. record { root = c; arrays = u.arrays; temps = u.temps } in
    let with_arrays : List ArrayDecl → UnitParts = λ ds. record { root = v.root; arrays = ds; temps = u.temps } in
    let with_temps : List (List ℕ) → UnitParts = λ ts. record { root = v.root; arrays = v.arrays; temps = ts } in
    ap with_root r ∙ ap with_arrays a ∙ ap with_temps t

pub same_unit : (u v : UnitParts) → unit_text u ≡ unit_text v → u ≡ v
same_unit u v e =
    let a = read_all (λ k. array_line) (λ k. flat_map array_line) (λ k. refl) (λ k x xs. refl) (leads 97) (λ t. Unit {0}) (λ k x t. ap (leads 97) (array_line_is x t)) (λ k x t. tt)
    (λ k x y r q hr hq. read_array_line x y r q) 0 u.arrays v.arrays _ _ (behind_arrays u.arrays u.temps 0 u.root []) (behind_arrays v.arrays v.temps 0 v.root []) tt tt
    (sym (unit_is u) ∙ e ∙ unit_is v) in
    let b = read_all buffer_line buffer_lines (λ k. refl) (λ k x xs. refl) (leads 98) (λ t. Unit {0}) (λ k x t. ap (leads 98) (buffer_line_is k x t)) (λ k x t. tt)
    (λ k x y r q hr hq. read_buffer_line k x y r q) 0 u.temps v.temps _ _ (behind_buffers u.arrays u.root []) (behind_buffers v.arrays v.root []) tt tt (a.1) in
    let c = read_code v.arrays u.root v.root false 0 0 [] [] (sym (ap (λ ds. code_text ds u.root false 0 0 ++ []) (a.0)) ∙ b.1) in
    made_same u v (c.0) (a.0) (b.0)
