-- The heads of loops and guards tell their parts.
use Rattle.std.proofs.Common.{◌≡◌, refl, sym, ap, ◌∙◌, ℕ, zero, suc, Bool, true, false, ◌||◌, nat_eq, List, [], ◌∷◌, ◌++◌, arith, append_assoc}
use Rattle.std.specs.Prelude.{codes}
use Rattle.std.specs.List.{flat_map}
use Rattle.std.proofs.lemmas.Bool.Decides.{nat_tests}
use Rattle.std.proofs.lemmas.List.{append_cancel_left}
use Rattle.ch_affine.specs.Form.{Form}
use Rattle.ch_print.specs.Lists.{behind, separated}
use Rattle.ch_print.specs.Numbers.{number_text}
use Rattle.ch_print.proofs.Readback.{is_digit, read_number, stops}
use Rattle.ch_code.specs.FormText.{form_text, looped}
use Rattle.ch_code.specs.LoopText.{bound_text, divided_text, end_text, for_text, high_text, low_text, many_text}
use Rattle.ch_code.specs.declared.code.Bound.{Bound}
use Rattle.ch_code.proofs.ReadForms.{behind_one, form_stops, goes_on, read_form, starts_apart}
use Rattle.ch_code.proofs.ReadLists.{leads, read_all}

-- a round bracket, or the first letter of a function
abbrev pub is_other : ℕ → Bool
is_other b = nat_eq 40 b || nat_eq 41 b || nat_eq 99 b || nat_eq 102 b || nat_eq 109 b

other_digit : (b : ℕ) → is_digit b ≡ true → is_other b ≡ false
other_digit b h = grind (arith, nat_tests)

pub loop_form_stops : (n : ℕ) (f : Form) (r : List ℕ) → stops is_other (form_text looped n f ++ r) ≡ true
loop_form_stops n f r = form_stops looped refl refl refl is_other other_digit refl refl refl n f r

pub read_loop_form : (n : ℕ) (f g : Form) (r q : List ℕ) → goes_on r ≡ false → goes_on q ≡ false → form_text looped n f ++ r ≡ form_text looped n g ++ q → (f ≡ g) × (r ≡ q)
read_loop_form = read_form looped refl refl refl

module _ (rounding : List ℕ) (called : (r : List ℕ) → stops is_other (rounding ++ r) ≡ false) (no_choice : (r : List ℕ) → stops (nat_eq 109) (rounding ++ r) ≡ true) (n : ℕ) where
  abbrev divided : ℕ → List ℕ → List ℕ
  divided i form = rounding ++ codes "((" ++ form ++ codes ") / " ++ number_text i ++ codes ")"

  divided_is : (i : ℕ) (form r : List ℕ) → divided i form ++ r ≡ rounding ++ (codes "((" ++ (form ++ (codes ") / " ++ (number_text i ++ (codes ")" ++ r)))))
  divided_is i form r = simp append_assoc

  one_divided : (j : ℕ) (f : Form) (form r q : List ℕ) → form_text looped n f ++ r ≡ divided j form ++ q → ⊥
  one_divided j f form r q e = starts_apart is_other _ _ (loop_form_stops n f r) (called _) (e ∙ divided_is j form q)

  abbrev Same : ℕ → ℕ → Form → Form → List ℕ → List ℕ → Type 0
  Same i j f g r q = (i ≡ j) × (f ≡ g) × (r ≡ q)

  both_divided : (i j : ℕ) (f g : Form) (r q : List ℕ) → divided i (form_text looped n f) ++ r ≡ divided j (form_text looped n g) ++ q → Same i j f g r q
  both_divided i j f g r q e =
      let a = append_cancel_left rounding _ _ (sym (divided_is i _ r) ∙ e ∙ divided_is j _ q) in
      let s = read_loop_form n f g (codes ") / " ++ (number_text i ++ (codes ")" ++ r))) (codes ") / " ++ (number_text j ++ (codes ")" ++ q))) refl refl (append_cancel_left (codes "((") _ _ a) in
      let t = read_number i j (codes ")" ++ r) (codes ")" ++ q) refl refl (append_cancel_left (codes ") / ") _ _ (s.1)) in
      (t.0, s.0, behind_one _ _ _ _ (t.1))

  read_divided : (i j : ℕ) (f g : Form) (r q : List ℕ) → goes_on r ≡ false → goes_on q ≡ false
      → divided_text rounding i (form_text looped n f) ++ r ≡ divided_text rounding j (form_text looped n g) ++ q → Same i j f g r q
  read_divided zero zero f g r q hr hq e = both_divided zero zero f g r q e
  read_divided zero (suc zero) f g r q hr hq e = absurd (one_divided zero g _ q r (sym e))
  read_divided zero (suc (suc j)) f g r q hr hq e = both_divided zero (suc (suc j)) f g r q e
  read_divided (suc zero) zero f g r q hr hq e = absurd (one_divided zero f _ r q e)
  read_divided (suc zero) (suc zero) f g r q hr hq e = let s = read_loop_form n f g r q hr hq e in (refl, s.0, s.1)
  read_divided (suc zero) (suc (suc j)) f g r q hr hq e = absurd (one_divided (suc (suc j)) f _ r q e)
  read_divided (suc (suc i)) zero f g r q hr hq e = both_divided (suc (suc i)) zero f g r q e
  read_divided (suc (suc i)) (suc zero) f g r q hr hq e = absurd (one_divided (suc (suc i)) g _ q r (sym e))
  read_divided (suc (suc i)) (suc (suc j)) f g r q hr hq e = both_divided (suc (suc i)) (suc (suc j)) f g r q e

  same_bound : (b c : Bound) → b.divisor ≡ c.divisor → b.form ≡ c.form → b ≡ c
  same_bound b c d f =
      let with_form : Form → Bound = λ g. record { form = g; divisor = b.divisor } in
      let with_divisor : ℕ → Bound = λ k. record { form = c.form; divisor = k } in
      ap with_form f ∙ ap with_divisor d

  read_bound : (b c : Bound) (r q : List ℕ) → goes_on r ≡ false → goes_on q ≡ false → bound_text rounding n b ++ r ≡ bound_text rounding n c ++ q → (b ≡ c) × (r ≡ q)
  unfolding bound_text
  read_bound b c r q hr hq e = let s = read_divided b.divisor c.divisor b.form c.form r q hr hq e in (same_bound b c (s.0) (s.1), s.2)

  choice_digit : (b : ℕ) → is_digit b ≡ true → nat_eq 109 b ≡ false
  choice_digit b h = grind (arith, nat_tests)

  -- a bound doesn't begin with `m`
  divided_stops : (i : ℕ) (f : Form) (r : List ℕ) → stops (nat_eq 109) (divided_text rounding i (form_text looped n f) ++ r) ≡ true
  divided_stops zero f r = ap (stops (nat_eq 109)) (divided_is zero _ r) ∙ no_choice _
  divided_stops (suc zero) f r = form_stops looped refl refl refl (nat_eq 109) choice_digit refl refl refl n f r
  divided_stops (suc (suc i)) f r = ap (stops (nat_eq 109)) (divided_is (suc (suc i)) _ r) ∙ no_choice _

  bracket_digit : (b : ℕ) → is_digit b ≡ true → nat_eq 41 b ≡ false
  bracket_digit b h = grind (arith, nat_tests)

  module _ (chosen : List ℕ) (choice : (r : List ℕ) → stops (nat_eq 109) (chosen ++ r) ≡ false) (no_bracket : (r : List ℕ) → stops (nat_eq 41) (rounding ++ r) ≡ true) where
    bound_first : (b : Bound) (r : List ℕ) → stops (nat_eq 109) (bound_text rounding n b ++ r) ≡ true
    unfolding bound_text
    bound_first b r = divided_stops b.divisor b.form r

    divided_open : (i : ℕ) (f : Form) (r : List ℕ) → stops (nat_eq 41) (divided_text rounding i (form_text looped n f) ++ r) ≡ true
    divided_open zero f r = ap (stops (nat_eq 41)) (divided_is zero _ r) ∙ no_bracket _
    divided_open (suc zero) f r = form_stops looped refl refl refl (nat_eq 41) bracket_digit refl refl refl n f r
    divided_open (suc (suc i)) f r = ap (stops (nat_eq 41)) (divided_is (suc (suc i)) _ r) ∙ no_bracket _

    bound_open : (b : Bound) (r : List ℕ) → stops (nat_eq 41) (bound_text rounding n b ++ r) ≡ true
    unfolding bound_text
    bound_open b r = divided_open b.divisor b.form r

    abbrev next : Bound → List ℕ
    next = behind (codes ", ") (bound_text rounding n)

    Goes : List ℕ → Type 0
    Goes r = goes_on r ≡ false

    read_next : (b c : Bound) (r q : List ℕ) → goes_on r ≡ false → goes_on q ≡ false → next b ++ r ≡ next c ++ q → (b ≡ c) × (r ≡ q)
    read_next b c r q hr hq e = read_bound b c r q hr hq (append_cancel_left (codes ", ") _ _ e)

    abbrev nexts : List Bound → List ℕ
    nexts = flat_map next

    nexts_go : (bs : List Bound) (r : List ℕ) → goes_on (nexts bs ++ 41 ∷ r) ≡ false
    nexts_go [] r = refl
    nexts_go (b ∷ bs) r = refl

    read_nexts : (bs cs : List Bound) (r q : List ℕ) → nexts bs ++ 41 ∷ r ≡ nexts cs ++ 41 ∷ q → (bs ≡ cs) × (r ≡ q)
    read_nexts bs cs r q e =
        let s = read_all (λ k. next) (λ k. nexts) (λ k. refl) (λ k x xs. refl) (leads 44) (λ t. goes_on t ≡ false) (λ k x t. refl) (λ k x t. refl) (λ k. read_next)
        0 bs cs (41 ∷ r) (41 ∷ q) refl refl refl refl e in
        (s.0, behind_one _ _ _ _ (s.1))

    read_separated : (bs cs : List Bound) (r q : List ℕ)
        → separated (codes ", ") (bound_text rounding n) bs ++ 41 ∷ r ≡ separated (codes ", ") (bound_text rounding n) cs ++ 41 ∷ q → (bs ≡ cs) × (r ≡ q)
    read_separated [] [] r q e = (refl, behind_one _ _ _ _ e)
    read_separated [] (c ∷ cs) r q e =
        absurd (starts_apart (nat_eq 41) _ (41 ∷ r) (bound_open c (nexts cs ++ 41 ∷ q)) refl (sym (e ∙ append_assoc (bound_text rounding n c) (nexts cs) (41 ∷ q))))
    read_separated (b ∷ bs) [] r q e =
        absurd (starts_apart (nat_eq 41) _ (41 ∷ q) (bound_open b (nexts bs ++ 41 ∷ r)) refl (sym (append_assoc (bound_text rounding n b) (nexts bs) (41 ∷ r)) ∙ e))
    read_separated (b ∷ bs) (c ∷ cs) r q e =
        let s = read_bound b c (nexts bs ++ 41 ∷ r) (nexts cs ++ 41 ∷ q) (nexts_go bs r) (nexts_go cs q)
        (sym (append_assoc (bound_text rounding n b) (nexts bs) (41 ∷ r)) ∙ e ∙ append_assoc (bound_text rounding n c) (nexts cs) (41 ∷ q)) in
        let t = read_nexts bs cs r q (s.1) in
        (ap (λ x. x ∷ bs) (s.0) ∙ ap (λ xs. c ∷ xs) (t.0), t.1)

    many_is : (bs : List Bound) (r : List ℕ) → many_text chosen rounding n bs ++ r ≡ chosen ++ (codes "(" ++ (separated (codes ", ") (bound_text rounding n) bs ++ 41 ∷ r))
    many_is bs r = simp append_assoc

    both_many : (bs cs : List Bound) (r q : List ℕ) → many_text chosen rounding n bs ++ r ≡ many_text chosen rounding n cs ++ q → (bs ≡ cs) × (r ≡ q)
    both_many bs cs r q e =
        read_separated bs cs r q (append_cancel_left (codes "(") _ _ (append_cancel_left chosen _ _ (sym (many_is bs r) ∙ e ∙ many_is cs q)))

    one_many : (b : Bound) (cs : List Bound) (r q : List ℕ) → bound_text rounding n b ++ r ≡ many_text chosen rounding n cs ++ q → ⊥
    one_many b cs r q e = starts_apart (nat_eq 109) _ _ (bound_first b r) (choice _) (e ∙ many_is cs q)

    read_end : (bs cs : List Bound) (r q : List ℕ) → goes_on r ≡ false → goes_on q ≡ false → end_text chosen rounding n bs ++ r ≡ end_text chosen rounding n cs ++ q → (bs ≡ cs) × (r ≡ q)
    read_end [] [] r q hr hq e = both_many [] [] r q e
    read_end [] (c ∷ []) r q hr hq e = absurd (one_many c [] q r (sym e))
    read_end [] (c ∷ d ∷ cs) r q hr hq e = both_many [] (c ∷ d ∷ cs) r q e
    read_end (b ∷ []) [] r q hr hq e = absurd (one_many b [] r q e)
    read_end (b ∷ []) (c ∷ []) r q hr hq e = let s = read_bound b c r q hr hq e in (ap (λ x. x ∷ []) (s.0), s.1)
    read_end (b ∷ []) (c ∷ d ∷ cs) r q hr hq e = absurd (one_many b (c ∷ d ∷ cs) r q e)
    read_end (a ∷ b ∷ bs) [] r q hr hq e = both_many (a ∷ b ∷ bs) [] r q e
    read_end (a ∷ b ∷ bs) (c ∷ []) r q hr hq e = absurd (one_many c (a ∷ b ∷ bs) q r (sym e))
    read_end (a ∷ b ∷ bs) (c ∷ d ∷ cs) r q hr hq e = both_many (a ∷ b ∷ bs) (c ∷ d ∷ cs) r q e

read_low : (n : ℕ) (bs cs : List Bound) (r q : List ℕ) → goes_on r ≡ false → goes_on q ≡ false → low_text n bs ++ r ≡ low_text n cs ++ q → (bs ≡ cs) × (r ≡ q)
unfolding low_text
read_low n = read_end (codes "ceil") (λ r. refl) (λ r. refl) n (codes "max") (λ r. refl) (λ r. refl)

read_high : (n : ℕ) (bs cs : List Bound) (r q : List ℕ) → goes_on r ≡ false → goes_on q ≡ false → high_text n bs ++ r ≡ high_text n cs ++ q → (bs ≡ cs) × (r ≡ q)
unfolding high_text
read_high n = read_end (codes "floor") (λ r. refl) (λ r. refl) n (codes "min") (λ r. refl) (λ r. refl)

for_is : (n level : ℕ) (lows highs : List Bound) (r : List ℕ)
    → for_text n level lows highs ++ r ≡ codes "for x" ++ (number_text level ++ (codes " = " ++ (low_text n lows ++ (codes " to " ++ (high_text n highs ++ r)))))
unfolding for_text
for_is n level lows highs r = simp append_assoc

pub read_for : (n i j : ℕ) (ks bs cs ds : List Bound) (r q : List ℕ) → goes_on r ≡ false → goes_on q ≡ false → for_text n i ks bs ++ r ≡ for_text n j cs ds ++ q
    → (i ≡ j) × (ks ≡ cs) × (bs ≡ ds) × (r ≡ q)
read_for n i j ks bs cs ds r q hr hq e =
    let a = append_cancel_left (codes "for x") _ _ (sym (for_is n i ks bs r) ∙ e ∙ for_is n j cs ds q) in
    let s = read_number i j (codes " = " ++ (low_text n ks ++ (codes " to " ++ (high_text n bs ++ r)))) (codes " = " ++ (low_text n cs ++ (codes " to " ++ (high_text n ds ++ q)))) refl refl a in
    let t = read_low n ks cs (codes " to " ++ (high_text n bs ++ r)) (codes " to " ++ (high_text n ds ++ q)) refl refl (append_cancel_left (codes " = ") _ _ (s.1)) in
    let u = read_high n bs ds r q hr hq (append_cancel_left (codes " to ") _ _ (t.1)) in
    (s.0, t.0, u.0, u.1)
