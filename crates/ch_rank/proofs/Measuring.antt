-- One more entry: what it makes of the trials' measurements and outcomes.
use Rattle.std.proofs.Common.{◌≡◌, ◌≢◌, ℕ, zero, suc, ◌+◌, ◌-◌, ◌*◌, ◌<◌, ◌≤◌, Bool, true, false, cond, eqb, nat_lt, leb, List, [], ◌∷◌, ◌++◌, length, Option, Some, None, refl, sym, ap, ◌∙◌, subst, arith, ◌⊎◌, inl, inr, is_some, ◌||◌, append_assoc, append-nil, length-append}
use Rattle.std.specs.Prelude.{nat_le}
use native.Mathlib.Numerals.{unary_clauses}
use Rattle.std.specs.List.{All, list_any}
use Rattle.std.proofs.lemmas.Bool.Decides.{nat_tests}
use Rattle.std.proofs.lemmas.List.Elements.{All-head, All-tail, All-append, All-cons, All-nil}
use Rattle.ch_rank.specs.declared.outcome.Outcome.{Outcome}
use Rattle.ch_rank.specs.declared.outcome.Outcome.TheVariants.{Cost, Refused}
use Rattle.ch_rank.specs.declared.outcome.Costed.{Costed}
use Rattle.ch_rank.specs.declared.tally.Tally.{Tally}
use Rattle.ch_rank.specs.Ranks.{versions, last_of, better, better_by}
use Rattle.ch_rank.specs.Entries.{In, measured, is_refused, lesser, least_from, outcome_from, known, tally_from, outcome_with, completed_now, completes, completed_after, completed, AreKept}
use Rattle.ch_rank.proofs.Lists.{all_more}
use Rattle.ch_rank.proofs.Ranking.{version_more}

pub same_true : (x : ℕ) → eqb x x ≡ true
same_true x = grind (arith, nat_tests)

pub differ : (x y : ℕ) → (y ≢ x) → eqb x y ≡ false
differ x y h = grind (arith, nat_tests)

pub which : (x y : ℕ) → (x ≡ y) ⊎ (x ≢ y)
which x y = grind (arith, nat_tests)

equal_of : (x y : ℕ) → eqb x y ≡ true → x ≡ y
equal_of x y h = grind (arith, nat_tests)

-- ---- measurements

measured_case : (b : Bool) (o : Outcome) (x y z : List Outcome) → y ≡ x ++ z → cond b (o ∷ y) y ≡ cond b (o ∷ x) x ++ z
measured_case true o x y z e = ap (λ (v : List Outcome). o ∷ v) e
measured_case false o x y z e = e

measured_more : (es : List Costed) (c : Costed) (t : ℕ) → measured (es ++ c ∷ []) t ≡ measured es t ++ cond (eqb c.trial t) (c.outcome ∷ []) []
measured_more [] c t = refl
measured_more (d ∷ es) c t = measured_case (eqb d.trial t) d.outcome (measured es t) (measured (es ++ c ∷ []) t) (cond (eqb c.trial t) (c.outcome ∷ []) []) (measured_more es c t)

pub measured_new : (es : List Costed) (c : Costed) → measured (es ++ c ∷ []) c.trial ≡ measured es c.trial ++ c.outcome ∷ []
measured_new es c = measured_more es c c.trial ∙ ap (λ (b : Bool). measured es c.trial ++ cond b (c.outcome ∷ []) []) (same_true c.trial)

pub measured_other : (es : List Costed) (c : Costed) (t : ℕ) → eqb c.trial t ≡ false → measured (es ++ c ∷ []) t ≡ measured es t
measured_other es c t e = measured_more es c t ∙ (ap (λ (b : Bool). measured es t ++ cond b (c.outcome ∷ []) []) e ∙ append-nil (measured es t))

pub least_more : (least : Outcome) (os : List Outcome) (o : Outcome) → least_from least (os ++ o ∷ []) ≡ lesser (least_from least os) o
least_more least [] o = refl
least_more least (p ∷ os) o = least_more (lesser least p) os o

any_more : (os : List Outcome) (o : Outcome) → list_any is_refused os ≡ false → list_any is_refused (os ++ o ∷ []) ≡ is_refused o
any_more [] o e = at (is_refused o)
  where
    at : (b : Bool) → (b || false) ≡ b
    at true = refl
    at false = refl
any_more (p ∷ os) o e = at (is_refused p) (list_any is_refused os) e (any_more os o)
  where
    at : (b c : Bool) → (b || c) ≡ false → (c ≡ false → list_any is_refused (os ++ o ∷ []) ≡ is_refused o) → (b || list_any is_refused (os ++ o ∷ [])) ≡ is_refused o
    at true c e f = absurd (cc)
    at false c e f = f e

pub none_yet : (r : ℕ) (os : List Outcome) → outcome_from r os ≡ None → (list_any is_refused os ≡ false) × (length os < r)
none_yet r os e = at (list_any is_refused os) (nat_le r (length os)) refl e
  where
    less : (x y : ℕ) → nat_le x y ≡ false → y < x
    less x y h = grind (arith, nat_tests)

    at : (b c : Bool) → nat_le r (length os) ≡ c → cond b (Some Refused) (cond c (Some (least_from Refused os)) None) ≡ None → (b ≡ false) × (length os < r)
    at true c h e = absurd (cc)
    at false true h e = absurd (cc)
    at false false h e = (refl, less r (length os) h)

one_left : (r n m : ℕ) → m ≡ n + 1 → nat_le r m ≡ nat_le (r - n) 1
one_left r n m e = grind (arith, nat_tests)

pub outcome_more : (r : ℕ) (os : List Outcome) (o : Outcome) → outcome_from r os ≡ None → outcome_from r (os ++ o ∷ []) ≡ outcome_with (tally_from r os) o
outcome_more r os o e =
    let n = none_yet r os e in
    ap (λ (b : Bool). cond b (Some Refused) (cond (nat_le r (length (os ++ o ∷ []))) (Some (least_from Refused (os ++ o ∷ []))) None)) (any_more os o n.0)
    ∙ (ap (λ (b : Bool). cond (is_refused o) (Some Refused) (cond b (Some (least_from Refused (os ++ o ∷ []))) None)) (one_left r (length os) (length (os ++ o ∷ [])) (length-append os (o ∷ [])))
    ∙ ap (λ (x : Outcome). cond (is_refused o) (Some Refused) (cond (nat_le (r - length os) 1) (Some x) None)) (least_more Refused os o))

left_less : (r n m : ℕ) → m ≡ n + 1 → r - m ≡ r - n - 1
left_less r n m e = omega arith

pub tally_more : (r : ℕ) (os : List Outcome) (o : Outcome) → tally_from r (os ++ o ∷ []) ≡ record { left = (tally_from r os).left - 1; least = lesser (tally_from r os).least o }
tally_more r os o =
    let a : r - length (os ++ o ∷ []) ≡ r - length os - 1 = left_less r (length os) (length (os ++ o ∷ [])) (length-append os (o ∷ [])) in
    let b : least_from Refused (os ++ o ∷ []) ≡ lesser (least_from Refused os) o = least_more Refused os o in
    λ i. record { left = a i; least = b i }

-- ---- outcomes

pub known_other : (r : ℕ) (es : List Costed) (c : Costed) (t : ℕ) → eqb c.trial t ≡ false → known r (es ++ c ∷ []) t ≡ known r es t
known_other r es c t e = ap (λ (os : List Outcome). outcome_from r os) (measured_other es c t e)

pub known_new : (r : ℕ) (es : List Costed) (c : Costed) → known r es c.trial ≡ None → known r (es ++ c ∷ []) c.trial ≡ outcome_with (tally_from r (measured es c.trial)) c.outcome
known_new r es c e = ap (λ (os : List Outcome). outcome_from r os) (measured_new es c) ∙ outcome_more r (measured es c.trial) c.outcome e

pub known_more : (r : ℕ) (es : List Costed) (c : Costed) (t : ℕ) (o : Outcome) → known r es c.trial ≡ None → known r es t ≡ Some o → known r (es ++ c ∷ []) t ≡ Some o
known_more r es c t o none e = at (which c.trial t)
  where
    at : (c.trial ≡ t) ⊎ (c.trial ≢ t) → known r (es ++ c ∷ []) t ≡ Some o
    at (inl s) = let n : known r es t ≡ None = subst (λ (u : ℕ). known r es u ≡ None) s none in absurd (cc)
    at (inr s) = known_other r es c t (differ c.trial t (λ q. s (sym q))) ∙ e

-- ---- completed trials

completed_after_more : (r : ℕ) (before es : List Costed) (c : Costed) → completed_after r before (es ++ c ∷ []) ≡ completed_after r before es ++ completes r (before ++ es) c
completed_after_more r before [] c = append-nil (completes r before c) ∙ ap (λ (v : List Costed). completes r v c) (sym (append-nil before))
completed_after_more r before (d ∷ es) c =
    let i = completed_after_more r (before ++ d ∷ []) es c in
    ap (λ (v : List Costed). completes r before d ++ v) i
    ∙ (ap (λ (v : List Costed). completes r before d ++ (completed_after r (before ++ d ∷ []) es ++ completes r v c)) (append_assoc before (d ∷ []) es)
    ∙ sym (append_assoc (completes r before d) (completed_after r (before ++ d ∷ []) es) (completes r (before ++ d ∷ es) c)))

pub completed_more : (r : ℕ) (es : List Costed) (c : Costed) → completed r (es ++ c ∷ []) ≡ completed r es ++ completes r es c
completed_more r es c = completed_after_more r [] es c

pub completes_none : (r : ℕ) (es : List Costed) (c : Costed) → known r es c.trial ≡ None → completes r es c ≡ completed_now c.trial None (known r (es ++ c ∷ []) c.trial)
completes_none r es c e = ap (λ (o : Option Outcome). completed_now c.trial o (known r (es ++ c ∷ []) c.trial)) e

pub versions_more : (es more : List Costed) → better_by (last_of (versions es)) more ≡ last_of (versions (es ++ more))
versions_more es [] = ap (λ (v : List Costed). last_of (versions v)) (sym (append-nil es))
versions_more es (e ∷ more) =
    ap (λ (b : Option Costed). better_by b more) (version_more es e)
    ∙ (versions_more (es ++ e ∷ []) more ∙ ap (λ (v : List Costed). last_of (versions v)) (append_assoc es (e ∷ []) more))

one_done : (t : ℕ) (o p : Option Outcome) → length (completed_now t o p) ≤ 1
one_done t None (Some o) = omega arith
one_done t None None = omega arith
one_done t (Some o) p = omega arith

pub completed_few : (r : ℕ) (before es : List Costed) → length (completed_after r before es) ≤ length es
completed_few r before [] = omega arith
completed_few r before (e ∷ es) =
    let i = completed_few r (before ++ e ∷ []) es in
    let o = one_done e.trial (known r before e.trial) (known r (before ++ e ∷ []) e.trial) in
    omega (arith, i, o, length-append (completes r before e) (completed_after r (before ++ e ∷ []) es))

-- ---- legal entries

in_left : (x : Costed) (xs ys : List Costed) → In x xs → In x (xs ++ ys)
in_left x [] ys i = absurd i
in_left x (z ∷ xs) ys (inl e) = inl e
in_left x (z ∷ xs) ys (inr i) = inr (in_left x xs ys i)

in_right : (x : Costed) (xs ys : List Costed) → In x ys → In x (xs ++ ys)
in_right x [] ys i = i
in_right x (z ∷ xs) ys i = inr (in_right x xs ys i)

none_before : (r n k : ℕ) → n < r → k ≡ n + 1 → k ≤ r
none_before r n k h e = omega arith

few_more : (r : ℕ) (es : List Costed) (c : Costed) (t : ℕ) → length (measured es c.trial) < r → length (measured es t) ≤ r → length (measured (es ++ c ∷ []) t) ≤ r
few_more r es c t h le = at (which c.trial t)
  where
    at : (c.trial ≡ t) ⊎ (c.trial ≢ t) → length (measured (es ++ c ∷ []) t) ≤ r
    at (inl e) = subst (λ (u : ℕ). length (measured (es ++ c ∷ []) u) ≤ r) e (none_before r (length (measured es c.trial)) (length (measured (es ++ c ∷ []) c.trial)) h (ap (λ (v : List Outcome). length v) (measured_new es c) ∙ length-append (measured es c.trial) (c.outcome ∷ [])))
    at (inr n) = subst (λ (v : List Outcome). length v ≤ r) (sym (measured_other es c t (differ c.trial t (λ q. n (sym q))))) le

done_now : (r n : ℕ) (es : List Costed) (c : Costed) (o : Option Outcome) → known r (es ++ c ∷ []) c.trial ≡ o → c.trial < n → All (λ e. (e.trial < n) × (known r (es ++ c ∷ []) e.trial ≡ Some e.outcome)) (completed_now c.trial None o)
done_now r n es c None e h = All-nil (λ e. (e.trial < n) × (known r (es ++ c ∷ []) e.trial ≡ Some e.outcome))
done_now r n es c (Some o) e h = All-cons (λ e. (e.trial < n) × (known r (es ++ c ∷ []) e.trial ≡ Some e.outcome)) (record { trial = c.trial; outcome = o }) [] (h, e) (All-nil (λ e. (e.trial < n) × (known r (es ++ c ∷ []) e.trial ≡ Some e.outcome)))

pub kept_more : (r : ℕ) (es : List Costed) (c : Costed) (m n : ℕ) → AreKept m r es → c.trial < m → m ≤ n → known r es c.trial ≡ None → AreKept n r (es ++ c ∷ [])
kept_more r es c m n l h le none =
    let all : completed r (es ++ c ∷ []) ≡ completed r es ++ completed_now c.trial None (known r (es ++ c ∷ []) c.trial) = completed_more r es c ∙ ap (λ (v : List Costed). completed r es ++ v) (completes_none r es c none) in
    record {
      here = All-append (λ e. e.trial < n) es (c ∷ []) (all_more (λ e. e.trial < m) (λ e. e.trial < n) es (λ e x. omega (arith, x)) l.here) (All-cons (λ e. e.trial < n) c [] (omega arith) (All-nil (λ e. e.trial < n)));
      few = λ t. few_more r es c t (none_yet r (measured es c.trial) none).1 (l.few t);
      whole = λ t o e. subst (λ (v : List Costed). In (record { trial = t; outcome = o }) v) (sym all) (at t o (which c.trial t) e);
      done = subst (λ (v : List Costed). All (λ e. (e.trial < n) × (known r (es ++ c ∷ []) e.trial ≡ Some e.outcome)) v) (sym all)
          (All-append (λ e. (e.trial < n) × (known r (es ++ c ∷ []) e.trial ≡ Some e.outcome)) (completed r es) (completed_now c.trial None (known r (es ++ c ∷ []) c.trial))
          (all_more (λ e. (e.trial < m) × (known r es e.trial ≡ Some e.outcome)) (λ e. (e.trial < n) × (known r (es ++ c ∷ []) e.trial ≡ Some e.outcome)) (completed r es) (λ e x. (omega (arith, x.0), known_more r es c e.trial e.outcome none x.1)) l.done)
          (done_now r n es c (known r (es ++ c ∷ []) c.trial) refl (omega arith)));
    }
  where
    at : (t : ℕ) (o : Outcome) → (c.trial ≡ t) ⊎ (c.trial ≢ t) → known r (es ++ c ∷ []) t ≡ Some o → In (record { trial = t; outcome = o }) (completed r es ++ completed_now c.trial None (known r (es ++ c ∷ []) c.trial))
    at t o (inl s) e =
        let k : known r (es ++ c ∷ []) c.trial ≡ Some o = subst (λ (u : ℕ). known r (es ++ c ∷ []) u ≡ Some o) (sym s) e in
        subst (λ (x : Option Outcome). In (record { trial = t; outcome = o }) (completed r es ++ completed_now c.trial None x)) (sym k) (in_right (record { trial = t; outcome = o }) (completed r es) (record { trial = c.trial; outcome = o } ∷ []) (inl (ap (λ (u : ℕ). record { trial = u; outcome = o }) (sym s))))
    at t o (inr s) e = in_left (record { trial = t; outcome = o }) (completed r es) (completed_now c.trial None (known r (es ++ c ∷ []) c.trial)) (l.whole t o (sym (known_other r es c t (differ c.trial t (λ q. s (sym q)))) ∙ e))

none_known : (r : ℕ) → 1 ≤ r → nat_le r 0 ≡ false
none_known r h = grind (arith, nat_tests)

pub nothing_known : (r t : ℕ) → 1 ≤ r → known r [] t ≡ None
nothing_known r t h = ap (λ (b : Bool). cond b (Some Refused) None) (none_known r h)

pub none_kept : (n r : ℕ) → 1 ≤ r → AreKept n r []
none_kept n r h = record {
  here = All-nil (λ e. e.trial < n);
  few = λ t. omega arith;
  whole = λ t o e. let k = nothing_known r t h in absurd (cc);
  done = All-nil (λ e. (e.trial < n) × (known r [] e.trial ≡ Some e.outcome));
}

-- ---- how many there can be

-- all but those of one trial
abbrev others_than : ℕ → List Costed → List Costed
others_than t [] = []
others_than t (e ∷ es) = cond (eqb e.trial t) (others_than t es) (e ∷ others_than t es)

split_case : (b : Bool) (e : Costed) (os : List Outcome) (es : List Costed) (n : ℕ) → n ≡ length os + length es → suc n ≡ length (cond b (e.outcome ∷ os) os) + length (cond b es (e ∷ es))
split_case true e os es n h = omega arith
split_case false e os es n h = omega arith

split_length : (es : List Costed) (t : ℕ) → length es ≡ length (measured es t) + length (others_than t es)
split_length [] t = refl
split_length (e ∷ es) t = split_case (eqb e.trial t) e (measured es t) (others_than t es) (length es) (split_length es t)

fewer_case : (a b : Bool) (e : Costed) (xs : List Costed) (x os : List Outcome) (t : ℕ) → eqb e.trial t ≡ b → length (measured xs t) ≤ length os → length (measured (cond a xs (e ∷ xs)) t) ≤ length (cond b (e.outcome ∷ os) os)
fewer_case true true e xs x os t is h = omega arith
fewer_case true false e xs x os t is h = h
fewer_case false b e xs x os t is h = subst (λ (d : Bool). length (cond d (e.outcome ∷ measured xs t) (measured xs t)) ≤ length (cond b (e.outcome ∷ os) os)) (sym is) (both b)
  where
    both : (d : Bool) → length (cond d (e.outcome ∷ measured xs t) (measured xs t)) ≤ length (cond d (e.outcome ∷ os) os)
    both true = omega arith
    both false = h

fewer : (es : List Costed) (u t : ℕ) → length (measured (others_than u es) t) ≤ length (measured es t)
fewer [] u t = omega arith
fewer (e ∷ es) u t = fewer_case (eqb e.trial u) (eqb e.trial t) e (others_than u es) [] (measured es t) t refl (fewer es u t)

below_case : (b : Bool) (e : Costed) (xs : List Costed) (n : ℕ) → eqb e.trial n ≡ b → e.trial < suc n → All (λ d. d.trial < n) xs → All (λ d. d.trial < n) (cond b xs (e ∷ xs))
below_case true e xs n is h a = a
below_case false e xs n is h a = All-cons (λ d. d.trial < n) e xs (less e.trial n is h) a
  where
    less : (x y : ℕ) → eqb x y ≡ false → x < suc y → x < y
    less x y p q = grind (arith, nat_tests)

others_below : (es : List Costed) (n : ℕ) → All (λ d. d.trial < suc n) es → All (λ d. d.trial < n) (others_than n es)
others_below [] n a = All-nil (λ d. d.trial < n)
others_below (e ∷ es) n a = below_case (eqb e.trial n) e (others_than n es) n refl (All-head (λ d. d.trial < suc n) e es a) (others_below es n (All-tail (λ d. d.trial < suc n) e es a))

none_below : (es : List Costed) → All (λ d. d.trial < 0) es → length es ≡ 0
none_below [] a = refl
none_below (e ∷ es) a = let h = All-head (λ d. d.trial < 0) e es a in absurd (omega (arith, h))

step : (r n a b c : ℕ) → a ≡ b + c → b ≤ r → c ≤ r * n → a ≤ r * suc n
step r n a b c e p q = let m : r * suc n ≡ r + r * n = simp unary_clauses (grind (arith)) in omega (arith, m)

pub few_from : (r n : ℕ) (es : List Costed) → All (λ d. d.trial < n) es → ((t : ℕ) → length (measured es t) ≤ r) → length es ≤ r * n
few_from r zero es a f = let z = none_below es a in omega (arith, z)
few_from r (suc n) es a f =
    let i = few_from r n (others_than n es) (others_below es n a) (λ t. let x = fewer es n t in let y = f t in omega (arith, x, y)) in
    step r n (length es) (length (measured es n)) (length (others_than n es)) (split_length es n) (f n) i

-- no trial has more than r entries
pub few_entries : (r n : ℕ) (es : List Costed) → AreKept n r es → length es ≤ r * n
few_entries r n es l = few_from r n es l.here l.few

-- ---- fewer of each trial are fewer in all

others_case : (a b : Bool) (o : Outcome) (xs ys : List Outcome) → xs ≡ ys → cond b (o ∷ xs) xs ≡ cond b (o ∷ ys) ys
others_case a true o xs ys e = ap (λ (v : List Outcome). o ∷ v) e
others_case a false o xs ys e = e

others_same : (es : List Costed) (u t : ℕ) → u ≢ t → measured (others_than u es) t ≡ measured es t
others_same [] u t n = refl
others_same (e ∷ es) u t n = at (eqb e.trial u) refl (others_same es u t n)
  where
    not_here : eqb e.trial u ≡ true → eqb e.trial t ≡ false
    not_here q = differ e.trial t (λ z. n (sym (equal_of e.trial u q) ∙ sym z))

    at : (b : Bool) → eqb e.trial u ≡ b → measured (others_than u es) t ≡ measured es t → measured (cond b (others_than u es) (e ∷ others_than u es)) t ≡ cond (eqb e.trial t) (e.outcome ∷ measured es t) (measured es t)
    at true q i = i ∙ ap (λ (b : Bool). cond b (e.outcome ∷ measured es t) (measured es t)) (sym (not_here q))
    at false q i = others_case false (eqb e.trial t) e.outcome (measured (others_than u es) t) (measured es t) i

others_none : (es : List Costed) (t : ℕ) → measured (others_than t es) t ≡ []
others_none [] t = refl
others_none (e ∷ es) t = at (eqb e.trial t) refl (others_none es t)
  where
    at : (b : Bool) → eqb e.trial t ≡ b → measured (others_than t es) t ≡ [] → measured (cond b (others_than t es) (e ∷ others_than t es)) t ≡ []
    at true q i = i
    at false q i = ap (λ (b : Bool). cond b (e.outcome ∷ measured (others_than t es) t) (measured (others_than t es) t)) q ∙ i

pub fewer_all : (n : ℕ) (xs ys : List Costed) → All (λ d. d.trial < n) xs → ((t : ℕ) → length (measured xs t) ≤ length (measured ys t)) → length xs ≤ length ys
fewer_all zero xs ys a f = let z = none_below xs a in omega (arith, z)
fewer_all (suc n) xs ys a f =
    let i = fewer_all n (others_than n xs) (others_than n ys) (others_below xs n a) (λ t. rest t (which n t)) in
    let m = f n in
    omega (arith, i, m, split_length xs n, split_length ys n)
  where
    rest : (t : ℕ) → (n ≡ t) ⊎ (n ≢ t) → length (measured (others_than n xs) t) ≤ length (measured (others_than n ys) t)
    rest t (inl z) = let e : measured (others_than n xs) t ≡ [] = subst (λ (u : ℕ). measured (others_than n xs) u ≡ []) z (others_none xs n) in omega (arith, ap (λ (v : List Outcome). length v) e)
    rest t (inr z) = let m = f t in omega (arith, m, ap (λ (v : List Outcome). length v) (others_same xs n t z), ap (λ (v : List Outcome). length v) (others_same ys n t z))
