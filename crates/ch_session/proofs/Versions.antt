-- The news of a legal history are at least twice its versions: each version was built, and no trial completes twice.
use Rattle.std.proofs.Common.{◌≡◌, ◌≢◌, ℕ, zero, suc, ◌+◌, ◌-◌, ◌*◌, ◌<◌, ◌≤◌, Bool, true, false, cond, eqb, ◌&&◌, ◌||◌, not, List, [], ◌∷◌, ◌++◌, length, Option, Some, None, is_some, refl, sym, ap, ◌∙◌, subst, arith, ◌⊎◌, inl, inr, append_assoc, append-nil, length-append}
use Rattle.std.specs.Prelude.{filter, nat_le}
use Rattle.std.specs.List.{All, list_any}
use Rattle.std.proofs.lemmas.Bool.Decides.{nat_tests}
use Rattle.std.proofs.lemmas.List.Elements.{All-cons, All-nil}
use Rattle.ch_grid.specs.Grid.{sizes}
use Rattle.ch_grid.specs.Points.{count}
use Rattle.ch_rank.specs.declared.outcome.Outcome.{Outcome}
use Rattle.ch_rank.specs.declared.outcome.Outcome.TheVariants.{Cost}
use Rattle.ch_rank.specs.declared.outcome.Costed.{Costed}
use Rattle.ch_rank.specs.Search.{below}
use Rattle.ch_rank.specs.Ranks.{versions, versions_below}
use Rattle.ch_rank.specs.Entries.{known, measured, lesser, least_from, tally_from, outcome_with, completed, completed_now, completes, at_entries, may_enter, are_legal_after}
use Rattle.ch_rank.proofs.Legal.{legal_parts}
use Rattle.ch_rank.proofs.Growing.{entered_none}
use Rattle.ch_rank.proofs.Measuring.{completed_more, completes_none, fewer_all, known_more, known_new, known_other, least_more, measured_new}
use Rattle.ch_session.specs.declared.event.Event.{Event}
use Rattle.ch_session.specs.declared.event.Event.TheVariants.{Fetch, Report, Claim, Good, Refused, Leave}
use Rattle.ch_session.specs.History.{top, Theme, entry_of, entries, completing, completing_after, counts, names_good, is_held_by, left_after, version_now, news, may_follow, is_legal, follow}
use Rattle.ch_session.specs.Laws.{AllBelow}
use Rattle.ch_session.proofs.Events.{any_more, both, completing_more, entries_more, measured_append, same_true, differ, which}
use Rattle.ch_session.proofs.Legal.{Held, held_parts, legal_front, legal_last, equal_of, or_cases, trials_below}

-- what one more event keeps where the history is legal with it
along_legal : (P : List Event → Type 0) (th : Theme) → ((h : List Event) (e : Event) → P h → is_legal th (h ++ e ∷ []) ≡ true → P (h ++ e ∷ [])) → (h more : List Event) → P h → is_legal th (h ++ more) ≡ true → P (h ++ more)
along_legal P th step h [] p l = subst P (sym (append-nil h)) p
along_legal P th step h (e ∷ more) p l =
    let a : is_legal th ((h ++ e ∷ []) ++ more) ≡ true = subst (λ (v : List Event). is_legal th v ≡ true) (sym (append_assoc h (e ∷ []) more)) l in
    subst P (append_assoc h (e ∷ []) more) (along_legal P th step (h ++ e ∷ []) more (step h e p (legal_front th (h ++ e ∷ []) more a)) a)

-- the entry of the last event was allowed
entered_last : (th : Theme) (h : List Event) (e : Event) (c : Costed) → is_legal th (h ++ e ∷ []) ≡ true → entry_of e ≡ c ∷ [] → known th.repeat (entries h) c.trial ≡ None
entered_last th h e c l q =
    let b = both (follow th [] (h ++ e ∷ [])) (are_legal_after th.grid th.repeat [] (entries (h ++ e ∷ []))) l in
    let more : entries (h ++ e ∷ []) ≡ entries h ++ c ∷ [] = entries_more h e ∙ ap (λ (v : List Costed). entries h ++ v) q in
    let p = legal_parts th.grid th.repeat [] (entries h) (c ∷ []) (subst (λ (v : List Costed). are_legal_after th.grid th.repeat [] v ≡ true) more b.1) in
    entered_none (at_entries th.grid th.repeat (entries h)) c.trial c.outcome (both (may_enter (at_entries th.grid th.repeat (entries h)) c.trial c.outcome) true p.1).0

-- ---- what a legal history completes is what its entries complete

report_completes : (r : ℕ) (es : List Costed) (t x l : ℕ) → known r es t ≡ None → l ≡ r - (length (measured es t) + 1) →
    completes r es (record { trial = t; outcome = Cost x }) ≡ cond (eqb l 0) (record { trial = t; outcome = least_from top (measured (es ++ record { trial = t; outcome = Cost x } ∷ []) t) } ∷ []) []
report_completes r es t x l none left =
    let d : Costed = record { trial = t; outcome = Cost x } in
    let o : Outcome = lesser (least_from top (measured es t)) (Cost x) in
    let least_is : least_from top (measured (es ++ d ∷ []) t) ≡ o = ap (λ (os : List Outcome). least_from top os) (measured_new es d) ∙ least_more top (measured es t) (Cost x) in
    completes_none r es d none ∙ (ap (λ (q : Option Outcome). completed_now t None q) (known_new r es d none)
    ∙ (ap (λ (b : Bool). completed_now t None (cond b (Some o) None)) (tests r (length (measured es t)) l left)
    ∙ (one (eqb l 0) o ∙ ap (λ (q : Outcome). cond (eqb l 0) (record { trial = t; outcome = q } ∷ []) []) (sym least_is))))
  where
    tests : (a b n : ℕ) → n ≡ a - (b + 1) → nat_le (a - b) 1 ≡ eqb n 0
    tests a b n h = grind (arith, nat_tests)

    one : (b : Bool) (o : Outcome) → completed_now t None (cond b (Some o) None) ≡ cond b (record { trial = t; outcome = o } ∷ []) []
    one true o = refl
    one false o = refl

refusal_completes : (r : ℕ) (es : List Costed) (t : ℕ) → known r es t ≡ None → completes r es (record { trial = t; outcome = top }) ≡ record { trial = t; outcome = top } ∷ []
refusal_completes r es t none = completes_none r es (record { trial = t; outcome = top }) none ∙ ap (λ (q : Option Outcome). completed_now t None q) (known_new r es (record { trial = t; outcome = top }) none)

abbrev Agrees : Theme → List Event → Type 0
Agrees th h = completed th.repeat (entries h) ≡ completing_after [] h

quiet_agrees : (th : Theme) (h : List Event) (e : Event) → entry_of e ≡ [] → completing h e ≡ [] → Agrees th h → Agrees th (h ++ e ∷ [])
quiet_agrees th h e q k p =
    ap (λ (v : List Costed). completed th.repeat v) (entries_more h e ∙ (ap (λ (v : List Costed). entries h ++ v) q ∙ append-nil (entries h)))
    ∙ (p ∙ sym (completing_more h e ∙ (ap (λ (v : List Costed). completing_after [] h ++ v) k ∙ append-nil (completing_after [] h))))

entry_agrees : (th : Theme) (h : List Event) (e : Event) (c : Costed) → entry_of e ≡ c ∷ [] → completes th.repeat (entries h) c ≡ completing h e → Agrees th h → Agrees th (h ++ e ∷ [])
entry_agrees th h e c q k p =
    ap (λ (v : List Costed). completed th.repeat v) (entries_more h e ∙ ap (λ (v : List Costed). entries h ++ v) q)
    ∙ (completed_more th.repeat (entries h) c ∙ (ap (λ (v : List Costed). v ++ completes th.repeat (entries h) c) p ∙ (ap (λ (v : List Costed). completing_after [] h ++ v) k ∙ sym (completing_more h e))))

left_is : (th : Theme) (h : List Event) (c t j x l : ℕ) → is_legal th (h ++ Report c t j x l ∷ []) ≡ true → l ≡ left_after th h t
left_is th h c t j x l w = equal_of l (left_after th h t) (both (is_held_by th h c t) (eqb l (left_after th h t)) (legal_last th h (Report c t j x l) w)).1

agrees_step : (th : Theme) (h : List Event) (e : Event) → Agrees th h → is_legal th (h ++ e ∷ []) ≡ true → Agrees th (h ++ e ∷ [])
agrees_step th h (Fetch c o v) p w = quiet_agrees th h (Fetch c o v) refl refl p
agrees_step th h (Report c t j x l) p w = entry_agrees th h (Report c t j x l) (record { trial = t; outcome = Cost x }) refl (report_completes th.repeat (entries h) t x l (entered_last th h (Report c t j x l) (record { trial = t; outcome = Cost x }) w refl) (left_is th h c t j x l w)) p
agrees_step th h (Claim b t) p w = quiet_agrees th h (Claim b t) refl refl p
agrees_step th h (Good b t) p w = quiet_agrees th h (Good b t) refl refl p
agrees_step th h (Refused b t r) p w = entry_agrees th h (Refused b t r) (record { trial = t; outcome = top }) refl (refusal_completes th.repeat (entries h) t (entered_last th h (Refused b t r) (record { trial = t; outcome = top }) w refl)) p
agrees_step th h (Leave c t) p w = quiet_agrees th h (Leave c t) refl refl p

pub agrees : (th : Theme) (h : List Event) → is_legal th h ≡ true → completed th.repeat (entries h) ≡ completing_after [] h
agrees th h l = along_legal (Agrees th) th (agrees_step th) [] h refl l

-- ---- good builds and last reports, counted by trial

abbrev gathered : (Event → List Costed) → List Event → List Costed
gathered f [] = []
gathered f (e ∷ h) = f e ++ gathered f h

gathered_more : (f : Event → List Costed) (h : List Event) (e : Event) → gathered f (h ++ e ∷ []) ≡ gathered f h ++ f e
gathered_more f [] e = append-nil (f e)
gathered_more f (x ∷ h) e = ap (λ (v : List Costed). f x ++ v) (gathered_more f h e) ∙ sym (append_assoc (f x) (gathered f h) (f e))

abbrev of_trial : ℕ → List Costed
of_trial t = record { trial = t; outcome = top } ∷ []

abbrev good : Event → List Costed
good (Good b t) = of_trial t
good (Fetch c o v) = []
good (Report c t j x l) = []
good (Claim b t) = []
good (Refused b t r) = []
good (Leave c t) = []

-- the report that completes a trial
abbrev final : Event → List Costed
final (Report c t j x l) = cond (eqb l 0) (of_trial t) []
final (Good b t) = []
final (Fetch c o v) = []
final (Claim b t) = []
final (Refused b t r) = []
final (Leave c t) = []

abbrev times : (Event → List Costed) → ℕ → List Event → ℕ
times f t h = length (measured (gathered f h) t)

times_more : (f : Event → List Costed) (t : ℕ) (h : List Event) (e : Event) → times f t (h ++ e ∷ []) ≡ times f t h + length (measured (f e) t)
times_more f t h e = ap (λ (v : List Costed). length (measured v t)) (gathered_more f h e) ∙ (ap (λ (v : List Outcome). length v) (measured_append (gathered f h) (f e) t) ∙ length-append (measured (gathered f h) t) (measured (f e) t))

good_counted : (t : ℕ) (h : List Event) → list_any (names_good t) h ≡ true → 1 ≤ times good t h
good_counted t [] e = absurd (cc)
good_counted t (x ∷ h) e = at x (or_cases (names_good t x) (list_any (names_good t) h) e) (good_counted t h)
  where
    long : (y : Event) → length (measured (good y ++ gathered good h) t) ≡ length (measured (good y) t) + times good t h
    long y = ap (λ (v : List Outcome). length v) (measured_append (good y) (gathered good h) t) ∙ length-append (measured (good y) t) (measured (gathered good h) t)

    one : (y : Event) → names_good t y ≡ true → length (measured (good y) t) ≡ 1
    one (Good b u) k = ap (λ (q : Bool). length (cond q (top ∷ []) [])) k
    one (Fetch c o v) k = absurd (cc)
    one (Report c u j z l) k = absurd (cc)
    one (Claim b u) k = absurd (cc)
    one (Refused b u r) k = absurd (cc)
    one (Leave c u) k = absurd (cc)

    at : (y : Event) → (names_good t y ≡ true) ⊎ (list_any (names_good t) h ≡ true) → (list_any (names_good t) h ≡ true → 1 ≤ times good t h) → 1 ≤ length (measured (good y ++ gathered good h) t)
    at y (inl k) f = omega (arith, long y, one y k)
    at y (inr k) f = let i = f k in omega (arith, long y, i)

-- each trial has no more last reports than good builds, and none while it has no outcome
record Counted (th : Theme) (h : List Event) (t : ℕ) : Type 0 where
  few : times final t h ≤ times good t h
  none : known th.repeat (entries h) t ≡ None → times final t h ≡ 0

none_before : (th : Theme) (h : List Event) (e : Event) (t : ℕ) → is_legal th (h ++ e ∷ []) ≡ true → known th.repeat (entries (h ++ e ∷ [])) t ≡ None → known th.repeat (entries h) t ≡ None
none_before th h e t w n = at (entry_of e) refl (known th.repeat (entries h) t) refl
  where
    at : (es : List Costed) → entry_of e ≡ es → (o : Option Outcome) → known th.repeat (entries h) t ≡ o → known th.repeat (entries h) t ≡ None
    at es q None k = k
    at [] q (Some o) k =
        let s : known th.repeat (entries (h ++ e ∷ [])) t ≡ Some o = ap (λ (v : List Costed). known th.repeat v t) (entries_more h e ∙ (ap (λ (v : List Costed). entries h ++ v) q ∙ append-nil (entries h))) ∙ k in
        absurd (clash (known th.repeat (entries (h ++ e ∷ [])) t) o s n)
      where
        clash : (x : Option Outcome) (o : Outcome) → x ≡ Some o → x ≡ None → ⊥
        clash x o a b = cc
    at (c ∷ []) q (Some o) k =
        let s : known th.repeat (entries (h ++ e ∷ [])) t ≡ Some o = ap (λ (v : List Costed). known th.repeat v t) (entries_more h e ∙ ap (λ (v : List Costed). entries h ++ v) q) ∙ known_more th.repeat (entries h) c t o (entered_last th h e c w q) k in
        absurd (clash (known th.repeat (entries (h ++ e ∷ [])) t) o s n)
      where
        clash : (x : Option Outcome) (o : Outcome) → x ≡ Some o → x ≡ None → ⊥
        clash x o a b = cc
    at (c ∷ d ∷ es) q (Some o) k = absurd (two e c d es q)
      where
        two : (y : Event) (c d : Costed) (es : List Costed) → entry_of y ≡ c ∷ d ∷ es → ⊥
        two (Good b u) c d es q = cc
        two (Fetch x o v) c d es q = cc
        two (Report x u j z l) c d es q = cc
        two (Claim b u) c d es q = cc
        two (Refused b u r) c d es q = cc
        two (Leave x u) c d es q = cc

quiet_counted : (th : Theme) (h : List Event) (e : Event) (t : ℕ) → is_legal th (h ++ e ∷ []) ≡ true → measured (final e) t ≡ [] → Counted th h t → Counted th (h ++ e ∷ []) t
quiet_counted th h e t w q k = record {
  few = let f = k.few in omega (arith, times_more final t h e, times_more good t h e, ap (λ (v : List Outcome). length v) q, f);
  none = λ n. let z = k.none (none_before th h e t w n) in omega (arith, times_more final t h e, ap (λ (v : List Outcome). length v) q, z);
}

counted_step : (th : Theme) (h : List Event) (e : Event) → ((t : ℕ) → Counted th h t) → is_legal th (h ++ e ∷ []) ≡ true → (t : ℕ) → Counted th (h ++ e ∷ []) t
counted_step th h (Fetch c o v) p w t = quiet_counted th h (Fetch c o v) t w refl (p t)
counted_step th h (Claim b u) p w t = quiet_counted th h (Claim b u) t w refl (p t)
counted_step th h (Good b u) p w t = quiet_counted th h (Good b u) t w refl (p t)
counted_step th h (Refused b u r) p w t = quiet_counted th h (Refused b u r) t w refl (p t)
counted_step th h (Leave c u) p w t = quiet_counted th h (Leave c u) t w refl (p t)
counted_step th h (Report c u j x l) p w t = at (eqb l 0) refl (which u t)
  where
    at : (b : Bool) → eqb l 0 ≡ b → (u ≡ t) ⊎ (u ≢ t) → Counted th (h ++ Report c u j x l ∷ []) t
    at false q s = quiet_counted th h (Report c u j x l) t w (ap (λ (b : Bool). measured (cond b (of_trial u) []) t) q) (p t)
    at true q (inr n) = quiet_counted th h (Report c u j x l) t w (ap (λ (b : Bool). measured (cond b (of_trial u) []) t) q ∙ ap (λ (b : Bool). cond b (top ∷ []) []) (differ u t n)) (p t)
    at true q (inl z) = subst (λ (v : ℕ). Counted th (h ++ Report c u j x l ∷ []) v) z (own q)
      where
        own : eqb l 0 ≡ true → Counted th (h ++ Report c u j x l ∷ []) u
        own q =
            let m = both (is_held_by th h c u) (eqb l (left_after th h u)) (legal_last th h (Report c u j x l) w) in
            let held = held_parts th h c u m.0 in
            let g = good_counted u h held.good in
            let zero_before = (p u).none held.none in
            let added : length (measured (final (Report c u j x l)) u) ≡ 1 = ap (λ (b : Bool). length (measured (cond b (of_trial u) []) u)) q ∙ ap (λ (b : Bool). length (cond b (top ∷ []) [])) (same_true u) in
            record {
              few = omega (arith, times_more final u h (Report c u j x l), times_more good u h (Report c u j x l), zero_before, added, g);
              none = λ n. absurd (has_outcome n);
            }
          where
            last : (a b n : ℕ) → n ≡ a - (b + 1) → eqb n 0 ≡ true → nat_le (a - b) 1 ≡ true
            last a b n f k = grind (arith, nat_tests)

            clash : (y : Option Outcome) (o : Outcome) → y ≡ Some o → y ≡ None → ⊥
            clash y o a b = cc

            has_outcome : known th.repeat (entries (h ++ Report c u j x l ∷ [])) u ≡ None → ⊥
            has_outcome n =
                let none = entered_last th h (Report c u j x l) (record { trial = u; outcome = Cost x }) w refl in
                let k : nat_le (th.repeat - length (measured (entries h) u)) 1 ≡ true = last th.repeat (length (measured (entries h) u)) l (left_is th h c u j x l w) q in
                clash (known th.repeat (entries (h ++ Report c u j x l ∷ [])) u) (lesser (least_from top (measured (entries h) u)) (Cost x))
                (ap (λ (v : List Costed). known th.repeat v u) (entries_more h (Report c u j x l))
                ∙ (known_new th.repeat (entries h) (record { trial = u; outcome = Cost x }) none
                ∙ ap (λ (b : Bool). cond b (Some (lesser (least_from top (measured (entries h) u)) (Cost x))) None) k)) n

counted : (th : Theme) (h : List Event) → is_legal th h ≡ true → (t : ℕ) → Counted th h t
counted th h l = along_legal (λ (v : List Event). (t : ℕ) → Counted th v t) th (λ g e p w. counted_step th g e p w) [] h (λ t. record { few = omega arith; none = λ n. refl }) l

finals_below : (n : ℕ) (h : List Event) → AllBelow n h → All (λ e. e.trial < n) (gathered final h)
finals_below n [] a = All-nil (λ (e : Costed). e.trial < n)
finals_below n (Report c t j x l ∷ h) a = at (eqb l 0) (finals_below n h a.1)
  where
    at : (b : Bool) → All (λ e. e.trial < n) (gathered final h) → All (λ e. e.trial < n) (cond b (of_trial t) [] ++ gathered final h)
    at true r = All-cons (λ (e : Costed). e.trial < n) (record { trial = t; outcome = top }) (gathered final h) a.0 r
    at false r = r
finals_below n (Good b t ∷ h) a = finals_below n h a.1
finals_below n (Fetch c o v ∷ h) a = finals_below n h a.1
finals_below n (Claim b t ∷ h) a = finals_below n h a.1
finals_below n (Refused b t r ∷ h) a = finals_below n h a.1
finals_below n (Leave c t ∷ h) a = finals_below n h a.1

goods_counted : (h : List Event) → length (gathered good h) ≤ length (filter counts h)
goods_counted [] = omega arith
goods_counted (Good b t ∷ h) = let i = goods_counted h in omega (arith, i)
goods_counted (Leave c t ∷ h) = let i = goods_counted h in omega (arith, i)
goods_counted (Report c t j x l ∷ h) = at (not (eqb l 0)) (goods_counted h)
  where
    at : (b : Bool) → length (gathered good h) ≤ length (filter counts h) → length (gathered good h) ≤ length (cond b (Report c t j x l ∷ filter counts h) (filter counts h))
    at true i = omega (arith, i)
    at false i = i
goods_counted (Refused b t r ∷ h) = goods_counted h
goods_counted (Fetch c o v ∷ h) = goods_counted h
goods_counted (Claim b t ∷ h) = goods_counted h

-- only a last report makes a version
versions_final : (before h : List Event) (o : Outcome) → length (versions_below o (completing_after before h)) ≤ length (gathered final h)
versions_final before [] o = omega arith
versions_final before (Report c t j x l ∷ h) o = at (eqb l 0) (least_from top (measured (entries before ++ record { trial = t; outcome = Cost x } ∷ []) t)) (versions_final (before ++ Report c t j x l ∷ []) h)
  where
    pick : (b : Bool) (d : Costed) → ((p : Outcome) → length (versions_below p (completing_after (before ++ Report c t j x l ∷ []) h)) ≤ length (gathered final h)) → length (cond b (d ∷ versions_below d.outcome (completing_after (before ++ Report c t j x l ∷ []) h)) (versions_below o (completing_after (before ++ Report c t j x l ∷ []) h))) ≤ suc (length (gathered final h))
    pick true d f = let i = f d.outcome in omega (arith, i)
    pick false d f = let i = f o in omega (arith, i)

    at : (b : Bool) (q : Outcome) → ((p : Outcome) → length (versions_below p (completing_after (before ++ Report c t j x l ∷ []) h)) ≤ length (gathered final h)) → length (versions_below o (cond b (record { trial = t; outcome = q } ∷ []) [] ++ completing_after (before ++ Report c t j x l ∷ []) h)) ≤ length (cond b (of_trial t) [] ++ gathered final h)
    at true q f = pick (below q o) (record { trial = t; outcome = q }) f
    at false q f = f o
versions_final before (Refused b t r ∷ h) o = versions_final (before ++ Refused b t r ∷ []) h o
versions_final before (Good b t ∷ h) o = versions_final (before ++ Good b t ∷ []) h o
versions_final before (Fetch c p v ∷ h) o = versions_final (before ++ Fetch c p v ∷ []) h o
versions_final before (Claim b t ∷ h) o = versions_final (before ++ Claim b t ∷ []) h o
versions_final before (Leave c t ∷ h) o = versions_final (before ++ Leave c t ∷ []) h o

pub news_twice : (th : Theme) (h : List Event) → is_legal th h ≡ true → 2 * version_now th h ≤ news h
news_twice th h l =
    let same : version_now th h ≡ length (versions (completing_after [] h)) = ap (λ (v : List Costed). length (versions v)) (agrees th h l) in
    let v = versions_final [] h top in
    let f = fewer_all (count (sizes th.grid)) (gathered final h) (gathered good h) (finals_below (count (sizes th.grid)) h (trials_below th h l)) (λ t. (counted th h l t).few) in
    let g = goods_counted h in
    omega (arith, same, v, f, g)
