-- The steps of a turn keep the rule: a ticket is drawn, SERVING is looked at, NEWS is stored, SERVING is raised.
use Rattle.std.proofs.Common.{◌≡◌, ◌≢◌, ℕ, ◌+◌, ◌-◌, ◌%◌, ◌^◌, ◌<◌, ◌≤◌, true, eqb, List, [], ◌∷◌, ◌++◌, length, set, get_or, sym, refl, ap, ◌∙◌, subst, arith, Option, Some, All, drop, length-set, append-nil, le_trans}
use Rattle.std.proofs.Math.Nat.{mod-eq_of_lt}
use Rattle.std.proofs.lemmas.Bool.{eqb-true, eq-eqb}
use Rattle.std.proofs.lemmas.List.Elements.{filter-append, All-append}
use Rattle.std.specs.List.{sum_by}
use Rattle.std.proofs.Math.Seq.{drop-append_seam}
use mathlib.Core.Logic.{dite}
use mathlib.Core.Option.{none, some, some-injective, some-ne-none}
use mathlib.Core.Option as maybe
use native.Mathlib.Decide.{ℕ_discrete}
use lib.ListN.{get_elem?}
use Rattle.atomic_table.specs.Table.{State, Me, step, keeps, takes, gives, Allows, put_back}
use Rattle.atomic_table.proofs.Lists.{set_here}
use Rattle.ch_turn.specs.declared.view.View.{View}
use Rattle.ch_turn.specs.declared.view.Stage.{Stage}
use Rattle.ch_turn.specs.declared.view.Stage.TheVariants.{Idle, Waiting, Served, Leaving}
use Rattle.ch_turn.specs.Holdings.{has_number, entries_of, HasSomeNumber}
use Rattle.ch_turn.specs.History.{IsPrefix, AddsOwn}
use Rattle.ch_turn.specs.Views.{is_ticket, list_taken, holds_ticket, holds_number, left_of, at_stage, view_after_turn}
use Rattle.ch_turn.specs.Rule.{Phase, home, served, leaving, StageFits, Knows, ValueAt, TurnRule}
use Rattle.ch_turn.specs.Plays.{Draws, Looks, TellsNews, Raises}
use Rattle.ch_turn.proofs.Views.{sum_by-set, sum_by-has, set_at, each_view-set, HeldOnce-set, OnlyAt-less, AllDrawn-set, AllDrawn-raise}
use Rattle.ch_turn.proofs.Numbers.{has_number-with_entries, own_entries-with_entries, entries_of-other}
use Rattle.ch_turn.proofs.Prefixes.{IsPrefix-append}
use Rattle.ch_turn.proofs.Once.{IsOnceEach-with_entries}
use Rattle.ch_turn.proofs.Places.{ValueAt-set, Knows-draw, ticket_below, unmoved, StageFits-take, StageFits-tell, StageFits-raise, home_if_waiting, served_at, leaving_at}

module _ {E V : Type 0} (list : V → List E) (by : E → ℕ) (news : List E → ℕ) (kin : V → Type 0) (turns : ℕ) where
  abbrev D : Type 0
  D = View E

  abbrev St : Type 0
  St = State (Option V) D

  abbrev M : Type 0
  M = Me (Option V) D

  abbrev Rule : St → Type 0
  Rule = TurnRule list by news kin turns

  pub draw_allowed : (slots id : ℕ) (me : M) → me.0.stage ≡ Idle → 0 < me.0.left → HasSomeNumber me.0.holdings → Allows Rule slots id me 0 (λ n. (n + 1) % 2 ^ 64) (Draws (step slots 0 1 0 none) me)
  draw_allowed slots id me is some_left one s r _ at _ =
      let n : ℕ = r.next_ticket in
      let v : D = me.0 in
      let w : D = record v { stage = Waiting n; left = v.left - 1 } in
      let most : v.left ≤ sum_by left_of s.views = sum_by-has left_of s.views id v at in
      let put : sum_by left_of (set s.views id w) + v.left ≡ sum_by left_of s.views + (v.left - 1) = sum_by-set left_of s.views id v w at in
      let room = r.room in
      let small = r.small in
      let here : get_or s.words 0 0 ≡ n = ap (λ (l : List ℕ). get_or l 0 0) r.words in
      let next : (get_or s.words 0 0 + 1) % 2 ^ 64 ≡ n + 1 = ap (λ (z : ℕ). (z + 1) % 2 ^ 64) here ∙ mod-eq_of_lt (omega arith) in (
        w,
        keeps,
        tt,
        record {
          published = r.published;
          phase = r.phase;
          next_ticket = n + 1;
          now_serving = r.now_serving;
          news_word = r.news_word;
          words = (λ i. set (r.words i) 0 (next i));
          deep = r.deep;
          behind = let b = r.behind in omega arith;
          room = omega arith;
          small = r.small;
          place = ValueAt-set list by news kin turns r.news_word r.published s.homes s.views id v w at (λ t l e. absurd (cc)) (λ t l m e. absurd (cc)) r.phase r.place;
          each_seat = each_view-set (Knows by r.now_serving (n + 1) r.news_word r.published r.phase) s.views id w
              (let k = r.each_seat id v at in record { seen = k.seen; own = k.own; once = k.once; reads = k.reads; merged = k.merged; stage = (let b = r.behind in b, omega arith, one) })
              (λ j d _ e. Knows-draw list by news kin turns r.now_serving n r.news_word r.published r.phase j d (r.each_seat j d e));
          tickets = HeldOnce-set holds_ticket s.views id w r.tickets (λ x h k e ne at_k has_k. let same = eqb-true x n h in let low = ticket_below list by news kin turns r.now_serving n r.published r.phase k e.holdings e.stage (r.each_seat k e at_k).stage x has_k in omega arith);
          numbers = HeldOnce-set holds_number s.views id w r.numbers (OnlyAt-less holds_number s.views id v w at r.numbers (λ x h. h));
          drawn = (λ x low high. dite (ℕ_discrete x n) (λ e. (id, w, set_at s.views id v w at, eq-eqb x n e)) (λ ne. AllDrawn-set r.now_serving n s.views id v w at (λ y h. absurd (let none : is_ticket {E = E} y Idle ≡ true = subst (λ (z : Stage E). is_ticket y z ≡ true) is h in cc)) r.drawn x low (omega arith)));
          marked = r.marked;
        },
        (refl, ap (λ (z : ℕ). record v { stage = Waiting z; left = v.left - 1 }) (sym here), omega arith),
      )

  pub look_allowed : (told_kin : V → Type 0) → ((x : V) → kin x → told_kin x) → (slots id : ℕ) (me : M) (t : ℕ) → me.0.stage ≡ Waiting t → Allows Rule slots id me 1 (λ n. n) (Looks list by news told_kin (step slots 1 0 0 none) me)
  look_allowed told_kin tells_kin slots id me t is s r _ at _ =
      let v : D = me.0 in
      let here : get_or s.words 1 0 ≡ r.now_serving = ap (λ (l : List ℕ). get_or l 1 0) r.words in
      let same_ticket : (t' : ℕ) → v.stage ≡ Waiting t' → t' ≡ t = λ t' e. let both : Waiting t' ≡ Waiting t = sym e ∙ is in cc in
      dite (ℕ_discrete r.now_serving t)
      (λ hit.
      let ph : r.phase ≡ home = home_if_waiting list by news kin turns s r id t v at is hit r.phase refl r.place in
      let pl : ValueAt list news kin r.news_word r.published s.homes s.views home = subst (ValueAt list news kin r.news_word r.published s.homes s.views) ph r.place in
      let x : V = pl.1.0 in
      let k = r.each_seat id v at in
      let st = subst (StageFits by r.now_serving r.next_ticket r.published r.phase id v.holdings) is k.stage in
      let w : D = at_stage v (Served t (list x)) in (
        w,
        takes 0 (Some x),
        pl.1.1,
        record {
          published = r.published;
          phase = served id;
          next_ticket = r.next_ticket;
          now_serving = r.now_serving;
          news_word = r.news_word;
          words = (λ i. set (r.words i) 1 (here i));
          deep = length-set s.homes 0 maybe.none ∙ r.deep;
          behind = r.behind;
          room = let put = sum_by-set left_of s.views id v w at in let room = r.room in omega arith;
          small = r.small;
          place = (pl.0, (w, t, set_at s.views id v w at, ap (Served t) pl.1.2));
          each_seat = each_view-set (Knows by r.now_serving r.next_ticket r.news_word r.published (served id)) s.views id w
              (record { seen = k.seen; own = k.own; once = k.once; reads = k.reads; merged = k.merged; stage = (sym hit, st.1, st.2, pl.1.2, refl) })
              (λ j d _ e. let k = r.each_seat j d e in record { seen = k.seen; own = k.own; once = k.once; reads = k.reads; merged = k.merged; stage = StageFits-take list by news kin turns r.now_serving r.next_ticket r.published id j d.holdings d.stage (subst (λ (z : Phase E). StageFits by r.now_serving r.next_ticket r.published z j d.holdings d.stage) ph k.stage) });
          tickets = HeldOnce-set holds_ticket s.views id w r.tickets (OnlyAt-less holds_ticket s.views id v w at r.tickets (λ y h. ap (is_ticket y) is ∙ h));
          numbers = HeldOnce-set holds_number s.views id w r.numbers (OnlyAt-less holds_number s.views id v w at r.numbers (λ y h. h));
          drawn = AllDrawn-set r.now_serving r.next_ticket s.views id v w at (λ n h. subst (λ (z : Stage E). is_ticket n z ≡ true) is h) r.drawn;
          marked = r.marked;
        },
        (λ t' e. let same = same_ticket t' e in (
          (λ _. (
            x,
            refl,
            ap (λ (z : ℕ). at_stage v (Served z (list x))) (sym same),
            subst (IsPrefix v.seen) (sym pl.1.2) k.seen,
            (λ i d l. let one = k.reads i d l in let n : r.news_word ≡ news (list x) = pl.0 ∙ ap news (sym pl.1.2) in omega arith),
            (λ n h. ap (entries_of by n) pl.1.2 ∙ k.own n h),
            tells_kin x pl.1.3,
            subst (All (λ e. by e < 65536)) (sym pl.1.2) r.marked,
          )),
          (λ ne. absurd (ne (here ∙ (hit ∙ sym same)))),
        )),
      ))
      (λ miss. (
        v,
        keeps,
        tt,
        unmoved list by news kin turns s r 1 id me.1 v at,
        (λ t' e. ((λ yes. absurd (miss (sym here ∙ (yes ∙ same_ticket t' e)))), (λ _. refl))),
      ))

  module _ (grow : (xs ys : List E) → news xs ≤ news (xs ++ ys)) where
    pub tell_allowed : (slots id : ℕ) (me : M) (t : ℕ) (l m : List E) (n : ℕ) → me.0.stage ≡ Served t l → AddsOwn by me.0.holdings l m → n ≡ news m
        → Allows Rule slots id me 2 (λ _. n) (λ _. TellsNews m (step slots 2 n 0 none) me n)
    tell_allowed slots id me t l m n is grows told_is s r _ at _ =
        let v : D = me.0 in
        let k = r.each_seat id v at in
        let st = subst (StageFits by r.now_serving r.next_ticket r.published r.phase id v.holdings) is k.stage in
        let pl = served_at list by news kin turns s r id v at t l is in
        let w : D = at_stage v (Leaving t l m) in
        let rises : news l ≤ news m = subst (λ (z : List E). news l ≤ news z) (sym grows.3.1) (grow l grows.3.0) in
        let was : r.news_word ≡ news l = pl.0 ∙ ap news (sym st.3) in
        let more : r.news_word ≤ news m = omega arith in (
          w,
          keeps,
          tt,
          record {
            published = r.published;
            phase = leaving id m;
            next_ticket = r.next_ticket;
            now_serving = r.now_serving;
            news_word = news m;
            words = (λ i. set (r.words i) 2 (told_is i));
            deep = r.deep;
            behind = r.behind;
            room = let put = sum_by-set left_of s.views id v w at in let room = r.room in omega arith;
            small = r.small;
            place = (refl, (w, t, set_at s.views id v w at, ap (λ (z : List E). Leaving t z m) st.3));
            each_seat = each_view-set (Knows by r.now_serving r.next_ticket (news m) r.published (leaving id m)) s.views id w
                (record { seen = k.seen; own = k.own; once = k.once; reads = (λ i d lt. le_trans (k.reads i d lt) more); merged = k.merged; stage = (st.0, st.1, st.2, st.3, refl, grows) })
                (λ j d ne e. let k = r.each_seat j d e in record {
                  seen = k.seen;
                  own = k.own;
                  once = k.once;
                  reads = (λ i d lt. le_trans (k.reads i d lt) more);
                  merged = k.merged;
                  stage = StageFits-tell list by news kin turns r.now_serving r.next_ticket r.published m id j ne d.holdings d.stage (subst (λ (z : Phase E). StageFits by r.now_serving r.next_ticket r.published z j d.holdings d.stage) st.4 k.stage);
                });
            tickets = HeldOnce-set holds_ticket s.views id w r.tickets (OnlyAt-less holds_ticket s.views id v w at r.tickets (λ y h. ap (is_ticket y) is ∙ h));
            numbers = HeldOnce-set holds_number s.views id w r.numbers (OnlyAt-less holds_number s.views id v w at r.numbers (λ y h. h));
            drawn = AllDrawn-set r.now_serving r.next_ticket s.views id v w at (λ n h. subst (λ (z : Stage E). is_ticket n z ≡ true) is h) r.drawn;
            marked = r.marked;
          },
          (refl, (λ t' l' e. let both : Served t' l' ≡ Served t l = sym e ∙ is in let a : t' ≡ t = cc in ap (λ (z : ℕ × List E). at_stage v (Leaving z.0 z.1 m)) (let b : l' ≡ l = cc in λ i. (sym a i, sym b i)))),
        )

  pub raise_allowed : (slots id : ℕ) (me : M) (t : ℕ) (l m : List E) (x : V) → me.0.stage ≡ Leaving t l m → me.1 ≡ (0, Some x) ∷ [] → list x ≡ m → kin x
      → Allows Rule slots id me 1 (λ n. (n + 1) % 2 ^ 64) (Raises by (step slots 1 1 0 none) me)
  raise_allowed slots id me t l m x is hand stands kindred s r _ at _ =
      let v : D = me.0 in
      let k = r.each_seat id v at in
      let st = subst (StageFits by r.now_serving r.next_ticket r.published r.phase id v.holdings) is k.stage in
      let pl = leaving_at list by news kin turns s r id v at t l m is in
      let grows = st.5 in
      let more : List E = drop (length (list_taken v.stage)) m in
      let w : D = view_after_turn by m v in
      let here : get_or s.words 1 0 ≡ r.now_serving = ap (λ (l : List ℕ). get_or l 1 0) r.words in
      let room = r.room in
      let small = r.small in
      let next : (get_or s.words 1 0 + 1) % 2 ^ 64 ≡ r.now_serving + 1 = ap (λ (z : ℕ). (z + 1) % 2 ^ 64) here ∙ mod-eq_of_lt (omega arith) in
      let longer_is : m ≡ r.published ++ grows.3.0 = grows.3.1 ∙ ap (λ (z : List E). z ++ grows.3.0) st.3 in
      let more_is : more ≡ grows.3.0 = ap (λ (z : Stage E). drop (length (list_taken z)) m) is ∙ (ap (drop (length l)) grows.3.1 ∙ drop-append_seam l grows.3.0) in
      let mine : holds_ticket r.now_serving v ≡ true = ap (is_ticket r.now_serving) is ∙ eq-eqb r.now_serving t (sym st.0) in (
        w,
        gives,
        tt,
        record {
          published = m;
          phase = home;
          next_ticket = r.next_ticket;
          now_serving = r.now_serving + 1;
          news_word = r.news_word;
          words = (λ i. set (r.words i) 1 (next i));
          deep = subst (λ (c : List (ℕ × Option V)). length (put_back s.homes c) ≡ 1) (sym hand) (length-set s.homes 0 (some (Some x)) ∙ r.deep);
          behind = omega arith;
          room = let put = sum_by-set left_of s.views id v w at in omega arith;
          small = r.small;
          place = (pl.0, (x, subst (λ (c : List (ℕ × Option V)). get_elem? (put_back s.homes c) 0 ≡ some (some (Some x))) (sym hand) (let deep = r.deep in set_here s.homes 0 (some (Some x)) (omega arith)), stands, kindred));
          each_seat = each_view-set (Knows by (r.now_serving + 1) r.next_ticket r.news_word m home) s.views id w
              (record {
                seen = ([], sym (append-nil m));
                own = (λ n h. let old : has_number n v.holdings ≡ true = sym (has_number-with_entries by more n v.holdings) ∙ h in
                    ap (entries_of by n) longer_is ∙ (filter-append (λ (a : E). eqb (by a) n) r.published grows.3.0 ∙ ((λ i. k.own n old i ++ entries_of by n (sym more_is i)) ∙ sym (own_entries-with_entries by more n v.holdings old))));
                once = IsOnceEach-with_entries by more v.holdings k.once;
                reads = k.reads;
                merged = (m, refl);
                stage = tt;
              })
              (λ j d ne e. let k = r.each_seat j d e in record {
                seen = subst (IsPrefix d.seen) (sym longer_is) (IsPrefix-append d.seen r.published grows.3.0 k.seen);
                own = (λ n h. let other : n ≢ grows.0 = λ (same : n ≡ grows.0). ne (r.numbers n j id d v e at h (subst (λ (z : ℕ). has_number z v.holdings ≡ true) (sym same) grows.2)) in
                    ap (entries_of by n) longer_is ∙ (filter-append (λ (a : E). eqb (by a) n) r.published grows.3.0 ∙ (ap (λ z. entries_of by n r.published ++ z) (entries_of-other by grows.0 n other grows.3.0 grows.3.2) ∙ (append-nil (entries_of by n r.published) ∙ k.own n h))));
                once = k.once;
                reads = k.reads;
                merged = k.merged;
                stage = StageFits-raise list by news kin turns r.now_serving r.next_ticket r.published m id j ne d.holdings d.stage (λ h. ne (r.tickets r.now_serving j id d v e at h mine)) (subst (λ (z : Phase E). StageFits by r.now_serving r.next_ticket r.published z j d.holdings d.stage) st.4 k.stage);
              });
          tickets = HeldOnce-set holds_ticket s.views id w r.tickets (OnlyAt-less holds_ticket s.views id v w at r.tickets (λ y h. absurd (cc)));
          numbers = HeldOnce-set holds_number s.views id w r.numbers (OnlyAt-less holds_number s.views id v w at r.numbers (λ y h. sym (has_number-with_entries by more y v.holdings) ∙ h));
          drawn = AllDrawn-raise r.now_serving r.next_ticket s.views id v w at (λ n h. let e : n ≡ t = eqb-true n t (subst (λ (z : Stage E). is_ticket n z ≡ true) is h) in e ∙ st.0) r.drawn;
          marked = subst (All (λ e. by e < 65536)) (sym longer_is) (All-append (λ e. by e < 65536) r.published grows.3.0 r.marked (λ i d lt. let one : by (get_or grows.3.0 i d) ≡ grows.0 = grows.3.2 i d lt in let few = grows.1 in omega arith));
        },
        (refl, (λ t' l' m' e. let both : Leaving t' l' m' ≡ Leaving t l m = sym e ∙ is in let a : m' ≡ m = cc in ap (λ (z : List E). view_after_turn by z v) (sym a))),
      )
