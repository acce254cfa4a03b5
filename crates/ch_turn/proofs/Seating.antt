-- Splits and joins of seats keep the rule.
use Rattle.std.proofs.Common.{◌≡◌, ◌≢◌, ℕ, ◌≤◌, ◌⊎◌, Bool, true, false, List, [], ◌∷◌, ◌++◌, set, sym, refl, ◌∙◌, subst, inl, inr, ⊎_elim, arith, Option}
use Rattle.std.proofs.lemmas.Bool.{eq-eqb}
use Rattle.std.proofs.lemmas.List.Elements.{All-append}
use Rattle.std.proofs.lemmas.List.Sums.{sum_by-cons, sum_by-append}
use Rattle.std.specs.List.{sum_by}
use mathlib.Core.Option.{none, some}
use lib.ListN.{get_elem?}
use Rattle.atomic_table.specs.Table.{State, Me, step, keeps, Allows, Splits, Joins}
use Rattle.atomic_table.proofs.Lists.{at_set, set_else}
use Rattle.ch_turn.specs.declared.view.View.{View}
use Rattle.ch_turn.specs.declared.view.Stage.{Stage}
use Rattle.ch_turn.specs.declared.view.Stage.TheVariants.{Idle}
use Rattle.ch_turn.specs.Holdings.{has_number, own_entries, without_number, entries_of}
use Rattle.ch_turn.specs.Views.{is_ticket, holds_ticket, holds_number, left_of, spent_view, view_after_split, view_split_off, joined_view}
use Rattle.ch_turn.specs.Rule.{StageFits, Knows, HeldOnce, TurnRule}
use Rattle.ch_turn.specs.Plays.{Settles}
use Rattle.ch_turn.proofs.Views.{sum_by-set, sum_by-has, each_view-set, each_view-snoc, HeldOnce-snoc, HeldOnce-set, OnlyAt-less, AllDrawn-set, AllDrawn-snoc}
use Rattle.ch_turn.proofs.Numbers.{has_number-append, has_number-of_without, own_entries-without, own_entries-append_left, own_entries-append_right, one_number}
use Rattle.ch_turn.proofs.Prefixes.{IsPrefix-longer}
use Rattle.ch_turn.proofs.Once.{IsOnceEach-without, IsOnceEach-append}
use Rattle.ch_turn.proofs.Places.{ValueAt-set, ValueAt-snoc, unmoved}

module _ {E V : Type 0} (list : V → List E) (by : E → ℕ) (news : List E → ℕ) (kin : V → Type 0) (turns : ℕ) where
  abbrev D : Type 0
  D = View E

  abbrev St : Type 0
  St = State (Option V) D

  abbrev M : Type 0
  M = Me (Option V) D

  abbrev Rule : St → Type 0
  Rule = TurnRule list by news kin turns

  pub settle_allowed : (slots id : ℕ) (me : M) → Allows Rule slots id me 0 (λ n. n) (Settles (step slots 0 0 0 none) me)
  settle_allowed slots id me s r _ at _ =
      let v : D = me.0 in
      let most : v.left ≤ sum_by left_of s.views = sum_by-has left_of s.views id v at in
      let room = r.room in
      let small = r.small in
      (v, keeps, tt, unmoved list by news kin turns s r 0 id me.1 v at, (refl, (r.each_seat id v at).merged, (r.each_seat id v at).once, omega arith))

  -- two views are made one: who has a number afterwards stands for who had it
  joined_side : (vs : List D) (id other : ℕ) (v u a : D) (x j : ℕ) (d : D) → get_elem? vs id ≡ some v → get_elem? vs other ≡ some u → other ≢ id → a.holdings ≡ v.holdings ++ u.holdings
      → get_elem? (set (set vs id a) other spent_view) j ≡ some d → holds_number x d ≡ true
      → (i : ℕ) × (c : D) × (get_elem? vs i ≡ some c) × (holds_number x c ≡ true) × (((i ≡ other) × (j ≡ id)) ⊎ ((i ≢ other) × (j ≡ i)))
  joined_side vs id other v u a x j d at there apart is at_j h = ⊎_elim
      (λ (t : (j ≡ other) × (spent_view ≡ d)). let no_one : holds_number x (spent_view {E = E}) ≡ true = subst (λ (z : D). holds_number x z ≡ true) (sym t.1) h in absurd (cc))
      (λ (t : (j ≢ other) × (get_elem? (set vs id a) j ≡ some d)). ⊎_elim
      (λ (q : (j ≡ id) × (a ≡ d)). let has_a : has_number x (v.holdings ++ u.holdings) ≡ true = subst (λ (z : List (ℕ × List E)). has_number x z ≡ true) is (subst (λ (z : D). holds_number x z ≡ true) (sym q.1) h) in ⊎_elim
      (λ (w : has_number x v.holdings ≡ true). (id, v, at, w, inr ((λ e. apart (sym e)), q.0)))
      (λ (w : has_number x u.holdings ≡ true). (other, u, there, w, inl (refl, q.0)))
      (has_number-append x v.holdings u.holdings has_a))
      (λ (q : (j ≢ id) × (get_elem? vs j ≡ some d)). (j, d, q.1, h, inr (t.0, refl)))
      (at_set vs id j a d t.1))
      (at_set (set vs id a) other j spent_view d at_j)

  same_side : (id other i k j l : ℕ) → i ≡ k → ((i ≡ other) × (j ≡ id)) ⊎ ((i ≢ other) × (j ≡ i)) → ((k ≡ other) × (l ≡ id)) ⊎ ((k ≢ other) × (l ≡ k)) → j ≡ l
  same_side id other i k j l one (inl a) (inl b) = a.1 ∙ sym b.1
  same_side id other i k j l one (inl a) (inr b) = absurd (b.0 (sym one ∙ a.0))
  same_side id other i k j l one (inr a) (inl b) = absurd (a.0 (one ∙ b.0))
  same_side id other i k j l one (inr a) (inr b) = a.1 ∙ (one ∙ sym b.1)

  -- two views are made one, and the second has nothing
  HeldOnce-join : (vs : List D) (id other : ℕ) (v u a : D) → HeldOnce holds_number vs → get_elem? vs id ≡ some v → get_elem? vs other ≡ some u → other ≢ id → a.holdings ≡ v.holdings ++ u.holdings
      → HeldOnce holds_number (set (set vs id a) other spent_view)
  HeldOnce-join vs id other v u a lone at there apart is x j k d e at_j at_k has_j has_k =
      let A = joined_side vs id other v u a x j d at there apart is at_j has_j in
      let B = joined_side vs id other v u a x k e at there apart is at_k has_k in
      same_side id other A.0 B.0 j k (lone x A.0 B.0 A.1 B.1 A.2 B.2 A.3 B.3) A.4 B.4

  pub split_allowed : (id n k : ℕ) (v : D) → v.stage ≡ Idle → has_number n v.holdings ≡ true → k ≤ v.left → Splits Rule id v (view_after_split n k v) (view_split_off n k v)
  split_allowed id n k v is owned enough s r at =
      let a : D = view_after_split n k v in
      let b : D = view_split_off n k v in
      let vs : List D = set s.views id a in
      let q = r.each_seat id v at in record {
        published = r.published;
        phase = r.phase;
        next_ticket = r.next_ticket;
        now_serving = r.now_serving;
        news_word = r.news_word;
        words = r.words;
        deep = r.deep;
        behind = r.behind;
        room = let put = sum_by-set left_of s.views id v a at in let room = r.room in let nil : sum_by (left_of {E = E}) [] ≡ 0 = refl in omega (arith, sum_by-append left_of vs (b ∷ []), sum_by-cons left_of b [], nil);
        small = r.small;
        place = ValueAt-snoc list by news kin turns r.news_word r.published s.homes vs b r.phase (ValueAt-set list by news kin turns r.news_word r.published s.homes s.views id v a at (λ t l e. e) (λ t l m e. e) r.phase r.place);
        each_seat = each_view-snoc (Knows by r.now_serving r.next_ticket r.news_word r.published r.phase) vs b
            (each_view-set (Knows by r.now_serving r.next_ticket r.news_word r.published r.phase) s.views id a
            (record { seen = q.seen; own = (λ x h. let less = has_number-of_without x n v.holdings h in q.own x less.0 ∙ sym (own_entries-without x n v.holdings less.1)); once = IsOnceEach-without n v.holdings q.once; reads = q.reads; merged = q.merged; stage = subst (StageFits by r.now_serving r.next_ticket r.published r.phase id (without_number n v.holdings)) (sym is) tt })
            (λ j d _ e. r.each_seat j d e))
            (λ j. record { seen = q.seen; own = (λ x h. subst (λ (z : ℕ). entries_of by z r.published ≡ own_entries z ((n, own_entries n v.holdings) ∷ [])) (sym (one_number x n (own_entries n v.holdings) h)) (rw (eq-eqb n n refl) (q.own n owned))); once = (refl, tt); reads = (λ i d lt. absurd (omega arith)); merged = (v.seen, refl); stage = tt });
        tickets = HeldOnce-snoc holds_ticket vs b (HeldOnce-set holds_ticket s.views id a r.tickets (OnlyAt-less holds_ticket s.views id v a at r.tickets (λ y h. h))) (λ x h j d at_j has_j. absurd (cc));
        numbers = HeldOnce-snoc holds_number vs b (HeldOnce-set holds_number s.views id a r.numbers (OnlyAt-less holds_number s.views id v a at r.numbers (λ y h. (has_number-of_without y n v.holdings h).0)))
            (λ x h j d at_j has_j. ⊎_elim
            (λ (t : (j ≡ id) × (a ≡ d)). let y = has_number-of_without x n v.holdings (subst (λ (z : D). holds_number x z ≡ true) (sym t.1) has_j) in absurd (y.1 (one_number x n (own_entries n v.holdings) h)))
            (λ (t : (j ≢ id) × (get_elem? s.views j ≡ some d)). t.0 (r.numbers n j id d v t.1 at (subst (λ (z : ℕ). has_number z d.holdings ≡ true) (one_number x n (own_entries n v.holdings) h) has_j) owned))
            (at_set s.views id j a d at_j));
        drawn = AllDrawn-snoc r.now_serving r.next_ticket vs b (AllDrawn-set r.now_serving r.next_ticket s.views id v a at (λ y h. h) r.drawn);
        marked = r.marked;
      }

  own_joined : (p : List E) (x : ℕ) (xs ys : List (ℕ × List E)) (b : Bool) → has_number x xs ≡ b → has_number x (xs ++ ys) ≡ true → (has_number x xs ≡ true → entries_of by x p ≡ own_entries x xs) → (has_number x ys ≡ true → entries_of by x p ≡ own_entries x ys) → entries_of by x p ≡ own_entries x (xs ++ ys)
  own_joined p x xs ys true is h first second = first is ∙ sym (own_entries-append_left x xs ys is)
  own_joined p x xs ys false is h first second = ⊎_elim (λ (t : has_number x xs ≡ true). absurd (cc)) (λ (t : has_number x ys ≡ true). second t ∙ sym (own_entries-append_right x xs ys is)) (has_number-append x xs ys h)

  pub join_allowed : (id : ℕ) (v : D) (other : ℕ) (u : D) → v.stage ≡ Idle → u.stage ≡ Idle → Joins Rule id v other u (joined_view v u) spent_view
  join_allowed id v other u v_out u_out s r at apart at_u =
      let a : D = joined_view v u in
      let vs : List D = set s.views id a in
      let there : get_elem? s.views other ≡ some u = sym (set_else s.views id other a apart) ∙ at_u in
      let q = r.each_seat id v at in
      let p = r.each_seat other u there in
      let both = IsPrefix-longer v.seen u.seen r.published q.seen p.seen in record {
        published = r.published;
        phase = r.phase;
        next_ticket = r.next_ticket;
        now_serving = r.now_serving;
        news_word = r.news_word;
        words = r.words;
        deep = r.deep;
        behind = r.behind;
        room = let put = sum_by-set left_of s.views id v a at in let put2 = sum_by-set left_of vs other u spent_view at_u in let room = r.room in omega arith;
        small = r.small;
        place = ValueAt-set list by news kin turns r.news_word r.published s.homes vs other u spent_view at_u (λ t l e. absurd (cc)) (λ t l m e. absurd (cc)) r.phase
            (ValueAt-set list by news kin turns r.news_word r.published s.homes s.views id v a at (λ t l e. e) (λ t l m e. e) r.phase r.place);
        each_seat = each_view-set (Knows by r.now_serving r.next_ticket r.news_word r.published r.phase) vs other spent_view
            (record { seen = (r.published, refl); own = (λ x h. absurd (cc)); once = tt; reads = (λ i d lt. absurd (omega arith)); merged = ([], refl); stage = tt })
            (λ j d _ e. each_view-set (Knows by r.now_serving r.next_ticket r.news_word r.published r.phase) s.views id a
            (record {
              seen = both.0;
              own = (λ x h. own_joined r.published x v.holdings u.holdings (has_number x v.holdings) refl h (q.own x) (p.own x));
              once = IsOnceEach-append v.holdings u.holdings q.once p.once (λ x h k. apart (r.numbers x other id u v there at k h));
              reads = All-append (λ z. z ≤ r.news_word) v.reads u.reads q.reads p.reads;
              merged = both.1;
              stage = subst (StageFits by r.now_serving r.next_ticket r.published r.phase id (v.holdings ++ u.holdings)) (sym v_out) tt;
            })
            (λ j d _ e. r.each_seat j d e) j d e);
        tickets = HeldOnce-set holds_ticket vs other spent_view (HeldOnce-set holds_ticket s.views id a r.tickets (OnlyAt-less holds_ticket s.views id v a at r.tickets (λ y h. h))) (λ x h k e ne at_k has_k. absurd (cc));
        numbers = HeldOnce-join s.views id other v u a r.numbers at there apart refl;
        drawn = AllDrawn-set r.now_serving r.next_ticket vs other u spent_view at_u (λ y h. absurd (let none : is_ticket {E = E} y Idle ≡ true = subst (λ (z : Stage E). is_ticket y z ≡ true) u_out h in cc))
            (AllDrawn-set r.now_serving r.next_ticket s.views id v a at (λ y h. h) r.drawn);
        marked = r.marked;
      }
