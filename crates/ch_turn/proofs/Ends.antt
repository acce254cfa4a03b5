-- The rule holds when the turn is made, and what it tells at the end.
use Rattle.std.proofs.Common.{◌≡◌, ℕ, ◌^◌, ◌<◌, ◌≤◌, true, List, [], ◌∷◌, sym, refl, ap, ◌∙◌, subst, ⊎_elim, arith, Option, Some, All, le_refl}
use Rattle.std.proofs.lemmas.List.Sums.{sum_by-cons}
use Rattle.std.specs.List.{sum_by}
use mathlib.Core.Option.{some, some-injective, some-ne-none}
use lib.ListN.{get_elem?}
use Rattle.atomic_table.specs.Table.{State, Me, opening, Final, Seen}
use Rattle.ch_turn.specs.declared.view.View.{View}
use Rattle.ch_turn.specs.declared.view.Stage.TheVariants.{Idle, Served, Leaving}
use Rattle.ch_turn.specs.Holdings.{has_number, own_entries, entries_of}
use Rattle.ch_turn.specs.History.{IsPrefix}
use Rattle.ch_turn.specs.Views.{holds_ticket, holds_number, left_of, first_view}
use Rattle.ch_turn.specs.Rule.{Phase, home, served, leaving, StageFits, Knows, ValueAt, TurnRule}
use Rattle.ch_turn.proofs.Views.{snoc_at, HeldOnce-snoc}
use Rattle.ch_turn.proofs.Numbers.{own_entries-below}
use Rattle.ch_turn.proofs.Once.{IsOnceEach-below}

module _ {E V : Type 0} (list : V → List E) (by : E → ℕ) (news : List E → ℕ) (kin : V → Type 0) (turns : ℕ) where
  abbrev D : Type 0
  D = View E

  abbrev St : Type 0
  St = State (Option V) D

  abbrev M : Type 0
  M = Me (Option V) D

  abbrev Rule : St → Type 0
  Rule = TurnRule list by news kin turns

  pub opening_ruled : (x : V) → turns < 2 ^ 63 → list x ≡ [] → news [] ≡ 0 → kin x → Rule (opening (0 ∷ 0 ∷ 0 ∷ []) (Some x ∷ []) (first_view turns))
  opening_ruled x small empty zero_is kindred = record {
    published = [];
    phase = home;
    next_ticket = 0;
    now_serving = 0;
    news_word = 0;
    words = refl;
    deep = refl;
    behind = le_refl 0;
    room = let nil : sum_by (left_of {E = E}) [] ≡ 0 = refl in omega (arith, sum_by-cons (left_of {E = E}) (first_view turns) [], nil);
    small = small;
    place = (sym zero_is, (x, refl, empty, kindred));
    each_seat = (λ j d e. ⊎_elim
        (λ (h : get_elem? [] j ≡ some d). absurd (some-ne-none d (sym h)))
        (λ (h : (j ≡ 0) × (first_view turns ≡ d)). subst (Knows by 0 0 0 [] home j) h.1 (record { seen = ([], refl); own = (λ n h. sym (own_entries-below E n 65536)); once = IsOnceEach-below E 65536; reads = (λ i d lt. absurd (omega arith)); merged = ([], refl); stage = tt }))
        (snoc_at [] (first_view turns) j d e));
    tickets = HeldOnce-snoc holds_ticket [] (first_view turns) (λ x j k d e at_j at_k has_j has_k. absurd (some-ne-none d (sym at_j))) (λ x h j d at_j has_j. some-ne-none d (sym at_j));
    numbers = HeldOnce-snoc holds_number [] (first_view turns) (λ x j k d e at_j at_k has_j has_k. absurd (some-ne-none d (sym at_j))) (λ x h j d at_j has_j. some-ne-none d (sym at_j));
    drawn = (λ n low high. absurd (omega arith));
    marked = (λ i d lt. absurd (omega arith));
  }

  -- what the end tells: the value at home stands for a list that begins with what the seat has seen, and of which the seat knows each entry of its numbers
  abbrev pub Ends : D → List (Option V) → Type 0
  Ends v slots = (x : V) × (get_elem? slots 0 ≡ some (Some x)) × IsPrefix v.seen (list x) × All (λ r. r ≤ news (list x)) v.reads × ((n : ℕ) → has_number n v.holdings ≡ true → entries_of by n (list x) ≡ own_entries n v.holdings) × kin x × All (λ e. by e < 65536) (list x)

  home_if_all : (s : St) (r : Rule s) (id : ℕ) (v : D) → get_elem? s.views id ≡ some v → v.stage ≡ Idle → ((n : ℕ) → n < 65536 → has_number n v.holdings ≡ true) → (ph : Phase E) → r.phase ≡ ph
      → ValueAt list news kin r.news_word r.published s.homes s.views ph → r.phase ≡ home
  home_if_all s r id v at is all home e h = e
  home_if_all s r id v at is all (served j) e h =
      let d = h.1.0 in let t = h.1.1 in let at_j = h.1.2 in let is_j = h.1.3 in
      let k = subst (StageFits by r.now_serving r.next_ticket r.published r.phase j d.holdings) is_j (r.each_seat j d at_j).stage in
      let same : id ≡ j = r.numbers k.2.0 id j v d at at_j (all k.2.0 k.2.1) k.2.2 in
      let one : v ≡ d = some-injective v d (sym at ∙ (ap (get_elem? s.views) same ∙ at_j)) in
      let bad : Idle ≡ Served t r.published = sym is ∙ (ap (λ (z : D). z.stage) one ∙ is_j) in absurd (cc)
  home_if_all s r id v at is all (leaving j m) e h =
      let d = h.1.0 in let t = h.1.1 in let at_j = h.1.2 in let is_j = h.1.3 in
      let k = subst (StageFits by r.now_serving r.next_ticket r.published r.phase j d.holdings) is_j (r.each_seat j d at_j).stage in
      let same : id ≡ j = r.numbers k.2.0 id j v d at at_j (all k.2.0 k.2.1) k.2.2 in
      let one : v ≡ d = some-injective v d (sym at ∙ (ap (get_elem? s.views) same ∙ at_j)) in
      let bad : Idle ≡ Leaving t r.published m = sym is ∙ (ap (λ (z : D). z.stage) one ∙ is_j) in absurd (cc)

  pub close_ends : (id : ℕ) (v : D) (words : List ℕ) (slots : List (Option V)) → v.stage ≡ Idle → ((n : ℕ) → n < 65536 → has_number n v.holdings ≡ true) → Final (Seen Rule id v) words slots → Ends v slots
  close_ends id v words slots is all f =
      let s = f.0 in let r = f.1.0 in let at = f.1.1 in
      let ph : r.phase ≡ home = home_if_all s r id v at is all r.phase refl r.place in
      let pl : ValueAt list news kin r.news_word r.published s.homes s.views home = subst (ValueAt list news kin r.news_word r.published s.homes s.views) ph r.place in
      let k = r.each_seat id v at in
      let x : V = pl.1.0 in
      let same : list x ≡ r.published = pl.1.2 in (
        x,
        f.4 0 (Some x) pl.1.1,
        subst (IsPrefix v.seen) (sym same) k.seen,
        (λ i d lt. let one = k.reads i d lt in let n : r.news_word ≡ news (list x) = pl.0 ∙ ap news (sym same) in omega arith),
        (λ n h. ap (entries_of by n) same ∙ k.own n h),
        pl.1.3,
        subst (All (λ e. by e < 65536)) (sym same) r.marked,
      )
