-- The least reversed pair of elements that are not free to change places, told by the pieces of both lists.
use Rattle.std.proofs.Common.{◌≡◌, ◌≢◌, refl, sym, ap, ◌∙◌, subst, Bool, true, false, if◌then◌else◌, Option, Some, None, List, ◌+◌, pos, length, map, Result, Ok, Err, IfOk}
use Rattle.std.specs.List.{All, flat_map}
use Rattle.ch_depends.specs.declared.candidates.Candidate.{Candidate}
use Rattle.ch_depends.specs.declared.sides.Side.{Side}
use Rattle.std.specs.declared.alloc.AllocError.{AllocError}
use Rattle.ch_depends.specs.declared.answers.Pair as answers
use Rattle.ch_depends.specs.declared.answers.PiecePair.{PiecePair}
use Rattle.ch_depends.specs.Depends.{pair_of}
use Rattle.ch_depends.specs.Free.{are_free, pair_of_elements, reversed_but}
use Rattle.ch_depends.specs.Sought.{AreNumbered, IsBest, IsPaired, Kept, Reversed, SomeOf, is_listed}
use Rattle.ch_depends.proofs.Bests.{best_same}
use Rattle.ch_depends.proofs.FreePieces.{free_is}
use Rattle.ch_space.proofs.PieceNumbers.{listed_ascends}
use Rattle.ch_space.proofs.PieceElements.{element_places, whole_in}
use Rattle.ch_depends.proofs.Overtaken as overtaken
use Rattle.ch_order.specs.Legal.{AreAmong}
use Rattle.ch_order.proofs.LeastBy as least
use Rattle.ch_order.proofs.LeastBy.{IsEarlier, before_by_steps, same_element}
use Rattle.ch_space.specs.declared.piece.Piece.{Piece}
use Rattle.ch_space.specs.Keeps.{AreApart, IsWhole, places_of}
use Rattle.ch_space.specs.Pieces.{elements, listed}
use Rattle.ch_timed.specs.Conflict.{conflict}
use Rattle.ch_timed.specs.declared.element.Cell.{Cell}
use Rattle.ch_timed.specs.declared.element.Element.{Element}
use Rattle.ch_timed.specs.Members.{In}
use Rattle.ch_timed.specs.Order as order
use Rattle.ch_timed.specs.Order.{Pair, is_before}
use Rattle.ch_timed.specs.Timed.{identities_differ, step}
use Rattle.ch_timed.proofs.Orders.{IsAscending, map_in}
use Rattle.ch_timed.specs.Vectors.{places}

overtaken_none : (t : Bool) (a b : Element) (o : Option Cell) → (t ≡ true → o ≢ None → ⊥) → order.overtaken t a b o ≡ None
overtaken_none true a b None h = refl
overtaken_none true a b (Some c) h = absurd (h refl (λ e. cc))
overtaken_none false a b o h = refl

some_pair : (a b : Element) (o : Option Cell) → o ≢ None → (p : Pair Element Cell) × (order.overtaken true a b o ≡ Some p)
some_pair a b None h = absurd (h refl)
some_pair a b (Some c) h = (record { first = a; second = b; cell = c }, refl)

kept_by : (t : Bool) (o : Option Cell) → (if t then None else o) ≢ None → (t ≡ false) × (o ≢ None)
kept_by true o h = absurd (h refl)
kept_by false o h = (refl, h)

-- the answer for a candidate
abbrev pub found : Option Candidate → Option (Pair Element Cell)
found None = None
found (Some c) = order.overtaken true c.first c.second (conflict (step c.first) (step c.second))

module _ (olds news : List Piece) (old_apart : AreApart olds) (new_apart : AreApart news) (differ : identities_differ (listed news) ≡ true) (kept : AreAmong (listed olds) (listed news))
    (sides : List Side) (pieces : map (λ s. s.piece.now) sides ≡ olds) (paired : All (IsPaired news) sides) (free : Element → Element → Bool) where
  up : IsAscending (λ e. e.vector) (listed olds)
  up = listed_ascends olds old_apart

  abbrev AnyReversed : Element → Element → Type 0
  AnyReversed = overtaken.AnyReversed olds news old_apart new_apart differ kept sides pieces paired

  -- reversed, and not free
  abbrev pub Held : Element → Element → Type 0
  Held e f = AnyReversed e f × (free e f ≡ false)

  abbrev gap : Element → Element → Option Cell
  gap e f = if free e f then None else conflict (step e) (step f)

  abbrev IsReversible : Element → Element → Type 0
  IsReversible = overtaken.IsReversible olds news old_apart new_apart differ kept

  reversible : (e f : Element) → AnyReversed e f → IsReversible e f
  reversible e f a = overtaken.reversible olds news old_apart new_apart differ kept sides pieces paired e f a

  none_pair : (e f : Element) → (Held e f → ⊥) → In e (listed olds) → In f (listed olds) → IsEarlier e f → least.pair_of gap (listed news) e f ≡ None
  none_pair e f n i j l =
      overtaken_none (is_before same_element f e (listed news)) e f (gap e f)
      (λ b c. let k = kept_by (free e f) (conflict (step e) (step f)) c in
      n (
        overtaken.any_reversed olds news old_apart new_apart differ kept sides pieces paired e f
            (record { first_in = i; second_in = j; earlier = l; before = sym (before_by_steps f e (listed news)) ∙ b; conflicting = k.1 }),
        k.0,
      ))

  pub freed_is : (c : Option Candidate) → IsBest Held c → found c ≡ least.reversed gap (listed olds) (listed news)
  freed_is None h = sym (least.none_is gap (listed olds) (listed news) up (λ e f i j l. none_pair e f (h e f) i j l))
  freed_is (Some c) h =
      let r : IsReversible c.first c.second = reversible c.first c.second h.0.0 in
      let p = some_pair c.first c.second (conflict (step c.first) (step c.second)) r.conflicting in
      let here : gap c.first c.second ≡ conflict (step c.first) (step c.second) = ap (λ t. if t then None else conflict (step c.first) (step c.second)) h.0.1 in
      let there : least.pair_of gap (listed news) c.first c.second ≡ Some p.0 =
      ap (λ t. order.overtaken t c.first c.second (gap c.first c.second)) (before_by_steps c.second c.first (listed news) ∙ r.before)
      ∙ ap (order.overtaken true c.first c.second) here ∙ p.1 in
      p.1 ∙ sym (least.least_is gap (listed olds) (listed news) c.first c.second p.0 up (record {
        first_in = r.first_in;
        second_in = r.second_in;
        apart = r.earlier;
        no_first = λ e f i j l k. none_pair e f (λ a. overtaken.not_earlier olds news old_apart new_apart differ kept sides pieces paired c e f k (h.1 e f a)) i j l;
        no_second = λ f j l k. none_pair c.first f (λ a. overtaken.not_second olds news old_apart new_apart differ kept sides pieces paired c f k (h.1 c.first f a)) r.first_in j l;
      }) there)

-- the sides that are no listed pair

module _ (olds news : List Piece) (old_apart : AreApart olds) (new_apart : AreApart news) (differ : identities_differ (listed news) ≡ true) (kept : AreAmong (listed olds) (listed news))
    (sides : List Side) (pieces : map (λ s. s.piece.now) sides ≡ olds) (paired : All (IsPaired news) sides) (numbers : AreNumbered sides) (free : List PiecePair) where
  side_whole : (s : Side) → In s sides → IsWhole s.piece.now
  side_whole s i = whole_in olds s.piece.now old_apart (subst (In s.piece.now) pieces (map_in (λ s. s.piece.now) sides s i))

  free_at : (s t : Side) (e f : Element) → In s sides → In t sides → Reversed s t e f → are_free (listed olds) free e f ≡ is_listed free s.number t.number
  free_at s t e f i j r =
      let h = r.holds.holds.reverses in
      let m = h.reversal.0 in
      free_is olds old_apart sides pieces numbers free s t e f i j
      (ap (λ z. places z.vector) (sym h.is_first) ∙ element_places s.piece.now h.xs (side_whole s i) m.first)
      (ap (λ z. places z.vector) (sym h.is_second) ∙ element_places t.piece.now h.ys (side_whole t j) m.second)

  abbrev AnyKept : Element → Element → Type 0
  AnyKept = SomeOf sides (λ s. SomeOf sides (Kept free s))

  abbrev NotFree : Element → Element → Type 0
  NotFree = Held olds news old_apart new_apart differ kept sides pieces paired (are_free (listed olds) free)

  to_held : (e f : Element) → AnyKept e f → NotFree e f
  to_held e f k = (
    record { member = k.member; is_member = k.is_member; holds = record { member = k.holds.member; is_member = k.holds.is_member; holds = k.holds.holds.1 } },
    free_at k.member k.holds.member e f k.is_member k.holds.is_member k.holds.holds.1 ∙ k.holds.holds.0,
  )

  from_held : (e f : Element) → NotFree e f → AnyKept e f
  from_held e f h = record {
    member = h.0.member;
    is_member = h.0.is_member;
    holds = record {
      member = h.0.holds.member;
      is_member = h.0.holds.is_member;
      holds = (sym (free_at h.0.member h.0.holds.member e f h.0.is_member h.0.holds.is_member h.0.holds.holds) ∙ h.1, h.0.holds.holds);
    };
  }

  held : (c : Option Candidate) → IsBest AnyKept c → IsBest NotFree c
  held c h = best_same AnyKept NotFree c to_held from_held h

  pub kept_is : (c : Option Candidate) → IsBest AnyKept c → found c ≡ reversed_but (listed olds) (listed news) free
  kept_is c h = freed_is olds news old_apart new_apart differ kept sides pieces paired (are_free (listed olds) free) c (held c h)

  pub kept_first : (c : Candidate) → IsBest AnyKept (Some c) → In c.first (listed olds)
  kept_first c h = (overtaken.reversible olds news old_apart new_apart differ kept sides pieces paired c.first c.second (held (Some c) h).0.0).first_in

  pub kept_second : (c : Candidate) → IsBest AnyKept (Some c) → In c.second (listed olds)
  kept_second c h = (overtaken.reversible olds news old_apart new_apart differ kept sides pieces paired c.first c.second (held (Some c) h).0.0).second_in

-- the answer, with the identities

same_answers : (c : Candidate) (o : Option Cell) → pair_of_elements (order.overtaken true c.first c.second o) ≡ pair_of (order.overtaken true (step c.first) (step c.second) o)
same_answers c (Some x) = refl
same_answers c None = refl

module _ (old new : List Element) (olds news allo alln : List Piece) (sides items : List Side) (ao : AreApart olds) (an : AreApart news) (differ : identities_differ (listed news) ≡ true)
    (eo : listed olds ≡ old) (en : listed news ≡ new) (among : AreAmong old new) (fo : allo ≡ olds) (fn : alln ≡ news) (pieces : map (λ s. s.piece.now) sides ≡ allo) (paired : All (IsPaired alln) sides)
    (numbers : AreNumbered sides) (same : items ≡ sides) (free : List PiecePair)
    (best : Option Candidate) (h : IsBest (SomeOf items (λ s. SomeOf items (Kept free s))) best) where
  here : AreAmong (listed olds) (listed news)
  here = subst (λ z. AreAmong z (listed news)) (sym eo) (subst (AreAmong old) (sym en) among)

  of_olds : map (λ s. s.piece.now) items ≡ olds
  of_olds = ap (map (λ s. s.piece.now)) same ∙ pieces ∙ fo

  of_news : All (IsPaired news) items
  of_news = subst (All (IsPaired news)) (sym same) (subst (λ z. All (IsPaired z) sides) fn paired)

  of_numbers : AreNumbered items
  of_numbers = subst AreNumbered (sym same) numbers

  answered : found best ≡ reversed_but old new free
  answered = kept_is olds news ao an differ here items of_olds of_news of_numbers free best h ∙ ap (λ z. reversed_but z (listed news) free) eo ∙ ap (λ z. reversed_but old z free) en

  pub none_kept : best ≡ None → None ≡ pair_of_elements (reversed_but old new free)
  none_kept e = ap (λ z. pair_of_elements (found z)) (sym e) ∙ ap pair_of_elements answered

  pub some_kept : (c : Candidate) (r : Result (Option answers.Pair) AllocError) → best ≡ Some c → IfOk r (λ p. p ≡ pair_of (order.overtaken true (step c.first) (step c.second) (conflict (step c.first) (step c.second))))
      → IfOk r (λ p. p ≡ pair_of_elements (reversed_but old new free))
  some_kept c (Ok p) e q = q ∙ sym (same_answers c (conflict (step c.first) (step c.second))) ∙ ap (λ z. pair_of_elements (found z)) (sym e) ∙ ap pair_of_elements answered
  some_kept c (Err x) e q = tt

  pub first_kept : (c : Candidate) → best ≡ Some c → In c.first (listed olds)
  first_kept c e = kept_first olds news ao an differ here items of_olds of_news of_numbers free c (subst (IsBest (SomeOf items (λ s. SomeOf items (Kept free s)))) e h)

  pub second_kept : (c : Candidate) → best ≡ Some c → In c.second (listed olds)
  second_kept c e = kept_second olds news ao an differ here items of_olds of_news of_numbers free c (subst (IsBest (SomeOf items (λ s. SomeOf items (Kept free s)))) e h)
