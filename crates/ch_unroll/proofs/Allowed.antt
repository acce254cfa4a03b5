-- What holds where no cause forbids unrolling, and what is made then.
use Rattle.std.proofs.Common.{◌≡◌, refl, sym, ap, ap₂, ◌∙◌, subst, ℕ, ◌+◌, ◌*◌, ◌-◌, ◌<◌, ◌≤◌, ◌^◌, ℤ, pos, negsuc, ◌≤ℤ◌, int_le, unsigned_abs, Bool, true, false, ◌&&◌, cond, ltb, Option, Some, None, Result, List, [], ◌∷◌, length, map, get_or, arith}
use Rattle.std.specs.List.{All}
use Rattle.std.proofs.lemmas.Bool.{and_parts}
use Rattle.std.proofs.lemmas.Int.{ints}
use Rattle.ch_moved.specs.Arguments.{has_level, is_piece, natural}
use Rattle.ch_moved.specs.Causes.{Answers, first_of, no_level, no_piece, too_heavy, too_many}
use Rattle.ch_moved.proofs.Allowed.{none_first, test_of}
use Rattle.ch_moved.proofs.Causing.{piece_number}
use Rattle.ch_nest.specs.declared.cause.Shape.{Shape}
use Rattle.ch_pieces.specs.Candidates.{AreCandidates}
use Rattle.ch_pieces.specs.declared.candidate.Candidate.{Candidate}
use Rattle.ch_space.specs.declared.error.ShapeError.{ShapeError}
use Rattle.ch_space.specs.declared.piece.Piece.{Piece}
use Rattle.ch_space.specs.Keeps.{AreApart, IsSpace, most_commands, most_weight, places_of}
use Rattle.ch_space.specs.Listed.{Listed}
use Rattle.ch_space.specs.Pieces.{listed}
use Rattle.ch_space.proofs.PieceNumbers.{how_many, nth_places, numbered}
use Rattle.ch_timed.specs.declared.element.Element.{Element}
use Rattle.ch_timed.specs.Groups.{piece}
use Rattle.ch_timed.specs.Timed.{pieces}
use Rattle.ch_unroll.specs.declared.layout.Layout.{Layout}
use Rattle.ch_unroll.specs.Copies.{AllBecome, ArePlaced}
use Rattle.ch_unroll.specs.Layouts.{IsLaidOut}
use Rattle.ch_unroll.specs.Unrolled.{first_cause, no_amount, unroll_cause, unrolls}
use Rattle.ch_unroll.proofs.Copied.{are_candidates}
use Rattle.ch_unroll.proofs.Laying.{are_placed, deep, moves_are}
use Rattle.ch_unroll.proofs.Pushing.{few_candidates}

pub record MayUnroll (list : List Element) (weight : ℕ) (s level amount : ℤ) : Type 0 where
  pub number : unsigned_abs s < length (pieces list)
  pub natural_number : natural s ≡ unsigned_abs s
  pub is_level : level ≡ pos (unsigned_abs level)
  pub some_level : 1 ≤ unsigned_abs level
  pub deep_enough : unsigned_abs level < length (piece list (natural s))
  pub is_amount : amount ≡ pos (unsigned_abs amount)
  pub some : 1 ≤ unsigned_abs amount
  pub few : unsigned_abs amount ≤ 32
  pub light : weight * unsigned_abs amount ≤ most_weight

not_heavy : (w by : ℕ) (c : Option Shape) → cond (ltb most_weight (w * by)) c None ≡ None → (c ≡ None → ⊥) → w * by ≤ most_weight
not_heavy w by c e n = from (ltb most_weight (w * by)) refl e
  where
    from : (b : Bool) → ltb most_weight (w * by) ≡ b → cond b c None ≡ None → w * by ≤ most_weight
    from true f g = absurd (n g)
    from false f g = grind arith

pub may_unroll : (list : List Element) (weight : ℕ) (s level amount : ℤ) → first_cause list weight s level amount ≡ None → MayUnroll list weight s level amount
may_unroll list weight s level amount e =
    let a = none_first (no_piece list (s ∷ [])) _ e in
    let b = none_first (no_level list (s ∷ []) level) _ a.1 in
    let c = none_first (no_amount amount) _ b.1 in
    let d = none_first (too_heavy weight (natural amount)) [] c.1 in
    let p = piece_number list s (test_of (is_piece list s) _ a.0) in
    let l = and_parts (int_le (pos 1) level) (int_le level (pos (length (piece list (natural s)) - 1))) (test_of (has_level list level s) _ b.0) in
    let n = and_parts (int_le (pos 1) amount) (int_le amount (pos 32)) (test_of (int_le (pos 1) amount && int_le amount (pos 32)) _ c.0) in
    let low : pos 1 ≤ℤ level = (let t = l.0 in grind (arith, ints)) in
    let high : level ≤ℤ pos (length (piece list (natural s)) - 1) = (let t = l.1 in grind (arith, ints)) in
    let least : pos 1 ≤ℤ amount = (let t = n.0 in grind (arith, ints)) in
    let most : amount ≤ℤ pos 32 = (let t = n.1 in grind (arith, ints)) in
    record {
      number = p.0;
      natural_number = p.1;
      is_level = omega (arith, ints);
      some_level = omega (arith, ints);
      deep_enough = omega (arith, ints);
      is_amount = omega (arith, ints);
      some = omega (arith, ints);
      few = omega (arith, ints);
      light = subst (λ k. weight * k ≤ most_weight) (natural_is amount least) (not_heavy weight (natural amount) _ d.0 (λ f. cc));
    }
  where
    natural_is : (z : ℤ) → pos 1 ≤ℤ z → natural z ≡ unsigned_abs z
    natural_is (pos n) h = refl
    natural_is (negsuc n) h = absurd (omega (arith, ints))

-- what the pieces allow, and what is made of them
pub record IsMade (ps : List Piece) (u : Layout) (ours : List ℤ) (s level amount : ℤ) (list : List Element) (weight commands : ℕ) : Type 0 where
  pub placed : All (ArePlaced u ours) ps
  pub are : (cs : List Candidate) → AllBecome u ours ps cs → AreCandidates (unrolls list s level amount) list (weight * natural amount) (commands + 1) cs
  pub number : (cs : List Candidate) → AllBecome u ours ps cs → length cs ≤ 2 ^ 20

made_of : (arrays : ℕ) (ps : List Piece) (counts : List ℕ) (temps : List (List ℕ)) (w c : ℕ) (s level amount : ℤ) (u : Layout) → IsSpace arrays ps counts temps w c → c < most_commands → MayUnroll (listed ps) w s level amount
    → IsLaidOut (map places_of ps) (piece (listed ps) (natural s)) (unsigned_abs level) (unsigned_abs amount) u → IsMade ps u (piece (listed ps) (natural s)) s level amount (listed ps) w c
made_of arrays ps counts temps w c s level amount u space left may laid =
    let ours = piece (listed ps) (natural s) in
    let placed = are_placed ps ours (unsigned_abs level) (unsigned_abs amount) u laid arrays counts temps w c space may.some_level may.some may.few may.light left in
    let e = laid.amount in
    let some = may.some in
    let few = may.few in
    let by : u.amount ≡ natural amount = e ∙ sym (ap natural may.is_amount) in
    record {
      placed = placed;
      are = λ cs h.
          subst (λ n. AreCandidates (unrolls (listed ps) s level amount) (listed ps) (w * n) (c + 1) cs) by
          (subst (λ g. AreCandidates g (listed ps) (w * u.amount) (c + 1) cs)
          (moves_are ps (listed ps) s level amount (unsigned_abs level) (unsigned_abs amount) u (numbered ps space.apart) may.is_level may.is_amount laid)
          (are_candidates u ours arrays ps counts temps w c space cs placed (deep ps ours (unsigned_abs level) (unsigned_abs amount) u laid) h (omega arith)));
      number = λ cs h.
          let f = few_candidates u ours ps cs (omega arith) (omega arith) h in
          let g = space.few_pieces in
          omega arith;
    }

-- from what the space is seen as
made : (arrays w c : ℕ) (ps all : List Piece) (counts : List ℕ) (temps : List (List ℕ)) (l : Listed) (s level amount : ℤ) (ours : List ℤ) (u : Layout) → IsSpace arrays ps counts temps w c
    → record { list = listed ps; arrays = arrays; temps = temps; weight = w; commands = c } ≡ l → l.commands < most_commands → MayUnroll l.list l.weight s level amount → all ≡ ps → ours ≡ piece l.list (natural s)
    → IsLaidOut (map places_of all) ours (unsigned_abs level) (unsigned_abs amount) u → IsMade all u ours s level amount l.list l.weight l.commands
made arrays w c ps all counts temps l s level amount ours u space view left may o e laid =
    subst (λ (r : Listed). r.commands < most_commands → MayUnroll r.list r.weight s level amount → ours ≡ piece r.list (natural s) → IsMade all u ours s level amount r.list r.weight r.commands) view
    (λ k m f.
    subst (λ z. IsMade z u ours s level amount (listed ps) w c) (sym o)
    (subst (λ z. IsMade ps u z s level amount (listed ps) w c) (sym f)
    (made_of arrays ps counts temps w c s level amount u space k m
    (subst (λ z. IsLaidOut (map places_of ps) z (unsigned_abs level) (unsigned_abs amount) u) f
    (subst (λ z. IsLaidOut (map places_of z) ours (unsigned_abs level) (unsigned_abs amount) u) o laid)))))
    left may e

-- the places of our piece, as the code has them
pub our_places : (ps all : List Piece) (list : List Element) (a : AreApart ps) (s : ℤ) (d : Piece) (places : List ℕ) → listed ps ≡ list → all ≡ ps → natural s ≡ unsigned_abs s → unsigned_abs s < length (pieces list)
    → d ≡ get_or all (unsigned_abs s) d → places ≡ d.places → map pos places ≡ piece list (natural s)
our_places ps all list a s d places v o n l is e =
    let k : unsigned_abs s < length ps = (let h = how_many ps a in let m = ap (λ z. length (pieces z)) v in omega arith) in
    ap (map pos) e ∙ ap places_of (is ∙ ap (λ z. get_or z (unsigned_abs s) d) o) ∙ sym (nth_places ps (unsigned_abs s) d a k) ∙ ap₂ piece v (sym n)

-- what is made, as the code has it
pub made_here : (arrays w c : ℕ) (ps all : List Piece) (counts : List ℕ) (temps : List (List ℕ)) (l : Listed) (s level amount : ℤ) (d : Piece) (places : List ℕ) (u : Layout) → IsSpace arrays ps counts temps w c
    → record { list = listed ps; arrays = arrays; temps = temps; weight = w; commands = c } ≡ l → l.commands < most_commands → first_cause l.list l.weight s level amount ≡ None → all ≡ ps → d ≡ get_or all (unsigned_abs s) d
    → places ≡ d.places → IsLaidOut (map places_of all) (map pos places) (unsigned_abs level) (unsigned_abs amount) u → IsMade all u (map pos places) s level amount l.list l.weight l.commands
made_here arrays w c ps all counts temps l s level amount d places u space view left none o is e laid =
    let may = may_unroll l.list l.weight s level amount none in
    made arrays w c ps all counts temps l s level amount (map pos places) u space view left may o
    (our_places ps all l.list space.apart s d places (ap (λ (r : Listed). r.list) view) o may.natural_number may.number is e) laid

-- C7 comes last
first_alone : (a b c d t : Option Shape) → first_of (a ∷ b ∷ c ∷ d ∷ []) ≡ None → first_of (a ∷ b ∷ c ∷ d ∷ t ∷ []) ≡ t
first_alone None None None None None e = refl
first_alone None None None None (Some x) e = refl
first_alone None None None (Some x) t e = cc
first_alone None None (Some x) d t e = cc
first_alone None (Some x) c d t e = cc
first_alone (Some x) b c d t e = cc

pub last_cause : {X : Type 0} (r : Result X ShapeError) (list : List Element) (weight : ℕ) (s level amount : ℤ) → first_cause list weight s level amount ≡ None → Answers r (too_many (unrolls list s level amount) list)
    → Answers r (unroll_cause list weight s level amount)
last_cause r list weight s level amount e h =
    subst (Answers r) (sym (first_alone (no_piece list (s ∷ [])) (no_level list (s ∷ []) level) (no_amount amount) (too_heavy weight (natural amount)) (too_many (unrolls list s level amount) list) e)) h
