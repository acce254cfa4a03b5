-- What holds where no cause forbids the command.
use Rattle.std.proofs.Common.{◌≡◌, refl, sym, ap, ap₂, ◌∙◌, subst, ℕ, ◌-◌, ◌<◌, ◌≤◌, inl, inr, ℤ, pos, negsuc, ◌≤ℤ◌, int_le, unsigned_abs, Bool, true, false, cond, nat_lt, Option, Some, None, List, [], ◌∷◌, map, length, get_or, arith}
use Rattle.std.proofs.lemmas.Bool.{and_parts, ltb-false}
use Rattle.std.proofs.lemmas.Int.{ints}
use Rattle.std.proofs.lemmas.List.{length-map}
use Rattle.ch_moved.specs.Arguments.{is_piece, natural}
use Rattle.ch_moved.specs.Causes.{first_of, no_level, no_piece, unshared}
use Rattle.ch_moved.proofs.Allowed.{none_first, test_of}
use Rattle.ch_moved.proofs.Causing.{piece_number}
use Rattle.ch_moved.proofs.Named.{item_at, item_whole}
use Rattle.ch_nest.specs.declared.cause.Shape.{Shape}
use Rattle.ch_space.specs.declared.piece.Piece.{Piece}
use Rattle.ch_space.specs.Keeps.{AreApart, most_levels, places_of}
use Rattle.ch_space.specs.Pieces.{listed}
use Rattle.ch_space.proofs.PieceNumbers.{numbered}
use Rattle.ch_tile.specs.Tiled.{greatest, largest_tile, new_depth, no_outer, no_size, tile_cause, tiled, too_deep}
use Rattle.ch_timed.specs.Groups.{in_group}
use Rattle.ch_timed.specs.Members.{In}
use Rattle.ch_timed.specs.Timed.{pieces}
use Rattle.ch_timed.specs.declared.element.Element.{Element}
use Rattle.ch_timed.proofs.Orders.{map_in}

pub record MayTile (list : List Element) (s level size outer : ℤ) : Type 0 where
  pub piece : is_piece list s ≡ true
  pub around : pos 1 ≤ℤ outer
  pub inside : outer ≤ℤ level
  pub some : pos 1 ≤ℤ size
  pub small : size ≤ℤ pos 4096
  pub shared : unshared list (natural s) (natural outer) (natural level) ≡ None
  pub shallow : too_deep list (natural s) (natural outer) ≡ None

at_most : (a b : ℤ) → int_le a b ≡ true → a ≤ℤ b
at_most a b e = grind (arith, ints)

-- a number that is not negative
pub number_is : (z : ℤ) → pos 1 ≤ℤ z → z ≡ pos (natural z)
number_is (pos n) h = refl
number_is (negsuc n) h = absurd (omega (arith, ints))

pub magnitude_is : (z : ℤ) → pos 1 ≤ℤ z → natural z ≡ unsigned_abs z
magnitude_is (pos n) h = refl
magnitude_is (negsuc n) h = absurd (omega (arith, ints))

some_outer : (level outer : ℤ) → no_outer level outer ≡ None → (pos 1 ≤ℤ outer) × (outer ≤ℤ level)
some_outer level outer e =
    let o = and_parts (int_le (pos 1) outer) (int_le outer level) (test_of _ _ e) in
    (at_most (pos 1) outer o.0, at_most outer level o.1)

-- where the numbers alone forbid nothing, the first cause is one of the group
pub after_numbers : (list : List Element) (ours : ℕ) (level size outer l o : ℤ) (r : Option Shape) → o ≡ outer → l ≡ level → no_outer level outer ≡ None → no_size size ≡ None
    → r ≡ first_of (unshared list ours (unsigned_abs o) (unsigned_abs l) ∷ too_deep list ours (unsigned_abs o) ∷ [])
    → r ≡ first_of (no_outer level outer ∷ no_size size ∷ unshared list ours (natural outer) (natural level) ∷ too_deep list ours (natural outer) ∷ [])
after_numbers list ours level size outer l o r e f none fine h =
    let w = some_outer level outer none in
    let around = w.0 in
    let inside = w.1 in
    let a = ap unsigned_abs e ∙ sym (magnitude_is outer w.0) in
    let b = ap unsigned_abs f ∙ sym (magnitude_is level (omega (arith, ints))) in
    h ∙ ap₂ (λ x y. first_of (unshared list ours x y ∷ too_deep list ours x ∷ [])) a b
    ∙ sym (ap₂ (λ x y. first_of (x ∷ y ∷ unshared list ours (natural outer) (natural level) ∷ too_deep list ours (natural outer) ∷ [])) none fine)

pub may_tile : (list : List Element) (s level size outer : ℤ) → tile_cause list s level size outer ≡ None → MayTile list s level size outer
may_tile list s level size outer e =
    let a = none_first (no_piece list (s ∷ [])) _ e in
    let b = none_first (no_level list (s ∷ []) level) _ a.1 in
    let c = none_first (no_outer level outer) _ b.1 in
    let d = none_first (no_size size) _ c.1 in
    let f = none_first (unshared list (natural s) (natural outer) (natural level)) _ d.1 in
    let g = none_first (too_deep list (natural s) (natural outer)) [] f.1 in
    let o = some_outer level outer c.0 in
    let z = and_parts (int_le (pos 1) size) (int_le size largest_tile) (test_of _ _ d.0) in
    record {
      piece = test_of (is_piece list s) _ a.0;
      around = o.0;
      inside = o.1;
      some = at_most (pos 1) size z.0;
      small = at_most size largest_tile z.1;
      shared = f.0;
      shallow = g.0;
    }

-- as the code makes its numbers
pub may_share : (list : List Element) (s level size outer : ℤ) (number : ℕ) → MayTile list s level size outer → number ≡ natural s → unshared list number (unsigned_abs outer) (unsigned_abs level) ≡ None
may_share list s level size outer number m e =
    let around = m.around in
    let inside = m.inside in
    let a = magnitude_is outer m.around in
    let b = magnitude_is level (omega (arith, ints)) in
    ap (λ k. unshared list k (unsigned_abs outer) (unsigned_abs level)) e ∙ sym (ap₂ (unshared list (natural s)) a b) ∙ m.shared

pub may_deepen : (list : List Element) (s level size outer : ℤ) (number : ℕ) → MayTile list s level size outer → number ≡ natural s → too_deep list number (unsigned_abs outer) ≡ None
may_deepen list s level size outer number m e =
    ap (λ k. too_deep list k (unsigned_abs outer)) e ∙ sym (ap (too_deep list (natural s)) (magnitude_is outer m.around)) ∙ m.shallow

pub same_arguments : (list : List Element) (s level size outer : ℤ) (number : ℕ) → MayTile list s level size outer → number ≡ natural s
    → tiled list (pos number) (pos (unsigned_abs level)) (pos (unsigned_abs size)) (pos (unsigned_abs outer)) ≡ tiled list s level size outer
same_arguments list s level size outer number m e =
    let around = m.around in
    let inside = m.inside in
    let p = piece_number list s m.piece in
    let a = number_is outer m.around ∙ ap pos (magnitude_is outer m.around) in
    let b : pos 1 ≤ℤ level = omega (arith, ints) in
    let d = number_is level b ∙ ap pos (magnitude_is level b) in
    let f = number_is size m.some ∙ ap pos (magnitude_is size m.some) in
    ap₂ (λ x y. tiled list x (pos (unsigned_abs level)) y (pos (unsigned_abs outer))) (ap pos (e ∙ p.1) ∙ sym p.2) (sym f) ∙ ap₂ (λ x y. tiled list s x size y) (sym d) (sym a)

-- the tiled pieces are not too deep

greatest_by : (b : Bool) (d g : ℕ) → nat_lt d g ≡ b → (d ≤ cond b g d) × (g ≤ cond b g d)
greatest_by true d g e = let h : d < g = grind arith in (omega arith, omega arith)
greatest_by false d g e = let h = ltb-false d g e in (omega arith, omega arith)

at_most_greatest : (ds : List ℕ) (d : ℕ) → In d ds → d ≤ greatest ds
at_most_greatest [] d i = absurd i
at_most_greatest (x ∷ xs) d i =
    let b = greatest_by (nat_lt x (greatest xs)) x (greatest xs) refl in
    elim i as (λ _. d ≤ greatest (x ∷ xs)) [
      | inl e ↦ subst (λ z. z ≤ greatest (x ∷ xs)) e b.0
      | inr j ↦ let h = at_most_greatest xs d j in omega (arith, h, b.1)
    ]

not_above : (b : Bool) (c : Shape) → cond b (Some c) None ≡ None → b ≡ false
not_above true c e = cc
not_above false c e = refl

pub shallow_in : (ps : List Piece) (s k outer : ℕ) (p : Piece) → AreApart ps → k < length ps → p ≡ get_or ps k p → too_deep (listed ps) s outer ≡ None
    → in_group (listed ps) s outer (places_of p) ≡ true → p.levels < 10
shallow_in ps s k outer p a l e none t =
    let f = new_depth (listed ps) s outer in
    let few = ltb-false most_levels (greatest (map f (pieces (listed ps)))) (not_above _ _ none) in
    let i : In (places_of p) (pieces (listed ps)) = subst (λ z. In (places_of p) z) (sym (numbered ps a)) (map_in places_of ps p (item_at ps k p l e)) in
    let m = at_most_greatest (map f (pieces (listed ps))) (f (places_of p)) (map_in f (pieces (listed ps)) (places_of p) i) in
    let d : f (places_of p) ≡ length (places_of p) = ap (λ b. cond b (length (places_of p)) (length (places_of p) - 1)) t in
    let n = length-map p.places pos ∙ (item_whole ps k p a l e).places in
    omega arith
