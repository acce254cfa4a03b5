-- Pieces each of which has the elements of one other piece, moved, at the same places.
use Rattle.std.proofs.Common.{◌≡◌, ap, ℕ, ◌≤◌, ℤ, pos, List, [], ◌∷◌, map, length}
use Rattle.ch_order.specs.Legal.{AreAmong}
use Rattle.ch_space.specs.declared.piece.Piece.{Piece}
use Rattle.ch_space.specs.Keeps.{IsLimited, IsSpace, IsWhole, most_commands, most_weight}
use Rattle.ch_space.specs.Pieces.{element_at, instances, listed}
use Rattle.ch_moved.proofs.Replaced.{AllReplaced, IsReplaced, among_replaced, places_apart, replaced_among, replaced_list, replaced_space}
use Rattle.ch_timed.specs.declared.element.Element.{Element}
use Rattle.ch_timed.specs.Members.{In}
use Rattle.ch_timed.specs.Timed.{in_order, step}

-- The piece has the elements of the other one, moved by g; its places are the same, and it keeps to the limits.
pub record IsRemade (g : Element → Element) (weight commands : ℕ) (p q : Piece) : Type 0 where
  pub whole : IsWhole q
  pub places : q.places ≡ p.places
  pub label : q.label ≡ p.label
  pub body : q.body ≡ p.body
  pub iterators : length q.origin ≡ length p.origin
  pub limited : IsLimited weight commands q
  pub forth : (xs : List ℤ) → In xs (instances p) → (ys : List ℤ) × (In ys (instances q) × (g (element_at p xs) ≡ element_at q ys))
  pub back : (ys : List ℤ) → In ys (instances q) → (xs : List ℤ) × (In xs (instances p) × (g (element_at p xs) ≡ element_at q ys))

abbrev pub AllRemade : (Element → Element) → ℕ → ℕ → List Piece → List Piece → Type 0
AllRemade g weight commands [] [] = Unit {0}
AllRemade g weight commands [] (q ∷ qs) = ⊥
AllRemade g weight commands (p ∷ ps) [] = ⊥
AllRemade g weight commands (p ∷ ps) (q ∷ qs) = IsRemade g weight commands p q × AllRemade g weight commands ps qs

abbrev unmoved : List ℤ → List ℤ
unmoved places = places

module _ (g : Element → Element) (weight commands : ℕ) where
  replaced : (p q : Piece) → IsRemade g weight commands p q → IsReplaced unmoved g weight commands p q
  replaced p q r = record {
    whole = r.whole;
    places = ap (map pos) r.places;
    label = r.label;
    body = r.body;
    iterators = r.iterators;
    limited = r.limited;
    forth = r.forth;
    back = r.back;
  }

  all_replaced : (ps qs : List Piece) → AllRemade g weight commands ps qs → AllReplaced unmoved g weight commands ps qs
  all_replaced [] [] r = tt
  all_replaced [] (q ∷ qs) r = absurd r
  all_replaced (p ∷ ps) [] r = absurd r
  all_replaced (p ∷ ps) (q ∷ qs) r = (replaced p q r.0, all_replaced ps qs r.1)

module _ (g : Element → Element) (keeps : (e : Element) → step (g e) ≡ step e) (weight commands : ℕ) (arrays : ℕ) (ps qs : List Piece) (counts : List ℕ) (temps : List (List ℕ))
    (old_weight old_commands : ℕ) (space : IsSpace arrays ps counts temps old_weight old_commands) (r : AllRemade g weight commands ps qs) where
  -- pieces that are remade one by one make the moved list
  pub remade_list : listed qs ≡ in_order (map g (listed ps))
  remade_list = replaced_list unmoved g keeps weight commands arrays ps qs counts temps old_weight old_commands space (all_replaced g weight commands ps qs r) (λ p q i j l. l)

  -- and a space again
  pub remade_space : old_commands ≤ commands → commands ≤ most_commands → 1 ≤ weight → weight ≤ most_weight → IsSpace arrays qs counts temps weight commands
  remade_space =
      replaced_space unmoved g keeps weight commands arrays ps qs counts temps old_weight old_commands space (all_replaced g weight commands ps qs r) (λ p q i j l. l)
      (places_apart ps space.apart space.well_formed)

  -- and execute the same steps
  pub remade_among : AreAmong (listed ps) (listed qs)
  remade_among = replaced_among unmoved g keeps weight commands arrays ps qs counts temps old_weight old_commands space (all_replaced g weight commands ps qs r) (λ p q i j l. l)

  pub among_remade : AreAmong (listed qs) (listed ps)
  among_remade = among_replaced unmoved g keeps weight commands arrays ps qs counts temps old_weight old_commands space (all_replaced g weight commands ps qs r) (λ p q i j l. l)
