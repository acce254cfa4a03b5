-- There are candidates for each plan of a space and its cells.
use Rattle.std.proofs.Common.{◌≡◌, refl, sym, ap, ap₂, ◌∙◌, subst, ℕ, zero, suc, ◌+◌, ◌*◌, ℤ, pos, ◌+ℤ◌, ◌*ℤ◌, unsigned_abs, Bool, true, false, if◌then◌else◌, Some, None, List, [], ◌∷◌, ◌++◌, map, length, replicate, take, get_or, arith}
use Rattle.std.specs.Ordering.{int_eq}
use Rattle.std.proofs.lemmas.Int.{ints}
use Rattle.std.proofs.Math.IntN.{pos-*ℤ-pos}
use Rattle.ch_copied.specs.Copied.{loop_place, new_place, placed, width}
use Rattle.ch_copied.specs.Plans.{Plan}
use Rattle.ch_datacopy.specs.declared.cells.Cells.{Cells}
use Rattle.ch_datacopy.specs.Works.{AreKept, AreMoved, kept_body, move_body, move_offset}
use Rattle.ch_pieces.specs.declared.candidate.Candidate.{Candidate}
use Rattle.ch_space.specs.declared.piece.Piece.{Piece}
use Rattle.ch_space.specs.Built.{units}
use Rattle.ch_space.specs.Keeps.{places_of}
use Rattle.ch_space.specs.Pieces.{instances}
use Rattle.ch_timed.specs.declared.element.Label.TheVariants.{Move}

naturals : (ns : List ℕ) → map pos (map unsigned_abs (map pos ns)) ≡ map pos ns
naturals [] = refl
naturals (n ∷ ns) = ap (λ z. pos n ∷ z) (naturals ns)

place_natural : (p : Plan) (n : ℕ) → pos (unsigned_abs (new_place p (pos n))) ≡ new_place p (pos n)
place_natural p n = by (int_eq (pos n) (loop_place p))
  where
    w : ℕ
    w = (length p.ins + length p.outs) + 1

    up : (m k : ℕ) → pos (unsigned_abs (pos m +ℤ pos k)) ≡ pos m +ℤ pos k
    up m k = omega (arith, ints)

    some : (k : ℕ) → pos (unsigned_abs (pos n *ℤ pos w +ℤ pos k)) ≡ pos n *ℤ pos w +ℤ pos k
    some k = subst (λ z. pos (unsigned_abs (z +ℤ pos k)) ≡ z +ℤ pos k) (sym (pos-*ℤ-pos n w)) (up (n * w) k)

    by : (b : Bool) → pos (unsigned_abs (pos n *ℤ width p +ℤ (if b then pos (length p.ins) else pos 0))) ≡ pos n *ℤ width p +ℤ (if b then pos (length p.ins) else pos 0)
    by true = some (length p.ins)
    by false = some 0

places_natural : (p : Plan) (front : List ℤ) (ns : List ℕ) → map pos (map unsigned_abs (placed (new_place p) front (map pos ns))) ≡ placed (new_place p) front (map pos ns)
places_natural p [] [] = refl
places_natural p (g ∷ front) [] = refl
places_natural p [] (n ∷ ns) = ap₂ (λ z zs. z ∷ zs) (place_natural p n) (naturals ns)
places_natural p (g ∷ front) (n ∷ ns) = ap (λ z. pos n ∷ z) (by (int_eq (pos n) g) (places_natural p front ns))
  where
    by : (b : Bool) → map pos (map unsigned_abs (placed (new_place p) front (map pos ns))) ≡ placed (new_place p) front (map pos ns)
        → map pos (map unsigned_abs (if b then placed (new_place p) front (map pos ns) else map pos ns)) ≡ (if b then placed (new_place p) front (map pos ns) else map pos ns)
    by true e = e
    by false e = naturals ns

-- the old pieces

abbrev pub kept_candidate : Plan → Piece → Candidate
kept_candidate p q = record {
  piece = record { label = q.label; body = kept_body p q; levels = q.levels; hidden = q.hidden; system = q.system; origin = q.origin; places = q.places };
  places = map unsigned_abs (placed (new_place p) (take p.around p.ours) (places_of q));
  count = Some (length (instances q));
}

pub keeps_exist : (p : Plan) (qs : List Piece) → AreKept p qs (map (kept_candidate p) qs)
keeps_exist p [] = tt
keeps_exist p (q ∷ qs) = (
  record {
    label = refl;
    body = refl;
    levels = refl;
    hidden = refl;
    system = refl;
    origin = refl;
    places = places_natural p (take p.around p.ours) q.places;
    count = refl;
  },
  keeps_exist p qs,
)

-- the moves

map_take : (n : ℕ) (ns : List ℕ) → map pos (take n ns) ≡ take n (map pos ns)
map_take zero ns = refl
map_take (suc n) [] = refl
map_take (suc n) (m ∷ ns) = ap (λ z. pos m ∷ z) (map_take n ns)

map_both : (ns ms : List ℕ) → map pos (ns ++ ms) ≡ map pos ns ++ map pos ms
map_both [] ms = refl
map_both (n ∷ ns) ms = ap (λ z. pos n ∷ z) (map_both ns ms)

map_zeros : (n : ℕ) → map pos (replicate n 0) ≡ replicate n (pos 0)
map_zeros zero = refl
map_zeros (suc n) = ap (λ z. pos 0 ∷ z) (map_zeros n)

get_natural : (ns : List ℕ) (k : ℕ) → get_or (map pos ns) k (pos 0) ≡ pos (get_or ns k 0)
get_natural [] k = refl
get_natural (n ∷ ns) zero = refl
get_natural (n ∷ ns) (suc k) = get_natural ns k

module _ (p : Plan) (ours : List ℕ) (are : p.ours ≡ map pos ours) where
  abbrev pub move_at : ℕ → Cells → Candidate
  move_at k u = record {
    piece = record { label = Move (p.label + k); body = move_body p k; levels = u.levels; hidden = u.hidden; system = u.system; origin = units 0 u.levels; places = [] };
    places = take p.around ours ++ (get_or ours p.around 0 * ((length p.ins + length p.outs) + 1) + move_offset p k) ∷ replicate (length p.extents) 0;
    count = None;
  }

  move_place : (k : ℕ) → pos (get_or ours p.around 0 * ((length p.ins + length p.outs) + 1) + move_offset p k) ≡ loop_place p *ℤ width p +ℤ pos (move_offset p k)
  move_place k =
      let loop : loop_place p ≡ pos (get_or ours p.around 0) = ap (λ z. get_or z p.around (pos 0)) are ∙ get_natural ours p.around in
      let made : pos (get_or ours p.around 0) *ℤ pos ((length p.ins + length p.outs) + 1) ≡ pos (get_or ours p.around 0 * ((length p.ins + length p.outs) + 1)) = pos-*ℤ-pos _ _ in
      let all : loop_place p *ℤ width p ≡ pos (get_or ours p.around 0 * ((length p.ins + length p.outs) + 1)) = ap (λ z. z *ℤ width p) loop ∙ made in
      sum (get_or ours p.around 0 * ((length p.ins + length p.outs) + 1)) (move_offset p k) ∙ ap (λ z. z +ℤ pos (move_offset p k)) (sym all)
    where
      sum : (m n : ℕ) → pos (m + n) ≡ pos m +ℤ pos n
      sum m n = omega (arith, ints)

  abbrev pub moves_from : ℕ → List Cells → List Candidate
  moves_from k [] = []
  moves_from k (u ∷ us) = move_at k u ∷ moves_from (suc k) us

  pub moves_exist : (k : ℕ) (us : List Cells) → AreMoved p k us (moves_from k us)
  moves_exist k [] = tt
  moves_exist k (u ∷ us) = (
    record {
      label = refl;
      body = refl;
      levels = refl;
      hidden = refl;
      system = refl;
      origin = refl;
      places =
          map_both (take p.around ours) (_ ∷ replicate (length p.extents) 0)
          ∙ ap₂ (λ a b. a ++ b) (map_take p.around ours ∙ ap (take p.around) (sym are)) (ap₂ (λ a b. a ∷ b) (move_place k) (map_zeros (length p.extents)));
      count = refl;
    },
    moves_exist (suc k) us,
  )
