-- Steps of the loops, and what writing to places gives.
use Rattle.std.proofs.Common.{◌≡◌, refl, sym, ap, ap₂, ◌∙◌, subst, ℕ, ◌+◌, ◌-◌, ◌*◌, ◌<◌, ◌≤◌, ℤ, pos, ◌+ℤ◌, ◌*ℤ◌, int_eq, Bool, true, false, cond, None, List, [], ◌∷◌, ◌++◌, length, map, set, take, drop, get_or, arith}
use Rattle.std.specs.List.{list_any}
use Rattle.std.proofs.lemmas.Int.{ints}
use Rattle.std.proofs.lemmas.List.{get_or-map, length-set, map-set, take_at, take_more}
use Rattle.std.proofs.Math.IntN.{pos-*ℤ-pos}
use Rattle.ch_fuse.specs.Fused.{fused_places, place_at}
use Rattle.ch_fuse.specs.Replaced.{ArePlaced, IsPlaced}
use Rattle.ch_moved.specs.Arguments.{is_piece}
use Rattle.ch_moved.specs.Causes.{no_piece}
use Rattle.ch_moved.proofs.Named.{passes}
use Rattle.ch_pieces.specs.declared.candidate.Candidate.{Candidate}
use Rattle.ch_space.specs.declared.piece.Piece.{Piece}
use Rattle.ch_space.specs.Keeps.{places_of}
use Rattle.ch_space.proofs.PieceNumbers.{nth_in}
use Rattle.ch_timed.specs.Closed.{put_number}
use Rattle.ch_timed.specs.declared.element.Element.{Element}

put_by : (b : Bool) (x y : ℤ) (ys rest : List ℤ) → rest ≡ cond (list_any (int_eq x) ys) ys (ys ++ x ∷ []) → int_eq x y ≡ b
    → cond b (y ∷ ys) (y ∷ rest) ≡ cond (list_any (int_eq x) (y ∷ ys)) (y ∷ ys) ((y ∷ ys) ++ x ∷ [])
put_by true x y ys rest h e = rw e refl
put_by false x y ys rest h e = rw e (ap (λ z. y ∷ z) h ∙ inside (list_any (int_eq x) ys))
  where
    inside : (b : Bool) → (y ∷ cond b ys (ys ++ x ∷ [])) ≡ cond b (y ∷ ys) (y ∷ (ys ++ x ∷ []))
    inside true = refl
    inside false = refl

put_is : (x : ℤ) (ys : List ℤ) → put_number x ys ≡ cond (list_any (int_eq x) ys) ys (ys ++ x ∷ [])
put_is x [] = refl
put_is x (y ∷ ys) = put_by (int_eq x y) x y ys (put_number x ys) (put_is x ys) refl

pub put_there : (x : ℤ) (ys : List ℤ) → list_any (int_eq x) ys ≡ true → ys ≡ put_number x ys
put_there x ys e = sym (put_is x ys ∙ rw e refl)

pub put_more : (x : ℤ) (ys : List ℤ) → list_any (int_eq x) ys ≡ false → ys ++ x ∷ [] ≡ put_number x ys
put_more x ys e = sym (put_is x ys ∙ rw e refl)

pub named_piece : (list : List Element) (numbers : List ℤ) (k : ℕ) → no_piece list numbers ≡ None → k < length numbers → is_piece list (get_or numbers k (pos 0)) ≡ true
named_piece list numbers k e l = passes 1 (is_piece list) numbers (get_or numbers k (pos 0)) e (nth_in numbers k (pos 0) l)

-- numbers written to places

pub written : (r s xs : List ℕ) (k b : ℕ) → r ≡ xs → s ≡ r → take (length r) (set s k b ++ drop (length (set s k b)) r) ≡ set xs k b
written r s xs k b e f =
    let n = length-set s k b in
    let m = ap length f in
    take_at (set s k b) (drop (length (set s k b)) r) (length r) (omega arith) ∙ ap (λ z. set z k b) (f ∙ e)

pub place_read : (xs : List ℕ) (k p : ℕ) → k < length xs → p ≡ get_or xs k 0 → place_at k (map pos xs) ≡ pos p
place_read xs k p l e = get_or-map pos xs k 0 (pos 0) l ∙ ap pos (sym e)

sum_is : (a b c : ℕ) → pos (a * b + c) ≡ (pos a *ℤ pos b) +ℤ pos c
sum_is a b c = let e = pos-*ℤ-pos a b in omega (arith, ints)

pub room_written : (r s xs : List ℕ) (k p room more : ℕ) → k < length xs → p ≡ get_or xs k 0 → r ≡ xs → s ≡ r
    → map pos (take (length r) (set s k (p * room + more) ++ drop (length (set s k (p * room + more))) r)) ≡ set (map pos xs) k (place_at k (map pos xs) *ℤ pos room +ℤ pos more)
room_written r s xs k p room more l e f g =
    ap (map pos) (written r s xs k (p * room + more) f g) ∙ map-set pos xs k (p * room + more)
    ∙ ap (set (map pos xs) k) (sum_is p room more ∙ ap (λ z. z *ℤ pos room +ℤ pos more) (sym (place_read xs k p l e)))

pub both_written : (r s next t xs : List ℕ) (level p q width first : ℕ) → 1 ≤ level → level < length xs → p ≡ get_or xs (level - 1) 0 → q ≡ get_or xs level 0 → r ≡ xs → s ≡ r
    → next ≡ take (length r) (set s level (p * width + q) ++ drop (length (set s level (p * width + q))) r) → t ≡ next
    → map pos (take (length next) (set t (level - 1) first ++ drop (length (set t (level - 1) first)) next)) ≡ fused_places level (pos width) (pos first) (map pos xs)
both_written r s next t xs level p q width first some l e f g h n m =
    let once : next ≡ set xs level (p * width + q) = n ∙ written r s xs level (p * width + q) g h in
    ap (map pos) (written next t (set xs level (p * width + q)) (level - 1) first once m) ∙ map-set pos (set xs level (p * width + q)) (level - 1) first
    ∙ ap (λ z. set z (level - 1) (pos first)) (map-set pos xs level (p * width + q)
    ∙ ap (set (map pos xs) level) (sum_is p width q ∙ ap₂ (λ x y. x *ℤ pos width +ℤ y) (sym (place_read xs (level - 1) p (omega arith) e)) (sym (place_read xs level q l f))))

-- candidates one after another

module _ (new : List ℤ → List ℤ) where
  more_placed : (ps : List Piece) (cs : List Candidate) (p : Piece) (c : Candidate) → ArePlaced new ps cs → IsPlaced (new (places_of p)) p c → ArePlaced new (ps ++ p ∷ []) (cs ++ c ∷ [])
  more_placed [] [] p c a b = (b, tt)
  more_placed [] (d ∷ cs) p c a b = absurd a
  more_placed (r ∷ ps) [] p c a b = absurd a
  more_placed (r ∷ ps) (d ∷ cs) p c a b = (a.0, more_placed ps cs p c a.1 b)

  pub next_placed : (ps : List Piece) (cs next : List Candidate) (k : ℕ) (p : Piece) (c : Candidate) (places : List ℤ) → k < length ps → p ≡ get_or ps k p → places ≡ new (places_of p)
      → ArePlaced new (take k ps) cs → IsPlaced places p c → next ≡ cs ++ c ∷ [] → ArePlaced new (take (k + 1) ps) next
  next_placed ps cs next k p c places l is e a b n =
      let f : take (k + 1) ps ≡ take k ps ++ p ∷ [] = take_more ps k p l ∙ ap (λ x. take k ps ++ x ∷ []) (sym is) in
      subst (ArePlaced new (take (k + 1) ps)) (sym n)
      (subst (λ z. ArePlaced new z (cs ++ c ∷ [])) (sym f) (more_placed (take k ps) cs p c a (subst (λ z. IsPlaced z p c) e b)))
