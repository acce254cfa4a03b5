-- Parts of points, and the instances of pieces that stand in them.
use Rattle.std.proofs.Common.{◌≡◌, refl, sym, ap, ap₂, ◌∙◌, subst, ℕ, zero, suc, ◌+◌, ◌<◌, ◌≤◌, ℤ, pos, ◌+ℤ◌, ◌*ℤ◌, true, List, [], ◌∷◌, ◌++◌, length, take, drop, get_or, arith, append_assoc, length-drop, length-take-le}
use Rattle.std.specs.Bool.{IsTrue}
use Rattle.std.proofs.lemmas.List.{take-append-drop, take_at, drop_at, drop-drop, get_or-drop, get_or-take}
use Rattle.ch_affine.specs.Affine.{dot, value}
use Rattle.ch_affine.specs.Form.{Form}
use Rattle.ch_affine.specs.Rows.{all_hold}
use Rattle.ch_affine.specs.declared.system.Range.{Range}
use Rattle.ch_poly.specs.Boxes.{at}
use Rattle.ch_poly.specs.Points.{begins, box_points}
use Rattle.ch_poly.proofs.Firsts.{InBox}
use Rattle.ch_timed.specs.Members.{In}
use Rattle.ch_meeting.specs.Drafts.{part}
use Rattle.ch_meeting.specs.Placed.{PairAt, pair_boxes}
use Rattle.ch_space.specs.declared.piece.Piece.{Piece}
use Rattle.ch_space.specs.Keeps.{IsWhole}
use Rattle.ch_space.specs.Pieces.{instances}
use Rattle.ch_space.proofs.Membership.{begins_take, box_points_in, filter_in, in_box_points, in_filter, in_instances, instances_in, length_inside, take_begins}

-- ranges end to end

pub both_inside : (cs bs : List Range) (x y : List ℤ) → InBox cs x → InBox bs y → InBox (cs ++ bs) (x ++ y)
both_inside [] bs [] y i j = j
both_inside [] bs (a ∷ x) y i j = absurd i
both_inside (r ∷ cs) bs [] y i j = absurd i
both_inside (r ∷ cs) bs (a ∷ x) y i j = (i.0, i.1, both_inside cs bs x y i.2 j)

inside_both : (cs bs : List Range) (z : List ℤ) → InBox (cs ++ bs) z → InBox cs (take (length cs) z) × InBox bs (drop (length cs) z)
inside_both [] bs z i = (tt, i)
inside_both (r ∷ cs) bs [] i = absurd i
inside_both (r ∷ cs) bs (a ∷ z) i = let p = inside_both cs bs z i.2 in ((i.0, i.1, p.0), p.1)

pub split_at : (cs bs : List Range) (o n : ℕ) (z : List ℤ) → length cs ≡ n → InBox (cs ++ bs) (drop o z) → InBox cs (part o n z) × InBox bs (drop (o + n) z)
split_at cs bs o n z e i =
    let p = inside_both cs bs (drop o z) i in (
      subst (λ m. InBox cs (take m (drop o z))) e p.0,
      subst (λ w. InBox bs w) (ap (λ m. drop m (drop o z)) e ∙ drop-drop n o z) p.1,
    )

-- parts of lists that are joined

abbrev pub joined : List (List ℤ) → List ℤ
joined [] = []
joined (w ∷ ws) = w ++ joined ws

abbrev pub before : List (List ℤ) → ℕ → ℕ
before [] k = 0
before (w ∷ ws) zero = 0
before (w ∷ ws) (suc k) = length w + before ws k

take_front : (w r : List ℤ) → take (length w) (w ++ r) ≡ w
take_front w r = take_at w r (length w) refl

-- what stands behind some blocks
pub behind_at : (ws : List (List ℤ)) (k o n : ℕ) → o ≡ before ws k → k < length ws → n ≡ length (get_or ws k []) → part o n (joined ws) ≡ get_or ws k []
behind_at [] k o n e l m = absurd (omega arith)
behind_at (w ∷ ws) zero o n e l m = ap₂ (λ a b. take b (drop a (w ++ joined ws))) e m ∙ take_front w (joined ws)
behind_at (w ∷ ws) (suc k) o n e l m =
    let front : drop o (w ++ joined ws) ≡ drop (before ws k) (joined ws) =
    ap (λ a. drop a (w ++ joined ws)) e ∙ sym (drop-drop (before ws k) (length w) (w ++ joined ws)) ∙ ap (drop (before ws k)) (drop_at w (joined ws) (length w) refl) in
    ap (take n) front ∙ behind_at ws k (before ws k) n refl (omega arith) m

-- lengths of parts

pub part_long : (o n : ℕ) (z : List ℤ) → o + n ≤ length z → length (part o n z) ≡ n
part_long o n z l = length-take-le n (drop o z) (let e = length-drop o z in omega arith)

-- sums over parts

pub dot_take : (cs z : List ℤ) (n : ℕ) → length cs ≤ n → dot cs (take n z) ≡ dot cs z
dot_take [] z n l = refl
dot_take (c ∷ cs) [] zero l = refl
dot_take (c ∷ cs) [] (suc n) l = refl
dot_take (c ∷ cs) (x ∷ z) zero l = absurd (omega arith)
dot_take (c ∷ cs) (x ∷ z) (suc n) l = ap (λ t. (c *ℤ x) +ℤ t) (dot_take cs z n (omega arith))

pub value_part : (f : Form) (o n : ℕ) (z : List ℤ) → length f.coefs ≤ n → value f (part o n z) ≡ value f (drop o z)
value_part f o n z l = ap (λ t. f.constant +ℤ t) (dot_take f.coefs (drop o z) n l)

pub at_part : (o n k : ℕ) (z : List ℤ) → k < n → at (part o n z) k ≡ at z (o + k)
at_part o n k z l = get_or-take n (drop o z) k (pos 0) l ∙ get_or-drop o z k (pos 0)

-- instances

begins_front : (xs hs : List ℤ) → begins xs (xs ++ hs) ≡ true
begins_front xs hs = subst (λ w. begins w (xs ++ hs) ≡ true) (take_front xs hs) (take_begins (length xs) (xs ++ hs))

abbrev pub Levels : Piece → List ℤ → Type 0
Levels p xs = InBox (take p.levels p.system.boxes) xs

abbrev pub Hidden : Piece → List ℤ → Type 0
Hidden p hs = InBox (drop p.levels p.system.boxes) hs

module _ (p : Piece) (w : IsWhole p) where
  pub levels_long : length (take p.levels p.system.boxes) ≡ p.levels
  levels_long = length-take-le p.levels p.system.boxes (let b = w.boxes in omega arith)

  pub hidden_long : length (drop p.levels p.system.boxes) ≡ p.hidden
  hidden_long = let b = w.boxes in let e = length-drop p.levels p.system.boxes in omega arith

  pub instance_here : (xs hs : List ℤ) → Levels p xs → Hidden p hs → IsTrue (all_hold p.system.rows (xs ++ hs)) → In xs (instances p)
  instance_here xs hs i j h = instances_in p xs (record {
    inside = i;
    point = xs ++ hs;
    is_point = filter_in (all_hold p.system.rows) (box_points p.system.boxes) (xs ++ hs)
        (box_points_in p.system.boxes (xs ++ hs)
        (subst (λ bs. InBox bs (xs ++ hs)) (take-append-drop p.levels p.system.boxes) (both_inside (take p.levels p.system.boxes) (drop p.levels p.system.boxes) xs hs i j))) h;
    front = begins_front xs hs;
  })

  -- an instance has hidden values
  pub hidden_of : (xs : List ℤ) → In xs (instances p) → (hs : List ℤ) × (Levels p xs × (Hidden p hs × IsTrue (all_hold p.system.rows (xs ++ hs))))
  hidden_of xs i =
      let s = in_instances p xs i in
      let f = in_filter (all_hold p.system.rows) (box_points p.system.boxes) s.point s.is_point in
      let inside = in_box_points p.system.boxes s.point f.0 in
      let b = inside_both (take p.levels p.system.boxes) (drop p.levels p.system.boxes) s.point
      (subst (λ bs. InBox bs s.point) (sym (take-append-drop p.levels p.system.boxes)) inside) in
      let long : length xs ≡ length (take p.levels p.system.boxes) = length_inside (take p.levels p.system.boxes) xs s.inside in
      let whole : xs ++ drop (length (take p.levels p.system.boxes)) s.point ≡ s.point =
      ap (λ n. xs ++ drop n s.point) (sym long) ∙ ap (λ t. t ++ drop (length xs) s.point) (sym (begins_take xs s.point s.front)) ∙ take-append-drop (length xs) s.point in
      (drop (length (take p.levels p.system.boxes)) s.point, (s.inside, (b.1, subst (λ t. IsTrue (all_hold p.system.rows t)) (sym whole) f.1)))

-- two pieces

pub pair_joined : (p q : Piece) (rest : List Range) → pair_boxes p q ++ rest
    ≡ take p.levels p.system.boxes ++ (take q.levels q.system.boxes ++ (drop p.levels p.system.boxes ++ (drop q.levels q.system.boxes ++ rest)))
pair_joined p q rest =
    let a : List Range = take p.levels p.system.boxes in
    let b : List Range = take q.levels q.system.boxes in
    let c : List Range = drop p.levels p.system.boxes in
    let d : List Range = drop q.levels q.system.boxes in
    append_assoc a (b ++ (c ++ d)) rest ∙ ap (λ t. a ++ t) (append_assoc b (c ++ d) rest ∙ ap (λ t. b ++ t) (append_assoc c d rest))

-- the parts of two pieces at a point are instances
pub pair_instances : (p q : Piece) (w : IsWhole p) (v : IsWhole q) (rest : List Range) (o : ℕ) (z : List ℤ) → InBox (pair_boxes p q ++ rest) (drop o z) → PairAt p q o z
    → In (part o p.levels z) (instances p) × In (part (o + p.levels) q.levels z) (instances q) × InBox rest (drop (o + p.levels + q.levels + p.hidden + q.hidden) z)
pair_instances p q w v rest o z i h =
    let a : List Range = take p.levels p.system.boxes in
    let b : List Range = take q.levels q.system.boxes in
    let c : List Range = drop p.levels p.system.boxes in
    let d : List Range = drop q.levels q.system.boxes in
    let j = subst (λ bs. InBox bs (drop o z)) (pair_joined p q rest) i in
    let s = split_at a (b ++ (c ++ (d ++ rest))) o p.levels z (levels_long p w) j in
    let t = split_at b (c ++ (d ++ rest)) (o + p.levels) q.levels z (levels_long q v) s.1 in
    let u = split_at c (d ++ rest) (o + p.levels + q.levels) p.hidden z (hidden_long p w) t.1 in
    let x = split_at d rest (o + p.levels + q.levels + p.hidden) q.hidden z (hidden_long q v) u.1 in (
      instance_here p w (part o p.levels z) (part (o + p.levels + q.levels) p.hidden z) s.0 u.0 h.0,
      instance_here q v (part (o + p.levels) q.levels z) (part (o + p.levels + q.levels + p.hidden) q.hidden z) t.0 x.0 h.1,
      x.1,
    )
