-- Pieces of which some are tiled make a space, which stands for the tiled list.
use Rattle.std.proofs.Common.{◌≡◌, refl, sym, ap, ◌∙◌, subst, ℕ, zero, suc, ◌+◌, ◌-◌, ◌*◌, ◌<◌, ◌≤◌, ℤ, pos, Bool, true, false, cond, if◌then◌else◌, None, List, [], ◌∷◌, ◌++◌, map, length, take, get_or, inl, inr, arith, length-take-le, Result, Ok, Err, IfOk}
use Rattle.ch_moved.specs.Room.{HasRoom, origin_range}
use Rattle.std.specs.List.{All}
use Rattle.std.specs.Ordering.{int_cmp}
use Rattle.std.specs.Cmp.Lexicographic.{slice_cmp}
use Rattle.std.specs.declared.alloc.AllocError.{AllocError}
use Rattle.std.specs.declared.cmp.Ordering.TheVariants.{Less}
use Rattle.std.proofs.lemmas.List.{take_more}
use Rattle.std.proofs.lemmas.List.Elements.{All-head, All-map, All-tail}
use Rattle.ch_affine.specs.Form.{Form}
use Rattle.ch_affine.specs.declared.system.Range.{Range}
use Rattle.ch_moved.specs.Changed.{AllLong}
use Rattle.ch_moved.specs.Substituted.{image, substituted}
use Rattle.ch_moved.proofs.Elements.{reindexed_element, reindexed_limits, same_iterators}
use Rattle.ch_moved.proofs.Limits.{more_limits}
use Rattle.ch_moved.proofs.Parting.{keeps_apart, keeps_order}
use Rattle.ch_moved.proofs.Replaced.{AllReplaced, IsReplaced, among_replaced, replaced_among, replaced_list, replaced_space}
use Rattle.ch_moved.proofs.Taken.{among_closed, closed_among}
use Rattle.ch_order.specs.Legal.{AreAmong}
use Rattle.ch_space.specs.declared.piece.Piece.{Piece}
use Rattle.ch_space.specs.Keeps.{AreApart, IsBounded, IsLimited, IsNarrow, IsSpace, IsWhole, farthest, most_commands, places_of}
use Rattle.ch_space.specs.Listed.{Listed}
use Rattle.ch_space.specs.Pieces.{element_at, instances, listed}
use Rattle.ch_space.proofs.PieceElements.{element_places}
use Rattle.ch_space.proofs.PieceNumbers.{nth_places}
use Rattle.ch_tile.specs.Layout.{tile_rows, tiled_boxes, tiles_of, untiled}
use Rattle.ch_tile.specs.Pieces.{AllBecome, Becomes, IsTiled}
use Rattle.ch_tile.specs.Tiled.{inserted, tiled, tiled_element, too_deep}
use Rattle.ch_moved.specs.Causes.{unshared}
use Rattle.ch_moved.proofs.Named.{deep_enough, item_whole, shares_last}
use Rattle.ch_tile.proofs.Allowed.{shallow_in}
use Rattle.ch_tile.proofs.Reindexing.{length_boxes}
use Rattle.ch_tile.proofs.TiledForms.{far_on, length_untiled, long_untiled, untiled_narrow}
use Rattle.ch_tile.proofs.TiledPieces.{all_inserted, tiles_bounded}
use Rattle.ch_tile.proofs.TiledPlaces.{tiled_part, tiled_places}
use Rattle.ch_tile.proofs.Deeper.{map_inserted, tiled_back, tiled_forth}
use Rattle.ch_timed.specs.Closed.{at_vector, closed_up}
use Rattle.ch_timed.specs.Groups.{in_group, piece}
use Rattle.ch_timed.specs.Members.{In}
use Rattle.ch_timed.specs.Timed.{step}
use Rattle.ch_timed.specs.Vectors.{places, shares, woven}
use Rattle.ch_timed.specs.declared.element.Element.{Element}

-- the ranges stay near

boxes_bounded : (m n l t j : ℕ) (bs : List Range) → m ≤ n → 0 < t → l < length bs → All (IsBounded m) bs → All (IsBounded n) (tiled_boxes j l t bs origin_range)
boxes_bounded m n l t j bs more some inner h =
    let wider : All (IsBounded n) bs = λ k d i. (let b = h k d i in record { low = let z = b.low in omega arith; high = let z = b.high in omega arith }) in
    all_inserted (IsBounded n) j (tiles_of t (get_or bs l origin_range)) bs (tiles_bounded n t (get_or bs l origin_range) some (wider l origin_range inner)) wider

-- a tiled piece takes the place of its old one

-- the elements whose places pass the test, tiled
abbrev pub tiled_where : (List ℤ → Bool) → ℕ → ℕ → ℕ → Element → Element
tiled_where inside l t j e = if inside (places e.vector) then tiled_element (pos (suc l)) (pos t) (pos (suc j)) e else e

keeps_by : (b : Bool) (e : Element) (l t j : ℕ) → step (cond b (tiled_element (pos (suc l)) (pos t) (pos (suc j)) e) e) ≡ step e
keeps_by true e l t j = refl
keeps_by false e l t j = refl

keeps_steps : (inside : List ℤ → Bool) (l t j : ℕ) (e : Element) → step (tiled_where inside l t j e) ≡ step e
keeps_steps inside l t j e = keeps_by (inside (places e.vector)) e l t j

same_weight : (w : ℕ) → w * 1 ≡ w
same_weight w = omega arith

module _ (base : List ℤ) (l t j w c : ℕ) (heavy : 1 ≤ w) (some : 0 < t) (outer : j ≤ l) where
  abbrev inside : List ℤ → Bool
  inside = shares (suc j) base

  abbrev placed : List ℤ → List ℤ
  placed = tiled_places (suc j) base

  goes_deeper : (p : Piece) (xs : List ℤ) → IsWhole p → In xs (instances p) → inside (places_of p) ≡ true
      → tiled_where inside l t j (element_at p xs) ≡ tiled_element (pos (suc l)) (pos t) (pos (suc j)) (element_at p xs)
  goes_deeper p xs whole i b =
      ap (λ z. cond z (tiled_element (pos (suc l)) (pos t) (pos (suc j)) (element_at p xs)) (element_at p xs)) (ap inside (element_places p xs whole i) ∙ b)

  stays : (p : Piece) (xs : List ℤ) → IsWhole p → In xs (instances p) → inside (places_of p) ≡ false → tiled_where inside l t j (element_at p xs) ≡ element_at p xs
  stays p xs whole i b =
      ap (λ z. cond z (tiled_element (pos (suc l)) (pos t) (pos (suc j)) (element_at p xs)) (element_at p xs)) (ap inside (element_places p xs whole i) ∙ b)

  module _ (p q : Piece) (whole : IsWhole p) (limits : IsLimited w c p) (b : inside (places_of p) ≡ true) (inner : l < p.levels) (shallow : p.levels < 10) (r : IsTiled l t j p q) where
    abbrev forms : List Form
    forms = untiled p.levels j

    abbrev ranges : List Range
    ranges = tiled_boxes j l t (take p.levels p.system.boxes) origin_range

    long_ranges : length ranges ≡ suc p.levels
    long_ranges = length_boxes p j l t origin_range whole (omega arith)

    many : length forms ≡ p.levels
    many = length_untiled p.levels j (omega arith)

    long : AllLong (length ranges) forms
    long = subst (λ n. AllLong n forms) (sym long_ranges) (long_untiled p.levels j)

    element : (ys : List ℤ) → length ys ≡ suc p.levels → element_at q ys ≡ at_vector (element_at p (image forms ys)) (woven (places_of q) ys)
    element ys e = reindexed_element p q forms ranges (tile_rows p.levels j l t) (inserted (suc j) 0 p.places) whole many long r ys (e ∙ sym long_ranges)

    narrow : All (IsNarrow w (c + 1)) (map (substituted (length ranges) forms) p.origin)
    narrow =
        subst (λ n. All (IsNarrow w (c + 1)) (map (substituted n forms) p.origin)) (sym long_ranges)
        (All-map (IsNarrow w (c + 1)) (substituted (suc p.levels) forms) p.origin
        (λ k d h. untiled_narrow p.levels j w c (get_or p.origin k d) (omega arith) heavy (whole.origin k d h) (limits.origin k d h)))

    bounded : All (IsBounded (farthest w (c + 1))) ranges
    bounded =
        let n = whole.boxes in
        let m = length-take-le p.levels p.system.boxes (omega arith) in
        boxes_bounded (farthest w c) (farthest w (c + 1)) l t j (take p.levels p.system.boxes) (far_on w c heavy) some (omega arith) limits.boxes

    deeper : IsReplaced placed (tiled_where inside l t j) w (c + 1) p q
    deeper = record {
      whole = r.whole;
      places =
          ap (map pos) r.places ∙ map_inserted pos (suc j) 0 p.places
          ∙ sym (ap (λ z. cond z (inserted (suc j) (pos 0) (places_of p)) (places_of p)) b);
      label = r.label;
      body = r.body;
      iterators = same_iterators p q forms ranges (tile_rows p.levels j l t) (inserted (suc j) 0 p.places) whole many long r;
      limited =
          reindexed_limits p q forms ranges (tile_rows p.levels j l t) (inserted (suc j) 0 p.places) whole many long r w c w limits (let n = long_ranges in omega arith) bounded narrow;
      forth = λ xs i.
          let f = tiled_forth p q whole j l t origin_range some outer inner r element xs i in
          (f.0, (f.1.0, goes_deeper p xs whole i b ∙ f.1.1));
      back = λ ys i.
          let f = tiled_back p q whole j l t origin_range some outer inner r element ys i in
          (f.0, (f.1.0, goes_deeper p f.0 whole f.1.0 b ∙ f.1.1));
    }

  same : (p : Piece) → IsWhole p → IsLimited w c p → inside (places_of p) ≡ false → IsReplaced placed (tiled_where inside l t j) w (c + 1) p p
  same p whole limits b = record {
    whole = whole;
    places = sym (ap (λ z. cond z (inserted (suc j) (pos 0) (places_of p)) (places_of p)) b);
    label = refl;
    body = refl;
    iterators = refl;
    limited = subst (λ v. IsLimited v (c + 1) p) (same_weight w) (more_limits w c 1 p heavy (omega arith) limits);
    forth = λ xs i. (xs, (i, stays p xs whole i b));
    back = λ ys i. (ys, (i, stays p ys whole i b));
  }

  replaced_by : (b : Bool) (p q : Piece) → inside (places_of p) ≡ b → IsWhole p → IsLimited w c p → (b ≡ true → (l < p.levels) × (p.levels < 10)) → Becomes b l t j p q
      → IsReplaced placed (tiled_where inside l t j) w (c + 1) p q
  replaced_by true p q e whole limits d h = deeper p q whole limits e (d refl).0 (d refl).1 h
  replaced_by false p q e whole limits d h = subst (IsReplaced placed (tiled_where inside l t j) w (c + 1) p) (sym h) (same p whole limits e)

  all_replaced : (ps qs : List Piece) → AreApart ps → All (IsLimited w c) ps → ((p : Piece) → In p ps → inside (places_of p) ≡ true → (l < p.levels) × (p.levels < 10)) → AllBecome inside l t j ps qs
      → AllReplaced placed (tiled_where inside l t j) w (c + 1) ps qs
  all_replaced [] [] a h d r = tt
  all_replaced [] (q ∷ qs) a h d r = absurd r
  all_replaced (p ∷ ps) [] a h d r = absurd r
  all_replaced (p ∷ ps) (q ∷ qs) a h d r = (
    replaced_by (inside (places_of p)) p q refl a.0 (All-head (IsLimited w c) p ps h) (d p (inl refl)) r.0,
    all_replaced ps qs a.3 (All-tail (IsLimited w c) p ps h) (λ s i. d s (inr i)) r.1,
  )

-- a member has a number
in_nth : (ps : List Piece) (p : Piece) → In p ps → (k : ℕ) × ((k < length ps) × ((d : Piece) → p ≡ get_or ps k d))
in_nth [] p i = absurd i
in_nth (q ∷ ps) p (inl e) = (0, (omega arith, λ d. sym e))
in_nth (q ∷ ps) p (inr i) = let n = in_nth ps p i in (suc n.0, (let h = n.1.0 in omega arith, λ d. n.1.1 d))

-- from the space before
module _ (s l t j arrays w c : ℕ) (ps qs : List Piece) (counts : List ℕ) (temps : List (List ℕ)) (some : 0 < t) (outer : j ≤ l) (space : IsSpace arrays ps counts temps w c)
    (shared : unshared (listed ps) s (suc j) (suc l) ≡ None) (shallow : too_deep (listed ps) s (suc j) ≡ None)
    (r : AllBecome (in_group (listed ps) s (suc j)) l t j ps qs) where
  abbrev base : List ℤ
  base = piece (listed ps) s

  deep : (p : Piece) → In p ps → shares (suc j) base (places_of p) ≡ true → (l < p.levels) × (p.levels < 10)
  deep p i b =
      let n = in_nth ps p i in
      let e = n.1.1 p in (
        deep_enough (suc l) base p (item_whole ps n.0 p space.apart n.1.0 e) (shares_last ps s n.0 (suc j) (suc l) p space.apart n.1.0 e shared b),
        shallow_in ps s n.0 (suc j) p space.apart n.1.0 e shallow b,
      )

  every : AllReplaced (tiled_places (suc j) base) (tiled_where (shares (suc j) base) l t j) w (c + 1) ps qs
  every = all_replaced base l t j w c space.some_weight some outer ps qs space.apart space.limited deep r

  ordered : (p q : Piece) → In p ps → In q ps → slice_cmp int_cmp (places_of p) (places_of q) ≡ Less
      → slice_cmp int_cmp (tiled_places (suc j) base (places_of p)) (tiled_places (suc j) base (places_of q)) ≡ Less
  ordered = keeps_order (tiled_places (suc j) base) ps space.apart space.well_formed (λ p q i k h. tiled_part (suc j) base (places_of p) (places_of q) h)

  pub made_space : c < most_commands → IsSpace arrays qs counts temps w (c + 1)
  made_space few =
      replaced_space (tiled_places (suc j) base) (tiled_where (shares (suc j) base) l t j) (keeps_steps (shares (suc j) base) l t j) w (c + 1) arrays ps qs counts temps w c space every ordered
      (keeps_apart (tiled_places (suc j) base) ps space.apart space.well_formed (λ p q i k h. tiled_part (suc j) base (places_of p) (places_of q) h)) (omega arith) (omega arith)
      space.some_weight space.small_weight

  pub made_list : closed_up (listed qs) ≡ tiled (listed ps) (pos s) (pos (suc l)) (pos t) (pos (suc j))
  made_list =
      ap closed_up (replaced_list (tiled_places (suc j) base) (tiled_where (shares (suc j) base) l t j) (keeps_steps (shares (suc j) base) l t j) w (c + 1) arrays ps qs counts temps w c space every ordered)

  -- the same steps are executed
  pub made_among : c < most_commands → AreAmong (listed ps) (closed_up (listed qs))
  made_among few =
      among_closed (listed ps) (listed qs) (made_space few).well_formed
      (replaced_among (tiled_places (suc j) base) (tiled_where (shares (suc j) base) l t j) (keeps_steps (shares (suc j) base) l t j) w (c + 1) arrays ps qs counts temps w c space every ordered)

  pub among_made : c < most_commands → AreAmong (closed_up (listed qs)) (listed ps)
  among_made few =
      closed_among (listed qs) (listed ps) (made_space few).well_formed
      (among_replaced (tiled_places (suc j) base) (tiled_where (shares (suc j) base) l t j) (keeps_steps (shares (suc j) base) l t j) w (c + 1) arrays ps qs counts temps w c space every ordered)

-- as the code has it: what the space before is seen as, and copies of its parts
pub record Makes (s level t outer w : ℕ) (qs : List Piece) (counts : List ℕ) (before : Listed) : Type 0 where
  pub space : IsSpace before.arrays qs counts before.temps w (before.commands + 1)
  pub list : closed_up (listed qs) ≡ tiled before.list (pos s) (pos level) (pos t) (pos outer)
  pub kept : AreAmong before.list (closed_up (listed qs))
  pub no_others : AreAmong (closed_up (listed qs)) before.list

makes_from : (s l t j arrays w c : ℕ) (ps qs : List Piece) (counts : List ℕ) (temps : List (List ℕ)) → 0 < t → j ≤ l → IsSpace arrays ps counts temps w c
    → unshared (listed ps) s (suc j) (suc l) ≡ None → too_deep (listed ps) s (suc j) ≡ None → AllBecome (in_group (listed ps) s (suc j)) l t j ps qs → c < most_commands
    → Makes s (suc l) t (suc j) w qs counts (record { list = listed ps; arrays = arrays; temps = temps; weight = w; commands = c })
makes_from s l t j arrays w c ps qs counts temps some outer space shared shallow r few = record {
  space = made_space s l t j arrays w c ps qs counts temps some outer space shared shallow r few;
  list = made_list s l t j arrays w c ps qs counts temps some outer space shared shallow r;
  kept = made_among s l t j arrays w c ps qs counts temps some outer space shared shallow r few;
  no_others = among_made s l t j arrays w c ps qs counts temps some outer space shared shallow r few;
}

pub makes : (s level t outer arrays w c : ℕ) (ps others qs : List Piece) (counts copies : List ℕ) (temps : List (List ℕ)) (before : Listed) → 1 ≤ t → 1 ≤ outer → outer ≤ level
    → IsSpace arrays ps counts temps w c → record { list = listed ps; arrays = arrays; temps = temps; weight = w; commands = c } ≡ before → before.commands < most_commands
    → others ≡ ps → copies ≡ counts → unshared before.list s outer level ≡ None → too_deep before.list s outer ≡ None
    → AllBecome (in_group (listed others) s outer) (level - 1) t (outer - 1) others qs → Makes s level t outer w qs copies before
makes s zero t outer arrays w c ps others qs counts copies temps before some around inside space view few o k shared shallow r = absurd (omega arith)
makes s (suc l) t zero arrays w c ps others qs counts copies temps before some around inside space view few o k shared shallow r = absurd (omega arith)
makes s (suc l) t (suc j) arrays w c ps others qs counts copies temps before some around inside space view few o k shared shallow r =
    let level : suc l - 1 ≡ l = omega arith in
    let outer : suc j - 1 ≡ j = omega arith in
    let a = subst (λ z. AllBecome (in_group (listed z) s (suc j)) (suc l - 1) t (suc j - 1) z qs) o r in
    let b = subst (λ m. AllBecome (in_group (listed ps) s (suc j)) m t (suc j - 1) ps qs) level a in
    let d = subst (λ m. AllBecome (in_group (listed ps) s (suc j)) l t m ps qs) outer b in
    let e = ap (λ (z : Listed). z.commands) view in
    let f = ap (λ (z : Listed). z.list) view in
    subst (λ z. Makes s (suc l) t (suc j) w qs z before) (sym k)
    (subst (Makes s (suc l) t (suc j) w qs counts) view
    (makes_from s l t j arrays w c ps qs counts temps (omega arith) (omega arith) space (ap (λ z. unshared z s (suc j) (suc l)) f ∙ shared) (ap (λ z. too_deep z s (suc j)) f ∙ shallow) d (omega arith)))

-- what holds of the closed up list holds of the list of the space
pub kept_in : (r : Result Listed AllocError) (list : List Element) (P : List Element → Type 0) → IfOk r (λ new. new.list ≡ closed_up list) → P (closed_up list) → IfOk r (λ new. P new.list)
kept_in (Ok new) list P e h = subst P (sym e) h
kept_in (Err x) list P e h = tt

pub all_room : (arrays w c : ℕ) (ps : List Piece) (counts : List ℕ) (temps : List (List ℕ)) → IsSpace arrays ps counts temps w c → c < most_commands → All (HasRoom 1) ps
all_room arrays w c ps counts temps space few k d h = record {
  weight = w;
  commands = c;
  limited = space.limited k d h;
  some = space.some_weight;
  small = let h = space.small_weight in omega arith;
  few = few;
}

-- pieces one after another

module _ (inside : List ℤ → Bool) (l t j : ℕ) where
  more_become : (ps qs : List Piece) (p q : Piece) → AllBecome inside l t j ps qs → Becomes (inside (places_of p)) l t j p q → AllBecome inside l t j (ps ++ p ∷ []) (qs ++ q ∷ [])
  more_become [] [] p q a b = (b, tt)
  more_become [] (s ∷ qs) p q a b = absurd a
  more_become (r ∷ ps) [] p q a b = absurd a
  more_become (r ∷ ps) (s ∷ qs) p q a b = (a.0, more_become ps qs p q a.1 b)

  pub next_become : (ps qs next : List Piece) (k : ℕ) (p q : Piece) (b : Bool) → k < length ps → p ≡ get_or ps k p → b ≡ inside (places_of p) → AllBecome inside l t j (take k ps) qs → Becomes b l t j p q
      → next ≡ qs ++ q ∷ [] → AllBecome inside l t j (take (k + 1) ps) next
  next_become ps qs next k p q b less is e a h n =
      let f : take (k + 1) ps ≡ take k ps ++ p ∷ [] = take_more ps k p less ∙ ap (λ x. take k ps ++ x ∷ []) (sym is) in
      subst (λ z. AllBecome inside l t j (take (k + 1) ps) z) (sym n)
      (subst (λ z. AllBecome inside l t j z (qs ++ q ∷ [])) (sym f) (more_become (take k ps) qs p q a (subst (λ z. Becomes z l t j p q) e h)))

-- the pieces that are tiled with another one
pub is_inside : (ps : List Piece) (s outer : ℕ) (d p : Piece) (ours theirs : List ℕ) (b : Bool) → AreApart ps → s < length ps → ours ≡ (get_or ps s d).places → theirs ≡ p.places
    → b ≡ shares outer (map pos ours) (map pos theirs) → b ≡ in_group (listed ps) s outer (places_of p)
is_inside ps s outer d p ours theirs b a l o t h =
    h ∙ ap (λ z. shares outer (map pos ours) (map pos z)) t ∙ ap (λ z. shares outer z (places_of p)) (ap (map pos) o ∙ sym (nth_places ps s d a l))
