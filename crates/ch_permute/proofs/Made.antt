-- Pieces of which some changed make a space, which stands for the moved list.
use Rattle.std.proofs.Common.{◌≡◌, refl, sym, ap, ap₂, ◌∙◌, subst, ℕ, ◌+◌, ◌*◌, ◌<◌, ◌≤◌, ℤ, Bool, true, false, cond, List, [], ◌∷◌, arith, Result, Ok, Err, IfOk}
use Rattle.ch_moved.specs.Room.{HasRoom}
use Rattle.std.specs.List.{All}
use Rattle.std.specs.declared.alloc.AllocError.{AllocError}
use Rattle.std.proofs.lemmas.Nat.{mul-le}
use Rattle.std.proofs.lemmas.List.Elements.{All-head, All-tail}
use Rattle.ch_moved.specs.Moved.{moved, revalued}
use Rattle.ch_moved.proofs.Remade.{AllRemade, IsRemade, among_remade, remade_among, remade_list, remade_space}
use Rattle.ch_moved.proofs.Taken.{among_closed, closed_among}
use Rattle.ch_order.specs.Legal.{AreAmong}
use Rattle.ch_permute.specs.Changed.{AllBecome, Becomes}
use Rattle.ch_moved.proofs.Limits.{more_limits}
use Rattle.ch_space.specs.declared.piece.Piece.{Piece}
use Rattle.ch_space.specs.Keeps.{AreApart, IsLimited, IsSpace, IsWhole, most_commands, most_weight, places_of}
use Rattle.ch_space.specs.Listed.{Listed}
use Rattle.ch_space.specs.Pieces.{element_at, instances, listed}
use Rattle.ch_space.proofs.PieceElements.{element_places, element_values}
use Rattle.ch_timed.specs.Closed.{at_vector, closed_up}
use Rattle.ch_timed.specs.Members.{In}
use Rattle.ch_timed.specs.Timed.{is_well_formed, step}
use Rattle.ch_timed.specs.Vectors.{places, values, woven}
use Rattle.ch_timed.specs.declared.element.Element.{Element}

keeps_by : (b : Bool) (e : Element) (v : List ℤ) → step (cond b (at_vector e v) e) ≡ step e
keeps_by true e v = refl
keeps_by false e v = refl

pub keeps_steps : (inside : List ℤ → Bool) (new : List ℤ → List ℤ) (e : Element) → step (revalued inside new e) ≡ step e
keeps_steps inside new e = keeps_by (inside (places e.vector)) e (woven (places e.vector) (new (values e.vector)))

module _ (inside : List ℤ → Bool) (new : List ℤ → List ℤ) (by w c : ℕ) (some : 1 ≤ w) (grows : 1 ≤ by) where
  moved_at : (p : Piece) (xs : List ℤ) → IsWhole p → In xs (instances p) → inside (places_of p) ≡ true → revalued inside new (element_at p xs) ≡ at_vector (element_at p xs) (woven (places_of p) (new xs))
  moved_at p xs whole i t =
      let e = element_at p xs in
      let a = element_places p xs whole i in
      let b = element_values p xs whole i in
      ap (λ z. cond z (at_vector e (woven (places e.vector) (new (values e.vector)))) e) (ap inside a ∙ t) ∙ ap₂ (λ x y. at_vector e (woven x (new y))) a b

  stays_at : (p : Piece) (xs : List ℤ) → IsWhole p → In xs (instances p) → inside (places_of p) ≡ false → revalued inside new (element_at p xs) ≡ element_at p xs
  stays_at p xs whole i t =
      let e = element_at p xs in
      ap (λ z. cond z (at_vector e (woven (places e.vector) (new (values e.vector)))) e) (ap inside (element_places p xs whole i) ∙ t)

  remade_by : (b : Bool) (p q : Piece) → inside (places_of p) ≡ b → IsWhole p → IsLimited w c p → Becomes b new by p q → IsRemade (revalued inside new) (w * by) (c + 1) p q
  remade_by true p q t whole l h = record {
    whole = h.whole;
    places = h.places;
    label = h.label;
    body = h.body;
    iterators = h.iterators;
    limited = h.limited w c some grows l;
    forth = λ xs i. (new xs, (h.forth xs i, moved_at p xs whole i t ∙ h.element xs i));
    back = λ ys i.
        let r = h.back ys i in
        (r.0, (r.1.0, moved_at p r.0 whole r.1.0 t ∙ h.element r.0 r.1.0 ∙ ap (element_at q) r.1.1));
  }
  remade_by false p q t whole l h = subst (IsRemade (revalued inside new) (w * by) (c + 1) p) (sym h) (record {
    whole = whole;
    places = refl;
    label = refl;
    body = refl;
    iterators = refl;
    limited = more_limits w c by p some grows l;
    forth = λ xs i. (xs, (i, stays_at p xs whole i t));
    back = λ ys i. (ys, (i, stays_at p ys whole i t));
  })

  pub all_remade : (ps qs : List Piece) → AreApart ps → All (IsLimited w c) ps → AllBecome inside new by ps qs → AllRemade (revalued inside new) (w * by) (c + 1) ps qs
  all_remade [] [] a l h = tt
  all_remade [] (q ∷ qs) a l h = absurd h
  all_remade (p ∷ ps) [] a l h = absurd h
  all_remade (p ∷ ps) (q ∷ qs) a l h =
      (remade_by (inside (places_of p)) p q refl a.0 (All-head (IsLimited w c) p ps l) h.0, all_remade ps qs a.3 (All-tail (IsLimited w c) p ps l) h.1)

-- from the space before
module _ (inside : List ℤ → Bool) (new : List ℤ → List ℤ) (by arrays w c : ℕ) (ps qs : List Piece) (counts : List ℕ) (temps : List (List ℕ)) (grows : 1 ≤ by)
    (space : IsSpace arrays ps counts temps w c) (h : AllBecome inside new by ps qs) where
  pub made_space : c < most_commands → w * by ≤ most_weight → IsSpace arrays qs counts temps (w * by) (c + 1)
  made_space few light =
      let s = space.some_weight in
      let one : w * 1 ≤ w * by = mul-le w 1 w by (omega arith) grows in
      remade_space (revalued inside new) (keeps_steps inside new) (w * by) (c + 1) arrays ps qs counts temps w c space
      (all_remade inside new by w c space.some_weight grows ps qs space.apart space.limited h) (omega arith) (omega arith) (omega arith) light

  pub made_list : closed_up (listed qs) ≡ moved (revalued inside new) (listed ps)
  made_list =
      ap closed_up (remade_list (revalued inside new) (keeps_steps inside new) (w * by) (c + 1) arrays ps qs counts temps w c space
      (all_remade inside new by w c space.some_weight grows ps qs space.apart space.limited h))

  made_fine : c < most_commands → w * by ≤ most_weight → is_well_formed (listed qs) ≡ true
  made_fine few light = (made_space few light).well_formed

  -- the same steps are executed
  pub made_among : c < most_commands → w * by ≤ most_weight → AreAmong (listed ps) (closed_up (listed qs))
  made_among few light =
      among_closed (listed ps) (listed qs) (made_fine few light)
      (remade_among (revalued inside new) (keeps_steps inside new) (w * by) (c + 1) arrays ps qs counts temps w c space
      (all_remade inside new by w c space.some_weight grows ps qs space.apart space.limited h))

  pub among_made : c < most_commands → w * by ≤ most_weight → AreAmong (closed_up (listed qs)) (listed ps)
  among_made few light =
      closed_among (listed qs) (listed ps) (made_fine few light)
      (among_remade (revalued inside new) (keeps_steps inside new) (w * by) (c + 1) arrays ps qs counts temps w c space
      (all_remade inside new by w c space.some_weight grows ps qs space.apart space.limited h))

pub all_room : (arrays w c by : ℕ) (ps : List Piece) (counts : List ℕ) (temps : List (List ℕ)) → IsSpace arrays ps counts temps w c → c < most_commands → w * by ≤ most_weight → All (HasRoom by) ps
all_room arrays w c by ps counts temps space few light k d l = record {
  weight = w;
  commands = c;
  limited = space.limited k d l;
  some = space.some_weight;
  small = light;
  few = few;
}

-- as the code has it: what the space before is seen as, and copies of its parts
pub makes : (inside : List Element → List ℤ → Bool) (new : List ℤ → List ℤ) (by arrays w c : ℕ) (ps others qs : List Piece) (counts copies : List ℕ) (temps : List (List ℕ)) (l : Listed) → 1 ≤ by
    → IsSpace arrays ps counts temps w c → record { list = listed ps; arrays = arrays; temps = temps; weight = w; commands = c } ≡ l → l.commands < most_commands → w * by ≤ most_weight
    → others ≡ ps → copies ≡ counts → AllBecome (inside (listed others)) new by others qs
    → IsSpace l.arrays qs copies l.temps (w * by) (l.commands + 1) × (closed_up (listed qs) ≡ moved (revalued (inside l.list) new) l.list)
    × AreAmong l.list (closed_up (listed qs)) × AreAmong (closed_up (listed qs)) l.list
makes inside new by arrays w c ps others qs counts copies temps l grows space view few light o k h =
    let a = subst (λ z. AllBecome (inside (listed z)) new by z qs) o h in
    let e = ap (λ (r : Listed). r.commands) view in
    let s = made_space (inside (listed ps)) new by arrays w c ps qs counts temps grows space a (omega arith) light in
    let t = made_list (inside (listed ps)) new by arrays w c ps qs counts temps grows space a in (
      subst (λ (r : Listed). IsSpace r.arrays qs copies r.temps (w * by) (r.commands + 1)) view (subst (λ z. IsSpace arrays qs z temps (w * by) (c + 1)) (sym k) s),
      t ∙ ap (λ (r : Listed). moved (revalued (inside r.list) new) r.list) view,
      subst (λ (r : Listed). AreAmong r.list (closed_up (listed qs))) view (made_among (inside (listed ps)) new by arrays w c ps qs counts temps grows space a (omega arith) light),
      subst (λ (r : Listed). AreAmong (closed_up (listed qs)) r.list) view (among_made (inside (listed ps)) new by arrays w c ps qs counts temps grows space a (omega arith) light),
    )

-- what holds of the closed up list holds of the list of the space
pub kept_in : (r : Result Listed AllocError) (list : List Element) (P : List Element → Type 0) → IfOk r (λ new. new.list ≡ closed_up list) → P (closed_up list) → IfOk r (λ new. P new.list)
kept_in (Ok new) list P e h = subst P (sym e) h
kept_in (Err x) list P e h = tt
