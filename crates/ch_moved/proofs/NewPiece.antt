-- The piece over new levels.
use Rattle.std.proofs.Common.{◌≡◌, refl, sym, ap, ◌∙◌, subst, ℕ, ◌+◌, ◌-◌, ◌≤◌, ◌↔◌, List, length, map, arith}
use Rattle.std.specs.Bool.{IsTrue}
use Rattle.ch_affine.specs.Form.{Form}
use Rattle.ch_affine.specs.Rows.{IsSystem, Rows, all_hold, lies_in}
use Rattle.ch_affine.specs.declared.system.Range.{Range}
use Rattle.ch_moved.specs.Changed.{AllLong, IsChanged, fronts}
use Rattle.ch_moved.specs.Reindexed.{IsReindexed}
use Rattle.ch_moved.specs.Substituted.{image, substituted}
use Rattle.ch_moved.proofs.Joining.{substituted_long}
use Rattle.ch_nest.specs.declared.nest.Body.{Body}
use Rattle.ch_space.specs.declared.piece.Piece.{Piece}
use Rattle.ch_space.specs.Keeps.{IsWhole}
use Rattle.ch_timed.specs.Members.{In}

abbrev pub piece_over : Piece → Body → ℕ → ℕ → Rows → List Form → List ℕ → Piece
piece_over p body levels hidden s origin places =
    record { label = p.label; body = body; levels = levels; hidden = hidden; system = s; origin = origin; places = places }

module _ (p : Piece) (gs : List Form) (boxes : List Range) (extra : List Form) (places : List ℕ) (body : Body) (hidden : ℕ) (s : Rows) (origin : List Form)
    (w : IsWhole p) (many : length gs ≡ p.levels) (long : AllLong (length boxes) gs) (enough : length places ≡ length boxes + 1) (i : IsSystem s) (c : IsChanged p.system gs boxes extra s)
    (b : body ≡ p.body) (h : hidden ≡ s.vars - length boxes) (o : origin ≡ map (substituted (length boxes) gs) p.origin) where
  whole : IsWhole (piece_over p body (length boxes) hidden s origin places)
  whole =
      let least = c.least in
      let each = i.boxes in
      let n : length boxes + 0 ≡ length boxes = omega arith in
      let l : length gs ≤ p.levels = omega arith in
      let z : 0 + length gs ≡ p.levels = omega arith in
      record {
        places = enough;
        variables = omega arith;
        boxes = omega arith;
        origin = subst (λ m. AllLong m origin) n (substituted_long (length boxes) p.levels 0 gs p.origin origin long l z w.origin o);
      }

  over_boxes : IsReindexed p gs boxes extra places (piece_over p body (length boxes) hidden s origin places)
  over_boxes =
      let most = c.most in
      let v = w.variables in
      record {
        whole = whole;
        label = refl;
        body = b;
        places = refl;
        levels = refl;
        ranges = c.boxes;
        origin = o;
        is_instance = λ ys. subst (λ d. In ys (fronts (length boxes) s) ↔ (IsTrue (lies_in boxes ys) × IsTrue (all_hold extra ys) × In (image gs ys) (fronts d p.system))) many (c.is_front ys);
        few_hidden = omega arith;
        none_hidden = λ small. let e = c.plain small in omega arith;
      }

pub piece_reindexed : (p : Piece) (gs : List Form) (boxes : List Range) (extra : List Form) (places : List ℕ) (body : Body) (levels hidden : ℕ) (s : Rows) (origin : List Form)
    → IsWhole p → length gs ≡ p.levels → AllLong (length boxes) gs → length places ≡ length boxes + 1 → IsSystem s → IsChanged p.system gs boxes extra s
    → body ≡ p.body → levels ≡ length boxes → hidden ≡ s.vars - levels → origin ≡ map (substituted levels gs) p.origin
    → IsReindexed p gs boxes extra places (piece_over p body levels hidden s origin places)
piece_reindexed p gs boxes extra places body levels hidden s origin w many long enough i c b n h o =
    subst (λ m. IsReindexed p gs boxes extra places (piece_over p body m hidden s origin places)) (sym n)
    (over_boxes p gs boxes extra places body hidden s origin w many long enough i c b (h ∙ ap (λ m. s.vars - m) n) (o ∙ ap (λ m. map (substituted m gs) p.origin) n))
