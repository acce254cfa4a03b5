-- The causes that are looked for are those of the copied list, and what holds where there is none.
use Rattle.std.proofs.Common.{◌≡◌, refl, sym, ap, ap₂, ◌∙◌, ℕ, max, ◌+◌, ◌<◌, ◌≤◌, pos, Bool, true, false, nat_lt, Option, Some, None, List, [], ◌∷◌, ◌++◌, map, length, inl, arith}
use Rattle.std.specs.Prelude.{if◌then◌else◌}
use Rattle.std.specs.List.{flat_map}
use Rattle.std.proofs.lemmas.List.{length-map}
use Rattle.ch_copied.specs.Copied.{copied}
use Rattle.ch_copied.specs.Copyable.{HasLoop}
use Rattle.ch_copied.specs.Plans.{Plan}
use Rattle.ch_copied.specs.Uses.{Transfer, extents, uses}
use Rattle.ch_datacopy.specs.Causes.{above, before_copy, deepest, most_cells, of_plan, of_transfers, too_large}
use Rattle.ch_datacopy.specs.Moved.{dimensions}
use Rattle.ch_datacopy.specs.Sources.{AreCellsOf, Source}
use Rattle.ch_datacopy.specs.Widths.{AreWidths}
use Rattle.ch_datacopy.specs.declared.cells.Cells.{Cells}
use Rattle.ch_datacopy.proofs.Judged.{deepest_is, pieces_many}
use Rattle.ch_datacopy.proofs.Planned.{IsCopying, are_transfers, cells_many, copying, has_levels, moved, the_plan}
use Rattle.ch_datacopy.proofs.Sourced.{transfer_of}
use Rattle.ch_datacopy.proofs.Spans.{are_widths}
use Rattle.ch_moved.specs.Causes.{IsCause, cause, first_of}
use Rattle.ch_nest.specs.Arrays.{cells_in}
use Rattle.ch_nest.specs.declared.cause.Shape.{Shape}
use Rattle.ch_space.specs.declared.error.ShapeError.{ShapeError}
use Rattle.ch_space.specs.declared.error.ShapeError.TheVariants.{Shape as Refused, Memory}
use Rattle.ch_space.specs.declared.piece.Piece.{Piece}
use Rattle.ch_space.specs.Keeps.{IsSpace, most_instances, most_levels, most_pieces, places_of}
use Rattle.ch_space.specs.Pieces.{listed}
use Rattle.ch_timed.specs.Groups.{piece}
use Rattle.ch_timed.specs.Members.{In}
use Rattle.ch_timed.specs.Timed.{pieces}
use Rattle.ch_timed.specs.declared.element.Element.{Element}

-- causes

first_three : (a b c d : Option Shape) (x : Shape) → first_of (a ∷ b ∷ c ∷ []) ≡ Some x → first_of (a ∷ b ∷ c ∷ d ∷ []) ≡ Some x
first_three None None None d x e = cc
first_three None None (Some y) d x e = e
first_three None (Some y) c d x e = e
first_three (Some y) b c d x e = e

last_four : (a b c d : Option Shape) → first_of (a ∷ b ∷ c ∷ []) ≡ None → first_of (a ∷ b ∷ c ∷ d ∷ []) ≡ d
last_four None None None None e = refl
last_four None None None (Some x) e = refl
last_four None None (Some y) d e = cc
last_four None (Some y) c d e = cc
last_four (Some y) b c d e = cc

first_none : (a b c : Option Shape) → first_of (a ∷ b ∷ c ∷ []) ≡ None → (a ≡ None) × (b ≡ None)
first_none None None c e = (refl, refl)
first_none None (Some y) c e = cc
first_none (Some y) b c e = cc

never : (x : Shape) → Some x ≡ None → ⊥
never x e = cc

pub under : (code most n : ℕ) → above code most n ≡ None → n ≤ most
under code most n e = from (nat_lt most n) refl e
  where
    from : (b : Bool) → nat_lt most n ≡ b → (if b then cause code (pos n) else None) ≡ None → n ≤ most
    from true f g = absurd (never (record { code = code; number = pos n }) g)
    from false f g = grind arith

pub not_above : (code most n : ℕ) → n ≤ most → above code most n ≡ None
not_above code most n l = from (nat_lt most n) refl
  where
    from : (b : Bool) → nat_lt most n ≡ b → (if b then cause code (pos n) else None) ≡ None
    from true f = absurd (grind arith)
    from false f = refl

some_long : {X : Type 0} (xs : List X) (x : X) → In x xs → 1 ≤ length xs
some_long [] x i = absurd i
some_long (y ∷ xs) x i = omega arith

causes_of : (ts : List Transfer) (new : List Element) (es : List ℕ) → 1 ≤ length ts → of_transfers ts new es ≡ too_large new es
causes_of [] new es l = absurd (omega (arith, l))
causes_of (t ∷ ts) new es l = refl

module _ (arrays : ℕ) (ps : List Piece) (counts : List ℕ) (temps : List (List ℕ)) (weight commands : ℕ) (p : Plan) (m : ℕ) (u : Cells) (us : List Cells)
    (k : IsCopying arrays ps counts temps weight commands p m (u ∷ us)) (ours : List ℕ) (are : p.ours ≡ map pos ours) where
  many_pieces : length (pieces (copied p (listed ps))) ≡ length ps + length (u ∷ us)
  many_pieces = pieces_many arrays ps counts temps weight commands k.space p m k.planned k.fine k.number k.declared k.long k.some k.few k.moved k.transfers k.theirs (u ∷ us) k.cells ours are k.many

  deepest_piece : deepest (pieces (copied p (listed ps))) ≡ max (deepest (map places_of ps)) u.levels
  deepest_piece =
      deepest_is arrays ps counts temps weight commands k.space p m k.planned k.fine k.number k.declared k.long k.some k.few k.moved k.transfers k.theirs (u ∷ us) k.cells ours are k.many u (inl refl)
      ∙ ap (max (deepest (map places_of ps))) (sym (has_levels arrays ps counts temps weight commands p m (u ∷ us) k u (inl refl)))

  some_transfer : 1 ≤ length (p.ins ++ p.outs)
  some_transfer =
      let a = ap length k.transfers in
      let b = length-map k.moved transfer_of in
      let c = some_long k.moved k.first k.is_first in
      omega (arith, a, b, c)

  plan_is : of_plan p (listed ps)
      ≡ above 7 most_pieces (length ps + length (u ∷ us)) ∷ above 8 most_levels (max (deepest (map places_of ps)) u.levels) ∷ above 9 most_cells (cells_in p.extents)
      ∷ above 11 most_instances (length (copied p (listed ps))) ∷ []
  plan_is =
      causes_of (p.ins ++ p.outs) (copied p (listed ps)) p.extents some_transfer
      ∙ ap₂ (λ a b. above 7 most_pieces a ∷ above 8 most_levels b ∷ above 9 most_cells (cells_in p.extents) ∷ above 11 most_instances (length (copied p (listed ps))) ∷ []) many_pieces deepest_piece

  abbrev pub many_cause : Option Shape
  many_cause = above 7 most_pieces (length ps + length (u ∷ us))

  abbrev pub deep_cause : Option Shape
  deep_cause = above 8 most_levels (max (deepest (map places_of ps)) u.levels)

  abbrev pub wide_cause : Option Shape
  wide_cause = above 9 most_cells (cells_in p.extents)

  abbrev pub long_cause : Option Shape
  long_cause = above 11 most_instances (length (copied p (listed ps)))

  early : (x : Shape) → first_of (before_copy ps (u ∷ us) p.extents) ≡ Some x → first_of (of_plan p (listed ps)) ≡ Some x
  early x e = ap first_of plan_is ∙ first_three many_cause deep_cause wide_cause long_cause x e

  late : first_of (before_copy ps (u ∷ us) p.extents) ≡ None → first_of (of_plan p (listed ps)) ≡ above 11 most_instances (length (copied p (listed ps)))
  late e = ap first_of plan_is ∙ last_four many_cause deep_cause wide_cause long_cause e

module _ (arrays : ℕ) (ps : List Piece) (counts : List ℕ) (temps : List (List ℕ)) (weight commands : ℕ) (space : IsSpace arrays ps counts temps weight commands)
    (s around array : ℕ) (loop : HasLoop (listed ps) s (around + 1)) (declared : array < arrays) (ours : List ℕ) (are : piece (listed ps) s ≡ map pos ours) where
  abbrev pub its_plan : Plan
  its_plan = the_plan arrays ps counts temps weight commands space s around array loop declared

  abbrev pub its_moved : List Source
  its_moved = moved arrays ps counts temps weight commands space s around array loop declared

  none_moved : AreCellsOf around its_moved [] → its_plan.ins ++ its_plan.outs ≡ []
  none_moved c = are_transfers arrays ps counts temps weight commands space s around array loop declared ∙ ap (map transfer_of) (empty its_moved (cells_many around its_moved [] c))
    where
      empty : (ss : List Source) → length {A = Cells} [] ≡ length ss → ss ≡ []
      empty [] e = refl
      empty (x ∷ ss) e = absurd (omega (arith, e))

  pub its_copying : (u : Cells) (us : List Cells) → AreCellsOf around its_moved (u ∷ us) → IsCopying arrays ps counts temps weight commands its_plan (dimensions around (u ∷ us)) (u ∷ us)
  its_copying = copying arrays ps counts temps weight commands space s around array loop declared

  -- the extents of the plan are the widths of the cells, and one more
  pub its_widths : (us : List Cells) → AreCellsOf around its_moved us → AreWidths around (dimensions around us) us its_plan.extents
  its_widths [] c = record {
    count = ap (λ ts. length (extents (flat_map (uses (listed ps) around) ts))) (none_moved c);
    each = λ k l. absurd (omega (arith, l));
  }
  its_widths (u ∷ us) c = are_widths arrays ps counts temps weight commands its_plan (dimensions around (u ∷ us)) (u ∷ us) (its_copying u us c)

  early_cause : (us : List Cells) → AreCellsOf around its_moved us → (x : Shape) → first_of (before_copy ps us its_plan.extents) ≡ Some x → first_of (of_plan its_plan (listed ps)) ≡ Some x
  early_cause [] c x e = ap (λ ts. first_of (of_transfers ts (copied its_plan (listed ps)) its_plan.extents)) (none_moved c) ∙ e
  early_cause (u ∷ us) c x e = early arrays ps counts temps weight commands its_plan (dimensions around (u ∷ us)) u us (its_copying u us c) ours are x e

  -- what is answered before the list is made is the first cause
  pub early_answer : (us : List Cells) → AreCellsOf around its_moved us → (r : ShapeError) → IsCause r (first_of (before_copy ps us its_plan.extents)) → IsCause r (first_of (of_plan its_plan (listed ps)))
  early_answer us c Memory h = tt
  early_answer us c (Refused x) h = early_cause us c x h

  -- what holds where nothing is answered
  pub record IsAllowed (us : List Cells) : Type 0 where
    pub known : IsCopying arrays ps counts temps weight commands its_plan (dimensions around us) us
    pub many : length ps + length us ≤ most_pieces
    pub shallow : around + dimensions around us ≤ most_levels
    pub last : first_of (of_plan its_plan (listed ps)) ≡ above 11 most_instances (length (copied its_plan (listed ps)))

  pub allowed : (us : List Cells) → AreCellsOf around its_moved us → first_of (before_copy ps us its_plan.extents) ≡ None → IsAllowed us
  allowed [] c e = absurd (never (record { code = 10; number = pos 0 }) e)
  allowed (u ∷ us) c e =
      let k = its_copying u us c in
      let a : Option Shape = above 7 most_pieces (length ps + length (u ∷ us)) in
      let b : Option Shape = above 8 most_levels (max (deepest (map places_of ps)) u.levels) in
      let n = first_none a b (above 9 most_cells (cells_in its_plan.extents)) e in
      let l : u.levels ≡ around + dimensions around (u ∷ us) = has_levels arrays ps counts temps weight commands its_plan (dimensions around (u ∷ us)) (u ∷ us) k u (inl refl) in
      let d = under 8 most_levels (max (deepest (map places_of ps)) u.levels) n.1 in
      record {
        known = k;
        many = under 7 most_pieces (length ps + length (u ∷ us)) n.0;
        shallow = omega (arith, l, d);
        last = late arrays ps counts temps weight commands its_plan (dimensions around (u ∷ us)) u us k ours are e;
      }
