-- The candidates as they are made are those of the plan.
use Rattle.std.proofs.Common.{◌≡◌, refl, sym, ap, ap₂, ◌∙◌, ℕ, suc, ◌+◌, ◌*◌, ◌<◌, ◌≤◌, pos, Bool, List, [], ◌∷◌, ◌++◌, map, length, replicate, take, Some, None, arith, add-one}
use Rattle.std.specs.Prelude.{if◌then◌else◌, nat_lt, slice_index_or}
use Rattle.std.proofs.lemmas.Bool.{lt-ltb, ltb-true}
use Rattle.ch_affine.specs.Form.{Form}
use Rattle.ch_affine.specs.Rows.{Rows}
use Rattle.ch_copied.specs.Bodies.{redirected}
use Rattle.ch_copied.specs.Copied.{placed}
use Rattle.ch_copied.specs.Plans.{Plan}
use Rattle.ch_datacopy.specs.Spreads.{spread_by}
use Rattle.ch_datacopy.specs.Works.{IsKept, IsMoved, IsWork, move_body, move_offset}
use Rattle.ch_datacopy.specs.declared.candidates.Work.{Work}
use Rattle.ch_datacopy.specs.declared.cells.Cells.{Cells}
use Rattle.ch_datacopy.specs.declared.places.Spread.{Spread}
use Rattle.ch_datacopy.proofs.Existing.{moves_exist}
use Rattle.ch_datacopy.proofs.Placed.{spread_new}
use Rattle.ch_datacopy.proofs.Redirects.{is_false}
use Rattle.ch_nest.specs.declared.nest.Body.{Body}
use Rattle.ch_space.specs.Built.{units}
use Rattle.ch_space.specs.Keeps.{places_of}
use Rattle.ch_space.specs.Pieces.{instances}
use Rattle.ch_space.specs.declared.piece.Piece.{Piece}
use Rattle.ch_timed.specs.declared.element.Label.{Label}
use Rattle.ch_timed.specs.declared.element.Label.TheVariants.{Move}
use Rattle.ch_timed.specs.Vectors.{shares}

pub kept_made : (p : Plan) (work : Work) (ours sizes : List ℕ) (q : Piece) (count : ℕ) (is_ours : Bool) (label : Label) (body : Body) (levels hidden : ℕ) (system : Rows) (origin : List Form) (own wide places : List ℕ) (s : Spread)
    → IsWork work ours sizes p → count ≡ length (instances q) → places ≡ q.places → is_ours ≡ shares (work.around + 1) (map pos ours) (map pos places)
    → body ≡ (if is_ours then redirected p q.body else q.body) → label ≡ q.label → levels ≡ q.levels → hidden ≡ q.hidden → system ≡ q.system → origin ≡ q.origin
    → map pos wide ≡ placed (spread_by s (slice_index_or ours work.around 0)) (take work.around (map pos ours)) (map pos places) → s.width ≡ (work.ins + work.outs) + 1 → s.offset ≡ work.ins
    → IsKept p q (record { piece = record { label = label; body = body; levels = levels; hidden = hidden; system = system; origin = origin; places = own }; places = wide; count = Some count })
kept_made p work ours sizes q count is_ours label body levels hidden system origin own wide places s w n o b e l v h y g i x f = record {
  label = l;
  body = e ∙ ap (λ t. if t then redirected p q.body else q.body) shared;
  levels = v;
  hidden = h;
  system = y;
  origin = g;
  places =
      i ∙ ap (λ z. placed (spread_by s (slice_index_or ours work.around 0)) (take work.around (map pos ours)) (map pos z)) o
      ∙ spread_new p s ours work.around (map pos q.places) w.ours w.around (x ∙ sym (ap₂ (λ a c. (a + c) + 1) w.ins w.outs)) (f ∙ sym w.ins);
  count = ap Some n;
}
  where
    shared : is_ours ≡ shares (suc p.around) p.ours (places_of q)
    shared =
        b ∙ ap₂ (λ k z. shares k (map pos ours) (map pos z)) (add-one work.around ∙ ap suc (sym w.around)) o
        ∙ ap (λ z. shares (suc p.around) z (places_of q)) (sym w.ours)

pub in_offset : (p : Plan) (k ins place : ℕ) → length p.ins ≡ ins → k < ins → place ≡ k → place ≡ move_offset p k
in_offset p k ins place l m e = e ∙ sym (ap (λ t. if t then k else suc k) (lt-ltb k (length p.ins) (omega (arith, l, m))))

pub out_offset : (p : Plan) (k ins place : ℕ) → length p.ins ≡ ins → ins ≤ k → place ≡ k + 1 → place ≡ move_offset p k
out_offset p k ins place l m e =
    e ∙ add-one k ∙ sym (ap (λ t. if t then k else suc k) (is_false (nat_lt k (length p.ins)) (λ h. let x = ltb-true k (length p.ins) h in omega (arith, l, m, x))))

pub moved_made : (p : Plan) (work : Work) (ours sizes : List ℕ) (k : ℕ) (u : Cells) (label : ℕ) (body : Body) (levels hidden : ℕ) (system : Rows) (origin : List Form) (own wide : List ℕ) (width place : ℕ)
    → IsWork work ours sizes p → label ≡ work.label + k → body ≡ move_body p k → levels ≡ u.levels → hidden ≡ u.hidden → system ≡ u.system → origin ≡ units 0 u.levels
    → wide ≡ take work.around ours ++ (slice_index_or ours work.around 0 * width + place) ∷ replicate (length sizes) 0 → width ≡ (work.ins + work.outs) + 1 → place ≡ move_offset p k
    → IsMoved p k u (record { piece = record { label = Move label; body = body; levels = levels; hidden = hidden; system = system; origin = origin; places = own }; places = wide; count = None })
moved_made p work ours sizes k u label body levels hidden system origin own wide width place w l b v h y g i x f = record {
  label = ap Move (l ∙ ap (λ n. n + k) (sym w.label));
  body = b;
  levels = v;
  hidden = h;
  system = y;
  origin = g;
  places = ap (map pos) (i ∙ same) ∙ (moves_exist p ours w.ours k (u ∷ [])).0.places;
  count = refl;
}
  where
    room : width ≡ (length p.ins + length p.outs) + 1
    room = x ∙ sym (ap₂ (λ a c. (a + c) + 1) w.ins w.outs)

    many : length sizes ≡ length p.extents
    many = sym (ap length w.target.extents)

    same : take work.around ours ++ (slice_index_or ours work.around 0 * width + place) ∷ replicate (length sizes) 0
        ≡ take p.around ours ++ (slice_index_or ours p.around 0 * ((length p.ins + length p.outs) + 1) + move_offset p k) ∷ replicate (length p.extents) 0
    same = λ t. take ((sym w.around) t) ours ++ (slice_index_or ours ((sym w.around) t) 0 * room t + f t) ∷ replicate (many t) 0
