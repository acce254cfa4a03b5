-- What the code makes of a space, seen as contracts see it.
use Rattle.std.proofs.Common.{◌≡◌, ◌≢◌, refl, sym, ap, ap₂, ◌∙◌, subst, ℕ, ◌+◌, ◌-◌, ◌<◌, ◌≤◌, ◌^◌, pos, Some, None, List, [], ◌∷◌, ◌++◌, map, length, get_or, sum, arith}
use Rattle.std.specs.List.{All, filter}
use Rattle.std.proofs.lemmas.List.Elements.{All-nil}
use Rattle.ch_copied.specs.Copied.{copied}
use Rattle.ch_copied.specs.Copyable.{HasLoop}
use Rattle.ch_copied.specs.Plans.{Plan}
use Rattle.ch_datacopy.specs.Causes.{above, before_copy, of_plan}
use Rattle.ch_datacopy.specs.Labels.{next_free}
use Rattle.ch_datacopy.specs.Moved.{AreMoves, all_sources, dimensions, plan_in}
use Rattle.ch_datacopy.specs.Sources.{AreCellsOf, AreReady, sources}
use Rattle.ch_datacopy.specs.Widths.{AreWidths, IsRoomy}
use Rattle.ch_datacopy.specs.Works.{AddsMoved, AreKept, IsWork}
use Rattle.ch_datacopy.specs.declared.candidates.Work.{Work}
use Rattle.ch_datacopy.specs.declared.cells.Cells.{Cells}
use Rattle.ch_datacopy.specs.declared.moves.Moves.{Moves}
use Rattle.ch_datacopy.specs.declared.uses.Way.{Way}
use Rattle.ch_datacopy.specs.declared.uses.Way.TheVariants.{Read}
use Rattle.ch_datacopy.proofs.Causing.{IsAllowed, allowed, early_answer, its_copying, its_moved, its_plan, its_widths, under}
use Rattle.ch_datacopy.proofs.Finished.{are_few, are_known, are_whole, counted_all, counts_many, its_keeping, its_list, its_meaning, its_space, not_many, they_differ}
use Rattle.ch_datacopy.proofs.Freed.{free_is, labels_small}
use Rattle.ch_datacopy.proofs.Planned.{IsCopying, all_levels, are_roomy, ins_many}
use Rattle.ch_datacopy.proofs.Ready.{all_ready}
use Rattle.ch_datacopy.proofs.Spans.{one_width}
use Rattle.ch_moved.specs.Causes.{IsCause, first_of}
use Rattle.ch_nest.specs.declared.cause.Shape.{Shape}
use Rattle.ch_order.specs.Agreement.{KeepsArrays}
use Rattle.ch_pieces.specs.Assembled.{IsAssembled, has_instance, wide}
use Rattle.ch_pieces.specs.Candidates.{IsKnown}
use Rattle.ch_pieces.specs.declared.candidate.Candidate.{Candidate}
use Rattle.ch_space.specs.declared.error.ShapeError.{ShapeError}
use Rattle.ch_space.specs.declared.piece.Piece.{Piece}
use Rattle.ch_space.specs.Keeps.{IsMoveBelow, IsSpace, IsWhole, most_commands, most_instances, most_levels, most_pieces, places_of}
use Rattle.ch_space.specs.Listed.{Listed}
use Rattle.ch_space.specs.Pieces.{instances, listed}
use Rattle.ch_space.proofs.EndsOf.{at_all}
use Rattle.ch_space.proofs.PieceElements.{length_pos, whole_in}
use Rattle.ch_space.proofs.PieceNumbers.{how_many, nth_in, nth_places}
use Rattle.ch_space.specs.Keeps.{IsLimited}
use Rattle.ch_timed.specs.Do.{Store, done}
use Rattle.ch_timed.specs.Groups.{piece}
use Rattle.ch_timed.specs.Members.{In, Pairwise}
use Rattle.ch_timed.specs.declared.element.Cell.{Cell}

-- A space as the code has it: what its parts are, the pieces and the places of the one that is named.
pub record IsBegun (l : Listed) (s around array : ℕ) (old : List Piece) (ours : List ℕ) : Type 0 where
  pub arrays : ℕ
  pub weight : ℕ
  pub commands : ℕ
  pub ps : List Piece
  pub counts : List ℕ
  pub temps : List (List ℕ)
  pub space : IsSpace arrays ps counts temps weight commands
  pub view : record { list = listed ps; arrays = arrays; temps = temps; weight = weight; commands = commands } ≡ l
  pub l_loop : HasLoop l.list s (around + 1)
  pub l_declared : array < l.arrays
  pub old_is : old ≡ ps
  pub named : Piece
  pub named_is : named ≡ get_or old s named
  pub ours_is : ours ≡ named.places

pub begun : (l : Listed) (s around array : ℕ) (old : List Piece) (ours : List ℕ) (arrays weight commands : ℕ) (ps : List Piece) (counts : List ℕ) (temps : List (List ℕ)) (named : Piece)
    → IsSpace arrays ps counts temps weight commands → record { list = listed ps; arrays = arrays; temps = temps; weight = weight; commands = commands } ≡ l
    → HasLoop l.list s (around + 1) → array < l.arrays → old ≡ ps → named ≡ get_or old s named → ours ≡ named.places → IsBegun l s around array old ours
begun l s around array old ours arrays weight commands ps counts temps named space view loop declared o n p = record {
  arrays = arrays;
  weight = weight;
  commands = commands;
  ps = ps;
  counts = counts;
  temps = temps;
  space = space;
  view = view;
  l_loop = loop;
  l_declared = declared;
  old_is = o;
  named = named;
  named_is = n;
  ours_is = p;
}

module _ (l : Listed) (s around array : ℕ) (old : List Piece) (ours : List ℕ) (b : IsBegun l s around array old ours) where
  abbrev pub arrays : ℕ
  arrays = b.arrays

  abbrev pub weight : ℕ
  weight = b.weight

  abbrev pub commands : ℕ
  commands = b.commands

  abbrev pub ps : List Piece
  ps = b.ps

  abbrev pub counts : List ℕ
  counts = b.counts

  abbrev pub temps : List (List ℕ)
  temps = b.temps

  abbrev pub space : IsSpace b.arrays b.ps b.counts b.temps b.weight b.commands
  space = b.space

  pub loop : HasLoop (listed b.ps) s (around + 1)
  loop = subst (λ (r : Listed). HasLoop r.list s (around + 1)) (sym b.view) b.l_loop

  pub declared : array < b.arrays
  declared = subst (λ (r : Listed). array < r.arrays) (sym b.view) b.l_declared

  number : s < length ps
  number = let x = loop.some in let y = how_many ps space.apart in omega (arith, x, y)

  -- the piece's number is one of the pieces'
  pub number_old : s < length old
  number_old = subst (λ z. s < length z) (sym b.old_is) number

  named_there : b.named ≡ get_or ps s b.named
  named_there = b.named_is ∙ ap (λ z. get_or z s b.named) b.old_is

  named_in : In b.named ps
  named_in = subst (λ z. In z ps) (sym named_there) (nth_in ps s b.named number)

  pub are : piece (listed b.ps) s ≡ map pos ours
  are = nth_places ps s b.named space.apart number ∙ ap places_of (sym named_there) ∙ ap (map pos) (sym b.ours_is)

  pub deep : around < length ours
  deep = let x = loop.most in let y = ap length are in let z = length_pos ours in omega (arith, x, y, z)

  pub few_ours : length ours ≤ 11
  few_ours =
      let x = (whole_in ps b.named space.apart named_in).places in
      let y = (at_all (IsLimited weight commands) ps b.named space.limited named_in).levels in
      let z = ap length b.ours_is in
      omega (arith, x, y, z)

  pub ready : (way : Way) → All (AreReady around way array (map pos ours)) old
  ready way = subst (All (AreReady around way array (map pos ours))) (sym b.old_is) (all_ready arrays ps counts temps weight commands space way array around (map pos ours))

  pub few_pieces : length old ≤ 256
  few_pieces = let x = space.few_pieces in let y = ap length b.old_is in omega (arith, x, y)

  pub labels : All (λ q. IsMoveBelow (2 ^ 13) q.label) old
  labels = subst (All (λ (q : Piece). IsMoveBelow (2 ^ 13) q.label)) (sym b.old_is) (labels_small commands ps space.few_commands space.moves)

  abbrev pub p : Plan
  p = its_plan arrays ps counts temps weight commands space s around array loop declared ours are

  in_plan : (P : Plan → Listed → Type 0) → P p (record { list = listed ps; arrays = arrays; temps = temps; weight = weight; commands = commands }) → P (plan_in l s around array) l
  in_plan P h = subst (λ (r : Listed). P (plan_in r s around array) r) b.view h

  -- what is moved

  module _ (m : Moves) (moves : AreMoves old (map pos ours) around array m) where
    abbrev pub all : List Cells
    all = m.all

    cells : AreCellsOf around (its_moved arrays ps counts temps weight commands space s around array loop declared ours are) m.all
    cells = subst (λ z. AreCellsOf around (all_sources ps z around array) m.all) (sym are) (subst (λ z. AreCellsOf around (all_sources z (map pos ours) around array) m.all) b.old_is moves.cells)

    known_of : (u : Cells) (us : List Cells) → m.all ≡ u ∷ us → IsCopying arrays ps counts temps weight commands p (dimensions around m.all) m.all
    known_of u us e =
        subst (λ z. IsCopying arrays ps counts temps weight commands p (dimensions around z) z) (sym e)
        (its_copying arrays ps counts temps weight commands space s around array loop declared ours are u us
        (subst (AreCellsOf around (its_moved arrays ps counts temps weight commands space s around array loop declared ours are)) e cells))

    pub all_roomy : All (IsRoomy around (dimensions around m.all)) m.all
    all_roomy = by m.all refl
      where
        by : (us : List Cells) → m.all ≡ us → All (IsRoomy around (dimensions around m.all)) m.all
        by [] e = subst (All (IsRoomy around (dimensions around m.all))) (sym e) (All-nil (IsRoomy around (dimensions around m.all)))
        by (u ∷ us) e = are_roomy arrays ps counts temps weight commands p (dimensions around m.all) m.all (known_of u us e)

    pub few_dimensions : dimensions around m.all ≤ 4
    few_dimensions = by m.all refl
      where
        by : (us : List Cells) → m.all ≡ us → dimensions around m.all ≤ 4
        by [] e = subst (λ z. dimensions around z ≤ 4) (sym e) (omega arith)
        by (u ∷ us) e = (known_of u us e).few

    widths : AreWidths around (dimensions around m.all) m.all p.extents
    widths = its_widths arrays ps counts temps weight commands space s around array loop declared ours are m.all cells

    -- what is answered early is the first cause
    pub answers_early : (r : ShapeError) → ((es : List ℕ) → AreWidths around (dimensions around m.all) m.all es → IsCause r (first_of (before_copy old m.all es)))
        → IsCause r (first_of (of_plan (plan_in l s around array) l.list))
    answers_early r h =
        in_plan (λ q k. IsCause r (first_of (of_plan q k.list)))
        (early_answer arrays ps counts temps weight commands space s around array loop declared ours are m.all cells r
        (subst (λ z. IsCause r (first_of (before_copy z m.all p.extents))) b.old_is (h p.extents widths)))

    -- what holds where nothing is answered

    module _ (none : (es : List ℕ) → AreWidths around (dimensions around m.all) m.all es → first_of (before_copy old m.all es) ≡ None)
        (sizes : List ℕ) (are_sizes : AreWidths around (dimensions around m.all) m.all sizes) where
      may : IsAllowed arrays ps counts temps weight commands space s around array loop declared ours are m.all
      may = allowed arrays ps counts temps weight commands space s around array loop declared ours are m.all cells (subst (λ z. first_of (before_copy z m.all p.extents) ≡ None) b.old_is (none p.extents widths))

      sizes_is : sizes ≡ p.extents
      sizes_is = one_width around (dimensions around m.all) m.all sizes p.extents are_sizes widths

      pub all_few : length m.all ≤ 256
      all_few = let x : length ps + length m.all ≤ most_pieces = may.many in omega (arith, x)

      ins_is : m.ins ≡ length p.ins
      ins_is =
          moves.ins ∙ ap₂ (λ x y. length (sources Read array y around x)) b.old_is (sym are)
          ∙ sym (ins_many arrays ps counts temps weight commands space s around array loop declared)

      both_many : length m.all ≡ length p.ins + length p.outs
      both_many = may.known.many

      pub ins_few : m.ins ≤ length m.all
      ins_few = let x = both_many in let y = ins_is in omega (arith, x, y)

      sizes_many : length sizes ≡ dimensions around m.all
      sizes_many = are_sizes.count

      pub all_long : All (λ u. u.levels ≡ around + length sizes) m.all
      all_long = subst (λ n. All (λ (u : Cells). u.levels ≡ around + n) m.all) (sym sizes_many) (all_levels arrays ps counts temps weight commands p (dimensions around m.all) m.all may.known)

      pub room : around + length sizes ≤ 4096
      room = let x : around + dimensions around m.all ≤ most_levels = may.shallow in let y = sizes_many in omega (arith, x, y)

      -- the work is that of the plan
      pub work_is : (work : Work) (given : List ℕ) (free : ℕ) → given ≡ sizes → work.target.array ≡ array → work.target.buffer ≡ l.arrays + length l.temps → work.around ≡ around → work.ins ≡ m.ins
          → work.outs ≡ length m.all - m.ins → work.label ≡ free → free ≡ next_free 0 old → IsWork work ours given p
      work_is work given free g x y c i o f n = record {
        target = record { array = sym x; buffer = buffer_is ∙ sym y; extents = sym (g ∙ sizes_is) };
        ours = are;
        around = sym c;
        ins = sym (i ∙ ins_is);
        outs = let z = both_many in let j = ins_is in omega (arith, o, z, j);
        label = sym (f ∙ n ∙ ap (next_free 0) b.old_is ∙ free_is ps space.apart);
      }
        where
          buffer_is : p.buffer ≡ l.arrays + length l.temps
          buffer_is = ap (λ (r : Listed). r.arrays + length r.temps) b.view

      -- the candidates

      module _ (keeps : List Candidate) (are_kept : AreKept p old keeps) (cs : List Candidate) (adds : AddsMoved p m.all keeps cs) where
        kept : AreKept p ps keeps
        kept = subst (λ z. AreKept p z keeps) b.old_is are_kept

        pub cs_whole : All (λ c. IsWhole (wide c)) cs
        cs_whole = are_whole arrays ps counts temps weight commands p (dimensions around m.all) m.all may.known may.many cs keeps adds.0 adds.1 kept adds.2

        pub cs_few : All (λ c. length (instances c.piece) < 2 ^ 64) cs
        cs_few = are_few arrays ps counts temps weight commands p (dimensions around m.all) m.all may.known may.many cs keeps adds.0 adds.1 kept adds.2

        pub cs_known : All IsKnown cs
        cs_known = are_known arrays ps counts temps weight commands p (dimensions around m.all) m.all may.known may.many cs keeps adds.0 adds.1 kept adds.2

        pub cs_differ : Pairwise (λ q r. places_of q ≢ places_of r) (filter has_instance (map wide cs))
        cs_differ = they_differ arrays ps counts temps weight commands p (dimensions around m.all) m.all may.known may.many cs keeps adds.0 adds.1 kept adds.2

        pub cs_not_many : length cs ≤ 2 ^ 20
        cs_not_many = not_many arrays ps counts temps weight commands p (dimensions around m.all) m.all may.known may.many cs keeps adds.0 adds.1 kept adds.2

        -- the new space

        module _ (new : List Piece) (new_counts : List ℕ) (made : IsAssembled cs new new_counts) where
          pub few_counts : length new_counts ≤ 2 ^ 20
          few_counts = counts_many arrays ps counts temps weight commands p (dimensions around m.all) m.all may.known may.many cs keeps adds.0 adds.1 kept adds.2 new new_counts made

          total : sum new_counts ≡ length (copied p (listed ps))
          total = counted_all arrays ps counts temps weight commands p (dimensions around m.all) m.all may.known may.many cs keeps adds.0 adds.1 kept adds.2 new new_counts made

          last : first_of (of_plan p (listed ps)) ≡ above 11 most_instances (sum new_counts)
          last = may.last ∙ ap (above 11 most_instances) (sym total)

          pub last_cause : (x : Shape) → above 11 most_instances (sum new_counts) ≡ Some x → first_of (of_plan (plan_in l s around array) l.list) ≡ Some x
          last_cause x e = in_plan (λ q k. first_of (of_plan q k.list) ≡ Some x) (last ∙ e)

          pub no_cause : above 11 most_instances (sum new_counts) ≡ None → first_of (of_plan (plan_in l s around array) l.list) ≡ None
          no_cause e = in_plan (λ q k. first_of (of_plan q k.list) ≡ None) (last ∙ e)

          pub new_space : above 11 most_instances (sum new_counts) ≡ None → l.commands < most_commands → IsSpace l.arrays new new_counts (l.temps ++ sizes ∷ []) l.weight (l.commands + 1)
          new_space e c =
              let n : commands < most_commands = subst (λ (r : Listed). r.commands < most_commands) (sym b.view) c in
              let here : IsSpace arrays new new_counts (temps ++ sizes ∷ []) weight (commands + 1) =
              subst (λ z. IsSpace arrays new new_counts (temps ++ z ∷ []) weight (commands + 1)) (sym sizes_is)
              (its_space arrays ps counts temps weight commands p (dimensions around m.all) m.all may.known may.many cs keeps adds.0 adds.1 kept adds.2 new new_counts made may.shallow
              (under 11 most_instances (sum new_counts) e) (omega (arith, n))) in
              subst (λ (r : Listed). IsSpace r.arrays new new_counts (r.temps ++ sizes ∷ []) r.weight (r.commands + 1)) b.view here

          pub new_list : listed new ≡ copied (plan_in l s around array) l.list
          new_list = in_plan (λ q k. listed new ≡ copied q k.list)
              (its_list arrays ps counts temps weight commands p (dimensions around m.all) m.all may.known may.many cs keeps adds.0 adds.1 kept adds.2 new new_counts made)

          pub new_sizes : sizes ≡ (plan_in l s around array).extents
          new_sizes = in_plan (λ q k. sizes ≡ q.extents) sizes_is

          pub same_done : (store : Store) (c : Cell) → c.array ≢ l.arrays + length l.temps → done (listed new) store c ≡ done l.list store c
          same_done = in_plan (λ q k. (store : Store) (c : Cell) → c.array ≢ k.arrays + length k.temps → done (listed new) store c ≡ done k.list store c)
              (its_meaning arrays ps counts temps weight commands p (dimensions around m.all) m.all may.known may.many cs keeps adds.0 adds.1 kept adds.2 new new_counts made)

          pub keeps_arrays : (names : List (List ℕ)) → length names ≡ l.arrays → KeepsArrays names l.list l.temps (listed new) (l.temps ++ sizes ∷ [])
          keeps_arrays = in_plan (λ q k. (names : List (List ℕ)) → length names ≡ k.arrays → KeepsArrays names k.list k.temps (listed new) (k.temps ++ sizes ∷ []))
              (subst (λ z. (names : List (List ℕ)) → length names ≡ arrays → KeepsArrays names (listed ps) temps (listed new) (temps ++ z ∷ [])) (sym sizes_is)
              (its_keeping arrays ps counts temps weight commands p (dimensions around m.all) m.all may.known may.many cs keeps adds.0 adds.1 kept adds.2 new new_counts made))
