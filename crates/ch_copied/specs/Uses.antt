-- Which cells of an array the loop at a level uses, and how far apart they are.
use Rattle.std.specs.Prelude.{◌≡◌, ◌≤◌, ℕ, suc, ◌+◌, ℤ, pos, ◌-ℤ◌, unsigned_abs, max, Bool, ◌&&◌, if◌then◌else◌, List, [], ◌∷◌, map, slice_index_or, take}
use Rattle.std.specs.List.{filter, flat_map}
use Rattle.ch_nest.specs.declared.nest.Access.{Access}
use Rattle.ch_nest.specs.declared.nest.Body.{Body}
use Rattle.ch_nest.specs.Run.{subscripts}
use Rattle.ch_timed.specs.declared.element.Element.{Element}
use Rattle.ch_timed.specs.Members.{In}
use Rattle.ch_timed.specs.Timed.{pieces}
use Rattle.ch_timed.specs.Vectors.{places, values, same_numbers, shares}
use Rattle.ch_copied.specs.Accesses.{different}

-- An access of a piece, whose cells are moved.
pub record Transfer : Type 0 where
  pub places : List ℤ
  pub access : Access

-- A cell that an element uses, and the values of the loops around the copied one there: its prefix.
pub record Use : Type 0 where
  pub prefix : List ℤ
  pub cell : List ℤ

abbrev pub same_use : Use → Use → Bool
same_use u v = same_numbers u.prefix v.prefix && same_numbers u.cell v.cell

abbrev pub with_places : List ℤ → List Element → List Element
with_places ps list = filter (λ e. same_numbers ps (places e.vector)) list

-- the chosen accesses of the body of a piece
abbrev pub of_piece : (Body → List Access) → List Element → List ℤ → List Transfer
of_piece chosen list ps =
    flat_map (λ e. map (λ a. record { places = ps; access = a }) (chosen e.body)) (take 1 (with_places ps list))

-- those of the group, piece by piece
abbrev pub transfers : (Body → List Access) → List Element → List ℤ → ℕ → List Transfer
transfers chosen list ours around = flat_map (of_piece chosen list) (filter (shares (suc around) ours) (pieces list))

abbrev pub use_of : ℕ → Access → Element → Use
use_of around a e = record { prefix = take around (values e.vector); cell = subscripts a e.identity.iters }

-- what the elements of the piece use by the access: each cell once for each prefix
abbrev pub uses : List Element → ℕ → Transfer → List Use
uses list around t = different same_use (map (use_of around t.access) (with_places t.places list))

-- how far apart two cells are in dimension k, and one more
abbrev pub apart : ℕ → Use → Use → ℕ
apart k u v = unsigned_abs (slice_index_or u.cell k (pos 0) -ℤ slice_index_or v.cell k (pos 0)) + 1

-- No two cells that are used with one prefix need a greater extent of dimension k, and some two need this one.
pub record IsExtent (us : List Use) (k e : ℕ) : Type 0 where
  pub enough : (u v : Use) → In u us → In v us → u.prefix ≡ v.prefix → apart k u v ≤ e
  pub first : Use
  pub second : Use
  pub first_is : In first us
  pub second_is : In second us
  pub one_prefix : first.prefix ≡ second.prefix
  pub needed : apart k first second ≡ e

-- the extents, each raised to one more than the difference of the subscripts
abbrev pub raised : List ℤ → List ℤ → List ℕ → List ℕ
raised [] ds es = es
raised (c ∷ cs) [] es = es
raised (c ∷ cs) (d ∷ ds) [] = []
raised (c ∷ cs) (d ∷ ds) (e ∷ es) = max e (unsigned_abs (c -ℤ d) + 1) ∷ raised cs ds es

abbrev pub raised_by : Use → List Use → List ℕ → List ℕ
raised_by u [] es = es
raised_by u (v ∷ vs) es =
    if same_numbers u.prefix v.prefix then raised u.cell v.cell (raised_by u vs es) else raised_by u vs es

abbrev pub raised_by_all : List Use → List Use → List ℕ → List ℕ
raised_by_all [] vs es = es
raised_by_all (u ∷ us) vs es = raised_by u vs (raised_by_all us vs es)

-- for each dimension one more than the greatest difference between subscripts that are used with one prefix
abbrev pub extents : List Use → List ℕ
extents [] = []
extents (u ∷ us) = raised_by_all (u ∷ us) (u ∷ us) (map (λ c. 1) u.cell)
