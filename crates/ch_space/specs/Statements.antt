-- The statements of a nest, each with the loops and conditions around it and its place in each body.
use Rattle.std.specs.Prelude.{ℕ, suc, ◌+◌, ℤ, if◌then◌else◌, nat_eq, nat_lt, List, [], ◌∷◌, ◌++◌, map}
use Rattle.std.specs.List.{filter}
use Rattle.ch_affine.specs.Form.{Form}
use Rattle.ch_nest.specs.declared.nest.Body.{Body}
use Rattle.ch_nest.specs.declared.nest.Item.{Item}
use Rattle.ch_nest.specs.declared.nest.Item.TheOpen.{Item-F}
use Rattle.ch_nest.specs.declared.nest.Item.TheFolds.{fold-Item}
use Rattle.ch_nest.specs.Run.{is_met, values_at}
use Rattle.ch_space.specs.declared.level.Around.{Around}
use Rattle.ch_space.specs.declared.level.Around.TheVariants.{Inside, Where}

-- `around` are the loops and conditions around it, from the outermost on, and `places` the numbers that lead to it
pub record Statement : Type 0 where
  pub label : ℕ
  pub body : Body
  pub around : List Around
  pub places : List ℕ

abbrev pub statement : ℕ → Body → List Around → List ℕ → Statement
statement label body around places = record {
  label = label;
  body = body;
  around = around;
  places = places;
}

-- the statements of what stands at one place of a body, from the loops and conditions around it and its places
abbrev pub Finding : Type 0
Finding = List Around → List ℕ → List Statement

-- what stands in a body stands at the places k, k + 1 and so on
abbrev pub at_numbers : ℕ → List Finding → Finding
at_numbers k [] around places = []
at_numbers k (f ∷ fs) around places =
    f around (places ++ k ∷ []) ++ at_numbers (suc k) fs around places

-- what each of some items puts there, one after another
abbrev pub joined : List (List Finding) → List Finding
joined [] = []
joined (fs ∷ fss) = fs ++ joined fss

abbrev pub where_met : Form → Finding → Finding
where_met row f around places = f (around ++ Where row ∷ []) places

-- as in the list of a nest, the items of a condition stand in its place
abbrev pub statements_step : Item-F (List Finding) → List Finding
statements_step (Item-F.Loop lows highs step items) =
    (λ around places. at_numbers 0 (joined items)
    (around ++ Inside (record { lows = lows; highs = highs; step = step }) ∷ []) places) ∷ []
statements_step (Item-F.If row items) = map (where_met row) (joined items)
statements_step (Item-F.Assign label body) =
    (λ around places. statement label body around places ∷ []) ∷ []

abbrev pub findings_of : Item → List Finding
findings_of = fold-Item (List Finding) statements_step

abbrev pub findings : List Item → List Finding
findings items = joined (map findings_of items)

-- the statements of these items, in text order
abbrev pub statements : List Item → List Statement
statements items = at_numbers 0 (findings items) [] []

-- how many of them are loops
abbrev pub loops : List Around → ℕ
loops [] = 0
loops (Inside l ∷ more) = suc (loops more)
loops (Where row ∷ more) = loops more

-- a loop with a step above 1 has a hidden value
abbrev pub hidden_of : Around → ℕ
hidden_of (Inside l) = if nat_eq l.step 1 then 0 else 1
hidden_of (Where row) = 0

-- how many hidden values they have
abbrev pub steps : List Around → ℕ
steps [] = 0
steps (part ∷ more) = hidden_of part + steps more

-- the sum over some values
abbrev pub sum_over : List ℤ → (ℤ → ℕ) → ℕ
sum_over [] inner = 0
sum_over (x ∷ xs) inner = inner x + sum_over xs inner

-- how often what stands in these loops and conditions is executed, from the values of the loops around them
abbrev pub turns_below : List Around → List ℤ → ℕ
turns_below [] point = 1
turns_below (Inside l ∷ more) point =
    sum_over (values_at l.lows l.highs l.step point) (λ i. turns_below more (point ++ i ∷ []))
turns_below (Where row ∷ more) point = if is_met row point then turns_below more point else 0

abbrev pub instances_of : Statement → ℕ
instances_of s = turns_below s.around []

-- those that are executed at all
abbrev pub executed : List Statement → List Statement
executed = filter (λ s. nat_lt 0 (instances_of s))
