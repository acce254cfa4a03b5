-- One layer of the statements of items, and what stands at the places of a body taken apart.
use Rattle.std.proofs.Common.{◌≡◌, refl, sym, ap, ◌∙◌, ℕ, suc, ◌+◌, List, [], ◌∷◌, ◌++◌, length, map, arith, append_assoc}
use Rattle.ch_affine.specs.Form.{Form}
use Rattle.ch_nest.specs.declared.nest.Body.{Body}
use Rattle.ch_nest.specs.declared.nest.Item.{Item}
use Rattle.ch_nest.specs.declared.nest.Item.TheOpen.{Item-F}
use Rattle.ch_nest.specs.declared.nest.Item.TheVariants.{Loop, If, Assign, rolls-Loop, rolls-If, rolls-Assign}
use Rattle.ch_nest.specs.declared.nest.Item.TheFolds.{fold-roll-Item}
use Rattle.ch_space.specs.declared.level.Around.{Around}
use Rattle.ch_space.specs.declared.level.Around.TheVariants.{Where}
use Rattle.ch_space.specs.Statements.{Finding, at_numbers, findings, findings_of, statements_step, where_met}

pub findings_loop : (lows highs : List Form) (step : ℕ) (items : List Item)
    → findings_of (Loop lows highs step items) ≡ statements_step (Item-F.Loop lows highs step (map findings_of items))
findings_loop lows highs step items = ap findings_of (sym (rolls-Loop lows highs step items)) ∙ fold-roll-Item (List Finding) statements_step _

pub findings_if : (row : Form) (items : List Item) → findings_of (If row items) ≡ map (where_met row) (findings items)
findings_if row items = ap findings_of (sym (rolls-If row items)) ∙ fold-roll-Item (List Finding) statements_step _

pub findings_assign : (label : ℕ) (body : Body) → findings_of (Assign label body) ≡ statements_step (Item-F.Assign label body)
findings_assign label body = ap findings_of (sym (rolls-Assign label body)) ∙ fold-roll-Item (List Finding) statements_step _

pub numbers_append : (k : ℕ) (fs gs : List Finding) (around : List Around) (places : List ℕ)
    → at_numbers k (fs ++ gs) around places ≡ at_numbers k fs around places ++ at_numbers (k + length fs) gs around places
numbers_append k [] gs around places = let e : k ≡ k + 0 = omega arith in ap (λ n. at_numbers n gs around places) e
numbers_append k (f ∷ fs) gs around places =
    let e : suc k + length fs ≡ k + suc (length fs) = omega arith in
    ap (λ t. f around (places ++ k ∷ []) ++ t) (numbers_append (suc k) fs gs around places ∙ ap (λ n. at_numbers (suc k) fs around places ++ at_numbers n gs around places) e)
    ∙ sym (append_assoc (f around (places ++ k ∷ [])) (at_numbers (suc k) fs around places) (at_numbers (k + suc (length fs)) gs around places))

-- the items of a condition have it around them
pub numbers_met : (row : Form) (k : ℕ) (fs : List Finding) (around : List Around) (places : List ℕ)
    → at_numbers k (map (where_met row) fs) around places ≡ at_numbers k fs (around ++ Where row ∷ []) places
numbers_met row k [] around places = refl
numbers_met row k (f ∷ fs) around places = ap (λ t. f (around ++ Where row ∷ []) (places ++ k ∷ []) ++ t) (numbers_met row (suc k) fs around places)
