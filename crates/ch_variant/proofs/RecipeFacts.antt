-- What the type of a recipe tells of its commands.
use Rattle.std.proofs.Common.{◌≡◌, sym, arith, ℕ, zero, suc, ◌<◌, ◌≤◌, Bool, ◌&&◌, List, [], ◌∷◌, length, get_or, subst}
use Rattle.std.specs.Bool.{IsTrue}
use Rattle.std.specs.List.{list_all}
use Rattle.std.proofs.lemmas.Bool.{and_parts}
use Rattle.ch_script.specs.Recipes.{RecipeParts, command_fits, is_recipe}
use Rattle.ch_script.specs.declared.recipe.Command.{Command}
use Rattle.ch_script.proofs.RecipeFacts.{commands_fit}

-- what holds of each command holds of the one with this number
pub at_command : (p : Command → Bool) (cs : List Command) (k : ℕ) (c : Command) → IsTrue (list_all p cs) → k < length cs → c ≡ get_or cs k c → IsTrue (p c)
at_command p [] k c h l e = absurd (omega arith)
at_command p (d ∷ ds) zero c h l e = subst (λ x. IsTrue (p x)) (sym e) (and_parts (p d) (list_all p ds) h).0
at_command p (d ∷ ds) (suc k) c h l e = at_command p ds k c (and_parts (p d) (list_all p ds) h).1 (omega arith) e

pub command_at_fits : (r : RecipeParts) (n k : ℕ) (c : Command) → n ≡ length r.params → IsTrue (is_recipe r) → k < length r.commands → c ≡ get_or r.commands k c
    → IsTrue (command_fits n c)
command_at_fits r n k c e h l f =
    subst (λ m. IsTrue (command_fits m c)) (sym e) (at_command (command_fits (length r.params)) r.commands k c (commands_fit r h) l f)

-- the next command, where a slice has the commands
pub item_of : (items cs : List Command) (k : ℕ) (c : Command) → items ≡ cs → k < length items → c ≡ get_or items k c → (k < length cs) × (c ≡ get_or cs k c)
item_of items cs k c e l i = subst (λ xs. (k < length xs) × (c ≡ get_or xs k c)) e (l, i)

pub all_done : (items cs : List Command) (k : ℕ) → items ≡ cs → length items ≤ k → length cs ≤ k
all_done items cs k e l = subst (λ xs. length xs ≤ k) e l
