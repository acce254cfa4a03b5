use Rattle.std.proofs.Common.{rules, ◌≡◌, ◌++◌, [], ◌∷◌, Ok, sym, subst}
use Rattle.ch_deck.specs.Kept.{AreFound}
use Rattle.ch_deck.specs.Limits.{most_recipes}
use Rattle.ch_deck.specs.Sections.{behind_word, recipe_names, named_at}
use Rattle.ch_deck.proofs.Growing.{recipe_kept}
use Rattle.ch_deck.proofs.sections.recipe.Goals as goal

pub returns-clause-fine : goal.returns-clause-fine
returns-clause-fine c =
    let fresh : named_at c.args.source.now.bytes.now (recipe_names c.args.found.now.recipes) most_recipes (behind_word c.args.source.now.tokens.now c.args.found.now) ≡ Ok (tt {0}) =
    subst (λ xs. named_at c.args.source.now.bytes.now (recipe_names xs) most_recipes (behind_word c.args.source.now.tokens.now c.args.found.now) ≡ Ok (tt {0})) c.as_slice.ensures
    (subst (λ ts. named_at c.args.source.now.bytes.now (recipe_names c.as_slice.result.now) most_recipes ts ≡ Ok (tt {0})) c.behind_word-behind.ensures c.in_ok-named.ensures) in
    let pushed : c.push.new.self ≡ c.args.found.now.recipes ++ c.in_ok-parsed.parsed.recipe ∷ [] = search rules in
    subst (λ xs. AreFound (record { programs = c.args.found.now.programs; places = c.args.found.now.places; recipes = xs; sessions = c.args.found.now.sessions; clients = c.args.found.now.clients; next = c.in_ok-parsed.parsed.next })) (sym pushed)
    (recipe_kept c.args.source.now.bytes.now c.args.source.now.tokens.now c.args.found.now c.in_ok-parsed.parsed c.requires.fine fresh c.in_ok-parsed.ensures.exact c.in_ok-parsed.ensures.name)
