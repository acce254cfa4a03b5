use Rattle.std.proofs.Common.{rules, ◌≡◌, ◌++◌, [], ◌∷◌, Ok, sym, subst}
use Rattle.ch_deck.specs.Kept.{AreFound}
use Rattle.ch_deck.specs.Limits.{most_programs}
use Rattle.ch_deck.specs.Sections.{behind_word, program_names, named_at}
use Rattle.ch_deck.proofs.Growing.{program_kept}
use Rattle.ch_deck.proofs.sections.program.Goals as goal

pub returns-clause-fine : goal.returns-clause-fine
returns-clause-fine c =
    let fresh : named_at c.args.source.now.bytes.now (program_names c.args.found.now.programs) most_programs (behind_word c.args.source.now.tokens.now c.args.found.now) ≡ Ok (tt {0}) =
    subst (λ xs. named_at c.args.source.now.bytes.now (program_names xs) most_programs (behind_word c.args.source.now.tokens.now c.args.found.now) ≡ Ok (tt {0})) c.as_slice.ensures
    (subst (λ ts. named_at c.args.source.now.bytes.now (program_names c.as_slice.result.now) most_programs ts ≡ Ok (tt {0})) c.behind_word-behind.ensures c.in_ok-named.ensures) in
    let pushed : c.push.new.self ≡ c.args.found.now.programs ++ c.in_ok-program.program ∷ [] = search rules in
    let placed : c.push-2.new.self ≡ c.args.found.now.places ++ c.place.result ∷ [] = search rules in
    subst (λ xs. AreFound (record { programs = xs; places = c.push-2.new.self; recipes = c.args.found.now.recipes; sessions = c.args.found.now.sessions; clients = c.args.found.now.clients; next = c.in_ok-program.program.next })) (sym pushed)
    (subst (λ ats. AreFound (record { programs = c.args.found.now.programs ++ c.in_ok-program.program ∷ []; places = ats; recipes = c.args.found.now.recipes; sessions = c.args.found.now.sessions; clients = c.args.found.now.clients; next = c.in_ok-program.program.next })) (sym placed)
    (program_kept c.args.source.now.bytes.now c.args.source.now.tokens.now c.args.found.now c.in_ok-program.program c.place.result c.requires.fine fresh c.in_ok-program.ensures.exact c.in_ok-program.ensures.name
    (record {
      named = c.in_ok-program.ensures.array_names;
      apart = c.in_ok-program.ensures.distinct;
      filled = c.in_ok-program.ensures.fills;
      numbers = c.in_ok-program.ensures.fill_numbers;
      accesses = c.in_ok-program.ensures.access_count;
    })))
