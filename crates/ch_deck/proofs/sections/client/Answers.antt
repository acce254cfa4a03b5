use Rattle.std.proofs.Common.{rules, ◌≡◌, ◌++◌, [], ◌∷◌, Ok, length, sym, subst}
use Rattle.std.specs.Bool.{IsTrue}
use Rattle.ch_workload.specs.Clients.{array_counts, client_fits, section_at}
use Rattle.ch_deck.specs.Kept.{AreFound}
use Rattle.ch_deck.specs.Limits.{most_clients}
use Rattle.ch_deck.specs.Sections.{behind_word, client_names, named_at}
use Rattle.ch_deck.proofs.Growing.{client_kept}
use Rattle.ch_deck.proofs.sections.client.Goals as goal

pub returns-clause-fine : goal.returns-clause-fine
returns-clause-fine c =
    let fresh : named_at c.args.source.now.bytes.now (client_names c.args.found.now.clients) most_clients (behind_word c.args.source.now.tokens.now c.args.found.now) ≡ Ok (tt {0}) =
    subst (λ xs. named_at c.args.source.now.bytes.now (client_names xs) most_clients (behind_word c.args.source.now.tokens.now c.args.found.now) ≡ Ok (tt {0})) c.as_slice.ensures
    (subst (λ ts. named_at c.args.source.now.bytes.now (client_names c.as_slice.result.now) most_clients ts ≡ Ok (tt {0})) c.behind_word-behind.ensures c.in_ok-named.ensures) in
    let pushed : c.push.new.self ≡ c.args.found.now.clients ++ c.in_ok-parsed.parsed.client ∷ [] = search rules in
    let is : section_at c.args.source.now.bytes.now c.args.found.now.programs c.args.found.now.sessions c.args.source.now.tokens.now c.args.found.now.next ≡ Ok c.in_ok-parsed.parsed =
    subst (λ ps. section_at c.args.source.now.bytes.now ps c.args.found.now.sessions c.args.source.now.tokens.now c.args.found.now.next ≡ Ok c.in_ok-parsed.parsed) c.known-declared.ensures.programs
    (subst (λ ss. section_at c.args.source.now.bytes.now c.known-declared.result.programs.now ss c.args.source.now.tokens.now c.args.found.now.next ≡ Ok c.in_ok-parsed.parsed) c.known-declared.ensures.sessions c.in_ok-parsed.ensures.exact) in
    let fits : IsTrue (client_fits (array_counts c.args.found.now.programs) (length c.args.found.now.sessions) c.in_ok-parsed.parsed.client) =
    subst (λ ps. IsTrue (client_fits (array_counts ps) (length c.args.found.now.sessions) c.in_ok-parsed.parsed.client)) c.known-declared.ensures.programs
    (subst (λ ss. IsTrue (client_fits (array_counts c.known-declared.result.programs.now) (length ss) c.in_ok-parsed.parsed.client)) c.known-declared.ensures.sessions c.in_ok-parsed.ensures.fits) in
    subst (λ xs. AreFound (record { programs = c.args.found.now.programs; places = c.args.found.now.places; recipes = c.args.found.now.recipes; sessions = c.args.found.now.sessions; clients = xs; next = c.in_ok-parsed.parsed.next })) (sym pushed)
    (client_kept c.args.source.now.bytes.now c.args.source.now.tokens.now c.args.found.now c.in_ok-parsed.parsed c.requires.fine fresh is c.in_ok-parsed.ensures.name fits)
