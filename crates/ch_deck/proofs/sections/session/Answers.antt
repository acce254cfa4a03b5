use Rattle.std.proofs.Common.{rules, ◌≡◌, ◌++◌, [], ◌∷◌, Ok, length, sym, subst}
use Rattle.std.specs.Bool.{IsTrue}
use Rattle.ch_workload.specs.Sessions.{section_at, session_fits}
use Rattle.ch_deck.specs.Kept.{AreFound}
use Rattle.ch_deck.specs.Limits.{most_sessions}
use Rattle.ch_deck.specs.Sections.{behind_word, session_names, named_at}
use Rattle.ch_deck.proofs.Growing.{session_kept}
use Rattle.ch_deck.proofs.sections.session.Goals as goal

pub returns-clause-fine : goal.returns-clause-fine
returns-clause-fine c =
    let fresh : named_at c.args.source.now.bytes.now (session_names c.args.found.now.sessions) most_sessions (behind_word c.args.source.now.tokens.now c.args.found.now) ≡ Ok (tt {0}) =
    subst (λ xs. named_at c.args.source.now.bytes.now (session_names xs) most_sessions (behind_word c.args.source.now.tokens.now c.args.found.now) ≡ Ok (tt {0})) c.as_slice.ensures
    (subst (λ ts. named_at c.args.source.now.bytes.now (session_names c.as_slice.result.now) most_sessions ts ≡ Ok (tt {0})) c.behind_word-behind.ensures c.in_ok-named.ensures) in
    let pushed : c.push.new.self ≡ c.args.found.now.sessions ++ c.in_ok-parsed.parsed.session ∷ [] = search rules in
    let is : section_at c.args.source.now.bytes.now c.args.found.now.programs c.args.found.now.recipes c.args.source.now.tokens.now c.args.found.now.next ≡ Ok c.in_ok-parsed.parsed =
    subst (λ ps. section_at c.args.source.now.bytes.now ps c.args.found.now.recipes c.args.source.now.tokens.now c.args.found.now.next ≡ Ok c.in_ok-parsed.parsed) c.known-declared.ensures.programs
    (subst (λ rs. section_at c.args.source.now.bytes.now c.known-declared.result.programs.now rs c.args.source.now.tokens.now c.args.found.now.next ≡ Ok c.in_ok-parsed.parsed) c.known-declared.ensures.recipes c.in_ok-parsed.ensures.exact) in
    let fits : IsTrue (session_fits (length c.args.found.now.programs) c.args.found.now.recipes c.in_ok-parsed.parsed.session) =
    subst (λ ps. IsTrue (session_fits (length ps) c.args.found.now.recipes c.in_ok-parsed.parsed.session)) c.known-declared.ensures.programs
    (subst (λ rs. IsTrue (session_fits (length c.known-declared.result.programs.now) rs c.in_ok-parsed.parsed.session)) c.known-declared.ensures.recipes c.in_ok-parsed.ensures.fits) in
    subst (λ xs. AreFound (record { programs = c.args.found.now.programs; places = c.args.found.now.places; recipes = c.args.found.now.recipes; sessions = xs; clients = c.args.found.now.clients; next = c.in_ok-parsed.parsed.next })) (sym pushed)
    (session_kept c.args.source.now.bytes.now c.args.source.now.tokens.now c.args.found.now c.in_ok-parsed.parsed c.requires.fine fresh is c.in_ok-parsed.ensures.name fits)
