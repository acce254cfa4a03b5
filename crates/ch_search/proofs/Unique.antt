-- A deck has one text.
use Rattle.std.proofs.Common.{◌≡◌, ◌∙◌, sym, ap, ap₂, refl, ℕ, suc, List, [], ◌∷◌, ◌++◌, codes}
use Rattle.ch_deck.specs.Parts.{DeckParts}
use Rattle.ch_report.specs.declared.part.SessionPart.{SessionPart}
use Rattle.ch_search.specs.Parts.{Each, IsPart, judged_in}
use Rattle.ch_search.specs.Searched.{IsSearchText, lines_of, session_part}
use Rattle.ch_tune.proofs.Unique.{same_part}
use Rattle.ch_workload.specs.Tuned.{Tuned}

pub same_parts : (deck : DeckParts) (k : ℕ) (ss : List Tuned) (ps qs : List SessionPart) → Each (IsPart deck) k ss ps → Each (IsPart deck) k ss qs → ps ≡ qs
same_parts deck k [] [] [] e f = refl
same_parts deck k [] [] (q ∷ qs) e f = absurd f
same_parts deck k [] (p ∷ ps) qs e f = absurd e
same_parts deck k (s ∷ ss) [] qs e f = absurd e
same_parts deck k (s ∷ ss) (p ∷ ps) [] e f = absurd f
same_parts deck k (s ∷ ss) (p ∷ ps) (q ∷ qs) e f =
    ap₂ (λ x xs. x ∷ xs) (same_part s.params s.repeat (judged_in deck k s) p q e.0 f.0) (same_parts deck (suc k) ss ps qs e.1 f.1)

pub same_text : (deck : DeckParts) (one other : List ℕ) → IsSearchText deck one → IsSearchText deck other → one ≡ other
same_text deck one other a b =
    a.told ∙ ap (λ parts. lines_of (session_part deck) deck.sessions parts ++ codes "end\n") (same_parts deck 0 deck.sessions a.parts b.parts a.searched b.searched) ∙ sym b.told
