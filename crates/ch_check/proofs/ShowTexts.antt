-- A text of `show`, session by session.
use Rattle.std.proofs.Common.{◌≡◌, refl, sym, ap, ◌∙◌, subst, ℕ, suc, ◌+◌, ◌<◌, ◌≤◌, ℤ, Option, Result, Ok, Err, List, [], ◌∷◌, ◌++◌, length, get_or, drop, add-one, append_assoc, append-nil}
use Rattle.std.specs.Prelude.{codes}
use Rattle.std.proofs.lemmas.List.{drop_all, drop_more}
use Rattle.ch_check.specs.Added.{Adds}
use Rattle.ch_check.specs.Checked.{line_on}
use Rattle.ch_check.specs.PieceText.{piece_lines}
use Rattle.ch_check.specs.Sessions.{made}
use Rattle.ch_check.specs.Shown.{Shows, ShowsAll, ShowsFrom, ShowsMade, ShowsProgram}
use Rattle.ch_code.specs.CodeText.{unit_text}
use Rattle.ch_code.specs.UnitParts.{UnitParts}
use Rattle.ch_deck.specs.Parts.{DeckParts}
use Rattle.ch_judge.specs.Judged.{IsCodeFor}
use Rattle.ch_nest.specs.CostModel.{CostModel}
use Rattle.ch_nest.specs.LoopNest.{LoopNest}
use Rattle.ch_script.specs.declared.refusal.Refusal.{Refusal}
use Rattle.ch_space.specs.Listed.{Listed}
use Rattle.ch_subject.specs.Subjects.{machine_of, nest_of}
use Rattle.ch_workload.specs.Tuned.{Tuned}

-- ---- one session

pub legal_shown : (m : CostModel) (deck : DeckParts) (at : Option (List ℤ)) (s : Tuned) (n : LoopNest) (p : Listed) (u : UnitParts) (line old mid new : List ℕ) → n ≡ nest_of deck s → made deck at s ≡ Ok p
    → IsCodeFor n p u → line ≡ line_on m deck at s → mid ≡ old ++ line → new ≡ mid ++ (piece_lines p.list ++ unit_text u) → Adds (Shows m deck at s) old new
legal_shown m deck at s n p u line old mid new e h c i a b = record {
  text = line_on m deck at s ++ (piece_lines p.list ++ unit_text u);
  fits = record {
    behind = piece_lines p.list ++ unit_text u;
    shows = subst (λ (r : Result Listed Refusal). ShowsMade (nest_of deck s) r (piece_lines p.list ++ unit_text u)) (sym h)
        (subst (λ (x : LoopNest). ShowsProgram x p (piece_lines p.list ++ unit_text u)) e (record { code = u; executes = c; written = refl }));
    written = refl;
  };
  added = b ∙ ap (λ t. t ++ (piece_lines p.list ++ unit_text u)) (a ∙ ap (λ t. old ++ t) i) ∙ append_assoc old (line_on m deck at s) (piece_lines p.list ++ unit_text u);
}

pub refused_shown : (m : CostModel) (deck : DeckParts) (at : Option (List ℤ)) (s : Tuned) (refused : Refusal) (line old new : List ℕ) → made deck at s ≡ Err refused → line ≡ line_on m deck at s
    → new ≡ old ++ line → Adds (Shows m deck at s) old new
refused_shown m deck at s refused line old new h i a = record {
  text = line_on m deck at s;
  fits = record {
    behind = [];
    shows = subst (λ (r : Result Listed Refusal). ShowsMade (nest_of deck s) r []) (sym h) refl;
    written = sym (append-nil (line_on m deck at s));
  };
  added = a ∙ ap (λ t. old ++ t) i;
}

-- ---- all sessions

-- the text is that of the sessions before number k: with one of the others behind it, it shows all of them
abbrev pub ShowsTo : DeckParts → Option (List ℤ) → ℕ → List ℕ → Type 0
ShowsTo deck at k text = (rest : List ℕ) → ShowsFrom deck at k (drop k deck.sessions) rest → ShowsAll deck at (text ++ rest)

pub none_shown : (deck : DeckParts) (at : Option (List ℤ)) (old : List ℕ) → Adds (ShowsTo deck at 0) old old
none_shown deck at old = record { text = []; fits = λ rest h. h; added = sym (append-nil old) }

next_from : (deck : DeckParts) (at : Option (List ℤ)) (k : ℕ) (s : Tuned) (front rest : List ℕ) → k < length deck.sessions → s ≡ get_or deck.sessions k s → Shows (machine_of deck.clients k) deck at s front
    → ShowsFrom deck at (k + 1) (drop (k + 1) deck.sessions) rest → ShowsFrom deck at k (drop k deck.sessions) (front ++ rest)
next_from deck at k s front rest l e f r =
    let later : List Tuned = drop (k + 1) deck.sessions in
    let here : drop k deck.sessions ≡ s ∷ later = drop_more deck.sessions k s l ∙ ap (λ y. y ∷ later) (sym e) in
    subst (λ ys. ShowsFrom deck at k ys (front ++ rest)) (sym here)
    (front, (rest, (f, (subst (λ j. ShowsFrom deck at j later rest) (add-one k) r, refl))))

pub next_shown : (deck : DeckParts) (at : Option (List ℤ)) (k : ℕ) (s : Tuned) (old mid new : List ℕ) → k < length deck.sessions → s ≡ get_or deck.sessions k s → Adds (ShowsTo deck at k) old mid
    → Adds (Shows (machine_of deck.clients k) deck at s) mid new → Adds (ShowsTo deck at (k + 1)) old new
next_shown deck at k s old mid new l e a b = record {
  text = a.text ++ b.text;
  fits = λ rest r. subst (ShowsAll deck at) (sym (append_assoc a.text b.text rest)) (a.fits (b.text ++ rest) (next_from deck at k s b.text rest l e b.fits r));
  added = b.added ∙ ap (λ t. t ++ b.text) a.added ∙ append_assoc old a.text b.text;
}

pub all_shown : (deck : DeckParts) (at : Option (List ℤ)) (k : ℕ) (old mid new : List ℕ) → length deck.sessions ≤ k → Adds (ShowsTo deck at k) old mid → new ≡ mid ++ codes "end\n"
    → Adds (ShowsAll deck at) old new
all_shown deck at k old mid new l a n = record {
  text = a.text ++ codes "end\n";
  fits = a.fits (codes "end\n") (subst (λ ys. ShowsFrom deck at k ys (codes "end\n")) (sym (drop_all k deck.sessions l)) refl);
  added = n ∙ ap (λ t. t ++ codes "end\n") a.added ∙ append_assoc old a.text (codes "end\n");
}
