-- Lines of a list, one after the other.
use Rattle.std.proofs.Common.{◌≡◌, ◌∙◌, ℕ, ◌+◌, ◌<◌, List, ◌++◌, get_or, drop, length, add-one, append_assoc}
use Rattle.std.proofs.lemmas.List.{drop_more}
use Rattle.ch_report.specs.Numbered.{numbered}

pub one_line : {A : Type 0} (line : ℕ → A → List ℕ) (xs : List A) (i : ℕ) (x : A) (out next whole : List ℕ) → i < length xs
    → next ≡ out ++ line (i + 1) (get_or xs i x) → out ++ numbered line (i + 1) (drop i xs) ≡ whole
    → next ++ numbered line (i + 1 + 1) (drop (i + 1) xs) ≡ whole
one_line line xs i x out next whole l e h =
    let a = rw (drop_more xs i x l) at h in
    rw (e, add-one (i + 1)) (append_assoc out _ _ ∙ a)
