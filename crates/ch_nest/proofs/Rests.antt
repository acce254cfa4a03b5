-- What holds of a list holds of what follows its first element, as a slice's pattern gives it.
use Rattle.std.proofs.Common.{◌≡◌, ◌-◌, Bool, List, [], ◌∷◌, take, drop, length, arith}
use Rattle.std.specs.Bool.{IsTrue}
use Rattle.std.specs.List.{All, list_all}
use Rattle.std.proofs.lemmas.Bool.{and_parts}
use Rattle.std.proofs.lemmas.List.{take_all}
use Rattle.std.proofs.lemmas.List.Elements.{All-take, All-drop}

abbrev pub rest : {X : Type 0} → List X → List X
rest xs = take (length xs - 1) (drop 1 xs)

pub rest-cons : {X : Type 0} (x : X) (xs : List X) → rest (x ∷ xs) ≡ xs
rest-cons x xs = take_all (length (x ∷ xs) - 1) xs (omega arith)

pub All_rest : {X : Type 0} (P : X → Type 0) (xs : List X) → All P xs → All P (take (length xs - 1) (drop 1 xs))
All_rest P xs h = All-take P _ _ (All-drop P 1 xs h)

pub all_rest : {X : Type 0} (t : X → Bool) (xs : List X) → IsTrue (list_all t xs) → IsTrue (list_all t (take (length xs - 1) (drop 1 xs)))
all_rest t [] h = h
all_rest t (x ∷ xs) h = rw (rest-cons x xs) ((and_parts _ _ h).1)
