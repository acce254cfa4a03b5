-- Names of one sort, one more.
use Rattle.std.proofs.Common.{◌≡◌, ℕ, ◌<◌, Bool, true, false, not, ◌||◌, List, [], ◌∷◌, ◌++◌, length, length-append, map, refl, sym, ap, subst, arith}
use Rattle.std.specs.Bool.{IsTrue}
use Rattle.std.specs.List.{list_all}
use Rattle.std.specs.Str.{bytes_eq}
use Rattle.std.proofs.lemmas.Bool.{and_from, and_parts}
use Rattle.std.proofs.lemmas.List.Folds.{list_all-append}
use Rattle.std.proofs.lemmas.Slice.Eq.{bytes_eq-Decides}
use Rattle.ch_deck.specs.Parts.{AreNames}
use Rattle.ch_deck.specs.Programs.{has_name, names_differ}
use Rattle.ch_nestparse.specs.Spelling.{is_name}

same_either : (x y : List ℕ) → bytes_eq y x ≡ false → bytes_eq x y ≡ false
same_either x y h = differ (bytes_eq x y) refl
  where
    differ : (b : Bool) → bytes_eq x y ≡ b → b ≡ false
    differ false e = refl
    differ true e = let same : bytes_eq y x ≡ true = (bytes_eq-Decides y x).1 (sym ((bytes_eq-Decides x y).0 e)) in absurd cc

not_new : (b : Bool) → b ≡ false → IsTrue (not b)
not_new true h = absurd cc
not_new false h = refl

or_false : (a b : Bool) → (a || b) ≡ false → (a ≡ false) × (b ≡ false)
or_false true b h = absurd cc
or_false false b h = (refl, h)

false_or : (a b : Bool) → a ≡ false → b ≡ false → (a || b) ≡ false
false_or true b h g = absurd cc
false_or false b h g = g

still_new : (x n : List ℕ) (ns : List (List ℕ)) → has_name x ns ≡ false → bytes_eq n x ≡ false → has_name x (ns ++ n ∷ []) ≡ false
still_new x n [] h d = false_or (bytes_eq x n) false (same_either x n d) refl
still_new x n (m ∷ ns) h d = false_or (bytes_eq x m) (has_name x (ns ++ n ∷ [])) ((or_false (bytes_eq x m) (has_name x ns) h).0) (still_new x n ns (or_false (bytes_eq x m) (has_name x ns) h).1 d)

differ_false : (b : Bool) → IsTrue (not b) → b ≡ false
differ_false true h = absurd cc
differ_false false h = refl

differ_more : (ns : List (List ℕ)) (n : List ℕ) → IsTrue (names_differ ns) → has_name n ns ≡ false → IsTrue (names_differ (ns ++ n ∷ []))
differ_more [] n d h = refl
differ_more (m ∷ ns) n d h =
    let p = and_parts (not (has_name m ns)) (names_differ ns) d in
    let q = or_false (bytes_eq n m) (has_name n ns) h in
    and_from _ _ (not_new (has_name m (ns ++ n ∷ [])) (still_new m n ns (differ_false (has_name m ns) p.0) q.0)) (differ_more ns n p.1 q.1)

-- no name is the new one, and there may be one more
pub record IsNew (most : ℕ) (names : List (List ℕ)) (name : List ℕ) : Type 0 where
  pub other : has_name name names ≡ false
  pub room : length names < most

pub names_push : (most : ℕ) (names : List (List ℕ)) (n : List ℕ) → AreNames most names → IsNew most names n → is_name n ≡ true → AreNames most (names ++ n ∷ [])
names_push most names n a new c = record {
  few = let l = new.room in let e = length-append names (n ∷ []) in omega (arith, l, e);
  called = let all : list_all is_name names ≡ true = a.called in rw (list_all-append, all, c) refl;
  differ = differ_more names n a.differ new.other;
}

map_push : {X Y : Type 0} (f : X → Y) (xs : List X) (x : X) → map f (xs ++ x ∷ []) ≡ map f xs ++ f x ∷ []
map_push f [] x = refl
map_push f (y ∷ ys) x = ap (λ zs. f y ∷ zs) (map_push f ys x)

-- one thing more, whose name is new
pub named_push : {X : Type 0} (name : X → List ℕ) (most : ℕ) (xs : List X) (x : X) → AreNames most (map name xs) → IsNew most (map name xs) (name x) → is_name (name x) ≡ true
    → AreNames most (map name (xs ++ x ∷ []))
named_push name most xs x a new c = subst (AreNames most) (sym (map_push name xs x)) (names_push most (map name xs) (name x) a new c)

pub counts_push : {X : Type 0} (f : X → ℕ) (xs : List X) (x : X) → map f (xs ++ x ∷ []) ≡ map f xs ++ f x ∷ []
counts_push f xs x = map_push f xs x
