-- The bytes of a class that stand in front.
use Rattle.std.proofs.Common.{◌≡◌, ℕ, zero, suc, ◌+◌, Bool, true, false, if◌then◌else◌, List, [], ◌∷◌, take, drop, refl, add-one, arith}
use Rattle.std.specs.List.{prefix_len, list_all}
use Rattle.ch_lex.specs.Bytes.{begins}

all_step : (test : Bool) (p : ℕ → Bool) (b : ℕ) (bs : List ℕ) → p b ≡ test → list_all p (take (prefix_len p bs) bs) ≡ true
    → list_all p (take (if test then 1 + prefix_len p bs else 0) (b ∷ bs)) ≡ true
all_step true p b bs e h = let more : 1 + prefix_len p bs ≡ suc (prefix_len p bs) = omega arith in rw (more, e) h
all_step false p b bs e h = refl

-- they are of the class
all_of_run : (p : ℕ → Bool) (bs : List ℕ) → list_all p (take (prefix_len p bs) bs) ≡ true
all_of_run p [] = refl
all_of_run p (b ∷ bs) = all_step (p b) p b bs refl (all_of_run p bs)

end_step : (test : Bool) (p : ℕ → Bool) (b : ℕ) (bs : List ℕ) → p b ≡ test → begins p (drop (prefix_len p bs) bs) ≡ false
    → begins p (drop (if test then 1 + prefix_len p bs else 0) (b ∷ bs)) ≡ false
end_step true p b bs e h = let more : 1 + prefix_len p bs ≡ suc (prefix_len p bs) = omega arith in rw more h
end_step false p b bs e h = e

-- and the byte after them isn't
end_of_run : (p : ℕ → Bool) (bs : List ℕ) → begins p (drop (prefix_len p bs) bs) ≡ false
end_of_run p [] = refl
end_of_run p (b ∷ bs) = end_step (p b) p b bs refl (end_of_run p bs)

-- the same behind a first byte
pub all_with_first : (p : ℕ → Bool) (b : ℕ) (bs : List ℕ) → p b ≡ true → list_all p (take (prefix_len p bs + 1) (b ∷ bs)) ≡ true
all_with_first p b bs e = rw (add-one, e) (all_of_run p bs)

pub end_with_first : (p : ℕ → Bool) (b : ℕ) (bs : List ℕ) → begins p (drop (prefix_len p bs + 1) (b ∷ bs)) ≡ false
end_with_first p b bs = rw add-one (end_of_run p bs)

-- a test of the first byte of a front is one of the whole
pub begins-take : (p : ℕ → Bool) (n : ℕ) (bytes : List ℕ) → begins p (take n bytes) ≡ true → begins p bytes ≡ true
begins-take p zero bytes h = absurd (cc)
begins-take p (suc n) [] h = h
begins-take p (suc n) (b ∷ bs) h = h
