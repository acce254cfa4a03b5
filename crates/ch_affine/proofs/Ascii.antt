-- Two ways to say that a text is ASCII.
use Rattle.std.proofs.Common.{◌≡◌, ℕ, ◌<◌, true, List, get_or, IsTrue, IsAscii, arith}
use Rattle.std.specs.List.{All, list_all}
use Rattle.std.specs.Char.{is_ascii}
use Rattle.std.proofs.lemmas.List.Elements.{All-from_get_or}
use Rattle.std.proofs.lemmas.List.Sums.{list_all-from_AllPass, AllPass-from_list_all}

below : (b : ℕ) → b < 128 → is_ascii b ≡ true
below b lt = grind arith

not_above : (b : ℕ) → is_ascii b ≡ true → b < 128
not_above b e = grind arith

pub ascii_from_All : (bytes : List ℕ) → All (λ b. b < 128) bytes → IsTrue (list_all is_ascii bytes)
ascii_from_All bytes all = list_all-from_AllPass is_ascii bytes (λ k d lt. below (get_or bytes k d) (all k d lt))

pub All-from_ascii : (bytes : List ℕ) → IsTrue (list_all is_ascii bytes) → All (λ b. b < 128) bytes
All-from_ascii bytes ascii = λ k d lt. not_above (get_or bytes k d) (AllPass-from_list_all is_ascii bytes ascii k d lt)

pub all_ascii : (bytes : List ℕ) → IsAscii bytes → IsTrue (list_all is_ascii bytes)
all_ascii bytes ascii = ascii_from_All bytes (All-from_get_or (λ b. b < 128) bytes 0 (λ k lt. ascii k))
