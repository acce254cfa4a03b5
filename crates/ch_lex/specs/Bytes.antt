-- The classes of bytes, and the number that digits write.
use Rattle.std.specs.Prelude.{ℕ, ◌-◌, Bool, false, not, ◌&&◌, ◌||◌, nat_lt, nat_le, ◌==◌, List, [], ◌∷◌, map}
use Rattle.std.specs.Int.Digits.{number_from_digits}

-- '0' to '9'
abbrev pub is_digit : ℕ → Bool
is_digit b = nat_le 48 b && nat_le b 57

-- 'A' to 'Z', 'a' to 'z', and the underscore
abbrev pub is_letter : ℕ → Bool
is_letter b = (nat_le 65 b && nat_le b 90) || (nat_le 97 b && nat_le b 122) || b == 95

-- what a name goes on with
abbrev pub is_word : ℕ → Bool
is_word b = is_letter b || is_digit b

-- space, tab, carriage return and line feed
abbrev pub is_blank : ℕ → Bool
is_blank b = b == 32 || b == 9 || b == 13 || b == 10

-- '#', which starts a comment
abbrev pub is_hash : ℕ → Bool
is_hash b = b == 35

abbrev pub is_line_feed : ℕ → Bool
is_line_feed b = b == 10

abbrev pub is_ascii : ℕ → Bool
is_ascii b = nat_lt b 128

-- what a comment goes on with
abbrev pub is_comment : ℕ → Bool
is_comment b = not (is_line_feed b) && is_ascii b

-- the first byte passes the test
abbrev pub begins : (ℕ → Bool) → List ℕ → Bool
begins test [] = false
begins test (b ∷ bs) = test b

-- the number that decimal digits write, the highest first
abbrev pub number_of : List ℕ → ℕ
number_of digits = number_from_digits 10 (map (λ d. d - 48) digits)
