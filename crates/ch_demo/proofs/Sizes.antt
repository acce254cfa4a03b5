-- The products that are made are well formed, and can be run: by computation, for each size.
use Rattle.std.proofs.Common.{◌≡◌, ◌∙◌, sym, refl, ℕ, ◌+◌, ◌-◌, ◌<◌, ◌≤◌, Bool, true, ◌&&◌, get_or, length, arith}
use Rattle.std.specs.Bool.{IsTrue}
use Rattle.std.specs.List.{list_all, range_with_len}
use Rattle.std.proofs.lemmas.Bool.{and_parts}
use Rattle.std.proofs.lemmas.List.FromFn.{get_or-range_with_len, length-range_with_len}
use Rattle.ch_nest.specs.Shape.{is_nest}
use Rattle.ch_nest.specs.Sound.{is_sound}
use Rattle.ch_search.proofs.Sessions.{all_at}
use Rattle.ch_demo.specs.Product.{product}
use Rattle.ch_demo.proofs.Unrolled.{nest_is, nest_test, sound_is, sound_test}

all_nests : list_all nest_test (range_with_len 8 9) ≡ true
all_nests = refl

all_sound : list_all sound_test (range_with_len 8 9) ≡ true
all_sound = refl

one_of : (p : ℕ → Bool) (n : ℕ) → list_all p (range_with_len 8 9) ≡ true → 8 ≤ n → n ≤ 16 → IsTrue (p n)
one_of p n all low high =
    let long : length (range_with_len 8 9) ≡ 9 = length-range_with_len 8 9 in
    let back : 8 + (n - 8) ≡ n = omega arith in
    let here : n ≡ get_or (range_with_len 8 9) (n - 8) n = sym (get_or-range_with_len 8 9 (n - 8) n (omega arith) ∙ back) in
    all_at p (range_with_len 8 9) (n - 8) n all (omega (arith, long)) here

pub is_product : (n : ℕ) → 8 ≤ n → n ≤ 16 → IsTrue (is_nest (product n))
is_product n low high = nest_is n ∙ one_of nest_test n all_nests low high

pub sound_product : (n : ℕ) → 8 ≤ n → n ≤ 16 → IsTrue (is_sound (product n))
sound_product n low high = sound_is n ∙ one_of sound_test n all_sound low high
