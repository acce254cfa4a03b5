-- What is made from a number is a deck. All but the programs' instances depends on how many there are alone, and is computed.
use Rattle.std.proofs.Common.{◌≡◌, ◌∙◌, sym, ap, refl, ℕ, suc, ◌+◌, ◌*◌, ◌-◌, ◌%◌, ◌<◌, ◌≤◌, Bool, true, ◌&&◌, nat_le, List, [], ◌∷◌, ◌++◌, length, map, get_or, codes, arith}
use Rattle.std.specs.Bool.{IsTrue}
use Rattle.std.specs.List.{All, list_all, range_with_len}
use Rattle.std.proofs.lemmas.Bool.{and_from, and_parts}
use Rattle.std.proofs.lemmas.Bool.Decides.{nat_tests}
use Rattle.std.proofs.lemmas.Nat.{mod_below}
use Rattle.std.proofs.lemmas.List.FromFn.{get_or-map-range_with_len, get_or-range_with_len, length-map-range_with_len, length-range_with_len}
use Rattle.ch_deck.specs.Limits.{most_clients, most_programs, most_recipes, most_sessions}
use Rattle.ch_deck.specs.Parts.{AreNames, DeckParts, IsDeck, arrays_in}
use Rattle.ch_deck.specs.Programs.{IsProgram, names_differ}
use Rattle.ch_deck.specs.declared.program.Program.{Program}
use Rattle.ch_demo.specs.Generated.{count_of, deck_with, generated, program_of, session_of, size_of}
use Rattle.ch_grid.specs.Grid.{size}
use Rattle.ch_lex.specs.Keywords.{keyword_of}
use Rattle.ch_nest.specs.Limits.{most_number}
use Rattle.ch_nestparse.specs.Spelling.{is_fill, is_name}
use Rattle.ch_print.specs.Numbers.{number_text}
use Rattle.ch_search.proofs.Sessions.{all_at}
use Rattle.ch_workload.specs.Admissible.{has_admissible}
use Rattle.ch_workload.specs.Clients.{client_fits}
use Rattle.ch_workload.specs.Sessions.{session_fits}
use Rattle.ch_demo.proofs.Sizes.{sound_product}

-- ---- what is computed

abbrev are_names : List (List ℕ) → Bool
are_names names = list_all is_name names && names_differ names

abbrev names_fit : DeckParts → Bool
names_fit d =
    (are_names (map (λ p. p.name) d.programs) && are_names (map (λ s. s.name) d.sessions))
    && (are_names (map (λ r. r.name) d.recipes) && are_names (map (λ c. c.name) d.clients))

abbrev parts_fit : DeckParts → Bool
parts_fit d =
    list_all (session_fits (length d.programs) d.recipes) d.sessions
    && list_all (client_fits (arrays_in d.programs) (length d.sessions)) d.clients

abbrev fits : ℕ → ℕ → Bool
fits number n = names_fit (deck_with number n) && parts_fit (deck_with number n)

all_fit : (number : ℕ) → list_all (fits number) (range_with_len 1 8) ≡ true
unfolding number_text keyword_of has_admissible size
all_fit number = refl

all_named : list_all (λ k. is_name (codes "m" ++ number_text k)) (range_with_len 0 8) ≡ true
unfolding number_text keyword_of
all_named = refl

-- one of a range of numbers
in_range : (p : ℕ → Bool) (a n k : ℕ) → list_all p (range_with_len a n) ≡ true → a ≤ k → k < a + n → IsTrue (p k)
in_range p a n k h low high =
    let long : length (range_with_len a n) ≡ n = length-range_with_len a n in
    let back : a + (k - a) ≡ k = omega (arith, low) in
    all_at p (range_with_len a n) (k - a) k h (omega (arith, long, low, high)) (sym (get_or-range_with_len a n (k - a) k (omega (arith, low, high)) ∙ back))

-- ---- programs

is_small : (n : ℕ) → n < 97 → nat_le n most_number ≡ true
is_small n h = grind (arith, nat_tests)

fine : (number k : ℕ) → k < 8 → IsProgram (program_of number k)
unfolding keyword_of
fine number k l =
    let turns = mod_below (number + 3 * k) 9 (omega arith) in
    let rest = mod_below number 97 (omega arith) in
    record {
      sound = sound_product (size_of number k) (omega arith) (omega (arith, turns));
      called = in_range (λ j. is_name (codes "m" ++ number_text j)) 0 8 k all_named (omega arith) (omega (arith, l));
      named = refl;
      apart = refl;
      filled = refl;
      numbers = and_from (nat_le (number % 97) most_number) _ (is_small (number % 97) rest) (and_from (nat_le k most_number) _ (is_small k (omega (arith, l))) refl);
    }

all_sound : (number n : ℕ) → n ≤ 8 → All IsProgram (map (program_of number) (range_with_len 0 n))
all_sound number n few = λ k d l.
    let long : length (map (program_of number) (range_with_len 0 n)) ≡ n = length-map-range_with_len (program_of number) 0 n in
    let here : k < n = omega (arith, long, l) in
    rw (get_or-map-range_with_len (program_of number) 0 n k k d here (omega arith)) (fine number k (omega (arith, here, few)))

-- ---- the deck

few_names : {A : Type 0} (f : ℕ → A) (name : A → List ℕ) (n : ℕ) → length (map name (map f (range_with_len 0 n))) ≡ n
few_names f name n = long (range_with_len 0 n) ∙ length-range_with_len 0 n
  where
    long : (ks : List ℕ) → length (map name (map f ks)) ≡ length ks
    long [] = refl
    long (k ∷ ks) = ap suc (long ks)

with_few : (number n : ℕ) → 1 ≤ n → n ≤ 8 → IsDeck (deck_with number n)
with_few number n some few =
    let d = deck_with number n in
    let all : IsTrue (fits number n) = in_range (fits number) 1 8 n (all_fit number) some (omega (arith, few)) in
    let both = and_parts (names_fit d) (parts_fit d) all in
    let names = and_parts (are_names (map (λ p. p.name) d.programs) && are_names (map (λ s. s.name) d.sessions)) _ both.0 in
    let programs = and_parts (are_names (map (λ p. p.name) d.programs)) (are_names (map (λ s. s.name) d.sessions)) names.0 in
    let others = and_parts (are_names (map (λ r. r.name) d.recipes)) (are_names (map (λ c. c.name) d.clients)) names.1 in
    let parts = and_parts (list_all (session_fits (length d.programs) d.recipes) d.sessions) _ both.1 in
    let program_count : length (map (λ p. p.name) d.programs) ≡ n = few_names (program_of number) (λ p. p.name) n in
    let session_count : length (map (λ s. s.name) d.sessions) ≡ n = few_names session_of (λ s. s.name) n in
    record {
      programs = named most_programs (map (λ p. p.name) d.programs) (omega (arith, program_count, few)) programs.0;
      recipes = named most_recipes (map (λ r. r.name) d.recipes) (omega arith) others.0;
      sessions = named most_sessions (map (λ s. s.name) d.sessions) (omega (arith, session_count, few)) programs.1;
      clients = named most_clients (map (λ c. c.name) d.clients) (omega arith) others.1;
      sound = all_sound number n few;
      tuned = parts.0;
      called = parts.1;
    }
  where
    named : (most : ℕ) (names : List (List ℕ)) → length names ≤ most → IsTrue (list_all is_name names && names_differ names) → AreNames most names
    named most names few h =
        let both = and_parts (list_all is_name names) (names_differ names) h in
        record { few = few; called = both.0; differ = both.1 }

pub is_deck : (number : ℕ) → IsDeck (generated number)
is_deck number = with_few number (count_of number) (omega arith) (let rest = mod_below number 8 (omega arith) in omega (arith, rest))
