-- A client section that was read: it fits what was declared, its name is a name, and a token was taken; each refusal names a place of
-- the text.
use Rattle.std.proofs.Common.{◌≡◌, ℕ, zero, suc, ◌+◌, ◌-◌, ◌<◌, ◌≤◌, pos, Bool, true, false, not, ◌&&◌, ◌||◌, nat_eq, nat_le, nat_lt, List, [], ◌∷◌, ◌++◌, length, drop, length-append, lt-ltb, le-leb, Ok, refl, sym, ap, ◌∙◌, subst, arith}
use Rattle.std.specs.Bool.{IsTrue}
use Rattle.std.specs.List.{list_all}
use Rattle.std.specs.Prelude.{slice_index_or}
use Rattle.std.proofs.lemmas.Bool.{and_from, and_parts, leb-true}
use Rattle.std.proofs.lemmas.Bool.Decides.{nat_tests}
use Rattle.std.proofs.lemmas.List.Folds.{list_all-append}
use Rattle.ch_lex.specs.Cut.{IsCut}
use Rattle.ch_lex.specs.declared.error.Code2.TheVariants.{D2, D3, D7, D9}
use Rattle.ch_lex.specs.declared.error.ParseError.{ParseError}
use Rattle.ch_lex.specs.declared.error.ParseError.TheVariants.{Memory, Refused}
use Rattle.ch_lex.specs.declared.keyword.Keyword.TheVariants as words
use Rattle.ch_lex.specs.declared.token.Sign.TheVariants as signs
use Rattle.ch_lex.specs.declared.token.Token.{Token}
use Rattle.ch_nest.specs.CostModel.{CostModel, cost_model}
use Rattle.ch_nest.specs.Limits.{most_cache, most_charge, most_number}
use Rattle.ch_nest.specs.Shape.{is_at_most}
use Rattle.ch_nestparse.specs.declared.ahead.Look.{Look}
use Rattle.ch_nestparse.specs.declared.ahead.Look.TheVariants as looks
use Rattle.ch_nestparse.specs.declared.program.ParsedProgram.{ParsedProgram}
use Rattle.ch_nestparse.specs.Gives.{Fails}
use Rattle.ch_nestparse.specs.Inside.{IsWithin}
use Rattle.ch_nestparse.specs.Read.{begins, place, seen}
use Rattle.ch_nestparse.specs.Spelling.{is_fill, is_name}
use Rattle.ch_nestparse.proofs.Placed.{Placed, placed_bind, placed_choose, placed_err, placed_guarded, placed_ok}
use Rattle.ch_nestparse.proofs.Posts.{integer_post}
use Rattle.ch_script.proofs.Left.{Leaves, Left, integer_left, keyword_left, left_drop, left_place, name_left, placed_if, repeated_left, sign_left}
use Rattle.ch_workload.specs.declared.calls.CallDecl.{CallDecl}
use Rattle.ch_workload.specs.declared.calls.Called.{Called}
use Rattle.ch_workload.specs.declared.client.Script.{Script}
use Rattle.ch_workload.specs.declared.fills.ClientFill.{ClientFill}
use Rattle.ch_workload.specs.Calls.{begins_call, call_at, call_fits, calls_at, is_count, no_calls, total_of}
use Rattle.ch_workload.specs.Clients.{array_counts, client_at, client_fits, patience_at, patience_if}
use Rattle.ch_workload.specs.Fills.{arrays_of, begins_fill, fill, fill_at, fill_fits, fills_at, fills_differ, is_filled, is_for, values_at}
use Rattle.ch_workload.specs.Limits.{most_calls}
use Rattle.ch_workload.specs.Machines.{between_at, listed_at, machine_at, numbers_at, usual_machine}
use Rattle.ch_workload.specs.Tuned.{Tuned}
use Rattle.ch_workload.proofs.NamesRead.{array_left, program_left, session_left}
use Rattle.ch_workload.proofs.Readings.{from_left, number_left, placed_with}
use Rattle.ch_workload.proofs.SessionsRead.{word_left}

-- fills

counts_at : (programs : List ParsedProgram) (k : ℕ) → slice_index_or (array_counts programs) k 0 ≡ length (arrays_of programs k)
counts_at [] k = refl
counts_at (p ∷ ps) zero = refl
counts_at (p ∷ ps) (suc k) = counts_at ps k

eq_either : (a b : ℕ) → nat_eq a b ≡ nat_eq b a
eq_either a b = grind (arith, nat_tests)

either_array : (f g : ClientFill) → is_for f.program f.array g ≡ is_for g.program g.array f
either_array f g = rw (eq_either g.program f.program, eq_either g.array f.array) refl

or_parts : (a b : Bool) → (a || b) ≡ false → (a ≡ false) × (b ≡ false)
or_parts true b h = absurd cc
or_parts false b h = (refl, h)

or_none : (a b : Bool) → a ≡ false → b ≡ false → (a || b) ≡ false
or_none true b h g = absurd cc
or_none false b h g = g

not_is : (b : Bool) → not b ≡ true → b ≡ false
not_is true h = absurd cc
not_is false h = refl

is_not : (b : Bool) → b ≡ false → not b ≡ true
is_not true h = absurd cc
is_not false h = refl

still_free : (x f : ClientFill) (fs : List ClientFill) → is_filled x.program x.array fs ≡ false → is_for f.program f.array x ≡ false → is_filled x.program x.array (fs ++ f ∷ []) ≡ false
still_free x f [] h g = or_none (is_for x.program x.array f) false (either_array x f ∙ g) refl
still_free x f (y ∷ ys) h g =
    let p = or_parts (is_for x.program x.array y) (is_filled x.program x.array ys) h in
    or_none (is_for x.program x.array y) (is_filled x.program x.array (ys ++ f ∷ [])) p.0 (still_free x f ys p.1 g)

differ_more : (fs : List ClientFill) (f : ClientFill) → fills_differ fs ≡ true → is_filled f.program f.array fs ≡ false → fills_differ (fs ++ f ∷ []) ≡ true
differ_more [] f d h = refl
differ_more (x ∷ xs) f d h =
    let p = and_parts (not (is_filled x.program x.array xs)) (fills_differ xs) d in
    let q = or_parts (is_for f.program f.array x) (is_filled f.program f.array xs) h in
    and_from (not (is_filled x.program x.array (xs ++ f ∷ []))) (fills_differ (xs ++ f ∷ []))
    (is_not (is_filled x.program x.array (xs ++ f ∷ [])) (still_free x f xs (not_is (is_filled x.program x.array xs) p.0) q.0)) (differ_more xs f p.1 q.1)

total_push : (cs : List CallDecl) (c : CallDecl) → total_of (cs ++ c ∷ []) ≡ total_of cs + c.times
total_push [] c = omega arith
total_push (x ∷ xs) c = let h = total_push xs c in omega (arith, h)

module _ (bytes : List ℕ) (n : ℕ) where
  values_left : (ts : List Token) → Left bytes n ts → Leaves bytes (λ f. is_fill f ≡ true) n (values_at bytes ts)
  unfolding values_at
  values_left ts h =
      placed_bind bytes (sign_left bytes D2 signs.LeftParen n ts h) (λ paren a.
      placed_bind bytes (placed_with bytes (integer_post bytes D2 paren) (integer_left bytes D2 n paren a)) (λ x b.
      placed_bind bytes (sign_left bytes D2 signs.Comma n x.1 b.0.1) (λ comma c.
      placed_bind bytes (placed_with bytes (integer_post bytes D2 comma) (integer_left bytes D2 n comma c)) (λ y d.
      placed_bind bytes (sign_left bytes D2 signs.RightParen n y.1 d.0.1) (λ close e.
      placed_bind bytes (sign_left bytes D2 signs.Semicolon n close e) (λ rest f.
      placed_ok bytes (λ v. (is_fill v.0 ≡ true) × Left bytes n v.1) (record { a = x.0; b = y.0 }, rest)
      (and_from (is_at_most most_number x.0) (is_at_most most_number y.0) b.1.0 d.1.0, f)))))))

  -- fills of different arrays that exist
  abbrev Fills : List ParsedProgram → List ClientFill → Type 0
  Fills programs found = (list_all (fill_fits (array_counts programs)) found ≡ true) × (fills_differ found ≡ true)

  fill_left : (programs : List ParsedProgram) (found : List ClientFill) (ts : List Token) → Fills programs found × Left bytes n ts → Leaves bytes (Fills programs) n (fill_at bytes programs found ts)
  unfolding fill_at
  fill_left programs found ts h =
      placed_bind bytes (word_left bytes words.Fill n ts h.1) (λ word a.
      placed_bind bytes (program_left bytes n programs word a) (λ program b.
      placed_bind bytes (array_left bytes n (arrays_of programs program.0) program.1 b.1) (λ array c.
      placed_bind bytes (placed_if bytes (not (is_filled program.0 array.0 found)) D3 (place bytes program.1) (λ _. Ok array.1) (left_place bytes n program.1 b.1)
      (λ free. placed_ok bytes (λ us. (is_filled program.0 array.0 found ≡ false) × Left bytes n us) array.1 (not_is (is_filled program.0 array.0 found) free, c.1))) (λ new d.
      placed_bind bytes (values_left new d.1) (λ values e.
      let one : ClientFill = fill program.0 array.0 values.0 in
      let there : array.0 < slice_index_or (array_counts programs) program.0 0 = subst (λ m. array.0 < m) (sym (counts_at programs program.0)) c.0 in
      let fits : fill_fits (array_counts programs) one ≡ true = and_from (nat_lt array.0 (slice_index_or (array_counts programs) program.0 0)) (is_fill values.0) (lt-ltb array.0 _ there) e.0 in
      let all : list_all (fill_fits (array_counts programs)) (found ++ one ∷ []) ≡ true = rw (list_all-append, h.0.0, fits) refl in
      placed_ok bytes (λ x. Fills programs x.0 × Left bytes n x.1) (found ++ one ∷ [], values.1) ((all, differ_more found one h.0.1 d.0), e.1))))))

  fills_left : (programs : List ParsedProgram) (ts : List Token) → Left bytes n ts → Leaves bytes (Fills programs) n (fills_at bytes programs ts)
  unfolding fills_at
  fills_left programs ts h =
      repeated_left bytes (λ found us. Fills programs found × Left bytes n us) (begins_fill bytes) (fill_at bytes programs) (fill_left programs) (length ts) [] ts ((refl, refl), h)

  -- calls of sessions that exist, not too many
  abbrev Calls : ℕ → Called → Type 0
  Calls sessions c = (list_all (call_fits sessions) c.calls ≡ true) × (total_of c.calls ≡ c.total) × (c.total ≤ most_calls)

  call_left : (sessions : List Tuned) (found : Called) (ts : List Token) → Calls (length sessions) found × Left bytes n ts
      → Placed bytes (λ x. Calls (length sessions) x.0 × (1 ≤ length x.0.calls) × Left bytes n x.1) (call_at bytes sessions found ts)
  unfolding call_at
  call_left sessions found ts h =
      placed_bind bytes (word_left bytes words.Call n ts h.1) (λ word a.
      placed_bind bytes (session_left bytes n sessions word a) (λ session b.
      placed_bind bytes (number_left bytes D2 n session.1 b.1) (λ times c.
      placed_bind bytes (placed_if bytes (is_count found.total times.0) D7 (place bytes session.1) (λ _. Ok times.1) (left_place bytes n session.1 b.1)
      (λ few. placed_ok bytes (λ us. (is_count found.total times.0 ≡ true) × Left bytes n us) times.1 (few, c.1))) (λ few d.
      placed_bind bytes (sign_left bytes D2 signs.Semicolon n few d.1) (λ rest e.
      let one : CallDecl = record { session = session.0; times = times.0 } in
      let parts = and_parts (nat_le 1 times.0) (nat_le (found.total + times.0) most_calls) d.0 in
      let fits : call_fits (length sessions) one ≡ true = and_from (nat_lt session.0 (length sessions)) (nat_le 1 times.0) (lt-ltb session.0 (length sessions) b.0) parts.0 in
      let all : list_all (call_fits (length sessions)) (found.calls ++ one ∷ []) ≡ true = rw (list_all-append, h.0.0, fits) refl in
      let sum : total_of (found.calls ++ one ∷ []) ≡ found.total + times.0 = total_push found.calls one ∙ ap (λ m. m + times.0) h.0.1 in
      let small : found.total + times.0 ≤ most_calls = leb-true (found.total + times.0) most_calls parts.1 in
      let more = length-append found.calls (one ∷ []) in
      placed_ok bytes (λ x. Calls (length sessions) x.0 × (1 ≤ length x.0.calls) × Left bytes n x.1)
      (record { calls = found.calls ++ one ∷ []; total = found.total + times.0 }, rest) ((all, sum, small), omega (arith, more), e))))))

  calls_left : (sessions : List Tuned) (ts : List Token) → Left bytes n ts → Placed bytes (λ x. Calls (length sessions) x.0 × (1 ≤ length x.0.calls) × Left bytes n x.1) (calls_at bytes sessions ts)
  unfolding calls_at
  calls_left sessions ts h =
      placed_bind bytes (call_left sessions no_calls ts ((refl, refl, omega arith), h)) (λ first a.
      repeated_left bytes (λ found us. Calls (length sessions) found × (1 ≤ length found.calls) × Left bytes n us) (begins_call bytes) (call_at bytes sessions)
      (λ found us g. call_left sessions found us (g.0, g.2)) (length first.1) first.0 first.1 a)

  -- machines

  between_left : (low high : ℕ) (ts : List Token) → Left bytes n ts → Leaves bytes (λ (z : ℕ). Unit {0}) n (between_at bytes low high ts)
  unfolding between_at
  between_left low high ts h =
      placed_bind bytes (number_left bytes D2 n ts h) (λ z a.
      placed_guarded bytes (nat_le low z.0 && nat_le z.0 high) D9 (place bytes ts) (λ _. Ok z) (left_place bytes n ts h) (placed_ok bytes (λ x. Unit {0} × Left bytes n x.1) z a))

  listed_left : (low high : ℕ) (ts : List Token) → Left bytes n ts → Leaves bytes (λ (z : ℕ). Unit {0}) n (listed_at bytes low high ts)
  unfolding listed_at
  listed_left low high ts h =
      placed_bind bytes (between_left low high ts h) (λ z a.
      placed_bind bytes (sign_left bytes D2 signs.Comma n z.1 a.1) (λ rest b.
      placed_ok bytes (λ x. Unit {0} × Left bytes n x.1) (z.0, rest) (tt, b)))

  numbers_left : (ts : List Token) → Left bytes n ts → Leaves bytes (λ (m : CostModel). Unit {0}) n (numbers_at bytes ts)
  unfolding numbers_at
  numbers_left ts h =
      placed_bind bytes (word_left bytes words.Machine n ts h) (λ word a.
      placed_bind bytes (sign_left bytes D2 signs.LeftParen n word a) (λ paren b.
      placed_bind bytes (listed_left 0 most_charge paren b) (λ turn c.
      placed_bind bytes (listed_left 0 most_charge turn.1 c.1) (λ miss d.
      placed_bind bytes (listed_left 1 most_cache miss.1 d.1) (λ lines e.
      placed_bind bytes (between_left 1 most_cache lines.1 e.1) (λ width f.
      placed_bind bytes (sign_left bytes D2 signs.RightParen n width.1 f.1) (λ rest g.
      placed_ok bytes (λ x. Unit {0} × Left bytes n x.1) (cost_model turn.0 miss.0 lines.0 width.0, rest) (tt, g))))))))

  machine_left : (ts : List Token) → Left bytes n ts → Leaves bytes (λ (m : CostModel). Unit {0}) n (machine_at bytes ts)
  unfolding machine_at
  machine_left ts h =
      placed_choose bytes (begins bytes words.Machine ts) (λ _. numbers_at bytes ts) (λ _. Ok (usual_machine, ts)) (numbers_left ts h)
      (placed_ok bytes (λ x. Unit {0} × Left bytes n x.1) (usual_machine, ts) (tt, h))

  patience_by : (look : Look) (at : ℕ) (ts : List Token) → at ≤ length bytes → Left bytes n ts → Leaves bytes (λ (b : Bool). Unit {0}) n (patience_if look at ts)
  patience_by (looks.Keyword words.Eager) at ts l h = placed_ok bytes (λ x. Unit {0} × Left bytes n x.1) (false, ts) (tt, h)
  patience_by (looks.Keyword words.Patient) at ts l h = placed_ok bytes (λ x. Unit {0} × Left bytes n x.1) (true, ts) (tt, h)
  patience_by other at ts l h = placed_err bytes (λ x. Unit {0} × Left bytes n x.1) D2 at (pos 0) l

  patience_left : (ts : List Token) → Left bytes n ts → Leaves bytes (λ (b : Bool). Unit {0}) n (patience_at bytes ts)
  unfolding patience_at
  patience_left ts h = patience_by (seen bytes ts) (place bytes ts) (drop 1 ts) (left_place bytes n ts h) (left_drop bytes n ts h)

-- sections

module _ (bytes : List ℕ) where
  abbrev IsSection : ℕ → List ParsedProgram → List Tuned → Script × List Token → Type 0
  IsSection n programs sessions x = (is_name x.0.name ≡ true) × (client_fits (array_counts programs) (length sessions) x.0 ≡ true) × (length x.1 + 1 ≤ n)

  parts_fit : (arrays : List ℕ) (sessions : ℕ) (c : Script) → list_all (fill_fits arrays) c.fills ≡ true → fills_differ c.fills ≡ true → list_all (call_fits sessions) c.calls ≡ true
      → 1 ≤ length c.calls → total_of c.calls ≤ most_calls → client_fits arrays sessions c ≡ true
  parts_fit arrays sessions c a b d e f =
      and_from (list_all (fill_fits arrays) c.fills && fills_differ c.fills) _ (and_from (list_all (fill_fits arrays) c.fills) (fills_differ c.fills) a b)
      (and_from (list_all (call_fits sessions) c.calls) (nat_le 1 (length c.calls) && nat_le (total_of c.calls) most_calls) d
      (and_from (nat_le 1 (length c.calls)) (nat_le (total_of c.calls) most_calls) (le-leb 1 (length c.calls) e) (le-leb (total_of c.calls) most_calls f)))

  section_left : (n : ℕ) (programs : List ParsedProgram) (sessions : List Tuned) (ts : List Token) → Left bytes n ts → Placed bytes (IsSection n programs sessions) (client_at bytes programs sessions ts)
  unfolding client_at
  section_left n programs sessions ts h =
      placed_bind bytes (keyword_left bytes D2 words.Client n ts h) (λ word a.
      placed_bind bytes (name_left bytes D2 (n - 1) word a.1) (λ name b.
      placed_bind bytes (patience_left bytes (n - 1) name.1 b.1) (λ patient c.
      placed_bind bytes (machine_left bytes (n - 1) patient.1 c.1) (λ machine d.
      placed_bind bytes (sign_left bytes D2 signs.LeftBrace (n - 1) machine.1 d.1) (λ inside e.
      placed_bind bytes (fills_left bytes (n - 1) programs inside e) (λ fills f.
      placed_bind bytes (calls_left bytes (n - 1) sessions fills.1 f.1) (λ calls g.
      placed_bind bytes (sign_left bytes D2 signs.RightBrace (n - 1) calls.1 g.2) (λ rest k.
      let client : Script = record { name = name.0; patient = patient.0; machine = machine.0; fills = fills.0; calls = calls.0.calls } in
      let few : total_of calls.0.calls ≤ most_calls = subst (λ m. m ≤ most_calls) (sym g.0.1) g.0.2 in
      let some = a.0 in let left = k.3 in
      placed_ok bytes (IsSection n programs sessions) (client, rest)
      (b.0, parts_fit (array_counts programs) (length sessions) client f.0.0 f.0.1 g.0.0 g.1 few, omega (arith, some, left))))))))))

  whole : (programs : List ParsedProgram) (sessions : List Tuned) (tokens : List Token) (from : ℕ) → IsCut bytes 0 tokens → Placed bytes (IsSection (length tokens - from) programs sessions) (client_at bytes programs sessions (drop from tokens))
  whole programs sessions tokens from c = section_left (length tokens - from) programs sessions (drop from tokens) (from_left bytes tokens from c)

  pub client_name : (programs : List ParsedProgram) (sessions : List Tuned) (tokens : List Token) (from : ℕ) (s : Script) (rest : List Token) → IsCut bytes 0 tokens
      → client_at bytes programs sessions (drop from tokens) ≡ Ok (s, rest) → IsTrue (is_name s.name)
  client_name programs sessions tokens from s rest c h = ((whole programs sessions tokens from c).0 (s, rest) h).0

  pub client_fit : (programs : List ParsedProgram) (sessions : List Tuned) (tokens : List Token) (from : ℕ) (s : Script) (rest : List Token) → IsCut bytes 0 tokens
      → client_at bytes programs sessions (drop from tokens) ≡ Ok (s, rest) → IsTrue (client_fits (array_counts programs) (length sessions) s)
  client_fit programs sessions tokens from s rest c h = ((whole programs sessions tokens from c).0 (s, rest) h).1

  pub client_taken : (programs : List ParsedProgram) (sessions : List Tuned) (tokens : List Token) (from : ℕ) (s : Script) (rest : List Token) → IsCut bytes 0 tokens
      → client_at bytes programs sessions (drop from tokens) ≡ Ok (s, rest) → length rest + 1 ≤ length tokens - from
  client_taken programs sessions tokens from s rest c h = ((whole programs sessions tokens from c).0 (s, rest) h).2

  pub client_inside : (programs : List ParsedProgram) (sessions : List Tuned) (tokens : List Token) (from : ℕ) (e : ParseError) → IsCut bytes 0 tokens
      → Fails e (client_at bytes programs sessions (drop from tokens)) → IsWithin (length bytes) e
  client_inside programs sessions tokens from Memory c h = tt
  client_inside programs sessions tokens from (Refused code at value) c h = (whole programs sessions tokens from c).1 (Refused code at value) h
