-- Printed lets are read, each under a new name.
use Rattle.std.proofs.Common.{◌≡◌, ℕ, zero, suc, ◌≤◌, ℤ, pos, Bool, true, false, ◌||◌, nat_eq, List, [], ◌∷◌, ◌++◌, length, None, Ok, refl, sym, ap, ◌∙◌, append_assoc, length-append, subst, eq-eqb, arith}
use Rattle.std.specs.Prelude.{neg_ℤ}
use Rattle.std.specs.Str.{bytes_eq}
use Rattle.std.specs.List.{list_any}
use Rattle.std.proofs.lemmas.Bool.{eqb-true}
use Rattle.std.proofs.lemmas.List.{append-nil, length-map}
use Rattle.ch_lex.specs.declared.error.Code2.TheVariants.{P1}
use Rattle.ch_lex.specs.declared.keyword.Keyword.{Keyword}
use Rattle.ch_lex.specs.declared.keyword.Keyword.TheVariants as words
use Rattle.ch_lex.specs.declared.token.Sign.TheVariants as signs
use Rattle.ch_lex.specs.declared.token.Token.{Token}
use Rattle.ch_nestparse.specs.declared.scope.Named.{Named}
use Rattle.ch_nestparse.specs.declared.scope.Named.TheVariants.{Let}
use Rattle.ch_nestparse.specs.Declarations.{begins_let, let_at, lets_at}
use Rattle.ch_nestparse.specs.Read.{◌>>=◌, Names, find_name, fresh_at, integer_at, is_keyword, keyword_at, repeated, sign_at}
use Rattle.ch_nestprint.specs.declared.symbol.Symbol.{Symbol}
use Rattle.ch_nestprint.specs.declared.symbol.Symbol.TheVariants.{Name, Number, Mark}
use Rattle.ch_nestprint.specs.Names.{minus_name}
use Rattle.ch_nestprint.specs.Printed.{let_if, let_symbols, lets_symbols}
use Rattle.ch_nestprint.proofs.Cases.{Each}
use Rattle.ch_nestprint.proofs.NamesRead.{find_kept, find_new, find_none, minuses_differ}
use Rattle.ch_nestprint.proofs.RightsRead.{LetKnown}
use Rattle.ch_nestprint.proofs.Seeing.{Given, Passed, Sees, Valued, fresh_given, front, given_bind, given_chosen, given_ok, given_other, keyword_given, minus_given, seen_front, sign_given}

any_joined : (p : ℕ → Bool) (xs ys : List ℕ) → list_any p (xs ++ ys) ≡ (list_any p xs || list_any p ys)
any_joined p [] ys = refl
any_joined p (x ∷ xs) ys = by_test (p x) (list_any p xs) (list_any p ys) (list_any p (xs ++ ys)) (any_joined p xs ys)
  where
    by_test : (b c d e : Bool) → e ≡ (c || d) → (b || e) ≡ ((b || c) || d)
    by_test true c d e h = refl
    by_test false c d e h = h

or_none : (a b : Bool) → (a || b) ≡ false → (a ≡ false) × (b ≡ false)
or_none true b h = absurd (cc)
or_none false b h = (refl, h)

pub each_joined : {A : Type 0} (P : A → Type 0) (xs ys : List A) → Each P xs → Each P ys → Each P (xs ++ ys)
each_joined P [] ys h g = g
each_joined P (x ∷ xs) ys h g = (h.0, each_joined P xs ys h.1 g)

pub each_also : {A : Type 0} (P Q : A → Type 0) (xs : List A) → ((x : A) → P x → Q x) → Each P xs → Each Q xs
each_also P Q [] f h = tt
each_also P Q (x ∷ xs) f h = (f x h.0, each_also P Q xs f h.1)

test_known : (b : Bool) (P : ℕ → Type 0) (x size : ℕ) (xs : List ℕ) → nat_eq x size ≡ b → (b || list_any (λ n. nat_eq n size) xs) ≡ true → P x → (list_any (λ n. nat_eq n size) xs ≡ true → P size) → P size
test_known true P x size xs e h p q = subst P (eqb-true x size e) p
test_known false P x size xs e h p q = q h

any_known : (P : ℕ → Type 0) (xs : List ℕ) (size : ℕ) → Each P xs → list_any (λ n. nat_eq n size) xs ≡ true → P size
any_known P [] size h e = absurd (cc)
any_known P (x ∷ xs) size h e = test_known (nat_eq x size) P x size xs refl e h.0 (λ f. any_known P xs size h.1 f)

-- the names of the lets of these magnitudes are in force, and no others
pub record LetNames (names : Names) (letters : ℕ) (before : List ℕ) : Type 0 where
  pub known : Each (LetKnown names letters) before
  pub fresh : (size : ℕ) → list_any (λ n. nat_eq n size) before ≡ false → find_name (minus_name letters size) names ≡ None
  pub free : (text : List ℕ) → ((size : ℕ) → bytes_eq text (minus_name letters size) ≡ false) → find_name text names ≡ None

no_lets : (letters : ℕ) → LetNames [] letters []
no_lets letters = record { known = tt; fresh = λ size h. refl; free = λ text h. refl }

again_known : (names : Names) (letters : ℕ) (before : List ℕ) (size : ℕ) → LetNames names letters before → list_any (λ n. nat_eq n size) before ≡ true → LetNames names letters (before ++ size ∷ [])
again_known names letters before size lets h = record {
  known = each_joined (LetKnown names letters) before (size ∷ []) lets.known (any_known (LetKnown names letters) before size lets.known h, tt);
  fresh = λ other e. lets.fresh other ((or_none _ _ (sym (any_joined (λ n. nat_eq n other) before (size ∷ [])) ∙ e)).0);
  free = lets.free;
}

abbrev let_name : ℕ → ℕ → List ℕ × Named
let_name letters size = (minus_name letters size, Let (neg_ℤ (pos size)))

not_same : (size other : ℕ) → (nat_eq size other || false) ≡ false → other ≡ size → ⊥
not_same size other h e =
    let f : nat_eq size other ≡ false = (or_none (nat_eq size other) false h).0 in
    let g : nat_eq size other ≡ true = eq-eqb size other (sym e) in
    absurd (cc)

one_known : (names : Names) (letters : ℕ) (before : List ℕ) (size : ℕ) → LetNames names letters before → list_any (λ n. nat_eq n size) before ≡ false
    → LetNames (names ++ let_name letters size ∷ []) letters (before ++ size ∷ [])
one_known names letters before size lets h =
    let more : Names = names ++ let_name letters size ∷ [] in
    let value = Let (neg_ℤ (pos size)) in
    record {
      known = each_joined (LetKnown more letters) before (size ∷ [])
          (each_also (LetKnown names letters) (LetKnown more letters) before (λ n k. find_kept (minus_name letters n) names (let_name letters size ∷ []) (Let (neg_ℤ (pos n))) k) lets.known)
          (find_new (minus_name letters size) names value (lets.fresh size h), tt);
      fresh = λ other e.
          let parts = or_none (list_any (λ n. nat_eq n other) before) _ (sym (any_joined (λ n. nat_eq n other) before (size ∷ [])) ∙ e) in
          find_none (minus_name letters other) (minus_name letters size) names value (lets.fresh other parts.0) (minuses_differ letters other size (not_same size other parts.1));
      free = λ text e. find_none text (minus_name letters size) names value (lets.free text e) (e size);
    }

-- what stands where a list of declarations ends
abbrev pub IsEnd : Keyword → List Symbol → Type 0
IsEnd word rest = is_keyword word (front rest) ≡ false

module _ (bytes : List ℕ) (letters : ℕ) where
  one_let : (names : Names) (size : ℕ) (ts : List Token) (rest : List Symbol) → find_name (minus_name letters size) names ≡ None → Sees bytes ts (let_symbols letters size ++ rest)
      → Given (Valued bytes (names ++ let_name letters size ∷ []) rest) (let_at bytes names ts)
  unfolding let_at
  one_let names size ts rest fresh sees =
      let name = minus_name letters size in
      let goal = Valued bytes (names ++ let_name letters size ∷ []) rest in
      let ends : List Symbol = Mark signs.Semicolon ∷ rest in
      let value : List Symbol = Mark signs.Minus ∷ Number size ∷ ends in
      let equals : List Symbol = Mark signs.Equals ∷ value in
      given_bind (Passed bytes (Name name ∷ equals)) goal (keyword_at bytes P1 words.Let ts) _ (keyword_given bytes P1 words.Let ts (Name name ∷ equals) sees) (λ word a.
      given_bind (Valued bytes name equals) goal (fresh_at bytes names word) _ (fresh_given bytes names name word equals fresh a) (λ n b.
      given_bind (Passed bytes value) goal (sign_at bytes P1 signs.Equals n.1) _ (sign_given bytes P1 signs.Equals n.1 value b.1) (λ us c.
      given_bind (Valued bytes (neg_ℤ (pos size)) ends) goal (integer_at bytes P1 us) _ (minus_given bytes P1 size us ends c) (λ z d.
      given_bind (Passed bytes rest) goal (sign_at bytes P1 signs.Semicolon z.1) _ (sign_given bytes P1 signs.Semicolon z.1 rest d.1) (λ vs e.
      given_ok goal (names ++ (n.0, Let z.0) ∷ [], vs) (ap (λ (x : List ℕ). names ++ (x, Let z.0) ∷ []) b.0 ∙ ap (λ (x : ℤ). names ++ (name, Let x) ∷ []) d.0, e))))))

  abbrev pub LetsAfter : List ℕ → List Symbol → Names × List Token → Type 0
  LetsAfter sizes rest r = LetNames r.0 letters sizes × Sees bytes r.1 rest

  abbrev LetsRead : List ℕ → Type 0
  LetsRead sizes = (before : List ℕ) (k : ℕ) (names : Names) (ts : List Token) (rest : List Symbol) → LetNames names letters before → IsEnd words.Let rest → length (lets_symbols letters before sizes) ≤ k
      → Sees bytes ts (lets_symbols letters before sizes ++ rest) → Given (LetsAfter (before ++ sizes) rest) (repeated (begins_let bytes) (let_at bytes) k names ts)

  lets_end : (before : List ℕ) (k : ℕ) (names : Names) (ts : List Token) (rest : List Symbol) → LetNames names letters before → IsEnd words.Let rest → Sees bytes ts rest
      → Given (LetsAfter before rest) (repeated (begins_let bytes) (let_at bytes) k names ts)
  unfolding repeated
  lets_end before zero names ts rest lets ends sees = given_ok (LetsAfter before rest) (names, ts) (lets, sees)
  lets_end before (suc k) names ts rest lets ends sees =
      given_other (LetsAfter before rest) (begins_let bytes ts) (λ _. let_at bytes names ts >>= λ x. repeated (begins_let bytes) (let_at bytes) k x.0 x.1) (λ _. Ok (names, ts))
      (ap (is_keyword words.Let) (seen_front bytes ts rest sees) ∙ ends) (given_ok (LetsAfter before rest) (names, ts) (lets, sees))

  next_let : (known : Bool) (size : ℕ) (sizes : List ℕ) → LetsRead sizes → (before : List ℕ) (k : ℕ) (names : Names) (ts : List Token) (rest : List Symbol) → list_any (λ n. nat_eq n size) before ≡ known
      → LetNames names letters before → IsEnd words.Let rest → length (let_if known letters size ++ lets_symbols letters (before ++ size ∷ []) sizes) ≤ k
      → Sees bytes ts ((let_if known letters size ++ lets_symbols letters (before ++ size ∷ []) sizes) ++ rest)
      → Given (LetsAfter (before ++ size ∷ sizes) rest) (repeated (begins_let bytes) (let_at bytes) k names ts)
  unfolding repeated
  next_let true size sizes again before k names ts rest known lets ends l sees =
      let joined : (before ++ size ∷ []) ++ sizes ≡ before ++ size ∷ sizes = append_assoc before (size ∷ []) sizes in
      let made = again (before ++ size ∷ []) k names ts rest (again_known names letters before size lets known) ends l sees in
      rw joined at made
  next_let false size sizes again before zero names ts rest known lets ends l sees = absurd (omega arith)
  next_let false size sizes again before (suc k) names ts rest known lets ends l sees =
      let tail = lets_symbols letters (before ++ size ∷ []) sizes in
      let more : List Symbol = tail ++ rest in
      let goal = LetsAfter (before ++ size ∷ sizes) rest in
      let flat : Sees bytes ts (let_symbols letters size ++ more) = sees ∙ append_assoc (let_symbols letters size) tail rest in
      let joined : (before ++ size ∷ []) ++ sizes ≡ before ++ size ∷ sizes = append_assoc before (size ∷ []) sizes in
      let next : Names = names ++ let_name letters size ∷ [] in
      given_chosen goal (begins_let bytes ts) (λ _. let_at bytes names ts >>= λ x. repeated (begins_let bytes) (let_at bytes) k x.0 x.1) (λ _. Ok (names, ts))
      (ap (is_keyword words.Let) (seen_front bytes ts (let_symbols letters size ++ more) flat))
      (given_bind (Valued bytes next more) goal (let_at bytes names ts) (λ x. repeated (begins_let bytes) (let_at bytes) k x.0 x.1) (one_let names size ts more (lets.fresh size known) flat) (λ x a.
      let now : LetNames x.0 letters (before ++ size ∷ []) = subst (λ (n : Names). LetNames n letters (before ++ size ∷ [])) (sym a.0) (one_known names letters before size lets known) in
      let few : length tail ≤ k = omega (arith, length-append (let_symbols letters size) tail) in
      let made = again (before ++ size ∷ []) k x.0 x.1 rest now ends few a.1 in
      rw joined at made))

  each_let : (sizes : List ℕ) → LetsRead sizes
  each_let [] before k names ts rest lets ends l sees =
      let whole : before ≡ before ++ [] = sym (append-nil before) in
      let made = lets_end before k names ts rest lets ends sees in
      rw whole at made
  each_let (size ∷ sizes) before k names ts rest lets ends l sees = next_let (list_any (λ n. nat_eq n size) before) size sizes (each_let sizes) before k names ts rest refl lets ends l sees

  pub seen_long : (ts : List Token) (ss : List Symbol) → Sees bytes ts ss → length ts ≡ length ss
  seen_long ts ss h = simp length-map at (ap length h)

  pub lets_given : (sizes : List ℕ) (ts : List Token) (rest : List Symbol) → IsEnd words.Let rest → Sees bytes ts (lets_symbols letters [] sizes ++ rest) → Given (LetsAfter sizes rest) (lets_at bytes ts)
  lets_given sizes ts rest ends sees =
      let n = seen_long ts (lets_symbols letters [] sizes ++ rest) sees in
      each_let sizes [] (length ts) [] ts rest (no_lets letters) ends (omega (arith, n, length-append (lets_symbols letters [] sizes) rest)) sees
