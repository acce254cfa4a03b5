-- What was read of a text can be written: arguments and conditions.
use Rattle.std.proofs.Common.{◌≡◌, ℕ, zero, suc, ◌≤◌, Bool, true, false, ◌&&◌, nat_le, List, [], ◌∷◌, ◌++◌, length, drop, Option, Some, None, Ok, refl, le-leb, arith}
use Rattle.std.specs.Prelude.{unsigned_abs}
use Rattle.std.specs.List.{list_all}
use Rattle.std.proofs.lemmas.Bool.{and_from, and_parts}
use Rattle.std.proofs.lemmas.List.Folds.{list_all-append}
use Rattle.ch_lex.specs.declared.error.Code2.TheVariants.{R1}
use Rattle.ch_lex.specs.declared.token.Sign.TheVariants as signs
use Rattle.ch_lex.specs.declared.token.Token.{Token}
use Rattle.ch_nest.specs.Limits.{most_number}
use Rattle.ch_nestparse.specs.declared.ahead.Look.{Look}
use Rattle.ch_nestparse.specs.declared.ahead.Look.TheVariants as looks
use Rattle.ch_nestparse.specs.Read.{◌>>=◌, Read, next_is, place, repeated, seen, text_at}
use Rattle.ch_nestparse.proofs.Posts.{Post, integer_post, post_bind, post_choose, post_err, post_ok, seen_number}
use Rattle.ch_script.proofs.Left.{Left, integer_left, left_drop, name_left, sign_left}
use Rattle.ch_script.specs.Arguments.{arg_at, arg_by, arg_comma_at, list_at, list_comma_at, more_arg_at, param_arg}
use Rattle.ch_script.specs.Conditions.{condition_at, first_term_at, goes_on, is_minus, known_term, more_term_at, named_alone, named_scaled, relation_if, scaled_at, sum_at, term, term_at, term_by}
use Rattle.ch_script.specs.Names.{find_text, next_is_comma}
use Rattle.ch_script.specs.declared.recipe.Arg.{Arg}
use Rattle.ch_script.specs.declared.recipe.Arg.TheVariants as arg
use Rattle.ch_script.specs.declared.recipe.Cond.{Cond}
use Rattle.ch_script.specs.declared.recipe.Of.{Of}
use Rattle.ch_script.specs.declared.recipe.Of.TheVariants.{One}
use Rattle.ch_script.specs.declared.recipe.Purpose.{Purpose}
use Rattle.ch_script.specs.declared.recipe.Relation.TheVariants as relations
use Rattle.ch_script.specs.declared.recipe.Term.{Term}
use Rattle.ch_scriptprint.specs.Printable.{arg_written, args_written, condition_written, is_list, sum_written, term_written}

-- what each reading keeps holds after all of them
pub repeated_keeps : {S : Type 0} (I : S × List Token → Type 0) (goes : List Token → Bool) (one : S → List Token → Read S) → ((s : S) (ts : List Token) → I (s, ts) → Post I (one s ts))
    → (k : ℕ) (s : S) (ts : List Token) → I (s, ts) → Post I (repeated goes one k s ts)
unfolding repeated
repeated_keeps I goes one each zero s ts h = post_ok I (s, ts) h
repeated_keeps I goes one each (suc k) s ts h =
    post_choose (goes ts) (λ _. one s ts >>= λ x. repeated goes one k x.0 x.1) (λ _. Ok (s, ts))
    (λ _. post_bind (each s ts h) (λ x g. repeated_keeps I goes one each k x.0 x.1 g))
    (λ _. post_ok I (s, ts) h)

pub list_joined : {A : Type 0} (xs : List A) (x : A) → is_list (xs ++ x ∷ []) ≡ true
list_joined [] x = refl
list_joined (y ∷ ys) x = refl

-- a list that isn't empty, one element longer
pub longer : {A : Type 0} (p : A → Bool) (xs : List A) (x : A) → list_all p xs ≡ true → p x ≡ true → (is_list (xs ++ x ∷ []) && list_all p (xs ++ x ∷ [])) ≡ true
longer p xs x h g = and_from (is_list (xs ++ x ∷ [])) (list_all p (xs ++ x ∷ [])) (list_joined xs x) (rw (list_all-append, h, g) refl)

module _ (bytes : List ℕ) (n : ℕ) where
  -- a reading whose value has the property
  abbrev pub Reads : {X : Type 0} → (X → Type 0) → Read X → Type 0
  Reads P r = Post (λ x. P x.0 × Left bytes n x.1) r

  abbrev pub ArgWritten : Arg → Type 0
  ArgWritten a = arg_written a ≡ true

  abbrev pub ArgsWritten : List Arg → Type 0
  ArgsWritten args = args_written args ≡ true

  -- what is read, and a sign behind it
  module _ (ps : List (List ℕ)) where
    param_written : (at : ℕ) (o : Option ℕ) (ts : List Token) → Left bytes n ts → Reads ArgWritten (param_arg at o ts)
    param_written at (Some k) ts h = post_ok (λ x. ArgWritten x.0 × Left bytes n x.1) (arg.Param k, ts) (refl, h)
    param_written at None ts h = post_err (λ x. ArgWritten x.0 × Left bytes n x.1) _

    number_written : (ts : List Token) → Left bytes n ts → Reads ArgWritten (arg_by looks.End bytes ps ts)
    number_written ts h =
        post_bind {P = λ z. (nat_le (unsigned_abs z.0) most_number ≡ true) × Left bytes n z.1} {Q = λ x. ArgWritten x.0 × Left bytes n x.1}
        (λ z e. ((integer_post bytes R1 ts z e).0, ((integer_left bytes R1 n ts h).0 z e).1))
        (λ z g. post_ok (λ x. ArgWritten x.0 × Left bytes n x.1) (arg.Number z.0, z.1) (g.0, g.1))

    arg_by_written : (look : Look) (ts : List Token) → Left bytes n ts → Reads ArgWritten (arg_by look bytes ps ts)
    arg_by_written looks.Name ts h = param_written (place bytes ts) (find_text (text_at bytes ts) ps) (drop 1 ts) (left_drop bytes n ts h)
    arg_by_written (looks.Keyword k) ts h = number_written ts h
    arg_by_written (looks.Number z) ts h = number_written ts h
    arg_by_written (looks.Sign s) ts h = number_written ts h
    arg_by_written looks.End ts h = number_written ts h

    pub arg_reads : (ts : List Token) → Left bytes n ts → Reads ArgWritten (arg_at bytes ps ts)
    unfolding arg_at
    arg_reads ts h = arg_by_written (seen bytes ts) ts h

    pub arg_comma_reads : (ts : List Token) → Left bytes n ts → Reads ArgWritten (arg_comma_at bytes ps ts)
    unfolding arg_comma_at
    arg_comma_reads ts h =
        post_bind (arg_reads ts h) (λ a b.
        post_bind ((sign_left bytes R1 signs.Comma n a.1 b.1).0) (λ rest c.
        post_ok (λ x. ArgWritten x.0 × Left bytes n x.1) (a.0, rest) (b.0, c)))

    more_arg_reads : (found : List Arg) (ts : List Token) → ArgsWritten found × Left bytes n ts → Reads ArgsWritten (more_arg_at bytes ps found ts)
    unfolding more_arg_at
    more_arg_reads found ts h =
        post_bind ((sign_left bytes R1 signs.Comma n ts h.1).0) (λ inside a.
        post_bind (arg_reads inside a) (λ x b.
        post_ok (λ x. ArgsWritten x.0 × Left bytes n x.1) (found ++ x.0 ∷ [], x.1) (longer arg_written found x.0 ((and_parts (is_list found) (list_all arg_written found) h.0).1) b.0, b.1)))

    pub list_reads : (ts : List Token) → Left bytes n ts → Reads ArgsWritten (list_at bytes ps ts)
    unfolding list_at
    list_reads ts h =
        post_bind ((sign_left bytes R1 signs.LeftBracket n ts h).0) (λ inside a.
        post_bind (arg_reads inside a) (λ first b.
        post_bind (repeated_keeps (λ x. ArgsWritten x.0 × Left bytes n x.1) (next_is_comma bytes) (more_arg_at bytes ps) more_arg_reads (length first.1) (first.0 ∷ []) first.1 (longer arg_written [] first.0 refl b.0, b.1)) (λ all c.
        post_bind ((sign_left bytes R1 signs.RightBracket n all.1 c.1).0) (λ rest d.
        post_ok (λ x. ArgsWritten x.0 × Left bytes n x.1) (all.0, rest) (c.0, d)))))

    pub list_comma_reads : (ts : List Token) → Left bytes n ts → Reads ArgsWritten (list_comma_at bytes ps ts)
    unfolding list_comma_at
    list_comma_reads ts h =
        post_bind (list_reads ts h) (λ all b.
        post_bind ((sign_left bytes R1 signs.Comma n all.1 b.1).0) (λ rest c.
        post_ok (λ x. ArgsWritten x.0 × Left bytes n x.1) (all.0, rest) (b.0, c)))

  -- conditions

  abbrev pub TermWritten : Term → Type 0
  TermWritten t = term_written t ≡ true

  abbrev pub SumWritten : List Term → Type 0
  SumWritten terms = sum_written terms ≡ true

  abbrev pub CondWritten : Cond → Type 0
  CondWritten c = condition_written c ≡ true

  module _ (purpose : Purpose) (ps : List (List ℕ)) where
    known_reads : (negative : Bool) (factor at : ℕ) (o : Option Of) (ts : List Token) → factor ≤ most_number → Left bytes n ts → Reads TermWritten (known_term negative factor at o ts)
    known_reads negative factor at (Some x) ts l h = post_ok (λ t. TermWritten t.0 × Left bytes n t.1) (term negative factor x, ts) (le-leb factor most_number l, h)
    known_reads negative factor at None ts l h = post_err (λ t. TermWritten t.0 × Left bytes n t.1) _

    scaled_reads : (negative : Bool) (factor : ℕ) (ts : List Token) → factor ≤ most_number → Left bytes n ts → Reads TermWritten (scaled_at bytes purpose ps negative factor ts)
    unfolding scaled_at
    scaled_reads negative factor ts l h =
        post_bind ((name_left bytes R1 n ts h).0) (λ name a. known_reads negative factor (place bytes ts) (named_scaled purpose name.0 ps) name.1 l a.1)

    term_by_reads : (look : Look) (negative : Bool) (ts : List Token) → seen bytes ts ≡ look → Left bytes n ts → Reads TermWritten (term_by look bytes purpose ps negative ts)
    term_by_reads (looks.Number z) negative ts e h =
        let small = seen_number bytes ts z e in
        post_choose (next_is bytes signs.Star (drop 1 ts)) (λ _. scaled_at bytes purpose ps negative z (drop 1 (drop 1 ts))) (λ _. Ok (term negative z One, drop 1 ts))
        (λ _. scaled_reads negative z (drop 1 (drop 1 ts)) small (left_drop bytes n (drop 1 ts) (left_drop bytes n ts h)))
        (λ _. post_ok (λ t. TermWritten t.0 × Left bytes n t.1) (term negative z One, drop 1 ts) (le-leb z most_number small, left_drop bytes n ts h))
    term_by_reads looks.Name negative ts e h =
        known_reads negative 1 (place bytes ts) (named_alone purpose (text_at bytes ts) ps) (drop 1 ts) (omega arith) (left_drop bytes n ts h)
    term_by_reads other negative ts e h = post_err (λ t. TermWritten t.0 × Left bytes n t.1) _

    term_reads : (negative : Bool) (ts : List Token) → Left bytes n ts → Reads TermWritten (term_at bytes purpose ps negative ts)
    unfolding term_at
    term_reads negative ts h = term_by_reads (seen bytes ts) negative ts refl h

    first_reads : (ts : List Token) → Left bytes n ts → Reads TermWritten (first_term_at bytes purpose ps ts)
    unfolding first_term_at
    first_reads ts h =
        post_choose (is_minus bytes ts) (λ _. term_at bytes purpose ps true (drop 1 ts)) (λ _. term_at bytes purpose ps false ts)
        (λ _. term_reads true (drop 1 ts) (left_drop bytes n ts h)) (λ _. term_reads false ts h)

    more_reads : (found : List Term) (ts : List Token) → SumWritten found × Left bytes n ts → Reads SumWritten (more_term_at bytes purpose ps found ts)
    unfolding more_term_at
    more_reads found ts h =
        post_bind (term_reads (is_minus bytes ts) (drop 1 ts) (left_drop bytes n ts h.1)) (λ x a.
        post_ok (λ x. SumWritten x.0 × Left bytes n x.1) (found ++ x.0 ∷ [], x.1) (longer term_written found x.0 ((and_parts (is_list found) (list_all term_written found) h.0).1) a.0, a.1))

    sum_reads : (ts : List Token) → Left bytes n ts → Reads SumWritten (sum_at bytes purpose ps ts)
    unfolding sum_at
    sum_reads ts h =
        post_bind (first_reads ts h) (λ first a.
        repeated_keeps (λ x. SumWritten x.0 × Left bytes n x.1) (goes_on bytes) (more_term_at bytes purpose ps) more_reads (length first.1) (first.0 ∷ []) first.1 (longer term_written [] first.0 refl a.0, a.1))

    relation_reads : (look : Look) (at : ℕ) (ts : List Token) → Left bytes n ts → Post (λ x. Left bytes n x.1) (relation_if look at ts)
    relation_reads (looks.Sign signs.Less) at ts h = post_ok (λ x. Left bytes n x.1) (relations.Less, ts) h
    relation_reads (looks.Sign signs.AtMost) at ts h = post_ok (λ x. Left bytes n x.1) (relations.AtMost, ts) h
    relation_reads (looks.Sign signs.More) at ts h = post_ok (λ x. Left bytes n x.1) (relations.More, ts) h
    relation_reads (looks.Sign signs.AtLeast) at ts h = post_ok (λ x. Left bytes n x.1) (relations.AtLeast, ts) h
    relation_reads other at ts h = post_err (λ x. Left bytes n x.1) _

    pub condition_reads : (ts : List Token) → Left bytes n ts → Reads CondWritten (condition_at bytes purpose ps ts)
    unfolding condition_at
    condition_reads ts h =
        post_bind (sum_reads ts h) (λ left a.
        post_bind (relation_reads (seen bytes left.1) (place bytes left.1) (drop 1 left.1) (left_drop bytes n left.1 a.1)) (λ relation b.
        post_bind (sum_reads relation.1 b) (λ right c.
        post_ok (λ x. CondWritten x.0 × Left bytes n x.1) (record { left = left.0; relation = relation.0; right = right.0 }, right.1)
        (and_from (sum_written left.0) (sum_written right.0) a.0 c.0, c.1))))
