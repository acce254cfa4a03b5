-- The keyword of a word is the one with its text.
use Rattle.std.proofs.Common.{◌≡◌, ℕ, Bool, true, false, List, [], ◌∷◌, refl, sym, ap, subst, ◌∙◌, if◌then◌else◌, Option, Some, IfSome}
use Rattle.std.specs.Str.{bytes_eq}
use Rattle.std.proofs.lemmas.Slice.Eq.{bytes_eq-Decides}
use Rattle.ch_lex.specs.declared.keyword.Keyword.{Keyword}
use Rattle.ch_lex.specs.declared.keyword.Keyword.TheVariants.{Program, Recipe, Session, Client, Let, Array, Fill, For, Max, Min, Param, To, Step, Call, Machine, Eager, Patient}
use Rattle.ch_lex.specs.Keywords.{keyword_text, keywords, named, keyword_of}

own_text : (k : Keyword) → keyword_of (keyword_text k) ≡ Some k
unfolding keyword_of
own_text Program = refl
own_text Recipe = refl
own_text Session = refl
own_text Client = refl
own_text Let = refl
own_text Array = refl
own_text Fill = refl
own_text For = refl
own_text Max = refl
own_text Min = refl
own_text Param = refl
own_text To = refl
own_text Step = refl
own_text Call = refl
own_text Machine = refl
own_text Eager = refl
own_text Patient = refl

pub each_is_found : (word : List ℕ) (k : Keyword) (r : Option Keyword) → r ≡ keyword_of word → keyword_text k ≡ word → r ≡ Some k
each_is_found word k r e text = e ∙ ap keyword_of (sym text) ∙ own_text k

has_text : (test : Bool) (word : List ℕ) (k : Keyword) (ks : List Keyword) → bytes_eq (keyword_text k) word ≡ test
    → IfSome (named word ks) (λ j. keyword_text j ≡ word) → IfSome (if test then Some k else named word ks) (λ j. keyword_text j ≡ word)
has_text true word k ks e h = (bytes_eq-Decides (keyword_text k) word).0 e
has_text false word k ks e h = h

named_has_text : (word : List ℕ) (ks : List Keyword) → IfSome (named word ks) (λ k. keyword_text k ≡ word)
named_has_text word [] = tt
named_has_text word (k ∷ ks) = has_text (bytes_eq (keyword_text k) word) word k ks refl (named_has_text word ks)

pub text_of_found : (word : List ℕ) (r : Option Keyword) → r ≡ keyword_of word → IfSome r (λ k. keyword_text k ≡ word)
unfolding keyword_of
text_of_found word r e = subst (λ (s : Option Keyword). IfSome s (λ k. keyword_text k ≡ word)) (sym e) (named_has_text word keywords)
