-- The lines of sessions, one after another, and whether a recipe among them is refused.
use Rattle.std.proofs.Common.{◌≡◌, refl, sym, ap, ap₂, ◌∙◌, subst, ℕ, suc, ◌+◌, ◌<◌, ◌≤◌, ℤ, Bool, true, false, ◌||◌, Option, Result, Ok, Err, List, [], ◌∷◌, ◌++◌, length, get_or, take, drop, add-one, append_assoc, append-nil}
use Rattle.std.specs.Prelude.{OnOk, codes}
use Rattle.std.specs.List.{list_any}
use Rattle.std.proofs.lemmas.List.{drop_all, drop_more, take_all, take_more}
use Rattle.std.proofs.lemmas.List.Folds.{list_any-append}
use Rattle.ch_check.specs.Checked.{legal_text, line_on, line_text}
use Rattle.ch_check.specs.Sessions.{made, values_of}
use Rattle.ch_deck.specs.Parts.{DeckParts}
use Rattle.ch_judge.specs.Judged.{told_of}
use Rattle.ch_judge.specs.declared.judging.Told.{Told}
use Rattle.ch_nest.specs.CostModel.{CostModel}
use Rattle.ch_nest.specs.LoopNest.{LoopNest}
use Rattle.ch_nest.specs.declared.nest.ArrayDecl.{ArrayDecl}
use Rattle.ch_print.specs.Numbers.{number_text}
use Rattle.ch_report.specs.Numbered.{numbered}
use Rattle.ch_script.specs.Recipes.{RecipeParts}
use Rattle.ch_script.specs.declared.refusal.Refusal.{Refusal}
use Rattle.ch_space.specs.Listed.{Listed}
use Rattle.ch_subject.specs.Subjects.{nest_of, recipe_in}
use Rattle.ch_variant.specs.Applied.{applied}
use Rattle.ch_variant.specs.Judgements.{judged, measured}
use Rattle.ch_workload.specs.Tuned.{Tuned}

-- what a session is checked by: what it names, its machine and its values
pub record IsCase (deck : DeckParts) (at : Option (List ℤ)) (on : CostModel) (s : Tuned) (n : LoopNest) (r : RecipeParts) (m : CostModel) (v : List ℤ) : Type 0 where
  pub nest : n ≡ nest_of deck s
  pub recipe : r ≡ recipe_in deck s
  pub machine : m ≡ on
  pub numbers : v ≡ values_of at s.params

pub case_of : (deck : DeckParts) (at : Option (List ℤ)) (machine : CostModel) (s : Tuned) (n : LoopNest) (r : RecipeParts) (m : CostModel) (v numbers : List ℤ) → n ≡ nest_of deck s → r ≡ recipe_in deck s
    → m ≡ machine → v ≡ numbers → numbers ≡ values_of at s.params → IsCase deck at machine s n r m v
case_of deck at machine s n r m v numbers a b c d e = record { nest = a; recipe = b; machine = c; numbers = d ∙ e }

pub made_is : (deck : DeckParts) (at : Option (List ℤ)) (machine : CostModel) (s : Tuned) (n : LoopNest) (r : RecipeParts) (m : CostModel) (v : List ℤ) (answer : Result Listed Refusal) → IsCase deck at machine s n r m v
    → applied n r.commands v ≡ answer → made deck at s ≡ answer
made_is deck at machine s n r m v answer i h =
    sym (ap (λ (x : LoopNest). applied x r.commands v) i.nest ∙ ap (λ (x : RecipeParts). applied (nest_of deck s) x.commands v) i.recipe
    ∙ ap (applied (nest_of deck s) (recipe_in deck s).commands) i.numbers) ∙ h

-- the line of a session, by what is told of its recipe
pub line_is : (deck : DeckParts) (at : Option (List ℤ)) (machine : CostModel) (s : Tuned) (n : LoopNest) (r : RecipeParts) (m : CostModel) (v : List ℤ) (arrays : List ArrayDecl) (answer : Result Told Refusal)
    → IsCase deck at machine s n r m v → arrays ≡ n.arrays → judged (told_of m n) n r.commands v ≡ answer → line_text s.name v arrays answer ≡ line_on machine deck at s
line_is deck at machine s n r m v arrays answer i a h =
    ap (line_text s.name v arrays) (sym h) ∙ ap (λ (ds : List ArrayDecl). line_text s.name v ds (judged (told_of m n) n r.commands v)) a
    ∙ ap (λ (x : LoopNest). line_text s.name v x.arrays (judged (told_of m x) x r.commands v)) i.nest
    ∙ ap (λ (x : RecipeParts). line_text s.name v (nest_of deck s).arrays (judged (told_of m (nest_of deck s)) (nest_of deck s) x.commands v)) i.recipe
    ∙ ap (λ (x : CostModel). line_text s.name v (nest_of deck s).arrays (judged (told_of x (nest_of deck s)) (nest_of deck s) (recipe_in deck s).commands v)) i.machine
    ∙ ap (λ (x : List ℤ). line_text s.name x (nest_of deck s).arrays (judged (told_of machine (nest_of deck s)) (nest_of deck s) (recipe_in deck s).commands x)) i.numbers

-- what is told of a recipe, by what it makes
pub legal_told : (n : LoopNest) (r : RecipeParts) (m : CostModel) (v : List ℤ) (p : Listed) (t : Told) → applied n r.commands v ≡ Ok p → t ≡ told_of m n p → judged (told_of m n) n r.commands v ≡ Ok t
legal_told n r m v p t e f = ap (measured (told_of m n)) e ∙ ap Ok (sym f)

pub refused_told : (n : LoopNest) (r : RecipeParts) (m : CostModel) (v : List ℤ) (refused : Refusal) → applied n r.commands v ≡ Err refused → judged (told_of m n) n r.commands v ≡ Err refused
refused_told n r m v refused e = ap (measured (told_of m n)) e

-- one line more
pub line_more : {A : Type 0} (line : ℕ → A → List ℕ) (xs : List A) (k : ℕ) (x : A) (out next whole : List ℕ) → k < length xs → x ≡ get_or xs k x → next ≡ out ++ line k x
    → out ++ numbered line k (drop k xs) ≡ whole → next ++ numbered line (k + 1) (drop (k + 1) xs) ≡ whole
line_more {A = A} line xs k x out next whole l e n h =
    let later : List A = drop (k + 1) xs in
    let here : drop k xs ≡ x ∷ later = drop_more xs k x l ∙ ap (λ y. y ∷ later) (sym e) in
    ap (λ o. o ++ numbered line (k + 1) later) n ∙ append_assoc out (line k x) (numbered line (k + 1) later)
    ∙ ap (λ j. out ++ (line k x ++ numbered line j later)) (add-one k) ∙ ap (λ ys. out ++ numbered line k ys) (sym here) ∙ h

-- and where there is no further one
pub no_line : {A : Type 0} (line : ℕ → A → List ℕ) (xs : List A) (k : ℕ) (out whole : List ℕ) → length xs ≤ k → out ++ numbered line k (drop k xs) ≡ whole → out ≡ whole
no_line line xs k out whole l h = sym (append-nil out) ∙ ap (λ ys. out ++ numbered line k ys) (sym (drop_all k xs l)) ∙ h

or_none : (b : Bool) → (b || false) ≡ b
or_none true = refl
or_none false = refl

-- one answer more
pub any_more : {A : Type 0} (p : A → Bool) (xs : List A) (k : ℕ) (x : A) (old here new : Bool) → k < length xs → x ≡ get_or xs k x → old ≡ list_any p (take k xs) → here ≡ p x
    → new ≡ (old || here) → new ≡ list_any p (take (k + 1) xs)
any_more p xs k x old here new l e o h n =
    n ∙ ap₂ (λ a b. a || b) o (h ∙ sym (or_none (p x))) ∙ sym (list_any-append p (take k xs) (x ∷ []))
    ∙ ap (λ y. list_any p (take k xs ++ y ∷ [])) e ∙ ap (list_any p) (sym (take_more xs k x l))

pub any_all : {A : Type 0} (p : A → Bool) (xs : List A) (k : ℕ) (b : Bool) → length xs ≤ k → b ≡ list_any p (take k xs) → b ≡ list_any p xs
any_all p xs k b l h = h ∙ ap (list_any p) (take_all k xs l)

-- ---- what is told of a legal recipe

-- a text that was added is another one, where the texts are the same
two_added : (old a b one two : List ℕ) → one ≡ old ++ a → two ≡ one ++ b → two ≡ old ++ (a ++ b)
two_added old a b one two f g = g ∙ ap (λ x. x ++ b) f ∙ append_assoc old a b

pub told_added : {X E : Type 0} (r : Result X E) (t : Told) (old one two three four five new : List ℕ) → one ≡ old ++ codes "legal pieces " → two ≡ one ++ number_text t.pieces
    → three ≡ two ++ codes " instances " → four ≡ three ++ number_text t.instances → five ≡ four ++ codes " cost " → OnOk r (new ≡ five ++ number_text t.cost) → OnOk r (new ≡ old ++ legal_text t)
unfolding legal_text
told_added (Ok x) t old one two three four five new a b c d e f =
    let ab = two_added old (codes "legal pieces ") (number_text t.pieces) one two a b in
    let abc = two_added old (codes "legal pieces " ++ number_text t.pieces) (codes " instances ") two three ab c in
    let abcd = two_added old (codes "legal pieces " ++ number_text t.pieces ++ codes " instances ") (number_text t.instances) three four abc d in
    let abcde = two_added old (codes "legal pieces " ++ number_text t.pieces ++ codes " instances " ++ number_text t.instances) (codes " cost ") four five abcd e in
    two_added old (codes "legal pieces " ++ number_text t.pieces ++ codes " instances " ++ number_text t.instances ++ codes " cost ") (number_text t.cost) five new abcde f
told_added (Err x) t old one two three four five new a b c d e f = tt
