-- The names that were seen, one name further.
use Rattle.std.proofs.Common.{◌≡◌, refl, sym, ap, ◌∙◌, subst, ℕ, ◌+◌, ◌<◌, Bool, true, false, not, ◌&&◌, ◌||◌, cond, List, [], ◌∷◌, ◌++◌, get_or, length, take}
use Rattle.std.specs.Str.{bytes_eq}
use Rattle.std.specs.List.{list_all, list_any}
use Rattle.std.proofs.lemmas.Bool.{false_from_ne_true}
use Rattle.std.proofs.lemmas.List.{take_more}
use Rattle.std.proofs.lemmas.Slice.Eq.{bytes_eq-Decides}
use Rattle.std.specs.declared.alloc.Global.{Global}
use Rattle.std.specs.declared.vec.Vec.{Vec}
use Rattle.indexmap.specs.IndexSet.{insert_key}
use Rattle.ch_nest.specs.declared.nest.ArrayDecl.{ArrayDecl}
use Rattle.ch_code.specs.BodyText.{has_other, is_own, is_plain, nth_name, own_flags}
use Rattle.ch_code.proofs.Steps.{flags_more, nth_name_is}

abbrev pub has_text : List ℕ → Vec ℕ Global → Bool
has_text v k = bytes_eq v k.items

abbrev pub same_text : Vec ℕ Global → Vec ℕ Global → Bool
same_text a b = bytes_eq a.items b.items

-- the keys are the names of these arrays
abbrev pub AreSeen : List (Vec ℕ Global) → List ArrayDecl → Type 0
AreSeen keys arrays = (v : List ℕ) → list_any (has_text v) keys ≡ not (list_all (has_other v) arrays)

not_not : (b : Bool) → not (not b) ≡ b
not_not true = refl
not_not false = refl

pub none_seen : AreSeen [] []
none_seen v = refl

pub new_name : (keys : List (Vec ℕ Global)) (arrays : List ArrayDecl) (name : List ℕ) (key : Vec ℕ Global) (added : Bool) → AreSeen keys arrays → key.items ≡ name
    → added ≡ not (list_any (same_text key) keys) → added ≡ list_all (has_other name) arrays
new_name keys arrays name key added seen e a =
    a ∙ ap (λ (t : List ℕ). not (list_any (has_text t) keys)) e ∙ ap not (seen name) ∙ not_not (list_all (has_other name) arrays)

flipped : (xs ys : List ℕ) → bytes_eq xs ys ≡ bytes_eq ys xs
flipped xs ys = by (bytes_eq xs ys) refl
  where
    by : (b : Bool) → bytes_eq xs ys ≡ b → bytes_eq xs ys ≡ bytes_eq ys xs
    by true e =
        let same : xs ≡ ys = (bytes_eq-Decides xs ys).0 e in
        subst (λ (zs : List ℕ). bytes_eq xs zs ≡ bytes_eq zs xs) same refl
    by false e =
        let other : bytes_eq ys xs ≡ false = false_from_ne_true (bytes_eq ys xs) (λ t. let s = (bytes_eq-Decides ys xs).0 t in let g : bytes_eq xs ys ≡ true = (bytes_eq-Decides xs ys).1 (sym s) in absurd (cc)) in
        e ∙ sym other

any_more : {A : Type 0} (p : A → Bool) (xs : List A) (x : A) → list_any p (xs ++ x ∷ []) ≡ (list_any p xs || p x)
any_more p [] x = by (p x)
  where
    by : (b : Bool) → (b || false) ≡ b
    by true = refl
    by false = refl
any_more p (y ∷ ys) x = by (p y) (any_more p ys x)
  where
    by : (b : Bool) → list_any p (ys ++ x ∷ []) ≡ (list_any p ys || p x) → (b || list_any p (ys ++ x ∷ [])) ≡ ((b || list_any p ys) || p x)
    by true e = refl
    by false e = e

all_more : (v : List ℕ) (ds : List ArrayDecl) (d : ArrayDecl) → list_all (has_other v) (ds ++ d ∷ []) ≡ (list_all (has_other v) ds && has_other v d)
all_more v [] d = by (has_other v d)
  where
    by : (b : Bool) → (b && true) ≡ b
    by true = refl
    by false = refl
all_more v (x ∷ ds) d = by (has_other v x) (all_more v ds d)
  where
    by : (b : Bool) → list_all (has_other v) (ds ++ d ∷ []) ≡ (list_all (has_other v) ds && has_other v d)
        → (b && list_all (has_other v) (ds ++ d ∷ [])) ≡ ((b && list_all (has_other v) ds) && has_other v d)
    by true e = e
    by false e = refl

or_not : (a b : Bool) → (not a || b) ≡ not (a && not b)
or_not true true = refl
or_not true false = refl
or_not false b = refl

pub one_seen : (keys : List (Vec ℕ Global)) (arrays : List ArrayDecl) (d : ArrayDecl) (key : Vec ℕ Global) → AreSeen keys arrays → key.items ≡ d.name
    → AreSeen (insert_key same_text keys key) (arrays ++ d ∷ [])
one_seen keys arrays d key seen e v = by (list_any (same_text key) keys) refl
  where
    last : has_text v key ≡ bytes_eq d.name v
    last = ap (bytes_eq v) e ∙ flipped v d.name

    there : list_any (same_text key) keys ≡ true → (same : Bool) → bytes_eq d.name v ≡ same → list_any (has_text v) keys ≡ not (list_all (has_other v) arrays && not same)
    there t true s =
        let is : d.name ≡ v = (bytes_eq-Decides d.name v).0 s in
        let found : list_any (has_text v) keys ≡ true = sym (ap (λ (w : List ℕ). list_any (has_text w) keys) (e ∙ is)) ∙ t in
        found ∙ sym (and_false (list_all (has_other v) arrays))
      where
        and_false : (a : Bool) → not (a && false) ≡ true
        and_false true = refl
        and_false false = refl
    there t false s = seen v ∙ ap not (sym (and_true (list_all (has_other v) arrays)))
      where
        and_true : (a : Bool) → (a && true) ≡ a
        and_true true = refl
        and_true false = refl

    by : (b : Bool) → list_any (same_text key) keys ≡ b → list_any (has_text v) (cond b keys (keys ++ key ∷ [])) ≡ not (list_all (has_other v) (arrays ++ d ∷ []))
    by true t = there t (bytes_eq d.name v) refl ∙ ap not (sym (all_more v arrays d))
    by false t =
        any_more (has_text v) keys key ∙ ap (λ (b : Bool). b || has_text v key) (seen v) ∙ ap (λ (b : Bool). not (list_all (has_other v) arrays) || b) last
        ∙ or_not (list_all (has_other v) arrays) (bytes_eq d.name v) ∙ ap not (sym (all_more v arrays d))

-- the flags of one array more, and the names seen with its name
pub goes_on : (arrays : List ArrayDecl) (k : ℕ) (d : ArrayDecl) (own more : List Bool) (keys : List (Vec ℕ Global)) (key : Vec ℕ Global) (added : Bool) → k < length arrays
    → own ≡ own_flags arrays k → AreSeen keys (take k arrays) → key.items ≡ (get_or arrays k d).name → added ≡ not (list_any (same_text key) keys)
    → more ≡ own ++ (is_plain (get_or arrays k d).name && added) ∷ []
    → (more ≡ own_flags arrays (k + 1)) × AreSeen (insert_key same_text keys key) (take (k + 1) arrays)
goes_on arrays k d own more keys key added l o seen e a m =
    let name : nth_name arrays k ≡ (get_or arrays k d).name = nth_name_is arrays k d l in
    let new : added ≡ list_all (has_other (get_or arrays k d).name) (take k arrays) = new_name keys (take k arrays) (get_or arrays k d).name key added seen e a in
    let flag : is_plain (get_or arrays k d).name && added ≡ is_own arrays k =
    ap (λ (b : Bool). is_plain (get_or arrays k d).name && b) new ∙ sym (ap (λ (t : List ℕ). is_plain t && list_all (has_other t) (take k arrays)) name) in (
      m ∙ ap (λ (xs : List Bool). xs ++ (is_plain (get_or arrays k d).name && added) ∷ []) o ∙ ap (λ (b : Bool). own_flags arrays k ++ b ∷ []) flag ∙ sym (flags_more arrays k),
      subst (λ (ds : List ArrayDecl). AreSeen (insert_key same_text keys key) ds) (sym (take_more arrays k d l)) (one_seen keys (take k arrays) (get_or arrays k d) key seen e),
    )
