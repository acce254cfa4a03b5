-- Rows over new variables and, as hidden ones, the old ones.
use Rattle.std.proofs.Common.{◌≡◌, sym, ap, ap₂, ◌∙◌, subst, ℕ, ◌+◌, ◌<◌, ◌≤◌, ℤ, pos, int_le, ◌&&◌, Result, Ok, Err, IfOk, List, [], ◌∷◌, ◌++◌, length, take, get_or, arith, append_assoc, length-append}
use Rattle.std.proofs.lemmas.List.{take_more}
use Rattle.std.proofs.lemmas.List.Elements.{All-push}
use Rattle.ch_affine.specs.Form.{Form}
use Rattle.ch_affine.specs.Rows.{all_hold}
use Rattle.ch_moved.specs.Changed.{AllLong, IsOver, StandOver}
use Rattle.ch_moved.specs.Spread.{kept, spread}
use Rattle.ch_moved.specs.Substituted.{image}
use Rattle.ch_moved.proofs.Bounded.{hold_push}
use Rattle.ch_moved.proofs.Fitted.{length_spread}
use Rattle.ch_moved.proofs.Substitutes.{length_image, length_zeros, value_kept, value_spread}
use Rattle.ch_space.specs.Built.{zeros}

pub spread_over : (n : ℕ) (gs : List Form) (row new : Form) → AllLong n gs → length gs ≤ length row.coefs → new ≡ spread n gs (length gs) row → IsOver n gs row new
spread_over n gs row new a l e =
    let m = length_spread n gs (length gs) row a l in
    subst (IsOver n gs row) (sym e) (record {
      long = omega arith;
      same = λ ys hs k. value_spread n (length gs) gs row ys (image gs ys) hs k (length_image gs ys) a l;
    })

kept_over : (n : ℕ) (gs : List Form) (row new : Form) → new ≡ kept n row → IsOver n gs row new
kept_over n gs row new e =
    let m = length-append (zeros n) row.coefs in
    let z = length_zeros n in
    subst (IsOver n gs row) (sym e) (record {
      long = omega arith;
      same = λ ys hs k. value_kept n row ys (image gs ys ++ hs) k;
    })

pub kept_ok : {E : Type 0} (r : Result Form E) (n : ℕ) (gs : List Form) (row : Form) → IfOk r (λ new. new ≡ kept n row) → IfOk r (λ new. IsOver n gs row new)
kept_ok (Ok new) n gs row e = kept_over n gs row new e
kept_ok (Err e) n gs row h = tt

-- one row more
pub over_more : (before : List Form) (n old : ℕ) (gs rows now next : List Form) (k : ℕ) (d r : Form) → k < length rows → d ≡ get_or rows k d → length d.coefs ≡ old → IsOver n gs d r
    → StandOver before n old gs (take k rows) now → next ≡ now ++ r ∷ [] → StandOver before n old gs (take (k + 1) rows) next
over_more before n old gs rows now next k d r l is e o s h =
    record {
      over = s.over ++ r ∷ [];
      behind = h ∙ ap (λ t. t ++ r ∷ []) s.behind ∙ append_assoc before s.over (r ∷ []);
      are = record {
        long = All-push (λ f. length f.coefs ≡ n + old) s.over r s.are.long (o.long ∙ ap (λ m. n + m) e);
        hold = λ ys hs m.
            let p : List ℤ = ys ++ (image gs ys ++ hs) in
            let q : List ℤ = image gs ys ++ hs in
            hold_push s.over r p ∙ ap₂ (λ a v. a && int_le (pos 0) v) (s.are.hold ys hs m) (o.same ys hs m)
            ∙ sym (ap (λ fs. all_hold fs q) (take_more rows k d l ∙ ap (λ f. take k rows ++ f ∷ []) (sym is)) ∙ hold_push (take k rows) d q);
      };
    }
