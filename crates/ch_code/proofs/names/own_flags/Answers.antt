use Rattle.std.proofs.Common.{◌≡◌, ◌∙◌, ap, sym, subst, ◌++◌, [], ◌∷◌, List, Bool, ◌&&◌, get_or, take, ◌+◌, ℕ}
use Rattle.std.specs.declared.alloc.Global.{Global}
use Rattle.std.specs.declared.vec.Vec.{Vec}
use Rattle.ch_code.specs.BodyText.{is_plain}
use Rattle.ch_code.proofs.Seen.{AreSeen, goes_on}
use Rattle.ch_code.proofs.names.own_flags.Goals as goal

pub loop-number-preserved : goal.loop-number-preserved
loop-number-preserved c =
    let arrays = c.args.arrays.now in
    let k = c.loop-number.number in
    let d = c.index-arrays-number.result in
    let name : c.as_bytes-name.result.now ≡ (get_or arrays k d).name = c.as_bytes-name.ensures.value in
    let own : c.push.new.self ≡ c.loop-number.own ++ (is_plain (get_or arrays k d).name && c.in_ok-is_new.is_new) ∷ [] =
    c.in_ok-push.ensures.ok ∙ ap (λ (b : Bool). c.loop-number.own ++ b ∷ []) (c.is_own_name.ensures ∙ ap (λ (t : List ℕ). is_plain t && c.in_ok-is_new.is_new) name) in
    let more = goes_on arrays k d c.loop-number.own c.push.new.self c.loop-number.seen.keys c.in_ok-from_slice.field-0 c.in_ok-is_new.is_new c.loop-number-test.true
    c.loop-number.invariant.0 c.loop-number.invariant.1 (c.in_ok-from_slice.ensures.items ∙ name) c.in_ok-is_new.ensures.added own in
    (more.0, subst (λ (keys : List (Vec ℕ Global)). AreSeen keys (take (k + 1) arrays)) (sym c.in_ok-is_new.ensures.keys) more.1)
