use Rattle.std.proofs.Common.{◌≡◌, sym, subst, rules}
use Rattle.std.specs.Bool.{IsTrue}
use Rattle.ch_demo.specs.Product.{product}
use Rattle.ch_nest.specs.LoopNest.{LoopNest}
use Rattle.ch_nest.specs.Sound.{is_sound}
use Rattle.ch_demo.proofs.Sizes.{sound_product}
use Rattle.ch_demo.proofs.product.product.Goals as goal

pub returns-clause-sound : goal.returns-clause-sound
returns-clause-sound c =
    let is : c.in-Some.nest ≡ product c.args.n = search rules in
    subst (λ (n : LoopNest). IsTrue (is_sound n)) (sym is) (sound_product c.args.n c.requires.low c.requires.high)
