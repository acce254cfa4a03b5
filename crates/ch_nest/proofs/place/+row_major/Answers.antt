use Rattle.std.proofs.Common.{rules, ◌^◌, nat_le, length}
use Rattle.ch_nest.specs.Shape.{sub_fits}
use Rattle.ch_nest.proofs.Places.{rest_room, rest_within}
use Rattle.ch_nest.proofs.Rests.{all_rest}
use Rattle.ch_nest.proofs.place.+row_major.Goals as goal

pub row_major-requires : goal.row_major-requires
row_major-requires t c = (
  search rules,
  (
    rest_room c.args.at c.args.extents.now c.along-next.result (2 ^ 40) c.in-len1-up.len_at_least c.along-next.ensures.room c.requires.few,
    (
      all_rest (nat_le 1) c.args.extents.now c.requires.some,
      (
        all_rest (sub_fits (length c.args.point.now)) c.args.subs.now c.requires.fit,
        (
          c.requires.small,
          rest_within c.args.extents.now c.args.point.now c.args.subs.now c.in-len1-up.len_at_least c.in-len1-up-subs.len_at_least c.requires.within,
        ),
      ),
    ),
  ),
)
