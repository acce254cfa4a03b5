-- A signed number, taken apart into its bits and put together again.
use Rattle.std.proofs.lemmas.Int.{to_z-of_z}

pub ruleset signed = (to_z-of_z)
