-- How many steps a search can take.
use Rattle.std.specs.Prelude.{ℕ, zero, suc, ◌+◌, ◌*◌, ◌^◌, max, nat_le, List, [], ◌∷◌, if◌then◌else◌}
use Rattle.ch_grid.specs.Points.{count}

-- the greatest size; 1 where there is no parameter
abbrev pub greatest : List ℕ → ℕ
greatest [] = 1
greatest (n ∷ ns) = max n (greatest ns)

-- the least c from `c` on with n ≤ 2 ^ c, sought in so many turns
abbrev pub halvings_from : ℕ → ℕ → ℕ → ℕ
halvings_from zero c n = c
halvings_from (suc turns) c n = if nat_le n (2 ^ c) then c else halvings_from turns (suc c) n

-- the least c with n ≤ 2 ^ c: so many halvings bring n values down to one
unfoldable pub halvings : ℕ → ℕ
halvings n = halvings_from n 0 n

-- each least cost, of which there are at most as many as points, stays for one step and one for each halving
unfoldable pub bound : List ℕ → ℕ
bound sizes = count sizes * (halvings (greatest sizes) + 1)
