-- The machine of a client.
use Rattle.std.specs.Prelude.{ℕ, ◌&&◌, nat_le, List, Ok}
use Rattle.ch_lex.specs.declared.error.Code2.TheVariants.{D2, D9}
use Rattle.ch_lex.specs.declared.keyword.Keyword.TheVariants as words
use Rattle.ch_lex.specs.declared.token.Sign.TheVariants as signs
use Rattle.ch_lex.specs.declared.token.Token.{Token}
use Rattle.ch_nest.specs.CostModel.{CostModel, cost_model}
use Rattle.ch_nest.specs.Limits.{most_cache, most_charge}
use Rattle.ch_nestparse.specs.Read.{◌>>=◌, Read, begins, choose, guarded, keyword_at, number_at, place, sign_at}

-- that of a client which names none
abbrev pub usual_machine : CostModel
usual_machine = cost_model 1 8 16 4

-- a number from `low` to `high`
unfoldable pub between_at : List ℕ → ℕ → ℕ → List Token → Read ℕ
between_at bytes low high ts =
    number_at bytes D2 ts >>= λ n. guarded (nat_le low n.0 && nat_le n.0 high) D9 (place bytes ts) (λ _. Ok n)

-- such a number, and `,`
unfoldable pub listed_at : List ℕ → ℕ → ℕ → List Token → Read ℕ
listed_at bytes low high ts = do
  n ← between_at bytes low high ts
  rest ← sign_at bytes D2 signs.Comma n.1
  Ok (n.0, rest)

-- `machine`, and in parentheses the cost of a turn and of a miss, and how many lines the cache has, of how many cells each
unfoldable pub numbers_at : List ℕ → List Token → Read CostModel
numbers_at bytes ts = do
  word ← keyword_at bytes D2 words.Machine ts
  paren ← sign_at bytes D2 signs.LeftParen word
  turn ← listed_at bytes 0 most_charge paren
  miss ← listed_at bytes 0 most_charge turn.1
  lines ← listed_at bytes 1 most_cache miss.1
  width ← between_at bytes 1 most_cache lines.1
  rest ← sign_at bytes D2 signs.RightParen width.1
  Ok (cost_model turn.0 miss.0 lines.0 width.0, rest)

unfoldable pub machine_at : List ℕ → List Token → Read CostModel
machine_at bytes ts =
    choose (begins bytes words.Machine ts) (λ _. numbers_at bytes ts) (λ _. Ok (usual_machine, ts))
