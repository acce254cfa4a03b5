-- The calls of a client.
use Rattle.std.specs.Prelude.{ℕ, ◌+◌, Bool, ◌&&◌, nat_le, nat_lt, List, [], ◌∷◌, ◌++◌, length, Ok}
use Rattle.ch_lex.specs.declared.error.Code2.TheVariants.{D2, D7}
use Rattle.ch_lex.specs.declared.keyword.Keyword.TheVariants as words
use Rattle.ch_lex.specs.declared.token.Sign.TheVariants as signs
use Rattle.ch_lex.specs.declared.token.Token.{Token}
use Rattle.ch_nestparse.specs.Read.{◌>>=◌, Read, begins, guarded, keyword_at, number_at, place, repeated, sign_at}
use Rattle.ch_workload.specs.declared.calls.CallDecl.{CallDecl}
use Rattle.ch_workload.specs.declared.calls.Called.{Called}
use Rattle.ch_workload.specs.Limits.{most_calls}
use Rattle.ch_workload.specs.Names.{session_at}
use Rattle.ch_workload.specs.Tuned.{Tuned}

abbrev pub no_calls : Called
no_calls = record { calls = []; total = 0 }

-- a count is at least 1, and with it the client keeps the limit on calls
abbrev pub is_count : ℕ → ℕ → Bool
is_count total times = nat_le 1 times && nat_le (total + times) most_calls

-- one line of calls more: `call`, a session's name, a count and `;`
unfoldable pub call_at : List ℕ → List Tuned → Called → List Token → Read Called
call_at bytes sessions found ts = do
  word ← keyword_at bytes D2 words.Call ts
  session ← session_at bytes sessions word
  times ← number_at bytes D2 session.1
  few ← guarded (is_count found.total times.0) D7 (place bytes session.1) (λ _. Ok times.1)
  rest ← sign_at bytes D2 signs.Semicolon few
  Ok (record { calls = found.calls ++ record { session = session.0; times = times.0 } ∷ []; total = found.total + times.0 }, rest)

abbrev pub begins_call : List ℕ → List Token → Bool
begins_call bytes ts = begins bytes words.Call ts

-- one line and more; there are no more of them than tokens
unfoldable pub calls_at : List ℕ → List Tuned → List Token → Read Called
calls_at bytes sessions ts = do
  first ← call_at bytes sessions no_calls ts
  repeated (begins_call bytes) (call_at bytes sessions) (length first.1) first.0 first.1

-- how many calls the lines make
abbrev pub total_of : List CallDecl → ℕ
total_of [] = 0
total_of (c ∷ cs) = c.times + total_of cs

-- a line fits so many sessions: its session exists, and it makes a call
abbrev pub call_fits : ℕ → CallDecl → Bool
call_fits sessions c = nat_lt c.session sessions && nat_le 1 c.times
