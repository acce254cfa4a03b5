-- A client section: `client`, a name, whether the client waits for a trial to be built, its machine, and in braces its fills and its
-- calls.
use Rattle.std.specs.Prelude.{ℕ, ◌-◌, Bool, true, false, ◌&&◌, nat_le, List, length, drop, map, Result, Ok}
use Rattle.std.specs.List.{list_all}
use Rattle.ch_lex.specs.declared.error.Code2.TheVariants.{D2}
use Rattle.ch_lex.specs.declared.error.ParseError.{ParseError}
use Rattle.ch_lex.specs.declared.keyword.Keyword.TheVariants as words
use Rattle.ch_lex.specs.declared.token.Sign.TheVariants as signs
use Rattle.ch_lex.specs.declared.token.Token.{Token}
use Rattle.ch_nestparse.specs.declared.ahead.Look.{Look}
use Rattle.ch_nestparse.specs.declared.ahead.Look.TheVariants as looks
use Rattle.ch_nestparse.specs.declared.program.ParsedProgram.{ParsedProgram}
use Rattle.ch_nestparse.specs.Read.{◌>>=◌, Read, keyword_at, name_at, place, refused, seen, sign_at}
use Rattle.ch_workload.specs.declared.client.ParsedClient.{ParsedClient}
use Rattle.ch_workload.specs.declared.client.Script.{Script}
use Rattle.ch_workload.specs.Calls.{call_fits, calls_at, total_of}
use Rattle.ch_workload.specs.Fills.{fill_fits, fills_at, fills_differ}
use Rattle.ch_workload.specs.Limits.{most_calls}
use Rattle.ch_workload.specs.Machines.{machine_at}
use Rattle.ch_workload.specs.Tuned.{Tuned}

-- `eager` or `patient`, where `ts` are the tokens after it
abbrev pub patience_if : Look → ℕ → List Token → Read Bool
patience_if (looks.Keyword words.Eager) at ts = Ok (false, ts)
patience_if (looks.Keyword words.Patient) at ts = Ok (true, ts)
patience_if other at ts = refused D2 at

-- whether the client is patient
unfoldable pub patience_at : List ℕ → List Token → Read Bool
patience_at bytes ts = patience_if (seen bytes ts) (place bytes ts) (drop 1 ts)

unfoldable pub client_at : List ℕ → List ParsedProgram → List Tuned → List Token → Read Script
client_at bytes programs sessions ts = do
  word ← keyword_at bytes D2 words.Client ts
  name ← name_at bytes D2 word
  patient ← patience_at bytes name.1
  machine ← machine_at bytes patient.1
  inside ← sign_at bytes D2 signs.LeftBrace machine.1
  fills ← fills_at bytes programs inside
  calls ← calls_at bytes sessions fills.1
  rest ← sign_at bytes D2 signs.RightBrace calls.1
  Ok (record { name = name.0; patient = patient.0; machine = machine.0; fills = fills.0; calls = calls.0.calls }, rest)

-- the section whose first token is token `from`, and the number of the first token behind it
abbrev pub section_at : List ℕ → List ParsedProgram → List Tuned → List Token → ℕ → Result ParsedClient ParseError
section_at bytes programs sessions tokens from = client_at bytes programs sessions (drop from tokens) >>= λ x.
    Ok (record { client = x.0; next = length tokens - length x.1 })

-- A client fits programs with so many arrays each, and so many sessions: what it fills and calls exists, it fills no array twice, and
-- it makes 1 to 10,000 calls.
abbrev pub client_fits : List ℕ → ℕ → Script → Bool
client_fits arrays sessions c =
    (list_all (fill_fits arrays) c.fills && fills_differ c.fills)
    && (list_all (call_fits sessions) c.calls && (nat_le 1 (length c.calls) && nat_le (total_of c.calls) most_calls))

-- how many arrays each program has
abbrev pub array_counts : List ParsedProgram → List ℕ
array_counts programs = map (λ p. length p.nest.arrays) programs
