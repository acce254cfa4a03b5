use Rattle.std.proofs.Common.{rules, ◌≡◌, true}
use Rattle.ch_run.proofs.Outs.{all_read, not_both, of_reading}
use Rattle.ch_words.specs.Requests.{reads_input}
use Rattle.ch_run.proofs.run.carried_out.Goals as goal

pub returns-in_default : goal.returns-in_default
returns-in_default g c =
    let reading : reads_input c.args.request.now ≡ true = search rules in
    record {
      known = c.from_input.ensures.known;
      words = c.from_input.ensures.words;
      answer = λ l. of_reading _ c.args.request.now _ reading (c.from_input.ensures.answer l);
      read = λ l. all_read c.args.request.now _ _ reading (c.from_input.ensures.read l);
      unread = λ h. absurd (not_both c.args.request.now reading h);
      read_fault = c.from_input.ensures.read_fault;
      read_nothing = c.from_input.ensures.read_nothing;
      write_fault = c.from_input.ensures.write_fault;
      write_part = λ h. of_reading _ c.args.request.now _ reading (c.from_input.ensures.write_part h);
      memory = c.from_input.ensures.memory;
    }
