use Rattle.std.proofs.Common.{ap, ◌∙◌}
use Rattle.relay_serving.{specs.Counting.{one_if}, proofs.Askings.{is_read}}
use Rattle.relay_serving.proofs.server.asking.answer_line_of.Goals as goal

pub returns : goal.returns
returns g c =
    let sent = c.send_reply-sent.ensures in record {
      answers = record {
        reading = c.read_asking-reading.result;
        copied = c.copies-copied.result;
        starved = _;
        read = is_read c.args.line.now c.read_asking-reading.result c.read_asking-reading.ensures.found c.read_asking-reading.ensures.reason;
        counted = c.copies-copied.ensures.given;
        answer = sent.answer;
        same_coming = sent.coming;
        calm = sent.calm;
        same_wait = sent.waits;
        stops_is = c.is_stop.ensures;
        refused_is = c.one_if.ensures ∙ ap one_if c.is_err.ensures.value;
      };
    }
