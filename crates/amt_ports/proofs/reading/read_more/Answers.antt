use Rattle.std.proofs.{Common.{◌≡◌, ◌+◌, ◌≤◌, length, take, replicate, arith, rules, ◌∙◌}, lemmas.List.{length-take}}
use Rattle.amt_ports.{specs.declared.reading.TheConstants.{READ_SIZE}, proofs.Taken.{read_into}}
use Rattle.amt_ports.proofs.reading.read_more.Goals as goal

pub returns-clause-next : goal.returns-clause-next
returns-clause-next g c =
    let before = c.args.all.now.items in
    let buf = c.read.new.buf in
    let count = c.in-Ok-read.count in
    let fits : count ≤ length buf = c.in-Ok-read.ensures.bound.0 in
    let begins : c.len-start.result ≡ length before = search rules in
    let reaches : c.add_room.new.all.len ≡ c.len-start.result + length buf = search rules in
    let room : length buf ≡ READ_SIZE = omega (arith, reaches, c.in-Ok.ensures.len, begins) in
    record {
      bytes = take count buf;
      taken = c.in-Ok-read.ensures.bytes.0;
      whole = c.truncate.ensures.items ∙ read_into before (replicate READ_SIZE 0) buf _ _ c.add_room.new.all.items c.len-start.result c.add_room.new.all.len count begins c.in-Ok.ensures.room reaches fits;
      counted = omega (arith, length-take count buf, fits);
      short = omega (arith, fits, room);
      ended = λ none. c.in-Ok-read.ensures.bytes.1 none (omega (arith, room));
    }
