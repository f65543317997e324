-- A name ends within the octets, and it is the one that stands there.
use Rattle.std.proofs.Common.{refl, arith}
use Rattle.amt_dns_names.proofs.OneName.{NameAt-unique, PartAt-within}
use Rattle.amt_dns_names.proofs.reading.read_name.Goals as goal

pub overflow_cast-result : goal.overflow_cast-result
overflow_cast-result c =
    let name = rw c.in-Some.is at c.in_ok-end.ensures.some in
    let within = PartAt-within c.args.bytes.now c.args.at c.args.at c.read_parts.new.name c.in-Some.end name.part in
    omega (arith, within)

pub returns-in-Some-clause-only : goal.returns-in-Some-clause-only
returns-in-Some-clause-only c = λ labels end stands.
    let name = rw c.in-Some.is at c.in_ok-end.ensures.some in
    let same = NameAt-unique c.args.bytes.now c.args.at c.read_parts.new.name labels c.in-Some.end end name stands in
    rw (same.0, same.1) refl

pub returns-in-Some-clause-within : goal.returns-in-Some-clause-within
returns-in-Some-clause-within c =
    let name = rw c.in-Some.is at c.in_ok-end.ensures.some in
    PartAt-within c.args.bytes.now c.args.at c.args.at c.read_parts.new.name c.in-Some.end name.part
