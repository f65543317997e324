use Rattle.script_lines.proofs.Plain.{plain_so_far, plain_whole}
use Rattle.script_lines.proofs.reading.is_plain.Goals as goal

pub loop-octet-preserved : goal.loop-octet-preserved
loop-octet-preserved c =
    plain_so_far c.loop-octet.plain c.is_printable-plain.result c.args.line.now c.loop-octet.octet-index _ c.loop-octet-test.true c.loop-octet.invariant c.is_printable-plain.ensures

pub returns : goal.returns
returns c = plain_whole c.loop-octet.plain c.args.line.now c.loop-octet.octet-index c.loop-octet-test.false c.loop-octet.invariant
