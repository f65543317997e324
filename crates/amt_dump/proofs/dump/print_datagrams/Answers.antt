use Rattle.std.proofs.Common.{◌∙◌}
use Rattle.amt_dump.proofs.Numbered.{text_of_spelled}
use Rattle.amt_dump.proofs.dump.print_datagrams.Goals as goal

pub returns : goal.returns
returns c =
    let printed = rw (c.new-text.ensures, c.as_slice.ensures, c.in_ok-numbers.ensures) at c.in_ok-append_datagrams.ensures in
    printed ∙ text_of_spelled c.args.datagrams.now c.args.bytes.now c.requires.spelled
