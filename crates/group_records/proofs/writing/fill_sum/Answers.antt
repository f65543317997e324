use Rattle.std.proofs.{Common.{sym, ◌∙◌, arith, rules}, lemmas.Grind.{common_steps}}
use Rattle.amt_values.specs.Octets.{AreOctets}
use Rattle.inner_datagrams.proofs.Parts.{internet_sum_of-all_after}
use Rattle.group_records.proofs.writing.fill_sum.Goals as goal

pub returns-clause-filled : goal.returns-clause-filled
returns-clause-filled c =
    let pseudo_small : AreOctets c.args.pseudo_header.now = search rules in
    let small : AreOctets c.args.message.now = search rules in
    let checksum = c.internet_sum_around-checksum.ensures
    ∙ internet_sum_of-all_after c.args.pseudo_header.now c.args.message.now c.requires.pseudo_header_even pseudo_small small in
    let back = sym checksum in
    rw back (grind (arith, common_steps))
