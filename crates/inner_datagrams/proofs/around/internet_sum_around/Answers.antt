use Rattle.std.proofs.Common.{rules, arith}
use Rattle.amt_values.specs.Octets.{AreOctets}
use Rattle.inner_datagrams.proofs.Parts.{ones_sum-around, ones_sum-fits}
use Rattle.inner_datagrams.proofs.around.internet_sum_around.Goals as goal

pub returns : goal.returns
returns c =
    let pseudo_small : AreOctets c.args.pseudo_header.now = search rules in
    let prefix_small : AreOctets c.args.prefix.now = search rules in
    let suffix_small : AreOctets c.args.suffix.now = search rules in
    let pseudo_fits = ones_sum-fits c.args.pseudo_header.now pseudo_small in
    let prefix_fits = ones_sum-fits c.args.prefix.now prefix_small in
    let suffix_fits = ones_sum-fits c.args.suffix.now suffix_small in
    let whole = ones_sum-around c.args.pseudo_header.now c.args.prefix.now c.args.suffix.now c.requires.pseudo_header_even c.requires.prefix_even pseudo_small prefix_small suffix_small in
    let first = c.internet_sum.ensures in
    let second = c.internet_sum-2.ensures in
    let third = c.internet_sum-3.ensures in
    let before = c.ones_add-before.ensures in
    let all = c.ones_add.ensures in
    rw whole (omega arith)
