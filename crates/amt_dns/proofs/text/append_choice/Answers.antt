use Rattle.std.proofs.{Common.{◌≡◌, Some, arith}, lemmas.Grind.{common_steps}}
use Rattle.amt_dns.specs.Choice.{chosen_of}
use Rattle.amt_dns.proofs.Choices.{chosen_there}
use Rattle.amt_dns.proofs.text.append_choice.Goals as goal

pub returns : goal.returns
returns c =
    let is : chosen_of c.args.found.now ≡ Some c.index-as_slice-place.result =
    chosen_there c.args.found.now c.in-Some.place _ c.in-Some.ensures.some.0 (grind arith) c.in-Some.ensures.some.1 in
    rw is (grind (arith, common_steps))
