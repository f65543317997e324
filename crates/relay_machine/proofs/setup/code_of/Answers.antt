use Rattle.std.proofs.Common.{◌≡◌, ◌∙◌}
use Rattle.relay_machine.proofs.Times.{found_code}
use Rattle.relay_machine.proofs.setup.code_of.Goals as goal

pub returns : goal.returns
returns c =
    let has_code = c.requires in
    let only = c.value_code4.ensures.only has_code.0 has_code.1 has_code.2 in
    let found : c.unwrap.result ≡ has_code.0 = cc in
    found ∙ found_code c.args.time has_code.0 has_code.1 has_code.2
