use Rattle.relay_machine.proofs.Numbers.{AreLawful-default}
use Rattle.relay_machine.proofs.settings.Settings.of_relay.Goals as goal

pub returns-clause-lawful : goal.returns-clause-lawful
returns-clause-lawful c =
    rw (c.range.ensures.default, c.range-2.ensures.default, c.range-3.ensures.default, c.range-4.ensures.default, c.range-5.ensures.default, c.range-6.ensures.default, c.range-7.ensures.default, c.range-8.ensures.default)
    (AreLawful-default c.args.relay)
