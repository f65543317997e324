use Rattle.std.proofs.Common.{ℕ, [], subst}
use Rattle.endpoint_membership.specs.Table.{Holds}
use Rattle.relay_machine.specs.declared.number_key.NumberKey.TheVariants.{Secrets}
use Rattle.relay_machine.proofs.{Limits.{always_within}, Numbers.{AreLawful-settings}, Onward.{RelayAt-new}}
use Rattle.relay_machine.proofs.relay.Relay.new.Goals as goal

pub returns-clause-stands : goal.returns-clause-stands
returns-clause-stands c =
    let settings = c.args.settings in
    let holds = subst (λ (lifetime : ℕ). Holds (record { limits = settings.limits; lifetime = lifetime }) c.in_ok-table.table []) c.lifetime_ms.ensures c.in_ok-table.ensures.stands in
    RelayAt-new _ settings c.args.secret c.new-3.ensures c.new-4.ensures holds c.in_ok-table.ensures.in_force

pub returns-clause-within : goal.returns-clause-within
returns-clause-within c events = always_within c.args.settings c.args.secret events

pub returns-in_err-table-clause-within : goal.returns-in_err-table-clause-within
returns-in_err-table-clause-within c events = always_within c.args.settings c.args.secret events

pub new-requires : goal.new-requires
new-requires c = rw c.lifetime_ms.ensures (AreLawful-settings c.args.settings c.requires)

pub returns-in_err-targets-clause-within : goal.returns-in_err-targets-clause-within
returns-in_err-targets-clause-within c events = always_within c.args.settings c.args.secret events

pub new-requires-4-clause-some : goal.new-requires-4-clause-some
new-requires-4-clause-some c = (c.requires.numbers Secrets).least

pub new-requires-4-clause-few : goal.new-requires-4-clause-few
new-requires-4-clause-few c = (c.requires.numbers Secrets).most
