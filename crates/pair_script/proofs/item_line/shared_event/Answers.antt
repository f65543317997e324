use Rattle.std.proofs.Common.{subst}
use Rattle.amt_script.specs.Says.{SaysItem as RelaySays}
use Rattle.amt_script.specs.declared.script.RelayItem.TheVariants as relay_items
use Rattle.relay_machine.specs.declared.event.Event.{Event}
use Rattle.pair_script.proofs.item_line.shared_event.Goals as goal

pub returns-in-Moment-clause-says : goal.returns-in-Moment-clause-says
returns-in-Moment-clause-says c = λ line says. subst (λ (event : Event). RelaySays (relay_items.Event event) line) c.in-Moment.is says

pub returns-in-Rotate-clause-says : goal.returns-in-Rotate-clause-says
returns-in-Rotate-clause-says c = λ line says. subst (λ (event : Event). RelaySays (relay_items.Event event) line) c.in-Rotate.is says

pub returns-in-Packet-clause-says : goal.returns-in-Packet-clause-says
returns-in-Packet-clause-says c = λ line says. subst (λ (event : Event). RelaySays (relay_items.Event event) line) c.in-Packet.is says
