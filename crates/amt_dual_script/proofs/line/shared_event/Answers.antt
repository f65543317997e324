use Rattle.std.proofs.Common.{[], subst}
use Rattle.amt_pair.specs.declared.event.PairEvent.{PairEvent}
use Rattle.pair_script.specs.Says.{SaysEventAfter as PairSaysEvent}
use Rattle.amt_dual_script.proofs.line.shared_event.Goals as goal

pub returns-in-Moment : goal.returns-in-Moment
returns-in-Moment c = λ gateways line says. subst (λ (event : PairEvent). PairSaysEvent [] event line) c.in-Moment.is says

pub returns-in-Rotate : goal.returns-in-Rotate
returns-in-Rotate c = λ gateways line says. subst (λ (event : PairEvent). PairSaysEvent [] event line) c.in-Rotate.is says

pub returns-in-Packet : goal.returns-in-Packet
returns-in-Packet c = λ gateways line says. subst (λ (event : PairEvent). PairSaysEvent [] event line) c.in-Packet.is says

pub returns-in-Up : goal.returns-in-Up
returns-in-Up c = λ gateways line says. subst (λ (event : PairEvent). PairSaysEvent [] event line) c.in-Up.is says

pub returns-in-Down : goal.returns-in-Down
returns-in-Down c = λ gateways line says. subst (λ (event : PairEvent). PairSaysEvent [] event line) c.in-Down.is says
