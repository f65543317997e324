use Rattle.std.proofs.Common.{ap}
use Rattle.gateway_script.{specs.Row.{form_of_key}, proofs.Failures.{bad_setting_peer}}
use Rattle.gateway_script.proofs.statement.setting_of_text.Goals as goal

pub returns-in-None-parse_peer-clause-reason : goal.returns-in-None-parse_peer-clause-reason
returns-in-None-parse_peer-clause-reason c = λ family.
    bad_setting_peer family c.args.key c.args.text.now (ap form_of_key c.in-Discovery.is) (λ peer names. let read = c.in-None-parse_peer.ensures.only peer names in cc read)

pub returns-in-None-parse_peer-2-clause-reason : goal.returns-in-None-parse_peer-2-clause-reason
returns-in-None-parse_peer-2-clause-reason c = λ family.
    bad_setting_peer family c.args.key c.args.text.now (ap form_of_key c.in-Relay.is) (λ peer names. let read = c.in-None-parse_peer-2.ensures.only peer names in cc read)
