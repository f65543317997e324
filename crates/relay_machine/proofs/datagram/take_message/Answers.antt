use Rattle.std.{proofs.Common.{◌≡◌, ℕ, List, Some, refl, subst, sym}, specs.Result.{IfOk}}
use Rattle.amt_messages.specs.declared.message.Message.{Message, TheVariants.{Query}}
use Rattle.response_mac.specs.ResponseMac.{is_good, mac_of}
use Rattle.endpoint_membership.specs.Table.{in_force_of}
use Rattle.relay_machine.{specs.{declared.outcome.Outcome.TheVariants.{Queried, WrongKind}, EventAnswer.{is_limited, quiet, replied}, Logs.{IsAnswered}, Queries.{asks_for_mld, gateway_named, says_limited}, Settings.{table_settings_of}}, proofs.{Answering.{answered-unchanged}, QuerySizes.{general_query-limits}}}
use Rattle.relay_machine.proofs.datagram.take_message.Goals as goal

pub returns-in-Discovery-clause-answers : goal.returns-in-Discovery-clause-answers
returns-in-Discovery-clause-answers c log holds =
    rw c.in-Discovery.is (c.take_discovery.ensures.answers (table_settings_of c.args.setup.now.settings) c.args.table.now log holds)

pub returns-in-Update-clause-answers : goal.returns-in-Update-clause-answers
returns-in-Update-clause-answers c log holds =
    let good : is_good c.args.secrets.now c.args.source c.in-Update.nonce c.in-Update.mac ≡ c.matches-good.result = sym c.matches-good.ensures.test in
    rw (c.in-Update.is, good) (c.take_update.ensures.answers (table_settings_of c.args.setup.now.settings) log holds)

pub returns-in-Teardown-clause-answers : goal.returns-in-Teardown-clause-answers
returns-in-Teardown-clause-answers c log holds =
    let good : is_good c.args.secrets.now c.in-Teardown.gateway c.in-Teardown.nonce c.in-Teardown.mac ≡ c.matches-good-in-Teardown.result = sym c.matches-good-in-Teardown.ensures.test in
    rw (c.in-Teardown.is, good) (c.take_teardown.ensures.answers (table_settings_of c.args.setup.now.settings) log holds)

pub returns-in-Request-clause-answers : goal.returns-in-Request-clause-answers
returns-in-Request-clause-answers c log holds =
    let settings = c.args.setup.now.settings in
    let terms = table_settings_of settings in
    let table = c.args.table.now in
    let limited = is_limited (in_force_of terms table) log in
    let query : List ℕ → Message = λ inner. Query (says_limited settings limited) (mac_of c.args.secrets.now.current c.args.source c.in-Request.nonce) c.in-Request.nonce inner (gateway_named settings c.args.source) in
    let answered : List ℕ → Type 0 = λ inner. IfOk c.take_request.result (IsAnswered terms table table log (replied (Queried c.asks_for_mld-mld.result limited) c.args.source (query inner))) in
    let mld : asks_for_mld settings c.args.octets.now c.in-Request.v6 ≡ c.asks_for_mld-mld.result = sym c.asks_for_mld-mld.ensures in
    rw (c.in-Request.is, mld) (subst answered (general_query-limits settings table.in_force c.asks_for_mld-mld.result) (c.take_request.ensures.answers log holds))

pub returns-in-Multicast-clause-answers : goal.returns-in-Multicast-clause-answers
returns-in-Multicast-clause-answers c log holds =
    rw c.in-Multicast.is (answered-unchanged _ _ _ log (quiet (WrongKind 6)) _ holds refl refl c.quiet-in-Multicast.ensures.outcome c.quiet-in-Multicast.ensures.sends c.quiet-in-Multicast.ensures.change)
