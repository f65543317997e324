use Rattle.std.proofs.Common.{◌≤◌, false, true, length, ◌∙◌}
use Rattle.amt_messages.specs.Layout.{named_gateway_octets}
use Rattle.relay_machine.proofs.{QuerySizes.{named-few, query_may_carry}, setup.Setup.query_for.Goals.{in-false+in_ok-inner-in-false, in-true+in_ok-inner-in-true}}
use Rattle.relay_machine.proofs.setup.Setup.query_for.Goals as goal

pub returns-clause-sendable : goal.returns-clause-sendable
returns-clause-sendable c =
    let settings = c.args.self.now.settings in
    let few : length (named_gateway_octets c.gateway_named.result) ≤ 18 = rw c.gateway_named.ensures (named-few settings c.args.source) in
    elim c.if-v6.branch [
      | in-true+in_ok-inner-in-true w ↦ query_may_carry _ settings true _ few (w.inner-is ∙ w.in_ok-inner-in-true.ensures)
      | in-false+in_ok-inner-in-false w ↦ query_may_carry _ settings false _ few (w.inner-is ∙ w.in_ok-inner-in-false.ensures)
    ]
