use Rattle.std.proofs.Common.{◌≡◌, rules}
use Rattle.response_mac.{specs.ResponseMac.{is_good}, proofs.Goodness.{is_good-true}}
use Rattle.response_mac.proofs.secrets.Secrets.matches.Goals as goal

pub returns-clause-good : goal.returns-clause-good
returns-clause-good c =
    let test : c.is_given_by_some.result ≡ is_good c.args.self.now c.args.endpoint.now c.args.nonce c.args.mac.now = search rules in
    rw test (is_good-true c.args.self.now c.args.endpoint.now c.args.nonce c.args.mac.now)
