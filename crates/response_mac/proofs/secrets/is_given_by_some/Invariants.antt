-- Some secret gives the MAC exactly where one that is left does.
use Rattle.std.{proofs.Common.{◌≡◌, drop}, specs.List.{list_any}}
use Rattle.response_mac.specs.{declared.secret.Secret.{Secret}, ResponseMac.{gives, older_in}}
use Rattle.response_mac.proofs.secrets.is_given_by_some.Given as goal

abbrev pub invariant-loop-slot : goal.invariant-loop-slot
invariant-loop-slot l =
    list_any (λ (older : Secret). gives older l.endpoint l.nonce l.mac) (older_in (drop l.slot-index l.slots))
    ≡ list_any (λ (older : Secret). gives older l.endpoint l.nonce l.mac) (older_in l.slots)
