-- The log that is published: what replicas of a relay's memberships are given.
use Rattle.std.specs.Prelude.{List}
use Rattle.response_mac.specs.declared.secret.Secret.{Secret}
use Rattle.endpoint_membership.specs.{Published.{published_of}, declared.change.Change.{Change}}
use Rattle.relay_machine.specs.{Accepted.{accepted_log}, Settings.{membership_interval_ms}, declared.{event.Event.{Event}, settings.Settings.{Settings}}}

-- the accepted log of the events without each clearing of an endpoint that had no membership
abbrev pub published_log : Settings → Secret → List Event → List Change
published_log settings first events = published_of (membership_interval_ms settings) (accepted_log settings first events)
