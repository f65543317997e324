-- Which events may happen to a gateway, with what each value of the type of events has besides.
use Rattle.std.specs.Prelude.{◌<◌, ◌^◌, List, All}
use Rattle.amt_values.specs.{Address.{IsAddress}, Order.{ip_order}, Ascending.{IsAscending}}
use Rattle.source_filter.specs.Filter.{FilterValue}
use Rattle.gateway_machine.specs.{Events.{IsEventOf}, declared.{event.GatewayEvent.{GatewayEvent, TheVariants.{Nonce, Open, Change}}, settings.GatewaySettings.{GatewaySettings}}}

-- the sources are addresses, and ascend, as in each value of the type of filters
pub record IsFilter (filter : FilterValue) : Type 0 where
  pub addresses : All IsAddress filter.sources
  pub ascending : IsAscending ip_order filter.sources

-- the numbers fit their fields, as in each value of the type of events: a nonce has 32 bits
abbrev pub IsEvent : GatewayEvent → Type 0
IsEvent (Nonce nonce) = nonce < 2 ^ 32
IsEvent (Open name group filter) = IsFilter filter
IsEvent (Change name filter) = IsFilter filter
IsEvent event = Unit {0}

-- the event may happen to a gateway of these settings
pub record MayHappen (settings : GatewaySettings) (event : GatewayEvent) : Type 0 where
  pub is : IsEvent event
  pub may_come : IsEventOf settings event

-- and so may all of these
abbrev pub AreEventsOf : GatewaySettings → List GatewayEvent → Type 0
AreEventsOf settings events = All (MayHappen settings) events
