-- What a gateway remembers of its exchange with relays, and how it goes on (RFC 7450, section 5.2.3).
use Rattle.std.specs.Prelude.{ℕ, ◌+◌, ◌*◌, ◌%◌, ◌^◌, max, min, Some, None}
use Rattle.amt_values.specs.declared.address.Ip.{Ip}
use Rattle.gateway_machine.specs.{declared.{exchange.{Exchange.{Exchange}, GatewayState.TheVariants.{Idle, Discovering, Requesting, Active}, LastQuery.{LastQuery}}, settings.GatewaySettings.{GatewaySettings}}, Timing.{wait_ms}}

-- the exchange before any event, with the first nonce
abbrev pub start : GatewaySettings → ℕ → Exchange
start settings nonce = record {
  moment = 0;
  state = Idle;
  relay = settings.relay;
  nonce = 0;
  tries = 0;
  due_ms = 0;
  next_nonce = nonce;
  query = None;
}

-- the exchange at a moment; time doesn't run backwards
abbrev pub moved : ℕ → Exchange → Exchange
moved at old = record old { moment = max old.moment at }

-- the exchange with another next nonce
abbrev pub with_next_nonce : ℕ → Exchange → Exchange
with_next_nonce nonce old = record old { next_nonce = nonce }

-- the exchange that puts its next nonce to use; the one after it is the next
abbrev pub drawn : Exchange → Exchange
drawn old = record old { nonce = old.next_nonce; next_nonce = (old.next_nonce + 1) % 2 ^ 32 }

-- the exchange after a Discovery with a new nonce; the relay is forgotten (RFC 7450, section 5.2.3.4)
abbrev pub discovering : Exchange → Exchange
discovering old = record (drawn old) { state = Discovering; relay = None; tries = 1; due_ms = old.moment + 1000 }

-- the exchange after a Request with a new nonce (RFC 7450, section 5.2.3.5)
abbrev pub requesting : Exchange → Exchange
requesting old = record (drawn old) { state = Requesting; tries = 1; due_ms = old.moment + 1000 }

-- the exchange after the same message once more; past 255, tries aren't counted
abbrev pub retried : Exchange → Exchange
retried old =
    let tries = min (old.tries + 1) 255 in
    record old { tries = tries; due_ms = old.moment + wait_ms tries }

-- the exchange with the relay that an Advertisement names
abbrev pub relay_named : Ip → ℕ → Exchange → Exchange
relay_named address port old = record old { relay = Some (record { ip = address; port = port }) }

-- the exchange after this query is accepted, until the next Request is due
abbrev pub active : LastQuery → Exchange → Exchange
active query old = record old {
  state = Active;
  due_ms = old.moment + query.interval_seconds * 1000;
  query = Some query;
}

-- the exchange in which nothing is asked or awaited; relay and query are kept
abbrev pub idle : Exchange → Exchange
idle old = record old { state = Idle }
