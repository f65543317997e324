-- What a native multicast packet comes to, and who gets a copy (RFC 7450, section 5.3.3).
use Rattle.std.specs.{Prelude.{◌≡◌, ℕ, ◌≤◌, ◌↔◌, nat_lt, Bool, true, false, List, length, map, Result, Ok, Err, if◌then◌else◌}, List.{All, Contains}}
use Rattle.amt_values.specs.{Group.{is_forwardable}, Order.{endpoint_order}, EndpointValue.{EndpointValue}, Ascending.{IsAscending}}
use Rattle.amt_messages.specs.{Layout.{IsCanonical, spelling_of}, declared.message.Message.TheVariants.{Multicast}}
use Rattle.inner_datagrams.specs.{Head.{IsHead, head_of}, declared.head.{Head.{Head}, HeadFault.{HeadFault}}}
use Rattle.endpoint_membership.specs.{Table.{TableSettings}, Targets.{targets_of}, declared.change.Change.{Change}}
use Rattle.relay_machine.specs.declared.{outcome.{NotForwarded.TheVariants.{Head as NoHead, Scope}, Outcome.{Outcome, TheVariants.{TooBig, NotForwarded}}}, sends.OneSend.{OneSend}}

-- by its group's scope
abbrev pub by_scope : Bool → Head → Result Head Outcome
by_scope true head = Ok head
by_scope false head = Err (NotForwarded (Scope head.group))

-- by its head, and then by its group's scope
abbrev pub by_head : Result Head HeadFault → Result Head Outcome
by_head (Err fault) = Err (NotForwarded (NoHead fault))
by_head (Ok head) = by_scope (is_forwardable head.group) head

-- the source and the group of a packet that is copied, or else what it comes to, by the order in
-- which it is judged: its length, its head, its group's scope
abbrev pub head_to_copy : ℕ → List ℕ → Result Head Outcome
head_to_copy limit packet = if nat_lt limit (length packet) then Err (TooBig (length packet)) else by_head (head_of packet)

-- to each of these endpoints the Multicast Data message of the packet (RFC 7450, section 5.1.6)
abbrev pub copies : List EndpointValue → List ℕ → List OneSend
copies targets packet = map (λ endpoint. record { to = endpoint; bytes = spelling_of (Multicast packet) }) targets

-- the endpoints that want the packet's source in its group at the moment, by the log
abbrev pub targets_at : TableSettings → List Change → ℕ → Head → List EndpointValue
targets_at terms log moment head = targets_of terms.lifetime log head.group head.source moment

-- a packet of at most so many octets, with this head, whose group is forwarded
pub record IsToCopy (limit : ℕ) (head : Head) (packet : List ℕ) : Type 0 where
  pub size : length packet ≤ limit
  pub begins : IsHead head packet
  pub scope : is_forwardable head.group ≡ true

-- where datagrams go
abbrev pub receivers : List OneSend → List EndpointValue
receivers sends = map (λ send. send.to) sends

-- each endpoint that wants the packet, and no other, is sent it once: as the one canonical Multicast
-- Data message of the packet as it is
pub record AreCopies (wants : EndpointValue → Bool) (packet : List ℕ) (sends : List OneSend) : Type 0 where
  pub exactly : (endpoint : EndpointValue) → Contains (receivers sends) endpoint ↔ (wants endpoint ≡ true)
  pub once : IsAscending endpoint_order (receivers sends)
  pub octets : All (λ send. IsCanonical (Multicast packet) send.bytes) sends
