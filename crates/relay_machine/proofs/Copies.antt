-- To whom a packet goes.
use Rattle.std.{proofs.{Common.{◌≡◌, ◌≤◌, ℕ, ◌↔◌, Bool, true, false, List, [], ◌∷◌, length, nat_lt, None, Result, Ok, Err, refl, sym, ap, subst, ◌∙◌, arith, suc}, Math.Logic.{∥∥₁_elim}, lemmas.{Bool.{le-ltb}, List.Elements.{All-map}}}, specs.{Coded.{le_prop}, List.{Contains}}}
use Rattle.amt_values.specs.{Order.{endpoint_order}, EndpointValue.{EndpointValue}, Ascending.{IsAscending}}
use Rattle.amt_messages.specs.{Layout.{IsCanonical, spelling_of}, declared.message.Message.TheVariants.{Multicast}}
use Rattle.inner_datagrams.{specs.{Head.{head_of}, declared.head.Head.{Head}}, proofs.Heads.{answer_only}}
use Rattle.response_mac.specs.declared.secret.Secret.{Secret}
use Rattle.endpoint_membership.{specs.{Table.{Holds, TableValue, TableSettings}, declared.{change.Change.{Change}, limits.Limits.{Limits}}}, proofs.TargetsByLog.{IsAscending-targets_of, targets_want}}
use Rattle.relay_machine.specs.{declared.{event.Event.{Event, TheVariants.{Packet}}, outcome.Outcome.{Outcome, TheVariants.{Copied}}, sends.{OneSend.{OneSend}, Step.{Step}}, settings.Settings.{Settings}}, Accepted.{accepted_log}, Answers.{outcome_of, sends_of, wants_after}}
use Rattle.relay_machine.{specs.{EventAnswer.{EventAnswer, packet_answer, quiet}, Events.{now_of}, Logs.{IsAnswered}, Packets.{AreCopies, IsToCopy, copies, head_to_copy, receivers, targets_at}, Sends.{AreShort}, Settings.{membership_interval_ms, table_settings_of}, State.{HasLog}}, proofs.Answering.{answered-unchanged}}

-- room for as many endpoints as the settings allow is enough for a table that represents some log by them
pub table_room : (terms : TableSettings) (table : TableValue) (room : ℕ) → ∥ HasLog terms table ∥₁ → terms.limits.endpoints ≤ room → table.limits.endpoints ≤ room
table_room terms table room has_log enough =
    ∥∥₁_elim has_log le_prop (λ found. subst (λ (limits : Limits). limits.endpoints ≤ room) (sym found.1.limits) enough)

-- copies go to the targets
receivers-copies : (targets : List EndpointValue) (packet : List ℕ) → receivers (copies targets packet) ≡ targets
receivers-copies [] packet = refl
receivers-copies (endpoint ∷ later) packet = ap (λ (rest : List EndpointValue). endpoint ∷ rest) (receivers-copies later packet)

data_is_canonical : (packet : List ℕ) → IsCanonical (Multicast packet) (spelling_of (Multicast packet))
data_is_canonical packet = record {
  spelled = record { kind = record { octets = omega arith; first = refl }; packet_field = refl };
  reserved = refl;
  address_form = tt;
}

copy_to : List ℕ → EndpointValue → OneSend
copy_to packet endpoint = record { to = endpoint; bytes = spelling_of (Multicast packet) }

-- copies to the targets are copies to those that want the packet
copies-are : (targets : List EndpointValue) (packet : List ℕ) (wants : EndpointValue → Bool) → ((endpoint : EndpointValue) → Contains targets endpoint ↔ (wants endpoint ≡ true))
    → IsAscending endpoint_order targets → AreCopies wants packet (copies targets packet)
unfolding copy_to
copies-are targets packet wants exactly ascends =
    let same = sym (receivers-copies targets packet) in record {
      exactly = λ endpoint. subst (λ (to : List EndpointValue). Contains to endpoint ↔ (wants endpoint ≡ true)) same (exactly endpoint);
      once = subst (IsAscending endpoint_order) same ascends;
      octets = All-map (λ (send : OneSend). IsCanonical (Multicast packet) send.bytes) (copy_to packet) targets (λ k d small. data_is_canonical packet);
    }

-- copies of a packet are short where its message is
pub copies_are_short : (sends : List OneSend) (targets : List EndpointValue) (carried packet octets : List ℕ) → sends ≡ copies targets packet → carried ≡ packet
    → octets ≡ spelling_of (Multicast carried) → length octets ≤ 65535 → AreShort sends
unfolding copy_to
copies_are_short sends targets carried packet octets are same spelled most =
    let short : length (spelling_of (Multicast packet)) ≤ 65535 = subst (λ (one : List ℕ). length one ≤ 65535) (spelled ∙ ap (λ (one : List ℕ). spelling_of (Multicast one)) same) most in
    subst AreShort (sym are) (All-map (λ (send : OneSend). length send.bytes ≤ 65535) (copy_to packet) targets (λ k d small. short))

-- a packet that is copied, where the table stays
pub answered-copied : (terms : TableSettings) (table : TableValue) (log : List Change) (targets : Head → List EndpointValue) (packet : List ℕ) (read : Result Head Outcome) (head : Head) (found : List EndpointValue) (step : Step)
    → Holds terms table log → Ok head ≡ read → found ≡ targets head → step.outcome ≡ Copied (length found) → step.sends ≡ copies found packet → step.change ≡ None
    → IsAnswered terms table table log (packet_answer targets packet read) step
answered-copied terms table log targets packet read head found step holds is same outcome sends unchanged =
    subst (λ (r : Result Head Outcome). IsAnswered terms table table log (packet_answer targets packet r) step) is
    (answered-unchanged terms table table log (packet_answer targets packet (Ok head)) step holds refl refl (outcome ∙ ap (λ (all : List EndpointValue). Copied (length all)) same)
    (sends ∙ ap (λ (all : List EndpointValue). copies all packet) same) unchanged)

-- one that isn't
pub answered-not_copied : (terms : TableSettings) (table : TableValue) (log : List Change) (targets : Head → List EndpointValue) (packet : List ℕ) (read : Result Head Outcome) (outcome : Outcome) (step : Step)
    → Holds terms table log → Err outcome ≡ read → step.outcome ≡ outcome → step.sends ≡ [] → step.change ≡ None
    → IsAnswered terms table table log (packet_answer targets packet read) step
answered-not_copied terms table log targets packet read outcome step holds is came sends unchanged =
    subst (λ (r : Result Head Outcome). IsAnswered terms table table log (packet_answer targets packet r) step) is
    (answered-unchanged terms table table log (quiet outcome) step holds refl refl came sends unchanged)

-- a packet to copy is copied
head_to_copy-ok : (limit : ℕ) (head : Head) (packet : List ℕ) → IsToCopy limit head packet → head_to_copy limit packet ≡ Ok head
head_to_copy-ok limit head packet to_copy =
    let short : nat_lt limit (length packet) ≡ false = le-ltb limit (length packet) to_copy.size in
    let found = answer_only (head_of packet) packet refl head to_copy.begins in
    rw (short, found, to_copy.scope) refl

pub length-copies : (targets : List EndpointValue) (packet : List ℕ) → length (copies targets packet) ≡ length targets
length-copies [] packet = refl
length-copies (endpoint ∷ later) packet = ap (λ (n : ℕ). suc n) (length-copies later packet)

-- by what is answered to a packet: the copies of it
pub AreCopies-answered : (settings : Settings) (first : Secret) (events : List Event) (packet : List ℕ) (head : Head) (step : Step)
    → step.outcome ≡ outcome_of settings first events (Packet packet) → step.sends ≡ sends_of settings first events (Packet packet) → IsToCopy settings.packet_limit head packet
    → AreCopies (wants_after settings first events head) packet step.sends × (step.outcome ≡ Copied (length step.sends))
AreCopies-answered settings first events packet head step outcome sends to_copy =
    let lifetime = membership_interval_ms settings in
    let log = accepted_log settings first events in
    let targets = targets_at (table_settings_of settings) log (now_of events) in
    let answer : Result Head Outcome → EventAnswer = packet_answer targets packet in
    let found = head_to_copy-ok settings.packet_limit head packet to_copy in
    let sent : step.sends ≡ copies (targets head) packet = sends ∙ ap (λ (read : Result Head Outcome). (answer read).sends) found in
    let came : step.outcome ≡ Copied (length (targets head)) = outcome ∙ ap (λ (read : Result Head Outcome). (answer read).outcome) found in (
      subst (AreCopies (wants_after settings first events head) packet) (sym sent)
          (copies-are (targets head) packet (wants_after settings first events head) (targets_want lifetime log head.group head.source (now_of events))
          (IsAscending-targets_of lifetime log head.group head.source (now_of events))),
      came ∙ ap (λ (n : ℕ). Copied n) (sym (ap (λ (all : List OneSend). length all) sent ∙ length-copies (targets head) packet)),
    )
