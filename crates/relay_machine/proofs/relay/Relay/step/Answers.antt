use Rattle.std.proofs.{Common.{◌≡◌, ◌≤◌, ℕ, max, ◌++◌, ◌∷◌, [], Option, refl, sym, subst, ap, ◌∙◌}, Math.Logic.{∥∥₁_map}, lemmas.Result.{IfOk-weaker}}
use Rattle.amt_values.specs.Octets.{AreOctets}
use Rattle.endpoint_membership.specs.{Limits.{AreWithin}, Table.{Holds, IsWithinLimits, TableValue}, Targets.{TargetsValue}, declared.{change.Change.{Change}, limits.Limits.{Limits}}}
use Rattle.relay_machine.specs.{declared.{event.Event.{Event, TheVariants.{Datagram, Packet, Limits as Lowered}}, settings.Settings.{Settings}}, Accepted.{accepted_log, with_change}, Answers.{settings_of}, EventSize.{IsEvent}, Packets.{IsToCopy}, Settings.{table_settings_of}}
use Rattle.relay_machine.proofs.{Acceptance.{torn-answered, torn_only-answered, updated-answered, updated_only-answered}, Copies.{AreCopies-answered}, Onward.{HasLog-answered, IsWithin-events, AreWithin-table, Holds-in_force, RelayAt-limits, RelayAt-moment, RelayAt-payload, RelayAt-rotate, StandsFor-accepted, answered-after, same_relay}}
use Rattle.relay_machine.proofs.relay.Relay.step.Goals as goal

pub invariant_of-self : goal.invariant_of-self
invariant_of-self c = record {
  within = c.advance.ensures.within c.args.self.now.within;
  has_log = ∥∥₁_map c.args.self.now.has_log (λ found. (_, c.advance.ensures.stands _ found.0 found.1));
  has_room = c.args.self.now.has_room;
  no_targets = c.args.self.now.no_targets;
}

pub invariant_of-self-in-Datagram : goal.invariant_of-self-in-Datagram
invariant_of-self-in-Datagram c = record {
  within = c.take_datagram.ensures.within;
  has_log = HasLog-answered _ _ _ _ c.take_datagram.result c.args.self.now.has_log c.take_datagram.ensures.answers c.take_datagram.ensures.err;
  has_room = c.args.self.now.has_room;
  no_targets = c.args.self.now.no_targets;
}

pub invariant_of-self-in-Packet : goal.invariant_of-self-in-Packet
invariant_of-self-in-Packet c = record {
  within = c.args.self.now.within;
  has_log = c.args.self.now.has_log;
  has_room = subst (λ (targets : TargetsValue). (settings_of c.args.self.now).limits.endpoints ≤ targets.room) (sym c.take_packet.ensures.same) c.args.self.now.has_room;
  no_targets = ap (λ (targets : TargetsValue). targets.endpoints) c.take_packet.ensures.same ∙ c.args.self.now.no_targets;
}

pub returns-in-Moment-clause-next : goal.returns-in-Moment-clause-next
returns-in-Moment-clause-next c settings first events at =
    rw c.in-Moment.is (RelayAt-moment _ _ settings first events _ _ at refl refl
    (c.later-at.ensures ∙ ap (λ (moment : ℕ). max moment c.in-Moment.moment) c.now.ensures.value) c.advance.ensures.force c.advance.ensures.stands)

pub returns-in-Moment-clause-within : goal.returns-in-Moment-clause-within
returns-in-Moment-clause-within c settings first events at =
    IsWithin-events _ settings first (events ++ c.args.event.now ∷ []) (returns-in-Moment-clause-next c settings first events at)

pub returns-in-Moment-clause-published : goal.returns-in-Moment-clause-published
returns-in-Moment-clause-published c log holds =
    subst (λ (change : Option Change). Holds (table_settings_of (settings_of c.args.self.now)) c.advance.new.self (with_change log change)) (sym c.entered.ensures.change)
    (c.advance.ensures.stands (table_settings_of (settings_of c.args.self.now)) log holds)

-- what is answered to the datagram by the events before it
pub returns-in-Datagram-clause-outcome : goal.returns-in-Datagram-clause-outcome
returns-in-Datagram-clause-outcome c settings first events at =
    rw c.in-Datagram.is (IfOk-weaker c.take_datagram.result _ _ (λ step is. is.outcome)
    (answered-after c.args.self.now _ settings first events (Datagram c.in-Datagram.bytes c.in-Datagram.from) c.take_datagram.result at c.take_datagram.ensures.answers))

pub returns-in-Datagram-clause-sends : goal.returns-in-Datagram-clause-sends
returns-in-Datagram-clause-sends c settings first events at =
    rw c.in-Datagram.is (IfOk-weaker c.take_datagram.result _ _ (λ step is. is.sends)
    (answered-after c.args.self.now _ settings first events (Datagram c.in-Datagram.bytes c.in-Datagram.from) c.take_datagram.result at c.take_datagram.ensures.answers))

pub returns-in-Datagram-clause-change : goal.returns-in-Datagram-clause-change
returns-in-Datagram-clause-change c settings first events at =
    rw c.in-Datagram.is (IfOk-weaker c.take_datagram.result _ _ (λ step is. is.change)
    (answered-after c.args.self.now _ settings first events (Datagram c.in-Datagram.bytes c.in-Datagram.from) c.take_datagram.result at c.take_datagram.ensures.answers))

pub returns-in-Datagram-clause-next : goal.returns-in-Datagram-clause-next
returns-in-Datagram-clause-next c settings first events at =
    rw c.in-Datagram.is (IfOk-weaker c.take_datagram.result _ _
    (λ step is. RelayAt-payload c.args.self.now _ settings first events (Datagram c.in-Datagram.bytes c.in-Datagram.from) at tt refl refl is.force is.stands)
    (answered-after c.args.self.now _ settings first events (Datagram c.in-Datagram.bytes c.in-Datagram.from) c.take_datagram.result at c.take_datagram.ensures.answers))

pub returns-in-Datagram-clause-within : goal.returns-in-Datagram-clause-within
returns-in-Datagram-clause-within c settings first events at =
    IfOk-weaker c.take_datagram.result _ _
    (λ _ next. IsWithin-events _ settings first (events ++ c.args.event.now ∷ []) next)
    (returns-in-Datagram-clause-next c settings first events at)

pub returns-in-Datagram-clause-published : goal.returns-in-Datagram-clause-published
returns-in-Datagram-clause-published c log holds =
    IfOk-weaker c.take_datagram.result _ _ (λ step is. is.published) (c.take_datagram.ensures.answers log holds)

pub returns-in-Datagram-clause-same : goal.returns-in-Datagram-clause-same
returns-in-Datagram-clause-same c settings first events at payload =
    IfOk-weaker c.take_datagram.result _ _ (λ step is none. same_relay c.args.self.now _ _ _ _ _ _ (is.same none) refl)
    (c.take_datagram.ensures.answers (accepted_log settings first events) (StandsFor-accepted c.args.self.now settings first events at))

pub returns-in-Datagram-clause-updated : goal.returns-in-Datagram-clause-updated
returns-in-Datagram-clause-updated c settings first events at endpoint records =
    updated-answered settings first events c.args.event.now endpoint records c.take_datagram.result (returns-in-Datagram-clause-outcome c settings first events at)
    (returns-in-Datagram-clause-change c settings first events at)

pub returns-in-Datagram-clause-updated_only : goal.returns-in-Datagram-clause-updated_only
returns-in-Datagram-clause-updated_only c settings first events at =
    updated_only-answered settings first events c.args.event.now c.take_datagram.result
    (λ from bytes same. let is : bytes ≡ c.in-Datagram.bytes = cc in subst AreOctets (sym is) c.take_datagram.ensures.octets) (returns-in-Datagram-clause-outcome c settings first events at)

pub returns-in-Datagram-clause-torn : goal.returns-in-Datagram-clause-torn
returns-in-Datagram-clause-torn c settings first events at named =
    torn-answered settings first events c.args.event.now named c.take_datagram.result (returns-in-Datagram-clause-outcome c settings first events at)
    (returns-in-Datagram-clause-change c settings first events at)

pub returns-in-Datagram-clause-torn_only : goal.returns-in-Datagram-clause-torn_only
returns-in-Datagram-clause-torn_only c settings first events at =
    torn_only-answered settings first events c.args.event.now c.take_datagram.result (returns-in-Datagram-clause-outcome c settings first events at)

pub returns-in-Packet-clause-outcome : goal.returns-in-Packet-clause-outcome
returns-in-Packet-clause-outcome c settings first events at =
    rw c.in-Packet.is (IfOk-weaker c.take_packet.result _ _ (λ step is. is.outcome)
    (answered-after c.args.self.now _ settings first events (Packet c.in-Packet.bytes) c.take_packet.result at c.take_packet.ensures.answers))

pub returns-in-Packet-clause-sends : goal.returns-in-Packet-clause-sends
returns-in-Packet-clause-sends c settings first events at =
    rw c.in-Packet.is (IfOk-weaker c.take_packet.result _ _ (λ step is. is.sends)
    (answered-after c.args.self.now _ settings first events (Packet c.in-Packet.bytes) c.take_packet.result at c.take_packet.ensures.answers))

pub returns-in-Packet-clause-change : goal.returns-in-Packet-clause-change
returns-in-Packet-clause-change c settings first events at =
    rw c.in-Packet.is (IfOk-weaker c.take_packet.result _ _ (λ step is. is.change)
    (answered-after c.args.self.now _ settings first events (Packet c.in-Packet.bytes) c.take_packet.result at c.take_packet.ensures.answers))

pub returns-in-Packet-clause-next : goal.returns-in-Packet-clause-next
returns-in-Packet-clause-next c settings first events at =
    rw c.in-Packet.is (IfOk-weaker c.take_packet.result _ _
    (λ step is. RelayAt-payload c.args.self.now _ settings first events (Packet c.in-Packet.bytes) at tt refl refl is.force is.stands)
    (answered-after c.args.self.now _ settings first events (Packet c.in-Packet.bytes) c.take_packet.result at c.take_packet.ensures.answers))

pub returns-in-Packet-clause-within : goal.returns-in-Packet-clause-within
returns-in-Packet-clause-within c settings first events at =
    IfOk-weaker c.take_packet.result _ _
    (λ step next. IsWithin-events _ settings first (events ++ c.args.event.now ∷ []) next)
    (returns-in-Packet-clause-next c settings first events at)

pub returns-in-Packet-clause-published : goal.returns-in-Packet-clause-published
returns-in-Packet-clause-published c log holds =
    IfOk-weaker c.take_packet.result _ _ (λ step is. is.published) (c.take_packet.ensures.answers log holds)

pub returns-in-Packet-clause-same : goal.returns-in-Packet-clause-same
returns-in-Packet-clause-same c settings first events at payload =
    IfOk-weaker c.take_packet.result _ _ (λ step is none. same_relay c.args.self.now _ _ _ _ _ _ refl c.take_packet.ensures.same)
    (c.take_packet.ensures.answers (accepted_log settings first events) (StandsFor-accepted c.args.self.now settings first events at))

pub returns-in-Packet-clause-copies : goal.returns-in-Packet-clause-copies
returns-in-Packet-clause-copies c settings first events at packet head is to_copy =
    let same : packet ≡ c.in-Packet.bytes = cc in
    rw same (IfOk-weaker c.take_packet.result _ _
    (λ step answered. AreCopies-answered settings first events c.in-Packet.bytes head step answered.outcome answered.sends (subst (IsToCopy settings.packet_limit head) same to_copy))
    (answered-after c.args.self.now _ settings first events (Packet c.in-Packet.bytes) c.take_packet.result at c.take_packet.ensures.answers))

pub returns-in-Packet-clause-updated_only : goal.returns-in-Packet-clause-updated_only
returns-in-Packet-clause-updated_only c settings first events at =
    updated_only-answered settings first events c.args.event.now c.take_packet.result (λ from bytes same. absurd cc) (returns-in-Packet-clause-outcome c settings first events at)

pub returns-in-Packet-clause-torn_only : goal.returns-in-Packet-clause-torn_only
returns-in-Packet-clause-torn_only c settings first events at =
    torn_only-answered settings first events c.args.event.now c.take_packet.result (returns-in-Packet-clause-outcome c settings first events at)

pub returns-in-Rotate-clause-next : goal.returns-in-Rotate-clause-next
returns-in-Rotate-clause-next c settings first events at =
    rw c.in-Rotate.is (RelayAt-rotate _ _ settings first events _ at refl refl c.rotate.ensures.appended)

pub returns-in-Rotate-clause-within : goal.returns-in-Rotate-clause-within
returns-in-Rotate-clause-within c settings first events at =
    IsWithin-events _ settings first (events ++ c.args.event.now ∷ []) (returns-in-Rotate-clause-next c settings first events at)

allowed : (settings : Settings) (event : Event) (limits : Limits) → event ≡ Lowered limits → IsEvent settings event → AreWithin settings.limits limits
allowed settings event limits is takes = subst (λ (one : Event). IsEvent settings one) is takes

pub set_limits-requires : goal.set_limits-requires
set_limits-requires c = AreWithin-table c.args.self.now c.in-Limits.limits (allowed (settings_of c.args.self.now) c.args.event.now c.in-Limits.limits c.in-Limits.is c.requires)

pub invariant_of-self-in-Limits : goal.invariant_of-self-in-Limits
invariant_of-self-in-Limits c = record {
  within = subst (λ (table : TableValue). IsWithinLimits table) (sym c.set_limits.ensures) c.args.self.now.within;
  has_log = ∥∥₁_map c.args.self.now.has_log (λ found. (found.0, Holds-in_force _ _ _ _ found.0 c.set_limits.ensures found.1));
  has_room = c.args.self.now.has_room;
  no_targets = c.args.self.now.no_targets;
}

pub returns-in-Limits-clause-next : goal.returns-in-Limits-clause-next
returns-in-Limits-clause-next c settings first events at =
    rw c.in-Limits.is (RelayAt-limits _ _ settings first events _ at (allowed (settings_of c.args.self.now) c.args.event.now c.in-Limits.limits c.in-Limits.is c.requires) refl refl c.set_limits.ensures)

pub returns-in-Limits-clause-within : goal.returns-in-Limits-clause-within
returns-in-Limits-clause-within c settings first events at =
    IsWithin-events _ settings first (events ++ c.args.event.now ∷ []) (returns-in-Limits-clause-next c settings first events at)

pub returns-in-Limits-clause-published : goal.returns-in-Limits-clause-published
returns-in-Limits-clause-published c log holds =
    let terms = table_settings_of (settings_of c.args.self.now) in
    subst (λ (change : Option Change). Holds terms c.set_limits.new.self (with_change log change)) (sym c.quiet-in-Limits.ensures.change)
    (Holds-in_force terms _ _ _ log c.set_limits.ensures holds)
