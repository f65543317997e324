use Rattle.std.proofs.Common.{◌≡◌, ◌≤◌, ℕ, List, length, Ok, Err, refl, ap, ◌∙◌, arith}
use Rattle.amt_values.specs.EndpointValue.{EndpointValue}
use Rattle.endpoint_membership.specs.Log.{latest}
use Rattle.relay_machine.{specs.{declared.{outcome.Outcome.TheVariants.{Copied}, sends.OneSend.{OneSend}}, Packets.{copies, head_to_copy, targets_at}, Settings.{table_settings_of}}, proofs.Copies.{answered-copied, answered-not_copied, length-copies, table_room}}
use Rattle.relay_machine.proofs.packet.take_packet.Goals as goal

pub copies_for-requires-clause-room : goal.copies_for-requires-clause-room
copies_for-requires-clause-room c = table_room _ _ _ c.requires.has_log c.requires.room

pub returns-in-Err-clause-answers : goal.returns-in-Err-clause-answers
returns-in-Err-clause-answers c log holds =
    let settings = c.args.setup.now.settings in
    let read : Err c.in-Err.outcome ≡ head_to_copy settings.packet_limit c.args.packet.now = c.in-Err.ensures ∙ ap (head_to_copy settings.packet_limit) c.as_slice-packet.ensures in
    answered-not_copied (table_settings_of settings) _ log (targets_at (table_settings_of settings) log (latest log)) c.args.packet.now _ c.in-Err.outcome _ holds read
    c.quiet.ensures.outcome c.quiet.ensures.sends c.quiet.ensures.change

pub returns-clause-answers : goal.returns-clause-answers
returns-clause-answers c log holds =
    let settings = c.args.setup.now.settings in
    let terms = table_settings_of settings in
    let head = c.in-Ok.head in
    let found : List EndpointValue = targets_at terms log (latest log) head in
    let read : Ok head ≡ head_to_copy settings.packet_limit c.args.packet.now = c.in-Ok.ensures ∙ ap (head_to_copy settings.packet_limit) c.as_slice-packet.ensures in
    let sent = c.in_ok-sends.ensures.copies terms log holds ∙ ap (λ (packet : List ℕ). copies found packet) c.as_slice-packet.ensures in
    let counted = c.len-copied.ensures ∙ (ap (λ (all : List OneSend). length all) sent ∙ length-copies found c.args.packet.now) in
    answered-copied terms _ log (targets_at terms log (latest log)) c.args.packet.now _ head found _ holds read refl (ap (λ (n : ℕ). Copied n) counted) sent refl

pub overflow_cast-copied : goal.overflow_cast-copied
overflow_cast-copied c =
    let most : c.args.table.now.limits.endpoints ≤ 65536 = table_room _ _ _ c.requires.has_log c.args.setup.now.endpoints_fit in
    omega (arith, most, c.in_ok-sends.ensures.few, c.len-copied.ensures)
