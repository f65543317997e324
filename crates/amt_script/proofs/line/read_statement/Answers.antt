use Rattle.std.proofs.Common.{◌≡◌, ◌∷◌, ◌++◌, rules}
use Rattle.script_lines.specs.Lines.{fields}
use Rattle.amt_script.specs.declared.kind.Kind.TheVariants as kinds
use Rattle.amt_script.{specs.Row.{words_of}, proofs.{Judging.{setting_judged}, OtherLines.{item_found, read_found}}}
use Rattle.amt_script.proofs.line.read_statement.Goals as goal

pub returns-in-Err-clause-reason : goal.returns-in-Err-clause-reason
returns-in-Err-clause-reason c = λ allowed.
    let key = c.in-Ok-Set-default.key in
    let values = fields c.in-Ok-Set-default.values.now in
    let line = c.args.word.now ∷ fields c.args.rest.now in
    let parts : line ≡ words_of (kinds.Set key) ++ values = search rules in
    setting_judged c.args.given.now c.args.items.now line key values c.in-Err.reason parts c.in-Err.ensures.reason

pub returns-in-Ok-Moment-default-clause-found : goal.returns-in-Ok-Moment-default-clause-found
returns-in-Ok-Moment-default-clause-found c = λ allowed.
    let values = fields c.in-Ok-Moment-default.values.now in
    let line = c.args.word.now ∷ fields c.args.rest.now in
    let parts : line ≡ words_of kinds.Moment ++ values = search rules in
    read_found c.args.given.now c.args.items.now c.read_moment_item.result c.item_of.result kinds.Moment values line (λ same. cc same) parts c.read_moment_item.ensures.found c.item_of.ensures

pub returns-in-Ok-Secret-default-clause-found : goal.returns-in-Ok-Secret-default-clause-found
returns-in-Ok-Secret-default-clause-found c = λ allowed.
    let values = fields c.in-Ok-Secret-default.values.now in
    let line = c.args.word.now ∷ fields c.args.rest.now in
    let parts : line ≡ words_of kinds.Secret ++ values = search rules in
    read_found c.args.given.now c.args.items.now c.read_rotation.result c.item_of-in-Ok-Secret-default.result kinds.Secret values line (λ same. cc same) parts c.read_rotation.ensures.found c.item_of-in-Ok-Secret-default.ensures

pub returns-in-Ok-Show-default-clause-found : goal.returns-in-Ok-Show-default-clause-found
returns-in-Ok-Show-default-clause-found c = λ allowed.
    let values = fields c.in-Ok-Show-default.values.now in
    let line = c.args.word.now ∷ fields c.args.rest.now in
    let parts : line ≡ words_of kinds.Show ++ values = search rules in
    read_found c.args.given.now c.args.items.now c.read_show.result c.item_of-in-Ok-Show-default.result kinds.Show values line (λ same. cc same) parts c.read_show.ensures.found c.item_of-in-Ok-Show-default.ensures

pub returns-in_ok-read_datagram-in-Ok-Datagram-default-clause-found : goal.returns-in_ok-read_datagram-in-Ok-Datagram-default-clause-found
returns-in_ok-read_datagram-in-Ok-Datagram-default-clause-found c = λ allowed.
    let values = fields c.in-Ok-Datagram-default.values.now in
    let line = c.args.word.now ∷ fields c.args.rest.now in
    let parts : line ≡ words_of kinds.Datagram ++ values = search rules in
    item_found c.args.given.now c.args.items.now c.in_ok-read_datagram-in-Ok-Datagram-default.field-0 kinds.Datagram values line (λ same. cc same) parts c.in_ok-read_datagram-in-Ok-Datagram-default.ensures.found

pub returns-in_ok-read_packet-in-Ok-Packet-default-clause-found : goal.returns-in_ok-read_packet-in-Ok-Packet-default-clause-found
returns-in_ok-read_packet-in-Ok-Packet-default-clause-found c = λ allowed.
    let values = fields c.in-Ok-Packet-default.values.now in
    let line = c.args.word.now ∷ fields c.args.rest.now in
    let parts : line ≡ words_of kinds.Packet ++ values = search rules in
    item_found c.args.given.now c.args.items.now c.in_ok-read_packet-in-Ok-Packet-default.field-0 kinds.Packet values line (λ same. cc same) parts c.in_ok-read_packet-in-Ok-Packet-default.ensures.found
