use Rattle.std.proofs.{Common.{◌≡◌, ◌++◌, codes, decimal, length}, lemmas.Result.{on_ok_weaker}}
use Rattle.amt_dump.{specs.Texts.{packet_words}, proofs.Joining.{joined_three}}
use Rattle.amt_dump.proofs.message_text.append_data.Goals as goal

pub returns : goal.returns
returns c =
    let packet = c.args.packet.now in
    let counted : c.append_numeral.new.text ≡ c.append.new.self ++ decimal (length packet) = rw c.len.ensures at c.in_ok-append_numeral.ensures.ok in
    let ended = rw c.as_slice.ensures at c.append_head.ensures in
    on_ok_weaker c.append_head.result
    (λ same. joined_three c.args.text.now c.append.new.self c.append_numeral.new.text c.append_head.new.text (codes "data length=") (decimal (length packet)) (packet_words packet)
    c.in_ok-append.ensures.ok counted same)
    ended
