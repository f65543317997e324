use Rattle.std.proofs.{Common.{codes, decimal, length}, lemmas.Result.{on_ok_weaker}}
use Rattle.amt_dump.{specs.Texts.{mac_words}, proofs.Joining.{joined_four}}
use Rattle.amt_dump.proofs.message_text.append_update.Goals as goal

pub returns : goal.returns
returns c =
    let inner = c.args.inner.now in
    let ended = rw c.len.ensures at c.append_numeral.ensures.ok in
    on_ok_weaker c.append_numeral.result
    (λ same. joined_four c.args.text.now c.append.new.self c.append_mac.new.text c.append-2.new.self c.append_numeral.new.text (codes "update") (mac_words c.args.mac.now c.args.nonce)
    (codes " inner=") (decimal (length inner)) c.in_ok-append.ensures.ok c.in_ok-append_mac.ensures c.in_ok-append-2.ensures.ok same)
    ended
