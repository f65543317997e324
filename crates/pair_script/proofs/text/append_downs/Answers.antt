use Rattle.std.proofs.Common.{◌≡◌, ◌+◌, ◌++◌, List, ℕ, take, get_or, codes, ap, sym, ◌∙◌, append_assoc, rules}
use Rattle.amt_values.specs.Endpoint.{peer_of}
use Rattle.pair_script.{specs.Texts.{datagram_line, down_line, sends_text}, proofs.Texts.{sends_more}}
use Rattle.pair_script.proofs.text.append_downs.Goals as goal

pub loop-index-preserved : goal.loop-index-preserved
loop-index-preserved c =
    let start = c.args.text.now in
    let sends = c.args.sends.now in
    let i = c.loop-index.index in
    let d = c.index-sends-index.result in
    let before = sends_text down_line c.args.sent (take i sends) in
    let send = get_or sends i d in
    let line = datagram_line (codes "down") (c.args.sent + i + 1) (peer_of send.to) send.bytes in
    let written : c.append_datagram.new.text ≡ c.loop-index.text ++ line = search rules in
    written ∙ (ap (λ (text : List ℕ). text ++ line) c.loop-index.invariant
    ∙ (append_assoc start before line ∙ ap (λ (text : List ℕ). start ++ text) (sym (sends_more down_line c.args.sent sends i d c.loop-index-test.true))))
