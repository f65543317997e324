use Rattle.std.proofs.Common.{◌≡◌, refl, sym, subst, rules}
use Rattle.amt_values.{specs.Text.{ip_text, peer_text, IsPeerText}, proofs.PrintedTexts.{printed_peer}}
use Rattle.amt_values.proofs.text.print_peer.Goals as goal

pub returns-in_err-write-clause-rule : goal.returns-in_err-write-clause-rule
returns-in_err-write-clause-rule c = printed_peer c.args.peer.now

pub returns-clause-rule : goal.returns-clause-rule
returns-clause-rule c = printed_peer c.args.peer.now

pub returns-clause-back : goal.returns-clause-back
returns-clause-back c =
    let peer = c.args.peer.now in
    let names : IsPeerText peer (peer_text peer) = record { address = ip_text peer.ip; names = c.ip_text_names.ensures; port = search rules; spelled = refl } in
    let whole : c.write.new.self ≡ peer_text peer = search rules in subst (IsPeerText peer) (sym whole) names
