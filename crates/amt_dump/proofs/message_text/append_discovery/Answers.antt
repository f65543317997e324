use Rattle.std.proofs.{Common.{codes}, lemmas.Result.{on_ok_weaker}}
use Rattle.script_lines.specs.Texts.{nonce_text}
use Rattle.amt_dump.proofs.Joining.{joined}
use Rattle.amt_dump.proofs.message_text.append_discovery.Goals as goal

pub returns : goal.returns
returns c =
    on_ok_weaker c.append_nonce.result
    (λ same. joined c.args.text.now c.append.new.self c.append_nonce.new.text (codes "discovery nonce=") (nonce_text c.args.nonce) c.in_ok-append.ensures.ok same)
    c.append_nonce.ensures
