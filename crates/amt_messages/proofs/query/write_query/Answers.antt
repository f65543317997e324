use Rattle.std.proofs.Common.{rules}
use Rattle.amt_messages.proofs.Written.{written_query}
use Rattle.amt_messages.proofs.query.write_query.Goals as goal

pub returns-clause-canonical : goal.returns-clause-canonical
returns-clause-canonical c =
    written_query c.args.limited c.args.mac.now c.args.nonce c.args.inner.now c.args.seen.now c.append_named_gateway.new.bytes
    c.in_ok-bytes.ensures.mac (search rules) c.in_ok-append_named_gateway.ensures.form c.requires (search rules)
