use Rattle.script_lines.specs.{Form.{a_secret}, Lines.{fields}}
use Rattle.amt_script.specs.declared.kind.Kind.TheVariants as kinds
use Rattle.pair_script.proofs.{Orders.{one_judged, relay_secret}, SharedLines.{is_shared}}
use Rattle.pair_script.proofs.item_line.read_secret_line.Goals as goal

pub shared_item-requires : goal.shared_item-requires
shared_item-requires c = is_shared c.in-Ok.item kinds.Secret (fields c.args.values.now) (λ same. cc same) (λ same. cc same) c.in-Ok.ensures.found

pub returns-in-Err-clause-reason : goal.returns-in-Err-clause-reason
returns-in-Err-clause-reason c = one_judged a_secret (fields c.args.values.now) c.in-Err.reason relay_secret c.in-Err.ensures.reason
