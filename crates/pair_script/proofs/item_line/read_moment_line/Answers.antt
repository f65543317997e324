use Rattle.script_lines.specs.{Form.{a_moment}, Lines.{fields}}
use Rattle.amt_script.specs.declared.kind.Kind.TheVariants as kinds
use Rattle.pair_script.proofs.{Orders.{one_judged, relay_moment}, SharedLines.{is_shared}}
use Rattle.pair_script.proofs.item_line.read_moment_line.Goals as goal

pub shared_item-requires : goal.shared_item-requires
shared_item-requires c = is_shared c.in-Ok.item kinds.Moment (fields c.args.values.now) (λ same. cc same) (λ same. cc same) c.in-Ok.ensures.found

pub returns-in-Err-clause-reason : goal.returns-in-Err-clause-reason
returns-in-Err-clause-reason c = one_judged a_moment (fields c.args.values.now) c.in-Err.reason relay_moment c.in-Err.ensures.reason
