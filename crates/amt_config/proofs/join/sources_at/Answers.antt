use Rattle.std.proofs.Common.{Some}
use Rattle.script_lines.specs.Form.{an_address_of}
use Rattle.toml.specs.{Data.{as_str}, View.{items_view, table_view}}
use Rattle.amt_config.{specs.{Arrays.{those_in}, Join.{AreListed}}, proofs.JoinLaws.{bad_sources, right_sources}}
use Rattle.amt_config.proofs.join.sources_at.Goals as goal

pub returns-in-Err-clause-fault : goal.returns-in-Err-clause-fault
returns-in-Err-clause-fault c = c.in-Err.ensures.fault (an_address_of (Some c.args.family))

pub returns-in-Ok-read_sources : goal.returns-in-Ok-read_sources
returns-in-Ok-read_sources c =
    let found : AreListed (Some c.args.family) (table_view c.args.table.now) c.in-Ok-read_sources.sources =
    record { texts = those_in as_str (items_view c.in-Ok.items.now); there = c.in-Ok.ensures.found; addresses = c.in-Ok-read_sources.ensures.found } in
    record { found = found; right = right_sources (Some c.args.family) (table_view c.args.table.now) c.in-Ok-read_sources.sources found; fault = tt }

pub returns-in-Err-read_sources-clause-fault : goal.returns-in-Err-read_sources-clause-fault
returns-in-Err-read_sources-clause-fault c =
    bad_sources (Some c.args.family) (table_view c.args.table.now) (those_in as_str (items_view c.in-Ok.items.now)) c.in-Err-read_sources.fault c.in-Ok.ensures.found
    c.in-Err-read_sources.ensures.fault
