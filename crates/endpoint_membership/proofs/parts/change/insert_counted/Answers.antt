use Rattle.std.proofs.Common.{Some}
use Rattle.endpoint_membership.{specs.Filters.{stored_membership}, proofs.SetAt.{put_and_taken}}
use Rattle.endpoint_membership.proofs.parts.change.insert_counted.Goals as goal

pub returns-in_default-clause-err_filters : goal.returns-in_default-clause-err_filters
returns-in_default-clause-err_filters c =
    put_and_taken c.args.filters.now c.insert.new.self c.remove.new.self c.args.at (Some (stored_membership (c.args.at, c.args.stored))) c.requires.absent c.in_ok-insert.ensures.set c.remove.ensures.set
