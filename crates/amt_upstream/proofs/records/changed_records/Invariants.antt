use Rattle.std.{proofs.Common.{◌≡◌, List, take}, specs.List.{flat_map}}
use Rattle.endpoint_membership.specs.Membership.{Membership}
use Rattle.amt_upstream.specs.{Looking.{IsAfter}, Upstream.{records_on}}
use Rattle.amt_upstream.proofs.records.changed_records.Given as goal

abbrev pub invariant-loop-side : goal.invariant-loop-side
invariant-loop-side l =
    (after : List Membership) → IsAfter l.table.rows l.changes l.tally.numbers after
    → l.records ≡ flat_map (λ side. records_on l.table.rows after side.group) (take l.side-index l.sides)
