-- What an entry of the accepted log is to one family of a dual gateway.
use Rattle.std.specs.{Prelude.{Bool, true, false, List}, List.{list_any}}
use Rattle.amt_values.specs.declared.address.Ip.{Ip}
use Rattle.endpoint_membership.specs.declared.change.Change.{Change, TheVariants.{Clear, Mark, Reported}}
use Rattle.group_records.specs.Written.{is_of_family}
use Rattle.socket_merge.specs.FullReport.{family_by}
use Rattle.source_filter.specs.declared.record.Record.{Record}

-- the group is of the family
abbrev pub is_group_of : Bool → Ip → Bool
is_group_of v6 group = is_of_family (family_by v6) group

-- a record is on a group of the family
abbrev pub names_family : Bool → List Record → Bool
names_family v6 records = list_any (λ group_record. is_group_of v6 group_record.group) records

-- the entry says something of the family's groups: a report with a record on one, or a clearing, which leaves all
abbrev pub concerns_family : Bool → Change → Bool
concerns_family v6 (Reported endpoint records at) = names_family v6 records
concerns_family v6 (Clear endpoint at) = true
concerns_family v6 (Mark at) = false
