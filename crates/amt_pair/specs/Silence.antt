-- When nothing is wanted of a group any more, by what was sent of it and by what was accepted.
use Rattle.std.specs.Prelude.{◌≡◌, ℕ, ◌+◌, ◌<◌, true, List, [], ◌∷◌, ◌++◌, All, Some}
use Rattle.amt_values.specs.declared.address.Ip.{Ip}
use Rattle.source_filter.specs.declared.record.{Record.{Record}, RecordKind.TheVariants.{ToIn}}
use Rattle.endpoint_membership.specs.{EndpointGroup.{EndpointGroup}, Log.{latest, on_group, records_at}, declared.change.Change.{Change}}
use Rattle.amt_pair.specs.Sent.{Sent, SentReport, report_of}

-- the record leaves its group: TO_IN of nothing (RFC 3376, section 5.1)
pub record IsLeaving (group_record : Record) : Type 0 where
  pub kind : group_record.kind ≡ ToIn
  pub sources : group_record.sources ≡ []

-- all that these records say of the group is that it is left
abbrev pub SayNothing : Ip → List Record → Type 0
SayNothing group records = All IsLeaving (on_group group records)

-- no entry that was made less than a lifetime before the moment says more of the pair than that the group
-- is left; an entry's moment is the latest one of the log up to it
abbrev pub IsSilent : ℕ → List Change → EndpointGroup → ℕ → Type 0
IsSilent lifetime log endpoint_group moment =
    (before after : List Change) (entry : Change) → log ≡ before ++ entry ∷ after
    → moment < latest (before ++ entry ∷ []) + lifetime → All IsLeaving (records_at endpoint_group entry)

-- in what a gateway sent, one report comes before a full report
pub record ComesBefore (sent : List Sent) (earlier full : SentReport) : Type 0 where
  pub before : List Sent
  pub one : Sent
  pub between : List Sent
  pub other : Sent
  pub after : List Sent
  pub order : sent ≡ before ++ one ∷ (between ++ other ∷ after)
  pub earlier_is : report_of one ≡ Some earlier
  pub full_is : report_of other ≡ Some full
  pub is_full : full.full_report ≡ true

-- where a full report doesn't name a group, no report that was sent before it, less than the time for which
-- farewells are repeated, says more of the group than that it is left
abbrev pub KeepsFarewells : List Sent → Type 0
KeepsFarewells sent =
    (earlier full : SentReport) (group : Ip) → ComesBefore sent earlier full → on_group group full.records ≡ []
    → full.moment < earlier.moment + full.keep_ms → SayNothing group earlier.records
