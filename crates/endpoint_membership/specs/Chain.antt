-- The live chain of a pair, said of the whole log. As in Log, a log that is read here is turned
-- round: its newest entry stands first.
use Rattle.std.specs.Prelude.{◌≡◌, ℕ, ◌+◌, ◌≤◌, ◌<◌, List, [], ◌∷◌, ◌++◌, length, if◌then◌else◌}
use Rattle.source_filter.specs.declared.record.Record.{Record}
use Rattle.endpoint_membership.specs.{Log.{concerns, latest, records_at}, EndpointGroup.{EndpointGroup}, declared.change.Change.{Change}}

-- an entry that renews the membership of a pair: its moment, and its records on the pair, newest first
pub record Renewal : Type 0 where
  pub moment : ℕ
  pub records : List Record

-- the entries that concern the pair; an entry's moment is the latest one of the log up to it
abbrev pub renewals : EndpointGroup → List Change → List Renewal
renewals endpoint_group [] = []
renewals endpoint_group (entry ∷ older) =
    if concerns endpoint_group entry
    then record { moment = latest (entry ∷ older); records = records_at endpoint_group entry } ∷ renewals endpoint_group older
    else renewals endpoint_group older

-- each renewal was made less than a lifetime before the next newer one, and the newest one less than
-- a lifetime before the moment (RFC 3376, section 8.4)
abbrev pub IsUnbroken : ℕ → ℕ → List Renewal → Type 0
IsUnbroken lifetime moment [] = Unit {0}
IsUnbroken lifetime moment (newest ∷ older) = (moment < newest.moment + lifetime) × IsUnbroken lifetime newest.moment older

-- the records of renewals
abbrev pub records_of : List Renewal → List Record
records_of [] = []
records_of (newest ∷ older) = newest.records ++ records_of older

-- The records are those of a prefix, which are the newest renewals of the pair. The prefix is
-- unbroken, and no longer prefix is.
pub record IsLongestChain (lifetime : ℕ) (endpoint_group : EndpointGroup) (moment : ℕ) (past : List Change) (records : List Record) : Type 0 where
  pub prefix : List Renewal
  pub before : List Renewal
  pub is_prefix : renewals endpoint_group past ≡ prefix ++ before
  pub unbroken : IsUnbroken lifetime moment prefix
  pub longest : (other rest : List Renewal) → renewals endpoint_group past ≡ other ++ rest → IsUnbroken lifetime moment other → length other ≤ length prefix
  pub are_its : records ≡ records_of prefix
