-- The log of accepted entries, and which of them still count.
--
-- A log stands oldest first. What is said here by recursion reads it from its newest entry, so its
-- list is the log turned round.
use Rattle.std.specs.{Prelude.{ℕ, ◌+◌, max, nat_lt, not, Bool, true, false, List, [], ◌∷◌, ◌++◌, reverse, if◌then◌else◌}, List.{filter}}
use Rattle.amt_values.specs.declared.address.Ip.{Ip}
use Rattle.source_filter.specs.declared.record.{Record.{Record}, RecordKind.TheVariants.{ToIn}}
use Rattle.endpoint_membership.specs.{EndpointGroup.{EndpointGroup, same_endpoint, same_group}, declared.change.Change.{Change, TheVariants.{Reported, Clear, Mark}}}

-- the moment that an entry brings
abbrev pub brought : Change → ℕ
brought (Reported endpoint records at) = at
brought (Clear endpoint at) = at
brought (Mark at) = at

-- the latest moment of the entries, or 0: time doesn't run backwards
abbrev pub latest : List Change → ℕ
latest [] = 0
latest (entry ∷ rest) = max (brought entry) (latest rest)

-- leaving a group is the record TO_IN of nothing (RFC 3376, section 5.1)
abbrev pub leaving : Ip → Record
leaving group = record { kind = ToIn; group = group; sources = [] }

-- the records on a group, in their order
abbrev pub on_group : Ip → List Record → List Record
on_group group records = filter (λ group_record. same_group group group_record.group) records

-- the records that an entry makes on a pair, newest first; a clearing leaves every group
abbrev pub records_at : EndpointGroup → Change → List Record
records_at endpoint_group (Reported endpoint records at) =
    if same_endpoint endpoint_group.endpoint endpoint then reverse (on_group endpoint_group.group records) else []
records_at endpoint_group (Clear endpoint at) = if same_endpoint endpoint_group.endpoint endpoint then leaving endpoint_group.group ∷ [] else []
records_at endpoint_group (Mark at) = []

-- the list has no item
abbrev pub is_empty : {X : Type 0} → List X → Bool
is_empty [] = true
is_empty (x ∷ xs) = false

-- the entry makes a record on the pair
abbrev pub concerns : EndpointGroup → Change → Bool
concerns endpoint_group entry = not (is_empty (records_at endpoint_group entry))

-- The records on the pair that still count at a moment not before the latest, newest first. Each
-- entry renews the membership for a lifetime, the Group Membership Interval of RFC 3376, section
-- 8.4: an entry counts where it was made less than a lifetime before the next one that counts, and
-- the last one less than a lifetime before the moment.
abbrev pub live_chain : ℕ → EndpointGroup → ℕ → List Change → List Record
live_chain lifetime endpoint_group moment [] = []
live_chain lifetime endpoint_group moment (entry ∷ older) =
    if concerns endpoint_group entry
    then (if nat_lt moment (latest (entry ∷ older) + lifetime) then records_at endpoint_group entry ++ live_chain lifetime endpoint_group (latest (entry ∷ older)) older else [])
    else live_chain lifetime endpoint_group moment older

-- the moment of the newest entry that concerns the pair, or 0
abbrev pub renewed_at : EndpointGroup → List Change → ℕ
renewed_at endpoint_group [] = 0
renewed_at endpoint_group (entry ∷ older) = if concerns endpoint_group entry then latest (entry ∷ older) else renewed_at endpoint_group older
