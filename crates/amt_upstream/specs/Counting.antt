-- How memberships are counted. No public contract says these words.
use Rattle.std.specs.{Prelude.{◌≡◌, ℕ, ◌+◌, ◌-◌, ◌*◌, ◌≤◌, Bool, true, false, List, [], ◌∷◌, map, Option, Some, None, is_some}, BTreeMap.{BTreeMap, get}, List.{count_by, flat_map, AllByRecursion}, Option.{unwrap_or}, Ordering.{eq_by_cmp, nat_cmp, on, then_cmp}, declared.cmp.Ordering.{Ordering, TheVariants.{Equal}}}
use Rattle.amt_values.specs.{declared.address.Ip.{Ip}, Order.{endpoint_order, ip_order}, EndpointValue.{EndpointValue}, Ascending.{IsAscending, has}}
use Rattle.source_filter.specs.{Filter.{FilterValue}, declared.mode.Mode.{Mode, TheVariants.{Include, Exclude}}}
use Rattle.endpoint_membership.specs.{Membership.{Membership, membership_order}, Parts.{some_unless_zero}, Table.{AreLawful, IsWithinLimits, TableValue}, declared.membership_change.MembershipChange.{MembershipChange}}
use Rattle.amt_upstream.specs.declared.count_key.{CountKey.{CountKey}, Counted.{Counted, TheVariants.{Excluders, Excluder, Excluding, Including}}}

-- in this order the kinds of counts stand
abbrev pub rank : Counted → ℕ
rank Excluders = 0
rank (Excluder endpoint) = 1
rank (Excluding source) = 2
rank (Including source) = 3

-- of one kind, by what is counted
abbrev pub same_rank_order : Counted → Counted → Ordering
same_rank_order (Excluder one) (Excluder other) = endpoint_order one other
same_rank_order (Excluding one) (Excluding other) = ip_order one other
same_rank_order (Including one) (Including other) = ip_order one other
same_rank_order one other = Equal

-- by kind, then by what is counted
abbrev pub counted_order : Counted → Counted → Ordering
counted_order = then_cmp (on rank nat_cmp) same_rank_order

-- by group, then by what is counted
abbrev pub key_order : CountKey → CountKey → Ordering
key_order = then_cmp (on (λ key. key.group) ip_order) (on (λ key. key.counted) counted_order)

-- how a source of a filter of this mode counts
abbrev pub counted_by : Mode → Ip → Counted
counted_by Include source = Including source
counted_by Exclude source = Excluding source

-- what it is counted by in the group
abbrev pub source_key : Mode → Ip → Ip → CountKey
source_key mode group source = record { group = group; counted = counted_by mode source }

-- what an endpoint's filter of the group is counted by, by mode and list
abbrev pub keys_by : Mode → Ip → EndpointValue → List Ip → List CountKey
keys_by Include group endpoint sources = map (source_key Include group) sources
keys_by Exclude group endpoint sources =
    record { group = group; counted = Excluders } ∷ record { group = group; counted = Excluder endpoint } ∷ map (source_key Exclude group) sources

-- the same of a filter
abbrev pub keys_of : Ip → EndpointValue → FilterValue → List CountKey
keys_of group endpoint filter = keys_by filter.mode group endpoint filter.sources

-- and of none
abbrev pub keys_if : Ip → EndpointValue → Option FilterValue → List CountKey
keys_if group endpoint None = []
keys_if group endpoint (Some filter) = keys_of group endpoint filter

-- what memberships are counted by
abbrev pub keys_in : List Membership → List CountKey
keys_in rows = flat_map (λ membership. keys_of membership.group membership.endpoint membership.filter) rows

-- what the filters before changes are counted by
abbrev pub keys_before : List MembershipChange → List CountKey
keys_before changes = flat_map (λ change. keys_if change.group change.endpoint change.before) changes

-- and those after them
abbrev pub keys_after : List MembershipChange → List CountKey
keys_after changes = flat_map (λ change. keys_if change.group change.endpoint change.after) changes

-- the keys are one
abbrev pub same_key : CountKey → CountKey → Bool
same_key one other = eq_by_cmp key_order one other

-- how often the key is among these
abbrev pub times : CountKey → List CountKey → ℕ
times key keys = count_by (same_key key) keys

-- how many memberships each key counts
abbrev pub Numbers : Type 0
Numbers = BTreeMap CountKey ℕ

-- what the map has at the key
abbrev pub entry_at : Numbers → CountKey → Option ℕ
entry_at tally key = get key_order tally key

-- the number of the key, and 0 where there is none
abbrev pub number : Numbers → CountKey → ℕ
number tally key = unwrap_or (entry_at tally key) 0

-- no number that is kept is 0, but for those of some keys
abbrev pub IsCleanBesides : List CountKey → Numbers → Type 0
IsCleanBesides keys tally = (key : CountKey) → has key_order keys key ≡ false → entry_at tally key ≡ some_unless_zero (number tally key)

-- no number that is kept is 0
abbrev pub IsClean : Numbers → Type 0
IsClean tally = (key : CountKey) → entry_at tally key ≡ some_unless_zero (number tally key)

-- some keys were counted in, and some out
abbrev pub HasMoved : List CountKey → List CountKey → Numbers → Numbers → Type 0
HasMoved added removed before after = (key : CountKey) → number after key + times key removed ≡ number before key + times key added

-- what is kept is the same
abbrev pub HasSame : Numbers → Numbers → Type 0
HasSame before after = (key : CountKey) → entry_at after key ≡ entry_at before key

-- what is kept of a key once n more are counted
abbrev pub raised : ℕ → Option ℕ → Option ℕ
raised n None = some_unless_zero n
raised n (Some number) = Some (number + n)

-- and once n less are, which leaves 0 where it is
abbrev pub lowered : ℕ → Option ℕ → Option ℕ
lowered n None = None
lowered n (Some number) = Some (number - n)

-- and once a 0 is swept away
abbrev pub swept : Bool → Option ℕ → Option ℕ
swept false entry = entry
swept true entry = some_unless_zero (unwrap_or entry 0)

-- these keys were counted in
abbrev pub HasRaised : List CountKey → Numbers → Numbers → Type 0
HasRaised keys before after = (key : CountKey) → entry_at after key ≡ raised (times key keys) (entry_at before key)

-- these keys were counted out
abbrev pub HasLowered : List CountKey → Numbers → Numbers → Type 0
HasLowered keys before after = (key : CountKey) → entry_at after key ≡ lowered (times key keys) (entry_at before key)

-- those of these keys that are at 0 were swept away
abbrev pub HasSwept : List CountKey → Numbers → Numbers → Type 0
HasSwept keys before after = (key : CountKey) → entry_at after key ≡ swept (has key_order keys key) (entry_at before key)

-- each of these keys has a number, even if it is 0
abbrev pub AreThere : List CountKey → Numbers → Type 0
AreThere keys tally = (key : CountKey) → has key_order keys key ≡ true → is_some (entry_at tally key) ≡ true

-- each membership lists each source once, ascending
abbrev pub AreInOrder : List Membership → Type 0
AreInOrder rows = AllByRecursion (λ membership. IsAscending ip_order membership.filter.sources) rows

-- the numbers are those of the memberships
abbrev pub AreNumbers : List Membership → Numbers → Type 0
AreNumbers rows tally = (key : CountKey) → number tally key ≡ times key (keys_in rows)

-- of any memberships whose numbers these are
abbrev pub ForRows : Numbers → (List Membership → Type 0) → Type 0
ForRows tally Fact = (rows : List Membership) → AreNumbers rows tally → AreInOrder rows → Fact rows

-- The numbers beside a table are those of its memberships, no kept one is 0, and the limits bound them.
pub record IsCounted (table : TableValue) (tally : Numbers) : Type 0 where
  pub numbers : AreNumbers table.rows tally
  pub clean : IsClean tally
  pub ascend : IsAscending membership_order table.rows
  pub in_order : AreInOrder table.rows
  pub within : IsWithinLimits table
  pub lawful : AreLawful table.limits table.lifetime
  pub product : (table.limits.endpoints * table.limits.groups) * table.limits.sources ≤ 16777216
