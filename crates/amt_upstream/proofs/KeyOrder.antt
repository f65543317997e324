-- The derived order of keys is that of the definition, total, and tells all keys apart.
use Rattle.std.{proofs.{Common.{◌≡◌, true, refl, sym, ap, subst, ◌∙◌}, lemmas.{Cmp.{nat_cmp_total, on_total, then_total}, Map.{Lookups.{CmpEqualImpliesEq}, Views.{tells_apart}}}}, specs.{Cmp.{IsTotalOrder}, Ordering.{nat_cmp, on, ordering_then, then_cmp}, declared.cmp.Ordering.{Ordering, TheVariants.{Less, Equal, Greater}}}}
use Rattle.amt_values.{specs.{declared.address.Ip.{Ip, TheVariants.{V4}}, Order.{endpoint_order, ip_order}, EndpointValue.{EndpointValue}}, proofs.Orders.{both_tied, endpoint_order-exact, endpoint_order-total, ip_order-exact, ip_order-total}}
use Rattle.source_filter.proofs.Compared.{compared}
use Rattle.amt_upstream.specs.{Counting.{counted_order, key_order, rank, same_key}, declared.count_key.{CountKey.{CountKey}, Counted.{Counted, TheVariants.{Excluders, Excluder, Excluding, Including}}}}
use Rattle.amt_upstream.specs.contracts.count_key.CountedOrd as counts
use Rattle.amt_upstream.specs.contracts.count_key.CountKeyOrd as keys

counts_compared_at : (one other : Counted) → (counts.TheImpl.ghosts).cmp one other ≡ counted_order one other
counts_compared_at Excluders Excluders = refl
counts_compared_at (Excluder one) (Excluder other) = refl
counts_compared_at (Excluding one) (Excluding other) = ap (λ (order : Ip → Ip → Ordering). order one other) compared
counts_compared_at (Including one) (Including other) = ap (λ (order : Ip → Ip → Ordering). order one other) compared
counts_compared_at one other = refl

counts_compared : (counts.TheImpl.ghosts).cmp ≡ counted_order
counts_compared = λ i one other. counts_compared_at one other i

abbrev by_both : (Ip → Ip → Ordering) → (Counted → Counted → Ordering) → CountKey → CountKey → Ordering
by_both groups counted = then_cmp (on (λ (key : CountKey). key.group) groups) (on (λ (key : CountKey). key.counted) counted)

pub keys_compared : (keys.TheImpl.ghosts).cmp ≡ key_order
keys_compared = ap (λ (groups : Ip → Ip → Ordering). by_both groups (counts.TheImpl.ghosts).cmp) compared ∙ ap (by_both ip_order) counts_compared

-- the endpoint that is counted, if it is one
abbrev endpoint_in : Counted → EndpointValue
endpoint_in (Excluder endpoint) = endpoint
endpoint_in other = record { address = 0; port = 0 }

-- the source that is counted, if it is one
abbrev source_in : Counted → Ip
source_in (Excluding source) = source
source_in (Including source) = source
source_in other = V4 0

-- by kind, endpoint and source, of which the order of one kind looks at one at most
abbrev by_parts : Counted → Counted → Ordering
by_parts = then_cmp (on rank nat_cmp) (then_cmp (on endpoint_in endpoint_order) (on source_in ip_order))

then_none : (order : Ordering) → order ≡ ordering_then order Equal
then_none Less = refl
then_none Equal = refl
then_none Greater = refl

by_parts_at : (one other : Counted) → by_parts one other ≡ counted_order one other
by_parts_at Excluders Excluders = refl
by_parts_at (Excluder one) (Excluder other) = sym (then_none (endpoint_order one other))
by_parts_at (Excluding one) (Excluding other) = refl
by_parts_at (Including one) (Including other) = refl
by_parts_at one other = refl

counted_order-total : IsTotalOrder counted_order
counted_order-total =
    let total : IsTotalOrder by_parts = then_total (on_total rank nat_cmp_total) (then_total (on_total endpoint_in endpoint_order-total) (on_total source_in ip_order-total)) in
    let same : by_parts ≡ counted_order = λ i one other. by_parts_at one other i in
    subst (λ (order : Counted → Counted → Ordering). IsTotalOrder order) same total

counted_order-exact : CmpEqualImpliesEq counted_order
counted_order-exact Excluders Excluders same = refl
counted_order-exact (Excluder one) (Excluder other) same = ap Excluder (endpoint_order-exact one other same)
counted_order-exact (Excluding one) (Excluding other) same = ap Excluding (ip_order-exact one other same)
counted_order-exact (Including one) (Including other) same = ap Including (ip_order-exact one other same)
counted_order-exact one other same = cc

pub key_order-total : IsTotalOrder key_order
key_order-total = then_total (on_total (λ (key : CountKey). key.group) ip_order-total) (on_total (λ (key : CountKey). key.counted) counted_order-total)

-- the key of a group
abbrev pub key_on : Ip → Counted → CountKey
key_on group counted = record { group = group; counted = counted }

-- keys that the order ties are one
pub key_order-exact : CmpEqualImpliesEq key_order
key_order-exact one other same =
    let both = both_tied (ip_order one.group other.group) (counted_order one.counted other.counted) same in
    ap (λ (group : Ip). key_on group one.counted) (ip_order-exact one.group other.group both.0)
    ∙ ap (λ (counted : Counted). key_on other.group counted) (counted_order-exact one.counted other.counted both.1)

pub same_key-is : (one other : CountKey) → same_key one other ≡ true → one ≡ other
same_key-is one other same = tells_apart key_order-exact one other same
