-- Which sources a tunnel endpoint wants of a group, by the log alone and by rows, and where it has no
-- membership.
use Rattle.std.specs.{Prelude.{◌≡◌, ℕ, max, ◌&&◌, Bool, List, reverse, None}, List.{list_any}}
use Rattle.amt_values.specs.{declared.address.Ip.{Ip}, EndpointValue.{EndpointValue}}
use Rattle.source_filter.specs.Filter.{admits}
use Rattle.endpoint_membership.specs.{Log.{latest, live_chain}, EndpointGroup.{EndpointGroup, same_endpoint, same_group}, Memberships.{membership_at}, GroupFilter.{records_admit}, declared.{change.Change.{Change}, row.Row.{Row}}}

-- The newest record that still counts and applies to the source wants it (RFC 3376, section 4.2.12). The
-- log stands oldest first, and no moment is before its latest one.
abbrev pub is_admitted : ℕ → List Change → EndpointGroup → Ip → ℕ → Bool
is_admitted lifetime log endpoint_group source moment = records_admit (live_chain lifetime endpoint_group (max moment (latest log)) (reverse log)) source

-- the endpoint has no membership at the moment
abbrev pub HasNoMembership : ℕ → ℕ → List Change → EndpointValue → Type 0
HasNoMembership lifetime moment log endpoint =
    (group : Ip) → membership_at lifetime moment (reverse log) (record { endpoint = endpoint; group = group }) ≡ None

-- some row is of the endpoint and the group, and its filter lets the source in
abbrev pub rows_admit : List Row → EndpointValue → Ip → Ip → Bool
rows_admit rows endpoint group source =
    list_any (λ row. same_endpoint endpoint row.endpoint && same_group group row.group && admits row.filter source) rows
