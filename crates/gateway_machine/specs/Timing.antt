-- How long a gateway waits, and what a General Query says of time.
use Rattle.std.specs.Prelude.{ℕ, ◌+◌, ◌*◌, ◌-◌, ◌^◌, ◌==◌, min, Option, Some, None, if◌then◌else◌}
use Rattle.source_filter.specs.declared.query.QueryFields.{QueryFields}
use Rattle.group_records.specs.{declared.family.Family.{Family, TheVariants.{V4, V6}}, Code.{code_value}}
use Rattle.socket_merge.specs.FullReport.{longest_farewell}
use Rattle.gateway_machine.specs.declared.exchange.LastQuery.{LastQuery}

-- the wait after so many Discoveries or Requests with one nonce, in milliseconds: it doubles, up to two
-- minutes (RFC 7450, sections 5.2.3.4 and 5.2.3.5)
abbrev pub wait_ms : ℕ → ℕ
wait_ms tries = min (2 ^ (tries - 1)) 120 * 1000

-- the number that a field states, where 0 states none
abbrev pub or_default : ℕ → ℕ → ℕ
or_default default stated = if stated == 0 then default else stated

-- the Robustness Variable, 2 by default (RFC 3376, sections 4.1.6 and 8.1)
abbrev pub robustness_of : QueryFields → ℕ
robustness_of fields = or_default 2 fields.robustness

-- the Query Interval in seconds, 125 by default (RFC 3376, sections 4.1.7 and 8.2); both families have
-- it by IGMP's codes (RFC 3810, section 5.1.9)
abbrev pub interval_of : QueryFields → ℕ
interval_of fields = or_default 125 (code_value V4 fields.interval_code)

-- the time within which a listener answers, in milliseconds: a code of IGMP stands for tenths of a second
-- (RFC 3376, section 4.1.1), and one of MLD for milliseconds (RFC 3810, section 5.1.3)
abbrev pub response_ms : Family → QueryFields → ℕ
response_ms V4 fields = code_value V4 fields.max_code * 100
response_ms V6 fields = code_value V6 fields.max_code

-- how long a report counts at the querier, in milliseconds (RFC 3376, section 8.4; RFC 3810, section 9.4)
abbrev pub lifetime_of : Family → QueryFields → ℕ
lifetime_of family fields = robustness_of fields * interval_of fields * 1000 + response_ms family fields

-- the lifetime by the last query; before there is one, by the default times
abbrev pub last_lifetime : Option LastQuery → ℕ
last_lifetime None = 260000
last_lifetime (Some query) = query.lifetime_ms

-- how long farewells are repeated: until no report from before can count at the relay, if none is under
-- way for more than a minute
abbrev pub farewell_ms : Option LastQuery → ℕ
farewell_ms query = min (last_lifetime query + 60000) longest_farewell
