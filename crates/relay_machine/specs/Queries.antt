-- The Membership Query that answers a Request.
use Rattle.std.specs.Prelude.{ℕ, ◌*◌, ◌==◌, ◌||◌, ◌&&◌, not, Bool, true, false, List, slice_index, Option, Some, None, if◌then◌else◌}
use Rattle.amt_values.specs.EndpointValue.{EndpointValue}
use Rattle.amt_messages.specs.declared.message.Message.{Message, TheVariants.{Query}}
use Rattle.igmp_records.specs.{Code.{code_of}, Query.{written_query4}}
use Rattle.mld_records.specs.{Code.{code_of as mld_code_of}, Query.{written_query6}}
use Rattle.inner_datagrams.specs.Written.{written_inner4, written_inner6}
use Rattle.response_mac.specs.{declared.secret.Secret.{Secret}, ResponseMac.{mac_of}}
use Rattle.source_filter.specs.declared.query.QueryFields.{QueryFields}
use Rattle.relay_machine.specs.declared.settings.Settings.{Settings}

-- the code of the response time: of MLD in milliseconds (RFC 3810, section 5.1.3), of IGMP in tenths
-- of a second (RFC 3376, section 4.1.1)
abbrev pub response_code : Settings → Bool → ℕ
response_code settings v6 =
    if v6 then mld_code_of (settings.response_tenths * 100) else code_of settings.response_tenths

-- that code, the robustness, and the interval's code, which both families have in seconds and by
-- IGMP's table (RFC 3376, sections 4.1.6 and 4.1.7; RFC 3810, sections 5.1.8 and 5.1.9)
abbrev pub query_fields : Settings → Bool → QueryFields
query_fields settings v6 = record {
  max_code = response_code settings v6;
  robustness = settings.robustness;
  interval_code = code_of settings.query_seconds;
}

-- 224.0.0.1, to which General Queries go (RFC 3376, section 4.1.12)
abbrev pub all_systems : ℕ
all_systems = 0xe0000001

-- ff02::1, to which those of MLD go (RFC 3810, section 5.1.15)
abbrev pub all_nodes : ℕ
all_nodes = 0xff020000000000000000000000000001

-- the datagram of the relay's General Query, of MLDv2 over IPv6 or of IGMPv3 over IPv4
unfoldable pub general_query : Settings → Bool → List ℕ
general_query settings false =
    written_inner4 settings.query4 all_systems (written_query4 (query_fields settings false))
general_query settings true =
    written_inner6 settings.query6 all_nodes (written_query6 settings.query6 all_nodes (query_fields settings true))

-- whether a Request of these octets asks for MLD: by its P flag (RFC 7450, section 5.1.3) or, where Linux's
-- gateways are served, by the second octet 80, since their driver counts the bits from the other end
abbrev pub asks_for_mld : Settings → List ℕ → Bool → Bool
asks_for_mld settings octets p_flag = p_flag || (settings.linux_gateways && (slice_index octets 1 == 0x80))

-- the gateway that a Query names: none where Linux's gateways are served, whose driver drops a Query with a
-- flag, and else the source as it was seen. A relay may leave it out (RFC 7450, section 5.1.4)
abbrev pub gateway_named : Settings → EndpointValue → Option EndpointValue
gateway_named settings source = if settings.linux_gateways then None else Some source

-- whether a Query says that the relay is limited: never where Linux's gateways are served, and else where it
-- is. Without the L flag a Query says nothing of it (RFC 7450, section 5.1.4)
abbrev pub says_limited : Settings → Bool → Bool
says_limited settings limited = limited && not settings.linux_gateways

-- the answer to a source's Request for MLD or IGMP: whether the relay is limited, the MAC of the source and
-- the nonce, the nonce, the General Query, and the gateway that is named (RFC 7450, section 5.1.4)
abbrev pub query_for : Settings → Secret → Bool → Bool → EndpointValue → ℕ → Message
query_for settings secret v6 limited source nonce =
    Query (says_limited settings limited) (mac_of secret source nonce) nonce (general_query settings v6) (gateway_named settings source)
