-- The reports that a gateway sends (RFC 7450, section 5.1.5).
use Rattle.std.specs.{Prelude.{ℕ, Bool, true, false, List, [], ◌∷◌, ◌++◌, Option, Some, None}, Ordering.{eq_by_cmp}}
use Rattle.amt_values.specs.{EndpointValue.{EndpointValue}, Order.{endpoint_order}, declared.address.Ip.{Ip, TheVariants.{V4, V6}}}
use Rattle.amt_messages.specs.declared.message.Message.TheVariants.{Teardown, Update}
use Rattle.inner_datagrams.specs.Written.{written_inner4, written_inner6}
use Rattle.source_filter.specs.declared.record.Record.{Record}
use Rattle.igmp_records.specs.Report.{written_report4}
use Rattle.mld_records.specs.Report.{written_report6}
use Rattle.socket_merge.specs.{FullReport.{full_report_of}, History.{AcceptedCall}}
use Rattle.gateway_machine.specs.{declared.{exchange.{Exchange.{Exchange}, LastQuery.{LastQuery}}, settings.GatewaySettings.{GatewaySettings}}, Sends.{Sending, to_relay}, Settings.{family_of}, Timing.{farewell_ms}}

-- 224.0.0.22, to which reports of IGMPv3 go (RFC 3376, section 4.2.14)
abbrev pub igmp_routers : ℕ
igmp_routers = 0xe0000016

-- ff02::16, to which those of MLDv2 go (RFC 3810, section 5.2.14)
abbrev pub mld_routers : ℕ
mld_routers = 0xff020000000000000000000000000016

-- the datagram from this source that carries a report of these records
unfoldable pub report_datagram : Ip → List Record → List ℕ
report_datagram (V4 source) records = written_inner4 source igmp_routers (written_report4 records)
report_datagram (V6 source) records = written_inner6 source mld_routers (written_report6 source mld_routers records)

-- the Update with the report of these records, by the MAC and the nonce of a query. Without a record none is
-- sent
abbrev pub update_of : GatewaySettings → Exchange → LastQuery → Bool → List Record → List Sending
update_of settings exchange query full_report [] = []
update_of settings exchange query full_report (first ∷ more) =
    to_relay exchange.relay full_report (Update query.mac query.nonce (report_datagram settings.source (first ∷ more)))

-- the Update by the last query, if there is one. In Active there is, by the law queries_are_kept
abbrev pub update_by : Option LastQuery → GatewaySettings → Exchange → Bool → List Record → List Sending
update_by None settings exchange full_report records = []
update_by (Some query) settings exchange full_report records = update_of settings exchange query full_report records

-- the Update by the query that the exchange keeps
abbrev pub update : GatewaySettings → Exchange → Bool → List Record → List Sending
update settings exchange full_report records = update_by exchange.query settings exchange full_report records

-- the records of what is wanted, and of what was left not long ago (RFC 3376, section 5.2)
abbrev pub full_records : GatewaySettings → Exchange → List AcceptedCall → List Record
full_records settings exchange history =
    full_report_of (family_of settings) history exchange.moment (farewell_ms exchange.query)

-- the Update with the report of the full records
abbrev pub full_report : GatewaySettings → Exchange → List AcceptedCall → List Sending
full_report settings exchange history = update settings exchange true (full_records settings exchange history)

-- the records of a change of filters (RFC 3376, section 5.1), and after them those of all that is wanted,
-- so that one lost report is made good by the next
abbrev pub change_reports : GatewaySettings → Exchange → List AcceptedCall → List Record → List Sending
change_reports settings exchange history changes =
    update settings exchange false changes ++ full_report settings exchange history

-- the endpoints are one
abbrev pub same_endpoint : EndpointValue → EndpointValue → Bool
same_endpoint one other = eq_by_cmp endpoint_order one other

-- the Teardown of the endpoint that the relay saw before, where it sees another one now
abbrev pub teardown_if : Bool → Exchange → LastQuery → EndpointValue → List Sending
teardown_if true exchange last before = []
teardown_if false exchange last before = to_relay exchange.relay false (Teardown last.mac last.nonce before)

-- the Teardown by what the last query and the new one say that the relay saw
abbrev pub teardown_by : Option EndpointValue → Option EndpointValue → Exchange → LastQuery → List Sending
teardown_by None seen exchange last = []
teardown_by (Some before) None exchange last = []
teardown_by (Some before) (Some seen) exchange last = teardown_if (same_endpoint before seen) exchange last before

-- the Teardown by the last query, if there is one (RFC 7450, section 5.2.3.7)
abbrev pub teardown : Option LastQuery → Option EndpointValue → Exchange → List Sending
teardown None seen exchange = []
teardown (Some last) seen exchange = teardown_by last.seen seen exchange last
