-- What is written of a datagram: a line for its message, and lines for the query or the records in it.
use Rattle.std.specs.Prelude.{ℕ, ◌==◌, Bool, false, true, List, [], ◌∷◌, ◌++◌, length, codes, decimal, flat_map, Option, Some, None, Result, Ok, Err, if◌then◌else◌}
use Rattle.amt_values.specs.{Address.{number_of}, Endpoint.{peer_of}, EndpointValue.{EndpointValue}, Text.{ip_text, peer_text}, declared.{address.Ip.{Ip}, mac.Mac48.{Mac48}}}
use Rattle.amt_messages.specs.{Refusal.{message_of}, declared.{message.Message.{Message, TheVariants.{Discovery, Advertisement, Request, Query, Update, Multicast, Teardown}}, refusal.Refused.{Refused}}}
use Rattle.inner_datagrams.specs.{Head.{head_of}, declared.head.{Head.{Head}, HeadFault.{HeadFault}}}
use Rattle.source_filter.specs.declared.{query.QueryRead.{QueryRead}, record.Record.{Record}}
use Rattle.group_records.specs.{Code.{code_value}, declared.family.Family.TheVariants.{V4}}
use Rattle.socket_merge.specs.Refusal.{family_of}
use Rattle.relay_machine.specs.{Updates.{report_in}, declared.outcome.Unlawful.{Unlawful}}
use Rattle.script_lines.specs.{Texts.{hex_text, nonce_text}, FaultTexts.{head_text, refusal_text}}
use Rattle.amt_script.specs.Texts.{group_record_text, unlawful_text}
use Rattle.amt_dump.specs.Queries.{query_in}

-- `L TEXT`: a line of output begins with the number of the line that it is about
abbrev pub line_of : ℕ → List ℕ → List ℕ
line_of number text = decimal number ++ (codes " " ++ (text ++ (10 ∷ [])))

-- ` mac=X nonce=X`, in 12 and 8 hexadecimal digits
abbrev pub mac_words : Mac48 → ℕ → List ℕ
mac_words mac nonce = codes " mac=" ++ (hex_text mac.0 ++ (codes " nonce=" ++ nonce_text nonce))

-- the gateway as the relay sees it, where a Query says it
abbrev pub seen_words : Option EndpointValue → List ℕ
seen_words None = codes "none"
seen_words (Some gateway) = peer_text (peer_of gateway)

-- whether the relay takes no updates from new gateways
abbrev pub limited_words : Bool → List ℕ
limited_words false = codes "query limited=0"
limited_words true = codes "query limited=1"

-- the protocol that a gateway asks for: IGMPv3, or MLDv2
abbrev pub request_words : Bool → List ℕ
request_words false = codes "request v4"
request_words true = codes "request v6"

-- the addresses of a packet, or what is wrong with its head
abbrev pub head_words : Result Head HeadFault → List ℕ
head_words (Ok head) = codes " source=" ++ (ip_text head.source ++ (codes " group=" ++ ip_text head.group))
head_words (Err fault) = codes " head " ++ head_text fault

-- the same of a packet
unfoldable pub packet_words : List ℕ → List ℕ
packet_words packet = head_words (head_of packet)

-- the fields of a message (RFC 7450, section 5.1)
abbrev pub message_words : Message → List ℕ
message_words (Discovery nonce) = codes "discovery nonce=" ++ nonce_text nonce
message_words (Advertisement nonce relay) =
    codes "advertisement nonce=" ++ (nonce_text nonce ++ (codes " relay=" ++ ip_text relay))
message_words (Request v6 nonce) = request_words v6 ++ (codes " nonce=" ++ nonce_text nonce)
message_words (Query limited mac nonce inner seen) =
    limited_words limited
    ++ (mac_words mac nonce ++ (codes " seen=" ++ (seen_words seen ++ (codes " inner=" ++ decimal (length inner)))))
message_words (Update mac nonce inner) = codes "update" ++ (mac_words mac nonce ++ (codes " inner=" ++ decimal (length inner)))
message_words (Multicast packet) = codes "data length=" ++ (decimal (length packet) ++ packet_words packet)
message_words (Teardown mac nonce gateway) =
    codes "teardown" ++ (mac_words mac nonce ++ (codes " gateway=" ++ peer_text (peer_of gateway)))

-- The robustness variable as it is carried; the interval in seconds, and the response time in tenths of a
-- second or, of MLDv2, in milliseconds, as their codes say. Zeros aren't taken for the defaults (RFC 3376,
-- sections 4.1.1, 4.1.6 and 4.1.7; RFC 3810, sections 5.1.3, 5.1.8 and 5.1.9).
abbrev pub general_words : QueryRead → List ℕ
general_words query =
    codes "general robustness="
    ++ (decimal query.fields.robustness
    ++ (codes " interval="
    ++ (decimal (code_value V4 query.fields.interval_code)
    ++ (codes " response=" ++ decimal (code_value (family_of query.group) query.fields.max_code)))))

-- the group that is asked about, where it isn't every group
abbrev pub group_lines : ℕ → Ip → List ℕ
group_lines number group = if number_of group == 0 then [] else line_of number (codes "group " ++ ip_text group)

-- a query, or why there is none
abbrev pub query_lines : ℕ → Result QueryRead Unlawful → List ℕ
query_lines number (Ok query) = line_of number (general_words query) ++ group_lines number query.group
query_lines number (Err fault) = line_of number (unlawful_text fault)

-- a record, with its sources in their order and with repeats
abbrev pub record_words : Record → List ℕ
record_words one = codes "record " ++ group_record_text one

-- a line for each record, or why there are none
abbrev pub report_lines : ℕ → Result (List Record) Unlawful → List ℕ
report_lines number (Ok records) = flat_map (λ one. line_of number (record_words one)) records
report_lines number (Err fault) = line_of number (unlawful_text fault)

-- what a Query and an Update carry, in lines after their own
abbrev pub carried_lines : ℕ → Message → List ℕ
carried_lines number (Query limited mac nonce inner seen) = query_lines number (query_in inner)
carried_lines number (Update mac nonce inner) = report_lines number (report_in inner)
carried_lines number message = []

-- the lines of a message, or the one that says why there is none
abbrev pub reading_lines : ℕ → Result Message Refused → List ℕ
reading_lines number (Ok message) = line_of number (message_words message) ++ carried_lines number message
reading_lines number (Err refusal) = line_of number (codes "refused " ++ refusal_text refusal)

-- the lines of a datagram that stands in the line of this number
unfoldable pub datagram_lines : ℕ → List ℕ → List ℕ
datagram_lines number bytes = reading_lines number (message_of bytes)
