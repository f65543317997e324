-- The text of a source's query and of its answer.
use Rattle.std.specs.{Prelude.{ℕ, Bool, true, false, List, [], ◌∷◌, ◌++◌, flat_map, codes, decimal, Option, Some, None}}
use Rattle.amt_values.specs.{declared.address.Ip.{Ip}, Text.{ip_text}}
use Rattle.script_lines.specs.Texts.{hex_text}
use Rattle.amt_dns_names.specs.{Name.{name_wire}, Query.{query_of}, Reverse.{reverse_labels}}
use Rattle.amt_dns.specs.{declared.{fault.DnsFault.{DnsFault}, found.{Found.{Found}, Relay.{Relay}}}, Choice.{chosen_of}}
use Rattle.amt_dns.specs.declared.found.Relay.TheVariants as relays
use Rattle.amt_dns.specs.declared.fault.DnsFault.TheVariants as faults

-- `none`, the address, or `name` and the octets of the name
abbrev pub relay_text : Relay → List ℕ
relay_text relays.None = codes "none"
relay_text (relays.At ip) = ip_text ip
relay_text (relays.Named labels) = codes "name " ++ hex_text (name_wire labels)

-- whether a Request may go without a discovery
abbrev pub direct_text : Bool → List ℕ
direct_text true = codes "1 "
direct_text false = codes "0 "

-- `D RELAY` and the line's end
abbrev pub found_text : Found → List ℕ
found_text found = direct_text found.direct ++ (relay_text found.relay ++ (10 ∷ []))

-- `record PRECEDENCE D RELAY`
unfoldable pub record_line : Found → List ℕ
record_line found = codes "record " ++ (decimal found.precedence ++ (codes " " ++ found_text found))

-- `choose D RELAY`, or `choose nothing`
abbrev pub choice_line : Option Found → List ℕ
choice_line None = codes "choose nothing" ++ (10 ∷ [])
choice_line (Some chosen) = codes "choose " ++ found_text chosen

-- `query HEX`, the query that asks for the relays of the source, with the id 0
unfoldable pub query_line : Ip → List ℕ
query_line source = codes "query " ++ (hex_text (query_of 0 (reverse_labels source)) ++ (10 ∷ []))

-- a line for each record, and the choice; nothing where there is no answer
abbrev pub answer_lines : Option (List Found) → List ℕ
answer_lines None = []
answer_lines (Some found) = flat_map record_line found ++ choice_line (chosen_of found)

-- the query, and what an answer says
abbrev pub dns_text : Ip → Option (List Found) → List ℕ
dns_text source answer = query_line source ++ answer_lines answer

-- a fault, with its numbers in decimal; out of memory is none of the answer's
abbrev pub fault_text : DnsFault → List ℕ
fault_text (faults.Short need have) = codes "short " ++ (decimal need ++ (codes " " ++ decimal have))
fault_text (faults.Id want have) = codes "id " ++ (decimal want ++ (codes " " ++ decimal have))
fault_text faults.NotAnswer = codes "notanswer"
fault_text faults.Truncated = codes "truncated"
fault_text (faults.Code code) = codes "code " ++ decimal code
fault_text (faults.Questions count) = codes "questions " ++ decimal count
fault_text (faults.Name place) = codes "name " ++ decimal place
fault_text faults.Question = codes "question"
fault_text (faults.Record number) = codes "record " ++ decimal number
fault_text (faults.Data number) = codes "data " ++ decimal number
fault_text faults.Memory = []
