-- What `dns SOURCE` makes of its input: the query for the source's relays, and what an answer to it says.
use Rattle.std.specs.Prelude.{◌≡◌, ◌≢◌, ℕ, List, [], ◌∷◌, ◌++◌, Option, Some, None, codes}
use Rattle.amt_values.specs.{declared.address.Ip.{Ip}, Text.{IsIpText}}
use Rattle.script_lines.specs.Script.{Spells}
use Rattle.amt_dump.specs.Lines.{dump_kind}
use Rattle.amt_dns_names.specs.Reverse.{reverse_labels}
use Rattle.amt_dns.specs.{declared.{fault.DnsFault.{DnsFault}, found.Found.{Found}}, Answer.{IsAnswer}, Fault.{IsFirstFault}, Texts.{fault_text}}
use Rattle.amt_command.specs.declared.dns.Lookup.{Lookup}

-- one line says something: a field of hexadecimal digits, of these octets
abbrev pub IsAnswerLine : List ℕ → List ℕ → Type 0
IsAnswerLine octets bytes = Spells dump_kind (octets ∷ []) bytes

-- an input without an octet asks for the query alone; of an answer to the query with the id 0, the relays that it lists
abbrev pub GivesAnswer : Ip → Option (List Found) → List ℕ → Type 0
GivesAnswer source None bytes = bytes ≡ []
GivesAnswer source (Some found) bytes =
    (octets : List ℕ) × IsAnswerLine octets bytes × IsAnswer 0 (reverse_labels source) found octets

-- the word names the source, and the input gives its answer
pub record IsLookup (word : List ℕ) (lookup : Lookup) (bytes : List ℕ) : Type 0 where
  pub source : IsIpText lookup.source word
  pub answer : GivesAnswer lookup.source lookup.answer bytes

-- the word names no address; or the input is more or less than one line of an answer; or that one is no answer,
-- by its first fault
pub data IsLookupFault (word bytes : List ℕ) : List ℕ → Type 0 where
  source : ((source : Ip) → IsIpText source word → ⊥) → IsLookupFault word bytes (codes "source")
  input : (source : Ip) → IsIpText source word → bytes ≢ [] → ((octets : List ℕ) → IsAnswerLine octets bytes → ⊥)
      → IsLookupFault word bytes (codes "input")
  answer : (source : Ip) (octets : List ℕ) (fault : DnsFault) → IsIpText source word → IsAnswerLine octets bytes
      → IsFirstFault 0 (reverse_labels source) octets fault → IsLookupFault word bytes (fault_text fault)

-- `dns: ` and the fault
abbrev pub TellsLookup : List ℕ → List ℕ → List ℕ → Type 0
TellsLookup word text bytes = (cause : List ℕ) × IsLookupFault word bytes cause × (text ≡ codes "dns: " ++ cause)
