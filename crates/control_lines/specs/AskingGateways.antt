-- Lines that ask a running gateway for something.
use Rattle.std.specs.Prelude.{◌≡◌, ◌<◌, List, ℕ, [], ◌∷◌, length, codes}
use Rattle.script_lines.specs.{Lines.{IsPlain, fields}, declared.reason.Reason.{Reason}}
use Rattle.script_lines.specs.declared.reason.Reason.TheVariants as reasons
use Rattle.control_lines.specs.{Asking.{BeginsAsking, line_of, most_fields}, declared.asking_gateway.GatewayAsking.{GatewayAsking, TheVariants.{Counts, Show, Stop, StopLeave}}}

-- the fields of the line that asks for this: `counts`, `show`, `stop` or `stop leave`
abbrev pub asking_words : GatewayAsking → List (List ℕ)
asking_words Counts = codes "counts" ∷ []
asking_words Show = codes "show" ∷ []
asking_words Stop = codes "stop" ∷ []
asking_words StopLeave = codes "stop" ∷ codes "leave" ∷ []

-- the octets are one line of printable ASCII that asks a gateway for this
abbrev pub AsksGateway : GatewayAsking → List ℕ → Type 0
AsksGateway asking octets = IsPlain (line_of octets) × (fields (line_of octets) ≡ asking_words asking)

-- the octets are one line of printable ASCII that begins as a line that asks for something
abbrev pub IsForAsking : List ℕ → Type 0
IsForAsking octets = IsPlain (line_of octets) × BeginsAsking (fields (line_of octets))

-- a field after `stop` is `leave`
abbrev pub StopsByWord : List (List ℕ) → Type 0
StopsByWord [] = Unit {0}
StopsByWord (word ∷ []) = Unit {0}
StopsByWord (word ∷ value ∷ more) = word ≡ codes "stop" → value ≡ codes "leave"

-- what is wrong with a line to a gateway
abbrev pub FailsAtGateway : List ℕ → Reason → Type 0
FailsAtGateway line reasons.Word = ¬ (IsPlain line × BeginsAsking (fields line) × StopsByWord (fields line))
FailsAtGateway line reasons.Count = most_fields (codes "stop") (fields line) < length (fields line)
FailsAtGateway line _ = ⊥

-- the order in which that is tried
abbrev pub gateway_reasons : List Reason
gateway_reasons = reasons.Word ∷ reasons.Count ∷ []
