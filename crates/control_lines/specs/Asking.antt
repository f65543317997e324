-- Lines that ask a running relay for something, and what lines to either end have in common.
use Rattle.std.specs.{Prelude.{◌≡◌, ◌<◌, ℕ, ◌-◌, ◌==◌, ◌⊎◌, List, [], ◌∷◌, length, take, slice_index, codes, if◌then◌else◌}, Str.{Lines.{strip_carriage_return}, bytes_eq}}
use Rattle.amt_values.specs.{Text.{IsPeerText}, declared.peer.Peer.{Peer}}
use Rattle.script_lines.specs.{Lines.{IsPlain, fields}, declared.reason.Reason.{Reason}}
use Rattle.script_lines.specs.declared.reason.Reason.TheVariants as reasons
use Rattle.control_lines.specs.declared.asking.Asking.{Asking, TheVariants.{Counts, Show, ShowOf, Stop}}

-- the octets without a line feed at their end, and then without a carriage return
abbrev pub line_of : List ℕ → List ℕ
line_of octets =
    if slice_index octets (length octets - 1) == 10 then strip_carriage_return (take (length octets - 1) octets) else octets

-- a line of these fields asks for this: `counts`, `show`, `show PEER` or `stop`
abbrev pub SaysAsking : Asking → List (List ℕ) → Type 0
SaysAsking Counts line = line ≡ codes "counts" ∷ []
SaysAsking Show line = line ≡ codes "show" ∷ []
SaysAsking (ShowOf peer) line = (text : List ℕ) × (line ≡ codes "show" ∷ text ∷ []) × IsPeerText peer text
SaysAsking Stop line = line ≡ codes "stop" ∷ []

-- the octets are one line of printable ASCII that asks for this
abbrev pub Asks : Asking → List ℕ → Type 0
Asks asking octets = IsPlain (line_of octets) × SaysAsking asking (fields (line_of octets))

-- the first field is one of the three words
abbrev pub BeginsAsking : List (List ℕ) → Type 0
BeginsAsking [] = ⊥
BeginsAsking (word ∷ values) = (word ≡ codes "counts") ⊎ (word ≡ codes "show") ⊎ (word ≡ codes "stop")

-- the most fields of a line: two where its word is the one that may have a field after it, else one
abbrev pub most_fields : List ℕ → List (List ℕ) → ℕ
most_fields longer [] = 1
most_fields longer (word ∷ values) = if bytes_eq word longer then 2 else 1

-- the field after `show` is no text of a peer
abbrev pub NamesNoPeer : List (List ℕ) → Type 0
NamesNoPeer line = (text : List ℕ) × (line ≡ codes "show" ∷ text ∷ []) × ((peer : Peer) → IsPeerText peer text → ⊥)

-- what is wrong with a line
abbrev pub Fails : List ℕ → Reason → Type 0
Fails line reasons.Word = ¬ (IsPlain line × BeginsAsking (fields line))
Fails line reasons.Count = most_fields (codes "show") (fields line) < length (fields line)
Fails line reasons.Peer = NamesNoPeer (fields line)
Fails line _ = ⊥

-- the order in which that is tried
abbrev pub order_of_reasons : List Reason
order_of_reasons = reasons.Word ∷ reasons.Count ∷ reasons.Peer ∷ []
