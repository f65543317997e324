-- The first fault of octets that are no answer: of the head, of the question, of a record (RFC 1035, section 4.1).
use Rattle.std.specs.Prelude.{◌≡◌, ◌≢◌, ℕ, ◌+◌, ◌<◌, ◌≤◌, ◌==◌, nat_lt, not, List, [], ◌∷◌, length, Some}
use Rattle.amt_values.specs.Conditions.{Conditions, first_holding}
use Rattle.amt_dns_names.specs.NameAt.{HasNoNameAt, NameAt}
use Rattle.amt_dns.specs.{declared.{fault.DnsFault.{DnsFault, TheVariants.{Short, Id, NotAnswer, Truncated, Code, Questions, Name, Question, Record, Data}}, found.Found.{Found}}, Answer.{AreRecords, AsksFor, IsHead, IsOfRelays, IsQuestion, answer_count, data_end, data_place, question_count, relay_length, relay_type, response_bit, response_code, truncation_bit, word_at}}

-- what may be wrong with the head, in order
abbrev pub head_faults : ℕ → List ℕ → Conditions DnsFault
head_faults id bytes =
    (nat_lt (length bytes) 12, Short 12 (length bytes))
    ∷ (not (word_at bytes 0 == id), Id id (word_at bytes 0))
    ∷ (response_bit bytes == 0, NotAnswer)
    ∷ (truncation_bit bytes == 1, Truncated)
    ∷ (not (response_code bytes == 0), Code (response_code bytes))
    ∷ (not (question_count bytes == 1), Questions (question_count bytes)) ∷ []

-- after the head no name stands, or what stands there asks for something else or isn't whole
pub data IsQuestionFault (name : List (List ℕ)) (bytes : List ℕ) : DnsFault → Type 0 where
  no_name : HasNoNameAt bytes 12 → IsQuestionFault name bytes (Name 12)
  other : (labels : List (List ℕ)) (behind : ℕ) → NameAt bytes 12 labels behind → (AsksFor name bytes labels behind → ⊥)
      → IsQuestionFault name bytes Question

-- the data of a record of relays are too few for a relay's type; or in place of a relay's name none stands; or they
-- end elsewhere than their relay
pub data IsDataFault (bytes : List ℕ) (number begin end : ℕ) : DnsFault → Type 0 where
  short : end < begin + 2 → IsDataFault bytes number begin end (Data number)
  other_length : begin + 2 ≤ end → relay_type bytes begin ≤ 2 → end ≢ begin + 2 + relay_length (relay_type bytes begin)
      → IsDataFault bytes number begin end (Data number)
  no_name : begin + 2 ≤ end → relay_type bytes begin ≡ 3 → HasNoNameAt bytes (begin + 2)
      → IsDataFault bytes number begin end (Name (begin + 2))
  other_end : (labels : List (List ℕ)) (behind : ℕ) → begin + 2 ≤ end → relay_type bytes begin ≡ 3
      → NameAt bytes (begin + 2) labels behind → end ≢ behind → IsDataFault bytes number begin end (Data number)

-- of the record with this number, counted from 0: no owner's name stands at its place; or octets are missing after
-- that name; or its data are at fault
pub data IsRecordFault (bytes : List ℕ) (number at : ℕ) : DnsFault → Type 0 where
  no_name : HasNoNameAt bytes at → IsRecordFault bytes number at (Name at)
  cut : (owner : List (List ℕ)) (behind : ℕ) → NameAt bytes at owner behind → length bytes < data_end bytes behind
      → IsRecordFault bytes number at (Record number)
  data_fault : (owner : List (List ℕ)) (behind : ℕ) (fault : DnsFault) → NameAt bytes at owner behind
      → data_end bytes behind ≤ length bytes → IsOfRelays bytes behind
      → IsDataFault bytes number (data_place behind) (data_end bytes behind) fault → IsRecordFault bytes number at fault

-- one of that many records that begin at a place is at fault, and those before it are not
pub record IsFaultAmong (bytes : List ℕ) (start count : ℕ) (fault : DnsFault) : Type 0 where
  pub number : ℕ
  pub at : ℕ
  pub found : List Found
  pub counted : number < count
  pub before : AreRecords bytes start number found at
  pub is : IsRecordFault bytes number at fault

-- the first fault: of the head; of the question after a head; or of a record after both
pub data IsFirstFault (id : ℕ) (name : List (List ℕ)) (bytes : List ℕ) : DnsFault → Type 0 where
  in_head : (fault : DnsFault) → first_holding (head_faults id bytes) ≡ Some fault → IsFirstFault id name bytes fault
  in_question : (fault : DnsFault) → IsHead id bytes → IsQuestionFault name bytes fault → IsFirstFault id name bytes fault
  in_record : (fault : DnsFault) (start : ℕ) → IsHead id bytes → IsQuestion name bytes start
      → IsFaultAmong bytes start (answer_count bytes) fault → IsFirstFault id name bytes fault
