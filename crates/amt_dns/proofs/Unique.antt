-- Octets are one answer at most, or have one first fault: each outcome of a place excludes the others.
use Rattle.std.proofs.lemmas.Bool.{cases_lt}
use Rattle.std.proofs.Common.{◌≡◌, ℕ, ◌+◌, ◌<◌, ◌≤◌, List, [], ◌∷◌, length, inl, inr, refl, sym, ap, subst, ◌∙◌, Some, arith}
use Rattle.amt_values.specs.{Conditions.{first_holding}, declared.address.Ip.TheVariants.{V4, V6}}
use Rattle.amt_dns_names.{specs.NameAt.{HasNoNameAt, NameAt}, proofs.OneName.{NameAt-unique}}
use Rattle.amt_dns.specs.{declared.{fault.DnsFault.{DnsFault, TheVariants.{Name, Record}}, found.{Found.{Found}, Relay.{Relay}}}, Answer.{AreRecords, IsAnswer, IsHead, IsOfRelays, IsQuestion, IsRecord, IsRelay, Says, IsRelayData, answer_count, data_end, data_place, relay_length, relay_type}, Fault.{IsDataFault, IsFaultAmong, IsFirstFault, IsQuestionFault, IsRecordFault, head_faults}}
use Rattle.amt_dns.specs.declared.found.Relay.TheVariants as relays

-- one question has one end, and no fault or one
question_end : (name : List (List ℕ)) (bytes : List ℕ) (one other : ℕ) → IsQuestion name bytes one → IsQuestion name bytes other → one ≡ other
question_end name bytes one other first second =
    let same = NameAt-unique bytes 12 first.labels second.labels first.behind second.behind first.named second.named in
    omega (arith, same.1, first.ends, second.ends)

no_question_fault : (name : List (List ℕ)) (bytes : List ℕ) (end : ℕ) (fault : DnsFault) → IsQuestion name bytes end
    → IsQuestionFault name bytes fault → ⊥
no_question_fault name bytes end fault question (IsQuestionFault.no_name none) = none question.labels question.behind question.named
no_question_fault name bytes end fault question (IsQuestionFault.other labels behind named not) =
    let same = NameAt-unique bytes 12 question.labels labels question.behind behind question.named named in
    not (rw (← same.0, ← same.1) question.asks)

question_fault : (name : List (List ℕ)) (bytes : List ℕ) (one other : DnsFault) → IsQuestionFault name bytes one
    → IsQuestionFault name bytes other → one ≡ other
question_fault name bytes one other (IsQuestionFault.no_name none) (IsQuestionFault.no_name _) = refl
question_fault name bytes one other (IsQuestionFault.no_name none) (IsQuestionFault.other labels behind named _) = absurd (none labels behind named)
question_fault name bytes one other (IsQuestionFault.other labels behind named _) (IsQuestionFault.no_name none) = absurd (none labels behind named)
question_fault name bytes one other (IsQuestionFault.other _ _ _ _) (IsQuestionFault.other _ _ _ _) = refl

-- one relay stands there
relay_same : (bytes : List ℕ) (kind at end : ℕ) (one other : Relay) → IsRelay bytes kind at end one → IsRelay bytes kind at end other → one ≡ other
relay_same bytes kind at end relays.None relays.None first second = refl
relay_same bytes kind at end (relays.At (V4 one)) (relays.At (V4 other)) first second = cc
relay_same bytes kind at end (relays.At (V6 one)) (relays.At (V6 other)) first second = cc
relay_same bytes kind at end (relays.Named one) (relays.Named other) first second =
    ap relays.Named (NameAt-unique bytes at one other end end first.1 second.1).0
relay_same bytes kind at end relays.None (relays.At (V4 _)) first second = absurd (omega arith)
relay_same bytes kind at end (relays.Named _) (relays.At (V4 _)) first second = absurd (omega arith)
relay_same bytes kind at end one other first second = absurd (omega (arith, first.0, second.0))

-- its type is one of the four, which says where it ends or that a name stands there
relay_known : (bytes : List ℕ) (kind at end : ℕ) (relay : Relay) → IsRelay bytes kind at end relay → kind ≤ 3
relay_known bytes kind at end relays.None is = omega arith
relay_known bytes kind at end (relays.At (V4 _)) is = omega arith
relay_known bytes kind at end (relays.At (V6 _)) is = omega arith
relay_known bytes kind at end (relays.Named _) is = omega arith

relay_ends : (bytes : List ℕ) (kind at end : ℕ) (relay : Relay) → IsRelay bytes kind at end relay → kind ≤ 2 → end ≡ at + relay_length kind
relay_ends bytes kind at end relays.None is few = rw is.0 (omega arith)
relay_ends bytes kind at end (relays.At (V4 _)) is few = rw is.0 is.1
relay_ends bytes kind at end (relays.At (V6 _)) is few = rw is.0 is.1
relay_ends bytes kind at end (relays.Named _) is few = absurd (omega arith)

relay_named : (bytes : List ℕ) (kind at end : ℕ) (relay : Relay) → IsRelay bytes kind at end relay → kind ≡ 3
    → (labels : List (List ℕ)) × NameAt bytes at labels end
relay_named bytes kind at end (relays.Named labels) is named = (labels, is.1)
relay_named bytes kind at end relays.None is named = absurd (omega arith)
relay_named bytes kind at end (relays.At (V4 _)) is named = absurd (omega arith)
relay_named bytes kind at end (relays.At (V6 _)) is named = absurd (omega arith)

-- data have one relay, or one fault
tells_same : (bytes : List ℕ) (begin end : ℕ) (one other : Found) → IsRelayData bytes begin end one → IsRelayData bytes begin end other → one ≡ other
tells_same bytes begin end one other first second =
    let precedence = first.precedence ∙ sym second.precedence in
    let direct = first.direct ∙ sym second.direct in
    let relay = relay_same bytes (relay_type bytes begin) (begin + 2) end one.relay other.relay first.relay second.relay in
    λ i. record { precedence = precedence i; direct = direct i; relay = relay i }

known_kind : (bytes : List ℕ) (begin end : ℕ) (found : Found) → IsRelayData bytes begin end found → 3 < relay_type bytes begin → ⊥
known_kind bytes begin end found tells above =
    omega (arith, relay_known bytes (relay_type bytes begin) (begin + 2) end found.relay tells.relay)

no_data_fault : (bytes : List ℕ) (number begin end : ℕ) (found : Found) (fault : DnsFault) → IsRelayData bytes begin end found
    → IsDataFault bytes number begin end fault → ⊥
no_data_fault bytes number begin end found fault tells (IsDataFault.short few) = omega (arith, tells.head)
no_data_fault bytes number begin end found fault tells (IsDataFault.other_length _ low not) =
    not (relay_ends bytes (relay_type bytes begin) (begin + 2) end found.relay tells.relay low)
no_data_fault bytes number begin end found fault tells (IsDataFault.no_name _ kind none) =
    let named = relay_named bytes (relay_type bytes begin) (begin + 2) end found.relay tells.relay kind in
    none named.0 end named.1
no_data_fault bytes number begin end found fault tells (IsDataFault.other_end labels behind _ kind there not) =
    let named = relay_named bytes (relay_type bytes begin) (begin + 2) end found.relay tells.relay kind in
    not (NameAt-unique bytes (begin + 2) named.0 labels end behind named.1 there).1

no_name_fault : (bytes : List ℕ) (number begin end : ℕ) (fault : DnsFault) → begin + 2 ≤ end → relay_type bytes begin ≡ 3
    → HasNoNameAt bytes (begin + 2) → IsDataFault bytes number begin end fault → Name (begin + 2) ≡ fault
no_name_fault bytes number begin end fault long kind none (IsDataFault.no_name _ _ _) = refl
no_name_fault bytes number begin end fault long kind none (IsDataFault.short few) = absurd (omega arith)
no_name_fault bytes number begin end fault long kind none (IsDataFault.other_length _ low _) = absurd (omega arith)
no_name_fault bytes number begin end fault long kind none (IsDataFault.other_end labels behind _ _ there _) = absurd (none labels behind there)

data_fault_same : (bytes : List ℕ) (number begin end : ℕ) (one other : DnsFault) → IsDataFault bytes number begin end one
    → IsDataFault bytes number begin end other → one ≡ other
data_fault_same bytes number begin end one other (IsDataFault.no_name long kind none) second = no_name_fault bytes number begin end other long kind none second
data_fault_same bytes number begin end one other first (IsDataFault.no_name long kind none) = sym (no_name_fault bytes number begin end one long kind none first)
data_fault_same bytes number begin end one other first second = refl

-- a record says one thing, and none at fault says any
says_same : (bytes : List ℕ) (behind : ℕ) (one other : List Found) → Says bytes behind one → Says bytes behind other → one ≡ other
says_same bytes behind one other (Says.relay first _ here) (Says.relay second _ there) =
    ap (λ (found : Found). found ∷ []) (tells_same bytes (data_place behind) (data_end bytes behind) first second here there)
says_same bytes behind one other (Says.relay first is _) (Says.other not) = absurd (not is)
says_same bytes behind one other (Says.relay first _ here) (Says.unknown _ _ other_kind) = absurd (known_kind bytes (data_place behind) (data_end bytes behind) first here other_kind)
says_same bytes behind one other (Says.other not) (Says.relay second is _) = absurd (not is)
says_same bytes behind one other (Says.unknown _ _ other_kind) (Says.relay second _ here) = absurd (known_kind bytes (data_place behind) (data_end bytes behind) second here other_kind)
says_same bytes behind one other first second = refl

says_no_fault : (bytes : List ℕ) (number behind : ℕ) (found : List Found) (fault : DnsFault) → Says bytes behind found → IsOfRelays bytes behind
    → IsDataFault bytes number (data_place behind) (data_end bytes behind) fault → ⊥
says_no_fault bytes number behind found fault (Says.other not) is wrong = not is
says_no_fault bytes number behind found fault (Says.relay one _ tells) is wrong = no_data_fault bytes number (data_place behind) (data_end bytes behind) one fault tells wrong
says_no_fault bytes number behind found fault (Says.unknown _ long kind) is (IsDataFault.short few) = omega arith
says_no_fault bytes number behind found fault (Says.unknown _ long kind) is (IsDataFault.other_length _ low _) = omega arith
says_no_fault bytes number behind found fault (Says.unknown _ long kind) is (IsDataFault.no_name _ three _) = omega arith
says_no_fault bytes number behind found fault (Says.unknown _ long kind) is (IsDataFault.other_end _ _ _ three _ _) = omega arith

-- what a record is, by the place where its owner's name ends
record Fields (bytes : List ℕ) (behind : ℕ) (found : List Found) (end : ℕ) : Type 0 where
  says : Says bytes behind found
  ends : end ≡ data_end bytes behind
  whole : data_end bytes behind ≤ length bytes

fields : (bytes : List ℕ) (at : ℕ) (owner : List (List ℕ)) (behind : ℕ) (found : List Found) (end : ℕ) → NameAt bytes at owner behind
    → IsRecord bytes at found end → Fields bytes behind found end
fields bytes at owner behind found end named one =
    let same = (NameAt-unique bytes at one.owner owner one.behind behind one.named named).1 in
    subst (λ (place : ℕ). Fields bytes place found end) same (record { says = one.says; ends = one.ends; whole = rw (← one.ends) one.whole })

record_same : (bytes : List ℕ) (at : ℕ) (one other : List Found) (end last : ℕ) → IsRecord bytes at one end → IsRecord bytes at other last
    → (one ≡ other) × (end ≡ last)
record_same bytes at one other end last first second =
    let here = fields bytes at first.owner first.behind other last first.named second in
    (says_same bytes first.behind one other first.says here.says, first.ends ∙ sym here.ends)

no_record_fault : (bytes : List ℕ) (number at : ℕ) (found : List Found) (end : ℕ) (fault : DnsFault) → IsRecord bytes at found end
    → IsRecordFault bytes number at fault → ⊥
no_record_fault bytes number at found end fault one (IsRecordFault.no_name none) = none one.owner one.behind one.named
no_record_fault bytes number at found end fault one (IsRecordFault.cut owner behind named short) =
    let here = fields bytes at owner behind found end named one in omega arith
no_record_fault bytes number at found end fault one (IsRecordFault.data_fault owner behind _ named _ is wrong) =
    let here = fields bytes at owner behind found end named one in says_no_fault bytes number behind found fault here.says is wrong

-- what is wrong with a record, by the place where its owner's name ends
data FieldsFault (bytes : List ℕ) (number behind : ℕ) : DnsFault → Type 0 where
  cut : length bytes < data_end bytes behind → FieldsFault bytes number behind (Record number)
  data_fault : (fault : DnsFault) → data_end bytes behind ≤ length bytes
      → IsDataFault bytes number (data_place behind) (data_end bytes behind) fault → FieldsFault bytes number behind fault

fields_fault : (bytes : List ℕ) (number at : ℕ) (owner : List (List ℕ)) (behind : ℕ) (fault : DnsFault) → NameAt bytes at owner behind
    → IsRecordFault bytes number at fault → FieldsFault bytes number behind fault
fields_fault bytes number at owner behind fault named (IsRecordFault.no_name none) = absurd (none owner behind named)
fields_fault bytes number at owner behind fault named (IsRecordFault.cut other place there short) =
    subst (λ (place : ℕ). FieldsFault bytes number place fault) (NameAt-unique bytes at other owner place behind there named).1 (FieldsFault.cut short)
fields_fault bytes number at owner behind fault named (IsRecordFault.data_fault other place _ there whole _ wrong) =
    subst (λ (place : ℕ). FieldsFault bytes number place fault) (NameAt-unique bytes at other owner place behind there named).1 (FieldsFault.data_fault fault whole wrong)

fields_fault_same : (bytes : List ℕ) (number behind : ℕ) (one other : DnsFault) → FieldsFault bytes number behind one
    → FieldsFault bytes number behind other → one ≡ other
fields_fault_same bytes number behind one other (FieldsFault.cut _) (FieldsFault.cut _) = refl
fields_fault_same bytes number behind one other (FieldsFault.cut short) (FieldsFault.data_fault _ whole _) = absurd (omega arith)
fields_fault_same bytes number behind one other (FieldsFault.data_fault _ whole _) (FieldsFault.cut short) = absurd (omega arith)
fields_fault_same bytes number behind one other (FieldsFault.data_fault _ _ first) (FieldsFault.data_fault _ _ second) =
    data_fault_same bytes number (data_place behind) (data_end bytes behind) one other first second

no_owner_fault : (bytes : List ℕ) (number at : ℕ) (fault : DnsFault) → HasNoNameAt bytes at → IsRecordFault bytes number at fault → Name at ≡ fault
no_owner_fault bytes number at fault none (IsRecordFault.no_name _) = refl
no_owner_fault bytes number at fault none (IsRecordFault.cut owner behind named _) = absurd (none owner behind named)
no_owner_fault bytes number at fault none (IsRecordFault.data_fault owner behind _ named _ _ _) = absurd (none owner behind named)

record_fault : (bytes : List ℕ) (number at : ℕ) (one other : DnsFault) → IsRecordFault bytes number at one
    → IsRecordFault bytes number at other → one ≡ other
record_fault bytes number at one other (IsRecordFault.no_name none) second = no_owner_fault bytes number at other none second
record_fault bytes number at one other (IsRecordFault.cut owner behind named short) second =
    fields_fault_same bytes number behind one other (FieldsFault.cut short) (fields_fault bytes number at owner behind other named second)
record_fault bytes number at one other (IsRecordFault.data_fault owner behind _ named whole _ wrong) second =
    fields_fault_same bytes number behind one other (FieldsFault.data_fault one whole wrong) (fields_fault bytes number at owner behind other named second)

-- as many records say one thing and have one end
records_same : (bytes : List ℕ) (start many count : ℕ) (one other : List Found) (end last : ℕ) → many ≡ count
    → AreRecords bytes start many one end → AreRecords bytes start count other last → (one ≡ other) × (end ≡ last)
records_same bytes start many count one other end last is AreRecords.none AreRecords.none = (refl, refl)
records_same bytes start many count one other end last is AreRecords.none (AreRecords.more _ _ _ _ _ _ _) = absurd (omega arith)
records_same bytes start many count one other end last is (AreRecords.more _ _ _ _ _ _ _) AreRecords.none = absurd (omega arith)
records_same bytes start many count one other end last is (AreRecords.more n at _ found one_last before record_here) (AreRecords.more m place _ before_found other_last earlier there) =
    let same = records_same bytes start n m found before_found at place (omega arith) before earlier in
    let here = record_same bytes place one_last other_last end last (rw (← same.1) record_here) there in
    (cc, here.1)

-- none of the records up to their count is at fault
no_fault_among : (bytes : List ℕ) (start count : ℕ) (all : List Found) (end number at : ℕ) (found : List Found) (fault : DnsFault)
    → AreRecords bytes start count all end → number < count → AreRecords bytes start number found at → IsRecordFault bytes number at fault → ⊥
no_fault_among bytes start count all end number at found fault AreRecords.none less before is = omega arith
no_fault_among bytes start count all end number at found fault (AreRecords.more n place _ earlier last records here) less before is =
    elim (cases_lt number n) [
      | inl lower ↦ no_fault_among bytes start n earlier place number at found fault records lower before is
      | inr not ↦
          let same = records_same bytes start number n found earlier at place (omega arith) before records in
          no_record_fault bytes number place last end fault here (rw (← same.1) is)
    ]

fault_among : (bytes : List ℕ) (start count : ℕ) (one other : DnsFault) → IsFaultAmong bytes start count one → IsFaultAmong bytes start count other → one ≡ other
fault_among bytes start count one other first second =
    elim (cases_lt first.number second.number) [
      | inl less ↦ absurd (no_fault_among bytes start second.number second.found second.at first.number first.at first.found one second.before less first.before first.is)
      | inr not ↦ elim (cases_lt second.number first.number) [
        | inl less ↦ absurd (no_fault_among bytes start first.number first.found first.at second.number second.at second.found other first.before less second.before second.is)
        | inr neither ↦
            let number : second.number ≡ first.number = omega arith in
            let place = (records_same bytes start second.number first.number second.found first.found second.at first.at number second.before first.before).1 in
            record_fault bytes first.number first.at one other first.is (rw (← number, ← place) second.is)
      ]
    ]

-- a head has no fault
no_head_fault : (id : ℕ) (bytes : List ℕ) (fault : DnsFault) → IsHead id bytes → first_holding (head_faults id bytes) ≡ Some fault → ⊥
no_head_fault id bytes fault head is = grind arith

pub IsAnswer-unique : (id : ℕ) (name : List (List ℕ)) (one other : List Found) (bytes : List ℕ) → IsAnswer id name one bytes → IsAnswer id name other bytes → one ≡ other
IsAnswer-unique id name one other bytes first second =
    let same = question_end name bytes second.start first.start second.question first.question in
    (records_same bytes first.start (answer_count bytes) (answer_count bytes) one other first.end second.end refl first.records (rw (← same) second.records)).0

pub no_fault_of_answer : (id : ℕ) (name : List (List ℕ)) (found : List Found) (bytes : List ℕ) (fault : DnsFault) → IsAnswer id name found bytes → IsFirstFault id name bytes fault → ⊥
no_fault_of_answer id name found bytes fault answer (IsFirstFault.in_head _ is) = no_head_fault id bytes fault answer.head is
no_fault_of_answer id name found bytes fault answer (IsFirstFault.in_question _ _ is) = no_question_fault name bytes answer.start fault answer.question is
no_fault_of_answer id name found bytes fault answer (IsFirstFault.in_record _ start _ question is) =
    let same = question_end name bytes answer.start start answer.question question in
    no_fault_among bytes start (answer_count bytes) found answer.end is.number is.at is.found fault (rw (← same) answer.records) is.counted is.before is.is

pub IsFirstFault-unique : (id : ℕ) (name : List (List ℕ)) (bytes : List ℕ) (one other : DnsFault) → IsFirstFault id name bytes one → IsFirstFault id name bytes other → one ≡ other
IsFirstFault-unique id name bytes one other (IsFirstFault.in_head _ first) (IsFirstFault.in_head _ second) = cc
IsFirstFault-unique id name bytes one other (IsFirstFault.in_head _ first) (IsFirstFault.in_question _ head _) = absurd (no_head_fault id bytes one head first)
IsFirstFault-unique id name bytes one other (IsFirstFault.in_head _ first) (IsFirstFault.in_record _ _ head _ _) = absurd (no_head_fault id bytes one head first)
IsFirstFault-unique id name bytes one other (IsFirstFault.in_question _ head _) (IsFirstFault.in_head _ second) = absurd (no_head_fault id bytes other head second)
IsFirstFault-unique id name bytes one other (IsFirstFault.in_record _ _ head _ _) (IsFirstFault.in_head _ second) = absurd (no_head_fault id bytes other head second)
IsFirstFault-unique id name bytes one other (IsFirstFault.in_question _ _ first) (IsFirstFault.in_question _ _ second) = question_fault name bytes one other first second
IsFirstFault-unique id name bytes one other (IsFirstFault.in_question _ _ is) (IsFirstFault.in_record _ start _ question _) = absurd (no_question_fault name bytes start one question is)
IsFirstFault-unique id name bytes one other (IsFirstFault.in_record _ start _ question _) (IsFirstFault.in_question _ _ is) = absurd (no_question_fault name bytes start other question is)
IsFirstFault-unique id name bytes one other (IsFirstFault.in_record _ start _ question first) (IsFirstFault.in_record _ place _ question_there second) =
    let same = question_end name bytes place start question_there question in
    fault_among bytes start (answer_count bytes) one other first (rw (← same) second)
