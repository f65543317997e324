-- An input asks for one lookup of a source at most, or has one fault.
use Rattle.std.{proofs.Common.{◌≡◌, ◌≢◌, ◌⊎◌, ℕ, List, [], ◌∷◌, ◌++◌, length, Option, Some, None, codes, inl, inr, refl, sym, subst, ap, ◌∙◌}, specs.Str.Lines.{lines}}
use Rattle.amt_values.{specs.{declared.address.Ip.{Ip}, Text.{IsIpText}}, proofs.Unique.{IsIpText-unique}}
use Rattle.script_lines.{specs.{Lines.{lines_that_say}, Script.{Say, Spells}}, proofs.Verdicts.{one_script}}
use Rattle.amt_dump.{proofs.Lawful.{dump_kind_lawful}, specs.Lines.{dump_kind}}
use Rattle.amt_dns_names.specs.Reverse.{reverse_labels}
use Rattle.amt_dns.{specs.{declared.{fault.DnsFault.{DnsFault}, found.Found.{Found}}, Answer.{IsAnswer}, Fault.{IsFirstFault}, Texts.{fault_text}}, proofs.Unique.{IsAnswer-unique, IsFirstFault-unique, no_fault_of_answer}}
use Rattle.amt_command.proofs.Faults.{told_by}
use Rattle.amt_command.specs.{declared.{dns.Lookup.{Lookup}, task.TaskFault.{TaskFault}}, Command.{dns_task}, Dns.{GivesAnswer, IsAnswerLine, IsLookup, IsLookupFault, TellsLookup, answer, input, source}, Task.{IsErrorBy}}
use Rattle.amt_command.specs.declared.task.TaskFault.TheVariants as faults
use Rattle.amt_dns.specs.declared.fault.DnsFault.TheVariants as causes

nothing_says : (octets : List ℕ) (said : List (List ℕ)) → octets ∷ [] ≡ said → Say dump_kind [] said [] → ⊥
nothing_says octets [] same says = cc same
nothing_says octets (one ∷ more) same says = says

module _ (bytes : List ℕ) where
  -- the octets of the one line
  one_line : (octets other : List ℕ) → IsAnswerLine octets bytes → IsAnswerLine other bytes → octets ≡ other
  one_line octets other h k =
      let same : octets ∷ [] ≡ other ∷ [] = one_script dump_kind dump_kind_lawful bytes (octets ∷ []) (other ∷ []) h k in
      cc same

  -- no line is in an input without an octet
  no_line : (octets : List ℕ) → bytes ≡ [] → IsAnswerLine octets bytes → ⊥
  no_line octets none h = nothing_says octets h.said h.made (subst (λ (bs : List ℕ). Say dump_kind [] h.said (lines_that_say (lines bs))) none h.all_lines.says)

  -- nor in one of more or fewer lines
  pub not_one : (datagrams : List (List ℕ)) → Spells dump_kind datagrams bytes → (length datagrams ≡ 1 → ⊥) → (octets : List ℕ) → IsAnswerLine octets bytes → ⊥
  not_one datagrams spelled other octets h =
      other (ap (λ (list : List (List ℕ)). length list) (one_script dump_kind dump_kind_lawful bytes datagrams (octets ∷ []) spelled h))

  -- of the same source
  answer_of : (ip ip' : Ip) (found : List Found) (octets other : List ℕ) → ip ≡ ip' → IsAnswerLine octets bytes → IsAnswerLine other bytes
      → IsAnswer 0 (reverse_labels ip) found octets → IsAnswer 0 (reverse_labels ip') found other
  answer_of ip ip' found octets other same h k is =
      subst (λ (bs : List ℕ). IsAnswer 0 (reverse_labels ip') found bs) (one_line octets other h k)
      (subst (λ (i : Ip). IsAnswer 0 (reverse_labels i) found octets) same is)

  one_answer : (ip ip' : Ip) (one other : Option (List Found)) → ip ≡ ip' → GivesAnswer ip one bytes → GivesAnswer ip' other bytes → one ≡ other
  one_answer ip ip' None None same h k = refl
  one_answer ip ip' None (Some found) same h k = absurd (no_line k.0 h k.1)
  one_answer ip ip' (Some found) None same h k = absurd (no_line h.0 k h.1)
  one_answer ip ip' (Some found) (Some found') same h k =
      ap (λ (list : List Found). Some list)
      (IsAnswer-unique 0 (reverse_labels ip') found found' k.0 (answer_of ip ip' found h.0 k.0 same h.1 k.1 h.2) k.2)

  -- an input with an answer has no fault
  no_fault : (ip ip' : Ip) (one : Option (List Found)) (octets : List ℕ) (fault : DnsFault) → ip ≡ ip' → GivesAnswer ip one bytes → IsAnswerLine octets bytes
      → IsFirstFault 0 (reverse_labels ip') octets fault → ⊥
  no_fault ip ip' None octets fault same h line is = no_line octets h line
  no_fault ip ip' (Some found) octets fault same h line is =
      no_fault_of_answer 0 (reverse_labels ip') found octets fault (answer_of ip ip' found h.0 octets same h.1 line h.2) is

  no_answer : (ip : Ip) (one : Option (List Found)) → (bytes ≡ [] → ⊥) → ((octets : List ℕ) → IsAnswerLine octets bytes → ⊥) → GivesAnswer ip one bytes → ⊥
  no_answer ip None some none h = some h
  no_answer ip (Some found) some none h = none h.0 h.1

  module _ (word : List ℕ) where
    -- what the word names, and what the input gives
    not_both : (lookup : Lookup) (cause : List ℕ) → IsLookup word lookup bytes → IsLookupFault word bytes cause → ⊥
    not_both lookup cause h (source none) = none lookup.source h.source
    not_both lookup cause h (input ip names some none) = no_answer lookup.source lookup.answer some none h.answer
    not_both lookup cause h (answer ip octets fault names line is) =
        no_fault lookup.source ip lookup.answer octets fault (IsIpText-unique lookup.source ip word h.source names) h.answer line is

    same_cause : (cause other : List ℕ) → IsLookupFault word bytes cause → IsLookupFault word bytes other → cause ≡ other
    same_cause cause other (source none) (source none') = refl
    same_cause cause other (source none) (input ip names some never) = absurd (none ip names)
    same_cause cause other (source none) (answer ip octets fault names line is) = absurd (none ip names)
    same_cause cause other (input ip names some never) (source none) = absurd (none ip names)
    same_cause cause other (input ip names some never) (input ip' names' some' never') = refl
    same_cause cause other (input ip names some never) (answer ip' octets fault names' line is) = absurd (never octets line)
    same_cause cause other (answer ip octets fault names line is) (source none) = absurd (none ip names)
    same_cause cause other (answer ip octets fault names line is) (input ip' names' some never) = absurd (never octets line)
    same_cause cause other (answer ip octets fault names line is) (answer ip' octets' fault' names' line' is') =
        let same = IsIpText-unique ip ip' word names names' in
        let moved = subst (λ (i : Ip). IsFirstFault 0 (reverse_labels i) octets fault) same is in
        let told = subst (λ (bs : List ℕ). IsFirstFault 0 (reverse_labels ip') bs fault) (one_line octets octets' line line') moved in
        ap fault_text (IsFirstFault-unique 0 (reverse_labels ip') octets' fault fault' told is')

abbrev of : Ip → Option (List Found) → Lookup
of ip list = record { source = ip; answer = list }

pub one_lookup : (word bytes : List ℕ) (one other : Lookup) → IsLookup word one bytes → IsLookup word other bytes → one ≡ other
one_lookup word bytes one other h k =
    let same = IsIpText-unique one.source other.source word h.source k.source in
    let answers = one_answer bytes one.source other.source one.answer other.answer same h.answer k.answer in
    ap (λ (ip : Ip). of ip one.answer) same ∙ ap (of other.source) answers

pub one_cause : (word bytes text text' : List ℕ) → TellsLookup word text bytes → TellsLookup word text' bytes → text ≡ text'
one_cause word bytes text text' h k = h.2 ∙ (ap (λ (cause : List ℕ). codes "dns: " ++ cause) (same_cause bytes word h.0 k.0 h.1 k.1) ∙ sym k.2)

-- a fault that gives the cause is the task's
pub fault_told : (word bytes cause : List ℕ) (fault : TaskFault) → (fault ≡ faults.Fault (codes "dns: " ++ cause)) ⊎ (fault ≡ faults.Memory)
    → IsLookupFault word bytes cause → IsErrorBy (dns_task word) bytes fault
fault_told word bytes cause fault told at =
    told_by (dns_task word) bytes (codes "dns: " ++ cause) fault told (λ lookup reads. not_both bytes word lookup cause reads at) (cause, at, refl)

-- the fault of the octets of the line
pub answer_told : (word bytes octets : List ℕ) (ip : Ip) (cause : DnsFault) (fault : TaskFault)
    → ((cause ≢ causes.Memory) × (fault ≡ faults.Fault (codes "dns: " ++ fault_text cause))) ⊎ (fault ≡ faults.Memory)
    → (cause ≢ causes.Memory → IsFirstFault 0 (reverse_labels ip) octets cause) → IsIpText ip word → IsAnswerLine octets bytes
    → IsErrorBy (dns_task word) bytes fault
answer_told word bytes octets ip cause fault (inl told) first names line =
    fault_told word bytes (fault_text cause) fault (inl told.1) (answer ip octets cause names line (first told.0))
answer_told word bytes octets ip cause fault (inr is) first names line = subst (IsErrorBy (dns_task word) bytes) (sym is) tt
