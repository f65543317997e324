-- A table, and octets, have one configuration or one first fault.
use Rattle.std.{proofs.Common.{◌≡◌, ◌⊎◌, ℕ, List, Some, Result, Ok, Err, inl, inr, sym, subst, ap, ◌∙◌}, specs.Prelude.{IfOk, IfErr}}
use Rattle.toml.specs.Data.{Members}
use Rattle.amt_config.{specs.{declared.fault.ConfigFault.{ConfigFault, TheVariants.{Memory, Unknown}}, Key.{Key}, Table.{AreKnown, HasNoTable, IsFirstFault, IsFirstFaultOfFile, IsFile, IsTableOf, IsUnknownFault, IsValueFault, key_words}}, proofs.{Faults.{AreRight, else_by, one_first}, Scanning.{one_unknown}}}
use Rattle.amt_config.specs.declared.fault.ConfigFault.TheVariants as faults

one_unknown_fault : (words : List (List ℕ)) (table : Members) (one other : ConfigFault) → IsUnknownFault words table one → IsUnknownFault words table other → one ≡ other
one_unknown_fault words table one other h k = h.is ∙ (ap (λ (word : List ℕ). Unknown word) (one_unknown words table h.word k.word h.least k.least) ∙ sym k.is)

one_table : (bytes : List ℕ) (table other : Members) → IsTableOf table bytes → IsTableOf other bytes → table ≡ other
one_table bytes table other h k = let both : Some table ≡ Some other = sym h.1 ∙ k.1 in cc

-- where a table has one configuration, or one fault of all values together
module _ {C : Type 0} (keys : Members → List Key) (Together : Members → ConfigFault → Type 0) (ConfigOf : Members → C → Type 0)
    (known : (table : Members) (config : C) → ConfigOf table config → AreKnown (key_words (keys table)) table)
    (right : (table : Members) (config : C) → ConfigOf table config → AreRight table (keys table))
    (one_config : (table : Members) (one other : C) → ConfigOf table one → ConfigOf table other → one ≡ other)
    (one_together : (table : Members) (one other : ConfigFault) → Together table one → Together table other → one ≡ other)
    (not_together : (table : Members) (config : C) (fault : ConfigFault) → ConfigOf table config → Together table fault → ⊥) where
  abbrev First : Members → ConfigFault → Type 0
  First table fault = IsFirstFault (keys table) Together table fault

  pub one_fault : (table : Members) (one other : ConfigFault) → First table one → First table other → one ≡ other
  one_fault table one other (inl h) (inl k) = one_unknown_fault _ table one other h k
  one_fault table one other (inl h) (inr k) = absurd (k.0 h.word h.least.unknown)
  one_fault table one other (inr h) (inl k) = absurd (h.0 k.word k.least.unknown)
  one_fault table one other (inr h) (inr k) = one_first table (keys table) (Together table) (one_together table) one other h.1 k.1

  pub config_or_fault : (table : Members) (config : C) (fault : ConfigFault) → ConfigOf table config → First table fault → ⊥
  config_or_fault table config fault of (inl h) = known table config of h.word h.least.unknown
  config_or_fault table config fault of (inr h) =
      not_together table config fault of (else_by table (keys table) fault (Together table fault) (right table config of) h.1)

  same_config : (bytes : List ℕ) (one other : C) → IsFile (λ table. ConfigOf table one) bytes → IsFile (λ table. ConfigOf table other) bytes → one ≡ other
  same_config bytes one other h k =
      one_config h.0 one other h.2 (subst (λ (t : Members). ConfigOf t other) (one_table bytes k.0 h.0 k.1 h.1) k.2)

  file_or_fault : (bytes : List ℕ) (config : C) (fault : ConfigFault) → IsFile (λ table. ConfigOf table config) bytes → IsFirstFaultOfFile First fault bytes → ⊥
  file_or_fault bytes config fault h (inl none) = none.0 h.0 h.1
  file_or_fault bytes config fault h (inr k) =
      config_or_fault h.0 config fault h.2 (subst (λ (t : Members). First t fault) (one_table bytes k.0 h.0 k.1 h.1) k.2)

  same_fault : (bytes : List ℕ) (one other : ConfigFault) → IsFirstFaultOfFile First one bytes → IsFirstFaultOfFile First other bytes → one ≡ other
  same_fault bytes one other (inl h) (inl k) = h.1 ∙ sym k.1
  same_fault bytes one other (inl h) (inr k) = absurd (h.0 k.0 k.1)
  same_fault bytes one other (inr h) (inl k) = absurd (k.0 h.0 h.1)
  same_fault bytes one other (inr h) (inr k) =
      one_fault h.0 one other h.2 (subst (λ (t : Members). First t other) (one_table bytes k.0 h.0 k.1 h.1) k.2)

  -- a configuration that the octets say is the answer
  pub exact_config : (bytes : List ℕ) (result : Result C ConfigFault)
      → IfOk result (λ config. IsFile (λ table. ConfigOf table config) bytes)
      → IfErr result (λ fault. IsFirstFaultOfFile First fault bytes ⊎ (fault ≡ Memory))
      → (config : C) → IsFile (λ table. ConfigOf table config) bytes → (result ≡ Ok config) ⊎ (result ≡ Err Memory)
  exact_config bytes (Ok value) found fault config says = inl (ap Ok (same_config bytes value config found says))
  exact_config bytes (Err error) found (inl fault) config says = absurd (file_or_fault bytes config error says fault)
  exact_config bytes (Err error) found (inr memory) config says = inr (ap Err memory)

  -- a first fault of the octets is the answer
  pub exact_fault : (bytes : List ℕ) (result : Result C ConfigFault)
      → IfOk result (λ config. IsFile (λ table. ConfigOf table config) bytes)
      → IfErr result (λ fault. IsFirstFaultOfFile First fault bytes ⊎ (fault ≡ Memory))
      → (first : ConfigFault) → IsFirstFaultOfFile First first bytes → (result ≡ Err first) ⊎ (result ≡ Err Memory)
  exact_fault bytes (Ok value) found fault first says = absurd (file_or_fault bytes value first found says)
  exact_fault bytes (Err error) found (inl fault) first says = inl (ap Err (same_fault bytes error first fault says))
  exact_fault bytes (Err error) found (inr memory) first says = inr (ap Err memory)

-- octets that are no file, for what their reader answers
pub no_file : (First : Members → ConfigFault → Type 0) (bytes : List ℕ) (fault : ConfigFault) → (HasNoTable bytes × (fault ≡ faults.NotToml)) ⊎ (fault ≡ Memory)
    → IsFirstFaultOfFile First fault bytes ⊎ (fault ≡ Memory)
no_file First bytes fault (inl none) = inl (inl none)
no_file First bytes fault (inr memory) = inr memory

pub in_file : (First : Members → ConfigFault → Type 0) (bytes : List ℕ) (table : Members) (fault : ConfigFault) → IsTableOf table bytes
    → First table fault ⊎ (fault ≡ Memory) → IsFirstFaultOfFile First fault bytes ⊎ (fault ≡ Memory)
in_file First bytes table fault is (inl first) = inl (inr (table, is, first))
in_file First bytes table fault is (inr memory) = inr memory

-- and tables with an unknown key, or with a fault of their values
pub unknown_fault_or : (keys : List Key) (Together : Members → ConfigFault → Type 0) (table : Members) (fault : ConfigFault)
    → IsUnknownFault (key_words keys) table fault ⊎ (fault ≡ Memory) → IsFirstFault keys Together table fault ⊎ (fault ≡ Memory)
unknown_fault_or keys Together table fault (inl unknown) = inl (inl unknown)
unknown_fault_or keys Together table fault (inr memory) = inr memory

pub value_fault_or : (keys : List Key) (Together : Members → ConfigFault → Type 0) (table : Members) (fault : ConfigFault) → AreKnown (key_words keys) table
    → IsValueFault keys Together table fault ⊎ (fault ≡ Memory) → IsFirstFault keys Together table fault ⊎ (fault ≡ Memory)
value_fault_or keys Together table fault known (inl value) = inl (inr (known, value))
value_fault_or keys Together table fault known (inr memory) = inr memory
