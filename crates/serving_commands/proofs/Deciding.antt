-- What octets are taken for.
use Rattle.std.proofs.Common.{◌≡◌, ◌⊎◌, ℕ, ◌<◌, ◌≤◌, List, length, Option, Some, Result, Ok, Err, IfOk, IfErr, IsErrOf, inl, inr, refl, sym, subst, ap, arith, ◌∙◌}
use Rattle.amt_config.specs.declared.fault.ConfigFault.{ConfigFault, TheVariants.{Memory as ConfigMemory, NotToml, Unknown, Missing, Kind, Address, Range, Loopback}}
use Rattle.amt_ports.specs.Contents.{IsContent}
use Rattle.amt_values.specs.declared.bytes.TheConstants.{INPUT_LIMIT}
use Rattle.serving_commands.specs.{Kinds.{SettingsKind}, Reading.{BlamesNoFile, Decides, IsConfigured, IsFaultIn, IsFaultOfReading, IsOverlong, IsUnread, TellsFault, fault_by}, declared.fault.ServingFault.{ServingFault, TheVariants.{Memory, NotOpened, NotRead, Settings, TooLong}}}

-- no configuration, for this fault
abbrev refusal : {S : Type 0} → ServingFault → Result S ServingFault
refusal fault = Err fault

-- how the fault is told
told_as : {S : Type 0} (one : ConfigFault) (fault : ServingFault) → fault ≡ fault_by one → (refusal {S = S} fault ≡ Err (Settings one)) ⊎ (refusal {S = S} fault ≡ Err Memory)
told_as ConfigMemory fault by = inr (ap Err by)
told_as NotToml fault by = inl (ap Err by)
told_as (Unknown key) fault by = inl (ap Err by)
told_as (Missing key) fault by = inl (ap Err by)
told_as (Kind key) fault by = inl (ap Err by)
told_as (Address key) fault by = inl (ap Err by)
told_as (Range key) fault by = inl (ap Err by)
told_as (Loopback key) fault by = inl (ap Err by)

-- an answer's fault is one of those that it may be
pub fault_is : {T : Type 0} (Is : ServingFault → Type 0) (result : Result T ServingFault) (fault : ServingFault) → IfErr result Is → IsErrOf result fault → Is fault
fault_is {T} Is result fault each is = subst (λ (same : Result T ServingFault). IfErr same Is) is each

-- equal octets are the file's too
pub of_file : (content : Option (List ℕ)) (octets taken : List ℕ) → taken ≡ octets → IsContent content octets → length octets ≤ INPUT_LIMIT
    → IsContent content taken × (length taken ≤ INPUT_LIMIT)
of_file content octets taken same are short = (
  subst (λ (one : List ℕ). IsContent content one) (sym same) are,
  subst (λ (one : List ℕ). length one ≤ INPUT_LIMIT) (sym same) short,
)

-- where they were read, they are those that are told
same_octets : (content : Option (List ℕ)) (octets told : List ℕ) → content ≡ Some told → IsContent content octets → octets ≡ told
same_octets content octets told is are = subst (λ (same : Option (List ℕ)). IsContent same octets) is are

blameless : {S : Type 0} (config : S) (result : Result S ServingFault) → (result ≡ Ok config) ⊎ (result ≡ Err Memory) → BlamesNoFile result
blameless {S} config result (inl is) = subst (λ (same : Result S ServingFault). BlamesNoFile same) (sym is) tt
blameless {S} config result (inr is) = subst (λ (same : Result S ServingFault). BlamesNoFile same) (sym is) tt

-- the same fault of another call
pub of_other : {T U : Type 0} (fault other : ServingFault) → IsErrOf {T = T} (Err fault) other → IsErrOf {T = U} (Err fault) other
of_other fault other is = let same : fault ≡ other = cc is in ap Err same

blameless_too : (T U : Type 0) (fault : ServingFault) → BlamesNoFile {T = T} (Err fault) → BlamesNoFile {T = U} (Err fault)
blameless_too T U NotRead none = tt
blameless_too T U TooLong none = none
blameless_too T U (Settings fault) none = none
blameless_too T U NotOpened none = tt
blameless_too T U Memory none = tt

unread_too : {T U : Type 0} (fault : ServingFault) → IsUnread {T = T} (Err fault) → IsUnread {T = U} (Err fault)
unread_too fault (inl unread) = inl (of_other fault NotRead unread)
unread_too fault (inr memory) = inr (of_other fault Memory memory)

module _ {S : Type 0} (kind : SettingsKind S) where
  -- what octets say is what is read of them, where anything is
  module _ (octets : List ℕ) (answer : Result S ConfigFault)
      (only : (config : S) → kind.IsFile config octets → (answer ≡ Ok config) ⊎ (answer ≡ Err ConfigMemory))
      (first : (fault : ConfigFault) → kind.IsFault fault octets → (answer ≡ Err fault) ⊎ (answer ≡ Err ConfigMemory)) where
    pub taken_only : (found : S) → answer ≡ Ok found → (config : S) → kind.IsFile config octets → found ≡ config
    taken_only found is config file = elim (only config file) [
      | inl same ↦ cc (same, is)
      | inr memory ↦ absurd (cc (memory, is))
    ]

    pub taken_faultless : (found : S) → answer ≡ Ok found → (fault : ConfigFault) → kind.IsFault fault octets → ⊥
    taken_faultless found is fault says = elim (first fault says) [
      | inl same ↦ cc (same, is)
      | inr memory ↦ cc (memory, is)
    ]

    -- a fault that is told is the first one, or memory ran out
    pub refused_only : (told : ConfigFault) (fault : ServingFault) → answer ≡ Err told → fault ≡ fault_by told → (config : S) → kind.IsFile config octets
        → (refusal fault ≡ Ok config) ⊎ (refusal {S = S} fault ≡ Err Memory)
    refused_only told fault is by config file = elim (only config file) [
      | inl same ↦ absurd (cc (same, is))
      | inr memory ↦ let want : told ≡ ConfigMemory = cc (memory, is) in inr (ap Err (by ∙ ap fault_by want))
    ]

    pub told_first : (told : ConfigFault) (fault : ServingFault) → answer ≡ Err told → fault ≡ fault_by told → (one : ConfigFault) → kind.IsFault one octets
        → (refusal {S = S} fault ≡ Err (Settings one)) ⊎ (refusal {S = S} fault ≡ Err Memory)
    told_first told fault is by one says = elim (first one says) [
      | inl same ↦ let as_told : told ≡ one = cc (same, is) in told_as one fault (by ∙ ap fault_by as_told)
      | inr memory ↦ let want : told ≡ ConfigMemory = cc (memory, is) in inr (ap Err (by ∙ ap fault_by want))
    ]

  fault_in_by : (octets : List ℕ) (told : ConfigFault) → kind.IsFault told octets ⊎ (told ≡ ConfigMemory) → IsFaultIn kind octets (fault_by told)
  fault_in_by octets ConfigMemory is = tt
  fault_in_by octets NotToml (inl is) = (is, λ memory. cc memory)
  fault_in_by octets NotToml (inr memory) = absurd (cc memory)
  fault_in_by octets (Unknown key) (inl is) = (is, λ memory. cc memory)
  fault_in_by octets (Unknown key) (inr memory) = absurd (cc memory)
  fault_in_by octets (Missing key) (inl is) = (is, λ memory. cc memory)
  fault_in_by octets (Missing key) (inr memory) = absurd (cc memory)
  fault_in_by octets (Kind key) (inl is) = (is, λ memory. cc memory)
  fault_in_by octets (Kind key) (inr memory) = absurd (cc memory)
  fault_in_by octets (Address key) (inl is) = (is, λ memory. cc memory)
  fault_in_by octets (Address key) (inr memory) = absurd (cc memory)
  fault_in_by octets (Range key) (inl is) = (is, λ memory. cc memory)
  fault_in_by octets (Range key) (inr memory) = absurd (cc memory)
  fault_in_by octets (Loopback key) (inl is) = (is, λ memory. cc memory)
  fault_in_by octets (Loopback key) (inr memory) = absurd (cc memory)

  -- a fault that is told is a fault of the octets, unless memory ran out
  pub told_is : (octets : List ℕ) (told : ConfigFault) (fault : ServingFault) → fault ≡ fault_by told → kind.IsFault told octets ⊎ (told ≡ ConfigMemory)
      → IsFaultIn kind octets fault
  told_is octets told fault by is = subst (λ (one : ServingFault). IsFaultIn kind octets one) (sym by) (fault_in_by octets told is)

  -- the fault of octets that may be the file's is a fault of the file
  fault_of_file : (content : Option (List ℕ)) (octets : List ℕ) (fault : ServingFault) → IsContent content octets → length octets ≤ INPUT_LIMIT
      → IsFaultIn kind octets fault → TellsFault kind content fault
  fault_of_file content octets NotRead are short fault = tt
  fault_of_file content octets TooLong are short fault = absurd fault
  fault_of_file content octets (Settings settings) are short fault =
      record { octets = octets; are = are; short = short; first = fault.0; is_fault = fault.1 }
  fault_of_file content octets NotOpened are short fault = tt
  fault_of_file content octets Memory are short fault = tt

  pub fault_of_reading : (content : Option (List ℕ)) (fault : ServingFault) → IsFaultOfReading content fault → TellsFault kind content fault
  fault_of_reading content NotRead is = tt
  fault_of_reading content TooLong is = is
  fault_of_reading content (Settings fault) is = absurd is
  fault_of_reading content NotOpened is = tt
  fault_of_reading content Memory is = tt

  -- what is read of octets that may be the file's is read of the file
  pub configured_by : (content : Option (List ℕ)) (octets : List ℕ) (result : Result S ServingFault) → IsContent content octets → length octets ≤ INPUT_LIMIT
      → IfOk result (λ config. kind.IsFile config octets) → IfOk result (IsConfigured kind content)
  configured_by content octets (Ok config) are short file = record { octets = octets; are = are; short = short; file = file }
  configured_by content octets (Err fault) are short file = tt

  pub fault_told_by : (content : Option (List ℕ)) (octets : List ℕ) (result : Result S ServingFault) → IsContent content octets → length octets ≤ INPUT_LIMIT
      → IfErr result (IsFaultIn kind octets) → IfErr result (TellsFault kind content)
  fault_told_by content octets (Ok config) are short fault = tt
  fault_told_by content octets (Err fault) are short is = fault_of_file content octets fault are short is

  -- where the octets weren't read
  pub undecided : {T : Type 0} (content : Option (List ℕ)) (fault : ServingFault) → IsFaultOfReading content fault
      → (octets : List ℕ) → content ≡ Some octets → Decides kind {T = T} octets (Err fault)
  undecided content NotRead is octets told = record {
    configured = λ config short file. tt;
    misconfigured = λ fault short first. inr (inl refl);
    overlong = λ long. inr (inl refl);
  }
  undecided content TooLong is octets told =
      let long : INPUT_LIMIT < length octets = subst (λ (same : Option (List ℕ)). IsOverlong same) told is in record {
        configured = λ config short file. absurd (omega (arith, short, long));
        misconfigured = λ fault short first. absurd (omega (arith, short, long));
        overlong = λ long. inl refl;
      }
  undecided content (Settings fault) is octets told = absurd is
  undecided content NotOpened is octets told = absurd is
  undecided content Memory is octets told = record {
    configured = λ config short file. tt;
    misconfigured = λ fault short first. inr (inr refl);
    overlong = λ long. inr (inr refl);
  }

  pub decided : (content : Option (List ℕ)) (octets : List ℕ) (result : Result S ServingFault) → IsContent content octets → length octets ≤ INPUT_LIMIT
      → ((config : S) → kind.IsFile config octets → (result ≡ Ok config) ⊎ (result ≡ Err Memory))
      → ((fault : ConfigFault) → kind.IsFault fault octets → (result ≡ Err (Settings fault)) ⊎ (result ≡ Err Memory))
      → (told : List ℕ) → content ≡ Some told → Decides kind told result
  decided content octets result are short only first told is =
      subst (λ (same : List ℕ). Decides kind same result) (same_octets content octets told is are) (record {
        configured = λ config within file. blameless config result (only config file);
        misconfigured = λ fault within says. elim (first fault says) [
          | inl same ↦ inl same
          | inr memory ↦ inr (inr memory)
        ];
        overlong = λ long. absurd (omega (arith, short, long));
      })

  -- a file that is taken is not blamed for what comes later
  pub decided_on : {T : Type 0} (octets : List ℕ) (config : S) (result : Result T ServingFault) → Decides kind {T = S} octets (Ok config) → BlamesNoFile result
      → Decides kind octets result
  decided_on octets config result before none = record {
    configured = λ other short file. none;
    misconfigured = λ fault short says. elim (before.misconfigured fault short says) [
      | inl same ↦ absurd (cc same)
      | inr (inl unread) ↦ absurd (cc unread)
      | inr (inr memory) ↦ absurd (cc memory)
    ];
    overlong = λ long. elim (before.overlong long) [
      | inl same ↦ absurd (cc same)
      | inr (inl unread) ↦ absurd (cc unread)
      | inr (inr memory) ↦ absurd (cc memory)
    ];
  }

  -- a fault of reading is one of the run
  pub decided_too : {T U : Type 0} (octets : List ℕ) (fault : ServingFault) → Decides kind {T = T} octets (Err fault) → Decides kind {T = U} octets (Err fault)
  decided_too {T} {U} octets fault before = record {
    configured = λ config short file. blameless_too T U fault (before.configured config short file);
    misconfigured = λ first short says. elim (before.misconfigured first short says) [
      | inl same ↦ inl (of_other fault (Settings first) same)
      | inr unread ↦ inr (unread_too fault unread)
    ];
    overlong = λ long. elim (before.overlong long) [
      | inl same ↦ inl (of_other fault TooLong same)
      | inr unread ↦ inr (unread_too fault unread)
    ];
  }
