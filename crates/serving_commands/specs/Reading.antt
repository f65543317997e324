-- What a settings file is read as.
use Rattle.std.specs.Prelude.{◌≡◌, ◌≢◌, ◌⊎◌, ℕ, ◌<◌, ◌≤◌, List, length, Option, None, Some, Result, Ok, Err}
use Rattle.amt_config.specs.declared.fault.ConfigFault.{ConfigFault, TheVariants.{Memory as ConfigMemory}}
use Rattle.amt_ports.specs.Contents.{IsContent}
use Rattle.amt_values.specs.declared.bytes.TheConstants.{INPUT_LIMIT}
use Rattle.serving_commands.specs.{Kinds.{SettingsKind}, declared.fault.ServingFault.{ServingFault, TheVariants.{Memory, NotOpened, NotRead, Settings, TooLong}}}

-- where the content is told, it has more octets than an input may have
abbrev pub IsOverlong : Option (List ℕ) → Type 0
IsOverlong None = Unit {0}
IsOverlong (Some content) = INPUT_LIMIT < length content

-- why a file's octets were not read
abbrev pub IsFaultOfReading : Option (List ℕ) → ServingFault → Type 0
IsFaultOfReading content NotRead = Unit {0}
IsFaultOfReading content TooLong = IsOverlong content
IsFaultOfReading content (Settings fault) = ⊥
IsFaultOfReading content NotOpened = ⊥
IsFaultOfReading content Memory = Unit {0}

-- how a fault of a file's reader is told
abbrev pub fault_by : ConfigFault → ServingFault
fault_by ConfigMemory = Memory
fault_by fault = Settings fault

-- the file was not read, or memory ran out
abbrev pub IsUnread : {T : Type 0} → Result T ServingFault → Type 0
IsUnread result = (result ≡ Err NotRead) ⊎ (result ≡ Err Memory)

-- the file is not why there was no run
abbrev pub BlamesNoFile : {T : Type 0} → Result T ServingFault → Type 0
BlamesNoFile (Ok report) = Unit {0}
BlamesNoFile (Err NotRead) = Unit {0}
BlamesNoFile (Err TooLong) = ⊥
BlamesNoFile (Err (Settings fault)) = ⊥
BlamesNoFile (Err NotOpened) = Unit {0}
BlamesNoFile (Err Memory) = Unit {0}

module _ {C : Type 0} (kind : SettingsKind C) where
  -- Octets that are those of the file, where its content is told, are a file of the kind with this configuration.
  pub record IsConfigured (content : Option (List ℕ)) (config : C) : Type 0 where
    pub octets : List ℕ
    pub are : IsContent content octets
    pub short : length octets ≤ INPUT_LIMIT
    pub file : kind.IsFile config octets

  -- This is the first fault of such octets; it is never `Memory`.
  pub record IsMisconfigured (content : Option (List ℕ)) (fault : ConfigFault) : Type 0 where
    pub octets : List ℕ
    pub are : IsContent content octets
    pub short : length octets ≤ INPUT_LIMIT
    pub first : kind.IsFault fault octets
    pub is_fault : fault ≢ ConfigMemory

  -- why a file's settings are not taken: it is too long, or this is its first fault
  abbrev pub TellsFault : Option (List ℕ) → ServingFault → Type 0
  TellsFault content TooLong = IsOverlong content
  TellsFault content (Settings fault) = IsMisconfigured content fault
  TellsFault content fault = Unit {0}

  -- why octets that were read are not taken
  abbrev pub IsFaultIn : List ℕ → ServingFault → Type 0
  IsFaultIn octets NotRead = ⊥
  IsFaultIn octets TooLong = ⊥
  IsFaultIn octets (Settings fault) = kind.IsFault fault octets × (fault ≢ ConfigMemory)
  IsFaultIn octets NotOpened = ⊥
  IsFaultIn octets Memory = Unit {0}

  -- The octets of the file, where they are told, decide what its settings are taken for, unless it isn't read or
  -- memory runs out.
  pub record Decides {T : Type 0} (octets : List ℕ) (result : Result T ServingFault) : Type 0 where
    pub configured : (config : C) → length octets ≤ INPUT_LIMIT → kind.IsFile config octets → BlamesNoFile result
    pub misconfigured : (fault : ConfigFault) → length octets ≤ INPUT_LIMIT → kind.IsFault fault octets
        → (result ≡ Err (Settings fault)) ⊎ IsUnread result
    pub overlong : INPUT_LIMIT < length octets → (result ≡ Err TooLong) ⊎ IsUnread result
