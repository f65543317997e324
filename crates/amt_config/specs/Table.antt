-- The table of a settings file, and its first fault.
use Rattle.std.specs.{Prelude.{◌≡◌, ◌≢◌, ◌⊎◌, ℕ, Bool, true, List, [], ◌∷◌, map, IsSome, Some, IsUtf8}, Cmp.Lexicographic.{slice_cmp}, List.{list_any}, Ordering.{nat_cmp}, Str.{bytes_eq}, declared.cmp.Ordering.TheVariants.{Less}}
use Rattle.toml.specs.{Data.{Members, get_member}, Parse.{parse_document}}
use Rattle.amt_config.specs.{declared.fault.{ConfigFault.{ConfigFault}, KeyFault.{KeyFault, TheVariants.{Missing, Kind, Address, Range, Loopback}}}, Key.{Fails, IsRight, Key}}
use Rattle.amt_config.specs.declared.fault.ConfigFault.TheVariants as faults

-- the octets are text, which TOML reads as the table
abbrev pub IsTableOf : Members → List ℕ → Type 0
IsTableOf table bytes = IsUtf8 bytes × (parse_document bytes ≡ Some table)

-- the words of keys
abbrev pub key_words : List Key → List (List ℕ)
key_words keys = map (λ key. key.word) keys

-- the word is one of these
abbrev pub is_among : List (List ℕ) → List ℕ → Bool
is_among words word = list_any (λ known. bytes_eq word known) words

-- the table has a value for the word, which is none of these
pub record IsUnknownKey (words : List (List ℕ)) (table : Members) (word : List ℕ) : Type 0 where
  pub there : IsSome (get_member word table)
  pub unknown : is_among words word ≢ true

-- none is unknown
abbrev pub AreKnown : List (List ℕ) → Members → Type 0
AreKnown words table = (word : List ℕ) → IsUnknownKey words table word → ⊥

-- of the unknown ones no other is less, octet by octet
pub record IsLeastUnknown (words : List (List ℕ)) (table : Members) (word : List ℕ) : Type 0 where
  pub unknown : IsUnknownKey words table word
  pub least : (other : List ℕ) → IsUnknownKey words table other → slice_cmp nat_cmp other word ≢ Less

-- the fault of the least unknown key
pub record IsUnknownFault (words : List (List ℕ)) (table : Members) (fault : ConfigFault) : Type 0 where
  pub word : List ℕ
  pub least : IsLeastUnknown words table word
  pub is : fault ≡ faults.Unknown word

-- a fault of a key, as it is told
abbrev pub told : List ℕ → KeyFault → ConfigFault
told word Missing = faults.Missing word
told word Kind = faults.Kind word
told word Address = faults.Address word
told word Range = faults.Range word
told word Loopback = faults.Loopback word

-- the fault of a key
abbrev pub IsFaultOf : Members → Key → ConfigFault → Type 0
IsFaultOf table key fault = (cause : KeyFault) × Fails key table cause × (fault ≡ told key.word cause)

-- one of these keys is bad, and those before it are right; or all are right, and this holds
abbrev pub FirstOf : (Key → Type 0) → (Key → Type 0) → List Key → Type 0 → Type 0
FirstOf Bad Right [] Else = Else
FirstOf Bad Right (key ∷ rest) Else = Bad key ⊎ (Right key × FirstOf Bad Right rest Else)

-- the fault of the first key that has one, or where none has, this one of all values together
abbrev pub IsValueFault : List Key → (Members → ConfigFault → Type 0) → Members → ConfigFault → Type 0
IsValueFault keys Together table fault =
    FirstOf (λ key. IsFaultOf table key fault) (IsRight table) keys (Together table fault)

-- The first fault of a table of these keys: an unknown key, then the keys in their order, each with its
-- faults in theirs, and then what may be wrong with all values together.
abbrev pub IsFirstFault : List Key → (Members → ConfigFault → Type 0) → Members → ConfigFault → Type 0
IsFirstFault keys Together table fault =
    IsUnknownFault (key_words keys) table fault ⊎ (AreKnown (key_words keys) table × IsValueFault keys Together table fault)

-- the octets are a file with a table of which this holds
abbrev pub IsFile : (Members → Type 0) → List ℕ → Type 0
IsFile Holds bytes = (table : Members) × IsTableOf table bytes × Holds table

-- TOML reads no table from the octets
abbrev pub HasNoTable : List ℕ → Type 0
HasNoTable bytes = (table : Members) → IsTableOf table bytes → ⊥

-- the first fault of octets: that they are no table, or else the first fault of the table
abbrev pub IsFirstFaultOfFile : (Members → ConfigFault → Type 0) → ConfigFault → List ℕ → Type 0
IsFirstFaultOfFile First fault bytes =
    (HasNoTable bytes × (fault ≡ faults.NotToml)) ⊎ IsFile (λ table. First table fault) bytes
