-- The keys of a settings file: what each wants of its value, and why a value is refused.
use Rattle.std.specs.{Prelude.{◌≡◌, ◌⊎◌, ℕ, Bool, true, false, List, [], ℤ, pos, Option, Some, None}, Int.{IsInRange}, Option.{option_and_then}}
use Rattle.relay_machine.specs.declared.number_key.NumberRange.{NumberRange}
use Rattle.script_lines.specs.{declared.reason.Reason.{Reason}, Form.{Fails as FailsAsForm, Form, a_family, a_group, a_mode, a_name, a_peer}, Shape.{SomeFails}}
use Rattle.script_lines.specs.declared.reason.Reason.TheVariants as reasons
use Rattle.toml.specs.Data.{Data, Members, as_bool, as_integer, as_str, get_member}
use Rattle.amt_config.specs.{Arrays.{as_tables, as_texts}, Loopback.{IsAwayText}, declared.fault.KeyFault.{KeyFault, TheVariants.{Missing, Kind, Address, Range, Loopback}}}

-- what a key wants: a text of a form, a peer that is on the loopback unless it may be anywhere, a boolean,
-- a whole number of a range, an array of texts, or one of tables
pub data Want : Type 0 where
  a_text : Form → Want
  a_guarded_peer : Bool → Want
  a_boolean : Want
  a_whole : NumberRange → Want
  some_texts : Form → Want
  some_tables : Want

-- the seconds from one line of counts to the next, of either end
abbrev pub report_range : NumberRange
report_range = record { least = 0; most = 86400; default = 0 }

-- a key, whether a file must have it, and what it wants
pub record Key : Type 0 where
  pub word : List ℕ
  pub is_required : Bool
  pub want : Want

abbrev pub required : List ℕ → Want → Key
required word want = record { word = word; is_required = true; want = want }

abbrev pub optional : List ℕ → Want → Key
optional word want = record { word = word; is_required = false; want = want }

abbrev pub text_key : List ℕ → Bool → Form → Key
text_key word must form = record { word = word; is_required = must; want = a_text form }

-- the reason for which a text isn't of a form that keys want
abbrev pub reason_of : Form → Reason
reason_of a_peer = reasons.Peer
reason_of a_name = reasons.Name
reason_of a_mode = reasons.Mode
reason_of (a_group family) = reasons.Group
reason_of a_family = reasons.Word
reason_of form = reasons.Address

-- what such a text is told as: no address, peer or group, or a word that isn't one of those allowed
abbrev pub fault_of : Reason → KeyFault
fault_of reasons.Name = Range
fault_of reasons.Mode = Range
fault_of reasons.Word = Range
fault_of reason = Address

-- the text isn't of the form
abbrev pub IsUnfit : Form → List ℕ → Type 0
IsUnfit form text = FailsAsForm form text (reason_of form)

-- of texts one isn't of the form
abbrev pub IsSomeUnfit : Form → List (List ℕ) → Type 0
IsSomeUnfit form texts = SomeFails [] (Some form) texts (reason_of form)

-- a whole number outside the range
abbrev pub IsOutside : NumberRange → ℤ → Type 0
IsOutside range number = (inside : ℕ) → IsInRange range.least range.most inside → number ≡ pos inside → ⊥

-- a value of another type, or of the type and not fit, which is told as this
abbrev pub RefusesAs : {X : Type 0} → Option X → (X → Type 0) → KeyFault → KeyFault → Type 0
RefusesAs None Unfit cause fault = fault ≡ Kind
RefusesAs (Some one) Unfit cause fault = Unfit one × (fault ≡ cause)

-- a value of another type, a text that is no peer, or one of a peer that isn't where it may be
abbrev pub RefusesPeer : Bool → Option (List ℕ) → KeyFault → Type 0
RefusesPeer anywhere text fault =
    RefusesAs text (IsUnfit a_peer) Address fault ⊎ RefusesAs text (IsAwayText anywhere) Loopback fault

-- a value that a key of this want doesn't take, and why
abbrev pub Refuses : Want → Data → KeyFault → Type 0
Refuses (a_text form) value = RefusesAs (as_str value) (IsUnfit form) (fault_of (reason_of form))
Refuses (a_guarded_peer anywhere) value = RefusesPeer anywhere (as_str value)
Refuses a_boolean value = RefusesAs (as_bool value) (λ flag. ⊥) Kind
Refuses (a_whole range) value = RefusesAs (as_integer value) (IsOutside range) Range
Refuses (some_texts form) value = RefusesAs (as_texts value) (IsSomeUnfit form) (fault_of (reason_of form))
Refuses some_tables value = RefusesAs (as_tables value) (λ tables. ⊥) Range

-- the table lacks a key that must be there, or has a value for it that is refused
abbrev pub FailsBy : Key → Option Data → KeyFault → Type 0
FailsBy key None fault = (key.is_required ≡ true) × (fault ≡ Missing)
FailsBy key (Some value) fault = Refuses key.want value fault

abbrev pub Fails : Key → Members → KeyFault → Type 0
Fails key table fault = FailsBy key (get_member key.word table) fault

-- the key has no fault
pub record IsRight (table : Members) (key : Key) : Type 0 where
  pub none : (fault : KeyFault) → Fails key table fault → ⊥

-- what this reads of the key's value
abbrev pub read_at : {X : Type 0} → (Data → Option X) → List ℕ → Members → Option X
read_at read word table = option_and_then read (get_member word table)

-- the value of the key is a text, of which this holds
abbrev pub HasText : List ℕ → Members → (List ℕ → Type 0) → Type 0
HasText word table Names = (text : List ℕ) × (read_at as_str word table ≡ Some text) × Names text

-- the same where the key is there, and else this
abbrev pub HasTextOr : List ℕ → Members → (List ℕ → Type 0) → Type 0 → Type 0
HasTextOr word table Names Default = ((get_member word table ≡ None) × Default) ⊎ HasText word table Names

-- the value of the key names this, if the key is there
abbrev pub HasOptional : {V : Type 0} → List ℕ → Members → (V → List ℕ → Type 0) → Option V → Type 0
HasOptional word table Names None = get_member word table ≡ None
HasOptional word table Names (Some value) = HasText word table (Names value)

-- the value of the key is the boolean; false where the key isn't there
abbrev pub HasBoolean : List ℕ → Members → Bool → Type 0
HasBoolean word table flag =
    ((get_member word table ≡ None) × (flag ≡ false)) ⊎ (read_at as_bool word table ≡ Some flag)

-- the value of the key is the number, which is in the range; the default where the key isn't there
abbrev pub HasWholeNumber : List ℕ → NumberRange → Members → ℕ → Type 0
HasWholeNumber word range table number =
    ((get_member word table ≡ None) × (number ≡ range.default))
    ⊎ ((read_at as_integer word table ≡ Some (pos number)) × IsInRange range.least range.most number)

-- the tables of the key; none where the key isn't there
abbrev pub HasTables : List ℕ → Members → List Members → Type 0
HasTables word table tables =
    ((get_member word table ≡ None) × (tables ≡ [])) ⊎ (read_at as_tables word table ≡ Some tables)
