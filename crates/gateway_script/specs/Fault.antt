-- What is wrong with a line of a gateway's script, and with all its lines together.
use Rattle.std.specs.Prelude.{◌≡◌, ◌≢◌, ℕ, ◌⊎◌, List, [], ◌∷◌, ◌++◌, codes, Option, IsSome, None}
use Rattle.group_records.specs.declared.family.Family.{Family}
use Rattle.gateway_machine.specs.{declared.{event.GatewayEvent.{GatewayEvent}, settings.GatewaySettings.{GatewaySettings}}, Settings.{HasSourceOfFamily}}
use Rattle.script_lines.specs.{declared.reason.Reason.{Reason, TheVariants.{Long, Word, Late, Twice, Count, Number, Hex, Address, Peer, Name, Mode, Group, Range, Missing}}, Shape.{FailsIn}}
use Rattle.gateway_script.specs.{declared.{kind.{Key.{Key}, LineKind.{LineKind}}, setting.Setting.{Setting}}, Row.{words_of, shape_of, IsUnknown}, Setting.{set_at}, Settling.{Settles, discovery_in, family_given, source_in}}
use Rattle.gateway_script.specs.declared.kind.Key.TheVariants as keys
use Rattle.gateway_script.specs.declared.kind.LineKind.TheVariants as kinds

-- the reasons for which the fields after a line's first words fail
abbrev pub order_of_values : List Reason
order_of_values = Count ∷ Number ∷ Hex ∷ Address ∷ Peer ∷ Name ∷ Mode ∷ Group ∷ Range ∷ []

-- the reasons in a line that is short and plain
abbrev pub order_of_reasons : List Reason
order_of_reasons = Word ∷ Late ∷ Twice ∷ order_of_values

-- fields after the first words of a line of this kind are too few or too many, or some field fails
abbrev pub FailsAs : Option Family → LineKind → List (List ℕ) → Reason → Type 0
FailsAs family kind values reason = FailsIn (shape_of family kind) values reason

-- the line is of a kind, and the fields after its first words fail
abbrev pub FailsInKind : Option Family → List (List ℕ) → Reason → Type 0
FailsInKind family line reason =
    (kind : LineKind) × (values : List (List ℕ)) × (line ≡ words_of kind ++ values) × FailsAs family kind values reason

-- what is wrong with a line of these fields, after lines that say these settings and events. A family
-- that is none is no known word either
abbrev pub FailsAfter : List Setting → List GatewayEvent → List (List ℕ) → Reason → Type 0
FailsAfter given events line Long = ⊥
FailsAfter given events line Word = IsUnknown line ⊎ FailsInKind (family_given given) line Word
FailsAfter given events line Late = (events ≢ []) × (rest : List (List ℕ)) × (line ≡ codes "set" ∷ rest)
FailsAfter given events line Twice =
    (key : Key) × (values : List (List ℕ)) × (line ≡ words_of (kinds.Set key) ++ values) × IsSome (set_at given key)
FailsAfter given events line Count = (line ≡ codes "set" ∷ []) ⊎ FailsInKind (family_given given) line Count
FailsAfter given events line Missing = ⊥
FailsAfter given events line reason = FailsInKind (family_given given) line reason

-- something that must be given wasn't
abbrev pub LacksSetting : List Setting → Type 0
LacksSetting given =
    (family_given given ≡ None) ⊎ (discovery_in (set_at given keys.Discovery) ≡ None) ⊎ (source_in (set_at given keys.Source) ≡ None)

-- what is wrong with a whole script of these settings: one is missing, or the source isn't of the family
abbrev pub FailsAtEnd : List Setting → Reason → Type 0
FailsAtEnd given Missing = LacksSetting given
FailsAtEnd given Range =
    (values : GatewaySettings) × (nonce : ℕ) × Settles given values nonce × (HasSourceOfFamily values → ⊥)
FailsAtEnd given reason = ⊥
