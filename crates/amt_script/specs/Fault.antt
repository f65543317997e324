-- What is wrong with a line of a relay's script, and with all its lines together.
use Rattle.std.specs.Prelude.{◌≡◌, ◌≢◌, ℕ, ◌⊎◌, List, [], ◌∷◌, ◌++◌, codes, IsSome, None}
use Rattle.endpoint_membership.specs.{Limits.{AreWithin}, declared.limits.Limits.{Limits}}
use Rattle.response_mac.specs.declared.secret.Secret.{Secret}
use Rattle.relay_machine.specs.{Settings.{AreLawfulSettings}, declared.settings.Settings.{Settings}}
use Rattle.relay_machine.specs.declared.event.Event.TheVariants as events
use Rattle.script_lines.specs.{declared.reason.Reason.{Reason, TheVariants.{Long, Word, Late, Twice, Count, Number, Hex, Address, Peer, Range, Missing}}, Shape.{FailsIn}}
use Rattle.amt_script.specs.{declared.{kind.{Key.{Key}, Kind.{Kind}}, script.RelayItem.{RelayItem}, setting.Setting.{Setting}}, Row.{words_of, shape_of, IsUnknown}, Says.{SaysEvent}, Setting.{set_at}, Settling.{Settles, limits_given, relay_in}}
use Rattle.amt_script.specs.declared.kind.Key.TheVariants as keys
use Rattle.amt_script.specs.declared.kind.Kind.TheVariants as kinds

-- the reasons for which the fields after a line's first words fail
abbrev pub order_of_values : List Reason
order_of_values = Count ∷ Number ∷ Hex ∷ Address ∷ Peer ∷ Range ∷ []

-- the reasons in a line that is short and plain
abbrev pub order_of_reasons : List Reason
order_of_reasons = Word ∷ Late ∷ Twice ∷ order_of_values

-- fields after the first words of a line of this kind are too few or too many, or some field fails
abbrev pub FailsAs : Kind → List (List ℕ) → Reason → Type 0
FailsAs kind values reason = FailsIn (shape_of kind) values reason

-- the line is of a kind, and the fields after its first words fail
abbrev pub FailsInKind : List (List ℕ) → Reason → Type 0
FailsInKind line reason =
    (kind : Kind) × (values : List (List ℕ)) × (line ≡ words_of kind ++ values) × FailsAs kind values reason

-- the line says limits, of which some is greater than the one that is set
abbrev pub SaysMore : Limits → List (List ℕ) → Type 0
SaysMore given line = (limits : Limits) × SaysEvent (events.Limits limits) line × (AreWithin given limits → ⊥)

-- what is wrong with a line of these fields, after lines that say these settings and items
abbrev pub FailsAfter : List Setting → List RelayItem → List (List ℕ) → Reason → Type 0
FailsAfter given items line Long = ⊥
FailsAfter given items line Word = IsUnknown line
FailsAfter given items line Late = (items ≢ []) × (rest : List (List ℕ)) × (line ≡ codes "set" ∷ rest)
FailsAfter given items line Twice =
    (key : Key) × (values : List (List ℕ)) × (line ≡ words_of (kinds.Set key) ++ values) × IsSome (set_at given key)
FailsAfter given items line Count = (line ≡ codes "set" ∷ []) ⊎ FailsInKind line Count
FailsAfter given items line Range = FailsInKind line Range ⊎ SaysMore (limits_given given) line
FailsAfter given items line Missing = ⊥
FailsAfter given items line reason = FailsInKind line reason

-- what is wrong with a whole script of these settings: no relay's address, or a time without a code
abbrev pub FailsAtEnd : List Setting → Reason → Type 0
FailsAtEnd given Missing = relay_in (set_at given keys.Relay) ≡ None
FailsAtEnd given Range =
    (values : Settings) × (secret : Secret) × Settles given values secret × (AreLawfulSettings values → ⊥)
FailsAtEnd given reason = ⊥
