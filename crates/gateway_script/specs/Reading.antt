-- What the reader's own answers say.
use Rattle.std.specs.Prelude.{◌≡◌, ◌≢◌, ◌≤◌, ℕ, true, List, [], ◌∷◌, length, Option, Some, All, IsSome}
use Rattle.amt_values.specs.Group.{is_forwardable}
use Rattle.source_filter.specs.Filter.{FilterValue}
use Rattle.group_records.specs.declared.family.Family.{Family}
use Rattle.gateway_machine.specs.declared.event.GatewayEvent.{GatewayEvent, TheVariants.{Moment, Nonce, Datagram, Open, Change, Close, LeaveAll}}
use Rattle.script_lines.specs.{Form.{an_address_of, is_of}, Shape.{SomeFails}, declared.{fault.LineError.{LineError, TheVariants.{Bad, Memory}}, reason.Reason.{Reason}}}
use Rattle.script_lines.specs.declared.reason.Reason.TheVariants as reasons
use Rattle.gateway_script.specs.{declared.{kind.{Key.{Key}, LineKind.{LineKind}}, line.GatewayStatement.{GatewayStatement}, setting.Setting.{Setting}}, Fault.{FailsAs, order_of_values}, Script.{events_in, settings_in}, Setting.{set_at}, Settling.{family_given}}
use Rattle.gateway_script.specs.declared.kind.LineKind.TheVariants as kinds

-- the reasons in the fields of a setting, where a family that is none is no known word
abbrev pub order_with_word : List Reason
order_with_word = reasons.Word ∷ order_of_values

-- what is wrong with a line that sets this key, after these settings and events
abbrev pub FailsToSet : List Setting → List GatewayEvent → Key → List (List ℕ) → Reason → Type 0
FailsToSet given events key values reasons.Late = events ≢ []
FailsToSet given events key values reasons.Twice = IsSome (set_at given key)
FailsToSet given events key values reason = FailsAs (family_given given) (kinds.Set key) values reason

-- some source's text isn't an address of the family; out of memory says nothing
abbrev pub FailsInSources : Option Family → List (List ℕ) → LineError → Type 0
FailsInSources family texts (Bad reason) = (reason ≡ reasons.Address) × SomeFails [] (Some (an_address_of family)) texts reasons.Address
FailsInSources family texts Memory = Unit {0}

-- as `IsFilterOf` of gateway_machine, of a gateway whose settings aren't known yet: a filter's sources are of
-- the family, where that is known, and their number can be told
pub record IsFilterBy (family : Option Family) (filter : FilterValue) : Type 0 where
  pub family_is : All (λ source. is_of family source ≡ true) filter.sources
  pub items : length filter.sources ≤ 16777216

-- as `IsEventOf` of gateway_machine, likewise: an event that may happen to a gateway of the family, where that
-- is known
abbrev pub IsEventBy : Option Family → GatewayEvent → Type 0
IsEventBy family (Moment at) = Unit {0}
IsEventBy family (Nonce nonce) = Unit {0}
IsEventBy family (Datagram from bytes) = length bytes ≤ 65535
IsEventBy family (Open name group filter) =
    (is_forwardable group ≡ true) × (is_of family group ≡ true) × IsFilterBy family filter
IsEventBy family (Change name filter) = IsFilterBy family filter
IsEventBy family (Close name) = Unit {0}
IsEventBy family LeaveAll = Unit {0}

-- lines of this kind say an event
abbrev pub IsEventKind : LineKind → Type 0
IsEventKind (kinds.Set key) = ⊥
IsEventKind kinds.Moment = Unit {0}
IsEventKind kinds.Nonce = Unit {0}
IsEventKind kinds.Datagram = Unit {0}
IsEventKind kinds.Open = Unit {0}
IsEventKind kinds.Change = Unit {0}
IsEventKind kinds.Close = Unit {0}
IsEventKind kinds.Leave = Unit {0}

-- these are the settings and events among the statements
pub record AreThose (given : List Setting) (events : List GatewayEvent) (said : List GatewayStatement) : Type 0 where
  pub settings_are : given ≡ settings_in said
  pub events_are : events ≡ events_in said
