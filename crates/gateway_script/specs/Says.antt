-- What a line of a gateway's script says.
use Rattle.std.specs.Prelude.{◌≡◌, ℕ, List, [], ◌∷◌, ◌++◌, Option}
use Rattle.amt_values.specs.{declared.address.Ip.{Ip}, Text.{IsIpText, IsPeerText}}
use Rattle.source_filter.specs.Filter.{FilterValue, ascending_sources}
use Rattle.group_records.specs.declared.family.Family.{Family}
use Rattle.gateway_machine.specs.declared.event.GatewayEvent.{GatewayEvent}
use Rattle.gateway_machine.specs.declared.event.GatewayEvent.TheVariants as events
use Rattle.script_lines.specs.{Form.{IsAddressText, IsFamilyText, IsFlagText, IsGroupText, IsHexText, IsModeText, IsMomentText, IsNameText, IsNonceText, IsNumberText}, Shape.{HasField, HasTwoFields}}
use Rattle.gateway_script.specs.declared.kind.Key.TheVariants as keys
use Rattle.gateway_script.specs.declared.kind.LineKind.TheVariants as kinds
use Rattle.gateway_script.specs.{declared.setting.Setting.{Setting}, Row.{words_of}}
use Rattle.gateway_script.specs.declared.setting.Setting.TheVariants as settings

-- a line `set` of these fields gives the setting
abbrev pub SaysSetting : Setting → List (List ℕ) → Type 0
SaysSetting (settings.Family family) = HasField (words_of (kinds.Set keys.Family)) (IsFamilyText family)
SaysSetting (settings.Discovery peer) = HasField (words_of (kinds.Set keys.Discovery)) (IsPeerText peer)
SaysSetting (settings.Source ip) = HasField (words_of (kinds.Set keys.Source)) (IsIpText ip)
SaysSetting (settings.Relay peer) = HasField (words_of (kinds.Set keys.Relay)) (IsPeerText peer)
SaysSetting (settings.Port port) = HasField (words_of (kinds.Set keys.Port)) (IsNumberText 0 65535 port)
SaysSetting (settings.Nonce nonce) = HasField (words_of (kinds.Set keys.Nonce)) (IsNonceText nonce)
SaysSetting (settings.LinuxRelay flag) = HasField (words_of (kinds.Set keys.LinuxRelay)) (IsFlagText flag)

-- the texts are those of these addresses
abbrev pub AreAddressTexts : Option Family → List Ip → List (List ℕ) → Type 0
AreAddressTexts family [] texts = texts ≡ []
AreAddressTexts family (ip ∷ more) texts =
    (text : List ℕ) × (rest : List (List ℕ)) × (texts ≡ text ∷ rest) × IsAddressText family ip text × AreAddressTexts family more rest

-- the fields of a filter: its mode, and its sources in any order, with repeats
pub record SaysFilter (family : Option Family) (filter : FilterValue) (fields : List (List ℕ)) : Type 0 where
  pub mode_text : List ℕ
  pub texts : List (List ℕ)
  pub sources : List Ip
  pub parts : fields ≡ mode_text ∷ texts
  pub mode : IsModeText filter.mode mode_text
  pub addresses : AreAddressTexts family sources texts
  pub ascend : filter.sources ≡ ascending_sources sources

-- the line is these words, a name, and then fields of which this holds
pub record SaysNamed (words : List (List ℕ)) (name : List ℕ) (Rest : List (List ℕ) → Type 0) (line : List (List ℕ)) : Type 0 where
  pub text : List ℕ
  pub rest : List (List ℕ)
  pub parts : line ≡ words ++ text ∷ rest
  pub names : IsNameText name text
  pub after : Rest rest

-- the fields of a group and a filter
pub record SaysMembership (family : Option Family) (group : Ip) (filter : FilterValue) (fields : List (List ℕ)) : Type 0 where
  pub text : List ℕ
  pub rest : List (List ℕ)
  pub parts : fields ≡ text ∷ rest
  pub joins : IsGroupText family group text
  pub filters : SaysFilter family filter rest

-- a line of these fields says the event to a gateway of the family, where it is known
abbrev pub SaysEvent : Option Family → GatewayEvent → List (List ℕ) → Type 0
SaysEvent family (events.Moment ms) = HasField (words_of kinds.Moment) (IsMomentText ms)
SaysEvent family (events.Nonce nonce) = HasField (words_of kinds.Nonce) (IsNonceText nonce)
SaysEvent family (events.Datagram from bytes) = HasTwoFields (words_of kinds.Datagram) (IsPeerText from) (IsHexText bytes)
SaysEvent family (events.Open name group filter) = SaysNamed (words_of kinds.Open) name (SaysMembership family group filter)
SaysEvent family (events.Change name filter) = SaysNamed (words_of kinds.Change) name (SaysFilter family filter)
SaysEvent family (events.Close name) = SaysNamed (words_of kinds.Close) name (λ rest. rest ≡ [])
SaysEvent family events.LeaveAll = λ line. line ≡ words_of kinds.Leave
