-- A script that some octets spell can be run.
use Rattle.std.proofs.Common.{◌≡◌, ◌≢◌, ℕ, ◌+◌, ◌≤◌, ◌==◌, true, not, List, [], ◌∷◌, ◌++◌, length, All, Option, Some, refl, sym, subst, ap, ◌∙◌, append-nil, append_assoc, arith}
use Rattle.std.{proofs.lemmas.List.{Elements.{All-cons, All-filter, All-from_recursion, All-nil, filter_map-append, recursion_from_All}, Splits.{length-slice_split}, Sums.{count_by-le-length, length-filter}}, specs.{List.{AllByRecursion, slice_split}, Str.Lines.{lines}}}
use Rattle.amt_values.{proofs.AscendingLaws.{length-ascending}, specs.{declared.address.Ip.{Ip}, Order.{ip_order}}}
use Rattle.source_filter.specs.{Filter.{FilterValue, ascending_sources}, declared.mode.Mode.TheVariants.{Include}}
use Rattle.group_records.specs.declared.family.Family.{Family, TheVariants.{V4, V6}}
use Rattle.socket_merge.{specs.FullReport.{family_by}, proofs.Wanted.{All-merged, AreSuch}}
use Rattle.gateway_machine.specs.{declared.{event.GatewayEvent.{GatewayEvent, TheVariants.{Moment, Nonce, Datagram, Open, Change, Close, LeaveAll}}, settings.GatewaySettings.{GatewaySettings}}, Events.{IsEventOf}, Settings.{family_of}}
use Rattle.script_lines.{proofs.Forms.{hex_sized}, specs.{Form.{is_of}, Lines.{IsShort, fields, is_filled, lines_that_say, says_nothing}, Script.{Say}}}
use Rattle.gateway_script.specs.{declared.{line.GatewayStatement.{GatewayStatement}, script.GatewayScript.{GatewayScript}}, Reading.{IsEventBy, IsFilterBy}, Running.{IsRunnable}, Says.{AreAddressTexts, SaysEvent, SaysFilter}, Script.{event_in, events_in, gateway_kind, setting_in, settings_in, IsGatewayScript}, Settling.{family_given, is_v6}}
use Rattle.gateway_script.specs.declared.line.GatewayStatement.TheVariants as statements

-- a line has at most one field more than octets
pub few_fields : (line : List ℕ) → length (fields line) ≤ length line + 1
few_fields line =
    let parts = slice_split (λ octet. octet == 32) line in
    omega (
      arith,
      length-filter is_filled parts,
      count_by-le-length is_filled parts,
      length-slice_split (λ octet. octet == 32) line,
      count_by-le-length (λ octet. octet == 32) line,
    )

-- the addresses of fields are as many, and of the family
addresses_count : (family : Option Family) (ips : List Ip) (texts : List (List ℕ)) → AreAddressTexts family ips texts → length ips ≡ length texts
addresses_count family [] texts none = sym (ap (λ (ts : List (List ℕ)). length ts) none)
addresses_count family (ip ∷ more) texts are =
    omega (arith, addresses_count family more are.1 are.4, ap (λ (ts : List (List ℕ)). length ts) are.2)

abbrev IsOf : Option Family → Ip → Type 0
IsOf family source = is_of family source ≡ true

addresses_of : (family : Option Family) (ips : List Ip) (texts : List (List ℕ)) → AreAddressTexts family ips texts → All (IsOf family) ips
addresses_of family [] texts none = All-nil (IsOf family)
addresses_of family (ip ∷ more) texts are = All-cons (IsOf family) ip more are.3.1 (addresses_of family more are.1 are.4)

-- a filter in INCLUDE mode alone merges into its ascending sources
All-ascending_sources : (P : Ip → Type 0) (sources : List Ip) → All P sources → All P (ascending_sources sources)
All-ascending_sources P sources all =
    let alone : FilterValue = record { mode = Include; sources = sources } in
    subst (λ (listed : List Ip). All P (ascending_sources listed)) (append-nil sources)
    (All-merged P (alone ∷ []) (All-cons (AreSuch P) alone [] all (All-nil (AreSuch P))))

-- a filter of so few addresses may be an event's
pub filter_of_addresses : (family : Option Family) (filter : FilterValue) (sources : List Ip) (texts : List (List ℕ)) → length texts ≤ 140100
    → AreAddressTexts family sources texts → filter.sources ≡ ascending_sources sources → IsFilterBy family filter
filter_of_addresses family filter sources texts few addresses ascend =
    let counted = addresses_count family sources texts addresses in
    let less = length-ascending ip_order sources in
    let all = All-ascending_sources (IsOf family) sources (addresses_of family sources texts addresses) in record {
      family_is = subst (All (IsOf family)) (sym ascend) all;
      items = omega (arith, few, counted, less, ap (λ (listed : List Ip). length listed) ascend);
    }

filter_by_line : (family : Option Family) (filter : FilterValue) (texts : List (List ℕ)) → length texts ≤ 140100 → SaysFilter family filter texts → IsFilterBy family filter
filter_by_line family filter texts few says =
    filter_of_addresses family filter says.sources says.texts (omega (arith, few, ap (λ (ts : List (List ℕ)). length ts) says.parts)) says.addresses says.ascend

-- an event that a line of so few fields says may happen
pub event_by_line : (family : Option Family) (event : GatewayEvent) (line : List (List ℕ)) → length line ≤ 140100 → SaysEvent family event line → IsEventBy family event
event_by_line family (Moment moment) line few says = tt
event_by_line family (Nonce nonce) line few says = tt
event_by_line family (Datagram from bytes) line few says = hex_sized bytes says.next says.names_next
event_by_line family (Open name group filter) line few says =
    let parts = ap (λ (ts : List (List ℕ)). length ts) says.parts in
    let after = ap (λ (ts : List (List ℕ)). length ts) says.after.parts in (
      says.after.joins.1,
      says.after.joins.0.1,
      filter_by_line family filter says.after.rest (omega (arith, few, parts, after)) says.after.filters,
    )
event_by_line family (Change name filter) line few says =
    let parts = ap (λ (ts : List (List ℕ)). length ts) says.parts in
    filter_by_line family filter says.rest (omega (arith, few, parts)) says.after
event_by_line family (Close name) line few says = tt
event_by_line family LeaveAll line few says = tt

no_end : (events : List GatewayEvent) (event : GatewayEvent) → events ++ event ∷ [] ≡ [] → ⊥
no_end [] event none = cc none
no_end (first ∷ events) event none = cc none

-- after an event the past has one
past_event : (past : List GatewayStatement) (event : GatewayEvent) → events_in (past ++ statements.Event event ∷ []) ≢ []
past_event past event none = no_end (events_in past) event (sym (filter_map-append event_in past (statements.Event event ∷ [])) ∙ none)

-- after an event no setting comes
no_more_settings : (past said : List GatewayStatement) (ls : List (List ℕ)) → events_in past ≢ [] → Say gateway_kind past said ls → settings_in said ≡ []
no_more_settings past [] ls begun each = refl
no_more_settings past (one ∷ said) [] begun each = absurd each
no_more_settings past (statements.Setting setting ∷ said) (line ∷ ls) begun each = absurd (begun each.1.0.early)
no_more_settings past (statements.Event event ∷ said) (line ∷ ls) begun each =
    no_more_settings (past ++ statements.Event event ∷ []) said ls (past_event past event) each.2

-- so the settings at an event are those of the whole script
settings_at_event : (past said : List GatewayStatement) (event : GatewayEvent) (ls : List (List ℕ)) → Say gateway_kind (past ++ statements.Event event ∷ []) said ls
    → settings_in (past ++ statements.Event event ∷ said) ≡ settings_in past
settings_at_event past said event ls each =
    filter_map-append setting_in past (statements.Event event ∷ said)
    ∙ (ap (λ (more : List _). settings_in past ++ more) (no_more_settings (past ++ statements.Event event ∷ []) said ls (past_event past event) each)
    ∙ append-nil (settings_in past))

events_by_lines : (family : Option Family) (past said : List GatewayStatement) (ls : List (List ℕ)) → family_given (settings_in (past ++ said)) ≡ family
    → AllByRecursion IsShort ls → Say gateway_kind past said ls → AllByRecursion (IsEventBy family) (events_in said)
events_by_lines family past [] ls is short each = tt
events_by_lines family past (one ∷ said) [] is short each = absurd each
events_by_lines family past (statements.Setting setting ∷ said) (line ∷ ls) is short each =
    events_by_lines family (past ++ statements.Setting setting ∷ []) said ls
    (ap (λ (all : List GatewayStatement). family_given (settings_in all)) (append_assoc past (statements.Setting setting ∷ []) said) ∙ is) short.1 each.2
events_by_lines family past (statements.Event event ∷ said) (line ∷ ls) is short each =
    let here = sym (ap family_given (settings_at_event past said event ls each.2)) ∙ is in (
      event_by_line family event (fields line) (omega (arith, few_fields line, short.0)) (subst (λ (f : Option Family). SaysEvent f event (fields line)) here each.1),
      events_by_lines family (past ++ statements.Event event ∷ []) said ls
          (ap (λ (all : List GatewayStatement). family_given (settings_in all)) (append_assoc past (statements.Event event ∷ []) said) ∙ is) short.1 each.2,
    )

short_that_say : (ls : List (List ℕ)) → AllByRecursion IsShort ls → AllByRecursion IsShort (lines_that_say ls)
short_that_say ls short =
    recursion_from_All IsShort (lines_that_say ls)
    (All-filter (λ line. not (says_nothing (fields line))) IsShort ls (All-from_recursion IsShort ls short))

-- an event that may happen to a gateway of the settings' family may happen to it
event_of_family : (settings : GatewaySettings) (event : GatewayEvent) → IsEventBy (Some (family_of settings)) event → IsEventOf settings event
event_of_family settings (Moment moment) may = tt
event_of_family settings (Nonce nonce) may = tt
event_of_family settings (Datagram from bytes) may = may
event_of_family settings (Open name group filter) may = (may.0, may.1, record { family = may.2.family_is; items = may.2.items })
event_of_family settings (Change name filter) may = record { family = may.family_is; items = may.items }
event_of_family settings (Close name) may = tt
event_of_family settings LeaveAll may = tt

pub event_of_one_family : (settings : GatewaySettings) (family : Family) (event : GatewayEvent) → family_of settings ≡ family → IsEventBy (Some family) event → IsEventOf settings event
event_of_one_family settings family event same may =
    event_of_family settings event (subst (λ (f : Family). IsEventBy (Some f) event) (sym same) may)

events_of_family : (settings : GatewaySettings) (events : List GatewayEvent) → AllByRecursion (IsEventBy (Some (family_of settings))) events
    → AllByRecursion (IsEventOf settings) events
events_of_family settings [] each = tt
events_of_family settings (event ∷ events) each = (event_of_family settings event each.0, events_of_family settings events each.1)

family_again : (family : Family) → family_by (is_v6 family) ≡ family
family_again V4 = refl
family_again V6 = refl

pub runs : (script : GatewayScript) (bytes : List ℕ) → IsGatewayScript script bytes → IsRunnable script
runs script bytes spelled =
    let settled = spelled.made.settled in
    let family : family_given (settings_in spelled.said) ≡ Some (family_of script.settings) =
    settled.family_is ∙ ap (λ (f : Family). Some f) (sym (ap family_by settled.v6 ∙ family_again settled.family)) in
    let all = events_by_lines (Some (family_of script.settings)) [] spelled.said (lines_that_say (lines bytes)) family
    (short_that_say (lines bytes) spelled.all_lines.short) spelled.all_lines.says in record {
      source = spelled.made.source;
      events = subst (AllByRecursion (IsEventOf script.settings)) (sym spelled.made.items) (events_of_family script.settings (events_in spelled.said) all);
    }
