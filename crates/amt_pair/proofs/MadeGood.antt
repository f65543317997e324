-- How full reports make good what was said of a group before: as long as farewells last from its moment, they
-- name the group, unless it was said that the group is left.
use Rattle.std.proofs.{Common.{◌≡◌, ◌≢◌, ℕ, ◌+◌, ◌<◌, ◌≤◌, min, Bool, true, false, cond, List, [], ◌∷◌, All, Option, Some, None, refl, sym, ap, ◌∙◌, arith}, lemmas.{Bool.{cond-false, ltb-false}, List.Elements.{All-cons, All-nil, All-same}}}
use Rattle.amt_values.specs.declared.address.Ip.{Ip}
use Rattle.source_filter.specs.{Changes.{changes_on}, Filter.{FilterValue, admits, nothing, wants_any, wants_any_by}, declared.mode.Mode.{Mode, TheVariants.{Include, Exclude}}, declared.record.Record.{Record}}
use Rattle.socket_merge.specs.{FullReport.{farewell, full_on, is_recent, longest_farewell, states}, History.{AcceptedCall}, Interface.{interface, is_wanted, left_at}}
use Rattle.amt_pair.specs.Silence.{IsLeaving}

abbrev pub filter_with : Mode → List Ip → FilterValue
filter_with mode sources = record { mode = mode; sources = sources }

unwanted_by : (mode : Mode) (sources : List Ip) → wants_any_by mode sources ≡ false → filter_with mode sources ≡ nothing
unwanted_by Include [] none = refl
unwanted_by Include (source ∷ more) none = absurd cc
unwanted_by Exclude sources none = absurd cc

-- a filter that wants no source is INCLUDE of nothing
pub unwanted-nothing : (filter : FilterValue) → wants_any filter ≡ false → filter ≡ nothing
unwanted-nothing filter none = unwanted_by filter.mode filter.sources none

pub admits-unwanted : (filter : FilterValue) (source : Ip) → wants_any filter ≡ false → admits filter source ≡ false
admits-unwanted filter source none = ap (λ (value : FilterValue). admits value source) (unwanted-nothing filter none)

unnamed_by : (wanted recent : Bool) (state bye : Record) → cond wanted (state ∷ []) (cond recent (bye ∷ []) []) ≡ [] → (wanted ≡ false) × (recent ≡ false)
unnamed_by true recent state bye none = absurd cc
unnamed_by false true state bye none = absurd cc
unnamed_by false false state bye none = (refl, refl)

-- a group that a full report doesn't name isn't wanted, and wasn't left a short time ago
pub unnamed : (history : List AcceptedCall) (at keep : ℕ) (group : Ip) → full_on history at keep group ≡ []
    → (is_wanted history group ≡ false) × (is_recent at keep (left_at history group) ≡ false)
unnamed history at keep group none =
    unnamed_by (is_wanted history group) (is_recent at keep (left_at history group)) (states group (interface history group)) (farewell group) none

-- nothing is said where neither is so
pub unsaid : (wanted recent : Bool) (state bye : List Record) → wanted ≡ false → recent ≡ false → cond wanted state (cond recent bye []) ≡ []
unsaid wanted recent state bye unwanted gone = cond-false wanted state (cond recent bye []) unwanted ∙ cond-false recent bye [] gone

left_before : (wanted before : Bool) (later at keep : ℕ) (left : Option ℕ) → wanted ≡ false → is_recent at keep (cond wanted None (cond before (Some later) left)) ≡ false
    → at < later + min keep longest_farewell → (before ≡ false) × (is_recent at keep left ≡ false)
left_before true before later at keep left unwanted gone within = absurd cc
left_before false true later at keep left unwanted gone within = let past = ltb-false at (later + min keep longest_farewell) gone in absurd (omega arith)
left_before false false later at keep left unwanted gone within = (refl, gone)

-- nor was it wanted before a call since which farewells still last; it isn't named without the call either
pub unnamed-call : (newest : AcceptedCall) (history : List AcceptedCall) (at keep : ℕ) (group : Ip) → full_on (newest ∷ history) at keep group ≡ []
    → at < newest.moment + min keep longest_farewell → (is_wanted (newest ∷ history) group ≡ false) × (is_wanted history group ≡ false) × (full_on history at keep group ≡ [])
unnamed-call newest history at keep group none within =
    let now = unnamed (newest ∷ history) at keep group none in
    let before = left_before (is_wanted (newest ∷ history) group) (is_wanted history group) newest.moment at keep (left_at history group) now.0 now.1 within in
    (now.0, before.0, unsaid (is_wanted history group) (is_recent at keep (left_at history group)) (states group (interface history group) ∷ []) (farewell group ∷ []) before.0 before.1)

-- a full report names each group that a call of its moment changed
pub full_on-changed : (newest : AcceptedCall) (history : List AcceptedCall) (at keep : ℕ) (group : Ip) → at < newest.moment + min keep longest_farewell
    → interface history group ≢ interface (newest ∷ history) group → full_on (newest ∷ history) at keep group ≢ []
full_on-changed newest history at keep group within changed = λ none.
    let unwanted = unnamed-call newest history at keep group none within in
    changed (unwanted-nothing (interface history group) unwanted.1 ∙ sym (unwanted-nothing (interface (newest ∷ history) group) unwanted.0))

-- what was said of the group at the moment is made good: a full report while farewells last from then names
-- the group, unless it was only said that the group is left
abbrev pub IsMadeGood : List AcceptedCall → Ip → ℕ → List Record → Type 0
IsMadeGood history group moment records =
    (at keep : ℕ) → full_on history at keep group ≡ [] → at < moment + min keep longest_farewell → All IsLeaving records

-- a later call changes nothing of that: if the group is wanted no more, it was left with the call
pub IsMadeGood-call : (newest : AcceptedCall) (history : List AcceptedCall) (group : Ip) (moment : ℕ) (records : List Record) → moment ≤ newest.moment
    → IsMadeGood history group moment records → IsMadeGood (newest ∷ history) group moment records
IsMadeGood-call newest history group moment records onward good at keep none within =
    good at keep (unnamed-call newest history at keep group none (omega arith)).2 within

full_leaves : (wanted recent : Bool) (state : Record) (group : Ip) → wanted ≡ false → All IsLeaving (cond wanted (state ∷ []) (cond recent (farewell group ∷ []) []))
full_leaves true recent state group unwanted = absurd cc
full_leaves false true state group unwanted = All-cons IsLeaving (farewell group) [] (record { kind = refl; sources = refl }) (All-nil IsLeaving)
full_leaves false false state group unwanted = All-nil IsLeaving

-- what a full report says is made good by the next ones: of a group that isn't wanted it says no more than that
-- it is left
pub IsMadeGood-full : (history : List AcceptedCall) (moment now keep : ℕ) (group : Ip) → IsMadeGood history group moment (full_on history now keep group)
IsMadeGood-full history moment now keep group at longer none within =
    full_leaves (is_wanted history group) (is_recent now keep (left_at history group)) (states group (interface history group)) group (unnamed history at longer group none).0

pub changes-none : (old new : FilterValue) (group : Ip) → old ≡ nothing → new ≡ nothing → changes_on old new group ≡ []
changes-none old new group before after =
    ap (λ (filter : FilterValue). changes_on filter new group) before ∙ ap (λ (filter : FilterValue). changes_on nothing filter group) after

-- and so is what is said of a change by a call
pub IsMadeGood-changes : (newest : AcceptedCall) (history : List AcceptedCall) (group : Ip) (moment : ℕ) → moment ≤ newest.moment
    → IsMadeGood (newest ∷ history) group moment (changes_on (interface history group) (interface (newest ∷ history) group) group)
IsMadeGood-changes newest history group moment onward at keep none within =
    let unwanted = unnamed-call newest history at keep group none (omega arith) in
    let same = changes-none (interface history group) (interface (newest ∷ history) group) group
    (unwanted-nothing (interface history group) unwanted.1) (unwanted-nothing (interface (newest ∷ history) group) unwanted.0) in
    All-same IsLeaving (changes_on (interface history group) (interface (newest ∷ history) group) group) [] same (All-nil IsLeaving)
