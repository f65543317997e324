-- Records that others leave without effect may be left out.
use Rattle.std.{proofs.{Common.{◌≡◌, ℕ, Bool, true, false, cond, not, ◌&&◌, ◌||◌, List, [], ◌∷◌, ◌++◌, filter, Option, Some, None, refl, sym, ap, ◌∙◌, append-nil}, lemmas.Map.Views.{tells_apart}}, specs.BTreeMap.{BTreeMap, get}}
use Rattle.amt_values.{specs.{declared.address.Ip.{Ip}, Order.{ip_order}, Ascending.{IsAscending, ascending, difference, has, union}}, proofs.{Orders.{ip_order-exact, ip_order-total}, AscendingLaws.{IsAscending-ascending, IsAscending-filter, ascending-fixed}}}
use Rattle.source_filter.specs.{Filter.{FilterValue, filter_after, sources_after}, Record.{is_full}, declared.mode.Mode.{Mode, TheVariants.{Include, Exclude}}, declared.record.{Record.{Record}, RecordKind.{RecordKind, TheVariants.{Allow, Block}}}}
use Rattle.endpoint_membership.{specs.{Effective.{AreEnough, AreKnown, IsInOrder, Settle, is_idle, only_renews, renewed_at}, EndpointGroup.{same_group}, EndpointMemberships.{filter_or_nothing, renewed_filter_after, renewed_filter_after_all}, Log.{on_group}, declared.after_report.RenewedFilter.{RenewedFilter}}, proofs.FilterMap.{same_group-back}}

abbrev record_of : RecordKind → Ip → List Ip → Record
record_of kind group sources = record { kind = kind; group = group; sources = sources }

abbrev filter_of : Mode → List Ip → FilterValue
filter_of mode sources = record { mode = mode; sources = sources }

full_filter : (kind : RecordKind) (group : Ip) (sources : List Ip) (one other : FilterValue) → is_full kind ≡ true → filter_after one (record_of kind group sources) ≡ filter_after other (record_of kind group sources)
full_filter Allow group sources one other full = cc full
full_filter Block group sources one other full = cc full
full_filter kind group sources one other full = refl

difference_none : (sources : List Ip) → difference ip_order sources [] ≡ sources
difference_none [] = refl
difference_none (first ∷ more) = ap (λ (rest : List Ip). first ∷ rest) (difference_none more)

union_none : (sources : List Ip) → IsAscending ip_order sources → union ip_order sources [] ≡ sources
union_none sources ascends = ap (ascending ip_order) (append-nil sources) ∙ ascending-fixed ip_order-total ip_order-exact sources ascends

-- a change of no source
same_filter : (kind : RecordKind) (mode : Mode) (group : Ip) (before : List Ip) → is_full kind ≡ false → IsAscending ip_order before → filter_after (filter_of mode before) (record_of kind group []) ≡ filter_of mode before
same_filter Allow Include group before partial ascends = ap (filter_of Include) (union_none before ascends)
same_filter Allow Exclude group before partial ascends = ap (filter_of Exclude) (difference_none before)
same_filter Block Include group before partial ascends = ap (filter_of Include) (difference_none before)
same_filter Block Exclude group before partial ascends = ap (filter_of Exclude) (union_none before ascends)
same_filter kind mode group before partial ascends = cc partial

after_ascends : (kind : RecordKind) (mode : Mode) (before listed : List Ip) → IsAscending ip_order before → IsAscending ip_order (sources_after kind mode before listed)
after_ascends Allow Include before listed ascends = IsAscending-ascending ip_order-total (before ++ listed)
after_ascends Allow Exclude before listed ascends = IsAscending-filter ip_order (λ source. not (has ip_order listed source)) before ascends
after_ascends Block Include before listed ascends = IsAscending-filter ip_order (λ source. not (has ip_order listed source)) before ascends
after_ascends Block Exclude before listed ascends = IsAscending-ascending ip_order-total (before ++ listed)
after_ascends kind mode before listed ascends = IsAscending-ascending ip_order-total listed

abbrev renewed_with : ℕ → FilterValue → Option RenewedFilter
renewed_with moment filter = Some (record { filter = filter; renewed = moment })

-- what a record makes that names a whole filter, whatever was before
full_makes : (moment : ℕ) (group_record : Record) (one other : Option RenewedFilter) → is_full group_record.kind ≡ true
    → renewed_filter_after moment group_record one ≡ renewed_filter_after moment group_record other
full_makes moment group_record one other full =
    ap (renewed_with moment) (full_filter group_record.kind group_record.group group_record.sources (filter_or_nothing one) (filter_or_nothing other) full)

partial_by : (full only : Bool) → (not full && only) ≡ true → full ≡ false
partial_by true only is = cc is
partial_by false only is = refl

never_by : (full : Bool) → (not full && false) ≡ true → ⊥
never_by true is = cc is
never_by false is = cc is

some_is : (one other : Bool) → Some other ≡ Some one → one ≡ other
some_is one other is = cc is

-- a change of no source renews, and does nothing else
renews_by : (moment : ℕ) (kind : RecordKind) (group : Ip) (sources : List Ip) (before : Option RenewedFilter) → only_renews (record_of kind group sources) ≡ true → IsInOrder before
    → renewed_filter_after moment (record_of kind group sources) before ≡ renewed_at moment before
renews_by moment kind group [] before only order =
    ap (renewed_with moment) (same_filter kind (filter_or_nothing before).mode group (filter_or_nothing before).sources (partial_by (is_full kind) true only) order)
renews_by moment kind group (source ∷ more) before only order = absurd (never_by (is_full kind) only)

-- the filter of one more record on the group or not, and then of these
abbrev after_one : Bool → ℕ → Record → Option RenewedFilter → Option RenewedFilter
after_one here moment group_record before = cond here (renewed_filter_after moment group_record before) before

after_one-in_order : (here : Bool) (moment : ℕ) (group_record : Record) (before : Option RenewedFilter) → IsInOrder before → IsInOrder (after_one here moment group_record before)
after_one-in_order true moment group_record before order = after_ascends group_record.kind (filter_or_nothing before).mode (filter_or_nothing before).sources group_record.sources order
after_one-in_order false moment group_record before order = order

-- a group's filter in the place of the old one
pub in_order_set : (here : Bool) (made : RenewedFilter) (old : Option RenewedFilter) → IsAscending ip_order made.filter.sources → IsInOrder old → IsInOrder (cond here (Some made) old)
in_order_set true made old ascends order = ascends
in_order_set false made old ascends order = order

first_by : (here : Bool) (moment : ℕ) (group_record : Record) (later : List Record) (before : Option RenewedFilter)
    → renewed_filter_after_all moment (cond here (group_record ∷ later) later) before ≡ renewed_filter_after_all moment later (after_one here moment group_record before)
first_by true moment group_record later before = refl
first_by false moment group_record later before = refl

first_is : (moment : ℕ) (group : Ip) (group_record : Record) (later : List Record) (before : Option RenewedFilter)
    → renewed_filter_after_all moment (on_group group (group_record ∷ later)) before ≡ renewed_filter_after_all moment (on_group group later) (after_one (same_group group group_record.group) moment group_record before)
first_is moment group group_record later before = first_by (same_group group group_record.group) moment group_record (on_group group later) before

idle_by : (whole only : Bool) (moment : ℕ) (group_record : Record) (later : List Record) (before : Option RenewedFilter) → (whole || only) ≡ true → (only ≡ true → only_renews group_record ≡ true) → IsInOrder before
    → Settle whole moment later → renewed_filter_after_all moment later before ≡ renewed_filter_after_all moment later (renewed_filter_after moment group_record before)
idle_by true only moment group_record later before idle is order settle = settle before (renewed_filter_after moment group_record before)
idle_by false true moment group_record later before idle is order settle =
    sym (settle before) ∙ ap (renewed_filter_after_all moment later) (sym (renews_by moment group_record.kind group_record.group group_record.sources before (is refl) order))
idle_by false false moment group_record later before idle is order settle = cc idle

idle_at : (found : Option Bool) (moment : ℕ) (group_record : Record) (later : List Record) (before : Option RenewedFilter) → is_idle found group_record ≡ true → IsInOrder before
    → ((whole : Bool) → found ≡ Some whole → Settle whole moment later) → renewed_filter_after_all moment later before ≡ renewed_filter_after_all moment later (renewed_filter_after moment group_record before)
idle_at None moment group_record later before idle order settle = cc idle
idle_at (Some whole) moment group_record later before idle order settle = idle_by whole (only_renews group_record) moment group_record later before idle (λ only. only) order (settle whole refl)

passed_by : (here : Bool) (found : Option Bool) (moment : ℕ) (group_record : Record) (later : List Record) (before : Option RenewedFilter) → is_idle found group_record ≡ true → IsInOrder before
    → (here ≡ true → (whole : Bool) → found ≡ Some whole → Settle whole moment later) → renewed_filter_after_all moment later before ≡ renewed_filter_after_all moment later (after_one here moment group_record before)
passed_by true found moment group_record later before idle order settle = idle_at found moment group_record later before idle order (settle refl)
passed_by false found moment group_record later before idle order settle = refl

-- a record of which later ones leave nothing may be left out
pub enough_without : (known : BTreeMap Ip Bool) (kept all : List Record) (group_record : Record) (found : Option Bool) → found ≡ get ip_order known group_record.group → is_idle found group_record ≡ true
    → AreKnown known kept → AreEnough kept all → AreEnough kept (group_record ∷ all)
enough_without known kept all group_record found is idle are enough moment group before order =
    let here = same_group group group_record.group in
    let settle : here ≡ true → (whole : Bool) → found ≡ Some whole → Settle whole moment (on_group group kept) = λ same whole so.
    are moment group whole (ap (get ip_order known) (tells_apart ip_order-exact group group_record.group same) ∙ sym is ∙ so) in
    passed_by here found moment group_record (on_group group kept) before idle order settle
    ∙ enough moment group (after_one here moment group_record before) (after_one-in_order here moment group_record before order)
    ∙ sym (first_is moment group group_record all before)

-- a record more of both
pub enough_with : (kept all : List Record) (group_record : Record) → AreEnough kept all → AreEnough (group_record ∷ kept) (group_record ∷ all)
enough_with kept all group_record enough moment group before order =
    let here = same_group group group_record.group in
    first_is moment group group_record kept before
    ∙ enough moment group (after_one here moment group_record before) (after_one-in_order here moment group_record before order)
    ∙ sym (first_is moment group group_record all before)

-- what later records leave of what was before stays so with a record between
settle_still : (here whole : Bool) (moment : ℕ) (group_record : Record) (later : List Record) → Settle whole moment later → Settle whole moment (cond here (group_record ∷ later) later)
settle_still true true moment group_record later settle = λ one other. settle (renewed_filter_after moment group_record one) (renewed_filter_after moment group_record other)
settle_still true false moment group_record later settle = λ before. refl
settle_still false whole moment group_record later settle = settle

pub known_still : (known : BTreeMap Ip Bool) (kept : List Record) (group_record : Record) → AreKnown known kept → AreKnown known (group_record ∷ kept)
known_still known kept group_record are moment group whole is = settle_still (same_group group group_record.group) whole moment group_record (on_group group kept) (are moment group whole is)

-- what a record leaves of what was before
settle_first : (full : Bool) (moment : ℕ) (group_record : Record) (later : List Record) → full ≡ is_full group_record.kind → Settle full moment (group_record ∷ later)
settle_first true moment group_record later is = λ one other. ap (renewed_filter_after_all moment later) (full_makes moment group_record one other (sym is))
settle_first false moment group_record later is = λ before. refl

known_by : (here whole full : Bool) (found : Option Bool) (moment : ℕ) (group_record : Record) (later : List Record) → full ≡ is_full group_record.kind → cond here (Some full) found ≡ Some whole
    → (found ≡ Some whole → Settle whole moment later) → Settle whole moment (cond here (group_record ∷ later) later)
known_by true whole full found moment group_record later is set settle = settle_first whole moment group_record later (some_is whole full set ∙ is)
known_by false whole full found moment group_record later is set settle = settle set

-- the group of the record is known
pub known_more : (known more : BTreeMap Ip Bool) (kept : List Record) (group_record : Record) (full : Bool) → full ≡ is_full group_record.kind
    → ((other : Ip) → get ip_order more other ≡ cond (same_group group_record.group other) (Some full) (get ip_order known other)) → AreKnown known kept → AreKnown more (group_record ∷ kept)
known_more known more kept group_record full is set are moment group whole so =
    known_by (same_group group group_record.group) whole full (get ip_order known group) moment group_record (on_group group kept) is
    (ap (λ (test : Bool). cond test (Some full) (get ip_order known group)) (same_group-back group group_record.group) ∙ sym (set group) ∙ so) (are moment group whole)

-- the first record, and then the others
pub one_first : (moment : ℕ) (group : Ip) (group_record : Record) (later : List Record) (before : Option RenewedFilter)
    → renewed_filter_after_all moment (on_group group (group_record ∷ later)) before
    ≡ renewed_filter_after_all moment (on_group group later) (renewed_filter_after_all moment (on_group group (group_record ∷ [])) before)
one_first moment group group_record later before =
    first_is moment group group_record later before ∙ ap (renewed_filter_after_all moment (on_group group later)) (sym (first_is moment group group_record [] before))
