-- Applying records one by one leaves the filter that they make together.
use Rattle.std.proofs.{Common.{◌≡◌, Bool, true, false, not, ◌&&◌, ◌||◌, if◌then◌else◌, List, [], ◌∷◌, ◌++◌, reverse, filter, refl, sym, ap, ◌∙◌}, lemmas.{Bool.{or_parts}, Grind.{reverse_onto}, List.{append_assoc}}}
use Rattle.amt_values.{specs.{declared.address.Ip.{Ip}, Order.{ip_order}, Ascending.{IsAscending}}, proofs.{Orders.{ip_order-total, ip_order-exact}, AscendingLaws.{IsAscending-ascending, has-append, has-filter, same_ascending}}}
use Rattle.source_filter.specs.{Filter.{FilterValue, admits, admits_by, filter_after, filter_after_all, mode_after, nothing}, Record.{is_full, lists, says, says_by, speaks}, declared.mode.Mode.{Mode}}
use Rattle.source_filter.{specs.{declared.mode.Mode.TheVariants.{Include, Exclude}, declared.record.{Record.{Record}, RecordKind.{RecordKind, TheVariants.{IsIn, Allow, Block}}}}, proofs.FilterAfter.{IsAscending-filter_after, admits-filter_after, lists-ascending}}
use Rattle.endpoint_membership.specs.GroupFilter.{records_admit, counted_sources, excludes, is_counted_source, is_excluding, named_sources, filter_of}

-- the filter that records leave, newest first
abbrev pub filter_by_records : List Record → FilterValue
filter_by_records [] = nothing
filter_by_records (newest ∷ older) = filter_after (filter_by_records older) newest

abbrev mode_by : Bool → Mode
mode_by excluding = if excluding then Exclude else Include

mode_after-mode_by : (kind : RecordKind) (before : Bool) → mode_after kind (mode_by before) ≡ mode_by (if is_full kind then is_excluding kind else before)
mode_after-mode_by IsIn before = refl
mode_after-mode_by kind before = refl

mode-filter_by_records : (records : List Record) → (filter_by_records records).mode ≡ mode_by (excludes records)
mode-filter_by_records [] = refl
mode-filter_by_records (newest ∷ older) = ap (mode_after newest.kind) (mode-filter_by_records older) ∙ mode_after-mode_by newest.kind (excludes older)

pub admits-filter_by_records : (records : List Record) (source : Ip) → admits (filter_by_records records) source ≡ records_admit records source
admits-filter_by_records [] source = refl
admits-filter_by_records (newest ∷ older) source =
    admits-filter_after (filter_by_records older) newest source ∙ ap (λ (before : Bool). if speaks newest source then says newest source else before) (admits-filter_by_records older source)

IsAscending-filter_by_records : (records : List Record) → IsAscending ip_order (filter_by_records records).sources
IsAscending-filter_by_records [] = IsAscending-ascending ip_order-total []
IsAscending-filter_by_records (newest ∷ older) = IsAscending-filter_after (filter_by_records older) newest (IsAscending-filter_by_records older)

counted_by : (excluding listed wanted : Bool) → admits_by (mode_by excluding) listed ≡ wanted → listed ≡ (if excluding then not wanted else wanted)
counted_by true true wanted says = ap not says
counted_by true false wanted says = ap not says
counted_by false listed wanted says = says

lists-filter_by_records : (records : List Record) (source : Ip) → lists (filter_by_records records).sources source ≡ is_counted_source records source
lists-filter_by_records records source =
    let says = admits-filter_by_records records source in
    counted_by (excludes records) (lists (filter_by_records records).sources source) (records_admit records source) (rw (mode-filter_by_records records) at says)

silent_by : (kind : RecordKind) (listed admitted excluding : Bool) → listed ≡ false → admitted ≡ excluding
    → (if is_full kind || listed then says_by kind listed else admitted) ≡ (if is_full kind then is_excluding kind else excluding)
silent_by Allow listed admitted excluding none same = rw none same
silent_by Block listed admitted excluding none same = rw none same
silent_by kind listed admitted excluding none same = rw none refl

-- a source that no record names is wanted where all but listed ones are
unnamed : (records : List Record) (source : Ip) → lists (named_sources records) source ≡ false → records_admit records source ≡ excludes records
unnamed [] source none = refl
unnamed (newest ∷ older) source none =
    let both = or_parts (lists newest.sources source) (lists (named_sources older) source) (sym (has-append ip_order newest.sources (named_sources older) source) ∙ none) in
    silent_by newest.kind (lists newest.sources source) (records_admit older source) (excludes older) both.0 (unnamed older source both.1)

uncounted_by : (excluding admitted : Bool) → admitted ≡ excluding → (if excluding then not admitted else admitted) ≡ false
uncounted_by true admitted same = ap not same
uncounted_by false admitted same = same

within_by : (named counted : Bool) → (named ≡ false → counted ≡ false) → counted ≡ (named && counted)
within_by true counted none = refl
within_by false counted none = none refl

lists-counted_sources : (records : List Record) (source : Ip) → lists (filter_by_records records).sources source ≡ lists (counted_sources records) source
lists-counted_sources records source =
    lists-filter_by_records records source
    ∙ within_by (lists (named_sources records) source) (is_counted_source records source) (λ none. uncounted_by (excludes records) (records_admit records source) (unnamed records source none))
    ∙ sym (has-filter ip_order-exact (is_counted_source records) (named_sources records) source)
    ∙ sym (lists-ascending (filter (is_counted_source records) (named_sources records)) source)

sources-filter_by_records : (records : List Record) → (filter_by_records records).sources ≡ counted_sources records
sources-filter_by_records records =
    same_ascending ip_order-total ip_order-exact (filter_by_records records).sources (counted_sources records)
    (IsAscending-filter_by_records records) (IsAscending-ascending ip_order-total (filter (is_counted_source records) (named_sources records))) (lists-counted_sources records)

abbrev made : Mode → List Ip → FilterValue
made mode sources = record { mode = mode; sources = sources }

-- the filter that records leave is the group's filter by the definitions
pub filter_by_records-is : (records : List Record) → filter_by_records records ≡ filter_of records
filter_by_records-is records =
    ap (λ (mode : Mode). made mode (filter_by_records records).sources) (mode-filter_by_records records)
    ∙ ap (λ (sources : List Ip). made (mode_by (excludes records)) sources) (sources-filter_by_records records)

-- records on top of others, turned round
pub filter_by_records-append : (records older : List Record) → filter_by_records (reverse records ++ older) ≡ filter_after_all (filter_by_records older) records
filter_by_records-append [] older = refl
filter_by_records-append (first ∷ later) older =
    ap (λ (turned_round : List Record). filter_by_records (turned_round ++ older)) (reverse_onto later first [])
    ∙ ap filter_by_records (append_assoc (reverse later) (first ∷ []) older)
    ∙ filter_by_records-append later (first ∷ older)
