-- Change records, applied in order to the old filter, give the new one.
use Rattle.std.proofs.{Common.{◌≡◌, Bool, true, false, not, ◌&&◌, ◌||◌, List, [], ◌∷◌, ◌++◌, refl, sym, ap, ◌∙◌}, lemmas.List.{append-nil}}
use Rattle.amt_values.{specs.{declared.address.Ip.{Ip}, Order.{ip_order}, Ascending.{IsAscending, ascending, difference, has, union}}, proofs.{Orders.{ip_order-total, ip_order-exact}, AscendingLaws.{IsAscending-ascending, IsAscending-filter, ascending-fixed, has-difference, has-union, same_ascending}}}
use Rattle.source_filter.{specs.{Changes.{changes_by, changes_on, record_of_some}, Filter.{FilterValue, filter_after_all}, declared.mode.Mode.{Mode, TheVariants.{Include, Exclude}}, declared.record.{Record.{Record}, RecordKind.TheVariants.{Allow, Block}}}, proofs.SourceSets.{listing}}

-- nothing is put in
union_none : (old : List Ip) → IsAscending ip_order old → union ip_order old [] ≡ old
union_none old ascends = ap (λ (all : List Ip). ascending ip_order all) (append-nil old) ∙ ascending-fixed ip_order-total ip_order-exact old ascends

-- nothing is taken out
difference_none : (old : List Ip) → difference ip_order old [] ≡ old
difference_none [] = refl
difference_none (first ∷ more) = ap (λ (rest : List Ip). first ∷ rest) (difference_none more)

put_and_taken : (old new : Bool) → ((old || (new && not old)) && not (old && not new)) ≡ new
put_and_taken true true = refl
put_and_taken true false = refl
put_and_taken false true = refl
put_and_taken false false = refl

taken_and_put : (old new : Bool) → ((old && not (old && not new)) || (new && not old)) ≡ new
taken_and_put true true = refl
taken_and_put true false = refl
taken_and_put false true = refl
taken_and_put false false = refl

-- old sources, with those that the new list alone has put in, less those that the old list alone had
included : (old new : List Ip) → IsAscending ip_order old → IsAscending ip_order new
    → difference ip_order (union ip_order old (difference ip_order new old)) (difference ip_order old new) ≡ new
included old new old_ascends new_ascends =
    let more = difference ip_order new old in
    let fewer = difference ip_order old new in
    let ascends = IsAscending-filter ip_order (λ source. not (has ip_order fewer source)) (union ip_order old more) (IsAscending-ascending ip_order-total (old ++ more)) in
    same_ascending ip_order-total ip_order-exact (difference ip_order (union ip_order old more) fewer) new ascends new_ascends
    (λ source.
    has-difference ip_order-exact (union ip_order old more) fewer source
    ∙ ap (λ (put : Bool). put && not (has ip_order fewer source)) (has-union ip_order-total old more source)
    ∙ ap (λ (here : Bool). (has ip_order old source || here) && not (has ip_order fewer source)) (has-difference ip_order-exact new old source)
    ∙ ap (λ (here : Bool). (has ip_order old source || (has ip_order new source && not (has ip_order old source))) && not here) (has-difference ip_order-exact old new source)
    ∙ put_and_taken (has ip_order old source) (has ip_order new source))

-- and the other way round
excluded : (old new : List Ip) → IsAscending ip_order old → IsAscending ip_order new
    → union ip_order (difference ip_order old (difference ip_order old new)) (difference ip_order new old) ≡ new
excluded old new old_ascends new_ascends =
    let more = difference ip_order new old in
    let fewer = difference ip_order old new in
    let left = difference ip_order old fewer in
    same_ascending ip_order-total ip_order-exact (union ip_order left more) new (IsAscending-ascending ip_order-total (left ++ more)) new_ascends
    (λ source.
    has-union ip_order-total left more source
    ∙ ap (λ (here : Bool). here || has ip_order more source) (has-difference ip_order-exact old fewer source)
    ∙ ap (λ (here : Bool). (has ip_order old source && not here) || has ip_order more source) (has-difference ip_order-exact old new source)
    ∙ ap (λ (here : Bool). (has ip_order old source && not (has ip_order old source && not (has ip_order new source))) || here) (has-difference ip_order-exact new old source)
    ∙ taken_and_put (has ip_order old source) (has ip_order new source))

-- a record that is left out would change nothing
allowed_include : (group : Ip) (old some : List Ip) (later : List Record) → IsAscending ip_order old
    → filter_after_all (listing Include old) (record_of_some Allow group some ++ later) ≡ filter_after_all (listing Include (union ip_order old some)) later
allowed_include group old [] later ascends = ap (λ (sources : List Ip). filter_after_all (listing Include sources) later) (sym (union_none old ascends))
allowed_include group old (first ∷ more) later ascends = refl

allowed_exclude : (group : Ip) (old some : List Ip) (later : List Record)
    → filter_after_all (listing Exclude old) (record_of_some Allow group some ++ later) ≡ filter_after_all (listing Exclude (difference ip_order old some)) later
allowed_exclude group old [] later = ap (λ (sources : List Ip). filter_after_all (listing Exclude sources) later) (sym (difference_none old))
allowed_exclude group old (first ∷ more) later = refl

blocked_include : (group : Ip) (old some : List Ip) → filter_after_all (listing Include old) (record_of_some Block group some) ≡ listing Include (difference ip_order old some)
blocked_include group old [] = ap (λ (sources : List Ip). listing Include sources) (sym (difference_none old))
blocked_include group old (first ∷ more) = refl

blocked_exclude : (group : Ip) (old some : List Ip) → IsAscending ip_order old
    → filter_after_all (listing Exclude old) (record_of_some Block group some) ≡ listing Exclude (union ip_order old some)
blocked_exclude group old [] ascends = ap (λ (sources : List Ip). listing Exclude sources) (sym (union_none old ascends))
blocked_exclude group old (first ∷ more) ascends = refl

applied_by : (before after : Mode) (group : Ip) (old new : List Ip) → IsAscending ip_order old → IsAscending ip_order new
    → filter_after_all (listing before old) (changes_by before after group old new) ≡ listing after new
applied_by Include Include group old new old_ascends new_ascends =
    let more = difference ip_order new old in
    let fewer = difference ip_order old new in
    allowed_include group old more (record_of_some Block group fewer) old_ascends
    ∙ blocked_include group (union ip_order old more) fewer
    ∙ ap (λ (sources : List Ip). listing Include sources) (included old new old_ascends new_ascends)
applied_by Exclude Exclude group old new old_ascends new_ascends =
    let more = difference ip_order new old in
    let fewer = difference ip_order old new in
    let left = difference ip_order old fewer in
    allowed_exclude group old fewer (record_of_some Block group more)
    ∙ blocked_exclude group left more (IsAscending-filter ip_order (λ source. not (has ip_order fewer source)) old old_ascends)
    ∙ ap (λ (sources : List Ip). listing Exclude sources) (excluded old new old_ascends new_ascends)
applied_by Include Exclude group old new old_ascends new_ascends =
    ap (λ (sources : List Ip). listing Exclude sources) (ascending-fixed ip_order-total ip_order-exact new new_ascends)
applied_by Exclude Include group old new old_ascends new_ascends =
    ap (λ (sources : List Ip). listing Include sources) (ascending-fixed ip_order-total ip_order-exact new new_ascends)

-- the change records make the new filter of the old one
pub changes-applied : (old new : FilterValue) (group : Ip) → IsAscending ip_order old.sources → IsAscending ip_order new.sources
    → (records : List Record) → records ≡ changes_on old new group → filter_after_all old records ≡ new
changes-applied old new group old_ascends new_ascends records are =
    ap (λ (all : List Record). filter_after_all old all) are ∙ applied_by old.mode new.mode group old.sources new.sources old_ascends new_ascends
