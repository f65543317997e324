-- A merged filter admits what some of the filters admits, and its steps.
use Rattle.std.{proofs.{Common.{◌≡◌, ℕ, ◌+◌, ◌<◌, length, take, get_or, Bool, true, false, not, ◌&&◌, ◌||◌, List, [], ◌∷◌, ◌++◌, Some, refl, sym, ap, ◌∙◌}, Math.Bool.{or-false}, lemmas.List.{append-nil, append_assoc, take_more}}, specs.{List.{list_any}, Option.{option_to_list}}}
use Rattle.amt_values.{specs.{declared.address.Ip.{Ip}, Order.{ip_order}, Ascending.{intersection}}, proofs.{Orders.{ip_order-total, ip_order-exact}, AscendingLaws.{has-append, has-ascending, has-difference, has-intersection}}}
use Rattle.source_filter.specs.{Filter.{FilterValue, admits, admits_by}, Record.{lists}, Merging.{exclude_list, exclude_lists, include_list, include_lists, intersection_of, all_sources, merged, merged_by, common_sources, union_of}, declared.mode.Mode.{Mode, TheVariants.{Include, Exclude}}}

-- some list has the source
abbrev some_has : List (List Ip) → Ip → Bool
some_has source_lists source = list_any (λ listed. lists listed source) source_lists

-- some list lacks it
abbrev some_lacks : List (List Ip) → Ip → Bool
some_lacks source_lists source = list_any (λ listed. not (lists listed source)) source_lists

lists-all_sources : (source_lists : List (List Ip)) (source : Ip) → lists (all_sources source_lists) source ≡ some_has source_lists source
lists-all_sources [] source = refl
lists-all_sources (first ∷ more) source = has-append ip_order first (all_sources more) source ∙ ap (λ (rest : Bool). lists first source || rest) (lists-all_sources more source)

lists-union_of : (source_lists : List (List Ip)) (source : Ip) → lists (union_of source_lists) source ≡ some_has source_lists source
lists-union_of source_lists source = has-ascending ip_order-total (all_sources source_lists) source ∙ lists-all_sources source_lists source

lacked : (first next rest : Bool) → (not (first && next) || rest) ≡ (not first || (not next || rest))
lacked true next rest = refl
lacked false next rest = refl

-- a source that is not common to all, some list lacks
lacks-common_sources : (first : List Ip) (more : List (List Ip)) (source : Ip) → not (lists (common_sources first more) source) ≡ some_lacks (first ∷ more) source
lacks-common_sources first [] source = sym (or-false (not (lists first source)))
lacks-common_sources first (next ∷ more) source =
    lacks-common_sources (intersection ip_order first next) more source
    ∙ ap (λ (has : Bool). not has || some_lacks more source) (has-intersection ip_order-exact first next source)
    ∙ lacked (lists first source) (lists next source) (some_lacks more source)

excluded_less : (excluded included : Bool) → not (excluded && not included) ≡ (not excluded || included)
excluded_less true true = refl
excluded_less true false = refl
excluded_less false included = refl

admits-merged_by : (exclude include : List (List Ip)) (source : Ip)
    → admits (merged_by (intersection_of exclude) (union_of include)) source ≡ (some_lacks exclude source || some_has include source)
admits-merged_by [] include source = lists-union_of include source
admits-merged_by (first ∷ more) include source =
    ap not (has-difference ip_order-exact (common_sources first more) (union_of include) source)
    ∙ excluded_less (lists (common_sources first more) source) (lists (union_of include) source)
    ∙ ap (λ (lacks : Bool). lacks || lists (union_of include) source) (lacks-common_sources first more source)
    ∙ ap (λ (has : Bool). some_lacks (first ∷ more) source || has) (lists-union_of include source)

moved : (here lacks has : Bool) → (lacks || (here || has)) ≡ (here || (lacks || has))
moved true true has = refl
moved false true has = refl
moved here false has = refl

grouped : (here lacks has : Bool) → ((here || lacks) || has) ≡ (here || (lacks || has))
grouped true lacks has = refl
grouped false lacks has = refl

-- one more filter: by its mode, its list joins the one or the other lists
one_more : (mode : Mode) (sources : List Ip) (exclude include : List (List Ip)) (source : Ip)
    → (some_lacks (exclude_list mode sources ++ exclude) source || some_has (include_list mode sources ++ include) source)
    ≡ (admits_by mode (lists sources source) || (some_lacks exclude source || some_has include source))
one_more Include sources exclude include source = moved (lists sources source) (some_lacks exclude source) (some_has include source)
one_more Exclude sources exclude include source = grouped (not (lists sources source)) (some_lacks exclude source) (some_has include source)

by_lists : (filters : List FilterValue) (source : Ip)
    → (some_lacks (exclude_lists filters) source || some_has (include_lists filters) source) ≡ list_any (λ filter. admits filter source) filters
by_lists [] source = refl
by_lists (first ∷ more) source =
    one_more first.mode first.sources (exclude_lists more) (include_lists more) source
    ∙ ap (λ (rest : Bool). admits first source || rest) (by_lists more source)

-- the merged filter admits a source exactly where some filter does
pub admits-merged : (filters : List FilterValue) (filter : FilterValue) → filter ≡ merged filters
    → (source : Ip) → admits filter source ≡ list_any (λ one. admits one source) filters
admits-merged filters filter is source =
    ap (λ (one : FilterValue). admits one source) is ∙ admits-merged_by (exclude_lists filters) (include_lists filters) source ∙ by_lists filters source

all_sources-append : (some others : List (List Ip)) → all_sources (some ++ others) ≡ all_sources some ++ all_sources others
all_sources-append [] others = refl
all_sources-append (first ∷ more) others = ap (λ (rest : List Ip). first ++ rest) (all_sources-append more others) ∙ sym (append_assoc first (all_sources more) (all_sources others))

include_lists-append : (some others : List FilterValue) → include_lists (some ++ others) ≡ include_lists some ++ include_lists others
include_lists-append [] others = refl
include_lists-append (first ∷ more) others =
    ap (λ (rest : List (List Ip)). include_list first.mode first.sources ++ rest) (include_lists-append more others)
    ∙ sym (append_assoc (include_list first.mode first.sources) (include_lists more) (include_lists others))

exclude_lists-append : (some others : List FilterValue) → exclude_lists (some ++ others) ≡ exclude_lists some ++ exclude_lists others
exclude_lists-append [] others = refl
exclude_lists-append (first ∷ more) others =
    ap (λ (rest : List (List Ip)). exclude_list first.mode first.sources ++ rest) (exclude_lists-append more others)
    ∙ sym (append_assoc (exclude_list first.mode first.sources) (exclude_lists more) (exclude_lists others))

common_sources-append : (first : List Ip) (some others : List (List Ip)) → common_sources first (some ++ others) ≡ common_sources (common_sources first some) others
common_sources-append first [] others = refl
common_sources-append first (next ∷ more) others = common_sources-append (intersection ip_order first next) more others

-- an intersection of lists, and then with others
intersection_of-append : (some others : List (List Ip)) → intersection_of (some ++ others) ≡ intersection_of (option_to_list (intersection_of some) ++ others)
intersection_of-append [] others = refl
intersection_of-append (first ∷ more) others = ap Some (common_sources-append first more others)

-- the lists of one filter more
taken : (filters : List FilterValue) (k : ℕ) (next : FilterValue) → k < length filters → next ≡ get_or filters k next → take (k + 1) filters ≡ take k filters ++ next ∷ []
taken filters k next more is = take_more filters k next more ∙ ap (λ (one : FilterValue). take k filters ++ one ∷ []) (sym is)

include_lists-last : (filters : List FilterValue) (next : FilterValue) → include_lists (filters ++ next ∷ []) ≡ include_lists filters ++ include_list next.mode next.sources
include_lists-last filters next =
    include_lists-append filters (next ∷ []) ∙ ap (λ (rest : List (List Ip)). include_lists filters ++ rest) (append-nil (include_list next.mode next.sources))

exclude_lists-last : (filters : List FilterValue) (next : FilterValue) → exclude_lists (filters ++ next ∷ []) ≡ exclude_lists filters ++ exclude_list next.mode next.sources
exclude_lists-last filters next =
    exclude_lists-append filters (next ∷ []) ∙ ap (λ (rest : List (List Ip)). exclude_lists filters ++ rest) (append-nil (exclude_list next.mode next.sources))

pub all_sources-more : (filters : List FilterValue) (k : ℕ) (next : FilterValue) → k < length filters → next ≡ get_or filters k next
    → all_sources (include_lists (take k filters)) ++ all_sources (include_list next.mode next.sources) ≡ all_sources (include_lists (take (k + 1) filters))
all_sources-more filters k next more is =
    sym (
    ap (λ (all : List FilterValue). all_sources (include_lists all)) (taken filters k next more is) ∙ ap all_sources (include_lists-last (take k filters) next)
    ∙ all_sources-append (include_lists (take k filters)) (include_list next.mode next.sources))

pub intersection_of-more : (filters : List FilterValue) (k : ℕ) (next : FilterValue) → k < length filters → next ≡ get_or filters k next
    → intersection_of (option_to_list (intersection_of (exclude_lists (take k filters))) ++ exclude_list next.mode next.sources)
    ≡ intersection_of (exclude_lists (take (k + 1) filters))
intersection_of-more filters k next more is =
    sym (
    ap (λ (all : List FilterValue). intersection_of (exclude_lists all)) (taken filters k next more is)
    ∙ ap intersection_of (exclude_lists-last (take k filters) next)
    ∙ intersection_of-append (exclude_lists (take k filters)) (exclude_list next.mode next.sources))
