-- What the filters of a group want merged, by what each of them wants.
use Rattle.std.proofs.{Common.{◌≡◌, ℕ, ◌+◌, ◌≤◌, Bool, true, false, not, ◌&&◌, ◌||◌, cond, List, [], ◌∷◌, ◌++◌, length, map, filter, refl, sym, ap, ◌∙◌, arith}, Math.Bool.{or-true}, lemmas.{Bool.{or_left}, Cmp.{eq_by_cmp_equiv, tied_itself}, List.{length-append}}}
use Rattle.std.{proofs.lemmas.{List.{Elements.{All-append, All-cons, All-contains, All-filter, All-head, All-nil, All-tail}, Filters.{length-filter_both}, Sums.{sum_by-cons}}, Map.Views.{All-from_any, Contains-from_any, tells_apart}}, specs.{List.{All, list_any, sum_by}, Ordering.{is_eq}}}
use Rattle.amt_values.{specs.{declared.address.Ip.{Ip}, Order.{ip_order}, Ascending.{ascending, has, intersection}}, proofs.{Orders.{ip_order-exact, ip_order-total}, AscendingLaws.{has-ascending, length-ascending}}}
use Rattle.source_filter.specs.{Filter.{FilterValue, wants_any, wants_any_by}, Merging.{all_sources, common_sources, exclude_list, exclude_lists, include_list, include_lists, intersection_of, merged, merged_by, union_of}, declared.mode.Mode.{Mode, TheVariants.{Include, Exclude}}}
use Rattle.socket_merge.specs.{History.{Socket}, Interface.{filters_on, on_group, same_group}}

pub same_group-exact : (one other : Ip) → same_group one other ≡ true → one ≡ other
same_group-exact one other same = tells_apart ip_order-exact one other same

pub same_group-itself : (group : Ip) → same_group group group ≡ true
same_group-itself group = ap is_eq (tied_itself ip_order-total group)

-- a test of what is made of items is one of the items
pub any-map : {X Y : Type 0} (test : Y → Bool) (f : X → Y) (xs : List X) → list_any test (map f xs) ≡ list_any (λ x. test (f x)) xs
any-map test f [] = refl
any-map test f (x ∷ xs) = ap (λ (rest : Bool). test (f x) || rest) (any-map test f xs)

any_by : {X : Type 0} (b : Bool) (test : X → Bool) (x : X) (xs : List X) → list_any test (cond b (x ∷ xs) xs) ≡ ((b && test x) || list_any test xs)
any_by true test x xs = refl
any_by false test x xs = refl

any-filter : {X : Type 0} (passes test : X → Bool) (xs : List X) → list_any test (filter passes xs) ≡ list_any (λ x. passes x && test x) xs
any-filter passes test [] = refl
any-filter passes test (x ∷ xs) = any_by (passes x) test x (filter passes xs) ∙ ap (λ (rest : Bool). (passes x && test x) || rest) (any-filter passes test xs)

-- a test of the filters of a group is one of all sockets
pub any-on : (group : Ip) (test : FilterValue → Bool) (sockets : List Socket)
    → list_any (λ (one : Socket). same_group group one.group && test one.filter) sockets ≡ list_any test (filters_on group sockets)
any-on group test sockets =
    sym (any-map test (λ (one : Socket). one.filter) (on_group group sockets) ∙ any-filter (λ one. same_group group one.group) (λ one. test one.filter) sockets)

-- the list has an item
abbrev pub some_item : {X : Type 0} → List X → Bool
some_item [] = false
some_item (x ∷ xs) = true

wants_any-include : (sources : List Ip) → wants_any_by Include sources ≡ some_item sources
wants_any-include [] = refl
wants_any-include (source ∷ more) = refl

some_item-has : (sources : List Ip) (source : Ip) → has ip_order sources source ≡ true → some_item sources ≡ true
some_item-has [] source listed = listed
some_item-has (first ∷ more) source listed = refl

some_item-ascending : (sources : List Ip) → some_item (ascending ip_order sources) ≡ some_item sources
some_item-ascending [] = refl
some_item-ascending (source ∷ more) =
    some_item-has (ascending ip_order (source ∷ more)) source (has-ascending ip_order-total (source ∷ more) source ∙ or_left (same_group source source) (has ip_order more source) (same_group-itself source))

wants_any-merged_by : (exclude include : List (List Ip))
    → wants_any (merged_by (intersection_of exclude) (union_of include)) ≡ (some_item exclude || some_item (all_sources include))
wants_any-merged_by [] include = wants_any-include (union_of include) ∙ some_item-ascending (all_sources include)
wants_any-merged_by (first ∷ more) include = refl

some_first : (mode : Mode) (sources : List Ip) (exclude include : List (List Ip))
    → (some_item (exclude_list mode sources ++ exclude) || some_item (all_sources (include_list mode sources ++ include)))
    ≡ (wants_any_by mode sources || (some_item exclude || some_item (all_sources include)))
some_first Exclude sources exclude include = refl
some_first Include [] exclude include = refl
some_first Include (source ∷ more) exclude include = or-true (some_item exclude)

some_wanted : (filters : List FilterValue) → (some_item (exclude_lists filters) || some_item (all_sources (include_lists filters))) ≡ list_any wants_any filters
some_wanted [] = refl
some_wanted (first ∷ more) =
    some_first first.mode first.sources (exclude_lists more) (include_lists more) ∙ ap (λ (rest : Bool). wants_any first || rest) (some_wanted more)

-- merged filters want some source where one of them does
pub wants_any-merged : (filters : List FilterValue) → wants_any (merged filters) ≡ list_any wants_any filters
wants_any-merged filters = wants_any-merged_by (exclude_lists filters) (include_lists filters) ∙ some_wanted filters

pub length-filter_le : (test : Ip → Bool) (sources : List Ip) → length (filter test sources) ≤ length sources
length-filter_le test sources = omega (arith, length-filter_both test (λ source. not (test source)) (λ _. refl) sources)

length-common_sources : (first : List Ip) (more : List (List Ip)) → length (common_sources first more) ≤ length first
length-common_sources first [] = omega arith
length-common_sources first (next ∷ more) =
    omega (arith, length-common_sources (intersection ip_order first next) more, length-filter_le (λ source. has ip_order next source) first)

length-merged_by : (exclude include : List (List Ip))
    → length (merged_by (intersection_of exclude) (union_of include)).sources ≤ length (all_sources exclude) + length (all_sources include)
length-merged_by [] include = omega (arith, length-ascending ip_order (all_sources include))
length-merged_by (first ∷ more) include =
    omega (
      arith,
      length-filter_le (λ source. not (has ip_order (union_of include) source)) (common_sources first more),
      length-common_sources first more,
      length-append first (all_sources more),
    )

length-first : (mode : Mode) (sources : List Ip) (exclude include : List (List Ip))
    → length (all_sources (exclude_list mode sources ++ exclude)) + length (all_sources (include_list mode sources ++ include))
    ≡ length sources + (length (all_sources exclude) + length (all_sources include))
length-first Exclude sources exclude include = omega (arith, length-append sources (all_sources exclude))
length-first Include sources exclude include = omega (arith, length-append sources (all_sources include))

-- how many sources the filter lists
abbrev pub source_number : FilterValue → ℕ
source_number filter = length filter.sources

length-lists : (filters : List FilterValue) → length (all_sources (exclude_lists filters)) + length (all_sources (include_lists filters)) ≡ sum_by source_number filters
length-lists [] = refl
length-lists (first ∷ more) =
    omega (arith, length-first first.mode first.sources (exclude_lists more) (include_lists more), length-lists more, sum_by-cons source_number first more)

-- merged filters list no more sources than they do one by one
pub length-merged : (filters : List FilterValue) → length (merged filters).sources ≤ sum_by source_number filters
length-merged filters = omega (arith, length-merged_by (exclude_lists filters) (include_lists filters), length-lists filters)

module _ (P : Ip → Type 0) where
  -- what holds of each item holds of one that the list has
  pub All-has : (sources : List Ip) (source : Ip) → All P sources → has ip_order sources source ≡ true → P source
  All-has sources source all some = All-contains P sources source all (Contains-from_any same_group-exact source sources some)

  pub All-ascending : (sources : List Ip) → All P sources → All P (ascending ip_order sources)
  All-ascending sources all =
      All-from_any (eq_by_cmp_equiv ip_order-total) P (ascending ip_order sources) (λ source some. All-has sources source all (sym (has-ascending ip_order-total sources source) ∙ some))

  All-common_sources : (first : List Ip) (more : List (List Ip)) → All P first → All P (common_sources first more)
  All-common_sources first [] all = all
  All-common_sources first (next ∷ more) all = All-common_sources (intersection ip_order first next) more (All-filter (λ source. has ip_order next source) P first all)

  All-merged_by : (exclude include : List (List Ip)) → All (All P) exclude → All P (all_sources include) → All P (merged_by (intersection_of exclude) (union_of include)).sources
  All-merged_by [] include excluded included = All-ascending (all_sources include) included
  All-merged_by (first ∷ more) include excluded included =
      All-filter (λ source. not (has ip_order (union_of include) source)) P (common_sources first more) (All-common_sources first more (All-head (All P) first more excluded))

  excluded_first : (mode : Mode) (sources : List Ip) (exclude : List (List Ip)) → All P sources → All (All P) exclude → All (All P) (exclude_list mode sources ++ exclude)
  excluded_first Include sources exclude here all = all
  excluded_first Exclude sources exclude here all = All-cons (All P) sources exclude here all

  included_first : (mode : Mode) (sources : List Ip) (include : List (List Ip)) → All P sources → All P (all_sources include) → All P (all_sources (include_list mode sources ++ include))
  included_first Include sources include here all = All-append P sources (all_sources include) here all
  included_first Exclude sources include here all = all

  -- each source of the filter is such
  abbrev pub AreSuch : FilterValue → Type 0
  AreSuch filter = All P filter.sources

  excluded_all : (filters : List FilterValue) → All AreSuch filters → All (All P) (exclude_lists filters)
  excluded_all [] all = All-nil (All P)
  excluded_all (first ∷ more) all =
      excluded_first first.mode first.sources (exclude_lists more) (All-head AreSuch first more all) (excluded_all more (All-tail AreSuch first more all))

  included_all : (filters : List FilterValue) → All AreSuch filters → All P (all_sources (include_lists filters))
  included_all [] all = All-nil P
  included_all (first ∷ more) all =
      included_first first.mode first.sources (include_lists more) (All-head AreSuch first more all) (included_all more (All-tail AreSuch first more all))

  -- what holds of each source of the filters holds of each source of the merged one
  pub All-merged : (filters : List FilterValue) → All AreSuch filters → All P (merged filters).sources
  All-merged filters all = All-merged_by (exclude_lists filters) (include_lists filters) (excluded_all filters all) (included_all filters all)
