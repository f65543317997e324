-- How often a key is among those of memberships: once for each membership that it counts.
use Rattle.std.{proofs.{Common.{◌≡◌, ℕ, ◌+◌, Bool, true, false, cond, ◌&&◌, ◌||◌, List, [], ◌∷◌, map, refl, sym, ap, ◌∙◌, arith, zero-add}, lemmas.{Bool.{and_right, or_from}, List.{Folds.{fold-map}, Sums.{sum_by-append, sum_by-cons, sum_by_from}}, Map.{Keys.{sorted_head, sorted_tail}, Views.{tells_apart}}}}, specs.{Cmp.{tied_then}, List.{AllByRecursion, count_by}, Ordering.{eq_by_cmp, is_eq}, declared.cmp.Ordering.{TheVariants.{Less}}}}
use Rattle.amt_values.{specs.{declared.address.Ip.{Ip, TheVariants.{V4}}, Order.{ip_order}, EndpointValue.{EndpointValue}, Ascending.{IsAscending, has}}, proofs.Orders.{ip_order-exact}}
use Rattle.source_filter.specs.declared.mode.Mode.{Mode, TheVariants.{Include, Exclude}}
use Rattle.endpoint_membership.specs.{EndpointGroup.{same_endpoint, same_group}, Membership.{Membership}}
use Rattle.amt_upstream.specs.{Counting.{AreInOrder, counted_order, keys_by, keys_in, keys_of, same_key, times}, declared.count_key.{CountKey.{CountKey}, Counted.{Counted, TheVariants.{Excluders, Excluder, Excluding, Including}}}}
use Rattle.amt_upstream.proofs.KeyOrder.{key_on}

-- what is counted counts an endpoint's filter, by mode and list
abbrev pub counts : Counted → EndpointValue → Mode → List Ip → Bool
counts Excluders endpoint Exclude sources = true
counts (Excluder one) endpoint Exclude sources = same_endpoint one endpoint
counts (Excluding source) endpoint Exclude sources = has ip_order sources source
counts (Including source) endpoint Include sources = has ip_order sources source
counts counted endpoint mode sources = false

-- what is counted of the group counts the membership
abbrev pub is_counted : Ip → Counted → Membership → Bool
is_counted group counted membership = same_group group membership.group && counts counted membership.endpoint membership.filter.mode membership.filter.sources

-- keys are one where both parts are
pub same_key-by : (group other : Ip) (one two : Counted) → same_key (key_on group one) (key_on other two) ≡ (same_group group other && eq_by_cmp counted_order one two)
same_key-by group other one two = sym (tied_then (ip_order group other) (counted_order one two))

-- a source that comes before all others is not among them
absent : (first : Ip) (rest : List Ip) → AllByRecursion (λ next. ip_order first next ≡ Less) rest → has ip_order rest first ≡ false
absent first [] after = refl
absent first (next ∷ rest) after = or_from (eq_by_cmp ip_order first next) (has ip_order rest first) (ap is_eq after.0) (absent first rest after.1)

once_by : (here is later : Bool) (rest : ℕ) → rest ≡ cond (here && later) 1 0 → (is ≡ true → later ≡ false) → cond (here && is) 1 0 + rest ≡ cond (here && (is || later)) 1 0
once_by true true later rest counted apart = let none = counted ∙ ap (λ (one : Bool). cond one 1 0) (apart refl) in omega arith
once_by true false later rest counted apart = omega arith
once_by false is later rest counted apart = omega arith

never : (here : Bool) → ◌≡◌ {A = ℕ} 0 (cond (here && false) 1 0)
never true = refl
never false = refl

module _ (here : Bool) (source : Ip) where
  -- in an ascending list a source stands once
  once : (sources : List Ip) → IsAscending ip_order sources → count_by (λ one. here && eq_by_cmp ip_order source one) sources ≡ cond (here && has ip_order sources source) 1 0
  once [] ascends = never here
  once (first ∷ rest) ascends =
      sum_by-cons (λ (one : Ip). cond (here && eq_by_cmp ip_order source one) 1 0) first rest
      ∙ once_by here (eq_by_cmp ip_order source first) (has ip_order rest source) _ (once rest (sorted_tail ip_order first rest ascends))
      (λ same. ap (has ip_order rest) (tells_apart ip_order-exact source first same) ∙ absent first rest (sorted_head ip_order first rest ascends))

  times-made : (key : CountKey) (made : Ip → CountKey) → ((one : Ip) → same_key key (made one) ≡ (here && eq_by_cmp ip_order source one))
      → (sources : List Ip) → IsAscending ip_order sources → times key (map made sources) ≡ cond (here && has ip_order sources source) 1 0
  times-made key made is sources ascends =
      fold-map (λ (sum : ℕ) (one : CountKey). sum + cond (same_key key one) 1 0) made 0 sources
      ∙ ap (λ (test : Ip → Bool). count_by test sources) (λ i one. is one i) ∙ once sources ascends

-- and where it counts none of the sources
none_made : (key : CountKey) (made : Ip → CountKey) (here : Bool) → ((one : Ip) → same_key key (made one) ≡ (here && false)) → (sources : List Ip) → IsAscending ip_order sources → times key (map made sources) ≡ 0
none_made key made here is sources ascends = times-made false (V4 0) key made (λ one. is one ∙ and_right here false refl) sources ascends

-- what is counted is a source that is excluded
abbrev lists_excluded : Counted → List Ip → Bool
lists_excluded (Excluding source) sources = has ip_order sources source
lists_excluded counted sources = false

whole : (counted : Counted) (endpoint : EndpointValue) (sources : List Ip)
    → cond (eq_by_cmp counted_order counted Excluders) 1 0 + cond (eq_by_cmp counted_order counted (Excluder endpoint)) 1 0 + cond (lists_excluded counted sources) 1 0 ≡ cond (counts counted endpoint Exclude sources) 1 0
whole Excluders endpoint sources = refl
whole (Excluder one) endpoint sources = omega arith
whole (Excluding source) endpoint sources = omega arith
whole (Including source) endpoint sources = refl

-- of the keys of an EXCLUDE filter the first, the second, or those of its sources
summed : (here first second third whole : Bool) → cond first 1 0 + cond second 1 0 + cond third 1 0 ≡ cond whole 1 0
    → cond (here && first) 1 0 + cond (here && second) 1 0 + cond (here && third) 1 0 ≡ cond (here && whole) 1 0
summed true first second third whole is = is
summed false first second third whole is = refl

module _ (group : Ip) where
  -- the keys of an INCLUDE filter
  include_row : (counted : Counted) (other : Ip) (endpoint : EndpointValue) (sources : List Ip) → IsAscending ip_order sources
      → times (key_on group counted) (keys_by Include other endpoint sources) ≡ cond (same_group group other && counts counted endpoint Include sources) 1 0
  include_row (Including source) other endpoint sources ascends =
      times-made (same_group group other) source (key_on group (Including source)) (λ one. key_on other (Including one)) (λ one. same_key-by group other (Including source) (Including one)) sources ascends
  include_row counted other endpoint sources ascends =
      none_made (key_on group counted) (λ one. key_on other (Including one)) (same_group group other) (λ one. same_key-by group other counted (Including one)) sources ascends ∙ never (same_group group other)

  -- those of the sources of an EXCLUDE filter
  listed_row : (counted : Counted) (other : Ip) (endpoint : EndpointValue) (sources : List Ip) → IsAscending ip_order sources
      → times (key_on group counted) (map (λ one. key_on other (Excluding one)) sources) ≡ cond (same_group group other && lists_excluded counted sources) 1 0
  listed_row (Excluding source) other endpoint sources ascends =
      times-made (same_group group other) source (key_on group (Excluding source)) (λ one. key_on other (Excluding one)) (λ one. same_key-by group other (Excluding source) (Excluding one)) sources ascends
  listed_row counted other endpoint sources ascends =
      none_made (key_on group counted) (λ one. key_on other (Excluding one)) (same_group group other) (λ one. same_key-by group other counted (Excluding one)) sources ascends ∙ never (same_group group other)

  -- and all of them
  exclude_row : (counted : Counted) (other : Ip) (endpoint : EndpointValue) (sources : List Ip) → IsAscending ip_order sources
      → times (key_on group counted) (keys_by Exclude other endpoint sources) ≡ cond (same_group group other && counts counted endpoint Exclude sources) 1 0
  exclude_row counted other endpoint sources ascends =
      let key = key_on group counted in
      let here = same_group group other in
      let first = eq_by_cmp counted_order counted Excluders in
      let second = eq_by_cmp counted_order counted (Excluder endpoint) in
      sum_by_from (λ (one : CountKey). cond (same_key key one) 1 0) _ (map (λ one. key_on other (Excluding one)) sources)
      ∙ ap (λ (one : Bool). 0 + cond one 1 0 + cond (same_key key (key_on other (Excluder endpoint))) 1 0 + times key (map (λ one. key_on other (Excluding one)) sources)) (same_key-by group other counted Excluders)
      ∙ ap (λ (one : Bool). 0 + cond (here && first) 1 0 + cond one 1 0 + times key (map (λ one. key_on other (Excluding one)) sources)) (same_key-by group other counted (Excluder endpoint))
      ∙ ap (λ (rest : ℕ). 0 + cond (here && first) 1 0 + cond (here && second) 1 0 + rest) (listed_row counted other endpoint sources ascends)
      ∙ ap (λ (one : ℕ). one + cond (here && second) 1 0 + cond (here && lists_excluded counted sources) 1 0) (zero-add (cond (here && first) 1 0))
      ∙ summed here first second (lists_excluded counted sources) (counts counted endpoint Exclude sources) (whole counted endpoint sources)

module _ (group : Ip) (counted : Counted) where
  times-row : (other : Ip) (endpoint : EndpointValue) (mode : Mode) (sources : List Ip) → IsAscending ip_order sources
      → times (key_on group counted) (keys_by mode other endpoint sources) ≡ cond (same_group group other && counts counted endpoint mode sources) 1 0
  times-row other endpoint Include sources ascends = include_row group counted other endpoint sources ascends
  times-row other endpoint Exclude sources ascends = exclude_row group counted other endpoint sources ascends

  -- so often is the key among those of memberships
  pub times-rows : (rows : List Membership) → AreInOrder rows → times (key_on group counted) (keys_in rows) ≡ count_by (is_counted group counted) rows
  times-rows [] in_order = refl
  times-rows (first ∷ rest) in_order =
      sum_by-append (λ (one : CountKey). cond (same_key (key_on group counted) one) 1 0) (keys_of first.group first.endpoint first.filter) (keys_in rest)
      ∙ ap (λ (here : ℕ). here + times (key_on group counted) (keys_in rest)) (times-row first.group first.endpoint first.filter.mode first.filter.sources in_order.0)
      ∙ ap (λ (more : ℕ). cond (is_counted group counted first) 1 0 + more) (times-rows rest in_order.1)
      ∙ sym (sum_by-cons (λ (membership : Membership). cond (is_counted group counted membership) 1 0) first rest)
