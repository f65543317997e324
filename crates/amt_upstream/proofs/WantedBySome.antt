-- The joined filter admits what some endpoint wants.
use Rattle.std.{proofs.{Common.{◌≡◌, ℕ, Bool, true, false, cond, ◌&&◌, ◌||◌, List, [], ◌∷◌, map, filter, refl, sym, ap, ◌∙◌, arith, inl, inr}, lemmas.{Bool.{cases_Bool, or_right}, Cmp.{eq_by_cmp_equiv}}}, specs.List.{list_any}}
use Rattle.amt_values.{specs.{declared.address.Ip.{Ip}, EndpointValue.{EndpointValue}}, proofs.Orders.{endpoint_order-total}}
use Rattle.source_filter.{specs.Filter.{admits}, proofs.MergedFilters.{admits-merged}}
use Rattle.endpoint_membership.specs.{Admission.{rows_admit}, EndpointGroup.{same_endpoint, same_group}, Log.{latest}, Membership.{Membership}, Memberships.{memberships_at, row_of}, declared.change.Change.{Change}}
use Rattle.endpoint_membership.proofs.AdmittedRows.{rows_admit-log}
use Rattle.amt_upstream.specs.Upstream.{AdmitsTheWanted, filters_in, joined}

module _ (group source : Ip) where
  -- some filter of the group admits the source
  abbrev some_admits : List Membership → Bool
  some_admits rows = list_any (λ one. admits one source) (filters_in group rows)

  first_by : (here : Bool) (first : Membership) (later : List Membership)
      → list_any (λ one. admits one source) (map (λ membership. membership.filter) (cond here (first ∷ later) later))
      ≡ ((here && admits first.filter source) || list_any (λ one. admits one source) (map (λ membership. membership.filter) later))
  first_by true first later = refl
  first_by false first later = refl

  some_admits-first : (first : Membership) (rest : List Membership) → some_admits (first ∷ rest) ≡ ((same_group group first.group && admits first.filter source) || some_admits rest)
  some_admits-first first rest = first_by (same_group group first.group) first (filter (λ membership. same_group group membership.group) rest)

  left_by : (test more : Bool) → test ≡ true → (test || more) ≡ true
  left_by test more is = rw is refl

  or_later : (test more : Bool) → test ≡ false → (test || more) ≡ true → more ≡ true
  or_later test more is either = rw is at either

  -- then its endpoint's row does
  found : (rows : List Membership) → some_admits rows ≡ true → (endpoint : EndpointValue) × (rows_admit (map row_of rows) endpoint group source ≡ true)
  found [] none = cc
  found (first ∷ rest) some =
      let here = same_group group first.group && admits first.filter source in
      let either = sym (some_admits-first first rest) ∙ some in
      elim (cases_Bool here) [
        | inl is ↦ (
          first.endpoint,
          left_by ((same_endpoint first.endpoint first.endpoint && same_group group first.group) && admits first.filter source) (rows_admit (map row_of rest) first.endpoint group source)
              (ap (λ (mine : Bool). (mine && same_group group first.group) && admits first.filter source) ((eq_by_cmp_equiv endpoint_order-total).refl first.endpoint) ∙ is),
        )
        | inr is ↦ let later = found rest (or_later here (some_admits rest) is either) in
            (later.0, or_right ((same_endpoint later.0 first.endpoint && same_group group first.group) && admits first.filter source) (rows_admit (map row_of rest) later.0 group source) later.1)
      ]

  weaker_by : (mine here wanted later some : Bool) → (later ≡ true → some ≡ true) → (((mine && here) && wanted) || later) ≡ true → ((here && wanted) || some) ≡ true
  weaker_by mine true true later some more is = refl
  weaker_by true true false later some more is = more is
  weaker_by false true false later some more is = more is
  weaker_by true false wanted later some more is = more is
  weaker_by false false wanted later some more is = more is

  -- and where a row does, some filter does
  given : (rows : List Membership) (endpoint : EndpointValue) → rows_admit (map row_of rows) endpoint group source ≡ true → some_admits rows ≡ true
  given [] endpoint none = none
  given (first ∷ rest) endpoint some =
      some_admits-first first rest
      ∙ weaker_by (same_endpoint endpoint first.endpoint) (same_group group first.group) (admits first.filter source) (rows_admit (map row_of rest) endpoint group source) (some_admits rest) (given rest endpoint) some

-- the filter by the log lets in exactly what some endpoint wants
pub AdmitsTheWanted-joined : (lifetime : ℕ) (log : List Change) (group : Ip) → AdmitsTheWanted lifetime log group (joined (memberships_at lifetime (latest log) log) group)
AdmitsTheWanted-joined lifetime log group source =
    let rows = memberships_at lifetime (latest log) log in
    let admitted = admits-merged (filters_in group rows) (joined rows group) refl source in
    let by_log = λ (endpoint : EndpointValue). rows_admit-log endpoint group source lifetime log (latest log) (omega arith) in (
      (λ some. let one = found group source rows (sym admitted ∙ some) in (one.0, sym (by_log one.0) ∙ one.1)),
      (λ one. admitted ∙ given group source rows one.0 (by_log one.0 ∙ one.1)),
    )
