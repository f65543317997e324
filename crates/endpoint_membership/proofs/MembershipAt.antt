-- The membership of a pair as entries come and time passes.
use Rattle.std.proofs.{Common.{◌≡◌, ℕ, ◌+◌, ◌≤◌, ◌<◌, Bool, true, false, cond, ltb, not, if◌then◌else◌, List, [], ◌∷◌, ◌++◌, reverse, filter, Option, Some, None, refl, sym, ap, ◌∙◌, arith}, lemmas.Grind.{reverse_onto}}
use Rattle.amt_values.specs.{declared.address.Ip.{Ip}, EndpointValue.{EndpointValue}}
use Rattle.source_filter.specs.{Filter.{FilterValue, admits, filter_after_all, nothing}, declared.mode.Mode.{Mode, TheVariants.{Include, Exclude}}, declared.record.Record.{Record}}
use Rattle.endpoint_membership.specs.{declared.change.Change.{Change, TheVariants.{Reported, Clear}}, Membership.{Membership, is_fresh}, Admission.{is_admitted}, Stored.{only}, Log.{concerns, is_empty, latest, leaving, live_chain, on_group, records_at, renewed_at}, EndpointGroup.{EndpointGroup, same_endpoint}}
use Rattle.endpoint_membership.{specs.{Memberships.{membership_of, membership_at}, GroupFilter.{filter_of, records_admit}}, proofs.{LiveChain.{live_chain-entry, live_chain-later, live_chain-other, renewed_at-entry, renewed_at-other}, FilterByRecords.{admits-filter_by_records, filter_by_records, filter_by_records-append, filter_by_records-is}}}

-- the filter of a membership, and of a pair where there is none
abbrev pub filter_in : Option Membership → FilterValue
filter_in None = nothing
filter_in (Some membership) = membership.filter

abbrev made : Mode → List Ip → FilterValue
made mode sources = record { mode = mode; sources = sources }

filter_in-made : (endpoint_group : EndpointGroup) (mode : Mode) (sources : List Ip) (renewed : ℕ) → filter_in (membership_of endpoint_group (made mode sources) renewed) ≡ made mode sources
filter_in-made endpoint_group Exclude sources renewed = refl
filter_in-made endpoint_group Include [] renewed = refl
filter_in-made endpoint_group Include (source ∷ sources) renewed = refl

pub filter_in-membership : (endpoint_group : EndpointGroup) (filter : FilterValue) (renewed : ℕ) → filter_in (membership_of endpoint_group filter renewed) ≡ filter
filter_in-membership endpoint_group filter renewed = filter_in-made endpoint_group filter.mode filter.sources renewed

-- the membership, by applying records
pub membership_at-is : (lifetime moment : ℕ) (past : List Change) (endpoint_group : EndpointGroup)
    → membership_at lifetime moment past endpoint_group ≡ membership_of endpoint_group (filter_by_records (live_chain lifetime endpoint_group moment past)) (renewed_at endpoint_group past)
membership_at-is lifetime moment past endpoint_group =
    ap (λ (filter : FilterValue). membership_of endpoint_group filter (renewed_at endpoint_group past)) (sym (filter_by_records-is (live_chain lifetime endpoint_group moment past)))

fresh_made : (lifetime moment : ℕ) (endpoint_group : EndpointGroup) (mode : Mode) (sources : List Ip) (renewed : ℕ) (fresh : Bool) → fresh ≡ ltb moment (renewed + lifetime)
    → membership_of endpoint_group (cond fresh (made mode sources) nothing) renewed ≡ only (is_fresh lifetime moment) (membership_of endpoint_group (made mode sources) renewed)
fresh_made lifetime moment endpoint_group Exclude sources renewed true test = rw (sym test) refl
fresh_made lifetime moment endpoint_group Include [] renewed true test = refl
fresh_made lifetime moment endpoint_group Include (source ∷ sources) renewed true test = rw (sym test) refl
fresh_made lifetime moment endpoint_group Exclude sources renewed false test = rw (sym test) refl
fresh_made lifetime moment endpoint_group Include [] renewed false test = refl
fresh_made lifetime moment endpoint_group Include (source ∷ sources) renewed false test = rw (sym test) refl

filter_by_records-cond : (test : Bool) (records : List Record) → filter_by_records (cond test records []) ≡ cond test (filter_by_records records) nothing
filter_by_records-cond true records = refl
filter_by_records-cond false records = refl

-- as time passes, what isn't renewed ends
pub membership_at-later : (lifetime moment later : ℕ) (past : List Change) (endpoint_group : EndpointGroup) → moment ≤ later
    → membership_at lifetime later past endpoint_group ≡ only (is_fresh lifetime later) (membership_at lifetime moment past endpoint_group)
membership_at-later lifetime moment later past endpoint_group onward =
    let renewed = renewed_at endpoint_group past in
    let fresh = ltb later (renewed + lifetime) in
    let before = filter_by_records (live_chain lifetime endpoint_group moment past) in
    membership_at-is lifetime later past endpoint_group
    ∙ ap (λ (records : List Record). membership_of endpoint_group (filter_by_records records) renewed) (live_chain-later lifetime endpoint_group moment later past onward)
    ∙ ap (λ (filter : FilterValue). membership_of endpoint_group filter renewed) (filter_by_records-cond fresh (live_chain lifetime endpoint_group moment past))
    ∙ fresh_made lifetime later endpoint_group before.mode before.sources renewed fresh refl
    ∙ ap (only (is_fresh lifetime later)) (sym (membership_at-is lifetime moment past endpoint_group))

-- an entry that makes no record of the pair changes nothing there
pub membership_at-other : (lifetime moment : ℕ) (entry : Change) (past : List Change) (endpoint_group : EndpointGroup) → records_at endpoint_group entry ≡ []
    → membership_at lifetime moment (entry ∷ past) endpoint_group ≡ membership_at lifetime moment past endpoint_group
membership_at-other lifetime moment entry past endpoint_group none =
    ap (λ (records : List Record). membership_of endpoint_group (filter_of records) (renewed_at endpoint_group (entry ∷ past))) (live_chain-other lifetime endpoint_group moment entry past none)
    ∙ ap (λ (renewed : ℕ). membership_of endpoint_group (filter_of (live_chain lifetime endpoint_group moment past)) renewed) (renewed_at-other endpoint_group entry past none)

-- an entry that makes records applies them to the membership, and renews it
pub membership_at-entry : (lifetime : ℕ) (entry : Change) (past : List Change) (endpoint_group : EndpointGroup) (records : List Record) → 0 < lifetime
    → records_at endpoint_group entry ≡ reverse records → concerns endpoint_group entry ≡ true
    → membership_at lifetime (latest (entry ∷ past)) (entry ∷ past) endpoint_group
    ≡ membership_of endpoint_group (filter_after_all (filter_in (membership_at lifetime (latest (entry ∷ past)) past endpoint_group)) records) (latest (entry ∷ past))
membership_at-entry lifetime entry past endpoint_group records some makes concerned =
    let moment = latest (entry ∷ past) in
    let older = live_chain lifetime endpoint_group moment past in
    let chain : live_chain lifetime endpoint_group moment (entry ∷ past) ≡ reverse records ++ older =
    live_chain-entry lifetime endpoint_group entry past some ∙ ap (λ (made_here : List Record). made_here ++ older) makes in
    membership_at-is lifetime moment (entry ∷ past) endpoint_group
    ∙ ap (λ (chained : List Record). membership_of endpoint_group (filter_by_records chained) (renewed_at endpoint_group (entry ∷ past))) chain
    ∙ ap (λ (filter : FilterValue). membership_of endpoint_group filter (renewed_at endpoint_group (entry ∷ past))) (filter_by_records-append records older)
    ∙ ap (λ (renewed : ℕ). membership_of endpoint_group (filter_after_all (filter_by_records older) records) renewed) (renewed_at-entry endpoint_group entry past concerned)
    ∙ ap (λ (filter : FilterValue). membership_of endpoint_group (filter_after_all filter records) moment)
    (sym (ap filter_in (membership_at-is lifetime moment past endpoint_group) ∙ filter_in-membership endpoint_group (filter_by_records older) (renewed_at endpoint_group past)))

left_by : (fresh : Bool) (group : Ip) (older : List Record) → filter_by_records (cond fresh (leaving group ∷ older) []) ≡ nothing
left_by true group older = refl
left_by false group older = refl

-- a cleared endpoint has no membership
pub membership_at-clear : (lifetime at : ℕ) (endpoint : EndpointValue) (past : List Change) (endpoint_group : EndpointGroup) → same_endpoint endpoint_group.endpoint endpoint ≡ true
    → membership_at lifetime (latest (Clear endpoint at ∷ past)) (Clear endpoint at ∷ past) endpoint_group ≡ None
membership_at-clear lifetime at endpoint past endpoint_group same =
    let moment = latest (Clear endpoint at ∷ past) in
    let older = live_chain lifetime endpoint_group moment past in
    let chain : live_chain lifetime endpoint_group moment (Clear endpoint at ∷ past) ≡ cond (ltb moment (moment + lifetime)) (leaving endpoint_group.group ∷ older) [] = rw same refl in
    membership_at-is lifetime moment (Clear endpoint at ∷ past) endpoint_group
    ∙ ap (λ (records : List Record). membership_of endpoint_group (filter_by_records records) (renewed_at endpoint_group (Clear endpoint at ∷ past))) chain
    ∙ ap (λ (filter : FilterValue). membership_of endpoint_group filter (renewed_at endpoint_group (Clear endpoint at ∷ past))) (left_by (ltb moment (moment + lifetime)) endpoint_group.group older)

nonempty_end : (records : List Record) (last : Record) → is_empty (records ++ last ∷ []) ≡ false
nonempty_end [] last = refl
nonempty_end (first ∷ later) last = refl

nonempty-reverse : (records : List Record) → is_empty (reverse records) ≡ is_empty records
nonempty-reverse [] = refl
nonempty-reverse (first ∷ later) = ap is_empty (reverse_onto later first []) ∙ nonempty_end (reverse later) first

reported_by : (lifetime at : ℕ) (endpoint : EndpointValue) (records : List Record) (past : List Change) (endpoint_group : EndpointGroup) (on : List Record) → 0 < lifetime
    → on ≡ on_group endpoint_group.group records → same_endpoint endpoint_group.endpoint endpoint ≡ true
    → membership_at lifetime (latest (Reported endpoint records at ∷ past)) (Reported endpoint records at ∷ past) endpoint_group
    ≡ (if is_empty on then membership_at lifetime (latest (Reported endpoint records at ∷ past)) past endpoint_group
    else membership_of endpoint_group (filter_after_all (filter_in (membership_at lifetime (latest (Reported endpoint records at ∷ past)) past endpoint_group)) on) (latest (Reported endpoint records at ∷ past)))
reported_by lifetime at endpoint records past endpoint_group [] some is same =
    membership_at-other lifetime (latest (Reported endpoint records at ∷ past)) (Reported endpoint records at) past endpoint_group (rw (same, sym is) refl)
reported_by lifetime at endpoint records past endpoint_group (first ∷ later) some is same =
    membership_at-entry lifetime (Reported endpoint records at) past endpoint_group (first ∷ later) some (rw (same, sym is) refl)
    (rw same (ap (λ (found : List Record). not (is_empty (reverse found))) (sym is) ∙ ap not (nonempty-reverse (first ∷ later))))

-- a report of the endpoint applies its records on the group, and renews it where there is one
pub membership_at-report : (lifetime at : ℕ) (endpoint : EndpointValue) (records : List Record) (past : List Change) (endpoint_group : EndpointGroup) → 0 < lifetime
    → same_endpoint endpoint_group.endpoint endpoint ≡ true
    → membership_at lifetime (latest (Reported endpoint records at ∷ past)) (Reported endpoint records at ∷ past) endpoint_group
    ≡ (if is_empty (on_group endpoint_group.group records) then membership_at lifetime (latest (Reported endpoint records at ∷ past)) past endpoint_group
    else membership_of endpoint_group (filter_after_all (filter_in (membership_at lifetime (latest (Reported endpoint records at ∷ past)) past endpoint_group)) (on_group endpoint_group.group records)) (latest (Reported endpoint records at ∷ past)))
membership_at-report lifetime at endpoint records past endpoint_group some same =
    reported_by lifetime at endpoint records past endpoint_group (on_group endpoint_group.group records) some refl same

-- what the membership lets in, and nothing where there is none
pub admits-membership_at : (lifetime : ℕ) (log : List Change) (endpoint_group : EndpointGroup) (source : Ip) (moment : ℕ) (found : Option Membership) → latest log ≤ moment
    → membership_at lifetime moment (reverse log) endpoint_group ≡ found → admits (filter_in found) source ≡ is_admitted lifetime log endpoint_group source moment
admits-membership_at lifetime log endpoint_group source moment found onward is =
    let past = reverse log in
    let chain = live_chain lifetime endpoint_group moment past in
    ap (λ (row : Option Membership). admits (filter_in row) source) (sym is ∙ membership_at-is lifetime moment past endpoint_group)
    ∙ ap (λ (filter : FilterValue). admits filter source) (filter_in-membership endpoint_group (filter_by_records chain) (renewed_at endpoint_group past))
    ∙ admits-filter_by_records chain source
    ∙ ap (λ (later : ℕ). records_admit (live_chain lifetime endpoint_group later past) source) (omega arith)

-- what a membership lets in
pub admits-row : (lifetime : ℕ) (log : List Change) (endpoint_group : EndpointGroup) (source : Ip) (moment : ℕ) (membership : Membership) → latest log ≤ moment
    → membership_at lifetime moment (reverse log) endpoint_group ≡ Some membership → admits membership.filter source ≡ is_admitted lifetime log endpoint_group source moment
admits-row lifetime log endpoint_group source moment membership onward is = admits-membership_at lifetime log endpoint_group source moment (Some membership) onward is

-- nothing is let in where there is none
pub admits-none : (lifetime : ℕ) (log : List Change) (endpoint_group : EndpointGroup) (source : Ip) (moment : ℕ) → latest log ≤ moment
    → membership_at lifetime moment (reverse log) endpoint_group ≡ None → is_admitted lifetime log endpoint_group source moment ≡ false
admits-none lifetime log endpoint_group source moment onward is = sym (admits-membership_at lifetime log endpoint_group source moment None onward is)
