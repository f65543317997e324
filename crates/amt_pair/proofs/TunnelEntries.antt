-- The entries that the reports of a tunnel made in the log of its relay.
use Rattle.std.{proofs.{Common.{◌≡◌, ℕ, ◌+◌, ◌<◌, ◌≤◌, Bool, true, false, cond, if◌then◌else◌, List, [], ◌∷◌, ◌++◌, map, reverse, All, Contains, Option, Some, None, refl, sym, ap, subst, ◌∙◌, arith, inl, inr}, lemmas.{Bool.{cases_Bool, cond-false, cond-true, lt-ltb}, Cmp.{tied_itself}, List.{Elements.{All-cons, All-contains, All-nil, All-same, Contains-append_right}, Sorted.{All-permutation, IsPermutation-reverse}}}}, specs.Ordering.{is_eq}}
use Rattle.amt_values.{specs.{EndpointValue.{EndpointValue}, declared.address.Ip.{Ip}}, proofs.Orders.{endpoint_order-total}}
use Rattle.source_filter.specs.declared.record.Record.{Record}
use Rattle.endpoint_membership.{specs.{EndpointGroup.{EndpointGroup, same_endpoint}, Log.{brought, latest, leaving, live_chain, on_group, records_at}, declared.change.Change.{Change, TheVariants.{Clear, Mark, Reported}}}, proofs.LiveChain.{live_chain-other}}
use Rattle.amt_pair.{specs.{Entries.{is_change_of}, Sent.{SentReport}, Silence.{IsLeaving, SayNothing}}, proofs.{SilentEntries.{IsSilentBack}, TunnelReports.{AreQuietSince}}}

-- an entry of the relay's log, and the report that made it, where the gateway sent it
pub record Made : Type 0 where
  pub by : Option SentReport
  pub change : Change

-- the entries themselves
abbrev pub changes_made : List Made → List Change
changes_made made = map (λ one. one.change) made

-- the endpoint in a group
abbrev pub in_group : EndpointValue → Ip → EndpointGroup
in_group endpoint group = record { endpoint = endpoint; group = group }

-- an entry that a report made has its records on each group of the endpoint; any other says no more of a group
-- than that it is left
abbrev pub IsMadeBy : EndpointValue → List SentReport → Change → Option SentReport → Type 0
IsMadeBy endpoint sent change None = (group : Ip) → All IsLeaving (records_at (in_group endpoint group) change)
IsMadeBy endpoint sent change (Some report) = Contains sent report × ((group : Ip) → records_at (in_group endpoint group) change ≡ reverse (on_group group report.records))

-- an entry of this moment is at most a minute later than the report that made it, if one did
abbrev pub IsPrompt : Option SentReport → ℕ → Type 0
IsPrompt None at = Unit {0}
IsPrompt (Some report) at = at ≤ report.moment + 60000

-- an entry that isn't of the endpoint makes no record there
records_at-other : (endpoint : EndpointValue) (group : Ip) (change : Change) → is_change_of endpoint change ≡ false → records_at (in_group endpoint group) change ≡ []
records_at-other endpoint group (Reported other records at) not_its = rw not_its refl
records_at-other endpoint group (Clear other at) not_its = rw not_its refl
records_at-other endpoint group (Mark at) not_its = refl

pub made-other : (endpoint : EndpointValue) (sent : List SentReport) (change : Change) → is_change_of endpoint change ≡ false → IsMadeBy endpoint sent change None
made-other endpoint sent change not_its group =
    All-same IsLeaving (records_at (in_group endpoint group) change) [] (records_at-other endpoint group change not_its) (All-nil IsLeaving)

pub made-cleared : (endpoint named : EndpointValue) (sent : List SentReport) (at : ℕ) → IsMadeBy endpoint sent (Clear named at) None
made-cleared endpoint named sent at group = cleared (same_endpoint endpoint named)
  where
    cleared : (same : Bool) → All IsLeaving (cond same (leaving group ∷ []) [])
    cleared true = All-cons IsLeaving (leaving group) [] (record { kind = refl; sources = refl }) (All-nil IsLeaving)
    cleared false = All-nil IsLeaving

-- one that is has the report's records there
pub reported-here : (endpoint : EndpointValue) (records : List Record) (at : ℕ) (group : Ip)
    → records_at (in_group endpoint group) (Reported endpoint records at) ≡ reverse (on_group group records)
reported-here endpoint records at group =
    cond-true (same_endpoint endpoint endpoint) (reverse (on_group group records)) [] (ap is_eq (tied_itself endpoint_order-total endpoint))

pub made-reported : (endpoint : EndpointValue) (sent : List SentReport) (report : SentReport) (at : ℕ) → Contains sent report
    → IsMadeBy endpoint sent (Reported endpoint report.records at) (Some report)
made-reported endpoint sent report at among = (among, reported-here endpoint report.records at)

made_by-sent : (endpoint : EndpointValue) (sent more : List SentReport) (change : Change) (by : Option SentReport) → IsMadeBy endpoint sent change by
    → IsMadeBy endpoint (more ++ sent) change by
made_by-sent endpoint sent more change None made = made
made_by-sent endpoint sent more change (Some one) made = (Contains-append_right more sent one made.0, made.1)

-- ---- the last entry

-- an entry that a report made, and its moment
pub record Last : Type 0 where
  pub report : SentReport
  pub at : ℕ

abbrev last_with : SentReport → ℕ → Last
last_with report at = record { report = report; at = at }

-- the entry, if a report of the gateway made it
abbrev pub last_by : Option SentReport → ℕ → Option Last
last_by None at = None
last_by (Some report) at = Some (record { report = report; at = at })

-- the last entry of the endpoint, if a report of the gateway made it
abbrev pub last_made : EndpointValue → List Made → Option Last
last_made endpoint [] = None
last_made endpoint (made ∷ earlier) =
    if is_change_of endpoint made.change then last_by made.by (brought made.change) else last_made endpoint earlier

last_is : (by : Option SentReport) (moment at : ℕ) (report : SentReport) → last_by by moment ≡ Some (last_with report at) → (by ≡ Some report) × (moment ≡ at)
last_is None moment at report is = absurd cc
last_is (Some other) moment at report is =
    let same : last_with other moment ≡ last_with report at = cc in
    (ap (λ (last : Last). Some last.report) same, ap (λ (last : Last). last.at) same)

-- the chain at a moment begins with this record
abbrev BeginsWith : List Record → Record → Type 0
BeginsWith chain one = (older : List Record) × (chain ≡ one ∷ older)

chain-newest : (lifetime : ℕ) (endpoint_group : EndpointGroup) (moment : ℕ) (entry : Change) (past : List Change) (one : Record)
    → records_at endpoint_group entry ≡ one ∷ [] → moment < latest (entry ∷ past) + lifetime
    → live_chain lifetime endpoint_group moment (entry ∷ past) ≡ one ∷ live_chain lifetime endpoint_group (latest (entry ∷ past)) past
chain-newest lifetime endpoint_group moment entry past one is recent =
    let live = lt-ltb moment (latest (entry ∷ past) + lifetime) recent in rw (is, live) refl

-- ---- all entries, where deliveries may be in time

module _ (InTime : Type 0) (endpoint : EndpointValue) where
  -- the entry is made so; its moment is the latest one of the log up to it
  pub record IsMade (sent : List SentReport) (change : Change) (by : Option SentReport) (at : ℕ) : Type 0 where
    pub said : IsMadeBy endpoint sent change by
    pub prompt : InTime → IsPrompt by at

  -- so is each, newest first
  abbrev pub AreMade : List SentReport → List Made → Type 0
  AreMade sent [] = Unit {0}
  AreMade sent (newest ∷ older) = IsMade sent newest.change newest.by (latest (changes_made (newest ∷ older))) × AreMade sent older

  -- with more reports too
  pub AreMade-sent : (sent more : List SentReport) (made : List Made) → AreMade sent made → AreMade (more ++ sent) made
  AreMade-sent sent more [] all = tt
  AreMade-sent sent more (newest ∷ older) all =
      (record { said = made_by-sent endpoint sent more newest.change newest.by all.0.said; prompt = all.0.prompt }, AreMade-sent sent more older all.1)

  -- the last entry is one that the report made: if it has one record on a group, and still counts, the chain begins with it
  pub record IsLast (lifetime moment at : ℕ) (report : SentReport) (made : List Made) : Type 0 where
    pub begins : (group : Ip) (one : Record) → on_group group report.records ≡ one ∷ [] → moment < at + lifetime
        → BeginsWith (live_chain lifetime (in_group endpoint group) moment (changes_made made)) one
    pub prompt : InTime → at ≤ report.moment + 60000

  pub last-made : (lifetime moment at : ℕ) (report : SentReport) (sent : List SentReport) (made : List Made) → AreMade sent made
      → last_made endpoint made ≡ Some (last_with report at) → IsLast lifetime moment at report made
  last-made lifetime moment at report sent [] all last = absurd cc
  last-made lifetime moment at report sent (newest ∷ older) all last = elim (cases_Bool (is_change_of endpoint newest.change)) [
    | inl its ↦
        let is = last_is newest.by (brought newest.change) at report
        (sym (cond-true (is_change_of endpoint newest.change) (last_by newest.by (brought newest.change)) (last_made endpoint older) its) ∙ last) in
        let when = is.1 in
        record {
          begins = λ group one alone fresh.
              let by : IsMadeBy endpoint sent newest.change (Some report) = subst (IsMadeBy endpoint sent newest.change) is.0 all.0.said in (
                live_chain lifetime (in_group endpoint group) (latest (changes_made (newest ∷ older))) (changes_made older),
                chain-newest lifetime (in_group endpoint group) moment newest.change (changes_made older) one (by.1 group ∙ ap reverse alone) (omega arith),
              );
          prompt = λ in_time.
              let here : IsPrompt (Some report) (latest (changes_made (newest ∷ older))) =
              subst (λ by. IsPrompt by (latest (changes_made (newest ∷ older)))) is.0 (all.0.prompt in_time) in omega arith;
        }
    | inr others ↦
        let rest = last-made lifetime moment at report sent older all.1
        (sym (cond-false (is_change_of endpoint newest.change) (last_by newest.by (brought newest.change)) (last_made endpoint older) others) ∙ last) in
        record {
          begins = λ group one alone fresh.
              let chain = rest.begins group one alone fresh in
              (chain.0, live_chain-other lifetime (in_group endpoint group) moment newest.change (changes_made older) (records_at-other endpoint group newest.change others) ∙ chain.1);
          prompt = rest.prompt;
        }
  ]

  module _ (lifetime : ℕ) (group : Ip) (moment since keep : ℕ) (sent : List SentReport) (in_time : InTime) (quiet : AreQuietSince since keep group sent) (long : keep ≡ lifetime + 60000) (onward : since ≤ moment) where
    silent-by : (change : Change) (by : Option SentReport) (at : ℕ) → IsMadeBy endpoint sent change by → IsPrompt by at → moment < at + lifetime
        → All IsLeaving (records_at (in_group endpoint group) change)
    silent-by change None at made prompt recent = made group
    silent-by change (Some report) at made prompt recent =
        let said = All-contains (λ one. since < one.moment + keep → SayNothing group one.records) sent report quiet made.0 (omega arith) in
        All-same IsLeaving (records_at (in_group endpoint group) change) (reverse (on_group group report.records)) (made.1 group)
        (All-permutation IsLeaving (on_group group report.records) (reverse (on_group group report.records)) (IsPermutation-reverse (on_group group report.records)) said)

    -- where no report says anything of the group since so long, no entry that counts does
    pub silent-entries : (made : List Made) → AreMade sent made → IsSilentBack lifetime (in_group endpoint group) moment (changes_made made)
    silent-entries [] all = tt
    silent-entries (newest ∷ older) all = (
      λ recent. silent-by newest.change newest.by (latest (changes_made (newest ∷ older))) all.0.said (all.0.prompt in_time) recent,
      silent-entries older all.1,
    )
