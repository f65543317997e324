-- Where a tunnel's latest full report made the last entry of its endpoint, the relay admits what the gateway's sockets
-- wanted when it was sent: of each group that it names, and where deliveries are in time of every group. While the
-- gateway is Active, it is what they want now.
use Rattle.std.proofs.Common.{◌≡◌, ◌≢◌, ℕ, ◌+◌, ◌<◌, ◌≤◌, ◌⊎◌, Bool, true, false, cond, List, [], ◌∷◌, Some, refl, sym, ap, ◌∙◌, arith, inl, inr}
use Rattle.amt_values.specs.{EndpointValue.{EndpointValue}, declared.address.Ip.{Ip}}
use Rattle.source_filter.specs.{Filter.{FilterValue, admits, wants_any_by}, declared.mode.Mode.{Mode, TheVariants.{Include, Exclude}}, declared.record.Record.{Record}}
use Rattle.endpoint_membership.specs.{GroupFilter.{records_admit}, Log.{live_chain, on_group}}
use Rattle.socket_merge.specs.{FullReport.{farewell, full_on, is_recent, states}, History.{AcceptedCall}, Interface.{interface, is_wanted, left_at}}
use Rattle.amt_pair.{specs.Sent.{SentReport}, proofs.{MadeGood.{admits-unwanted, filter_with, unnamed}, SilentEntries.{silent_back}}}
use Rattle.amt_pair.proofs.{Tunnel.{Tunnel}, TunnelEntries.{AreMade, IsLast, Made, changes_made, in_group, last-made, last_made, silent-entries}, TunnelReports.{IsNewest, IsOrderly, latest_full, newest-told}}

-- the report is the latest full one, and the last entry is one that it made, less than a lifetime ago
pub record IsTold (lifetime : ℕ) (endpoint : EndpointValue) (tunnel : Tunnel) (made : List Made) (at : ℕ) (report : SentReport) : Type 0 where
  pub latest : latest_full tunnel.sent ≡ Some report
  pub last : last_made endpoint made ≡ Some (record { report = report; at = at })
  pub fresh : tunnel.moment < at + lifetime

-- the relay admits the source of the group at the endpoint
abbrev pub admits_at : ℕ → EndpointValue → ℕ → List Made → Ip → Ip → Bool
admits_at lifetime endpoint moment made group source =
    records_admit (live_chain lifetime (in_group endpoint group) moment (changes_made made)) source

-- ---- what a full report says of a group that it names states the filter

states-admit_by : (mode : Mode) (sources : List Ip) (group source : Ip) (older : List Record)
    → records_admit (states group (filter_with mode sources) ∷ older) source ≡ admits (filter_with mode sources) source
states-admit_by Include sources group source older = refl
states-admit_by Exclude sources group source older = refl

-- one record, before any older ones, that admits what the filter does
record IsStated (records : List Record) (filter : FilterValue) (source : Ip) : Type 0 where
  one : Record
  alone : records ≡ one ∷ []
  admit : (older : List Record) → records_admit (one ∷ older) source ≡ admits filter source

stated_by : (wanted recent : Bool) (mode : Mode) (sources : List Ip) (group source : Ip) → wants_any_by mode sources ≡ wanted
    → cond wanted (states group (filter_with mode sources) ∷ []) (cond recent (farewell group ∷ []) []) ≢ []
    → IsStated (cond wanted (states group (filter_with mode sources) ∷ []) (cond recent (farewell group ∷ []) [])) (filter_with mode sources) source
stated_by true recent mode sources group source wants some =
    record { one = states group (filter_with mode sources); alone = refl; admit = λ older. states-admit_by mode sources group source older }
stated_by false true mode sources group source wants some =
    record { one = farewell group; alone = refl; admit = λ older. sym (admits-unwanted (filter_with mode sources) source wants) }
stated_by false false mode sources group source wants some = absurd (some refl)

IsStated-full : (history : List AcceptedCall) (at keep : ℕ) (group source : Ip) → full_on history at keep group ≢ []
    → IsStated (full_on history at keep group) (interface history group) source
IsStated-full history at keep group source some =
    stated_by (is_wanted history group) (is_recent at keep (left_at history group)) (interface history group).mode (interface history group).sources group source refl some

-- ---- what is admitted

none_or_some : (records : List Record) → (records ≡ []) ⊎ (records ≢ [])
none_or_some [] = inl refl
none_or_some (first ∷ more) = inr (λ wrong. absurd cc)

module _ (InTime : Type 0) (lifetime : ℕ) (endpoint : EndpointValue) (tunnel : Tunnel) (made : List Made) (at : ℕ) (report : SentReport)
    (orderly : IsOrderly (Unit {0}) lifetime tunnel) (entries : AreMade InTime endpoint tunnel.sent made) (told : IsTold lifetime endpoint tunnel made at report) where
  newest : IsNewest (Unit {0}) lifetime tunnel tunnel.sent report
  newest = newest-told (Unit {0}) lifetime tunnel report orderly told.latest

  last : IsLast InTime endpoint lifetime tunnel.moment at report made
  last = last-made InTime endpoint lifetime tunnel.moment at report tunnel.sent made entries told.last

  -- what the report says of each group
  whole : (group : Ip) → on_group group report.records ≡ full_on report.history report.moment report.keep_ms group
  whole = newest.is.whole newest.latest_one.0

  pub named : (group source : Ip) → on_group group report.records ≢ [] → admits_at lifetime endpoint tunnel.moment made group source ≡ admits (interface report.history group) source
  named group source names =
      let stated = IsStated-full report.history report.moment report.keep_ms group source (λ none. names (whole group ∙ none)) in
      let chain = last.begins group stated.one (whole group ∙ stated.alone) told.fresh in
      ap (λ (records : List Record). records_admit records source) chain.1 ∙ stated.admit chain.0

  -- of a group that it doesn't name nothing was wanted
  pub unwanted : (group source : Ip) → (on_group group report.records ≢ [] → ⊥) → admits (interface report.history group) source ≡ false
  unwanted group source not_named = elim (none_or_some (on_group group report.records)) [
    | inl none ↦ admits-unwanted (interface report.history group) source (unnamed report.history report.moment report.keep_ms group (sym (whole group) ∙ none)).0
    | inr names ↦ absurd (not_named names)
  ]

  module _ (short : lifetime ≤ 99940000) (in_time : InTime) where
    -- the longest time of farewells holds a lifetime and a minute
    long : report.keep_ms ≡ lifetime + 60000
    long = let keep = newest.is.keep tt in omega arith

    pub told-all : (group source : Ip) → admits_at lifetime endpoint tunnel.moment made group source ≡ admits (interface report.history group) source
    told-all group source = elim (none_or_some (on_group group report.records)) [
      | inl none ↦
          silent_back lifetime (in_group endpoint group) source tunnel.moment (changes_made made)
          (silent-entries InTime endpoint lifetime group tunnel.moment report.moment report.keep_ms tunnel.sent in_time (newest.quiet group none) long newest.is.sent made entries)
          ∙ sym (unwanted group source (λ names. names none))
      | inr names ↦ named group source names
    ]

    -- a report that made an entry that counts isn't so old that what it stated may have been left since
    pub told-now : tunnel.is_active ≡ true → (group : Ip) → interface tunnel.history group ≡ interface report.history group
    told-now active group = elim (newest.latest_one.1 tt active group) [
      | inl same ↦ same
      | inr past ↦
          let keep = long in
          let minute = last.prompt in_time in
          let fresh = told.fresh in
          absurd (omega arith)
    ]
