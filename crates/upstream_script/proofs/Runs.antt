-- A relay and what its endpoints together want, after one item more.
use Rattle.std.{proofs.{Common.{◌≡◌, ℕ, List, [], ◌∷◌, ◌++◌, Option, None, Some, sym, ap, subst, ◌∙◌, append-nil}, lemmas.List.Elements.{filter_map-append}}, specs.{List.{AllByRecursion, flat_map}, Prelude.{IfSome}}}
use Rattle.response_mac.specs.declared.secret.Secret.{Secret}
use Rattle.source_filter.specs.declared.record.Record.{Record}
use Rattle.endpoint_membership.specs.{Limits.{IsWithin}, Table.{Holds, TableSettings, TableValue, memberships_now}, declared.change.Change.{Change}}
use Rattle.amt_upstream.{specs.Upstream.{StaysWithin, records_between}, proofs.ChangedGroups.{records_between-itself}}
use Rattle.relay_machine.specs.{Accepted.{change_of, with_change}, Answers.{RelayAt, outcome_of, sends_of}, Published.{published_log}, Settings.{AreLawfulSettings, membership_interval_ms, table_settings_of}}
use Rattle.relay_machine.{specs.declared.{event.Event.{Event}, outcome.Outcome.{Outcome}, sends.OneSend.{OneSend}, settings.Settings.{Settings}}, proofs.PublishedLog.{published_log-next, published_log-none, published_log-within}}
use Rattle.amt_script.specs.{Running.{IsItem}, Texts.{RelayStart, event_in, events_in, step_text}, declared.script.RelayItem.{RelayItem}}
use Rattle.amt_script.specs.declared.script.RelayItem.TheVariants as items
use Rattle.upstream_script.{specs.{Running.{IsUpstreamAfter, MayCome}, Texts.{change_line, item_text, published_memberships}, declared.replay.UpstreamRun.{UpstreamRun}}}

-- where no entry is taken there is no line
pub none_taken : (settings : TableSettings) (log : List Change) (entry : Option Change) (text : List ℕ) → entry ≡ None
    → text ≡ text ++ flat_map change_line (records_between (memberships_now settings log) (memberships_now settings (with_change log entry)))
none_taken settings log entry text none =
    let rows = memberships_now settings log in
    sym (append-nil text)
    ∙ (ap (λ (records : List Record). text ++ flat_map change_line records) (sym (records_between-itself rows))
    ∙ ap (λ (one : Option Change). text ++ flat_map change_line (records_between rows (memberships_now settings (with_change log one)))) (sym none))

module _ (settings : Settings) (first : Secret) (events : List Event) (event : Event) where
  -- the published log with what the step hands out is that of the events with this one
  log_is : (entry : Option Change) → entry ≡ change_of settings first events event
      → with_change (published_log settings first events) entry ≡ published_log settings first (events ++ event ∷ [])
  log_is entry is = ap (with_change (published_log settings first events)) is ∙ sym (published_log-next settings first events event)

  -- what the step hands out may be taken
  pub may_take : (entry : Option Change) (upstream : TableValue) → AreLawfulSettings settings
      → Holds (table_settings_of settings) upstream (published_log settings first events) → entry ≡ change_of settings first events event → IfSome entry (StaysWithin upstream)
  may_take None upstream lawful holds is = tt
  may_take (Some change) upstream lawful holds is = record {
    settings = table_settings_of settings;
    log = published_log settings first events;
    holds = holds;
    within = subst (λ (log : List Change). IsWithin settings.limits (memberships_now (table_settings_of settings) log))
        (sym (log_is (Some change) is)) (published_log-within settings first (events ++ event ∷ []) lawful);
  }

  -- the text of the event, by what its step was
  pub text_is : (number : ℕ) (outcome : Outcome) (sends : List OneSend) (entry : Option Change) (step text : List ℕ)
      → outcome ≡ outcome_of settings first events event → sends ≡ sends_of settings first events event → entry ≡ change_of settings first events event
      → step ≡ step_text number outcome sends
      → text ≡ step ++ flat_map change_line (records_between (published_memberships settings first events)
      (memberships_now (table_settings_of settings) (with_change (published_log settings first events) entry)))
      → text ≡ item_text settings first events number (items.Event event)
  text_is number outcome sends entry step text is_outcome is_sends is_entry is_step is_text =
      let rows = published_memberships settings first events in
      let answer = is_step ∙ (λ i. step_text number (is_outcome i) (is_sends i)) in
      is_text ∙ (λ i. answer i ++ flat_map change_line (records_between rows (memberships_now (table_settings_of settings) (log_is entry is_entry i))))

-- both are where the items lead that have these events
at_events : (run : UpstreamRun) (start : RelayStart) (items : List RelayItem) (events : List Event) → events ≡ events_in items
    → RelayAt run.relay start.settings start.secret events → Holds (table_settings_of start.settings) run.upstream (published_log start.settings start.secret events)
    → IsUpstreamAfter run start items
at_events run start items events same relay upstream = record {
  relay_at = subst (RelayAt run.relay start.settings start.secret) same relay;
  upstream_at = subst (λ (all : List Event). Holds (table_settings_of start.settings) run.upstream (published_log start.settings start.secret all)) same upstream;
}

-- after one event more
pub event_more : (run : UpstreamRun) (start : RelayStart) (before : List RelayItem) (event : Event) (entry : Option Change)
    → entry ≡ change_of start.settings start.secret (events_in before) event
    → RelayAt run.relay start.settings start.secret (events_in before ++ event ∷ [])
    → Holds (table_settings_of start.settings) run.upstream (with_change (published_log start.settings start.secret (events_in before)) entry)
    → IsUpstreamAfter run start (before ++ items.Event event ∷ [])
event_more run start before event entry is relay upstream =
    at_events run start (before ++ items.Event event ∷ []) (events_in before ++ event ∷ []) (sym (filter_map-append event_in before (items.Event event ∷ []))) relay
    (subst (Holds (table_settings_of start.settings) run.upstream) (log_is start.settings start.secret (events_in before) event entry is) upstream)

-- after the memberships were shown
pub shown_more : (run : UpstreamRun) (start : RelayStart) (before : List RelayItem) → IsUpstreamAfter run start before → IsUpstreamAfter run start (before ++ items.Show ∷ [])
shown_more run start before at =
    at_events run start (before ++ items.Show ∷ []) (events_in before) (sym (filter_map-append event_in before (items.Show ∷ []) ∙ append-nil (events_in before))) at.relay_at at.upstream_at

-- before all items
pub at_start : (run : UpstreamRun) (start : RelayStart) (lifetime : ℕ) → lifetime ≡ membership_interval_ms start.settings
    → RelayAt run.relay start.settings start.secret [] → Holds (record { limits = start.settings.limits; lifetime = lifetime }) run.upstream []
    → IsUpstreamAfter run start []
at_start run start lifetime same relay upstream = record {
  relay_at = relay;
  upstream_at = subst (Holds (table_settings_of start.settings) run.upstream) (sym (published_log-none start.settings start.secret))
      (subst (λ (ms : ℕ). Holds (record { limits = start.settings.limits; lifetime = ms }) run.upstream []) same upstream);
}

-- each item may come
pub each_may : (start : RelayStart) (all : List RelayItem) → AreLawfulSettings start.settings → AllByRecursion (IsItem start.settings) all → AllByRecursion (MayCome start) all
each_may start [] lawful sized = tt
each_may start (item ∷ rest) lawful sized = (record { lawful = lawful; sized = sized.0 }, each_may start rest lawful sized.1)
