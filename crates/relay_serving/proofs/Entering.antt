-- Where one event more, which is no packet, leaves a running relay.
use Rattle.std.{proofs.{Common.{◌≡◌, ◌≤◌, ◌+◌, true, false, List, [], ◌∷◌, ◌++◌, length, reverse, refl, sym, ap, subst, ◌∙◌, arith}, Math.Logic.{∥∥₁_elim, ∥∥₁_map}, Props.{props}, lemmas.List.{append-nil, flat_map_more, length-reverse, length_push, reverse-append, reverse-reverse}}, specs.{Prelude.{Option, Some, None}, List.{flat_map}}}
use Rattle.amt_ports.specs.declared.out_link.OutLink.{Ghosts}
use Rattle.endpoint_membership.specs.{Limits.{IsWithin}, Table.{memberships_now}, declared.change.Change.{Change}}
use Rattle.published_table.specs.{Terms.{Fits}, declared.terms.Terms.{Terms}}
use Rattle.response_mac.specs.declared.secret.Secret.{Secret}
use Rattle.relay_machine.specs.{Accepted.{change_of, with_change}, Answers.{RelayAt, settings_of}, Courses.{each_after}, Published.{published_log}, Settings.{AreLawfulSettings, table_settings_of}, declared.event.Event.{Event}}
use Rattle.relay_machine.{specs.declared.{event.Event.TheVariants.{Moment, Datagram, Packet, Rotate, Limits}, relay.Relay.{Relay}, settings.Settings.{Settings}}, proofs.{Courses.{each_more}, PublishedLog.{published_log-next, published_log-none, published_log-within}}}
use Rattle.replication_workers.specs.SlotStates.{SlotState}
use Rattle.relay_serving.{specs.{Counting.{is_packet}, GivenOut.{AreGivenOut, terms_by}, Happenings.{Happening, Took, published_events_among}, Sending.{Due, due_to, dues_after}}, proofs.Happenings.{published-next}}

-- each event adds at most one entry
few_more : (log : List Change) (entry : Option Change) → length (with_change log entry) ≤ length log + 1
few_more log None = omega arith
few_more log (Some change) = let pushed = length_push log change in omega (arith, pushed)

few_back : (settings : Settings) (first : Secret) (back : List Event) → length (published_log settings first (reverse back)) ≤ length back
few_back settings first [] = let none = ap length (published_log-none settings first) in omega (arith, none)
few_back settings first (event ∷ earlier) =
    let before = few_back settings first earlier in
    let events = reverse earlier in
    let turned = ap (λ (all : List Event). length (published_log settings first all)) (reverse-append (event ∷ []) earlier) in
    let next = ap length (published_log-next settings first events event) in
    let more = few_more (published_log settings first events) (change_of settings first events event) in
    omega (arith, before, turned, next, more)

pub published_log-few : (settings : Settings) (first : Secret) (events : List Event) → length (published_log settings first events) ≤ length events
published_log-few settings first events =
    let back = few_back settings first (reverse events) in
    let turned = ap (λ (all : List Event). length (published_log settings first all)) (reverse-reverse events) in
    let same = length-reverse events in omega (arith, back, turned, same)

-- the log with what was handed out is the published log after the event
pub log-next : (settings after : Settings) (first : Secret) (events later : List Event) (event : Event) (log log' : List Change) (entry : Option Change)
    → after ≡ settings → later ≡ events ++ event ∷ [] → entry ≡ change_of settings first events event → log' ≡ with_change log entry → log ≡ published_log settings first events
    → log' ≡ published_log after first later
log-next settings after first events later event log log' entry same next is grown before =
    grown
    ∙ (λ i. with_change (before i) (is i))
    ∙ sym (published_log-next settings first events event)
    ∙ (λ i. published_log (sym same i) first (sym next i))

-- the entry that an event hands out fits
pub entry-fits : (settings : Settings) (first : Secret) (events : List Event) (event : Event) (log : List Change) (terms : Terms) (change : Change)
    → ∥ AreLawfulSettings settings ∥₁ → terms ≡ terms_by settings → log ≡ published_log settings first events → Some change ≡ change_of settings first events event
    → Fits terms (log ++ change ∷ [])
entry-fits settings first events event log terms change lawful by before is =
    subst (λ (one : Terms). Fits one (log ++ change ∷ [])) (sym by)
    (subst (λ (all : List Change). IsWithin settings.limits (memberships_now (table_settings_of settings) all))
    (published_log-next settings first events event ∙ (λ i. with_change (sym before i) (sym is i)))
    (∥∥₁_elim lawful (hlevel props) (λ known. published_log-within settings first (events ++ event ∷ []) known)))

-- the log that is shown stays where no publishing happens
pub shown-next : (settings after : Settings) (first : Secret) (past later : List Happening) (event : Event) (shown shown' : List Change)
    → after ≡ settings → later ≡ past ++ Took event ∷ [] → shown' ≡ shown → shown ≡ published_log settings first (published_events_among past)
    → shown' ≡ published_log after first (published_events_among later)
shown-next settings after first past later event shown shown' same next kept before =
    kept ∙ before ∙ (λ i. published_log (sym same i) first (sym (published-next past later event next) i))

-- a packet alone is due
pub none_due : (settings : Settings) (first : Secret) (past : List Happening) (event : Event) → is_packet event ≡ false → due_to settings first past (Took event) ≡ []
none_due settings first past (Moment moment) other = refl
none_due settings first past (Datagram bytes from) other = refl
none_due settings first past (Rotate secret) other = refl
none_due settings first past (Limits limits) other = refl
none_due settings first past (Packet bytes) other = absurd (no other)
  where
    no : true ≡ false → ⊥
    no same = cc

pub dues-next : (settings : Settings) (first : Secret) (past : List Happening) (one : Happening)
    → dues_after settings first [] (past ++ one ∷ []) ≡ dues_after settings first [] past ++ due_to settings first past one
dues-next settings first past one =
    ap (flat_map (λ (dues : List Due). dues)) (each_more (due_to settings first) [] past one)
    ∙ sym (flat_map_more (λ (dues : List Due). dues) [] (each_after (due_to settings first) [] past) (due_to settings first past one))

pub given_out-other : {O : Type 0} {g : Ghosts O} (settings after : Settings) (first : Secret) (past later : List Happening) (one : Happening) (slots : List (SlotState O g))
    → after ≡ settings → later ≡ past ++ one ∷ [] → due_to settings first past one ≡ [] → ∥ AreGivenOut settings first past slots ∥₁ → ∥ AreGivenOut after first later slots ∥₁
given_out-other settings after first past later one slots same next none given =
    subst (λ (known : Settings). ∥ AreGivenOut known first later slots ∥₁) (sym same)
    (subst (λ (all : List Happening). ∥ AreGivenOut settings first all slots ∥₁) (sym next)
    (∥∥₁_map given (λ before. record {
      jobs = before.jobs;
      are_due = before.are_due
          ∙ sym (dues-next settings first past one
          ∙ (ap (λ (more : List Due). dues_after settings first [] past ++ more) none ∙ append-nil _));
      at_slots = before.at_slots;
    })))

pub at-next : (relay : Relay) (settings : Settings) (first : Secret) (events later : List Event) (event : Event)
    → settings_of relay ≡ settings → later ≡ events ++ event ∷ [] → RelayAt relay settings first (events ++ event ∷ []) → RelayAt relay (settings_of relay) first later
at-next relay settings first events later event same next at =
    subst (λ (known : Settings). RelayAt relay known first later) (sym same) (subst (λ (all : List Event). RelayAt relay settings first all) (sym next) at)
