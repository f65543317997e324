-- Of what happened and more: its events, and those before the last publishing.
use Rattle.std.proofs.{Common.{◌≡◌, List, [], ◌∷◌, ◌++◌, map, refl, sym, ap, ◌∙◌, append_assoc, append-nil}, lemmas.List.Elements.{filter_map-append}}
use Rattle.relay_machine.specs.declared.event.Event.{Event}
use Rattle.relay_serving.specs.Happenings.{Happening, Took, Published, event_taken, events_among, published_after, published_events_among}

pub events_among-append : (past more : List Happening) → events_among (past ++ more) ≡ events_among past ++ events_among more
events_among-append past more = filter_map-append event_taken past more

pub events_among-taken : (events : List Event) → events_among (map Took events) ≡ events
events_among-taken [] = refl
events_among-taken (event ∷ events) = ap (λ (later : List Event). event ∷ later) (events_among-taken events)

-- one event more
pub events-next : (past later : List Happening) (event : Event) → later ≡ past ++ Took event ∷ [] → events_among later ≡ events_among past ++ event ∷ []
events-next past later event is = ap events_among is ∙ events_among-append past (Took event ∷ [])

-- a publishing is no event
pub events-shown : (past later : List Happening) → later ≡ past ++ Published ∷ [] → events_among later ≡ events_among past
events-shown past later is = ap events_among is ∙ events_among-append past (Published ∷ []) ∙ append-nil (events_among past)

published_after-append : (published earlier : List Event) (past more : List Happening)
    → published_after published earlier (past ++ more) ≡ published_after (published_after published earlier past) (earlier ++ events_among past) more
published_after-append published earlier [] more = ap (λ (all : List Event). published_after published all more) (sym (append-nil earlier))
published_after-append published earlier (Took event ∷ past) more =
    published_after-append published (earlier ++ event ∷ []) past more
    ∙ ap (λ (all : List Event). published_after (published_after published (earlier ++ event ∷ []) past) all more) (append_assoc earlier (event ∷ []) (events_among past))
published_after-append published earlier (Published ∷ past) more = published_after-append earlier earlier past more

-- events that are taken publish nothing
published_after-taken : (published earlier events : List Event) → published_after published earlier (map Took events) ≡ published
published_after-taken published earlier [] = refl
published_after-taken published earlier (event ∷ events) = published_after-taken published (earlier ++ event ∷ []) events

pub published-taken : (past : List Happening) (events : List Event) → published_events_among (past ++ map Took events) ≡ published_events_among past
published-taken past events =
    published_after-append [] [] past (map Took events) ∙ published_after-taken (published_events_among past) (events_among past) events

pub published-next : (past later : List Happening) (event : Event) → later ≡ past ++ Took event ∷ [] → published_events_among later ≡ published_events_among past
published-next past later event is = ap published_events_among is ∙ published-taken past (event ∷ [])

-- a publishing publishes all
pub published-shown : (past later : List Happening) → later ≡ past ++ Published ∷ [] → published_events_among later ≡ events_among past
published-shown past later is = ap published_events_among is ∙ published_after-append [] [] past (Published ∷ [])
