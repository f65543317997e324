-- Where memory refused a turn's publishing, something was owed.
use Rattle.std.proofs.{Common.{◌≡◌, ◌≢◌, ◌⊎◌, inl, inr, List, [], ◌∷◌, ◌++◌, length, map, sym, ap, subst, ◌∙◌, arith, length-append}, lemmas.List.{append-nil}}
use Rattle.amt_ports.specs.{declared.{feed.FeedAnswer.{FeedAnswer}, out_link.OutLink.{Ghosts}}, Answers.{Taken}}
use Rattle.endpoint_membership.specs.declared.change.Change.{Change}
use Rattle.response_mac.specs.declared.secret.Secret.{Secret}
use Rattle.relay_machine.specs.{Published.{published_log}, declared.{event.Event.{Event}, settings.Settings.{Settings}}}
use Rattle.relay_serving.specs.{Events.{happenings_from, packets_in, publishing_in}, Happenings.{Happening, Took, events_among, published_events_among}, Servers.{Happens, HasEvents, first_in, happenings_in, owing_in, published_in, settings_in}}
use Rattle.relay_serving.{specs.{Serving.{AreOwedLate}, Turns.{Publishing, Refused, Turn}, declared.server.Server.{Server}}, proofs.{Happenings.{events_among-append, events_among-taken, published-taken}, Owed.{no_more_than}, Packets.{published_log-packets}}}

-- an item of a list and one more is the last one, or is of the list
of_more : (turns : List Turn) (turn : Turn) (earlier : List Turn) (one : Turn) (later : List Turn) → turns ++ turn ∷ [] ≡ earlier ++ one ∷ later
    → (turns ++ turn ∷ [] ≡ earlier ++ one ∷ []) × (one ≡ turn) ⊎ (rest : List Turn) × (turns ≡ earlier ++ one ∷ rest)
of_more [] turn [] one later is = inl (ap (λ (known : Turn). known ∷ []) (cc is), cc is)
of_more [] turn (first ∷ earlier) one later is = absurd (omega (arith, ap length is, length-append earlier (one ∷ later)))
of_more (first ∷ turns) turn [] one later is = inr (turns, ap (λ (known : Turn). known ∷ turns) (cc is))
of_more (first ∷ turns) turn (other ∷ earlier) one later is =
    let same : first ≡ other = cc is in
    elim (of_more turns turn earlier one later (cc is)) [
      | inl last ↦ inl ((λ i. same i ∷ last.0 i), last.1)
      | inr rest ↦ inr (rest.0, (λ i. same i ∷ rest.1 i))
    ]

module _ (settings : Settings) (first : Secret) where
  abbrev IsOwing : List Turn → Type 0
  IsOwing turns = published_log settings first (published_events_among (happenings_from 0 turns)) ≢ published_log settings first (events_among (happenings_from 0 turns))

  pub AreOwedLate-none : AreOwedLate settings first []
  AreOwedLate-none earlier turn later is = absurd (omega (arith, ap length is, length-append earlier (turn ∷ later)))

  -- one turn more
  pub AreOwedLate-then : (turns : List Turn) (turn : Turn) → AreOwedLate settings first turns → (turn.publishing ≡ Refused → IsOwing (turns ++ turn ∷ []))
      → AreOwedLate settings first (turns ++ turn ∷ [])
  AreOwedLate-then turns turn owed next earlier one later is refused =
      elim (of_more turns turn earlier one later is) [
        | inl last ↦ subst IsOwing last.0 (next (ap (λ (known : Turn). known.publishing) (sym last.1) ∙ refused))
        | inr rest ↦ owed earlier one rest.0 rest.1 refused
      ]

-- what is published and what is owed make up the same, so if nothing is owed now, nothing was
none_owed : (published owing published' owing' : List Change) → published' ≡ published → published' ++ owing' ≡ published ++ owing → owing' ≡ [] → owing ≡ []
none_owed published owing published' owing' shown all none =
    no_more_than published owing (sym all ∙ (λ i. shown i ++ none i) ∙ append-nil published)

module _ {O : Type 0} {g : Ghosts O} {T : Type 0} where
  -- packets that came since a refused publishing enter nothing
  pub owed_since : (before between after : Server O T g) (publishing : Publishing) (fed : List (Taken FeedAnswer)) → Happens before between (publishing_in publishing)
      → HasEvents between after (packets_in fed) → publishing ≡ Refused → owing_in before ≢ [] → owing_in after ≢ []
  owed_since before between after publishing fed publishes feeds refused some none =
      let packets = packets_in fed in
      let past = happenings_in before in
      let happened : happenings_in after ≡ past ++ map Took packets =
      feeds.happened
      ∙ ap (λ (list : List Happening). list ++ map Took packets)
      (publishes.happened ∙ ap (λ (known : Publishing). past ++ publishing_in known) refused ∙ append-nil past) in
      let settings = feeds.same.same_settings ∙ publishes.same.same_settings in
      let first = feeds.same.same_first ∙ publishes.same.same_first in
      let shown : published_in after ≡ published_in before =
      after.shown
      ∙ (λ i. published_log (settings i) (first i) ((ap published_events_among happened ∙ published-taken past packets) i))
      ∙ sym before.shown in
      let all : published_in after ++ owing_in after ≡ published_in before ++ owing_in before =
      after.log
      ∙ (λ i. published_log (settings i) (first i)
      ((ap events_among happened ∙ events_among-append past (map Took packets) ∙ ap (λ (list : List Event). events_among past ++ list) (events_among-taken packets)) i))
      ∙ published_log-packets (settings_in before) (first_in before) fed (events_among past)
      ∙ sym before.log in
      some (none_owed (published_in before) (owing_in before) (published_in after) (owing_in after) shown all none)

  -- where something is owed after these turns, the published log isn't that of all events
  pub owed_after : (before after : Server O T g) (turns : List Turn) → happenings_in before ≡ [] → Happens before after (happenings_from 0 turns) → owing_in after ≢ []
      → IsOwing (settings_in before) (first_in before) turns
  owed_after before after turns fresh happens some is =
      let same = happens.same in
      let happened : happenings_in after ≡ happenings_from 0 turns = happens.happened ∙ ap (λ (list : List Happening). list ++ happenings_from 0 turns) fresh in
      let shown = after.shown ∙ (λ i. published_log (same.same_settings i) (same.same_first i) (published_events_among (happened i))) in
      let log = after.log ∙ (λ i. published_log (same.same_settings i) (same.same_first i) (events_among (happened i))) in
      some (no_more_than (published_in after) (owing_in after) (log ∙ sym is ∙ sym shown))
