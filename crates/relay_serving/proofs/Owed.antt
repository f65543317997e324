-- In a turn whose publishing was done, all that was entered in the log is published.
use Rattle.std.proofs.{Common.{◌≡◌, ◌≢◌, ℕ, List, [], ◌∷◌, ◌++◌, length, map, refl, sym, ap, subst, ◌∙◌, arith, length-append}, lemmas.List.{append-nil, append_assoc}}
use Rattle.amt_ports.specs.{declared.feed.FeedAnswer.{FeedAnswer}, Answers.{Taken}}
use Rattle.endpoint_membership.specs.declared.change.Change.{Change}
use Rattle.response_mac.specs.declared.secret.Secret.{Secret}
use Rattle.relay_machine.{specs.{Published.{published_log}, declared.settings.Settings.{Settings}}, proofs.PublishedLog.{published_log-none}}
use Rattle.relay_serving.specs.{Events.{beginning_of, datagrams_in, happenings_from, happenings_of_turn, packets_in, publishing_in}, Happenings.{Happening, Took, Published, events_among, published_events_among}, Serving.{IsPrompt}}
use Rattle.relay_serving.{specs.Turns.{Done, Publishing, Turn, moment_of_turn}, proofs.{Happenings.{events-shown, events_among-append, events_among-taken, published-shown, published-taken}, Packets.{published_log-packets}}}

module _ (settings : Settings) (first : Secret) where
  -- the published log is the log of all events
  abbrev ShowsAll : List Happening → Type 0
  ShowsAll happenings = published_log settings first (published_events_among happenings) ≡ published_log settings first (events_among happenings)

  -- packets alone came since a publishing
  shows_all : (past : List Happening) (fed : List (Taken FeedAnswer)) → ShowsAll ((past ++ Published ∷ []) ++ map Took (packets_in fed))
  shows_all past fed =
      let shown = past ++ Published ∷ [] in
      let packets = packets_in fed in
      ap (published_log settings first) (published-taken shown packets ∙ published-shown past shown refl ∙ sym (events-shown past shown refl))
      ∙ sym (published_log-packets settings first fed (events_among shown))
      ∙ ap (published_log settings first) (sym (events_among-append shown (map Took packets) ∙ (λ i. events_among shown ++ events_among-taken packets i)))

  done_last : (past began heard packets : List Happening) (publishing : Publishing) → publishing ≡ Done
      → ((past ++ (began ++ heard)) ++ Published ∷ []) ++ packets ≡ past ++ ((began ++ (heard ++ (publishing_in publishing ++ packets))) ++ [])
  done_last past began heard packets publishing done =
      simp (append_assoc, append-nil)
      (ap (λ (known : Publishing). past ++ (began ++ (heard ++ (publishing_in known ++ packets)))) (sym done))

  shows_from : (latest : ℕ) (past : List Happening) (earlier : List Turn) (turn : Turn) → turn.publishing ≡ Done → ShowsAll (past ++ happenings_from latest (earlier ++ turn ∷ []))
  shows_from latest past [] turn done =
      let began = map Took (beginning_of latest turn) in
      let heard = map Took (datagrams_in turn.heard) in
      subst ShowsAll (done_last past began heard (map Took (packets_in turn.fed)) turn.publishing done) (shows_all (past ++ (began ++ heard)) turn.fed)
  shows_from latest past (one ∷ earlier) turn done =
      let happened = happenings_of_turn latest one in
      let now = moment_of_turn latest one in
      subst ShowsAll (append_assoc past happened (happenings_from now (earlier ++ turn ∷ []))) (shows_from now (past ++ happened) earlier turn done)

  pub is_prompt : IsPrompt settings first
  is_prompt earlier turn done = shows_from 0 [] earlier turn done

pub no_more_than : (list more : List Change) → list ++ more ≡ list → more ≡ []
no_more_than list [] is = refl
no_more_than list (one ∷ more) is = absurd (omega (arith, ap length is, length-append list (one ∷ more)))

-- a list has a last item
last_of : (turn : Turn) (later : List Turn) → (earlier : List Turn) × (last : Turn) × (turn ∷ later ≡ earlier ++ last ∷ [])
last_of turn [] = ([], turn, refl)
last_of turn (next ∷ later) = let rest = last_of next later in (turn ∷ rest.0, rest.1, ap (λ (turns : List Turn). turn ∷ turns) rest.2)

later_none : (one two : List Change) → one ++ two ≡ [] → two ≡ []
later_none [] two none = none
later_none (x ∷ one) two none = absurd (cc none)

-- something is owed since the last turn's publishing wasn't done
pub owed_by : (settings : Settings) (first : Secret) (published owing : List Change) (turns : List Turn)
    → published ++ owing ≡ published_log settings first (events_among (happenings_from 0 turns)) → published ≡ published_log settings first (published_events_among (happenings_from 0 turns))
    → owing ≢ [] → (earlier : List Turn) × (last : Turn) × (turns ≡ earlier ++ last ∷ []) × (last.publishing ≢ Done)
owed_by settings first published owing [] log shown some = absurd (some (later_none published owing (log ∙ published_log-none settings first)))
owed_by settings first published owing (turn ∷ later) log shown some =
    let last = last_of turn later in (
      last.0,
      last.1,
      last.2,
      λ done. some (no_more_than published owing (log ∙ sym (subst (λ (turns : List Turn). ShowsAll settings first (happenings_from 0 turns)) (sym last.2) (is_prompt settings first last.0 last.1 done)) ∙ sym shown)),
    )
