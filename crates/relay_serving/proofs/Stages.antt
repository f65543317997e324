-- What the stages of a turn come to together.
use Rattle.std.{proofs.{Common.{◌≡◌, ℕ, ◌+◌, ◌≤◌, ◌<◌, max, cond, true≢false, List, [], ◌∷◌, length, map, ⊎_elim, Result, Ok, Err, Option, Some, refl, sym, ap, subst, ◌∙◌, append_assoc, append-nil, arith}, lemmas.List.{map-append, Sums.{sum_by-cons}}}, specs.Prelude.{IsErrOf}}
use Rattle.amt_ports.{specs.{declared.{feed.FeedAnswer.{FeedAnswer}, link.LinkAnswer.{LinkAnswer}, out_link.OutLink.{Ghosts}, end.End.{End, TheVariants.{Closed, LinkFault, FeedFault, WordsFault}}}, Answers.{Taken}, Bursts.{IsBegun, IsClosed, AreAsked}, Devices.{FeedSeen, LinkSeen, WordsSeen}, EndCauses.{IsCausedBy}, Told.{Appends, AppendsAll}}, proofs.{EndCauses.{not_cause}, Bursts.{few_asked, no_other}}}
use Rattle.response_mac.specs.declared.secret.Secret.{Secret}
use Rattle.relay_machine.specs.declared.event.Event.TheVariants.{Rotate}
use Rattle.relay_serving.specs.{Counting.{is_late, starved_in}, Events.{moment_event, rotation, secret_by}, Happenings.{Took}, Runs.{IsCut, of_feed, of_link}, Servers.{counts_in, tally_in}, Stages.{BeginsBy, IsBegunBy, PassesMoment, at_words}, Turning.{IsTurnBy, TurnsSo}}
use Rattle.relay_serving.{specs.{Traces.{Does, FeedsSo, HearsSo, PublishesSo, ServerDoes, World, beginning, feeding, hearing, in_turns, nothing, publishing_so, world}, Turns.{Ahead, HasBegun, HasHeard, Progress, Publishing, Turn, from_feed, from_link, is_due, renewed_after}, declared.server.Server.{Server}}, proofs.{OwedLate.{owed_since}, Traces.{Does-at, Does-none, Does-then, alone, drew}}}

pub rotation-few : (drawn : List ℕ) → length drawn < 4 → rotation drawn ≡ []
rotation-few [] few = refl
rotation-few (one ∷ []) few = refl
rotation-few (one ∷ two ∷ []) few = refl
rotation-few (one ∷ two ∷ three ∷ []) few = refl
rotation-few (one ∷ two ∷ three ∷ four ∷ []) few = absurd (omega (arith, few))
rotation-few (one ∷ two ∷ three ∷ four ∷ five ∷ more) few = refl

pub rotation-four : (drawn : List ℕ) (secret : Secret) → length drawn ≡ 4 → secret ≡ secret_by drawn → Rotate secret ∷ [] ≡ rotation drawn
rotation-four [] secret four is = absurd (omega (arith, four))
rotation-four (one ∷ []) secret four is = absurd (omega (arith, four))
rotation-four (one ∷ two ∷ []) secret four is = absurd (omega (arith, four))
rotation-four (one ∷ two ∷ three ∷ []) secret four is = absurd (omega (arith, four))
rotation-four (one ∷ two ∷ three ∷ four_th ∷ []) secret four is = ap (λ (key : Secret). Rotate key ∷ []) is
rotation-four (one ∷ two ∷ three ∷ four_th ∷ five ∷ more) secret four is = absurd (omega (arith, four))

-- a success has no cause
pub no_error : (cause : End) → IsErrOf {T = Unit {0}} (Ok tt) cause → ⊥
no_error cause is = cc is

-- the answers of a turn
abbrev turn_of : Taken ℕ → List ℕ → List (Taken LinkAnswer) → Publishing → List (Taken FeedAnswer) → Turn
turn_of clock drawn heard publishing fed = record { clock = clock; drawn = drawn; heard = heard; publishing = publishing; fed = fed }

module _ {O : Type 0} {g : Ghosts O} {T : Type 0} where
  -- at most 64 answers of the link came
  pub hears_few : {before after : Server O T g} {link link' : LinkSeen} {wait wait' room room' : ℕ} {result : Result (Unit {0}) End} → HearsSo AreAsked before after link link' wait wait' room room' result
      → (tally_in after ≤ tally_in before + 64) × ((counts_in after).packets ≤ (counts_in before).packets) × (room' ≡ room)
  hears_few {before} {after} {result = result} hears =
      let asked = hears (alone before) in
      let most = few_asked from_link LinkFault result asked.answers asked.ends in
      let few : tally_in after ≤ tally_in before + length asked.answers = asked.goes.few in
      let packets : (counts_in after).packets ≤ (counts_in before).packets + 0 = asked.goes.few_packets in
      (omega (arith, few, most), omega (arith, packets), asked.goes.same_room)

  module _ (rotate : ℕ) (progress progress' : Progress) where
    -- it is this late; these words were drawn; and if they are a secret, it is the current one
    pub begins : {before moved after : Server O T g} {clock clock' : Option (List ℕ)} {words words' : WordsSeen} (result : Result (Unit {0}) End) (answer now : ℕ) (drawn : List ℕ)
        → now ≡ max progress.latest answer → Appends clock clock' answer → PassesMoment now before moved → AppendsAll words.given words'.given drawn
        → ServerDoes (record nothing { happened = map Took (rotation drawn); tally = 1 }) moved after → IsCausedBy result WordsFault words.faults words'.faults
        → IsBegunBy result (is_due rotate progress.renewed now) drawn → progress' ≡ record { latest = now; renewed = Some (renewed_after rotate progress.renewed now) }
        → BeginsBy rotate progress progress' before after clock clock' words words' result
    begins {before} {moved} {after} {clock} {clock'} {words} {words'} result answer now drawn is gives passes draws rotates cause is_begun progressed around =
        let moment = subst (λ (at : ℕ). PassesMoment at before moved) is passes in record {
          clock = record { answer = answer; starved = moment.0 };
          drawn = drawn;
          does = Does-at
              (Does-then (drew (at_words around before clock words) clock' words' (answer ∷ []) drawn gives draws) (Does-then (moment.1 (at_words around before clock' words')) (rotates (at_words around moved clock' words'))))
              (sym (map-append Took (moment_event moment.0 (max progress.latest answer)) (rotation drawn))) refl (append-nil drawn) refl refl (omega arith) refl (omega arith) (omega arith);
          cause = cause;
          is_begun = subst (λ (at : ℕ). IsBegunBy result (is_due rotate progress.renewed at) drawn) is is_begun;
          progress_is = progressed ∙ (λ i. record { latest = is i; renewed = Some (renewed_after rotate progress.renewed (is i)) });
        }

    -- of the stages of a turn later ones may be missing
    goes_of : {before begun heard published after : World O g T} (latest : ℕ) (turn : Turn) → length turn.heard ≤ 64 → length turn.fed ≤ 64 → Does (beginning latest turn.clock turn.drawn) before begun
        → Does (hearing turn.heard) begun heard → Does (publishing_so turn.publishing) heard published → Does (feeding turn.fed) published after → Does (in_turns latest (turn ∷ [])) before after
    goes_of latest turn few few_fed one two three four =
        Does-at (Does-then (Does-then (Does-then one two) three) four) (simp (append_assoc, append-nil)) refl (simp append-nil) (simp append-nil) (simp append-nil) (omega (arith, sum_by-cons starved_in turn []))
        (omega (arith, sum_by-cons (λ (known : Turn). cond (is_late known) 1 0) turn [])) (omega (arith, few, few_fed)) (omega (arith, few_fed))

    none_ahead : (seen : World O g T) → Does (publishing_so Ahead) seen seen
    none_ahead seen = Does-at (Does-none seen) refl refl refl refl refl refl refl (omega arith) (omega arith)

    -- the run ended in the first stage
    pub ends_begun : (before : World O g T) (after : Server O T g) (clock' : Option (List ℕ)) (words' : WordsSeen) (end : End)
        → BeginsBy rotate progress progress' before.server after before.devices.clock clock' before.devices.words words' (Err end)
        → TurnsSo rotate progress progress' before (at_words before after clock' words') (Err end)
    ends_begun before after clock' words' end begun =
        let last = at_words before after clock' words' in
        let begins = begun before in
        let turn = turn_of begins.clock begins.drawn [] Ahead [] in record {
          turn = turn;
          does = goes_of progress.latest turn (omega arith) (omega arith) begins.does (Does-none last) (none_ahead last) (Does-none last);
          causes = record {
            link = not_cause _ LinkFault _ _ (λ is. let words = begins.is_begun.0 in cc) refl;
            feed = not_cause _ FeedFault _ _ (λ is. let words = begins.is_begun.0 in cc) refl;
            words = begins.cause;
          };
          owed = λ is. cc is;
          is_turn = subst (λ (one : End). IsCut one rotate progress turn) (sym begins.is_begun.0) (record { due = begins.is_begun.1; few = begins.is_begun.2; unheard = (refl, (refl, refl)) });
          progress_is = λ fine. absurd (true≢false (sym fine));
        }

    module _ (before : World O g T) (began heard : Server O T g) (clock' : Option (List ℕ)) (words' : WordsSeen) (link' : LinkSeen) (wait' room' : ℕ)
        (begun : BeginsBy rotate progress progress' before.server began before.devices.clock clock' before.devices.words words' (Ok tt)) where
      -- when the link was asked
      pub ends_heard : (end : End) → HearsSo AreAsked began heard before.devices.link link' before.link_wait wait' before.room room' (Err end)
          → TurnsSo rotate progress progress' before (world heard (record before.devices { clock = clock'; words = words'; link = link' }) wait' before.feed_wait room') (Err end)
      ends_heard end hearing_so =
          let last = world heard (record before.devices { clock = clock'; words = words'; link = link' }) wait' before.feed_wait room' in
          let begins = begun before in
          let hears = hearing_so (at_words before began clock' words') in
          let turn = turn_of begins.clock begins.drawn hears.answers Ahead [] in
          let has_begun : HasBegun rotate progress turn = record { secret = begins.is_begun } in record {
            turn = turn;
            does = goes_of progress.latest turn (few_asked from_link LinkFault (Err end) hears.answers hears.ends) (omega arith) begins.does hears.goes (none_ahead last) (Does-none last);
            causes = record {
              link = hears.cause;
              feed = not_cause _ FeedFault _ _ (no_other from_link LinkFault (Err end) hears.answers hears.ends FeedFault (λ is. cc) (λ is. cc)) refl;
              words = not_cause _ WordsFault _ _ (no_other from_link LinkFault (Err end) hears.answers hears.ends WordsFault (λ is. cc) (λ is. cc)) (begins.cause.calm (no_error WordsFault));
            };
            owed = λ is. cc is;
            is_turn = ⊎_elim (λ (closed : (end ≡ Closed) × IsClosed from_link hears.answers). subst (λ (one : End). IsCut one rotate progress turn) (sym closed.0) (of_link has_begun closed.1 (refl, refl)))
                (λ (failed : (end ≡ LinkFault) × IsBegun from_link hears.answers). subst (λ (one : End). IsCut one rotate progress turn) (sym failed.0) (has_begun, failed.1, (refl, refl))) hears.ends;
            progress_is = λ fine. absurd (true≢false (sym fine));
          }

      -- when the feed was asked, or the turn is whole
      turn_fed : (turn : Turn) (result : Result (Unit {0}) End) → HasHeard rotate progress turn → AreAsked from_feed FeedFault result turn.fed → IsTurnBy result rotate progress turn
      turn_fed turn (Ok unit) has asked = record { heard = has; feed = asked }
      turn_fed turn (Err end) has asked =
          ⊎_elim (λ (closed : (end ≡ Closed) × IsClosed from_feed turn.fed). subst (λ (one : End). IsCut one rotate progress turn) (sym closed.0) (of_feed has closed.1))
          (λ (failed : (end ≡ FeedFault) × IsBegun from_feed turn.fed). subst (λ (one : End). IsCut one rotate progress turn) (sym failed.0) (has, failed.1)) asked

      pub ends_fed : (published after : Server O T g) (feed' : FeedSeen) (feed_wait' last_room : ℕ) (result : Result (Unit {0}) End)
          → HearsSo AreAsked began heard before.devices.link link' before.link_wait wait' before.room room' (Ok tt) → PublishesSo heard published
          → FeedsSo AreAsked published after before.devices.feed feed' before.feed_wait feed_wait' room' last_room result
          → TurnsSo rotate progress progress' before (world after (record before.devices { clock = clock'; words = words'; link = link'; feed = feed' }) wait' feed_wait' last_room) result
      ends_fed published after feed' feed_wait' last_room result hearing_so publishes feeding_so =
          let now = world heard (record before.devices { clock = clock'; words = words'; link = link' }) wait' before.feed_wait room' in
          let begins = begun before in
          let hears = hearing_so (at_words before began clock' words') in
          let feeds = feeding_so now in
          let turn = turn_of begins.clock begins.drawn hears.answers publishes.publishing feeds.answers in record {
            turn = turn;
            does = goes_of progress.latest turn (few_asked from_link LinkFault (Ok tt) hears.answers hears.ends) (few_asked from_feed FeedFault result feeds.answers feeds.ends)
                begins.does hears.goes (publishes.does now) feeds.goes;
            causes = record {
              link = not_cause _ LinkFault _ _ (no_other from_feed FeedFault result feeds.answers feeds.ends LinkFault (λ is. cc) (λ is. cc)) (hears.cause.calm (no_error LinkFault));
              feed = feeds.cause;
              words = not_cause _ WordsFault _ _ (no_other from_feed FeedFault result feeds.answers feeds.ends WordsFault (λ is. cc) (λ is. cc)) (begins.cause.calm (no_error WordsFault));
            };
            owed = λ refused. owed_since heard published after publishes.publishing feeds.answers (publishes.does now).happens feeds.goes.happens refused (publishes.owed refused);
            is_turn = turn_fed turn result (record { begun = record { secret = begins.is_begun }; link = hears.ends; tried = publishes.tried }) feeds.ends;
            progress_is = λ _. begins.progress_is;
          }
