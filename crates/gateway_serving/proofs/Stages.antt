-- What the stages of a turn come to together.
use Rattle.std.{proofs.{Common.{◌≡◌, ℕ, ◌+◌, ◌*◌, ◌≤◌, max, true, List, [], ◌∷◌, ◌++◌, length, ⊎_elim, Result, Ok, Err, Option, refl, sym, ap, subst, ◌∙◌, append_assoc, append-nil, arith}, lemmas.List.{Elements.{All-cons, All-nil}, Sums.{sum_by-cons}}}, specs.Prelude.{IsErrOf, Some, filter_map}}
use Rattle.amt_ports.{specs.{declared.{link.LinkAnswer.{LinkAnswer}, end.End.{End, TheVariants.{Closed, LinkFault, FeedFault, WordsFault}}}, Answers.{Taken, unless_starved}, Bursts.{IsBegun, IsClosed, AreAsked}, Devices.{LinkSeen, OutSeen, WordsSeen}, Told.{Appends}}, proofs.{EndCauses.{not_cause, same_cause}, Bursts.{few_asked, no_other}}}
use Rattle.gateway_machine.specs.{Outcomes.{IsAtRest}, Runs.{answer_after}, Settings.{family_of}, declared.{event.GatewayEvent.{GatewayEvent, TheVariants.{Moment, Nonce}}, outcome.GatewayOutcome.{GatewayOutcome}}}
use Rattle.group_records.specs.declared.family.Family.{Family}
use Rattle.gateway_serving.specs.{Counting.{Tallies, bad_lines_taken, datagrams_heard, lines_taken, starved_in}, Events.{moments_in, nonce_of}, Runs.{IsCut, of_control, of_link}, Servers.{Setup, counts_in, events_in, family_in, latest_in, setup_in, tally_in}, Stages.{BeginsBy, IsTurnBy, OffersSo, PassesMoment, TurnsSo}, Starving.{SendsAt}}
use Rattle.gateway_serving.{specs.{Traces.{AtControl, AtWork, Does, HearsSo, ReadsSo, WorkDoes, World, at_control, at_work, beginning, hearing, in_turns, reading, taking, with_control}, Turns.{ControlAnswer, HasBegun, HasHeard, Turn, from_control, from_link}, declared.server.Server.{Server}}, proofs.{Starving.{SendsAt-same}, Traces.{Does-at, Does-none, Does-then, IsAlike, alone, drew, none_heard, server_does}}}

-- a success has no cause
pub no_error : (cause : End) → IsErrOf {T = Unit {0}} (Ok tt) cause → ⊥
no_error cause is = cc is

-- at most 64 answers of the link came
pub hears_few : {before after : AtWork} {room room' : ℕ} {result : Result (Unit {0}) End} → HearsSo AreAsked before after room room' result → (tally_in after.server ≤ tally_in before.server + 128) × (room' ≡ room)
hears_few {before} {after} {result = result} hears =
    let asked = hears (alone before.server) in
    let few : tally_in after.server ≤ tally_in before.server + 2 * length asked.answers = asked.goes.few in
    (omega (arith, few, few_asked from_link LinkFault result asked.answers asked.ends), asked.goes.same_room)

-- the clock gave a moment, it became as late as that or was later, and memory took that event or refused it
pub passes : {before moved : Server} {link : LinkSeen} {wait : ℕ} {out : OutSeen} {after : AtWork} {clock clock' : Option (List ℕ)} (at answer : ℕ) → IsAlike before moved → Tallies (counts_in before) (counts_in moved) 0 0 0 0
    → at ≡ max (latest_in before) answer → latest_in moved ≡ at → Appends clock clock' answer → OffersSo (Moment at) (at_work moved link wait out) after → PassesMoment (at_work before link wait out) after clock clock'
passes {before} {link = link} {wait = wait} {out = out} {clock = clock} {clock' = clock'} at answer alike tallies later latest gave offers = record {
  given = record { answer = answer; starved = offers.starved };
  does = λ around. Does-at
      (Does-then (server_does {clock = clock} {clock' = clock'} (answer ∷ []) 0 0 0 0 alike (latest ∙ later) tallies gave (record around { work = at_work before link wait out })) (offers.does (record around { clock = clock' })))
      (ap (λ (moment : ℕ). filter_map (λ (one : GatewayEvent). unless_starved offers.starved (Some one)) (Moment moment ∷ [])) later) refl refl refl refl (λ _. refl) refl refl refl refl (omega arith);
  starves = subst (λ (outcome : GatewayOutcome). offers.starved ≡ true → IsAtRest outcome → ⊥)
      (λ i. (answer_after (alike.0 i).settings (alike.0 i).first (alike.1 i) (Moment (later i))).outcome) offers.needed;
}

-- this nonce was drawn
pub draws : {nonce nonce' : ℕ} {before after : AtWork} → nonce ≡ nonce' → WorkDoes (taking (Nonce nonce ∷ [])) before after → WorkDoes (taking (Nonce nonce' ∷ [])) before after
draws {before = before} {after = after} same takes = subst (λ (one : ℕ). WorkDoes (taking (Nonce one ∷ [])) before after) same takes

-- a nonce, and a moment
pub begins : {before now after : AtWork} {clock clock' : Option (List ℕ)} {words words' : WordsSeen} (word : ℕ) → Appends words.given words'.given word → words'.faults ≡ words.faults
    → WorkDoes (taking (Nonce (nonce_of word) ∷ [])) before now → PassesMoment now after clock clock' → BeginsBy before after clock clock' words words' (Ok tt)
begins {before} {now} {after} {clock} {clock'} {words} {words'} word draws quiet takes passes around =
    let given = passes.given in
    let took = takes (alone before.server) in
    let Sends : Taken ℕ → Type 0 = SendsAt (setup_in before.server).settings (setup_in before.server).first (events_in before.server ++ Nonce (nonce_of word) ∷ []) (latest_in before.server) in record {
      drawn = word ∷ [];
      given = given ∷ [];
      does = Does-at
          (Does-then (drew (record around { work = before; clock = clock; words = words }) words' (word ∷ []) draws)
          (Does-then (takes (record around { clock = clock; words = words' })) (passes.does (record around { words = words' }))))
          (ap (λ (latest : ℕ). Nonce (nonce_of word) ∷ moments_in latest (given ∷ [])) took.latest) refl refl refl refl (λ _. refl) refl refl refl (omega arith) (omega arith);
      cause = not_cause _ _ _ _ (λ is. cc) quiet;
      starve = All-cons Sends given [] (SendsAt-same took.same took.events took.latest given passes.starves) (All-nil Sends);
      is = (refl, refl);
    }

-- the answers of a turn
abbrev turn_of : List ℕ → List (Taken ℕ) → List (Taken LinkAnswer) → List ControlAnswer → Turn
turn_of drawn clock heard lines = record { drawn = drawn; clock = clock; heard = heard; lines = lines }

-- of the stages of a turn later ones may be missing
goes_of : {before begun heard after : World} (latest : ℕ) (turn : Turn) → length turn.heard ≤ 64 → length turn.lines ≤ 64 → Does (beginning latest turn.drawn turn.clock) before begun
    → Does (hearing turn.heard) begun heard → Does (reading turn.lines) heard after → Does (in_turns latest (turn ∷ [])) before after
goes_of latest turn few few_lines one two three =
    Does-at (Does-then (Does-then one two) three) (simp (append_assoc, append-nil)) (simp append-nil) (simp append-nil) refl (simp append-nil) (λ is. is)
    (omega (arith, sum_by-cons datagrams_heard turn [])) (omega (arith, sum_by-cons lines_taken turn [])) (omega (arith, sum_by-cons bad_lines_taken turn [])) (omega (arith, sum_by-cons starved_in turn []))
    (omega (arith, few, few_lines))

-- the run ended in the first stage
pub ends_begun : (before : World) (after : AtWork) (clock' : Option (List ℕ)) (words' : WordsSeen) (end : End) → BeginsBy before.work after before.clock clock' before.words words' (Err end)
    → TurnsSo before (record before { work = after; clock = clock'; words = words' }) (Err end)
ends_begun before after clock' words' end begun =
    let last : World = record before { work = after; clock = clock'; words = words' } in
    let begins = begun before in
    let turn = turn_of begins.drawn begins.given [] [] in record {
      turn = turn;
      does = goes_of (latest_in before.work.server) turn (omega arith) (omega arith) begins.does (none_heard last) (Does-none last);
      causes = record {
        link = not_cause _ LinkFault _ _ (λ is. let words = begins.is.0 in cc) (begins.does.calm refl);
        control = not_cause _ FeedFault _ _ (λ is. let words = begins.is.0 in cc) refl;
        words = begins.cause;
      };
      starve = begins.starve;
      is_turn = subst (λ (one : End). IsCut one (family_in before.work.server) turn) (sym begins.is.0) (record { none = begins.is.1; no_moment = begins.is.2; unheard = refl; no_lines = refl });
      untried = record { same_tried = refl; same_faults = refl };
      asked = sym (append-nil before.askers);
    }

module _ (before : World) (began heard : AtWork) (clock' : Option (List ℕ)) (words' : WordsSeen) (room' : ℕ) (begun : BeginsBy before.work began before.clock clock' before.words words' (Ok tt)) where
  abbrev family : Family
  family = family_in before.work.server

  -- when the link was asked
  pub ends_heard : (end : End) → HearsSo AreAsked began heard before.room room' (Err end) → TurnsSo before (record before { work = heard; clock = clock'; words = words'; room = room' }) (Err end)
  ends_heard end hearing_so =
      let last : World = record before { work = heard; clock = clock'; words = words'; room = room' } in
      let begins = begun before in
      let hears = hearing_so (record before { clock = clock'; words = words' }) in
      let turn = turn_of begins.drawn begins.given hears.answers [] in
      let has_begun : HasBegun turn = record { word = begins.is.0; moment = begins.is.1 } in record {
        turn = turn;
        does = goes_of (latest_in before.work.server) turn (few_asked from_link LinkFault (Err end) hears.answers hears.ends) (omega arith) begins.does hears.goes (Does-none last);
        causes = record {
          link = same_cause end LinkFault _ _ _ (begins.does.calm refl) hears.cause;
          control = not_cause _ FeedFault _ _ (no_other from_link LinkFault (Err end) hears.answers hears.ends FeedFault (λ is. cc) (λ is. cc)) refl;
          words = not_cause _ WordsFault _ _ (no_other from_link LinkFault (Err end) hears.answers hears.ends WordsFault (λ is. cc) (λ is. cc)) (begins.cause.calm (no_error WordsFault));
        };
        starve = begins.starve;
        is_turn = ⊎_elim (λ (closed : (end ≡ Closed) × IsClosed from_link hears.answers). subst (λ (one : End). IsCut one family turn) (sym closed.0) (of_link has_begun closed.1 refl))
            (λ (failed : (end ≡ LinkFault) × IsBegun from_link hears.answers). subst (λ (one : End). IsCut one family turn) (sym failed.0) (has_begun, failed.1, refl)) hears.ends;
        untried = record { same_tried = refl; same_faults = refl };
        asked = sym (append-nil before.askers);
      }

  -- when the control was asked, or the turn is whole
  turn_read : (turn : Turn) (result : Result (Unit {0}) End) → HasHeard turn → AreAsked (from_control family) FeedFault result turn.lines → IsTurnBy result family turn
  turn_read turn (Ok unit) has asked = record { heard = has; control = asked }
  turn_read turn (Err end) has asked =
      ⊎_elim (λ (closed : (end ≡ Closed) × IsClosed (from_control family) turn.lines). subst (λ (one : End). IsCut one family turn) (sym closed.0) (of_control has closed.1))
      (λ (failed : (end ≡ FeedFault) × IsBegun (from_control family) turn.lines). subst (λ (one : End). IsCut one family turn) (sym failed.0) (has, failed.1)) asked

  pub ends_read : (after : AtControl) (last_room : ℕ) (result : Result (Unit {0}) End) → HearsSo AreAsked began heard before.room room' (Ok tt)
      → ReadsSo AreAsked (at_control heard before.control before.control_wait before.askers) after room' last_room result
      → TurnsSo before (with_control (record before { clock = clock'; words = words'; room = last_room }) after) result
  ends_read after last_room result hearing_so reading_so =
      let now : World = record before { clock = clock'; words = words' } in
      let begins = begun before in
      let hears = hearing_so now in
      let reads = reading_so now in
      let turn = turn_of begins.drawn begins.given hears.answers reads.answers in
      let asked : AreAsked (from_control family) FeedFault result reads.answers =
      subst (λ (setup : Setup). AreAsked (from_control (family_of setup.settings)) FeedFault result reads.answers) (hears.goes.same ∙ begins.does.same) reads.ends in record {
        turn = turn;
        does = goes_of (latest_in before.work.server) turn (few_asked from_link LinkFault (Ok tt) hears.answers hears.ends) (few_asked (from_control family) FeedFault result reads.answers asked) begins.does hears.goes reads.goes.does;
        causes = record {
          link = not_cause _ LinkFault _ _ (no_other (from_control family) FeedFault result reads.answers asked LinkFault (λ is. cc) (λ is. cc)) (reads.goes.does.calm refl ∙ hears.cause.calm (no_error LinkFault) ∙ begins.does.calm refl);
          control = reads.cause;
          words = not_cause _ WordsFault _ _ (no_other (from_control family) FeedFault result reads.answers asked WordsFault (λ is. cc) (λ is. cc)) (begins.cause.calm (no_error WordsFault));
        };
        starve = begins.starve;
        is_turn = turn_read turn result (record { begun = record { word = begins.is.0; moment = begins.is.1 }; link = hears.ends }) asked;
        untried = reads.goes.untried;
        asked = reads.goes.asked;
      }
