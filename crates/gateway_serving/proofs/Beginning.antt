-- How a running gateway begins.
use Rattle.std.{proofs.{Common.{◌≡◌, ◌<◌, ◌≤◌, ℕ, ◌+◌, max, List, [], ◌∷◌, ◌++◌, length, get_or, map, take, drop, refl, sym, ap, subst, ◌∙◌, append-nil, length-append, arith}, Math.Bool.{or-true}, lemmas.List.{drop_more, map-append, take-append-drop, take_all, take_more}}, specs.Prelude.{Option, Result, Ok, Err, nat_lt}}
use Rattle.amt_config.specs.declared.config.Join.{Join}
use Rattle.amt_ports.specs.{Devices.{LinkSeen, OutSeen}, Told.{Appends}}
use Rattle.gateway_machine.specs.{Outcomes.{IsAtRest}, Runs.{answer_after, run_of}, declared.{event.GatewayEvent.{GatewayEvent, TheVariants.{Moment}}, settings.GatewaySettings.{GatewaySettings}}}
use Rattle.gateway_serving.{specs.{Counting.{Tallies, no_counts}, Servers.{counts_in, events_in, latest_in, tally_in}, Settings.{opening_of}, Stages.{BeginsWith, IsBegunBy, OpensSo}, Traces.{AtWork, WorkDoes, at_work, nothing, taking}, declared.server.Server.{Server}}, proofs.Traces.{Does-at, Does-then, IsAlike, max_zero, server_does, taking_then}}

-- the joins up to a place, that one, and those after it
joins_at : (joins : List Join) (place : ℕ) (join : Join) → place < length joins → join ≡ get_or joins place join
    → map opening_of joins ≡ map opening_of (take place joins) ++ opening_of join ∷ map opening_of (drop (place + 1) joins)
joins_at joins place join within is =
    ap (map opening_of) (sym (take-append-drop place joins) ∙ ap (λ (rest : List Join). take place joins ++ rest) (drop_more joins place join within))
    ∙ map-append opening_of (take place joins) (get_or joins place join ∷ drop (place + 1) joins)
    ∙ ap (λ (one : Join). map opening_of (take place joins) ++ opening_of one ∷ map opening_of (drop (place + 1) joins)) (sym is)

-- one join more was opened
pub joins_more : (joins : List Join) (place : ℕ) (join : Join) → place < length joins → join ≡ get_or joins place join
    → map opening_of (take place joins) ++ opening_of join ∷ [] ≡ map opening_of (take (place + 1) joins)
joins_more joins place join within is =
    sym (map-append opening_of (take place joins) (join ∷ []))
    ∙ ap (map opening_of) (ap (λ (one : Join). take place joins ++ one ∷ []) is ∙ sym (take_more joins place join within))

-- memory refused a join
pub begins_refused : {E : Type 0} {before now after : AtWork} (error : E) (joins : List Join) (place : ℕ) (join : Join) → place < length joins → join ≡ get_or joins place join
    → WorkDoes (taking (map opening_of (take place joins))) before now → WorkDoes nothing now after → BeginsWith {E = E} (map opening_of joins) before after (Err error)
begins_refused error joins place join within is opened none = record {
  begun = map opening_of (take place joins);
  does = taking_then {more = []} opened none (append-nil (map opening_of (take place joins)));
  is = (opening_of join, map opening_of (drop (place + 1) joins), joins_at joins place join within is);
}

-- all were opened
pub begins_all : {E : Type 0} {before now : AtWork} (joins : List Join) (place : ℕ) → place ≡ length joins → WorkDoes (taking (map opening_of (take place joins))) before now
    → BeginsWith {E = E} (map opening_of joins) before now (Ok tt)
begins_all joins place all opened = record {
  begun = map opening_of (take place joins);
  does = opened;
  is = ap (map opening_of) (take_all place joins (omega (arith, all)));
}

-- the first moment, and then joins
pub opens_so : {E : Type 0} {before moved : Server} {link : LinkSeen} {wait : ℕ} {out : OutSeen} {now after : AtWork} {clock clock' : Option (List ℕ)} {joins : List Join} {result : Result (Unit {0}) E} (at : ℕ) → IsAlike before moved
    → Tallies (counts_in before) (counts_in moved) 0 0 0 0 → latest_in before ≡ 0 → latest_in moved ≡ at → Appends clock clock' at → WorkDoes (taking (Moment at ∷ [])) (at_work moved link wait out) now
    → BeginsWith (map opening_of joins) now after result → OpensSo joins (at_work before link wait out) after clock clock' result
opens_so {before = before} {link = link} {wait = wait} {out = out} {clock = clock} {clock' = clock'} at alike tallies early latest gave takes begins = record {
  moment = at;
  opened = begins.begun;
  does = λ around. Does-at
      (Does-then (server_does {clock = clock} {clock' = clock'} (at ∷ []) 0 0 0 0 alike (latest ∙ sym (ap (λ (past : ℕ). max past at) early ∙ max_zero at)) tallies gave (record around { work = at_work before link wait out }))
      (Does-then (takes (record around { clock = clock' })) (begins.does (record around { clock = clock' }))))
      refl refl refl refl refl (λ _. refl) refl refl refl refl (omega arith);
  is = begins.is;
}

-- no more happened than there were to come
pub few_begun : {E : Type 0} (result : Result (Unit {0}) E) (events begun : List GatewayEvent) → IsBegunBy result events begun → length begun ≤ length events
few_begun (Ok unit) events begun is = omega (arith, ap length is)
few_begun (Err error) events begun is = omega (arith, ap length is.2, length-append begun (is.0 ∷ is.1))

-- nothing is counted of a gateway to which nothing has happened
pub none_counted : (server : Server) → events_in server ≡ [] → counts_in server ≡ no_counts → tally_in server ≡ 0
none_counted server none counts = λ i. length (none i) + ((counts i).datagrams + ((counts i).controls + ((counts i).bad_controls + (counts i).starved)))

-- nothing is due before the first join, however late it is
pub first_rests : (settings : GatewaySettings) (first at : ℕ) (events : List GatewayEvent) → events ≡ [] → IsAtRest (answer_after settings first events (Moment at)).outcome
unfolding run_of
first_rests settings first at events none = subst (λ (list : List GatewayEvent). IsAtRest (answer_after settings first list (Moment at)).outcome) (sym none) (rw (or-true (nat_lt (max 0 at) 0)) tt)
