-- How the lines of a turn are answered after it.
use Rattle.std.{proofs.{Common.{◌≡◌, ℕ, ◌+◌, ◌≤◌, ◌<◌, cond, Bool, true, false, true≢false, List, [], ◌∷◌, ◌++◌, length, get_or, take, refl, sym, ap, subst, ◌∙◌, arith}, lemmas.List.{length-map, map-append, take_more, Sums.{count_by-le-length, sum_by-append}}}}
use Rattle.amt_ports.{specs.{Devices.{LinkSeen, OutSeen}}, proofs.Waits.{no_waits}}
use Rattle.control_lines.specs.Answer.{IsUntried, HasReplied}
use Rattle.gateway_machine.specs.declared.event.GatewayEvent.TheVariants.{LeaveAll}
use Rattle.gateway_serving.specs.{Answering.{AnswersEach, AnswersOne, IsUnheard, LeavesSo, Refuses}, Askers.{IsAnswered, Reply, answer_more, ask_leave, ask_stop, no_answer, refused_among, refusing_more}, Counting.{one_if}, Leaving.{IsLeaving, AllLeft, LeaveRefused, Stayed}, Replies.{Standing, reply_text}, Servers.{Setup, counts_in, setup_in, standing_in, tally_in}}
use Rattle.gateway_serving.specs.{Stages.{EndsTurnBy}, Traces.{AtWork, Does, WorkDoes, World, at_control, at_work, offering, refusing, with_control}, declared.{askers.Asker.{Asker}, counts.Counts.{Counts}, server.Server.{Server}}}
use Rattle.gateway_serving.proofs.Traces.{Does-none, Does-then, counted, with_askers}

-- the counts with no answer more that was refused
none_refused : (counts : Counts) → counts ≡ record counts { starved = counts.starved + 0 }
none_refused counts = let same : counts.starved ≡ counts.starved + 0 = omega arith in λ i. record counts { starved = same i }

-- the answer was sent, or memory refused it
pub answered_fine : (turns : ℕ) (before after : Server) (asker : Asker) (control control' : LinkSeen) → after ≡ before
    → HasReplied asker.from (reply_text (setup_in before).settings (setup_in before).first (standing_in turns before) asker.reading) control control' → AnswersOne turns before after asker control control'
answered_fine turns before after asker control control' same replied = record {
  starved = false;
  answer = replied;
  refuses = subst (Refuses 0 before) (sym same) (record { same = refl; events = refl; latest = refl; counts_are = none_refused (counts_in before) });
}

pub answered_not : (turns : ℕ) (before after : Server) (asker : Asker) (control control' : LinkSeen) → Refuses 1 before after → IsUntried control control' → AnswersOne turns before after asker control control'
answered_not turns before after asker control control' refuses untried = record { starved = true; answer = untried; refuses = refuses }

-- where memory refused so many answers
stands_since : (number turns : ℕ) (before after : Server) → Refuses number before after → standing_in turns after ≡ refusing_more number (standing_in turns before)
stands_since number turns before after refuses = λ i. record {
  events = refuses.events i;
  turns = turns;
  datagrams = (refuses.counts_are i).datagrams;
  controls = (refuses.counts_are i).controls;
  bad_controls = (refuses.counts_are i).bad_controls;
  delivered = (refuses.counts_are i).delivered;
  unsent = (refuses.counts_are i).unsent;
  starved = (refuses.counts_are i).starved;
}

pub answers_none : (turns : ℕ) (server : Server) (control : LinkSeen) → AnswersEach turns server server [] control control
answers_none turns server control = record {
  round = [];
  to_askers = refl;
  answered = no_answer;
  refuses = record { same = refl; events = refl; latest = refl; counts_are = none_refused (counts_in server) };
}

refused_more : (round : List Reply) (one : Reply) → refused_among (round ++ one ∷ []) ≡ refused_among round + one_if one.starved
refused_more round one =
    let all = sum_by-append (λ (reply : Reply). cond reply.starved 1 0) round (one ∷ []) in omega (arith, all)

-- one more who asked
pub answers_more : (turns : ℕ) (before now after : Server) (askers : List Asker) (place : ℕ) (other : Asker) (control middle control' : LinkSeen) → place < length askers
    → AnswersEach turns before now (take place askers) control middle → AnswersOne turns now after (get_or askers place other) middle control' → AnswersEach turns before after (take (place + 1) askers) control control'
answers_more turns before now after askers place other control middle control' within each one =
    let reply : Reply = record { asker = get_or askers place other; starved = one.starved } in
    let number = refused_among each.round in
    let stands = stands_since number turns before now each.refuses in
    let counts = counts_in before in
    let sum : (counts.starved + number) + one_if one.starved ≡ counts.starved + refused_among (each.round ++ reply ∷ []) = let all = refused_more each.round reply in omega (arith, all) in record {
      round = each.round ++ reply ∷ [];
      to_askers = map-append (λ (told : Reply). told.asker) each.round (reply ∷ []) ∙ (λ i. each.to_askers i ++ reply.asker ∷ []) ∙ sym (take_more askers place other within);
      answered = answer_more each.round middle each.answered reply control'
          (subst (λ (at : Setup × Standing). IsAnswered at.0.settings at.0.first at.1 reply middle control') (λ i. (each.refuses.same i, stands i)) one.answer);
      refuses = record {
        same = one.refuses.same ∙ each.refuses.same;
        events = one.refuses.events ∙ each.refuses.events;
        latest = one.refuses.latest ∙ each.refuses.latest;
        counts_are = one.refuses.counts_are ∙ ap (λ (known : Counts). record known { starved = known.starved + one_if one.starved }) each.refuses.counts_are ∙ (λ i. record counts { starved = sum i });
      };
    }

pub unheard_none : (control : LinkSeen) (wait : ℕ) → IsUnheard control control wait wait
unheard_none control wait = record { same_coming = refl; calm = refl; same_wait = refl }

pub unheard_then : (one other last : LinkSeen) (wait wait' last_wait : ℕ) → IsUnheard one other wait wait' → IsUnheard other last wait' last_wait → IsUnheard one last wait last_wait
unheard_then one other last wait wait' last_wait first second = record {
  same_coming = second.same_coming ∙ first.same_coming;
  calm = second.calm ∙ first.calm;
  same_wait = second.same_wait ∙ first.same_wait;
}

-- memory refused at most one answer for each who asked
pub few_refused : (turns : ℕ) (before after : Server) (askers : List Asker) (control control' : LinkSeen) → AnswersEach turns before after askers control control' → tally_in after ≤ tally_in before + length askers
few_refused turns before after askers control control' each =
    let few = count_by-le-length (λ (reply : Reply). reply.starved) each.round in
    let many = sym (length-map each.round (λ (reply : Reply). reply.asker)) ∙ ap length each.to_askers in
    let is = each.refuses.counts_are in
    omega (arith, few, many, ap length each.refuses.events, ap (λ (one : Counts). one.datagrams) is, ap (λ (one : Counts). one.controls) is, ap (λ (one : Counts). one.bad_controls) is, ap (λ (one : Counts). one.starved) is)

-- what became of the leave
pub leaves_not : (seen : AtWork) (asked : Bool) → asked ≡ false → LeavesSo asked seen seen
leaves_not seen true is = absurd (true≢false is)
leaves_not seen false is = record { left = Stayed; is_left = tt; does = λ around. Does-none (record around { work = seen }) }

pub leaves_by : {before after : AtWork} (asked starved : Bool) → asked ≡ true → WorkDoes (offering starved LeaveAll) before after → LeavesSo asked before after
leaves_by false starved is does = absurd (true≢false (sym is))
leaves_by true true is does = record { left = LeaveRefused; is_left = tt; does = does }
leaves_by true false is does = record { left = AllLeft; is_left = tt; does = does }

-- no answer changed the devices but the control
refused_does : {before after : Server} {link : LinkSeen} {wait : ℕ} {out : OutSeen} (number : ℕ) (control control' : LinkSeen) (control_wait control_wait' : ℕ) (askers : List Asker) → Refuses number before after
    → IsUnheard control control' control_wait control_wait' → (around : World)
    → Does (refusing number) (with_control around (at_control (at_work before link wait out) control control_wait askers)) (with_control around (at_control (at_work after link wait out) control' control_wait' askers))
refused_does {before} {after} {link} {wait} {out} number control control' control_wait control_wait' askers refuses unheard around =
    let is = refuses.counts_are in
    let alone = counted {before = before} {after = after} {link = link} {wait = wait} {out = out} 0 0 0 number
    (refuses.same, refuses.events, ap (λ (one : Counts). one.delivered) is, ap (λ (one : Counts). one.unsent) is) refuses.latest (record {
      datagrams_are = omega (arith, ap (λ (one : Counts). one.datagrams) is);
      controls_are = omega (arith, ap (λ (one : Counts). one.controls) is);
      bad_are = omega (arith, ap (λ (one : Counts). one.bad_controls) is);
      starved_are = ap (λ (one : Counts). one.starved) is;
    }) (with_control around (at_control (at_work before link wait out) control control_wait askers)) in
    let few = alone.few in record {
      same = alone.same;
      events = alone.events;
      latest = alone.latest;
      sent = alone.sent;
      tallies = alone.tallies;
      words = alone.words;
      clock = alone.clock;
      link = alone.link;
      control = unheard.same_coming;
      calm = alone.calm;
      few = omega (arith, few);
      link_waits = alone.link_waits;
      control_waits = no_waits control_wait control_wait' unheard.same_wait;
      same_room = alone.same_room;
    }

-- all of that after a turn
pub ends_turn : {before now : Server} {link : LinkSeen} {wait : ℕ} {out : OutSeen} {after : AtWork} {control control' : LinkSeen} {control_wait control_wait' : ℕ} {askers askers' : List Asker} {stops leaves : Bool} (turns : ℕ)
    → AnswersEach turns before now askers control control' → IsUnheard control control' control_wait control_wait' → stops ≡ ask_stop askers → leaves ≡ ask_leave askers → LeavesSo leaves (at_work now link wait out) after → askers' ≡ []
    → EndsTurnBy turns (at_control (at_work before link wait out) control control_wait askers) (at_control after control' control_wait' askers') stops
ends_turn {after = after} {control = control} {control' = control'} {control_wait = control_wait} {control_wait' = control_wait'} {askers = askers} {askers' = askers'} turns each unheard stops_is leaves_is leaves none around = record {
  round = each.round;
  to_askers = each.to_askers;
  answered = each.answered;
  left = leaves.left;
  is_left = subst (λ (asked : Bool). IsLeaving asked leaves.left) leaves_is leaves.is_left;
  stops_is = stops_is;
  does = with_askers askers' (Does-then (refused_does (refused_among each.round) control control' control_wait control_wait' askers each.refuses unheard around)
      (leaves.does (with_control around (at_control after control' control_wait' askers))));
  calm = unheard.calm;
  same_words = refl;
  no_askers = none;
}
