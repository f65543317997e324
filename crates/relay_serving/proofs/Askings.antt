-- Lines that ask a running relay for something: one, and all of a turn.
use Rattle.std.{proofs.{Common.{◌≡◌, ℕ, ◌+◌, ◌≤◌, ◌<◌, Bool, true, false, ◌||◌, List, [], ◌∷◌, ◌++◌, length, map, refl, sym, subst, ◌∙◌, arith, length-append}, lemmas.{List.{Folds.{list_any-append}, Sums.{count_by-le-length}}}}, specs.{Prelude.{IfErr, IfOk, Option, None, Some, Result, Ok, Err}, List.{list_any}}}
use Rattle.amt_ports.specs.{Devices.{LinkSeen}, Sends.{TriedSend}, Told.{Answers, Appends}, Tried.{HasTried}, declared.{link.LinkAnswer.{LinkAnswer, TheVariants.{Datagram as LineCame, Closed as LinkClosed}}, out_link.OutLink.{Ghosts}}}
use Rattle.amt_values.specs.{Conditions.{First}, declared.peer.Peer.{Peer}}
use Rattle.control_lines.specs.{Answer.{HasAnswer, HasReplied, IsUntried, is_answer, sent_to}, Asking.{Asks, Fails, line_of, order_of_reasons}, declared.asking.Asking.{Asking}}
use Rattle.script_lines.specs.declared.reason.Reason.{Reason}
use Rattle.relay_serving.specs.{Asked.{AreAnswered, Asked, EndsRound, Failed, Full, IsAnswered, IsEnd, IsRead, RoundEnd, Shut, Silent, is_stop, line_more, no_line, refused_among}, AskingServers.{LineSo, NextSo, RoundSo}, Controls.{ControlSeen}}
use Rattle.relay_serving.specs.{Replies.{Replying}, Servers.{counts_in}, Traces.{ServerDoes, refusing}, declared.{control.CopyCount.{CopyCount}, server.{Server.{Server}, asking.Answered.{Answered}}}}
use Rattle.relay_serving.proofs.{Counting.{count_more}, Traces.{alone}}

-- what a line was read as
pub is_read : (line : List ℕ) (reading : Result Asking Reason) → IfOk reading (λ asking. Asks asking line) → IfErr reading (First (Fails (line_of line)) order_of_reasons) → IsRead line reading
is_read line (Ok asking) found reason = found
is_read line (Err cause) found reason = reason

-- an answer, where nothing was tried before
untried_since : (link now after : LinkSeen) → IsUntried link now → IsUntried now after → IsUntried link after
untried_since link now after same then = record { same_tried = then.same_tried ∙ same.same_tried; same_faults = then.same_faults ∙ same.same_faults }

replied_since : (to : Peer) (text : List ℕ) (link now after : LinkSeen) → IsUntried link now → HasReplied to text now after → HasReplied to text link after
replied_since to text link now after same replied = record {
  datagrams = replied.datagrams;
  answer = replied.answer;
  tried = record {
    sent = replied.tried.sent;
    unsent = replied.tried.unsent;
    tried = subst (λ (at : Option (List TriedSend) × ℕ). HasTried at.0 after.tried at.1 after.send_faults (map (sent_to to) replied.datagrams) replied.tried.sent replied.tried.unsent) (λ i. (same.same_tried i, same.same_faults i)) replied.tried.tried;
  };
}

answered_since : (itself starved : Bool) (to : Peer) (text : List ℕ) (link now after : LinkSeen) → IsUntried link now → HasAnswer itself starved to text now after → HasAnswer itself starved to text link after
answered_since true starved to text link now after same answer = (answer.0, untried_since link now after same answer.1)
answered_since false true to text link now after same answer = untried_since link now after same answer
answered_since false false to text link now after same answer = replied_since to text link now after same answer

untried_none : (link : LinkSeen) → IsUntried link link
untried_none link = record { same_tried = refl; same_faults = refl }

-- one line more
or_last : (one other : Bool) → (one || other) ≡ (one || (other || false))
or_last one true = refl
or_last one false = refl

stops_more : (asked : List Asked) (one : Asked) (stops stop : Bool) → stops ≡ list_any (λ (other : Asked). is_stop other.reading) asked → stop ≡ is_stop one.reading
    → (stops || stop) ≡ list_any (λ (other : Asked). is_stop other.reading) (asked ++ one ∷ [])
stops_more asked one stops stop is next =
    (λ i. is i || next i) ∙ or_last (list_any (λ (other : Asked). is_stop other.reading) asked) (is_stop one.reading)
    ∙ sym (list_any-append (λ (other : Asked). is_stop other.reading) asked (one ∷ []))

-- a turn's lines end in some way after fewer than 64
end_after : (ending : RoundEnd) (lines : ℕ) → IsEnd ending 0 → lines < 64 → IsEnd ending lines
end_after Full lines early few = absurd (omega (arith, early))
end_after Silent lines early few = few
end_after Shut lines early few = few
end_after Failed lines early few = few

-- a line came, and was answered
pub next_line : (text : Result Asking Reason → CopyCount → List ℕ) (control now control' : ControlSeen) (from : Peer) (line : List ℕ) (answered : Answered)
    → Answers LinkClosed control.link.coming now.link.coming (LineCame from line) → IsUntried control.link now.link → now.copies ≡ control.copies
    → now.link.receive_faults ≡ control.link.receive_faults → now.wait ≤ control.wait → LineSo text from line now control' answered
    → NextSo text control control' (Some answered)
next_line text control now control' from line answered came untried copies calm wait said =
    let waited = said.same_wait in (
      record { from = from; line = line; reading = said.reading; copied = said.copied; starved = said.starved },
      record {
        came = subst (λ (coming : Option (List LinkAnswer)). Answers LinkClosed control.link.coming coming (LineCame from line)) (sym said.same_coming) came;
        read = said.read;
        counted = subst (λ (told : Option (List CopyCount)). Appends told control'.copies said.copied) copies said.counted;
        answer = answered_since (is_answer line) said.starved from (text said.reading said.copied) control.link now.link control'.link untried said.answer;
        calm = said.calm ∙ calm;
        unwaited = omega (arith, waited, wait);
      },
      said.stops_is,
      said.refused_is,
    )

-- some lines of a turn, all answered
pub record IsAsking (replying : Replying) (control control' : ControlSeen) (count : ℕ) (lines : Answered) : Type 0 where
  pub asked : List Asked
  pub answered : AreAnswered replying control asked control'
  pub count_is : count ≡ length asked
  pub stops_is : lines.stops ≡ list_any (λ (one : Asked). is_stop one.reading) asked
  pub refused_is : lines.refused ≡ refused_among asked

pub IsAsking-none : (replying : Replying) (control : ControlSeen) → IsAsking replying control control 0 (record { stops = false; refused = 0 })
IsAsking-none replying control = record { asked = []; answered = no_line; count_is = refl; stops_is = refl; refused_is = refl }

pub IsAsking-then : (texts : Replying) (starved : ℕ) (control now control' : ControlSeen) (count : ℕ) (lines next both : Answered)
    → IsAsking (λ (refused : ℕ). texts (starved + refused)) control now count lines → NextSo (texts (starved + lines.refused)) now control' (Some next)
    → both.stops ≡ (lines.stops || next.stops) → both.refused ≡ lines.refused + next.refused
    → IsAsking (λ (refused : ℕ). texts (starved + refused)) control control' (count + 1) both
IsAsking-then texts starved control now control' count lines next both run said stops refused =
    let one = said.0 in
    let counted = run.count_is in record {
      asked = run.asked ++ one ∷ [];
      answered = line_more run.asked now run.answered one control' (subst (λ (number : ℕ). IsAnswered (texts (starved + number)) one now control') run.refused_is said.1);
      count_is = omega (arith, counted, length-append run.asked (one ∷ []));
      stops_is = stops ∙ stops_more run.asked one lines.stops next.stops run.stops_is said.2;
      refused_is = refused ∙ (λ i. run.refused_is i + said.3 i) ∙ sym (count_more (λ (other : Asked). other.starved) run.asked one);
    }

-- memory refused at most one answer a line
pub IsAsking-few : (replying : Replying) (control control' : ControlSeen) (count : ℕ) (lines : Answered) → IsAsking replying control control' count lines → lines.refused ≤ count
IsAsking-few replying control control' count lines run =
    let counted = run.count_is in
    let refused = run.refused_is in
    omega (arith, counted, refused, count_by-le-length (λ (one : Asked). one.starved) run.asked)

-- 64 lines came
pub round_full : (replying : Replying) (control control' : ControlSeen) (count : ℕ) (lines : Answered) → IsAsking replying control control' count lines → count ≡ 64 → RoundSo replying control control' lines
round_full replying control control' count lines run all = record {
  round = record { asked = run.asked; ending = Full };
  is_round = record {
    last = control';
    answered = run.answered;
    ends = record { came = refl; cause = refl; untried = untried_none control'.link; same_copies = refl; unwaited = omega arith };
    is_end = sym run.count_is ∙ all;
  };
  stops_is = run.stops_is;
  refused_is = run.refused_is;
}

-- fewer came
pub round_ended : (replying : Replying) (control now control' : ControlSeen) (count : ℕ) (lines : Answered) → IsAsking replying control now count lines → (ending : RoundEnd) × IsEnd ending 0 × EndsRound ending now control' → count < 64
    → RoundSo replying control control' lines
round_ended replying control now control' count lines run next few =
    let counted = run.count_is in record {
      round = record { asked = run.asked; ending = next.0 };
      is_round = record { last = now; answered = run.answered; ends = next.2; is_end = end_after next.0 (length run.asked) next.1 (omega (arith, counted, few)) };
      stops_is = run.stops_is;
      refused_is = run.refused_is;
    }

module _ {O : Type 0} {g : Ghosts O} {T : Type 0} where
  -- where memory refused this number of answers, the link sent nothing
  pub same_sends : (number : ℕ) (before after : Server O T g) → ServerDoes (refusing number) before after → ((counts_in after).sent ≡ (counts_in before).sent) × ((counts_in after).unsent ≡ (counts_in before).unsent)
  same_sends number before after refuses =
      let answered = (refuses (alone before)).answered in
      let few : answered.more + answered.missed ≡ 0 = answered.as_many in
      let sent_are = answered.sent_are in
      let unsent_are = answered.unsent_are in
      (omega (arith, few, sent_are), omega (arith, few, unsent_are))
