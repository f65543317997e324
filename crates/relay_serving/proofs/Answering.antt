-- The answers to events, and to more of them.
use Rattle.std.{proofs.{Common.{◌≡◌, ℕ, ◌+◌, List, [], ◌∷◌, ◌++◌, length, refl, sym, ap, subst, ◌∙◌, append_assoc, append-nil, arith, length-append, cond, not, map}, lemmas.List.{length-map, map-append, Concat.{flat_map-append}, Sums.{sum_by-append}}}, specs.{Prelude.{Option}, List.{flat_map}}}
use Rattle.amt_ports.{specs.{Sends.{TriedSend, datagram_of}, Devices.{LinkSeen}, Tried.{HasTried}}, proofs.{Told.{AppendsAll-then}, Trying.{HasTried-none, HasTried-then}}}
use Rattle.amt_values.specs.declared.peer.Peer.{Peer}
use Rattle.response_mac.specs.declared.secret.Secret.{Secret}
use Rattle.relay_machine.specs.{Courses.{each_after}, declared.{event.Event.{Event}, settings.Settings.{Settings}}}
use Rattle.relay_serving.specs.{Counting.{HasAnswered}, Sending.{answers_after, answers_to}, declared.counts.Counts.{Counts}}

-- later events are answered after all the earlier ones
pub each_append : {E A : Type 0} (answer : List E → E → A) (before events more : List E)
    → each_after answer before (events ++ more) ≡ each_after answer before events ++ each_after answer (before ++ events) more
each_append {E} answer before [] more = ap (λ (past : List E). each_after answer past more) (sym (append-nil before))
each_append {E} {A} answer before (one ∷ events) more =
    ap (λ (rest : List A). answer before one ∷ rest)
    (each_append answer (before ++ one ∷ []) events more
    ∙ ap (λ (past : List E). each_after answer (before ++ one ∷ []) events ++ each_after answer past more) (append_assoc before (one ∷ []) events))

pub answers_after-append : (settings : Settings) (first : Secret) (earlier events more : List Event)
    → answers_after settings first earlier (events ++ more) ≡ answers_after settings first earlier events ++ answers_after settings first (earlier ++ events) more
answers_after-append settings first earlier events more =
    ap (flat_map (λ (sends : List (Peer × List ℕ)). sends)) (each_append (answers_to settings first) earlier events more)
    ∙ flat_map-append (λ (sends : List (Peer × List ℕ)). sends) (each_after (answers_to settings first) earlier events) (each_after (answers_to settings first) (earlier ++ events) more)

pub sum_then : (before now after first second : ℕ) → now ≡ before + first → after ≡ now + second → after ≡ before + (first + second)
sum_then before now after first second is then = omega (arith, is, then)

as_many_then : (more missed then_more then_missed first second all : ℕ) → more + missed ≡ first → then_more + then_missed ≡ second → all ≡ first + second
    → (more + then_more) + (missed + then_missed) ≡ all
as_many_then more missed then_more then_missed first second all is then both = omega (arith, is, then, both)

pub no_more : (number : ℕ) → number ≡ number + 0
no_more number = omega arith

-- answers, and then others, by the sends of both
pub answered_then : (link now later : LinkSeen) (counts counts_now counts_later : Counts) (wanted others all : List (Peer × List ℕ))
    → (first : HasAnswered link now counts counts_now wanted) → (second : HasAnswered now later counts_now counts_later others) → wanted ++ others ≡ all
    → (both : HasAnswered link later counts counts_later all) × (both.tried.sends ≡ first.tried.sends ++ second.tried.sends)
answered_then link now later counts counts_now counts_later wanted others all first second is =
    let one = first.tried in
    let other = second.tried in
    let taken = sum_by-append (λ (send : TriedSend). cond send.sent 1 0) one.sends other.sends in
    let missed = sum_by-append (λ (send : TriedSend). cond (not send.sent) 1 0) one.sends other.sends in
    let tried = HasTried-then link.tried now.tried later.tried link.send_faults now.send_faults later.send_faults wanted others first.more first.missed second.more second.missed one other in (
      record {
        more = first.more + second.more;
        missed = first.missed + second.missed;
        sent_are = sum_then counts.sent counts_now.sent counts_later.sent first.more second.more first.sent_are second.sent_are;
        unsent_are = sum_then counts.unsent counts_now.unsent counts_later.unsent first.missed second.missed first.unsent_are second.unsent_are;
        as_many = as_many_then first.more first.missed second.more second.missed (length wanted) (length others) (length all) first.as_many second.as_many (ap length (sym is) ∙ length-append wanted others);
        tried = record {
          sends = one.sends ++ other.sends;
          exactly = map-append datagram_of one.sends other.sends ∙ (λ i. one.exactly i ++ other.exactly i) ∙ is;
          appended = AppendsAll-then link.tried now.tried later.tried one.sends other.sends one.appended other.appended;
          sent_is = omega (arith, taken, one.sent_is, other.sent_is);
          unsent_is = omega (arith, missed, one.unsent_is, other.unsent_is);
          later = tried.later;
          cause = tried.cause;
          quiet = tried.quiet;
          tells = tried.tells;
        };
      },
      refl,
    )

-- one send an answer
pub as_many_sends : (link now : LinkSeen) (counts counts' : Counts) (wanted : List (Peer × List ℕ)) (answered : HasAnswered link now counts counts' wanted) → length wanted ≡ length answered.tried.sends
as_many_sends link now counts counts' wanted answered = sym (ap length answered.tried.exactly) ∙ length-map answered.tried.sends datagram_of

-- nothing was sent
pub HasAnswered-none : (link now : LinkSeen) (counts : Counts) → now.tried ≡ link.tried → now.send_faults ≡ link.send_faults → HasAnswered link now counts counts []
HasAnswered-none link now counts same_tried same_faults = record {
  more = 0;
  missed = 0;
  sent_are = no_more counts.sent;
  unsent_are = no_more counts.unsent;
  as_many = refl;
  tried = subst (λ (tried : Option (List TriedSend)). HasTried link.tried tried link.send_faults now.send_faults [] 0 0) (sym same_tried)
      (subst (λ (faults : ℕ). HasTried link.tried link.tried link.send_faults faults [] 0 0) (sym same_faults) (HasTried-none link.tried link.send_faults));
}

-- whatever else is counted
pub HasAnswered-alike : (link link' : LinkSeen) (counts counts' other other' : Counts) (wanted wanted' : List (Peer × List ℕ))
    → counts.sent ≡ other.sent → counts.unsent ≡ other.unsent → other'.sent ≡ counts'.sent → other'.unsent ≡ counts'.unsent → wanted ≡ wanted'
    → HasAnswered link link' counts counts' wanted → HasAnswered link link' other other' wanted'
HasAnswered-alike link link' counts counts' other other' wanted wanted' sent unsent sent' unsent' same answered = record {
  more = answered.more;
  missed = answered.missed;
  sent_are = sent' ∙ answered.sent_are ∙ ap (λ (n : ℕ). n + answered.more) sent;
  unsent_are = unsent' ∙ answered.unsent_are ∙ ap (λ (n : ℕ). n + answered.missed) unsent;
  as_many = answered.as_many ∙ ap length same;
  tried = subst (λ (list : List (Peer × List ℕ)). HasTried link.tried link'.tried link.send_faults link'.send_faults list answered.more answered.missed) same answered.tried;
}
