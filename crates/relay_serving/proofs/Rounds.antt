-- What is said of rounds after turns, once the link has tried more.
use Rattle.std.{proofs.{Common.{◌≡◌, ◌≤◌, ℕ, ◌+◌, List, [], ◌∷◌, ◌++◌, length, take, refl, sym, ap, subst, ◌∙◌, append_assoc, arith, length-append}, lemmas.List.{take-append-le}}, specs.{Prelude.{Option, None, Some, count_by}, List.{sum_by}}}
use Rattle.amt_ports.specs.Sends.{TriedSend, sent_count, unsent_count}
use Rattle.response_mac.specs.declared.secret.Secret.{Secret}
use Rattle.relay_machine.specs.declared.settings.Settings.{Settings}
use Rattle.relay_serving.specs.{Asked.{IsRound, Round, refused_in}, Controls.{ControlSeen}, Counting.{is_late, starved_in}, Events.{happenings_from, happenings_of_turn}, Happenings.{Happening, events_among}, Replies.{Standing, replies_at}, Rounds.{AreRounds, ControlServes, no_round, round_more, standing_after}, Sending.{answers_after}, Turns.{Turn, moment_of_turn}}
use Rattle.relay_serving.proofs.{Answering.{answers_after-append}, Happenings.{events_among-append}}

-- what happens in more turns begins with what happens in the first ones
happenings_begin : (latest : ℕ) (turns more : List Turn) → (rest : List Happening) × (happenings_from latest (turns ++ more) ≡ happenings_from latest turns ++ rest)
happenings_begin latest [] more = (happenings_from latest more, refl)
happenings_begin latest (turn ∷ turns) more =
    let rest = happenings_begin (moment_of_turn latest turn) turns more in
    let head = happenings_of_turn latest turn in
    (rest.0, ap (λ (list : List Happening). head ++ list) rest.1 ∙ sym (append_assoc head (happenings_from (moment_of_turn latest turn) turns) rest.0))

module _ (settings : Settings) (first : Secret) (workers : ℕ) (sends more : List TriedSend) where
  -- how many datagrams of these turns were answered
  abbrev answers : List Turn → ℕ
  answers turns = length (answers_after settings first [] (events_among (happenings_from 0 turns)))

  fewer : (turns later : List Turn) → answers turns ≤ answers (turns ++ later)
  fewer turns later =
      let rest = happenings_begin 0 turns later in
      let events = ap events_among rest.1 ∙ events_among-append (happenings_from 0 turns) rest.0 in
      let all = ap length (ap (answers_after settings first []) events ∙ answers_after-append settings first [] (events_among (happenings_from 0 turns)) (events_among rest.0)) in
      omega (arith, all, length-append (answers_after settings first [] (events_among (happenings_from 0 turns))) (answers_after settings first (events_among (happenings_from 0 turns)) (events_among rest.0)))

  stands_still : (turns : List Turn) (refused : ℕ) → answers turns ≤ length sends → standing_after settings first workers sends turns refused ≡ standing_after settings first workers (sends ++ more) turns refused
  stands_still turns refused within =
      ap (λ (list : List TriedSend). record { happenings = happenings_from 0 turns; turns = length turns; sent = sent_count list; unsent = unsent_count list; starved = sum_by starved_in turns + refused; late = count_by is_late turns })
      (sym (take-append-le (answers turns) sends more within))

  rounds_further : (start : ControlSeen) (turns : List Turn) (rounds : List Round) (end : ControlSeen) → AreRounds settings first workers sends start turns rounds end → answers turns ≤ length sends
      → AreRounds settings first workers (sends ++ more) start turns rounds end
  rounds_further start turns rounds end no_round within = no_round
  rounds_further start turns rounds end (round_more earlier before now served turn round after is) within =
      let short = fewer earlier (turn ∷ []) in
      round_more earlier before now (rounds_further start earlier before now served (omega (arith, short, within))) turn round after
      (subst (λ (standing : Standing). IsRound (replies_at settings first workers standing) round now after) (stands_still (earlier ++ turn ∷ []) (sum_by refused_in before) within) is)

  -- all that was said of the rounds is true of the longer list of sends
  pub serves_further : (control control' : Option ControlSeen) (turns : List Turn) (rounds : List Round) → answers turns ≡ length sends → ControlServes settings first workers sends control control' turns rounds
      → ControlServes settings first workers (sends ++ more) control control' turns rounds
  serves_further None None turns rounds all served = served
  serves_further None (Some after) turns rounds all served = served
  serves_further (Some before) None turns rounds all served = served
  serves_further (Some before) (Some after) turns rounds all served = rounds_further before turns rounds after served (omega (arith, all))

-- nothing was asked yet
pub control_unasked : (settings : Settings) (first : Secret) (workers : ℕ) (sends : List TriedSend) (control : Option ControlSeen) → ControlServes settings first workers sends control control [] []
control_unasked settings first workers sends None = refl
control_unasked settings first workers sends (Some control) = no_round
