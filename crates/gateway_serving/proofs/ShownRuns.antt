-- What is shown of a run, part by part; and its counts.
use Rattle.std.{proofs.Common.{◌≡◌, ℕ, List, ◌++◌, Option, flat_map, sym, ap, ◌∙◌, append_assoc}}
use Rattle.amt_values.specs.declared.peer.Peer.{Peer}
use Rattle.control_lines.specs.Tally.{numbers_of, tally_text}
use Rattle.gateway_machine.specs.{Runs.{Run}, declared.{event.GatewayEvent.{GatewayEvent}, exchange.GatewayState.{GatewayState}, settings.GatewaySettings.{GatewaySettings}}}
use Rattle.socket_merge.specs.{History.{open_sockets}, declared.stored.Socket.{Socket}}
use Rattle.gateway_serving.specs.{OutcomeWords.{IsTallied, outcome_words, words_said}, Replies.{Standing, counts_text, due_of, due_text, numbers_at, numbers_text, relay_text, run_text, socket_text, state_text}, declared.{numbers.Numbers.{Numbers}, outcomes.Outcomes.{Outcomes}}}

pub run_shown : (run : Run) (state : GatewayState) (relay : Option Peer) (due : Option ℕ) (sockets : List Socket) (one two three four : List ℕ)
    → state ≡ run.exchange.state → relay ≡ run.exchange.relay → due ≡ due_of run.exchange → sockets ≡ open_sockets run.history
    → one ≡ state_text state → two ≡ one ++ relay_text relay → three ≡ two ++ due_text due → four ≡ three ++ flat_map socket_text sockets → four ≡ run_text run
unfolding run_text
run_shown run state relay due sockets one two three four state_is relay_is due_is sockets_are first second third fourth =
    let before : three ≡ (state_text state ++ relay_text relay) ++ due_text due =
    third ∙ (λ i. (second ∙ (λ j. first j ++ relay_text relay)) i ++ due_text due) in
    fourth
    ∙ (λ i. before i ++ flat_map socket_text sockets)
    ∙ append_assoc (state_text state ++ relay_text relay) (due_text due) (flat_map socket_text sockets)
    ∙ append_assoc (state_text state) (relay_text relay) (due_text due ++ flat_map socket_text sockets)
    ∙ (λ i. state_text (state_is i) ++ (relay_text (relay_is i) ++ (due_text (due_is i) ++ flat_map socket_text (sockets_are i))))

pub counts_are : (settings : GatewaySettings) (first : ℕ) (standing : Standing) (numbers : Numbers) (outcomes : Outcomes) (events : List GatewayEvent)
    → numbers ≡ numbers_at standing → standing.events ≡ events → IsTallied settings first events outcomes
    → numbers_text numbers ++ tally_text outcome_words outcomes.tally ≡ counts_text settings first standing
counts_are settings first standing numbers outcomes events are same tallied =
    let tally = tallied ∙ ap (λ (list : List GatewayEvent). numbers_of outcome_words (words_said settings first list)) (sym same) in
    λ i. numbers_text (are i) ++ tally_text outcome_words (tally i)
