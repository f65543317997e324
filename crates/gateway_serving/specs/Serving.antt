-- What a run of a serving gateway comes to.
use Rattle.std.specs.Prelude.{◌≡◌, ℕ, ◌+◌, List, [], length}
use Rattle.amt_config.specs.declared.config.GatewayConfig.{GatewayConfig}
use Rattle.amt_ports.specs.{Sends.{TriedSend}, Told.{AppendsAll}, declared.{link.LinkAnswer.TheVariants.{Closed as LinkClosed}, end.End.TheVariants.{LinkFault, FeedFault, WordsFault}}, EndCauses.{IsCauseOf}, Devices.{AnswersAll, LinkSeen}, Tried.{HasTried}}
use Rattle.control_lines.specs.Answer.{IsUntried}
use Rattle.gateway_serving.specs.{Counting.{AreCounted}, Devices.{Devices}, Events.{events_of, first_moment, first_of}, Replies.{Standing}, Rounds.{AreRounds, standing_after}, Runs.{MayGo, Run, control_answers, link_answers, moments_of, refused_of, turns_of, words_of}, Sending.{delivered_after, sends_after}, Servers.{Setup}, Settings.{settings_of}, Starving.{StarveWhereItSends}, Turns.{Turn}, declared.served.GatewayServed.{GatewayServed}}

-- what the gateway of a run is set up with
abbrev pub setup_of : GatewayConfig → Run → Setup
setup_of config run = record { settings = settings_of config; first = first_of run; deliver = config.deliver }

-- where a run stands after some of its whole turns, by what its link and its out tried
abbrev pub stand_of : GatewayConfig → Run → List TriedSend → List TriedSend → List Turn → ℕ → Standing
stand_of config run sends packets = standing_after (setup_of config run) run.begun (first_moment run.moments) sends packets

-- A whole run: the devices gave exactly its answers; the link tried exactly what the machine sends in a run of
-- its events, in order, and the out exactly the packets that the machine hands on; and so on.
pub record Serves (config : GatewayConfig) (turns : ℕ) (before after : Devices) (report : GatewayServed) : Type 0 where
  pub run : Run
  pub goes : MayGo config turns report.end run
  -- the devices' answers
  pub words : AppendsAll before.words.given after.words.given (words_of run)
  pub clock : AppendsAll before.clock after.clock (moments_of run)
  pub link : AnswersAll LinkClosed before.link.coming after.link.coming (link_answers (turns_of run))
  pub control : AnswersAll LinkClosed before.control.coming after.control.coming (control_answers (turns_of run))
  -- what was sent and handed on
  pub link_sent : ℕ
  pub link_unsent : ℕ
  pub link_tried : HasTried before.link.tried after.link.tried before.link.send_faults after.link.send_faults
      (sends_after (settings_of config) (first_of run) [] (events_of run)) link_sent link_unsent
  pub out_sent : ℕ
  pub out_unsent : ℕ
  pub out_tried : HasTried before.out.tried after.out.tried before.out.faults after.out.faults
      (delivered_after config.deliver (settings_of config) (first_of run) [] (events_of run)) out_sent out_unsent
  -- the answers to lines: after those nothing else was tried by the control
  pub last_answered : LinkSeen
  pub answered : AreRounds (settings_of config) (first_of run) (stand_of config run link_tried.sends out_tried.sends) before.control run.whole run.rounds last_answered
  pub untried : IsUntried last_answered after.control
  -- the report
  pub turns_are : report.turns ≡ length run.whole
  pub counted : AreCounted (turns_of run) (refused_of run) report.datagrams report.controls report.bad_controls report.starved
  pub starve : StarveWhereItSends (settings_of config) (first_of run) run.begun (first_moment run.moments) (turns_of run)
  pub delivered_are : report.delivered ≡ out_sent + out_unsent
  pub unsent_are : report.unsent ≡ link_unsent + out_unsent
  -- the causes
  pub link_cause : IsCauseOf report.end LinkFault before.link.receive_faults after.link.receive_faults
  pub control_cause : IsCauseOf report.end FeedFault before.control.receive_faults after.control.receive_faults
  pub words_cause : IsCauseOf report.end WordsFault before.words.faults after.words.faults
