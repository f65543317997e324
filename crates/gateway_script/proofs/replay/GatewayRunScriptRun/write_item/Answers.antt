use Rattle.gateway_script.proofs.Runs.{same_event}
use Rattle.gateway_script.proofs.replay.GatewayRunScriptRun.write_item.Goals as goal

pub write_step-requires : goal.write_step-requires
write_step-requires g c = same_event c.requires.start.settings _ c.args.event.now c.requires.stands.settings_kept c.requires.may
