use Rattle.std.proofs.Common.{◌≡◌, drop}
use Rattle.gateway_script.specs.Setting.{set_at}
use Rattle.gateway_script.proofs.setting.setting_at.Given as goal

abbrev pub invariant-loop-setting : goal.invariant-loop-setting
invariant-loop-setting l = set_at l.given l.key ≡ set_at (drop l.setting-index l.given) l.key
