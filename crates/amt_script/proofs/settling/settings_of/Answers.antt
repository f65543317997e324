use Rattle.relay_machine.specs.Settings.{default_settings}
use Rattle.amt_script.proofs.Settlings.{settled_more}
use Rattle.amt_script.proofs.settling.settings_of.Goals as goal

pub loop-setting-preserved : goal.loop-setting-preserved
loop-setting-preserved c = λ all.
    settled_more (default_settings c.args.relay) c.loop-setting.settings c.set.new.settings c.args.given.now c.loop-setting.setting-index _
    c.loop-setting-test.true all c.set.ensures (c.loop-setting.invariant all)
