use Rattle.std.proofs.Common.{◌≡◌, ◌≤◌, [], take}
use Rattle.response_mac.specs.declared.secret.Secret.{Secret}
use Rattle.relay_machine.specs.{declared.settings.Settings.{Settings}, Answers.{RelayAt, settings_of}}
use Rattle.relay_load.specs.Counting.{AreSmall, IsCounted}
use Rattle.relay_load.proofs.run.count_answers.Given as goal

abbrev pub invariant-loop-item : goal.invariant-loop-item
invariant-loop-item l = record {
  run : (settings : Settings) (first : Secret) → RelayAt l.initial.relay settings first [] → IsCounted l.relay l.counts settings first (take l.item-index l.items);
  settings : settings_of l.relay ≡ settings_of l.initial.relay;
  small : AreSmall l.counts;
  few : l.counts.events ≤ l.item-index;
}
