use Rattle.std.proofs.Common.{◌≡◌, ◌++◌, take}
use Rattle.pair_script.specs.Texts.{sends_text, up_line}
use Rattle.pair_script.proofs.text.append_ups.Given as goal

abbrev pub invariant-loop-index : goal.invariant-loop-index
invariant-loop-index l = l.text ≡ l.initial.text ++ sends_text up_line l.sent (take l.index l.sends)
