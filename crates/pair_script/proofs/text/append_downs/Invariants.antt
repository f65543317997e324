use Rattle.std.proofs.Common.{◌≡◌, ◌++◌, take}
use Rattle.pair_script.specs.Texts.{down_line, sends_text}
use Rattle.pair_script.proofs.text.append_downs.Given as goal

abbrev pub invariant-loop-index : goal.invariant-loop-index
invariant-loop-index l = l.text ≡ l.initial.text ++ sends_text down_line l.sent (take l.index l.sends)
