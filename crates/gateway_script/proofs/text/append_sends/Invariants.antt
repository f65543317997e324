use Rattle.std.proofs.Common.{◌≡◌, ◌++◌, take, flat_map}
use Rattle.gateway_script.specs.Texts.{send_text}
use Rattle.gateway_script.proofs.text.append_sends.Given as goal

abbrev pub invariant-loop-send : goal.invariant-loop-send
invariant-loop-send l = l.text ≡ l.initial.text ++ flat_map send_text (take l.send-index l.sends)
