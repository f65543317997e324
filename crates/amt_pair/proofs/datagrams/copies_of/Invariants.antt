use Rattle.std.proofs.Common.{◌≡◌, take}
use Rattle.amt_pair.proofs.datagrams.copies_of.Given as goal

abbrev pub invariant-loop-send : goal.invariant-loop-send
invariant-loop-send l = l.copies.items ≡ take l.send-index l.sends
