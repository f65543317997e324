-- The keys before the index are moved on, and the next one to be put in is the one that stood before it.
use Rattle.std.proofs.Common.{◌≡◌, ◌++◌, ◌∷◌, take, drop, length, get_or, Some, None}
use Rattle.response_mac.proofs.secrets.push_front.Given as goal

abbrev pub invariant-loop-i : goal.invariant-loop-i
invariant-loop-i l = record {
  slots : l.slots ≡ take l.i (Some l.fn.key ∷ l.fn.slots) ++ drop l.i l.fn.slots;
  next : l.next ≡ get_or (Some l.fn.key ∷ l.fn.slots) l.i None;
  size : length l.slots ≡ 3;
}
