-- When a socket is closed, and when not.
use Rattle.std.proofs.Common.{◌≡◌, ℕ, Bool, true, false, List, Some, None, refl}
use Rattle.socket_merge.specs.{History.{AcceptedCall, Close, LeaveAll}, Refusal.{is_open, refusal_of}, declared.fault.SocketFault.TheVariants.{NoSocket}}

true_unless : (test : Bool) → (test ≡ false → false ≡ true) → test ≡ true
true_unless true holds = refl
true_unless false holds = holds refl

pub close-accepted : (at : ℕ) (name : List ℕ) (history : List AcceptedCall) → (is_open name history ≡ false → false ≡ true) → refusal_of at (Close name) history ≡ None
unfolding refusal_of
close-accepted at name history known = rw (true_unless (is_open name history) known) refl

pub close-refused : (at : ℕ) (name : List ℕ) (history : List AcceptedCall) → is_open name history ≡ false → refusal_of at (Close name) history ≡ Some NoSocket
unfolding refusal_of
close-refused at name history unknown = rw unknown refl

pub leave_all-accepted : (at : ℕ) (history : List AcceptedCall) → refusal_of at LeaveAll history ≡ None
unfolding refusal_of
leave_all-accepted at history = refl
