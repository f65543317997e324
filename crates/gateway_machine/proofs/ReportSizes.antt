-- How long the datagrams are that carry reports.
use Rattle.std.proofs.Common.{◌≡◌, ℕ, ◌+◌, List, length, arith}
use Rattle.inner_datagrams.specs.Written.{written_inner6}

pub length-inner6 : (source destination : ℕ) (payload : List ℕ) → length (written_inner6 source destination payload) ≡ 48 + length payload
unfolding written_inner6
length-inner6 source destination payload = omega arith
