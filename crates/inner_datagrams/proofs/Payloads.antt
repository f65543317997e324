-- What stands after a datagram's headers.
use Rattle.std.proofs.{Common.{◌≡◌, ℕ, ◌-◌, List, length, length-drop, drop, arith}, lemmas.List.{take_all}}
use Rattle.inner_datagrams.specs.Reading.{payload_of}

-- the payload reaches to the end of the bytes
pub payload_whole : (start : ℕ) (bytes : List ℕ) → payload_of start (length bytes) bytes ≡ drop start bytes
payload_whole start bytes = take_all (length bytes - start) (drop start bytes) (omega (arith, length-drop start bytes))
