-- How much of a source a reader took, where the source tells its bytes.
use Rattle.std.specs.{Prelude.{◌≡◌, ℕ, ◌<◌, ◌≤◌, List, ◌++◌, Option, length}, Io.KnownBytes.{Consumes, IsAtEnd}}

-- these bytes were taken, and none is left
pub record TakesAll (old new : Option (List ℕ)) (bytes : List ℕ) : Type 0 where
  pub taken : Consumes old new bytes
  pub ended : IsAtEnd new

-- more bytes than the limit were taken
pub record TakesMore (limit : ℕ) (old new : Option (List ℕ)) : Type 0 where
  pub bytes : List ℕ
  pub taken : Consumes old new bytes
  pub more : limit < length bytes

-- no more bytes than the limit were taken
pub record TakesAtMost (limit : ℕ) (old new : Option (List ℕ)) : Type 0 where
  pub bytes : List ℕ
  pub taken : Consumes old new bytes
  pub most : length bytes ≤ limit

-- the next bytes were taken, and were put after those before; no byte only where none is left
pub record TakesNext (most : ℕ) (old new : Option (List ℕ)) (before after : List ℕ) (count : ℕ) : Type 0 where
  pub bytes : List ℕ
  pub taken : Consumes old new bytes
  pub whole : after ≡ before ++ bytes
  pub counted : length bytes ≡ count
  pub short : count ≤ most
  pub ended : count ≡ 0 → IsAtEnd new
