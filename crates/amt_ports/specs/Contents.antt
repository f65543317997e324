-- What files hold, where the device tells it.
use Rattle.std.specs.Prelude.{◌≡◌, ℕ, ◌≤◌, ◌<◌, List, length, Option, Some, None}
use Rattle.amt_ports.specs.declared.files.FileFault.{FileFault, TheVariants.{Failed, TooLong, Memory}}

-- where the content is told, it is these octets
abbrev pub IsContent : Option (List ℕ) → List ℕ → Type 0
IsContent None bytes = Unit {0}
IsContent (Some content) bytes = bytes ≡ content

-- where the content is told, it has at least so many octets
abbrev pub HasAtLeast : Option (List ℕ) → ℕ → Type 0
HasAtLeast None number = Unit {0}
HasAtLeast (Some content) number = number ≤ length content

-- a file that is told to be too long has more octets than the limit, and at least those that were seen
abbrev pub IsLonger : Option (List ℕ) → FileFault → Type 0
IsLonger content Failed = Unit {0}
IsLonger content (TooLong seen) = (16777216 < seen) × HasAtLeast content seen
IsLonger content Memory = Unit {0}
