-- What files in memory are seen as.
use Rattle.std.specs.{Prelude.{◌≡◌, ℕ, Bool, List, length, find, nat_eq, Option, Some, None}, Cmp.Lexicographic.{pointwise}, Option.{option_map}, String.{string_bytes}}
use Rattle.amt_ports.specs.{Tally.{Tally}, declared.{files.FileFault.{FileFault, TheVariants.{Failed, TooLong, Memory}}, memory.files.MemFile.{MemFile}}}

-- the files, and the calls so far
pub record FileCalls : Type 0 where
  pub files : List MemFile
  pub tally : Tally

-- the file has this name
abbrev pub has_name : List ℕ → MemFile → Bool
has_name name file = pointwise nat_eq name (string_bytes file.name)

-- the octets of the first file with this name
abbrev pub content_named : List MemFile → List ℕ → Option (List ℕ)
content_named files name = option_map (λ file. file.bytes) (find (has_name name) files)

-- a file that is told to be too long has exactly so many octets
abbrev pub SaysLength : Option (List ℕ) → FileFault → Type 0
SaysLength None fault = Unit {0}
SaysLength (Some content) Failed = Unit {0}
SaysLength (Some content) (TooLong seen) = seen ≡ length content
SaysLength (Some content) Memory = Unit {0}
