-- The one text of an IPv6 address that is printed (RFC 5952, section 4).
use Rattle.std.specs.{Prelude.{◌≡◌, ℕ, ◌+◌, ◌<◌, ◌≤◌, ◌⊎◌, List, ◌++◌, length, take, drop, replicate, slice_index, All, codes}, Char.{IsNotAsciiUppercase}, List.{AllZip, join_with_byte}, Net.Grammar.{IsGroup}}

-- a group without a leading zero (section 4.1) and in lower case (section 4.3)
pub record IsShortGroup (text : List ℕ) (group : ℕ) : Type 0 where
  pub writes : IsGroup text group
  pub no_leading_zero : slice_index text 0 ≡ 48 → length text ≡ 1
  pub lower_case : All IsNotAsciiUppercase text

-- such a text of each group, with colons between them
abbrev pub IsShortGroupsText : List ℕ → List ℕ → Type 0
IsShortGroupsText groups text =
    (pieces : List (List ℕ)) × (text ≡ join_with_byte 58 pieces) × AllZip IsShortGroup pieces groups

-- so many groups from the place `start` on are zero
abbrev pub AreZeros : List ℕ → ℕ → ℕ → Type 0
AreZeros groups start count =
    (start + count ≤ length groups) × (take count (drop start groups) ≡ replicate count 0)

-- the zero groups that `::` stands for: more than one (section 4.2.2), no other run is longer, and
-- none as long begins earlier (section 4.2.3)
pub record IsShortened (groups : List ℕ) (start count : ℕ) : Type 0 where
  pub zeros : AreZeros groups start count
  pub two : 2 ≤ count
  pub longest : (s c : ℕ) → AreZeros groups s c → c ≤ count
  pub first : (s : ℕ) → AreZeros groups s count → start ≤ s

-- `::` in the place of that run
pub record IsShortenedText (groups text : List ℕ) : Type 0 where
  pub start : ℕ
  pub count : ℕ
  pub run : IsShortened groups start count
  pub head_text : List ℕ
  pub tail_text : List ℕ
  pub spelled : text ≡ head_text ++ (codes "::" ++ tail_text)
  pub before : IsShortGroupsText (take start groups) head_text
  pub after : IsShortGroupsText (drop (start + count) groups) tail_text

-- no two zero groups stand together
abbrev pub HasNoRun : List ℕ → Type 0
HasNoRun groups = (start count : ℕ) → AreZeros groups start count → count < 2

-- shortened wherever that can be (section 4.2.1)
abbrev pub IsCanonicalText : List ℕ → List ℕ → Type 0
IsCanonicalText groups text =
    IsShortenedText groups text ⊎ (HasNoRun groups × IsShortGroupsText groups text)
