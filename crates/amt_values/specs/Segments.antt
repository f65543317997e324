-- IPv6 addresses in segments of hexadecimal digits, as they are read (RFC 4291, section 2.2).
use Rattle.std.specs.{Prelude.{◌≡◌, ℕ, ◌≤◌, ◌⊎◌, List, ◌++◌, replicate, codes}, Int.{w128, to_be_bytes}, List.{AllZip, join_with_byte}, Net.{Addr.{segments_of}, Grammar.{IsGroup}}}

-- the eight segments of 16 bits, the highest first
unfoldable pub address_segments : ℕ → List ℕ
address_segments number = segments_of (to_be_bytes w128 number)

-- each segment in one to four hexadecimal digits of either case, with colons between the segments
abbrev pub IsSegmentsText : List ℕ → List ℕ → Type 0
IsSegmentsText segments text =
    (pieces : List (List ℕ)) × (text ≡ join_with_byte 58 pieces) × AllZip IsGroup pieces segments

-- segments on both sides of one `::`, which stands for at least one zero segment
pub record IsElided (segments text : List ℕ) : Type 0 where
  pub head : List ℕ
  pub zeros : ℕ
  pub tail : List ℕ
  pub value : segments ≡ head ++ (replicate zeros 0 ++ tail)
  pub some : 1 ≤ zeros
  pub head_text : List ℕ
  pub tail_text : List ℕ
  pub spelled : text ≡ head_text ++ (codes "::" ++ tail_text)
  pub head_segments : IsSegmentsText head head_text
  pub tail_segments : IsSegmentsText tail tail_text

-- all eight segments, or fewer with `::`; a dotted tail is no form of it, nor a zone
abbrev pub IsV6Text : ℕ → List ℕ → Type 0
IsV6Text number text = IsSegmentsText (address_segments number) text ⊎ IsElided (address_segments number) text
