-- The name under which a source's relays are asked for (RFC 8777, section 2): that of its address in
-- the reverse tree.
use Rattle.std.specs.Prelude.{ℕ, zero, suc, ◌+◌, ◌*◌, ◌/◌, ◌%◌, ◌^◌, nat_lt, if◌then◌else◌, List, [], ◌∷◌, ◌++◌, codes, decimal}
use Rattle.amt_values.specs.declared.address.Ip.{Ip, TheVariants.{V4, V6}}

-- the hexadecimal digit, in lower case
abbrev pub digit_octet : ℕ → ℕ
digit_octet digit = if nat_lt digit 10 then 48 + digit else 87 + digit

-- the octet of an address that has so many below it
abbrev pub octet_above : ℕ → ℕ → ℕ
octet_above number below = number / 2 ^ (8 * below) % 256

-- the hexadecimal digit of an address that has so many below it
abbrev pub digit_above : ℕ → ℕ → ℕ
digit_above number below = number / 2 ^ (4 * below) % 16

-- the lowest so many octets in decimal, each a label, the last first (RFC 1035, section 3.5)
unfoldable pub octet_labels : ℕ → ℕ → List (List ℕ)
octet_labels number zero = []
octet_labels number (suc count) = octet_labels number count ++ decimal (octet_above number count) ∷ []

-- the lowest so many digits, each a label, the last first (RFC 3596, section 2.5)
unfoldable pub digit_labels : ℕ → ℕ → List (List ℕ)
digit_labels number zero = []
digit_labels number (suc count) = digit_labels number count ++ (digit_octet (digit_above number count) ∷ []) ∷ []

-- the labels of the name
abbrev pub reverse_labels : Ip → List (List ℕ)
reverse_labels (V4 number) = octet_labels number 4 ++ codes "in-addr" ∷ codes "arpa" ∷ []
reverse_labels (V6 number) = digit_labels number 32 ++ codes "ip6" ∷ codes "arpa" ∷ []
