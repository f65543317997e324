-- The rows that every run begins with.
use Rattle.std.specs.Prelude.{ℕ, List, [], ◌∷◌, ◌++◌, codes, flat_map}

-- two test cases of HMAC (RFC 4231, sections 4.2 and 4.3); checksums of the header of an IPv4 datagram with a
-- Router Alert and of a General Query; a message and three that are refused; codes of times; and an address
abbrev pub built_in_lines : List (List ℕ)
built_in_lines =
    codes "hmac 0b0b0b0b0b0b0b0b0b0b0b0b0b0b0b0b0b0b0b0b 4869205468657265 b0344c61d8db38535ca8afceaf0bf12b881dc200c9833da726e9376c2e32cff7"
    ∷ codes "hmac 4a656665 7768617420646f2079612077616e7420666f72206e6f7468696e673f 5bdcc146bf60754e6a042426089575c75a003f089d2739839dec58b964ec3843"
    ∷ codes "sum 46c000240000000001020000c0000201e000000194040000 8211"
    ∷ codes "sum 116400000000000000000000 ee9b"
    ∷ codes "decode 0100000001020304 ok"
    ∷ codes "decode 03000000000000 short 8 7"
    ∷ codes "decode 1300000000000000 version 1"
    ∷ codes "decode 0f kind 15"
    ∷ codes "code4 128 128"
    ∷ codes "code4 255 31744"
    ∷ codes "code6 65535 8387584"
    ∷ codes "ip 2001:0DB8:0:0:1:0:0:1 2001:db8::1:0:0:1"
    ∷ []

-- each of them ends in a line feed
abbrev pub built_in_text : List ℕ
built_in_text = flat_map (λ line. line ++ 10 ∷ []) built_in_lines
