-- The query for the relays of a name (RFC 1035, section 4.1; RFC 8777, section 4.1).
use Rattle.std.specs.{Prelude.{ℕ, List, [], ◌∷◌, ◌++◌}, List.{flat_map}}
use Rattle.byteorder.specs.Endian.{big_bytes}
use Rattle.amt_dns_names.specs.Name.{name_wire}

-- numbers of 16 bits, one after another
abbrev pub words : List ℕ → List ℕ
words numbers = flat_map (big_bytes 2) numbers

-- the head: the id, the flags of a standard query with recursion desired, and the counts, of which one
-- is of a question and the others are of nothing (section 4.1.1)
abbrev pub query_head : ℕ → List ℕ
query_head id = words (id ∷ 0x0100 ∷ 1 ∷ 0 ∷ 0 ∷ 0 ∷ [])

-- the question: the name, the type AMTRELAY (RFC 8777, section 4.1) and the class IN (RFC 1035, sections
-- 4.1.2 and 3.2.4)
abbrev pub question_of : List (List ℕ) → List ℕ
question_of labels = name_wire labels ++ words (260 ∷ 1 ∷ [])

-- head and question
abbrev pub query_of : ℕ → List (List ℕ) → List ℕ
query_of id labels = query_head id ++ question_of labels
