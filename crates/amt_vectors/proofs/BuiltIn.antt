-- The text of the built-in rows spells rows.
use Rattle.std.{proofs.{Common.{◌≡◌, ℕ, ◌≤◌, ◌&&◌, Bool, true, List, [], ◌∷◌, ◌++◌, length, Result, Ok, Err, codes, decimal, inr, refl, sym, subst, ap, ◌∙◌, arith}, lemmas.{Bool.{and_parts, leb-true}, List.{Elements.{All-weaker}, Sums.{AllPass-from_list_all}}}, Math.Dec.{leb}}, specs.{Fmt.{digits}, Int.{IsInRange}, List.{AllByRecursion, list_all}, Str.Lines.{lines}}}
use Rattle.hex.{proofs.OnLiterals.{hex_on_literals}, specs.{Hex.{decode_of}, declared.error.FromHexError.{FromHexError}}}
use Rattle.script_lines.{specs.{declared.{fault.ScriptError.{ScriptError, TheVariants.{Fault}}, reason.Reason.{Reason}}, Form.{IsNumberText}, Lines.{fields, lines_that_say, IsPlain, IsShort}, Script.{RulesOutScripts, Say, Spells}, Shape.{HasTwoFields}, Texts.{hex_text}}, proofs.Numbers.{numeral_of_number}}
use Rattle.amt_vectors.specs.{declared.row.{Question.TheVariants.{Hmac, Sum, Decode, Code4, Code6, Ip}, Row.{Row}}, BuiltIn.{built_in_lines, built_in_text}, Kind.{vector_kind}, Says.{SaysRow, WantsNumber, spaced}}

-- a line is short and plain, as a test
abbrev is_fit : List ℕ → Bool
is_fit line = leb (length line) 140000 && list_all (λ octet. leb 32 octet && leb octet 126) line

plain_octet : (octet : ℕ) → (leb 32 octet && leb octet 126) ≡ true → IsInRange 32 126 octet
plain_octet octet fits = let both = and_parts (leb 32 octet) (leb octet 126) fits in (leb-true 32 octet both.0, leb-true octet 126 both.1)

whole : lines built_in_text ≡ built_in_lines
whole = refl

-- the octets of a text, where it is hexadecimal digits
abbrev read : Result (List ℕ) FromHexError → List ℕ
read (Ok octets) = octets
read (Err error) = []

abbrev octets_in : List ℕ → List ℕ
octets_in text = read (decode_of text)

-- the text is hexadecimal digits
abbrev IsRead : List ℕ → Type 0
IsRead text = (length text ≤ 131070) × (decode_of text ≡ Ok (octets_in text))

-- what is said of a line by a row that it is
record Said (line : List ℕ) : Type 0 where
  row : Row
  says : SaysRow row (fields line)

hmac_said : (key message out line : List ℕ) → IsRead key → IsRead message → IsRead out → fields line ≡ codes "hmac" ∷ key ∷ message ∷ out ∷ [] → Said line
hmac_said key message out line h k m parts = record {
  row = record { question = Hmac (octets_in key) (octets_in message); want = hex_text (octets_in out) };
  says = record { key_text = key; message_text = message; out_text = out; parts = parts; names_key = inr h; names_message = inr k; wants = (octets_in out, inr m, refl) };
}

sum_said : (bytes out line : List ℕ) → IsRead bytes → IsRead out → length out ≡ 4 → fields line ≡ codes "sum" ∷ bytes ∷ out ∷ [] → Said line
sum_said bytes out line h k four parts = record {
  row = record { question = Sum (octets_in bytes); want = hex_text (octets_in out) };
  says = record { text = bytes; next = out; parts = parts; names = inr h; names_next = (octets_in out, record { count = four; digits = k.1 }, refl) };
}

decode_said : (bytes word : List ℕ) (more : List (List ℕ)) (line : List ℕ) → IsRead bytes → fields line ≡ codes "decode" ∷ bytes ∷ word ∷ more → Said line
decode_said bytes word more line h parts = record {
  row = record { question = Decode (octets_in bytes); want = spaced word more };
  says = record { text = bytes; word = word; more = more; parts = parts; names = inr h; wants = refl };
}

number_said : (word : List ℕ) (most code value : ℕ) (line : List (List ℕ)) → code ≤ most → value ≤ 16777216 → line ≡ word ∷ decimal code ∷ decimal value ∷ []
    → HasTwoFields (word ∷ []) (IsNumberText 0 most code) (WantsNumber (decimal value)) line
number_said word most code value line small less parts = record {
  text = decimal code;
  next = decimal value;
  parts = parts;
  names = ((omega arith, small), refl);
  names_next = (refl, numeral_of_number (decimal value) value (omega (arith, less)) refl);
}

code4_said : (code value : ℕ) (line : List ℕ) → code ≤ 255 → value ≤ 16777216 → fields line ≡ codes "code4" ∷ decimal code ∷ decimal value ∷ [] → Said line
code4_said code value line small less parts =
    record { row = record { question = Code4 code; want = decimal value }; says = number_said (codes "code4") 255 code value (fields line) small less parts }

code6_said : (code value : ℕ) (line : List ℕ) → code ≤ 65535 → value ≤ 16777216 → fields line ≡ codes "code6" ∷ decimal code ∷ decimal value ∷ [] → Said line
code6_said code value line small less parts =
    record { row = record { question = Code6 code; want = decimal value }; says = number_said (codes "code6") 65535 code value (fields line) small less parts }

ip_said : (address out line : List ℕ) → fields line ≡ codes "ip" ∷ address ∷ out ∷ [] → Said line
ip_said address out line parts =
    record { row = record { question = Ip address; want = out }; says = record { text = address; next = out; parts = parts; names = refl; names_next = refl } }

-- rows of lines, in order, whatever the rows before them are
record AreSaid (ls : List (List ℕ)) : Type 0 where
  rows : List Row
  short : AllByRecursion IsShort ls
  say : (past : List Row) → Say vector_kind past rows ls

none_said : AreSaid []
none_said = record { rows = []; short = tt; say = λ past. tt }

also : {line : List ℕ} {ls : List (List ℕ)} → is_fit line ≡ true → Said line → AreSaid ls → AreSaid (line ∷ ls)
also {line} fit said later =
    let both = and_parts (leb (length line) 140000) (list_all (λ octet. leb 32 octet && leb octet 126) line) fit in
    let plain : IsPlain line =
    All-weaker (λ octet. (leb 32 octet && leb octet 126) ≡ true) (λ octet. IsInRange 32 126 octet) plain_octet line (AllPass-from_list_all _ line both.1) in record {
      rows = said.row ∷ later.rows;
      short = (leb-true (length line) 140000 both.0, later.short);
      say = λ past. (plain, said.says, later.say (past ++ said.row ∷ []));
    }

built_in_said : AreSaid built_in_lines
unfolding hex_on_literals digits
built_in_said =
    also refl (hmac_said (codes "0b0b0b0b0b0b0b0b0b0b0b0b0b0b0b0b0b0b0b0b") (codes "4869205468657265") (codes "b0344c61d8db38535ca8afceaf0bf12b881dc200c9833da726e9376c2e32cff7") _ (omega arith, refl) (omega arith, refl) (omega arith, refl) refl)
    (also refl (hmac_said (codes "4a656665") (codes "7768617420646f2079612077616e7420666f72206e6f7468696e673f") (codes "5bdcc146bf60754e6a042426089575c75a003f089d2739839dec58b964ec3843") _ (omega arith, refl) (omega arith, refl) (omega arith, refl) refl)
    (also refl (sum_said (codes "46c000240000000001020000c0000201e000000194040000") (codes "8211") _ (omega arith, refl) (omega arith, refl) refl refl)
    (also refl (sum_said (codes "116400000000000000000000") (codes "ee9b") _ (omega arith, refl) (omega arith, refl) refl refl)
    (also refl (decode_said (codes "0100000001020304") (codes "ok") [] _ (omega arith, refl) refl)
    (also refl (decode_said (codes "03000000000000") (codes "short") (codes "8" ∷ codes "7" ∷ []) _ (omega arith, refl) refl)
    (also refl (decode_said (codes "1300000000000000") (codes "version") (codes "1" ∷ []) _ (omega arith, refl) refl)
    (also refl (decode_said (codes "0f") (codes "kind") (codes "15" ∷ []) _ (omega arith, refl) refl)
    (also refl (code4_said 128 128 _ (omega arith) (omega arith) refl)
    (also refl (code4_said 255 31744 _ (omega arith) (omega arith) refl)
    (also refl (code6_said 65535 8387584 _ (omega arith) (omega arith) refl)
    (also refl (ip_said (codes "2001:0DB8:0:0:1:0:0:1") (codes "2001:db8::1:0:0:1") _ refl) none_said)))))))))))

all_say : lines_that_say built_in_lines ≡ built_in_lines
all_say = refl

built_in_spelled : Spells vector_kind built_in_said.rows built_in_text
built_in_spelled = record {
  said = built_in_said.rows;
  all_lines = record {
    short = subst (AllByRecursion IsShort) (sym whole) built_in_said.short;
    says = subst (Say vector_kind [] built_in_said.rows) (sym (ap lines_that_say whole ∙ all_say)) (built_in_said.say []);
  };
  made = refl;
}

-- so it has no fault
pub no_fault : (text : List ℕ) (error : ScriptError) (line : ℕ) (reason : Reason) → text ≡ built_in_text → error ≡ Fault line reason
    → RulesOutScripts vector_kind text error → ⊥
no_fault text error line reason is fault none =
    subst (λ (e : ScriptError). RulesOutScripts vector_kind text e) fault none built_in_said.rows
    (subst (Spells vector_kind built_in_said.rows) (sym is) built_in_spelled)
