-- A line is one row.
use Rattle.std.proofs.Common.{◌≡◌, ℕ, List, [], ◌∷◌, refl, sym, subst, ap, ◌∙◌, arith}
use Rattle.hex.proofs.HexLemmas.{decode_of-same}
use Rattle.script_lines.{specs.{Form.{IsHexText, IsNumberText}, Shape.{HasTwoFields}, Texts.{hex_text}}, proofs.Forms.{IsHexText-unique, IsNumberText-unique}}
use Rattle.amt_vectors.specs.declared.kind.RowKind.TheVariants as kinds
use Rattle.amt_vectors.{specs.{declared.row.{Question.{Question, TheVariants.{Hmac, Sum, Decode, Code4, Code6, Ip}}, Row.{Row}}, Row.{word_of}, Says.{SaysDecode, SaysHmac, SaysOf, SaysRow, WantsNumber, WantsOctets, WantsSum, spaced}}, proofs.{Fits.{kind_of, row_is_fit}, Rows.{same_kind, same_values}}}

-- a text of a form names one value
abbrev IsUnique : {X : Type 0} → (X → List ℕ → Type 0) → Type 0
IsUnique {X} IsText = (one other : X) (text : List ℕ) → IsText one text → IsText other text → one ≡ other

WantsOctets-unique : IsUnique WantsOctets
WantsOctets-unique one other text h k = h.2 ∙ (ap hex_text (IsHexText-unique h.0 k.0 text h.1 k.1) ∙ sym k.2)

WantsSum-unique : IsUnique WantsSum
WantsSum-unique one other text h k = h.2 ∙ (ap hex_text (decode_of-same text h.0 k.0 h.1.digits k.1.digits) ∙ sym k.2)

WantsNumber-unique : IsUnique WantsNumber
WantsNumber-unique one other text h k = h.0 ∙ sym k.0

IsSame-unique : IsUnique (λ (value text : List ℕ). value ≡ text)
IsSame-unique one other text h k = h ∙ sym k

code4_unique : IsUnique (IsNumberText 0 255)
code4_unique one other text h k = IsNumberText-unique 0 255 one other text (omega arith) h k

code6_unique : IsUnique (IsNumberText 0 65535)
code6_unique one other text h k = IsNumberText-unique 0 65535 one other text (omega arith) h k

-- what two readings of a line have in common
record AreSame (one other : Question) (want want' : List ℕ) : Type 0 where
  question : one ≡ other
  want_is : want ≡ want'

same_text : (x x' : List ℕ) (xs xs' : List (List ℕ)) → x ∷ xs ≡ x' ∷ xs' → x ≡ x'
same_text x x' xs xs' same = cc

-- a line of two fields after its first word
two_fields : {X Y : Type 0} (word : List ℕ) (IsText : X → List ℕ → Type 0) (IsNext : Y → List ℕ → Type 0) → IsUnique IsText → IsUnique IsNext
    → (x x' : X) (y y' : Y) (line : List (List ℕ)) → HasTwoFields (word ∷ []) (IsText x) (IsNext y) line → HasTwoFields (word ∷ []) (IsText x') (IsNext y') line
    → (x ≡ x') × (y ≡ y')
two_fields word IsText IsNext unique unique_next x x' y y' line h k =
    let values = same_values word word (h.text ∷ h.next ∷ []) (k.text ∷ k.next ∷ []) (sym h.parts ∙ k.parts) in
    let text = same_text h.text k.text (h.next ∷ []) (k.next ∷ []) values in
    let next = same_text h.next k.next [] [] (same_values h.text k.text (h.next ∷ []) (k.next ∷ []) values) in (
      unique x x' k.text (subst (IsText x) text h.names) k.names,
      unique_next y y' k.next (subst (IsNext y) next h.names_next) k.names_next,
    )

same_hmac : (key key' octets octets' want want' : List ℕ) (line : List (List ℕ)) → SaysHmac key octets want line → SaysHmac key' octets' want' line
    → AreSame (Hmac key octets) (Hmac key' octets') want want'
same_hmac key key' octets octets' want want' line h k =
    let values = same_values _ _ (h.key_text ∷ h.message_text ∷ h.out_text ∷ []) (k.key_text ∷ k.message_text ∷ k.out_text ∷ []) (sym h.parts ∙ k.parts) in
    let later = same_values h.key_text k.key_text (h.message_text ∷ h.out_text ∷ []) (k.message_text ∷ k.out_text ∷ []) values in
    let last = same_values h.message_text k.message_text (h.out_text ∷ []) (k.out_text ∷ []) later in
    let one = IsHexText-unique key key' k.key_text (subst (IsHexText key) (same_text h.key_text k.key_text _ _ values) h.names_key) k.names_key in
    let two = IsHexText-unique octets octets' k.message_text (subst (IsHexText octets) (same_text h.message_text k.message_text _ _ later) h.names_message) k.names_message in
    let three = WantsOctets-unique want want' k.out_text (subst (WantsOctets want) (same_text h.out_text k.out_text _ _ last) h.wants) k.wants in
    record { question = rw (one, two) refl; want_is = three }

same_decode : (bytes bytes' want want' : List ℕ) (line : List (List ℕ)) → SaysDecode bytes want line → SaysDecode bytes' want' line
    → AreSame (Decode bytes) (Decode bytes') want want'
same_decode bytes bytes' want want' line h k =
    let values = same_values _ _ (h.text ∷ h.word ∷ h.more) (k.text ∷ k.word ∷ k.more) (sym h.parts ∙ k.parts) in
    let later = same_values h.text k.text (h.word ∷ h.more) (k.word ∷ k.more) values in
    let one = IsHexText-unique bytes bytes' k.text (subst (IsHexText bytes) (same_text h.text k.text _ _ values) h.names) k.names in
    let word = same_text h.word k.word h.more k.more later in
    let more = same_values h.word k.word h.more k.more later in record {
      question = ap (λ (b : List ℕ). Decode b) one;
      want_is = h.wants ∙ (ap (λ (w : List ℕ). spaced w h.more) word ∙ (ap (λ (m : List (List ℕ)). spaced k.word m) more ∙ sym k.wants));
    }

same_of_kind : (one other : Question) (want want' : List ℕ) (line : List (List ℕ)) → kind_of one ≡ kind_of other → SaysOf one want line → SaysOf other want' line
    → AreSame one other want want'
same_of_kind (Hmac x y) (Hmac x' y') want want' line same h k = same_hmac x x' y y' want want' line h k
same_of_kind (Sum x) (Sum x') want want' line same h k =
    let both = two_fields (word_of kinds.Sum) IsHexText WantsSum IsHexText-unique WantsSum-unique x x' want want' line h k in
    record { question = ap (λ (b : List ℕ). Sum b) both.0; want_is = both.1 }
same_of_kind (Decode x) (Decode x') want want' line same h k = same_decode x x' want want' line h k
same_of_kind (Code4 x) (Code4 x') want want' line same h k =
    let both = two_fields (word_of kinds.Code4) (IsNumberText 0 255) WantsNumber code4_unique WantsNumber-unique x x' want want' line h k in
    record { question = ap (λ (c : ℕ). Code4 c) both.0; want_is = both.1 }
same_of_kind (Code6 x) (Code6 x') want want' line same h k =
    let both = two_fields (word_of kinds.Code6) (IsNumberText 0 65535) WantsNumber code6_unique WantsNumber-unique x x' want want' line h k in
    record { question = ap (λ (c : ℕ). Code6 c) both.0; want_is = both.1 }
same_of_kind (Ip x) (Ip x') want want' line same h k =
    let both = two_fields (word_of kinds.Ip) (λ (value text : List ℕ). value ≡ text) (λ (value text : List ℕ). value ≡ text) IsSame-unique IsSame-unique x x' want want' line h k in
    record { question = ap (λ (a : List ℕ). Ip a) both.0; want_is = both.1 }
same_of_kind one other want want' line same h k = cc same

kind_of_line : (one other : Question) (want want' : List ℕ) (line : List (List ℕ)) → SaysOf one want line → SaysOf other want' line → kind_of one ≡ kind_of other
kind_of_line one other want want' line h k =
    let x = row_is_fit one want line h in
    let y = row_is_fit other want' line k in
    same_kind (kind_of one) (kind_of other) x.values y.values (sym x.parts ∙ y.parts)

same_row : (one other : Row) → one.question ≡ other.question → one.want ≡ other.want → one ≡ other
same_row one other same_question same_want = λ i. record { question = same_question i; want = same_want i }

pub SaysRow-unique : (one other : Row) (line : List (List ℕ)) → SaysRow one line → SaysRow other line → one ≡ other
SaysRow-unique one other line h k =
    let kind = kind_of_line one.question other.question one.want other.want line h k in
    let same = same_of_kind one.question other.question one.want other.want line kind h k in
    same_row one other same.question same.want_is
