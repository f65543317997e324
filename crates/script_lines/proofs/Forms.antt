-- A text of a form fails for no reason, and names one value.
use Rattle.std.{proofs.{Common.{◌≡◌, ℕ, ◌^◌, ◌<◌, ◌≤◌, Bool, true, false, List, [], ◌∷◌, ◌++◌, length, codes, None, Ok, inl, inr, refl, sym, subst, ap, ◌∙◌, arith}, lemmas.Fmt.{decimal_injective}}, specs.Int.{IsInRange}}
use Rattle.hex.{specs.Hex.{decode_of}, proofs.HexLemmas.{decode_of-odd, decode_of-ok, decode_of-same}}
use Rattle.amt_values.specs.{declared.{address.Ip.{Ip, TheVariants.{V4, V6}}, peer.Peer.{Peer}}, Text.{IsIpText, IsPeerText}}
use Rattle.response_mac.specs.declared.secret.Secret.{Secret}
use Rattle.script_lines.{specs.{declared.reason.Reason.{Reason}, Form.{Form, Fails, IsFlagText, IsMomentText, IsNumberText, IsHexText, IsSecretText, a_flag, a_moment, a_number, some_octets, a_secret, an_address, an_address4, an_address6, a_peer}, Shape.{FailsIn, SomeFails, HasField}}, proofs.Numbers.{value_of_number, numeral_of_number}}
use Rattle.script_lines.specs.declared.reason.Reason.TheVariants as reasons

-- a text of a form fails for no reason
pub moment_fits : (ms : ℕ) (text : List ℕ) → IsMomentText ms text → (reason : Reason) → Fails a_moment text reason → ⊥
moment_fits ms text names reasons.Number fails =
    let numeral = numeral_of_number text ms (omega (arith, names.0)) names.1 in
    let value = value_of_number text ms (omega (arith, names.0)) names.1 in
    let large = fails numeral in
    absurd (omega (arith, names.0, value, large))
moment_fits ms text names reason fails = fails

pub number_fits : (least most number : ℕ) (text : List ℕ) → most < 2 ^ 32 → IsNumberText least most number text
    → (reason : Reason) → Fails (a_number least most) text reason → ⊥
number_fits least most number text small names reasons.Number fails = fails (numeral_of_number text number (omega (arith, names.0.1)) names.1)
number_fits least most number text small names reasons.Range fails =
    fails.1 (subst (IsInRange least most) (sym (value_of_number text number (omega (arith, names.0.1)) names.1)) names.0)
number_fits least most number text small names reason fails = fails

pub octets_fit : (bytes text : List ℕ) → IsHexText bytes text → (reason : Reason) → Fails some_octets text reason → ⊥
octets_fit bytes text names reasons.Hex fails = fails bytes names
octets_fit bytes text names reason fails = fails

pub secret_fits : (secret : Secret) (text : List ℕ) → IsSecretText secret text → (reason : Reason) → Fails a_secret text reason → ⊥
secret_fits secret text names reasons.Hex fails = fails secret names
secret_fits secret text names reason fails = fails

pub flag_fits : (flag : Bool) (text : List ℕ) → IsFlagText flag text → (reason : Reason) → Fails a_flag text reason → ⊥
flag_fits flag text names reasons.Range fails = fails flag names
flag_fits flag text names reason fails = fails

-- no word is of two flags
pub IsFlagText-unique : (one other : Bool) (text : List ℕ) → IsFlagText one text → IsFlagText other text → one ≡ other
IsFlagText-unique true true text h k = refl
IsFlagText-unique false false text h k = refl
IsFlagText-unique true false text h k = cc (sym h ∙ k)
IsFlagText-unique false true text h k = cc (sym h ∙ k)

pub address_fits : (ip : Ip) (text : List ℕ) → IsIpText ip text → (reason : Reason) → Fails an_address text reason → ⊥
address_fits ip text names reasons.Address fails = fails ip names
address_fits ip text names reason fails = fails

pub address4_fits : (number : ℕ) (text : List ℕ) → IsIpText (V4 number) text → (reason : Reason) → Fails an_address4 text reason → ⊥
address4_fits number text names reasons.Address fails = fails number names
address4_fits number text names reason fails = fails

pub address6_fits : (number : ℕ) (text : List ℕ) → IsIpText (V6 number) text → (reason : Reason) → Fails an_address6 text reason → ⊥
address6_fits number text names reasons.Address fails = fails number names
address6_fits number text names reason fails = fails

pub peer_fits : (peer : Peer) (text : List ℕ) → IsPeerText peer text → (reason : Reason) → Fails a_peer text reason → ⊥
peer_fits peer text names reasons.Peer fails = fails peer names
peer_fits peer text names reason fails = fails

-- fields whose number and texts fit their shape fail for no reason
pub none_fits : (reason : Reason) → FailsIn (record { forms = []; repeated = None }) [] reason → ⊥
none_fits reasons.Count fails = fails refl
none_fits reason fails = fails

some_fit : (form : Form) (text : List ℕ) → ((reason : Reason) → Fails form text reason → ⊥) → (reason : Reason) → SomeFails (form ∷ []) None (text ∷ []) reason → ⊥
some_fit form text fits reason (inl h) = fits reason h
some_fit form text fits reason (inr h) = h

pub one_fits : (form : Form) (text : List ℕ) → ((reason : Reason) → Fails form text reason → ⊥) → (reason : Reason) → FailsIn (record { forms = form ∷ []; repeated = None }) (text ∷ []) reason → ⊥
one_fits form text fits reasons.Count fails = fails refl
one_fits form text fits reason fails = some_fit form text fits reason fails

both_fit : (one other : Form) (text next : List ℕ) → ((reason : Reason) → Fails one text reason → ⊥) → ((reason : Reason) → Fails other next reason → ⊥)
    → (reason : Reason) → SomeFails (one ∷ other ∷ []) None (text ∷ next ∷ []) reason → ⊥
both_fit one other text next fits fits_next reason (inl h) = fits reason h
both_fit one other text next fits fits_next reason (inr (inl h)) = fits_next reason h
both_fit one other text next fits fits_next reason (inr (inr h)) = h

pub two_fit : (one other : Form) (text next : List ℕ) → ((reason : Reason) → Fails one text reason → ⊥) → ((reason : Reason) → Fails other next reason → ⊥)
    → (reason : Reason) → FailsIn (record { forms = one ∷ other ∷ []; repeated = None }) (text ∷ next ∷ []) reason → ⊥
two_fit one other text next fits fits_next reasons.Count fails = fails refl
two_fit one other text next fits fits_next reason fails = both_fit one other text next fits fits_next reason fails

each_fits : (one other last : Form) (text next end : List ℕ) → ((reason : Reason) → Fails one text reason → ⊥) → ((reason : Reason) → Fails other next reason → ⊥)
    → ((reason : Reason) → Fails last end reason → ⊥) → (reason : Reason) → SomeFails (one ∷ other ∷ last ∷ []) None (text ∷ next ∷ end ∷ []) reason → ⊥
each_fits one other last text next end fits fits_next fits_end reason (inl h) = fits reason h
each_fits one other last text next end fits fits_next fits_end reason (inr later) = both_fit other last next end fits_next fits_end reason later

pub three_fit : (one other last : Form) (text next end : List ℕ) → ((reason : Reason) → Fails one text reason → ⊥) → ((reason : Reason) → Fails other next reason → ⊥)
    → ((reason : Reason) → Fails last end reason → ⊥)
    → (reason : Reason) → FailsIn (record { forms = one ∷ other ∷ last ∷ []; repeated = None }) (text ∷ next ∷ end ∷ []) reason → ⊥
three_fit one other last text next end fits fits_next fits_end reasons.Count fails = fails refl
three_fit one other last text next end fits fits_next fits_end reason fails = each_fits one other last text next end fits fits_next fits_end reason fails

-- the dash is no hexadecimal text
dash_is_no_hex : (bytes text : List ℕ) → text ≡ codes "-" → decode_of text ≡ Ok bytes → ⊥
dash_is_no_hex bytes text dash read = cc (sym (decode_of-odd (codes "-") refl) ∙ (ap decode_of (sym dash) ∙ read))

pub IsHexText-unique : (one other text : List ℕ) → IsHexText one text → IsHexText other text → one ≡ other
IsHexText-unique one other text (inl h) (inl k) = h.1 ∙ sym k.1
IsHexText-unique one other text (inl h) (inr k) = absurd (dash_is_no_hex other text h.0 k.1)
IsHexText-unique one other text (inr h) (inl k) = absurd (dash_is_no_hex one text k.0 h.1)
IsHexText-unique one other text (inr h) (inr k) = decode_of-same text one other h.1 k.1

secret_of_octets : (one other : Secret) → one.0 ≡ other.0 → one ≡ other
secret_of_octets one other same = λ i. record { 0 = same i }

pub IsSecretText-unique : (one other : Secret) (text : List ℕ) → IsSecretText one text → IsSecretText other text → one ≡ other
IsSecretText-unique one other text h k = secret_of_octets one other (decode_of-same text one.0 other.0 h.1 k.1)

pub IsMomentText-unique : (one other : ℕ) (text : List ℕ) → IsMomentText one text → IsMomentText other text → one ≡ other
IsMomentText-unique one other text h k = decimal_injective one other (omega (arith, h.0)) (omega (arith, k.0)) (sym h.1 ∙ k.1)

pub IsNumberText-unique : (least most one other : ℕ) (text : List ℕ) → most < 2 ^ 32 → IsNumberText least most one text → IsNumberText least most other text → one ≡ other
IsNumberText-unique least most one other text small h k =
    decimal_injective one other (omega (arith, h.0.1)) (omega (arith, k.0.1)) (sym h.1 ∙ k.1)

pub address4 : (one other : ℕ) → V4 one ≡ V4 other → one ≡ other
address4 one other same = cc

pub address6 : (one other : ℕ) → V6 one ≡ V6 other → one ≡ other
address6 one other same = cc

tail_of : (xs ys : List (List ℕ)) (x : List ℕ) → x ∷ xs ≡ x ∷ ys → xs ≡ ys
tail_of xs ys x same = cc

-- where both lines are the same words and one field, the fields are the same
last_field : (words : List (List ℕ)) (text other : List ℕ) → words ++ text ∷ [] ≡ words ++ other ∷ [] → text ≡ other
last_field [] text other same = cc
last_field (word ∷ words) text other same = last_field words text other (tail_of (words ++ text ∷ []) (words ++ other ∷ []) word same)

pub one_field : {X : Type 0} (words : List (List ℕ)) (IsText : X → List ℕ → Type 0) → ((x y : X) (text : List ℕ) → IsText x text → IsText y text → x ≡ y)
    → (x y : X) (line : List (List ℕ)) → HasField words (IsText x) line → HasField words (IsText y) line → x ≡ y
one_field words IsText unique x y line h k =
    unique x y k.text (subst (IsText x) (last_field words h.text k.text (sym h.parts ∙ k.parts)) h.names) k.names

-- octets of a field are no more than UDP carries
pub hex_sized : (bytes text : List ℕ) → IsHexText bytes text → length bytes ≤ 65535
hex_sized bytes text (inl none) = omega (arith, ap (λ (xs : List ℕ). length xs) none.1)
hex_sized bytes text (inr some) =
    let digits = decode_of-ok text bytes some.1 in
    omega (arith, some.0, digits.2)
