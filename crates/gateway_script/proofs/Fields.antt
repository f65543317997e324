-- A text of a form that only a gateway's lines have fails for no reason, and names one value.
use Rattle.std.proofs.Common.{◌≡◌, ℕ, ◌==◌, List, [], ◌∷◌, get_or, if◌then◌else◌, Option, Some, inl, inr, refl, sym, subst, ap, ◌∙◌}
use Rattle.byteorder.specs.Endian.{big_bytes, big_number}
use Rattle.hex.proofs.HexLemmas.{decode_of-same}
use Rattle.amt_values.{specs.declared.address.Ip.{Ip}, proofs.{NetworkOrder.{big_from-bytes_high_first}, Unique.{IsIpText-unique}}}
use Rattle.source_filter.specs.declared.mode.Mode.{Mode, TheVariants.{Include, Exclude}}
use Rattle.group_records.specs.declared.family.Family.{Family, TheVariants.{V4, V6}}
use Rattle.script_lines.specs.{declared.reason.Reason.{Reason}, Form.{Fails, IsAddressText, IsFamilyText, IsGroupText, IsModeText, IsNameText, IsNonceText, a_family, a_group, a_mode, a_name, a_nonce, an_address_of}, Shape.{SomeFails}, Texts.{family_text, mode_text}}
use Rattle.script_lines.specs.declared.reason.Reason.TheVariants as reasons
use Rattle.gateway_script.specs.Says.{AreAddressTexts}

-- a text of a form fails for no reason
pub nonce_fits : (nonce : ℕ) (text : List ℕ) → IsNonceText nonce text → (reason : Reason) → Fails a_nonce text reason → ⊥
nonce_fits nonce text names reasons.Hex fails = fails nonce names
nonce_fits nonce text names reason fails = fails

pub family_fits : (family : Family) (text : List ℕ) → IsFamilyText family text → (reason : Reason) → Fails a_family text reason → ⊥
family_fits family text names reasons.Word fails = fails family names
family_fits family text names reason fails = fails

pub name_fits : (name text : List ℕ) → IsNameText name text → (reason : Reason) → Fails a_name text reason → ⊥
name_fits name text names reasons.Name fails = fails names.1
name_fits name text names reason fails = fails

pub mode_fits : (mode : Mode) (text : List ℕ) → IsModeText mode text → (reason : Reason) → Fails a_mode text reason → ⊥
mode_fits mode text names reasons.Mode fails = fails mode names
mode_fits mode text names reason fails = fails

pub group_fits : (family : Option Family) (group : Ip) (text : List ℕ) → IsGroupText family group text → (reason : Reason) → Fails (a_group family) text reason → ⊥
group_fits family group text names reasons.Group fails = fails group names
group_fits family group text names reason fails = fails

pub address_fits : (family : Option Family) (ip : Ip) (text : List ℕ) → IsAddressText family ip text → (reason : Reason) → Fails (an_address_of family) text reason → ⊥
address_fits family ip text names reasons.Address fails = fails ip names
address_fits family ip text names reason fails = fails

address_or_more : (family : Option Family) (ip : Ip) (text : List ℕ) (rest : List (List ℕ)) (reason : Reason) → IsAddressText family ip text
    → (SomeFails [] (Some (an_address_of family)) rest reason → ⊥) → SomeFails [] (Some (an_address_of family)) (text ∷ rest) reason → ⊥
address_or_more family ip text rest reason names others (inl here) = address_fits family ip text names reason here
address_or_more family ip text rest reason names others (inr later) = others later

pub addresses_fit : (family : Option Family) (ips : List Ip) (texts : List (List ℕ)) → AreAddressTexts family ips texts
    → (reason : Reason) → SomeFails [] (Some (an_address_of family)) texts reason → ⊥
addresses_fit family [] texts none reason fails = subst (λ (ts : List (List ℕ)). SomeFails [] (Some (an_address_of family)) ts reason) none fails
addresses_fit family (ip ∷ more) texts are reason fails =
    address_or_more family ip are.0 are.1 reason are.3 (addresses_fit family more are.1 are.4 reason)
    (subst (λ (ts : List (List ℕ)). SomeFails [] (Some (an_address_of family)) ts reason) are.2 fails)

-- and names one value
pub IsNonceText-unique : (one other : ℕ) (text : List ℕ) → IsNonceText one text → IsNonceText other text → one ≡ other
IsNonceText-unique one other text h k =
    sym (big_from-bytes_high_first 4 one h.0) ∙ (ap (big_number 4) (decode_of-same text (big_bytes 4 one) (big_bytes 4 other) h.2 k.2) ∙ big_from-bytes_high_first 4 other k.0)

-- the family of a word, by its second octet
abbrev family_of_word : List ℕ → Family
family_of_word word = if get_or word 1 0 == 52 then V4 else V6

family_again : (family : Family) → family_of_word (family_text family) ≡ family
family_again V4 = refl
family_again V6 = refl

pub IsFamilyText-unique : (one other : Family) (text : List ℕ) → IsFamilyText one text → IsFamilyText other text → one ≡ other
IsFamilyText-unique one other text h k = sym (family_again one) ∙ (ap family_of_word (sym h ∙ k) ∙ family_again other)

-- the mode of a word, by its first octet
abbrev mode_of_word : List ℕ → Mode
mode_of_word word = if get_or word 0 0 == 105 then Include else Exclude

mode_again : (mode : Mode) → mode_of_word (mode_text mode) ≡ mode
mode_again Include = refl
mode_again Exclude = refl

pub IsModeText-unique : (one other : Mode) (text : List ℕ) → IsModeText one text → IsModeText other text → one ≡ other
IsModeText-unique one other text h k = sym (mode_again one) ∙ (ap mode_of_word (sym h ∙ k) ∙ mode_again other)

pub IsNameText-unique : (one other text : List ℕ) → IsNameText one text → IsNameText other text → one ≡ other
IsNameText-unique one other text h k = h.0 ∙ sym k.0

pub IsAddressText-unique : (family : Option Family) (one other : Ip) (text : List ℕ) → IsAddressText family one text → IsAddressText family other text → one ≡ other
IsAddressText-unique family one other text h k = IsIpText-unique one other text h.0 k.0

pub AreAddressTexts-unique : (family : Option Family) (ips others : List Ip) (texts : List (List ℕ)) → AreAddressTexts family ips texts → AreAddressTexts family others texts → ips ≡ others
AreAddressTexts-unique family [] [] texts h k = refl
AreAddressTexts-unique family [] (other ∷ others) texts h k = cc (sym h ∙ k.2)
AreAddressTexts-unique family (ip ∷ ips) [] texts h k = cc (sym k ∙ h.2)
AreAddressTexts-unique family (ip ∷ ips) (other ∷ others) texts h k =
    let both = sym h.2 ∙ k.2 in
    let text_same : h.0 ≡ k.0 = cc in
    let rest_same : h.1 ≡ k.1 = cc in
    let first = IsAddressText-unique family ip other k.0 (subst (IsAddressText family ip) text_same h.3) k.3 in
    let later = AreAddressTexts-unique family ips others k.1 (subst (AreAddressTexts family ips) rest_same h.4) k.4 in
    rw (first, later) refl
