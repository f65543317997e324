-- The addresses of a filter's fields, one after another.
use Rattle.std.proofs.Common.{◌≡◌, ℕ, List, [], ◌∷◌, ◌++◌, Option, Some, inl, inr, sym, subst, append-nil, append_assoc}
use Rattle.amt_values.specs.declared.address.Ip.{Ip}
use Rattle.group_records.specs.declared.family.Family.{Family}
use Rattle.script_lines.specs.declared.reason.Reason.TheVariants as reasons
use Rattle.script_lines.specs.{Form.{Fails, IsAddressText, an_address_of}, Shape.{SomeFails}}
use Rattle.gateway_script.specs.Says.{AreAddressTexts}

-- of the fields these addresses were read, and those of what is left are to come
pub record IsReading (family : Option Family) (sources : List Ip) (texts left : List (List ℕ)) : Type 0 where
  pub more : (rest : List Ip) → AreAddressTexts family rest left → AreAddressTexts family (sources ++ rest) texts
  pub fails : SomeFails [] (Some (an_address_of family)) left reasons.Address → SomeFails [] (Some (an_address_of family)) texts reasons.Address

pub reading_start : (family : Option Family) (sources : List Ip) (texts : List (List ℕ)) → sources ≡ [] → IsReading family sources texts texts
reading_start family sources texts none =
    subst (λ (listed : List Ip). IsReading family listed texts texts) (sym none) (record { more = λ rest h. h; fails = λ h. h })

pub reading_more : (family : Option Family) (sources sources' : List Ip) (texts left later : List (List ℕ)) (text : List ℕ) (source : Ip) → left ≡ text ∷ later
    → IsAddressText family source text → sources' ≡ sources ++ source ∷ [] → IsReading family sources texts left → IsReading family sources' texts later
reading_more family sources sources' texts left later text source parts names one_more before =
    subst (λ (listed : List Ip). IsReading family listed texts later) (sym one_more) (record {
      more = λ rest h.
          subst (λ (ips : List Ip). AreAddressTexts family ips texts) (sym (append_assoc sources (source ∷ []) rest))
          (before.more (source ∷ rest) (text, later, parts, names, h));
      fails = λ h. before.fails (subst (λ (ts : List (List ℕ)). SomeFails [] (Some (an_address_of family)) ts reasons.Address) (sym parts) (inr h));
    })

pub reading_bad : (family : Option Family) (sources : List Ip) (texts left later : List (List ℕ)) (text : List ℕ) → left ≡ text ∷ later
    → Fails (an_address_of family) text reasons.Address → IsReading family sources texts left → SomeFails [] (Some (an_address_of family)) texts reasons.Address
reading_bad family sources texts left later text parts fails before =
    before.fails (subst (λ (ts : List (List ℕ)). SomeFails [] (Some (an_address_of family)) ts reasons.Address) (sym parts) (inl fails))

pub reading_end : (family : Option Family) (sources : List Ip) (texts left : List (List ℕ)) → left ≡ [] → IsReading family sources texts left
    → AreAddressTexts family sources texts
reading_end family sources texts left none before =
    subst (λ (ips : List Ip). AreAddressTexts family ips texts) (append-nil sources) (before.more [] none)
