-- The first reason why a line gives no gateway.
use Rattle.std.proofs.{Common.{◌≡◌, ◌≢◌, ◌↔◌, ℕ, Bool, true, false, List, [], ◌∷◌, ◌==◌, length, IsTrue, Some, inl, inr, refl, sym, subst, ◌∙◌}, lemmas.{Bool.{eqb-true}, List.{nil_from_length}}}
use Rattle.amt_values.{specs.{Text.{IsPeerText}, declared.{address.Ip.{Ip}, peer.Peer.{Peer}}, Conditions.{First}}, proofs.Unique.{IsPeerText-unique}}
use Rattle.group_records.specs.declared.family.Family.{Family}
use Rattle.script_lines.specs.{Form.{IsAddressText, IsFamilyText}, Reading.{FailsFirst}, declared.fault.LineError.{LineError, TheVariants.{Bad, Memory}}}
use Rattle.script_lines.specs.declared.reason.Reason.TheVariants as reasons
use Rattle.pair_script.specs.{Fault.{FailsAsGateway, FailsToAdd, HasNoFamily, IsGivenTwice, RepeatsPeer, order_of_reasons, order_of_values}, Gateways.{is_peer_given}, Opening.{IsGatewayName}, declared.script.{PairGateway.{PairGateway}, PairItem.{PairItem}}}

pub peer_repeated : (gateways : List PairGateway) (values rest : List (List ℕ)) (text : List ℕ) (peer : Peer) (given : Bool) → values ≡ text ∷ rest → IsPeerText peer text
    → given ≡ is_peer_given gateways peer → IsTrue given ↔ RepeatsPeer gateways values
peer_repeated gateways values rest text peer given parts names is =
    subst (λ (vs : List (List ℕ)). IsTrue given ↔ RepeatsPeer gateways vs) (sym parts) (
      λ holds. (peer, names, sym is ∙ holds),
      λ h. is ∙ (subst (λ (p : Peer). is_peer_given gateways p ≡ true) (IsPeerText-unique h.0 peer text h.1 names) h.2),
    )

pub no_peer_repeated : (gateways : List PairGateway) (values rest : List (List ℕ)) (text : List ℕ) → values ≡ text ∷ rest → ((peer : Peer) → IsPeerText peer text → ⊥)
    → IsTrue false ↔ RepeatsPeer gateways values
no_peer_repeated gateways values rest text parts none =
    subst (λ (vs : List (List ℕ)). IsTrue false ↔ RepeatsPeer gateways vs) (sym parts) (
      λ holds. cc holds,
      λ h. absurd (none h.0 h.1),
    )

abbrev AreTexts : List (List ℕ) → List ℕ → List ℕ → List ℕ → List ℕ → Type 0
AreTexts values name peer family source = values ≡ name ∷ peer ∷ family ∷ source ∷ []

pub peer_first : (values : List (List ℕ)) (name peer family source : List ℕ) (its_family : Family) (ip : Ip) → AreTexts values name peer family source
    → IsFamilyText its_family family → IsAddressText (Some its_family) ip source → ((p : Peer) → IsPeerText p peer → ⊥)
    → First (FailsAsGateway values) order_of_values reasons.Peer
peer_first values name peer family source its_family ip parts is_family is_source none =
    subst (λ (vs : List (List ℕ)). First (FailsAsGateway vs) order_of_values reasons.Peer) (sym parts)
    (inr (λ count. count refl, inr (λ h. h, inr (λ h. h, inr (λ no_source. no_source its_family is_family ip is_source, inl (none, refl))))))

pub name_first : (values : List (List ℕ)) (name peer family source : List ℕ) (its_family : Family) (ip : Ip) (p : Peer) → AreTexts values name peer family source
    → IsFamilyText its_family family → IsAddressText (Some its_family) ip source → IsPeerText p peer → (IsGatewayName name → ⊥)
    → First (FailsAsGateway values) order_of_values reasons.Name
name_first values name peer family source its_family ip p parts is_family is_source is_peer none =
    subst (λ (vs : List (List ℕ)). First (FailsAsGateway vs) order_of_values reasons.Name) (sym parts)
    (inr (
      λ count. count refl,
      inr (
        λ h. h,
        inr (
          λ h. h,
          inr (
            λ no_source. no_source its_family is_family ip is_source,
            inr (λ no_peer. no_peer p is_peer, inl (none, refl)),
          ),
        ),
      ),
    ))

pub late_first : (gateways : List PairGateway) (items : List PairItem) (values : List (List ℕ)) → (HasNoFamily values → ⊥) → items ≢ []
    → First (FailsToAdd gateways items values) order_of_reasons reasons.Late
late_first gateways items values family late = inr (family, inl (late, refl))

pub twice_first : (gateways : List PairGateway) (items : List PairItem) (values : List (List ℕ)) → (HasNoFamily values → ⊥) → items ≡ []
    → IsGivenTwice gateways values → First (FailsToAdd gateways items values) order_of_reasons reasons.Twice
twice_first gateways items values family early twice = inr (family, inr (λ late. late early, inl (twice, refl)))

pub value_first : (gateways : List PairGateway) (items : List PairItem) (values : List (List ℕ)) (error : LineError) → (HasNoFamily values → ⊥) → items ≡ []
    → (IsGivenTwice gateways values → ⊥) → FailsFirst (FailsAsGateway values) order_of_values error → FailsFirst (FailsToAdd gateways items values) order_of_reasons error
value_first gateways items values (Bad reason) family early new first = inr (family, inr (λ late. late early, inr (new, first)))
value_first gateways items values Memory family early new first = tt

-- a list of no element
pub none_there : {X : Type 0} → (xs : List X) → (length xs == 0) ≡ true → xs ≡ []
none_there xs is = nil_from_length xs (eqb-true (length xs) 0 is)
