-- The first reason why a line gives no gateway.
use Rattle.std.proofs.Common.{◌≡◌, ◌≢◌, ◌↔◌, ℕ, ◌⊎◌, Bool, true, false, List, [], ◌∷◌, IsTrue, codes, inl, inr, refl, sym, subst, ◌∙◌}
use Rattle.amt_values.{specs.{Text.{IsIpText, IsPeerText}, declared.{address.Ip.TheVariants.{V4, V6}, peer.Peer.{Peer}}, Conditions.{First}}, proofs.Unique.{IsPeerText-unique}}
use Rattle.script_lines.specs.{Form.{Fails, an_address4, an_address6}, Reading.{FailsFirst}, declared.fault.LineError.{LineError, TheVariants.{Bad, Memory}}}
use Rattle.script_lines.specs.declared.reason.Reason.TheVariants as reasons
use Rattle.pair_script.specs.{Fault.{order_of_reasons, order_of_values}, Opening.{IsGatewayName}}
use Rattle.amt_dual_script.specs.{Fault.{FailsAsGateway, FailsToAdd, HasNoSources, IsGivenTwice, RepeatsPeer}, Gateways.{is_peer_given}, Says.{SaysGateway}, Script.{MayAdd}, declared.script.{DualGateway.{DualGateway}, DualItem.{DualItem}}}

pub peer_repeated : (gateways : List DualGateway) (values rest : List (List ℕ)) (text : List ℕ) (peer : Peer) (given : Bool) → values ≡ text ∷ rest → IsPeerText peer text
    → given ≡ is_peer_given gateways peer → IsTrue given ↔ RepeatsPeer gateways values
peer_repeated gateways values rest text peer given parts names is =
    subst (λ (vs : List (List ℕ)). IsTrue given ↔ RepeatsPeer gateways vs) (sym parts)
    (λ holds. (peer, names, sym is ∙ holds), λ h. is ∙ (subst (λ (p : Peer). is_peer_given gateways p ≡ true) (IsPeerText-unique h.0 peer text h.1 names) h.2))

pub no_peer_repeated : (gateways : List DualGateway) (values rest : List (List ℕ)) (text : List ℕ) → values ≡ text ∷ rest → ((peer : Peer) → IsPeerText peer text → ⊥)
    → IsTrue false ↔ RepeatsPeer gateways values
no_peer_repeated gateways values rest text parts none =
    subst (λ (vs : List (List ℕ)). IsTrue false ↔ RepeatsPeer gateways vs) (sym parts) (λ holds. cc holds, λ h. absurd (none h.0 h.1))

abbrev AreTexts : List (List ℕ) → List ℕ → List ℕ → List ℕ → List ℕ → Type 0
AreTexts values name peer source4 source6 = values ≡ name ∷ peer ∷ source4 ∷ source6 ∷ []

pub address_first : (values : List (List ℕ)) (name peer source4 source6 : List ℕ) → AreTexts values name peer source4 source6
    → Fails an_address4 source4 reasons.Address ⊎ Fails an_address6 source6 reasons.Address → First (FailsAsGateway values) order_of_values reasons.Address
address_first values name peer source4 source6 parts none =
    subst (λ (vs : List (List ℕ)). First (FailsAsGateway vs) order_of_values reasons.Address) (sym parts)
    (inr (λ count. count refl, inr (λ h. h, inr (λ h. h, inl (none, refl)))))

both_sources : (name peer source4 source6 : List ℕ) (number4 number6 : ℕ) → IsIpText (V4 number4) source4 → IsIpText (V6 number6) source6
    → HasNoSources (name ∷ peer ∷ source4 ∷ source6 ∷ []) → ⊥
both_sources name peer source4 source6 number4 number6 is_source4 is_source6 (inl none) = none number4 is_source4
both_sources name peer source4 source6 number4 number6 is_source4 is_source6 (inr none) = none number6 is_source6

pub peer_first : (values : List (List ℕ)) (name peer source4 source6 : List ℕ) (number4 number6 : ℕ) → AreTexts values name peer source4 source6
    → IsIpText (V4 number4) source4 → IsIpText (V6 number6) source6 → ((p : Peer) → IsPeerText p peer → ⊥) → First (FailsAsGateway values) order_of_values reasons.Peer
peer_first values name peer source4 source6 number4 number6 parts is_source4 is_source6 none =
    subst (λ (vs : List (List ℕ)). First (FailsAsGateway vs) order_of_values reasons.Peer) (sym parts)
    (inr (λ count. count refl, inr (λ h. h, inr (λ h. h, inr (both_sources name peer source4 source6 number4 number6 is_source4 is_source6, inl (none, refl))))))

pub name_first : (values : List (List ℕ)) (name peer source4 source6 : List ℕ) (number4 number6 : ℕ) (p : Peer) → AreTexts values name peer source4 source6
    → IsIpText (V4 number4) source4 → IsIpText (V6 number6) source6 → IsPeerText p peer → (IsGatewayName name → ⊥) → First (FailsAsGateway values) order_of_values reasons.Name
name_first values name peer source4 source6 number4 number6 p parts is_source4 is_source6 is_peer none =
    subst (λ (vs : List (List ℕ)). First (FailsAsGateway vs) order_of_values reasons.Name) (sym parts)
    (inr (λ count. count refl, inr (λ h. h, inr (λ h. h, inr (both_sources name peer source4 source6 number4 number6 is_source4 is_source6, inr (λ no_peer. no_peer p is_peer, inl (none, refl)))))))

pub late_first : (gateways : List DualGateway) (items : List DualItem) (values : List (List ℕ)) → items ≢ [] → First (FailsToAdd gateways items values) order_of_reasons reasons.Late
late_first gateways items values late = inr (λ h. h, inl (late, refl))

pub twice_first : (gateways : List DualGateway) (items : List DualItem) (values : List (List ℕ)) → items ≡ [] → IsGivenTwice gateways values
    → First (FailsToAdd gateways items values) order_of_reasons reasons.Twice
twice_first gateways items values early twice = inr (λ h. h, inr (λ late. late early, inl (twice, refl)))

pub value_first : (gateways : List DualGateway) (items : List DualItem) (values : List (List ℕ)) (error : LineError) → items ≡ []
    → (IsGivenTwice gateways values → ⊥) → FailsFirst (FailsAsGateway values) order_of_values error → FailsFirst (FailsToAdd gateways items values) order_of_reasons error
value_first gateways items values (Bad reason) early new first = inr (λ h. h, inr (λ late. late early, inr (new, first)))
value_first gateways items values Memory early new first = tt

-- ---- a gateway that may be added

false_where : (test : Bool) → (test ≡ true → ⊥) → test ≡ false
false_where true never = absurd (never refl)
false_where false never = refl

pub may_add : (gateways : List DualGateway) (items : List DualItem) (values : List (List ℕ)) (gateway : DualGateway) → items ≡ [] → (IsGivenTwice gateways values → ⊥)
    → SaysGateway gateway (codes "gateway" ∷ values) → MayAdd gateways items gateway
may_add gateways items values gateway early new says =
    let said = says.parts in
    let parts : values ≡ gateway.name ∷ says.peer ∷ says.source4 ∷ says.source6 ∷ [] = cc in
    let fresh = subst (λ (vs : List (List ℕ)). IsGivenTwice gateways vs → ⊥) parts new in
    record {
      early = early;
      new = record { name = false_where _ (λ h. fresh (inl h)); peer = false_where _ (λ h. fresh (inr (gateway.peer, says.names_peer, h))) };
    }
