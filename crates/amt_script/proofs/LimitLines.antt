-- The first reason why the fields after `limits` fail.
use Rattle.std.proofs.Common.{◌≡◌, ℕ, List, [], ◌∷◌, ◌++◌, inl, inr, refl, sym, subst, ap}
use Rattle.amt_values.specs.Conditions.{First}
use Rattle.endpoint_membership.specs.{Limits.{AreWithin}, declared.limits.Limits.{Limits}}
use Rattle.relay_machine.specs.declared.event.Event.TheVariants as events
use Rattle.script_lines.specs.declared.reason.Reason.{Reason}
use Rattle.script_lines.specs.declared.reason.Reason.TheVariants as reasons
use Rattle.amt_script.{specs.{Fault.{FailsAs, order_of_values}, LimitsLine.{AreLimitTexts, FailsToLimit}, Row.{words_of}, Says.{SaysEvent}}, proofs.{Rows.{same_values}, Says.{event_is_fit}}}
use Rattle.amt_script.specs.declared.kind.Kind.TheVariants as kinds

-- what fails by its shape fails, whatever limits are set
by_shape : (given : Limits) (values : List (List ℕ)) (reason : Reason) → First (FailsAs kinds.Limits values) order_of_values reason
    → First (FailsToLimit given values) order_of_values reason
by_shape given values reason (inl count) = inl count
by_shape given values reason (inr (c, inl number)) = inr (c, inl number)
by_shape given values reason (inr (c, inr (n, inl hex))) = inr (c, inr (n, inl hex))
by_shape given values reason (inr (c, inr (n, inr (h, inl address)))) = inr (c, inr (n, inr (h, inl address)))
by_shape given values reason (inr (c, inr (n, inr (h, inr (a, inl peer))))) = inr (c, inr (n, inr (h, inr (a, inl peer))))
by_shape given values reason (inr (c, inr (n, inr (h, inr (a, inr (p, inl range)))))) = inr (c, inr (n, inr (h, inr (a, inr (p, inl (inl range.0, range.1))))))
by_shape given values reason (inr (c, inr (n, inr (h, inr (a, inr (p, inr none)))))) = absurd none.1

pub shape_first : (given : Limits) (values texts : List (List ℕ)) (reason : Reason) → values ≡ texts → First (FailsAs kinds.Limits texts) order_of_values reason
    → First (FailsToLimit given values) order_of_values reason
shape_first given values texts reason parts first =
    by_shape given values reason (subst (λ (vs : List (List ℕ)). First (FailsAs kinds.Limits vs) order_of_values reason) (sym parts) first)

limits_said_by : (limits : Limits) (values : List (List ℕ)) (endpoints groups sources : List ℕ) → values ≡ endpoints ∷ groups ∷ sources ∷ []
    → AreLimitTexts endpoints groups sources limits → SaysEvent (events.Limits limits) (words_of kinds.Limits ++ values)
limits_said_by limits values endpoints groups sources parts texts = record {
  text = endpoints;
  next = groups;
  last = sources;
  parts = ap (λ (vs : List (List ℕ)). words_of kinds.Limits ++ vs) parts;
  names = texts.endpoints_are;
  names_next = texts.groups_are;
  names_last = texts.sources_are;
}

-- limits that are said, and are more than is set
pub more_first : (given limits : Limits) (values : List (List ℕ)) (endpoints groups sources : List ℕ) → values ≡ endpoints ∷ groups ∷ sources ∷ []
    → AreLimitTexts endpoints groups sources limits → (AreWithin given limits → ⊥) → First (FailsToLimit given values) order_of_values reasons.Range
more_first given limits values endpoints groups sources parts texts more =
    let says = limits_said_by limits values endpoints groups sources parts texts in
    let fit = event_is_fit (events.Limits limits) (words_of kinds.Limits ++ values) says in
    let none : (reason : Reason) → FailsAs kinds.Limits values reason → ⊥ =
    λ reason fails. fit.fits reason (subst (λ (vs : List (List ℕ)). FailsAs kinds.Limits vs reason) (same_values kinds.Limits kinds.Limits values fit.values fit.parts) fails) in
    inr (
      none reasons.Count,
      inr (none reasons.Number, inr (none reasons.Hex, inr (none reasons.Address, inr (none reasons.Peer, inl (inr (limits, says, more), refl))))),
    )
