-- The first reason why a line is bad, by its kind and its fields.
use Rattle.std.proofs.Common.{◌≡◌, ◌≢◌, ℕ, ◌⊎◌, ◌↔◌, List, [], ◌∷◌, ◌++◌, codes, IsSome, inl, inr, refl, sym, subst, ◌∙◌}
use Rattle.endpoint_membership.specs.declared.limits.Limits.{Limits}
use Rattle.script_lines.{specs.declared.reason.Reason.{Reason}, proofs.Firsts.{First-same}}
use Rattle.script_lines.specs.declared.reason.Reason.TheVariants as reasons
use Rattle.amt_values.specs.Conditions.{First}
use Rattle.amt_script.{specs.{declared.{script.RelayItem.{RelayItem}, kind.{Key.{Key}, Kind.{Kind}}, setting.Setting.{Setting}}, Fault.{FailsAfter, FailsAs, FailsInKind, SaysMore, order_of_values, order_of_reasons}, LimitsLine.{FailsToLimit}, SetLine.{FailsToSetKey}, Row.{words_of, IsUnknown}, Setting.{set_at}, Settling.{limits_given}}, proofs.Rows.{same_kind, same_values}}
use Rattle.amt_script.specs.declared.kind.Kind.TheVariants as kinds

pub fails_as : (kind : Kind) (values line : List (List ℕ)) (reason : Reason) → line ≡ words_of kind ++ values → FailsInKind line reason → FailsAs kind values reason
fails_as kind values line reason parts fails =
    let both = sym fails.2 ∙ parts in
    subst (λ (vs : List (List ℕ)). FailsAs kind vs reason) (same_values fails.0 kind fails.1 values both)
    (subst (λ (k : Kind). FailsAs k fails.1 reason) (same_kind fails.0 kind fails.1 values both) fails.3)

in_kind : (kind : Kind) (values line : List (List ℕ)) (reason : Reason) → line ≡ words_of kind ++ values → FailsAs kind values reason ↔ FailsInKind line reason
in_kind kind values line reason parts = (λ h. (kind, values, parts, h), fails_as kind values line reason parts)

pub no_set_alone : (kind : Kind) (values line : List (List ℕ)) → line ≡ words_of kind ++ values → line ≡ codes "set" ∷ [] → ⊥
no_set_alone (kinds.Set key) values line parts alone = cc (sym alone ∙ parts)
no_set_alone kinds.Moment values line parts alone = cc (sym alone ∙ parts)
no_set_alone kinds.Secret values line parts alone = cc (sym alone ∙ parts)
no_set_alone kinds.Limits values line parts alone = cc (sym alone ∙ parts)
no_set_alone kinds.Datagram values line parts alone = cc (sym alone ∙ parts)
no_set_alone kinds.Packet values line parts alone = cc (sym alone ∙ parts)
no_set_alone kinds.Show values line parts alone = cc (sym alone ∙ parts)

counted : (kind : Kind) (values line : List (List ℕ)) → line ≡ words_of kind ++ values → (line ≡ codes "set" ∷ []) ⊎ FailsInKind line reasons.Count → FailsAs kind values reasons.Count
counted kind values line parts (inl alone) = absurd (no_set_alone kind values line parts alone)
counted kind values line parts (inr fails) = fails_as kind values line reasons.Count parts fails

pub no_word : (line : List (List ℕ)) (kind : Kind) (values : List (List ℕ)) → line ≡ words_of kind ++ values → IsUnknown line → ⊥
no_word line kind values parts unknown = unknown.no_kind kind values parts

-- the kind is that of an item
abbrev pub IsItemKind : Kind → Type 0
IsItemKind kind = (key : Key) → kind ≢ kinds.Set key

pub no_late : (kind : Kind) (values line rest : List (List ℕ)) → IsItemKind kind → line ≡ words_of kind ++ values → line ≡ codes "set" ∷ rest → ⊥
no_late (kinds.Set key) values line rest item parts set = item key refl
no_late kinds.Moment values line rest item parts set = cc (sym set ∙ parts)
no_late kinds.Secret values line rest item parts set = cc (sym set ∙ parts)
no_late kinds.Limits values line rest item parts set = cc (sym set ∙ parts)
no_late kinds.Datagram values line rest item parts set = cc (sym set ∙ parts)
no_late kinds.Packet values line rest item parts set = cc (sym set ∙ parts)
no_late kinds.Show values line rest item parts set = cc (sym set ∙ parts)

set_or_limits : {key : Key} → kinds.Set key ≡ kinds.Limits → ⊥
set_or_limits same = cc same

set_key : (one other : Key) → kinds.Set one ≡ kinds.Set other → one ≡ other
set_key one other same = cc

pub twice_at : (given : List Setting) (line : List (List ℕ)) (key : Key) (values : List (List ℕ)) → line ≡ words_of (kinds.Set key) ++ values
    → (other : Key) (others : List (List ℕ)) → line ≡ words_of (kinds.Set other) ++ others → IsSome (set_at given other) → IsSome (set_at given key)
twice_at given line key values parts other others twice set =
    subst (λ (k : Key). IsSome (set_at given k)) (set_key other key (same_kind (kinds.Set other) (kinds.Set key) others values (sym twice ∙ parts))) set

-- a line `set` says no limits
no_more : (given : List Setting) (line : List (List ℕ)) (key : Key) (values : List (List ℕ)) → line ≡ words_of (kinds.Set key) ++ values
    → FailsInKind line reasons.Range ⊎ SaysMore (limits_given given) line → FailsAs (kinds.Set key) values reasons.Range
no_more given line key values parts (inl fails) = fails_as (kinds.Set key) values line reasons.Range parts fails
no_more given line key values parts (inr more) = absurd (set_or_limits (same_kind (kinds.Set key) kinds.Limits values _ (sym parts ∙ more.1.parts)))

pub setting_judged : (given : List Setting) (items : List RelayItem) (line : List (List ℕ)) (key : Key) (values : List (List ℕ)) (reason : Reason)
    → line ≡ words_of (kinds.Set key) ++ values
    → First (FailsToSetKey given items key values) (reasons.Late ∷ reasons.Twice ∷ order_of_values) reason
    → First (FailsAfter given items line) order_of_reasons reason
setting_judged given items line key values reason parts first =
    inr (
      no_word line (kinds.Set key) values parts,
      First-same (FailsToSetKey given items key values) (FailsAfter given items line) (reasons.Late ∷ reasons.Twice ∷ order_of_values) reason (
        (λ late. (late, _, parts), λ late. late.0),
        (
          (λ twice. (key, values, parts, twice), λ twice. twice_at given line key values parts twice.0 twice.1 twice.2 twice.3),
          (
            (λ h. inr (kinds.Set key, values, parts, h), counted (kinds.Set key) values line parts),
            (
              in_kind (kinds.Set key) values line reasons.Number parts,
              (
                in_kind (kinds.Set key) values line reasons.Hex parts,
                (
                  in_kind (kinds.Set key) values line reasons.Address parts,
                  (
                    in_kind (kinds.Set key) values line reasons.Peer parts,
                    (
                      (λ h. inl (kinds.Set key, values, parts, h), no_more given line key values parts),
                      tt,
                    ),
                  ),
                ),
              ),
            ),
          ),
        ),
      ) first,
    )

to_line : (given : Limits) (values line : List (List ℕ)) → line ≡ words_of kinds.Limits ++ values
    → FailsToLimit given values reasons.Range → FailsInKind line reasons.Range ⊎ SaysMore given line
to_line given values line parts (inl fails) = inl (kinds.Limits, values, parts, fails)
to_line given values line parts (inr more) = inr (subst (SaysMore given) (sym parts) more)

of_line : (given : Limits) (values line : List (List ℕ)) → line ≡ words_of kinds.Limits ++ values
    → FailsInKind line reasons.Range ⊎ SaysMore given line → FailsToLimit given values reasons.Range
of_line given values line parts (inl fails) = inl (fails_as kinds.Limits values line reasons.Range parts fails)
of_line given values line parts (inr more) = inr (subst (SaysMore given) parts more)

-- the fields after `limits`, in the line
on_line : (given : Limits) (values line : List (List ℕ)) → line ≡ words_of kinds.Limits ++ values
    → FailsToLimit given values reasons.Range ↔ (FailsInKind line reasons.Range ⊎ SaysMore given line)
on_line given values line parts = (to_line given values line parts, of_line given values line parts)

pub limits_judged : (given : List Setting) (items : List RelayItem) (line values : List (List ℕ)) (reason : Reason) → line ≡ words_of kinds.Limits ++ values
    → First (FailsToLimit (limits_given given) values) order_of_values reason → First (FailsAfter given items line) order_of_reasons reason
limits_judged given items line values reason parts first =
    inr (
      no_word line kinds.Limits values parts,
      inr (
        λ late. no_late kinds.Limits values line late.1 (λ key same. cc same) parts late.2,
        inr (
          λ twice. set_or_limits (same_kind (kinds.Set twice.0) kinds.Limits twice.1 values (sym twice.2 ∙ parts)),
          First-same (FailsToLimit (limits_given given) values) (FailsAfter given items line) order_of_values reason (
            (λ h. inr (kinds.Limits, values, parts, h), counted kinds.Limits values line parts),
            (
              in_kind kinds.Limits values line reasons.Number parts,
              (
                in_kind kinds.Limits values line reasons.Hex parts,
                (
                  in_kind kinds.Limits values line reasons.Address parts,
                  (
                    in_kind kinds.Limits values line reasons.Peer parts,
                    (
                      on_line (limits_given given) values line parts,
                      tt,
                    ),
                  ),
                ),
              ),
            ),
          ) first,
        ),
      ),
    )
