-- The first reason why a line that opens a socket or changes its filter fails.
use Rattle.std.proofs.Common.{◌≡◌, ℕ, List, [], ◌∷◌, Option, Some, inl, inr, refl, sym, subst, arith}
use Rattle.amt_values.specs.{Conditions.{First}, declared.address.Ip.{Ip}}
use Rattle.source_filter.specs.declared.mode.Mode.{Mode}
use Rattle.group_records.specs.declared.family.Family.{Family}
use Rattle.script_lines.specs.{declared.{reason.Reason.{Reason}, fault.LineError.{LineError, TheVariants.{Bad, Memory}}}, Form.{Fails, Form, IsModeText, IsName, a_group, a_mode, a_name, an_address_of}, Reading.{FailsFirst}, Shape.{HasOtherCount, SomeFails}}
use Rattle.script_lines.specs.declared.reason.Reason.TheVariants as reasons
use Rattle.gateway_script.{specs.{declared.kind.LineKind.TheVariants.{Change, Open}, Fault.{FailsAs, order_of_values}, Reading.{FailsInSources}, Says.{AreAddressTexts}}, proofs.Fields.{addresses_fit}}

-- the reasons after those of numbers and octets
abbrev after_hex : List Reason
after_hex = reasons.Address ∷ reasons.Peer ∷ reasons.Name ∷ reasons.Mode ∷ reasons.Group ∷ reasons.Range ∷ []

-- and after those of addresses and peers
abbrev after_peer : List Reason
after_peer = reasons.Name ∷ reasons.Mode ∷ reasons.Group ∷ reasons.Range ∷ []

-- no field fails for this reason, by what is known of each, and of those that are repeated
abbrev NoneFails : List Form → Option Form → List (List ℕ) → Reason → Type 0
NoneFails [] repeated texts reason = SomeFails [] repeated texts reason → ⊥
NoneFails (form ∷ forms) repeated [] reason = Unit {0}
NoneFails (form ∷ forms) repeated (text ∷ texts) reason = (Fails form text reason → ⊥) × NoneFails forms repeated texts reason

none_fails : (forms : List Form) (repeated : Option Form) (texts : List (List ℕ)) (reason : Reason) → NoneFails forms repeated texts reason → SomeFails forms repeated texts reason → ⊥
none_fails [] repeated texts reason none fails = none fails
none_fails (form ∷ forms) repeated [] reason none fails = fails
none_fails (form ∷ forms) repeated (text ∷ texts) reason none (inl here) = none.0 here
none_fails (form ∷ forms) repeated (text ∷ texts) reason none (inr later) = none_fails forms repeated texts reason none.1 later

-- no address fails for this reason
addresses_pass : (family : Option Family) (texts : List (List ℕ)) (reason : Reason) → ((text : List ℕ) → Fails (an_address_of family) text reason → ⊥)
    → SomeFails [] (Some (an_address_of family)) texts reason → ⊥
addresses_pass family [] reason each fails = fails
addresses_pass family (text ∷ texts) reason each (inl here) = each text here
addresses_pass family (text ∷ texts) reason each (inr later) = addresses_pass family texts reason each later

module _ (family : Option Family) (values : List (List ℕ)) (name group mode : List ℕ) (texts : List (List ℕ)) (parts : values ≡ name ∷ group ∷ mode ∷ texts) where
  abbrev OpenFails : Reason → Type 0
  OpenFails reason = First (FailsAs family Open values) order_of_values reason

  open_here : (reason : Reason) → First (FailsAs family Open (name ∷ group ∷ mode ∷ texts)) order_of_values reason → OpenFails reason
  open_here reason first = subst (λ (vs : List (List ℕ)). First (FailsAs family Open vs) order_of_values reason) (sym parts) first

  open_counted : HasOtherCount (a_name ∷ a_group family ∷ a_mode ∷ []) (Some (an_address_of family)) (name ∷ group ∷ mode ∷ texts) → ⊥
  open_counted few = omega (arith, few)

  open_other : (reason : Reason) → (Fails a_name name reason → ⊥) → (Fails (a_group family) group reason → ⊥) → (Fails a_mode mode reason → ⊥)
      → ((text : List ℕ) → Fails (an_address_of family) text reason → ⊥)
      → SomeFails (a_name ∷ a_group family ∷ a_mode ∷ []) (Some (an_address_of family)) (name ∷ group ∷ mode ∷ texts) reason → ⊥
  open_other reason names joins mode_passes each fails =
      none_fails (a_name ∷ a_group family ∷ a_mode ∷ []) _ (name ∷ group ∷ mode ∷ texts) reason (names, (joins, (mode_passes, addresses_pass family texts reason each))) fails

  open_values : (reason : Reason) → First (FailsAs family Open (name ∷ group ∷ mode ∷ texts)) after_hex reason
      → First (FailsAs family Open (name ∷ group ∷ mode ∷ texts)) order_of_values reason
  open_values reason first =
      inr (
        open_counted,
        inr (
          open_other reasons.Number (λ h. h) (λ h. h) (λ h. h) (λ text h. h),
          inr (open_other reasons.Hex (λ h. h) (λ h. h) (λ h. h) (λ text h. h), first),
        ),
      )

  open_address : SomeFails [] (Some (an_address_of family)) texts reasons.Address → OpenFails reasons.Address
  open_address fails = open_here reasons.Address (open_values reasons.Address (inl (inr (inr (inr fails)), refl)))

  -- where the addresses couldn't be read
  pub open_sources : (error : LineError) → FailsInSources family texts error → FailsFirst (FailsAs family Open values) order_of_values error
  open_sources (Bad reason) fails = subst OpenFails (sym fails.0) (open_address fails.1)
  open_sources Memory fails = tt

  module _ (sources : List Ip) (addresses : AreAddressTexts family sources texts) where
    open_fields : (reason : Reason) → First (FailsAs family Open (name ∷ group ∷ mode ∷ texts)) after_peer reason
        → First (FailsAs family Open (name ∷ group ∷ mode ∷ texts)) order_of_values reason
    open_fields reason first =
        open_values reason (
        inr (
          none_fails (a_name ∷ a_group family ∷ a_mode ∷ []) _ (name ∷ group ∷ mode ∷ texts) reasons.Address ((λ h. h), ((λ h. h), ((λ h. h), addresses_fit family sources texts addresses reasons.Address))),
          inr (open_other reasons.Peer (λ h. h) (λ h. h) (λ h. h) (λ text h. h), first),
        )
        )

    pub open_name : (IsName name → ⊥) → OpenFails reasons.Name
    open_name none = open_here reasons.Name (open_fields reasons.Name (inl (inl none, refl)))

    pub open_mode : IsName name → Fails a_mode mode reasons.Mode → OpenFails reasons.Mode
    open_mode names none =
        open_here reasons.Mode (
        open_fields reasons.Mode (
        inr (open_other reasons.Name (λ h. h names) (λ h. h) (λ h. h) (λ text h. h), inl (inr (inr (inl none)), refl))
        )
        )

    pub open_group : (filter_mode : Mode) → IsName name → IsModeText filter_mode mode → Fails (a_group family) group reasons.Group → OpenFails reasons.Group
    open_group filter_mode names mode_is none =
        open_here reasons.Group (
        open_fields reasons.Group (
        inr (
          open_other reasons.Name (λ h. h names) (λ h. h) (λ h. h) (λ text h. h),
          inr (open_other reasons.Mode (λ h. h) (λ h. h) (λ fails. fails filter_mode mode_is) (λ text h. h), inl (inr (inl none), refl)),
        )
        )
        )

module _ (family : Option Family) (values : List (List ℕ)) (name mode : List ℕ) (texts : List (List ℕ)) (parts : values ≡ name ∷ mode ∷ texts) where
  abbrev ChangeFails : Reason → Type 0
  ChangeFails reason = First (FailsAs family Change values) order_of_values reason

  change_here : (reason : Reason) → First (FailsAs family Change (name ∷ mode ∷ texts)) order_of_values reason → ChangeFails reason
  change_here reason first = subst (λ (vs : List (List ℕ)). First (FailsAs family Change vs) order_of_values reason) (sym parts) first

  change_counted : HasOtherCount (a_name ∷ a_mode ∷ []) (Some (an_address_of family)) (name ∷ mode ∷ texts) → ⊥
  change_counted few = omega (arith, few)

  change_other : (reason : Reason) → (Fails a_name name reason → ⊥) → (Fails a_mode mode reason → ⊥) → ((text : List ℕ) → Fails (an_address_of family) text reason → ⊥)
      → SomeFails (a_name ∷ a_mode ∷ []) (Some (an_address_of family)) (name ∷ mode ∷ texts) reason → ⊥
  change_other reason names mode_passes each fails =
      none_fails (a_name ∷ a_mode ∷ []) _ (name ∷ mode ∷ texts) reason (names, (mode_passes, addresses_pass family texts reason each)) fails

  change_values : (reason : Reason) → First (FailsAs family Change (name ∷ mode ∷ texts)) after_hex reason
      → First (FailsAs family Change (name ∷ mode ∷ texts)) order_of_values reason
  change_values reason first =
      inr (
        change_counted,
        inr (
          change_other reasons.Number (λ h. h) (λ h. h) (λ text h. h),
          inr (change_other reasons.Hex (λ h. h) (λ h. h) (λ text h. h), first),
        ),
      )

  change_address : SomeFails [] (Some (an_address_of family)) texts reasons.Address → ChangeFails reasons.Address
  change_address fails = change_here reasons.Address (change_values reasons.Address (inl (inr (inr fails), refl)))

  -- where the addresses couldn't be read
  pub change_sources : (error : LineError) → FailsInSources family texts error → FailsFirst (FailsAs family Change values) order_of_values error
  change_sources (Bad reason) fails = subst ChangeFails (sym fails.0) (change_address fails.1)
  change_sources Memory fails = tt

  module _ (sources : List Ip) (addresses : AreAddressTexts family sources texts) where
    change_fields : (reason : Reason) → First (FailsAs family Change (name ∷ mode ∷ texts)) after_peer reason
        → First (FailsAs family Change (name ∷ mode ∷ texts)) order_of_values reason
    change_fields reason first =
        change_values reason (
        inr (
          none_fails (a_name ∷ a_mode ∷ []) _ (name ∷ mode ∷ texts) reasons.Address ((λ h. h), ((λ h. h), addresses_fit family sources texts addresses reasons.Address)),
          inr (change_other reasons.Peer (λ h. h) (λ h. h) (λ text h. h), first),
        )
        )

    pub change_name : (IsName name → ⊥) → ChangeFails reasons.Name
    change_name none = change_here reasons.Name (change_fields reasons.Name (inl (inl none, refl)))

    pub change_mode : IsName name → Fails a_mode mode reasons.Mode → ChangeFails reasons.Mode
    change_mode names none =
        change_here reasons.Mode (
        change_fields reasons.Mode (
        inr (change_other reasons.Name (λ h. h names) (λ h. h) (λ text h. h), inl (inr (inl none), refl))
        )
        )
