-- Entries that say no more of a pair than that its group is left admit nothing there.
use Rattle.std.proofs.{Common.{◌≡◌, ℕ, ◌+◌, ◌<◌, ◌≤◌, max, Bool, true, false, cond, ltb, not, List, [], ◌∷◌, ◌++◌, reverse, All, refl, sym, ap, subst, ◌∙◌, arith}, lemmas.{Bool.{ltb-true}, List.{append_assoc, reverse-append, reverse-reverse, Elements.{All-head}}}}
use Rattle.amt_values.specs.declared.address.Ip.{Ip}
use Rattle.source_filter.specs.declared.record.{Record.{Record}, RecordKind.{RecordKind, TheVariants.{ToIn}}}
use Rattle.endpoint_membership.{specs.{Admission.{is_admitted}, EndpointGroup.{EndpointGroup}, GroupFilter.{records_admit}, Log.{is_empty, latest, live_chain, records_at}, declared.change.Change.{Change}}, proofs.HoldsAfter.{latest-push, latest-reverse}}
use Rattle.amt_pair.specs.Silence.{IsLeaving, IsSilent}

leaving_by : (kind : RecordKind) (group : Ip) (sources : List Ip) (older : List Record) (source : Ip) → kind ≡ ToIn → sources ≡ []
    → records_admit (record { kind = kind; group = group; sources = sources } ∷ older) source ≡ false
leaving_by kind group sources older source is none = rw (is, none) refl

-- a record that leaves its group decides every source, and wants none
pub records_admit-leaving : (group_record : Record) (older : List Record) (source : Ip) → IsLeaving group_record → records_admit (group_record ∷ older) source ≡ false
records_admit-leaving group_record older source leaves =
    leaving_by group_record.kind group_record.group group_record.sources older source leaves.kind leaves.sources

-- of a log turned round: no entry that was made less than a lifetime before the moment says more of the pair
-- than that the group is left
abbrev pub IsSilentBack : ℕ → EndpointGroup → ℕ → List Change → Type 0
IsSilentBack lifetime endpoint_group moment [] = Unit {0}
IsSilentBack lifetime endpoint_group moment (entry ∷ older) =
    (moment < latest (entry ∷ older) + lifetime → All IsLeaving (records_at endpoint_group entry)) × IsSilentBack lifetime endpoint_group moment older

silent_by : (records rest others : List Record) (live : Bool) (source : Ip) → (live ≡ true → All IsLeaving records) → records_admit others source ≡ false
    → records_admit (cond (not (is_empty records)) (cond live (records ++ rest) []) others) source ≡ false
silent_by [] rest others live source leave none = none
silent_by (newest ∷ more) rest others true source leave none = records_admit-leaving newest (more ++ rest) source (All-head IsLeaving newest more (leave refl))
silent_by (newest ∷ more) rest others false source leave none = refl

-- then the chain admits nothing: if it has a record, its newest one leaves the group
pub silent_back : (lifetime : ℕ) (endpoint_group : EndpointGroup) (source : Ip) (moment : ℕ) (past : List Change) → IsSilentBack lifetime endpoint_group moment past
    → records_admit (live_chain lifetime endpoint_group moment past) source ≡ false
silent_back lifetime endpoint_group source moment [] silent = refl
silent_back lifetime endpoint_group source moment (entry ∷ older) silent =
    silent_by (records_at endpoint_group entry) (live_chain lifetime endpoint_group (latest (entry ∷ older)) older) (live_chain lifetime endpoint_group moment older)
    (ltb moment (latest (entry ∷ older) + lifetime)) source (λ live. silent.0 (ltb-true _ _ live)) (silent_back lifetime endpoint_group source moment older silent.1)

IsSilentBack-turned : (lifetime : ℕ) (endpoint_group : EndpointGroup) (moment : ℕ) (past : List Change) → IsSilent lifetime (reverse past) endpoint_group moment
    → IsSilentBack lifetime endpoint_group moment past
IsSilentBack-turned lifetime endpoint_group moment [] silent = tt
IsSilentBack-turned lifetime endpoint_group moment (entry ∷ older) silent =
    let turned : reverse (entry ∷ older) ≡ reverse older ++ entry ∷ [] = reverse-append (entry ∷ []) older in
    let pushed = latest-push (reverse older) entry in
    let same = latest-reverse older in (
      λ recent. silent (reverse older) [] entry turned (omega arith),
      IsSilentBack-turned lifetime endpoint_group moment older (λ before after one is recent. silent before (after ++ entry ∷ []) one
          (turned ∙ ap (λ log. log ++ entry ∷ []) is ∙ append_assoc before (one ∷ after) (entry ∷ [])) recent),
    )

-- where no entry that still counts says more of a group than that it is left, nothing is admitted there
pub silent_chains : (lifetime : ℕ) (endpoint_group : EndpointGroup) (source : Ip) (moment : ℕ) (log : List Change) → latest log ≤ moment
    → IsSilent lifetime log endpoint_group moment → is_admitted lifetime log endpoint_group source moment ≡ false
silent_chains lifetime endpoint_group source moment log onward silent =
    let now : max moment (latest log) ≡ moment = omega arith in
    let turned : IsSilent lifetime (reverse (reverse log)) endpoint_group moment = subst (λ (entries : List Change). IsSilent lifetime entries endpoint_group moment) (sym (reverse-reverse log)) silent in
    ap (λ (at : ℕ). records_admit (live_chain lifetime endpoint_group at (reverse log)) source) now
    ∙ silent_back lifetime endpoint_group source moment (reverse log) (IsSilentBack-turned lifetime endpoint_group moment (reverse log) turned)
