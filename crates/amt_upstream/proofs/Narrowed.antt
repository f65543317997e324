-- The change records need no more of INCLUDE lists than the sources that may have changed.
use Rattle.std.proofs.Common.{◌≡◌, Bool, true, false, not, ◌&&◌, List, ◌++◌, refl, sym, ap, ◌∙◌}
use Rattle.amt_values.{specs.{declared.address.Ip.{Ip}, Order.{ip_order}, Ascending.{IsAscending, difference, has, intersection}}, proofs.{Orders.{ip_order-exact, ip_order-total}, AscendingLaws.{IsAscending-filter, has-difference, has-intersection, same_ascending}}}
use Rattle.source_filter.{specs.{Changes.{changes_by, changes_on, record_of_some}, Filter.{FilterValue}, declared.mode.Mode.{Mode, TheVariants.{Include, Exclude}}, declared.record.{RecordKind.TheVariants.{Allow, Block}}}, proofs.SourceSets.{listing}}
use Rattle.amt_upstream.specs.Looking.{seen, seen_after}

-- both lists ascend, and each source that isn't named is in both or in neither
pub record Agree (named old new : List Ip) : Type 0 where
  pub old_ascends : IsAscending ip_order old
  pub new_ascends : IsAscending ip_order new
  pub each : (source : Ip) → has ip_order named source ≡ false → has ip_order old source ≡ has ip_order new source

missed_by : (named some others : Bool) → (named ≡ false → others ≡ some) → ((some && named) && not (others && named)) ≡ (some && not others)
missed_by true true true agree = refl
missed_by true true false agree = refl
missed_by true false others agree = refl
missed_by false true true agree = refl
missed_by false true false agree = agree refl
missed_by false false others agree = refl

-- what one list has and the other lacks is named
missed : (named some others : List Ip) → IsAscending ip_order some → ((source : Ip) → has ip_order named source ≡ false → has ip_order others source ≡ has ip_order some source)
    → difference ip_order (intersection ip_order some named) (intersection ip_order others named) ≡ difference ip_order some others
missed named some others ascends each =
    let left = intersection ip_order some named in
    let right = intersection ip_order others named in
    same_ascending ip_order-total ip_order-exact (difference ip_order left right) (difference ip_order some others)
    (IsAscending-filter ip_order (λ x. not (has ip_order right x)) left (IsAscending-filter ip_order (λ x. has ip_order named x) some ascends))
    (IsAscending-filter ip_order (λ x. not (has ip_order others x)) some ascends)
    (λ source. has-difference ip_order-exact left right source
    ∙ ap (λ (one : Bool). one && not (has ip_order right source)) (has-intersection ip_order-exact some named source)
    ∙ ap (λ (one : Bool). (has ip_order some source && has ip_order named source) && not one) (has-intersection ip_order-exact others named source)
    ∙ missed_by (has ip_order named source) (has ip_order some source) (has ip_order others source) (each source)
    ∙ sym (has-difference ip_order-exact some others source))

narrowed_by : (old_mode new_mode : Mode) (named old new : List Ip) (group : Ip) → (old_mode ≡ Include → new_mode ≡ Include → Agree named old new)
    → changes_on (seen named (listing old_mode old)) (seen_after old_mode named (listing new_mode new)) group ≡ changes_by old_mode new_mode group old new
narrowed_by Include Include named old new group agree =
    let both = agree refl refl in
    ap (λ (more : List Ip). record_of_some Allow group more ++ record_of_some Block group (difference ip_order (intersection ip_order old named) (intersection ip_order new named)))
    (missed named new old both.new_ascends both.each)
    ∙ ap (λ (fewer : List Ip). record_of_some Allow group (difference ip_order new old) ++ record_of_some Block group fewer)
    (missed named old new both.old_ascends (λ source apart. sym (both.each source apart)))
narrowed_by Include Exclude named old new group agree = refl
narrowed_by Exclude Include named old new group agree = refl
narrowed_by Exclude Exclude named old new group agree = refl

-- the records by what is looked at are those by the whole filters
pub changes_on-seen : (named : List Ip) (before after : FilterValue) (group : Ip) → (before.mode ≡ Include → after.mode ≡ Include → Agree named before.sources after.sources)
    → changes_on (seen named before) (seen_after before.mode named after) group ≡ changes_on before after group
changes_on-seen named before after group agree = narrowed_by before.mode after.mode named before.sources after.sources group agree
