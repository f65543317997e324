-- Sets of sources, as listed sources are put into them or taken out one by one.
use Rattle.std.{proofs.{Common.{◌≡◌, ℕ, ◌+◌, ◌<◌, Bool, true, false, not, cond, ◌&&◌, ◌||◌, List, [], ◌∷◌, ◌++◌, length, take, get_or, refl, sym, ap, subst, ◌∙◌}, lemmas.{Cmp.{eq_by_cmp_equiv}, List.{take_more}}}, specs.{BTreeSet.{BTreeSet, IsOrdered, Updates}, Ordering.{eq_by_cmp}, declared.cmp.Ordering.{Ordering}}}
use Rattle.amt_values.{specs.{declared.address.Ip.{Ip, TheVariants.{V4}}, Order.{ip_order}, Ascending.{IsAscending, difference, has, union}}, proofs.{Orders.{ip_order-exact, ip_order-total}, AscendingLaws.{IsAscending-filter, IsAscending-ascending, has-append, has-difference, has-union, ascending-fixed, same_ascending}}}
use Rattle.source_filter.specs.{Filter.{FilterValue, ascending_sources}, declared.mode.Mode.{Mode}}

-- the set after some sources: whether it has one, by whether it was in the old ones, and is among those
pub record IsHeld (keeps : Bool → Bool → Bool) (old done held : List Ip) : Type 0 where
  pub ascends : IsAscending ip_order held
  pub each : (source : Ip) → has ip_order held source ≡ keeps (has ip_order old source) (has ip_order done source)

-- those are put in
abbrev pub put_in : Bool → Bool → Bool
put_in old done = old || done

-- those are taken out
abbrev pub taken_out : Bool → Bool → Bool
taken_out old done = old && not done

-- one more source changes what is had of it alone
abbrev pub IsOneMore : (Bool → Bool → Bool) → Bool → Type 0
IsOneMore keeps present = (last old done : Bool) → cond last present (keeps old done) ≡ keeps old (done || (last || false))

pub one_in : IsOneMore put_in true
one_in true true done = refl
one_in true false true = refl
one_in true false false = refl
one_in false true done = refl
one_in false false true = refl
one_in false false false = refl

pub one_out : IsOneMore taken_out false
one_out true true true = refl
one_out true true false = refl
one_out true false done = refl
one_out false true true = refl
one_out false true false = refl
one_out false false done = refl

-- a set that ascends and has this source or not, by the order of addresses
record IsUpdated (before after : BTreeSet Ip) (source : Ip) (present : Bool) : Type 0 where
  ascends : IsAscending ip_order after.keys
  each : (other : Ip) → has ip_order after.keys other ≡ cond (eq_by_cmp ip_order other source) present (has ip_order before.keys other)

turned : (source other : Ip) → eq_by_cmp ip_order source other ≡ eq_by_cmp ip_order other source
turned source other = (eq_by_cmp_equiv ip_order-total).symm source other

updated : (cmp : Ip → Ip → Ordering) (before after : BTreeSet Ip) (source : Ip) (present : Bool) → cmp ≡ ip_order → IsOrdered cmp after → Updates cmp before after source present
    → IsUpdated before after source present
updated cmp before after source present same ordered updates =
    let told = subst (λ (order : Ip → Ip → Ordering). Updates order before after source present) same updates in
    record {
      ascends = subst (λ (order : Ip → Ip → Ordering). IsOrdered order after) same ordered;
      each = λ other. told.0 other ∙ ap (λ (test : Bool). cond test present (has ip_order before.keys other)) (turned source other);
    }

-- one more of the listed sources is put in or taken out
pub IsHeld-more : (keeps : Bool → Bool → Bool) (present : Bool) → IsOneMore keeps present → (cmp : Ip → Ip → Ordering)
    (old listed : List Ip) (k : ℕ) (before after : BTreeSet Ip) → cmp ≡ ip_order → IsOrdered cmp after
    → Updates cmp before after (get_or listed k (V4 0)) present → k < length listed
    → IsHeld keeps old (take k listed) before.keys → IsHeld keeps old (take (k + 1) listed) after.keys
IsHeld-more keeps present one_more cmp old listed k before after same ordered updates more so_far =
    let source = get_or listed k (V4 0) in
    let done = take k listed in
    let now = updated cmp before after source present same ordered updates in
    subst (λ (all : List Ip). IsHeld keeps old all after.keys) (sym (take_more listed k (V4 0) more))
    (record {
      ascends = now.ascends;
      each = λ other. now.each other ∙ ap (cond (eq_by_cmp ip_order other source) present) (so_far.each other)
          ∙ one_more (eq_by_cmp ip_order other source) (has ip_order old other) (has ip_order done other)
          ∙ sym (ap (λ (test : Bool). keeps (has ip_order old other) test) (has-append ip_order done (source ∷ []) other));
    })

pub union_held : (old done held : List Ip) → IsHeld put_in old done held → held ≡ union ip_order old done
union_held old done held all =
    same_ascending ip_order-total ip_order-exact held (union ip_order old done) all.ascends (IsAscending-ascending ip_order-total (old ++ done))
    (λ source. all.each source ∙ sym (has-union ip_order-total old done source))

pub difference_held : (old done held : List Ip) → IsAscending ip_order old → IsHeld taken_out old done held → held ≡ difference ip_order old done
difference_held old done held ascends all =
    same_ascending ip_order-total ip_order-exact held (difference ip_order old done) all.ascends (IsAscending-filter ip_order (λ source. not (has ip_order done source)) old ascends)
    (λ source. all.each source ∙ sym (has-difference ip_order-exact old done source))

abbrev pub listing : Mode → List Ip → FilterValue
listing mode sources = record { mode = mode; sources = sources }

-- the different sources of a list that ascends are the list
pub ascending_listed : (mode : Mode) (listed keys : List Ip) → listed ≡ keys → IsAscending ip_order keys → listing mode (ascending_sources listed) ≡ listing mode keys
ascending_listed mode listed keys same ascends = ap (listing mode) (ap ascending_sources same ∙ ascending-fixed ip_order-total ip_order-exact keys ascends)
