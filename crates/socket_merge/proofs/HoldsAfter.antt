-- What is kept of the moments when groups were left, and what a call makes of it.
use Rattle.std.proofs.{Common.{◌≡◌, ℕ, ◌+◌, ◌≤◌, ◌<◌, max, min, Bool, true, false, cond, leb, List, [], ◌∷◌, map, Option, Some, None, refl, sym, ap, subst, ◌∙◌, arith}, lemmas.Bool.{le-ltb, lt-leb, leb-false, leb-true}}
use Rattle.std.specs.List.{list_any}
use Rattle.amt_values.specs.declared.address.Ip.{Ip}
use Rattle.source_filter.specs.Filter.{wants_any}
use Rattle.socket_merge.specs.{History.{AcceptedCall, Socket, SocketCall, latest, open_sockets}, Interface.{filters_on, is_wanted, left_at, on_group, same_group}, FullReport.{is_recent, longest_farewell}, Kept.{left_after, left_fresh}, Refusal.{may_be_due}, Sockets.{IsKept}}
use Rattle.socket_merge.proofs.{Amounts.{some_is}, ByGroup.{same_group-turned}, Wanted.{same_group-exact, wants_any-merged}}

-- the next call, as it is read
abbrev pub read_at : ℕ → SocketCall → List AcceptedCall → AcceptedCall
read_at at call history = record { moment = max (latest history) at; call = call }

older_by : (test : Bool) (at moment : ℕ) → leb at (moment + longest_farewell) ≡ test → (at ≤ moment + longest_farewell → ⊥) → moment + longest_farewell < at
older_by true at moment is recent = absurd (recent (leb-true at (moment + longest_farewell) is))
older_by false at moment is recent = leb-false at (moment + longest_farewell) is

-- a farewell that isn't kept is too old
too_old : (at moment : ℕ) → IsKept (Some moment) at None → moment + longest_farewell < at
too_old at moment is = older_by (leb at (moment + longest_farewell)) at moment refl (λ recent. let some = is.there moment refl recent in absurd cc)

-- what is kept is due where the farewell is
pub may_be_due-kept : (left kept : Option ℕ) (at now : ℕ) → IsKept left at kept → at ≤ now → may_be_due now kept ≡ may_be_due now left
may_be_due-kept None None at now is onward = refl
may_be_due-kept None (Some moment) at now is onward = let some = is.of_history moment refl in absurd cc
may_be_due-kept (Some moment) None at now is onward = let old = too_old at moment is in sym (lt-leb now (moment + longest_farewell) (omega arith))
may_be_due-kept (Some moment) (Some other) at now is onward = ap (may_be_due now) (sym (is.of_history other refl))

-- and lasts so long
pub is_recent-kept : (left kept : Option ℕ) (at now keep : ℕ) → IsKept left at kept → at ≤ now → is_recent now keep kept ≡ is_recent now keep left
is_recent-kept None None at now keep is onward = refl
is_recent-kept None (Some moment) at now keep is onward = let some = is.of_history moment refl in absurd cc
is_recent-kept (Some moment) None at now keep is onward = let old = too_old at moment is in sym (le-ltb now (moment + min keep longest_farewell) (omega arith))
is_recent-kept (Some moment) (Some other) at now keep is onward = ap (is_recent now keep) (sym (is.of_history other refl))

-- ---- after a call

-- what is kept of all groups stands for a history
abbrev pub Stands : List AcceptedCall → (Ip → Option ℕ) → Type 0
Stands history left = (group : Ip) → IsKept (left_at history group) (latest history) (left group)

kept_by : (wanted before : Bool) (at moment : ℕ) (left kept : Option ℕ) → at ≤ moment → IsKept left at kept
    → IsKept (cond wanted None (cond before (Some moment) left)) moment (left_after wanted before moment kept)
kept_by true before at moment left kept onward is = record { of_history = λ one same. same; there = λ one same recent. same }
kept_by false true at moment left kept onward is = record { of_history = λ one same. same; there = λ one same recent. same }
kept_by false false at moment left kept onward is = record { of_history = is.of_history; there = λ one same recent. is.there one same (omega arith) }

-- each group's farewell begins, ends and stays by the call
abbrev pub AreFollowed : AcceptedCall → List AcceptedCall → (Ip → Option ℕ) → (Ip → Option ℕ) → Type 0
AreFollowed newest history before after = (group : Ip) → after group ≡ left_after (is_wanted (newest ∷ history) group) (is_wanted history group) newest.moment (before group)

pub Stands-next : (newest : AcceptedCall) (history : List AcceptedCall) (before after : Ip → Option ℕ) → latest history ≤ newest.moment → Stands history before → AreFollowed newest history before after
    → Stands (newest ∷ history) after
Stands-next newest history before after onward stands follow group =
    subst (IsKept (left_at (newest ∷ history) group) newest.moment) (sym (follow group))
    (kept_by (is_wanted (newest ∷ history) group) (is_wanted history group) (latest history) newest.moment (left_at history group) (before group) onward (stands group))

wanted_by : (wanted before : Bool) (moment left : ℕ) (earlier kept : Option ℕ) → (kept ≡ Some left → cond wanted None (cond before (Some moment) earlier) ≡ Some left) → wanted ≡ true → kept ≡ Some left → ⊥
wanted_by true before moment left earlier kept is wanted same = let there = is same in cc
wanted_by false before moment left earlier kept is wanted same = cc

-- of a group that is wanted nothing is kept
pub not_both : (history : List AcceptedCall) (group : Ip) (kept : Option ℕ) (left : ℕ) → IsKept (left_at history group) (latest history) kept → is_wanted history group ≡ true → kept ≡ Some left → ⊥
not_both [] group kept left is wanted same = let there = is.of_history left same in cc
not_both (newest ∷ older) group kept left is wanted same =
    wanted_by (is_wanted (newest ∷ older) group) (is_wanted older group) newest.moment left (left_at older group) kept (is.of_history left) wanted same

stays_by : (wanted : Bool) (moment : ℕ) (kept : Option ℕ) → ((left : ℕ) → wanted ≡ true → kept ≡ Some left → ⊥) → kept ≡ left_after wanted wanted moment kept
stays_by true moment None none = refl
stays_by true moment (Some left) none = absurd (none left refl refl)
stays_by false moment kept none = refl

followed_by : (test : Bool) (moment : ℕ) (group other : Ip) (wanted before : Ip → Bool) (left : Option ℕ) (kept : Ip → Option ℕ) → (test ≡ true → group ≡ other)
    → (test ≡ false → wanted other ≡ before other) → ((one : ℕ) → before other ≡ true → kept other ≡ Some one → ⊥) → left ≡ left_after (wanted group) (before group) moment (kept group)
    → cond test left (kept other) ≡ left_after (wanted other) (before other) moment (kept other)
followed_by true moment group other wanted before left kept same others none is =
    is ∙ ap (λ (at : Ip). left_after (wanted at) (before at) moment (kept at)) (same refl)
followed_by false moment group other wanted before left kept same others none is =
    stays_by (before other) moment (kept other) none ∙ ap (λ (now : Bool). left_after now (before other) moment (kept other)) (sym (others refl))

-- a call that changes the sockets of one group
pub AreFollowed-one : (newest : AcceptedCall) (history : List AcceptedCall) (kept : Ip → Option ℕ) (group : Ip) (left : Option ℕ) → Stands history kept
    → ((other : Ip) → same_group other group ≡ false → on_group other (open_sockets (newest ∷ history)) ≡ on_group other (open_sockets history))
    → left ≡ left_after (is_wanted (newest ∷ history) group) (is_wanted history group) newest.moment (kept group)
    → AreFollowed newest history kept (λ other. cond (same_group group other) left (kept other))
AreFollowed-one newest history kept group left stands others is other =
    followed_by (same_group group other) newest.moment group other (is_wanted (newest ∷ history)) (is_wanted history) left kept (same_group-exact group other)
    (λ apart. wants_any-merged (filters_on other (open_sockets (newest ∷ history)))
    ∙ ap (λ (sockets : List Socket). list_any wants_any (map (λ (socket : Socket). socket.filter) sockets)) (others other (same_group-turned other group ∙ apart))
    ∙ sym (wants_any-merged (filters_on other (open_sockets history))))
    (λ one. not_both history other (kept other) one (stands other)) is

kept_left : (before : Bool) (moment : ℕ) (kept : Option ℕ) (left : ℕ) → (before ≡ true → kept ≡ Some left → ⊥) → kept ≡ Some left → left_after false before moment kept ≡ Some left
kept_left true moment kept left none is = absurd (none refl is)
kept_left false moment kept left none is = is

-- a farewell that is kept stays where the group isn't wanted again
pub farewell_stays : (newest : AcceptedCall) (history : List AcceptedCall) (before after : Ip → Option ℕ) → Stands history before → AreFollowed newest history before after → (group : Ip) (left : ℕ)
    → before group ≡ Some left → is_wanted (newest ∷ history) group ≡ false → after group ≡ Some left
farewell_stays newest history before after stands follow group left is unwanted =
    follow group ∙ ap (λ (wanted : Bool). left_after wanted (is_wanted history group) newest.moment (before group)) unwanted
    ∙ kept_left (is_wanted history group) newest.moment (before group) left (not_both history group (before group) left (stands group)) is

fresh_by : (test : Bool) (left : Option ℕ) (at : ℕ) (kept : Option ℕ) → may_be_due at kept ≡ test → IsKept left at kept → IsKept left at (cond test kept None)
fresh_by true left at kept due is = is
fresh_by false left at None due is = is
fresh_by false left at (Some other) due is = record {
  of_history = λ moment same. absurd cc;
  there = λ moment same recent. let some = some_is other moment (is.there moment same recent) in let old = leb-false at (other + longest_farewell) due in absurd (omega arith);
}

-- a farewell that can't be due any more may be dropped
pub Stands-fresh : (history : List AcceptedCall) (kept : Ip → Option ℕ) → Stands history kept → Stands history (λ group. left_fresh (latest history) (kept group))
Stands-fresh history kept stands group = fresh_by (may_be_due (latest history) (kept group)) (left_at history group) (latest history) (kept group) refl (stands group)
