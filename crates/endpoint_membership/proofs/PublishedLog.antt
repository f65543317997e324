-- The published log tells what the accepted one does.
use Rattle.std.proofs.{Common.{◌≡◌, ℕ, ◌≤◌, ◌<◌, ◌⊎◌, max, zero, suc, not, Bool, true, false, List, [], ◌∷◌, ◌++◌, reverse, take, map, None, refl, sym, ap, subst, ◌∙◌, arith, inl, inr, append-nil}, lemmas.{List.{append_assoc, reverse-append, reverse-reverse}}}
use Rattle.amt_values.{specs.{declared.address.Ip.{Ip, TheVariants.{V4}}, EndpointValue.{EndpointValue}}, proofs.{Orders.{endpoint_order-exact, endpoint_order-total}, AscendingLaws.{same_ascending}}}
use Rattle.endpoint_membership.specs.{Admission.{is_admitted}, EndpointGroup.{EndpointGroup}, Log.{latest}, Memberships.{is_live, membership_at, memberships_at, row_of}}
use Rattle.endpoint_membership.specs.{Published.{AnswerAlike, ClearingsLetNoTimePass, IsPublishedPart, clears_nothing, published_back, published_of, with_published}, Targets.{targets_of}, declared.change.Change.{Change, TheVariants.{Reported, Clear, Mark}}}
use Rattle.endpoint_membership.proofs.{Clearings.{AreAlike, alike_all, alike_cleared, at_group, reverse-around, unseen}, HoldsAfter.{latest-reverse, reverse-push}, MembershipAt.{admits-membership_at, membership_at-other}, MembershipsByLog.{AreMembershipsAt-memberships_at, rows_are}, TargetsByLog.{IsAscending-targets_of, admitted_later, has-targets_of}}

-- logs turned round in which every pair has the same membership from now on
abbrev AllAlike : ℕ → List Change → List Change → Type 0
AllAlike lifetime one other = (endpoint_group : EndpointGroup) → AreAlike lifetime endpoint_group one other

alike_both : (lifetime : ℕ) (one middle other : List Change) → AllAlike lifetime one middle → AllAlike lifetime middle other → AllAlike lifetime one other
alike_both lifetime one middle other first second endpoint_group =
    let before = first endpoint_group in
    let after = second endpoint_group in
    (before.0 ∙ after.0, λ moment onward. before.1 moment onward ∙ after.1 moment (subst (λ (at : ℕ). at ≤ moment) before.0 onward))

alike_back : (lifetime : ℕ) (one other : List Change) → AllAlike lifetime one other → AllAlike lifetime other one
alike_back lifetime one other alike endpoint_group =
    let same = alike endpoint_group in
    (sym same.0, λ moment onward. sym (same.1 moment (subst (λ (at : ℕ). at ≤ moment) (sym same.0) onward)))

-- a mark that lets no time pass
alike_marked : (lifetime at : ℕ) (past : List Change) → at ≤ latest past → AllAlike lifetime (Mark at ∷ past) past
alike_marked lifetime at past before endpoint_group =
    (omega arith, λ moment onward. membership_at-other lifetime moment (Mark at) past endpoint_group refl)

-- a clearing of an endpoint that isn't live, which lets no time pass
alike_idle : (lifetime : ℕ) (endpoint : EndpointValue) (at : ℕ) (log : List Change) → at ≤ latest log
    → is_live endpoint (memberships_at lifetime (max at (latest log)) log) ≡ false → AllAlike lifetime (Clear endpoint at ∷ reverse log) (reverse log)
alike_idle lifetime endpoint at log before none =
    let turned = latest-reverse log in
    let rows = memberships_at lifetime (max at (latest log)) log in
    let each = AreMembershipsAt-memberships_at lifetime (max at (latest log)) log in
    let without : (group : Ip) → membership_at lifetime (max at (latest (reverse log))) (reverse log) (at_group endpoint group) ≡ None =
    λ group. ap (λ (later : ℕ). membership_at lifetime (max at later) (reverse log) (at_group endpoint group)) turned
    ∙ sym (each.each (at_group endpoint group)) ∙ unseen endpoint group rows none in
    alike_both lifetime (Clear endpoint at ∷ reverse log) (Mark at ∷ reverse log) (reverse log)
    (λ endpoint_group. alike_cleared lifetime endpoint_group endpoint at (reverse log) without)
    (alike_marked lifetime at (reverse log) (omega arith))

alike_newer : (lifetime : ℕ) (one other newer : List Change) → 0 < lifetime → AllAlike lifetime one other → AllAlike lifetime (newer ++ one) (newer ++ other)
alike_newer lifetime one other newer some alike endpoint_group = alike_all lifetime endpoint_group one other newer some (alike endpoint_group)

-- what logs tell that are alike turned round

same_found : (lifetime : ℕ) (one other : List Change) (endpoint_group : EndpointGroup) (source : Ip) (moment : ℕ) → latest one ≤ moment → latest other ≤ moment
    → membership_at lifetime moment (reverse one) endpoint_group ≡ membership_at lifetime moment (reverse other) endpoint_group
    → is_admitted lifetime one endpoint_group source moment ≡ is_admitted lifetime other endpoint_group source moment
same_found lifetime one other endpoint_group source moment after_one after_other same =
    let found = membership_at lifetime moment (reverse other) endpoint_group in
    sym (admits-membership_at lifetime one endpoint_group source moment found after_one same)
    ∙ admits-membership_at lifetime other endpoint_group source moment found after_other refl

same_admitted : (lifetime : ℕ) (one other : List Change) → latest one ≡ latest other → AllAlike lifetime (reverse one) (reverse other)
    → (endpoint_group : EndpointGroup) (source : Ip) (moment : ℕ) → is_admitted lifetime one endpoint_group source moment ≡ is_admitted lifetime other endpoint_group source moment
same_admitted lifetime one other same alike endpoint_group source moment =
    let turned = latest-reverse one in
    let later = max moment (latest other) in
    sym (ap (λ (now : ℕ). is_admitted lifetime one endpoint_group source (max moment now)) (sym same) ∙ admitted_later lifetime one endpoint_group source moment)
    ∙ same_found lifetime one other endpoint_group source later (omega arith) (omega arith) ((alike endpoint_group).1 later (omega arith))
    ∙ admitted_later lifetime other endpoint_group source moment

same_memberships : (lifetime : ℕ) (one other : List Change) → latest one ≡ latest other → AllAlike lifetime (reverse one) (reverse other)
    → (moment : ℕ) → latest other ≤ moment → memberships_at lifetime moment one ≡ memberships_at lifetime moment other
same_memberships lifetime one other same alike moment onward =
    let turned = latest-reverse one in
    let before = AreMembershipsAt-memberships_at lifetime moment one in
    rows_are lifetime moment other (memberships_at lifetime moment one) (record {
      ascend = before.ascend;
      each = λ endpoint_group. before.each endpoint_group ∙ (alike endpoint_group).1 moment (omega arith);
    })

AnswerAlike-turned : (lifetime : ℕ) (one other : List Change) → AllAlike lifetime (reverse one) (reverse other) → AnswerAlike lifetime one other
AnswerAlike-turned lifetime one other alike =
    let any : EndpointGroup = at_group (record { address = 0; port = 0 }) (V4 0) in
    let same : latest one ≡ latest other = sym (latest-reverse one) ∙ (alike any).0 ∙ latest-reverse other in
    let admitted = same_admitted lifetime one other same alike in
    let memberships = same_memberships lifetime one other same alike in record {
      same_moment = same;
      admitted = admitted;
      targets = λ group source moment. same_ascending endpoint_order-total endpoint_order-exact (targets_of lifetime one group source moment) (targets_of lifetime other group source moment)
          (IsAscending-targets_of lifetime one group source moment) (IsAscending-targets_of lifetime other group source moment)
          (λ endpoint. has-targets_of lifetime one group source moment endpoint ∙ admitted (at_group endpoint group) source moment ∙ sym (has-targets_of lifetime other group source moment endpoint));
      memberships = memberships;
      rows = λ moment onward. ap (map row_of) (memberships moment onward);
    }

-- a log that is cut at a clearing, which may be left out
pub left_out : (lifetime : ℕ) (log later : List Change) (endpoint : EndpointValue) (at : ℕ) → 0 < lifetime → at ≤ latest log
    → is_live endpoint (memberships_at lifetime (latest log) log) ≡ false → AnswerAlike lifetime (log ++ later) (log ++ Clear endpoint at ∷ later)
left_out lifetime log later endpoint at some before none =
    let now : max at (latest log) ≡ latest log = omega arith in
    let here : is_live endpoint (memberships_at lifetime (max at (latest log)) log) ≡ false =
    subst (λ (moment : ℕ). is_live endpoint (memberships_at lifetime moment log) ≡ false) (sym now) none in
    let idle = alike_idle lifetime endpoint at log before here in
    let without = alike_newer lifetime (reverse log) (Clear endpoint at ∷ reverse log) (reverse later) some (alike_back lifetime (Clear endpoint at ∷ reverse log) (reverse log) idle) in
    AnswerAlike-turned lifetime (log ++ later) (log ++ Clear endpoint at ∷ later)
    (subst (λ (past : List Change). AllAlike lifetime past (reverse (log ++ Clear endpoint at ∷ later))) (sym (reverse-append log later))
    (subst (AllAlike lifetime (reverse later ++ reverse log)) (sym (reverse-around log later (Clear endpoint at))) without))

-- the published log grows with the accepted one

pub published-next : (lifetime : ℕ) (log : List Change) (entry : Change)
    → published_of lifetime (log ++ entry ∷ []) ≡ with_published (clears_nothing lifetime log entry) (published_of lifetime log) entry
unfolding published_back
published-next lifetime log entry =
    ap (published_back lifetime) (reverse-push log entry)
    ∙ ap (λ (before : List Change). with_published (clears_nothing lifetime before entry) (published_of lifetime log) entry) (reverse-reverse log)

pub published-none : (lifetime : ℕ) → published_of lifetime [] ≡ []
unfolding published_back
published-none lifetime = refl

-- what is said of a log holds of it without its newest entry
timely_before : (log : List Change) (entry : Change) → ClearingsLetNoTimePass (log ++ entry ∷ []) → ClearingsLetNoTimePass log
timely_before log entry timely before after endpoint at is =
    timely before (after ++ entry ∷ []) endpoint at (ap (λ (all : List Change). all ++ entry ∷ []) is ∙ append_assoc before (Clear endpoint at ∷ after) (entry ∷ []))

live_again : (live : Bool) → not live ≡ true → live ≡ false
live_again true is = cc
live_again false is = refl

-- an entry that clears nothing may be left out
idle_entry : (lifetime : ℕ) (log : List Change) (entry : Change) → ClearingsLetNoTimePass (log ++ entry ∷ []) → clears_nothing lifetime log entry ≡ true
    → AllAlike lifetime (reverse log) (entry ∷ reverse log)
idle_entry lifetime log (Reported endpoint records at) timely is = cc
idle_entry lifetime log (Mark at) timely is = cc
idle_entry lifetime log (Clear endpoint at) timely is =
    alike_back lifetime (Clear endpoint at ∷ reverse log) (reverse log)
    (alike_idle lifetime endpoint at log (timely log [] endpoint at refl) (live_again (is_live endpoint (memberships_at lifetime (max at (latest log)) log)) is))

next_alike : (lifetime : ℕ) (log published : List Change) (entry : Change) (idle : Bool) → 0 < lifetime → ClearingsLetNoTimePass (log ++ entry ∷ [])
    → clears_nothing lifetime log entry ≡ idle → AllAlike lifetime (reverse published) (reverse log)
    → AllAlike lifetime (reverse (with_published idle published entry)) (entry ∷ reverse log)
next_alike lifetime log published entry true some timely is alike =
    alike_both lifetime (reverse published) (reverse log) (entry ∷ reverse log) alike (idle_entry lifetime log entry timely is)
next_alike lifetime log published entry false some timely is alike =
    subst (λ (past : List Change). AllAlike lifetime past (entry ∷ reverse log)) (sym (reverse-push published entry))
    (alike_newer lifetime (reverse published) (reverse log) (entry ∷ []) some alike)

-- by a log of which the newest entry comes first
alike_published : (lifetime : ℕ) (past : List Change) → 0 < lifetime → ClearingsLetNoTimePass (reverse past) → AllAlike lifetime (reverse (published_back lifetime past)) past
unfolding published_back
alike_published lifetime [] some timely = λ endpoint_group. (refl, λ moment onward. refl)
alike_published lifetime (entry ∷ older) some timely =
    let log = reverse older in
    let turned : reverse (entry ∷ older) ≡ log ++ entry ∷ [] = reverse-append (entry ∷ []) older in
    let here = subst ClearingsLetNoTimePass turned timely in
    let alike = alike_published lifetime older some (timely_before log entry here) in
    let published = published_back lifetime older in
    subst (λ (past : List Change). AllAlike lifetime (reverse (with_published (clears_nothing lifetime log entry) published entry)) (entry ∷ past)) (reverse-reverse older)
    (next_alike lifetime log published entry (clears_nothing lifetime log entry) some here refl
    (subst (AllAlike lifetime (reverse published)) (sym (reverse-reverse older)) alike))

pub AnswerAlike-published : (lifetime : ℕ) (log : List Change) → 0 < lifetime → ClearingsLetNoTimePass log → AnswerAlike lifetime (published_of lifetime log) log
AnswerAlike-published lifetime log some timely =
    AnswerAlike-turned lifetime (published_of lifetime log) log
    (alike_published lifetime (reverse log) some (subst ClearingsLetNoTimePass (sym (reverse-reverse log)) timely))

-- a prefix of the published log is the published log of a prefix

abbrev IsOfPrefix : ℕ → List Change → List Change → Type 0
IsOfPrefix lifetime log some = (accepted rest : List Change) × (log ≡ accepted ++ rest) × (some ≡ published_of lifetime accepted)

take_none : (number : ℕ) → take {A = Change} number [] ≡ []
take_none zero = refl
take_none (suc number) = refl

take_last : (number : ℕ) (entries : List Change) (entry : Change)
    → (take number (entries ++ entry ∷ []) ≡ take number entries) ⊎ (take number (entries ++ entry ∷ []) ≡ entries ++ entry ∷ [])
take_last zero entries entry = inl refl
take_last (suc number) [] entry = inr (ap (λ (rest : List Change). entry ∷ rest) (take_none number))
take_last (suc number) (first ∷ entries) entry = elim (take_last number entries entry) [
  | inl same ↦ inl (ap (λ (rest : List Change). first ∷ rest) same)
  | inr whole ↦ inr (ap (λ (rest : List Change). first ∷ rest) whole)
]

longer_log : (lifetime : ℕ) (log some : List Change) (entry : Change) → IsOfPrefix lifetime log some → IsOfPrefix lifetime (log ++ entry ∷ []) some
longer_log lifetime log some entry is =
    (is.0, is.1 ++ entry ∷ [], ap (λ (all : List Change). all ++ entry ∷ []) is.2 ∙ append_assoc is.0 is.1 (entry ∷ []), is.3)

next_prefix : (lifetime : ℕ) (log published : List Change) (entry : Change) (idle : Bool) (number : ℕ)
    → published_of lifetime (log ++ entry ∷ []) ≡ with_published idle published entry → IsOfPrefix lifetime log (take number published)
    → IsOfPrefix lifetime (log ++ entry ∷ []) (take number (with_published idle published entry))
next_prefix lifetime log published entry true number next is = longer_log lifetime log (take number published) entry is
next_prefix lifetime log published entry false number next is = elim (take_last number published entry) [
  | inl same ↦ longer_log lifetime log (take number (published ++ entry ∷ [])) entry (is.0, is.1, is.2, same ∙ is.3)
  | inr whole ↦ (log ++ entry ∷ [], [], sym (append-nil (log ++ entry ∷ [])), whole ∙ sym next)
]

prefix_back : (lifetime : ℕ) (past : List Change) (number : ℕ) → IsOfPrefix lifetime (reverse past) (take number (published_back lifetime past))
unfolding published_back
prefix_back lifetime [] number = ([], [], refl, take_none number)
prefix_back lifetime (entry ∷ older) number =
    let log = reverse older in
    let published = published_back lifetime older in
    let next = published-next lifetime log entry
    ∙ ap (λ (before : List Change). with_published (clears_nothing lifetime log entry) (published_back lifetime before) entry) (reverse-reverse older) in
    subst (λ (all : List Change). IsOfPrefix lifetime all (take number (with_published (clears_nothing lifetime log entry) published entry))) (sym (reverse-append (entry ∷ []) older))
    (next_prefix lifetime log published entry (clears_nothing lifetime log entry) number next (prefix_back lifetime older number))

prefix_is : (lifetime : ℕ) (log : List Change) (number : ℕ) → IsOfPrefix lifetime log (take number (published_of lifetime log))
prefix_is lifetime log number =
    subst (λ (all : List Change). IsOfPrefix lifetime all (take number (published_of lifetime log))) (reverse-reverse log) (prefix_back lifetime (reverse log) number)

timely_prefix : (log accepted rest : List Change) → log ≡ accepted ++ rest → ClearingsLetNoTimePass log → ClearingsLetNoTimePass accepted
timely_prefix log accepted rest is timely before after endpoint at cut =
    timely before (after ++ rest) endpoint at (is ∙ ap (λ (all : List Change). all ++ rest) cut ∙ append_assoc before (Clear endpoint at ∷ after) rest)

pub IsPublishedPart-prefix : (lifetime : ℕ) (log : List Change) (number : ℕ) → 0 < lifetime → ClearingsLetNoTimePass log
    → IsPublishedPart lifetime (take number (published_of lifetime log)) log
IsPublishedPart-prefix lifetime log number some timely =
    let is = prefix_is lifetime log number in record {
      accepted = is.0;
      rest = is.1;
      begins = is.2;
      published = is.3;
      tells = subst (λ (part : List Change). AnswerAlike lifetime part is.0) (sym is.3)
          (AnswerAlike-published lifetime is.0 some (timely_prefix log is.0 is.1 is.2 timely));
    }
