-- The published log: what replicas are given of the accepted log. A clearing of a tunnel endpoint
-- without a membership changes no membership, then or later, so no replica needs it.
use Rattle.std.specs.Prelude.{◌≡◌, ℕ, ◌≤◌, max, not, Bool, false, List, [], ◌∷◌, ◌++◌, reverse, if◌then◌else◌}
use Rattle.amt_values.specs.{declared.address.Ip.{Ip}, EndpointValue.{EndpointValue}}
use Rattle.endpoint_membership.specs.{Admission.{is_admitted}, EndpointGroup.{EndpointGroup}, Log.{latest}, Memberships.{is_live, memberships_at, rows_of}, Targets.{targets_of}, declared.change.Change.{Change, TheVariants.{Reported, Clear, Mark}}}

-- the entry clears an endpoint that has no membership at its moment, by the log before it
abbrev pub clears_nothing : ℕ → List Change → Change → Bool
clears_nothing lifetime log (Reported endpoint records at) = false
clears_nothing lifetime log (Clear endpoint at) = not (is_live endpoint (memberships_at lifetime (max at (latest log)) log))
clears_nothing lifetime log (Mark at) = false

-- the published log with the next entry of the accepted one
abbrev pub with_published : Bool → List Change → Change → List Change
with_published without_effect published entry = if without_effect then published else published ++ entry ∷ []

-- the published log of a log of which the newest entry comes first
unfoldable pub published_back : ℕ → List Change → List Change
published_back lifetime [] = []
published_back lifetime (entry ∷ older) = with_published (clears_nothing lifetime (reverse older) entry) (published_back lifetime older) entry

-- the accepted log without each clearing of an endpoint that has no membership at its moment
abbrev pub published_of : ℕ → List Change → List Change
published_of lifetime log = published_back lifetime (reverse log)

-- Only reports and marks let time pass: no clearing is later than all entries before it.
abbrev pub ClearingsLetNoTimePass : List Change → Type 0
ClearingsLetNoTimePass log =
    (before after : List Change) (endpoint : EndpointValue) (at : ℕ) → log ≡ before ++ Clear endpoint at ∷ after → at ≤ latest before

-- Two logs are as late as each other, and tell the same: which endpoint wants which source, who gets
-- a packet, and all memberships, at their latest moment and at each one after it.
pub record AnswerAlike (lifetime : ℕ) (one other : List Change) : Type 0 where
  pub same_moment : latest one ≡ latest other
  pub admitted : (endpoint_group : EndpointGroup) (source : Ip) (moment : ℕ)
      → is_admitted lifetime one endpoint_group source moment ≡ is_admitted lifetime other endpoint_group source moment
  pub targets : (group source : Ip) (moment : ℕ) → targets_of lifetime one group source moment ≡ targets_of lifetime other group source moment
  pub memberships : (moment : ℕ) → latest other ≤ moment → memberships_at lifetime moment one ≡ memberships_at lifetime moment other
  pub rows : (moment : ℕ) → latest other ≤ moment → rows_of lifetime moment one ≡ rows_of lifetime moment other

-- This part is the published log of a prefix of the accepted log, and tells what that prefix tells.
pub record IsPublishedPart (lifetime : ℕ) (part log : List Change) : Type 0 where
  pub accepted : List Change
  pub rest : List Change
  pub begins : log ≡ accepted ++ rest
  pub published : part ≡ published_of lifetime accepted
  pub tells : AnswerAlike lifetime part accepted
