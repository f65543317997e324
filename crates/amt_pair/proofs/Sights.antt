-- A course as it is seen of one gateway: which datagrams are its own, and what it sees of the accepted log. Gateways of a
-- pair differ in their peers, and each sees the whole log; two machines of one peer see what is of their family.
use Rattle.std.proofs.{Common.{◌≡◌, ℕ, max, Bool, not, if◌then◌else◌, ltb, ◌+◌, List, [], ◌∷◌, ◌++◌, map, Option, None, ◌⊎◌, inl, inr, refl, ap, ap₂, ◌∙◌}}
use Rattle.amt_values.specs.{EndpointValue.{EndpointValue}, declared.peer.Peer.{Peer}}
use Rattle.source_filter.specs.declared.record.Record.{Record}
use Rattle.endpoint_membership.specs.{EndpointGroup.{EndpointGroup}, Log.{brought, concerns, is_empty, latest, live_chain, records_at}, declared.change.Change.{Change, TheVariants.{Mark}}}
use Rattle.gateway_machine.specs.Answers.{same_peer}
use Rattle.amt_pair.specs.{Entries.{is_change_of}, Schedule.{Entry, Upward, upward_of}, Sent.{Sent, SentReport, report_of}, Setup.{Host}}

-- which hosts and which datagrams are the gateway's, and how it sees an entry of the log: as it is, or as a mark of its moment
pub record Sight : Type 0 where
  pub is_own : Host → Bool
  pub is_from : Upward → Bool
  pub seen : Change → Change
  pub own_sends : (host : Host) (sent : Sent) → is_from (upward_of host sent) ≡ is_own host
  pub stays : (change : Change) → (seen change ≡ change) ⊎ (seen change ≡ Mark (brought change))

-- the gateway that is alone at its peer
abbrev pub alone_at : Peer → Sight
alone_at peer = record {
  is_own = λ host. same_peer peer host.peer;
  is_from = λ upward. same_peer peer upward.from;
  seen = λ change. change;
  own_sends = λ host sent. refl;
  stays = λ change. inl refl;
}

-- the report in a datagram of the gateway
abbrev pub report_seen : Sight → Upward → Option SentReport
report_seen sight upward = if sight.is_from upward then report_of upward.sent else None

-- the entry is one of the endpoint, as the gateway sees it
abbrev pub is_seen_of : Sight → EndpointValue → Entry → Bool
is_seen_of sight endpoint entry = is_change_of endpoint (sight.seen entry.change)

-- what is seen of the group is all of it
abbrev pub ShowsGroup : Sight → EndpointGroup → Type 0
ShowsGroup sight endpoint_group = (change : Change) → records_at endpoint_group (sight.seen change) ≡ records_at endpoint_group change

module _ (sight : Sight) where
  brought-by : (change seen : Change) → (seen ≡ change) ⊎ (seen ≡ Mark (brought change)) → brought seen ≡ brought change
  brought-by change seen (inl same) = ap brought same
  brought-by change seen (inr mark) = ap brought mark

  -- moments are as they are
  pub brought-seen : (change : Change) → brought (sight.seen change) ≡ brought change
  brought-seen change = brought-by change (sight.seen change) (sight.stays change)

  pub latest-seen : (log : List Change) → latest (map sight.seen log) ≡ latest log
  latest-seen [] = refl
  latest-seen (change ∷ log) = ap₂ max (brought-seen change) (latest-seen log)

  -- so what counts of the group is what is seen of it
  pub chain-seen : (endpoint_group : EndpointGroup) → ShowsGroup sight endpoint_group → (lifetime moment : ℕ) (past : List Change)
      → live_chain lifetime endpoint_group moment (map sight.seen past) ≡ live_chain lifetime endpoint_group moment past
  chain-seen endpoint_group shows lifetime moment [] = refl
  chain-seen endpoint_group shows lifetime moment (entry ∷ older) =
      let at = latest-seen (entry ∷ older) in
      let counted : (records : List Record) (here : ℕ) → List Record =
      λ records here. if not (is_empty records)
      then (if ltb moment (here + lifetime) then records ++ live_chain lifetime endpoint_group here (map sight.seen older) else [])
      else live_chain lifetime endpoint_group moment (map sight.seen older) in
      ap₂ counted (shows entry) at
      ∙ (λ i. if concerns endpoint_group entry
      then (if ltb moment (latest (entry ∷ older) + lifetime)
      then records_at endpoint_group entry ++ chain-seen endpoint_group shows lifetime (latest (entry ∷ older)) older i else [])
      else chain-seen endpoint_group shows lifetime moment older i)
