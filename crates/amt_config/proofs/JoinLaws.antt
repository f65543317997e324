-- The tables of joins have one list of joins, or one first fault.
use Rattle.std.proofs.Common.{◌≡◌, ◌⊎◌, ℕ, true, List, [], ◌∷◌, Option, Some, codes, inl, inr, sym, subst, ap, ◌∙◌}
use Rattle.amt_values.specs.declared.address.Ip.{Ip}
use Rattle.group_records.specs.declared.family.Family.{Family}
use Rattle.source_filter.specs.Filter.{ascending_sources}
use Rattle.script_lines.specs.{Form.{IsGroupText, IsModeText, IsNameText, a_group, a_mode, a_name, an_address_of}}
use Rattle.script_lines.specs.declared.reason.Reason.TheVariants as reasons
use Rattle.socket_merge.specs.History.{AcceptedCall}
use Rattle.gateway_script.{specs.Says.{AreAddressTexts}, proofs.Fields.{AreAddressTexts-unique, IsAddressText-unique, IsModeText-unique, IsNameText-unique, addresses_fit}}
use Rattle.toml.specs.Data.{Members}
use Rattle.amt_config.specs.{declared.{config.Join.{Join}, fault.{ConfigFault.{ConfigFault, TheVariants.{Memory}}, KeyFault.TheVariants.{Address}}}, Arrays.{as_texts}, Join.{AreJoins, AreListed, FailsInJoins, HasSources, IsJoinFault, JoinOf, MayOpen, in_join, join_keys, with_join}, Key.{IsRight, IsSomeUnfit, read_at, required, some_texts}, Reading.{MayFail}, Table.{told}}
use Rattle.amt_config.proofs.{Exactness.{config_or_fault, one_fault}, Faults.{AreRight, also, fails_unfit, may_fail, right_by}, Values.{one_read, right_text, same_text}}

IsGroupText-unique : (family : Option Family) (one other : Ip) (text : List ℕ) → IsGroupText family one text → IsGroupText family other text → one ≡ other
IsGroupText-unique family one other text h k = IsAddressText-unique family one other text h.0 k.0

same_sources : (family : Option Family) (table : Members) (one other : List Ip) → HasSources family table one → HasSources family table other → one ≡ other
same_sources family table one other h k =
    let texts = one_read (read_at as_texts (codes "sources") table) h.are.texts k.are.texts h.are.there k.are.there in
    let listed = AreAddressTexts-unique family h.listed k.listed k.are.texts (subst (AreAddressTexts family h.listed) texts h.are.addresses) k.are.addresses in
    h.ascend ∙ (ap ascending_sources listed ∙ sym k.ascend)

one_join : (family : Option Family) (table : Members) (one other : Join) → JoinOf family table one → JoinOf family table other → one ≡ other
one_join family table one other h k =
    let name = same_text IsNameText IsNameText-unique (codes "name") table one.name other.name h.name k.name in
    let group = same_text (IsGroupText family) (IsGroupText-unique family) (codes "group") table one.group other.group h.group k.group in
    let mode = same_text IsModeText IsModeText-unique (codes "mode") table one.filter.mode other.filter.mode h.mode k.mode in
    let sources = same_sources family table one.filter.sources other.filter.sources h.sources k.sources in
    λ i. record { name = name i; group = group i; filter = record { mode = mode i; sources = sources i } }

pub right_sources : (family : Option Family) (table : Members) (listed : List Ip) → AreListed family table listed
    → IsRight table (required (codes "sources") (some_texts (an_address_of family)))
right_sources family table listed h =
    right_by as_texts (IsSomeUnfit (an_address_of family)) Address (required (codes "sources") (some_texts (an_address_of family))) table (λ value fault h. h)
    h.texts h.there (λ fails. addresses_fit family listed h.texts h.addresses reasons.Address fails)

pub bad_sources : (family : Option Family) (table : Members) (texts : List (List ℕ)) (fault : ConfigFault) → read_at as_texts (codes "sources") table ≡ Some texts
    → (IsSomeUnfit (an_address_of family) texts × (fault ≡ told (codes "sources") Address)) ⊎ (fault ≡ Memory)
    → MayFail table (required (codes "sources") (some_texts (an_address_of family))) fault
bad_sources family table texts fault there (inl bad) =
    let key = required (codes "sources") (some_texts (an_address_of family)) in
    may_fail table key Address fault (fails_unfit as_texts (IsSomeUnfit (an_address_of family)) Address key table (λ value fault h. h) texts there bad.0) (inl bad.1)
bad_sources family table texts fault there (inr memory) = record { is = inr memory }

right_join : (family : Option Family) (table : Members) (join : Join) → JoinOf family table join → AreRight table (join_keys family)
right_join family table join h =
    also (right_text a_name (IsNameText join.name) (λ text names fails. fails names.1) (codes "name") table true h.name)
    (also (right_text (a_group family) (IsGroupText family join.group) (λ text names fails. fails join.group names) (codes "group") table true h.group)
    (also (right_text a_mode (IsModeText join.filter.mode) (λ text names fails. fails join.filter.mode names) (codes "mode") table true h.mode)
    (also (right_sources family table h.sources.listed h.sources.are) tt)))

module _ (family : Option Family) where
  join_or_fault : (table : Members) (join : Join) (fault : ConfigFault) → JoinOf family table join → IsJoinFault family table fault → ⊥
  join_or_fault table join fault h k =
      config_or_fault (λ table. join_keys family) (λ table fault. ⊥) (JoinOf family) (λ table join of. of.known) (right_join family) (one_join family)
      (λ table one other h k. absurd h) (λ table config fault of h. h) table join k.inner h k.first

  one_join_fault : (table : Members) (one other : ConfigFault) → IsJoinFault family table one → IsJoinFault family table other → one ≡ other
  one_join_fault table one other h k =
      h.is
      ∙ (ap in_join (one_fault (λ table. join_keys family) (λ table fault. ⊥) (JoinOf family) (λ table join of. of.known) (right_join family) (one_join family)
      (λ table one other h k. absurd h) (λ table config fault of h. h) table h.inner k.inner h.first k.first) ∙ sym k.is)

-- the joins of tables are one list
pub same_joins : (family : Option Family) (history : List AcceptedCall) (tables : List Members) (one other : List Join)
    → AreJoins family history tables one → AreJoins family history tables other → one ≡ other
same_joins family history [] one other h k = h ∙ sym k
same_joins family history (table ∷ tables) one other (a, joins_a, parts, of, may, rest) (b, joins_b, parts', of', may', rest') =
    let same = one_join family table a b of of' in
    let later = same_joins family (with_join a history) tables joins_a joins_b rest
    (subst (λ (j : Join). AreJoins family (with_join j history) tables joins_b) (sym same) rest') in
    parts ∙ ((λ i. same i ∷ later i) ∙ sym parts')

-- tables that are joins have no fault
pub joins_or_fault : (family : Option Family) (history : List AcceptedCall) (tables : List Members) (joins : List Join) (fault : ConfigFault)
    → AreJoins family history tables joins → FailsInJoins family history tables fault → ⊥
joins_or_fault family history [] joins fault h k = k
joins_or_fault family history (table ∷ tables) joins fault (a, joins_a, parts, of, may, rest) (inl own) = join_or_fault family table a fault of own
joins_or_fault family history (table ∷ tables) joins fault (a, joins_a, parts, of, may, rest) (inr (b, of', inl refused)) =
    refused.0 (subst (MayOpen history) (one_join family table a b of of') may)
joins_or_fault family history (table ∷ tables) joins fault (a, joins_a, parts, of, may, rest) (inr (b, of', inr later)) =
    joins_or_fault family (with_join b history) tables joins_a fault
    (subst (λ (j : Join). AreJoins family (with_join j history) tables joins_a) (one_join family table a b of of') rest) later.1

-- tables have one first fault
pub one_fault_in_joins : (family : Option Family) (history : List AcceptedCall) (tables : List Members) (one other : ConfigFault)
    → FailsInJoins family history tables one → FailsInJoins family history tables other → one ≡ other
one_fault_in_joins family history [] one other h k = absurd h
one_fault_in_joins family history (table ∷ tables) one other (inl h) (inl k) = one_join_fault family table one other h k
one_fault_in_joins family history (table ∷ tables) one other (inl h) (inr (b, of, k)) = absurd (join_or_fault family table b one of h)
one_fault_in_joins family history (table ∷ tables) one other (inr (a, of, h)) (inl k) = absurd (join_or_fault family table a other of k)
one_fault_in_joins family history (table ∷ tables) one other (inr (a, of, inl h)) (inr (b, of', inl k)) = h.1 ∙ sym k.1
one_fault_in_joins family history (table ∷ tables) one other (inr (a, of, inl h)) (inr (b, of', inr k)) =
    absurd (h.0 (subst (MayOpen history) (sym (one_join family table a b of of')) k.0))
one_fault_in_joins family history (table ∷ tables) one other (inr (a, of, inr h)) (inr (b, of', inl k)) =
    absurd (k.0 (subst (MayOpen history) (one_join family table a b of of') h.0))
one_fault_in_joins family history (table ∷ tables) one other (inr (a, of, inr h)) (inr (b, of', inr k)) =
    one_fault_in_joins family (with_join a history) tables one other h.1
    (subst (λ (j : Join). FailsInJoins family (with_join j history) tables other) (sym (one_join family table a b of of')) k.1)
