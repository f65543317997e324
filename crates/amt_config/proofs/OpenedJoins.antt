-- Joins that are opened one after another, and the first that can't be.
use Rattle.std.proofs.{Common.{◌≡◌, ◌⊎◌, ℕ, ◌≤◌, ◌<◌, true, List, [], ◌∷◌, ◌++◌, length, Option, Some, codes, inl, inr, refl, sym, subst, ap, append-nil, append_assoc, ◌∙◌, arith}, lemmas.{Bool.{ltb-false}, List.Concat.{length-flat_map}}}
use Rattle.std.{proofs.lemmas.List.{Elements.{All-cons, All-nil, All-same}, Sums.{sum_by_push}}, specs.List.{All}}
use Rattle.amt_values.{specs.{declared.address.Ip.{Ip}, Group.{is_forwardable}}, proofs.ConditionLaws.{NoneHolds-of}}
use Rattle.group_records.specs.{declared.family.Family.{Family}, Written.{is_of_family}}
use Rattle.source_filter.specs.Filter.{ascending_sources}
use Rattle.socket_merge.{specs.{History.{AcceptedCall, open_sockets}, declared.stored.Socket.{Socket}, Refusal.{conditions_of, raw_sources, refusal_of}, Sockets.{AreOfGroup, ForHistory, SocketsHold, SocketsValue}, Interface.{on_group}}, proofs.{Amounts.{listing, own_part, part, sum_by-on_group}, RawOctets.{family_is}, Wanted.{All-ascending}}}
use Rattle.gateway_script.specs.Says.{AreAddressTexts}
use Rattle.toml.specs.Data.{Members}
use Rattle.amt_config.specs.{declared.{config.Join.{Join}, fault.ConfigFault.{ConfigFault, TheVariants.{Range, Memory}}}, Join.{AreJoins, FailsInJoins, JoinOf, MayOpen, call_of, in_join, join_keys, with_join}, Reading.{IsRefusedAfter}, Table.{IsFirstFault}}

-- the sources of a join are counted among those that its group's sockets list
listed_by_group : (sockets : List Socket) (one : Socket) → length one.filter.sources ≤ length (raw_sources one.group (sockets ++ one ∷ []))
listed_by_group sockets one =
    let all = sockets ++ one ∷ [] in
    let listed = length-flat_map (λ (socket : Socket). socket.filter.sources) (on_group one.group all) in
    let by_group = sum_by-on_group listing one.group all in
    let pushed = sum_by_push (part listing one.group) sockets one in
    omega (arith, listed, by_group, pushed, own_part listing one)

-- a join with more sources than that is refused, whatever was opened before
pub more_refused : (history : List AcceptedCall) (join : Join) → 32 < length join.filter.sources → MayOpen history join → ⊥
unfolding refusal_of
more_refused history join more may =
    let each = NoneHolds-of (conditions_of 0 (call_of join) history) may in
    let few = ltb-false 32 _ each.1.0 in
    omega (arith, few, listed_by_group (open_sockets history) (record { name = join.name; group = join.group; filter = join.filter }))

pub refused_or : (history : List AcceptedCall) (join : Join) (fault : ConfigFault) → (MayOpen history join → ⊥) → (fault ≡ Range (codes "join")) ⊎ (fault ≡ Memory)
    → IsRefusedAfter history join fault
refused_or history join fault never (inl is) = inl (never, is)
refused_or history join fault never (inr memory) = inr memory

abbrev IsOf : Family → Ip → Type 0
IsOf family source = is_of_family family source ≡ true

all_of_family : (family : Family) (listed : List Ip) (texts : List (List ℕ)) → AreAddressTexts (Some family) listed texts → All (IsOf family) listed
all_of_family family [] texts are = All-nil (IsOf family)
all_of_family family (ip ∷ more) texts are = All-cons (IsOf family) ip more are.3.1 (all_of_family family more are.1 are.4)

-- the sources of a join are of its group's family
pub join_of_group : (family : Family) (table : Members) (join : Join) → JoinOf (Some family) table join → AreOfGroup join.group join.filter
join_of_group family table join h =
    let of_family : All (IsOf family) join.filter.sources =
    All-same (IsOf family) join.filter.sources (ascending_sources h.sources.listed) h.sources.ascend
    (All-ascending (IsOf family) h.sources.listed (all_of_family family h.sources.listed h.sources.are.texts h.sources.are.addresses)) in
    subst (λ (one : Family). All (IsOf one) join.filter.sources) (family_is family join.group h.group.2.0.1) of_family

pub join_forwarded : (family : Option Family) (table : Members) (join : Join) → JoinOf family table join → is_forwardable join.group ≡ true
join_forwarded family table join h = h.group.2.1

-- the joins so far are opened; those of the tables that are left come after them, and a first fault of these is that of all
pub record AreOpened (family : Option Family) (all : List Members) (joins : List Join) (left : List Members) (sockets : SocketsValue) : Type 0 where
  pub history : List AcceptedCall
  pub stands : SocketsHold sockets history
  pub more : (rest : List Join) → AreJoins family history left rest → AreJoins family [] all (joins ++ rest)
  pub fails : (fault : ConfigFault) → FailsInJoins family history left fault → FailsInJoins family [] all fault

module _ (family : Option Family) (all : List Members) (joins : List Join) (sockets : SocketsValue) where
  pub opened_start : joins ≡ [] → SocketsHold sockets [] → AreOpened family all joins all sockets
  opened_start none stands =
      subst (λ (listed : List Join). AreOpened family all listed all sockets) (sym none)
      (record { history = []; stands = stands; more = λ rest h. h; fails = λ fault h. h })

  pub opened_end : AreOpened family all joins [] sockets → AreJoins family [] all joins
  opened_end before = subst (AreJoins family [] all) (append-nil joins) (before.more [] refl)

  module _ (table : Members) (later : List Members) (before : AreOpened family all joins (table ∷ later) sockets) where
    -- one more join is opened
    pub opened_more : (joins' : List Join) (sockets' : SocketsValue) (join : Join) → JoinOf family table join → ForHistory sockets (λ history. MayOpen history join)
        → ForHistory sockets (λ history. SocketsHold sockets' (with_join join history)) → joins' ≡ joins ++ join ∷ [] → AreOpened family all joins' later sockets'
    opened_more joins' sockets' join of may stands pushed =
        let opens = may before.history before.stands in
        subst (λ (listed : List Join). AreOpened family all listed later sockets') (sym pushed) (record {
          history = with_join join before.history;
          stands = stands before.history before.stands;
          more = λ rest h.
              subst (AreJoins family [] all) (sym (append_assoc joins (join ∷ []) rest)) (before.more (join ∷ rest) (join, rest, refl, of, opens, h));
          fails = λ fault h. before.fails fault (inr (join, of, inr (opens, h)));
        })

    -- the next table is no join, or it is one that is refused
    pub bad_table : (inner fault : ConfigFault) → IsFirstFault (join_keys family) (λ table fault. ⊥) table inner ⊎ (inner ≡ Memory)
        → (fault ≡ in_join inner) ⊎ (fault ≡ Memory) → FailsInJoins family [] all fault ⊎ (fault ≡ Memory)
    bad_table inner fault (inl first) (inl is) = inl (before.fails fault (inl (record { inner = inner; first = first; is = is })))
    bad_table inner fault (inr memory) (inl is) = inr (is ∙ ap in_join memory)
    bad_table inner fault h (inr memory) = inr memory

    refused_by : (join : Join) (fault : ConfigFault) → JoinOf family table join → IsRefusedAfter before.history join fault → FailsInJoins family [] all fault ⊎ (fault ≡ Memory)
    refused_by join fault of (inl refused) = inl (before.fails fault (inr (join, of, inl refused)))
    refused_by join fault of (inr memory) = inr memory

    pub bad_open : (join : Join) (fault : ConfigFault) → JoinOf family table join → ForHistory sockets (λ history. IsRefusedAfter history join fault)
        → FailsInJoins family [] all fault ⊎ (fault ≡ Memory)
    bad_open join fault of fails = refused_by join fault of (fails before.history before.stands)
