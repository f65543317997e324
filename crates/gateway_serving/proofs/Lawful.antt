-- The configuration of a settings file is one that a gateway may run by.
use Rattle.std.{proofs.{Common.{◌≡◌, ℕ, ◌<◌, true, List, [], ◌∷◌, length, Some, sym, subst, arith}, lemmas.List.Elements.{All-cons, All-nil, All-same}}, specs.List.{All}}
use Rattle.amt_config.{specs.{Gateway.{IsGatewayFile}, Join.{AreJoins, JoinOf, MayOpen, with_join}, declared.config.{GatewayConfig.{GatewayConfig}, Join.{Join}}}, proofs.OpenedJoins.{join_forwarded, join_of_group, more_refused}}
use Rattle.gateway_machine.specs.Events.{IsEventOf}
use Rattle.gateway_serving.specs.Settings.{IsLawfulConfig, opening_of, settings_of}
use Rattle.group_records.specs.{declared.family.Family.{Family}, Written.{is_of_family}}
use Rattle.socket_merge.{specs.{FullReport.{family_by}, History.{AcceptedCall}}, proofs.RawOctets.{family_is}}
use Rattle.toml.specs.Data.{Members}

module _ (config : GatewayConfig) where
  abbrev family : Family
  family = family_by config.v6

  -- the opening of a join's socket may happen to the gateway
  abbrev MayCome : Join → Type 0
  MayCome join = IsEventOf (settings_of config) (opening_of join)

  abbrev AreOfFamily : Join → Family → Type 0
  AreOfFamily join one = All (λ source. is_of_family one source ≡ true) join.filter.sources

  join_may_come : (table : Members) (join : Join) (history : List AcceptedCall) → JoinOf (Some family) table join → MayOpen history join → MayCome join
  join_may_come table join history of may =
      let more : 32 < length join.filter.sources → ⊥ = λ many. more_refused history join many may in (
        join_forwarded (Some family) table join of,
        of.group.2.0.1,
        record {
          family = subst (AreOfFamily join) (sym (family_is family join.group of.group.2.0.1)) (join_of_group family table join of);
          items = omega (arith, more);
        },
      )

  joins_may_come : (history : List AcceptedCall) (tables : List Members) (joins : List Join) → AreJoins (Some family) history tables joins → All MayCome joins
  joins_may_come history [] joins are = All-same MayCome joins [] are (All-nil MayCome)
  joins_may_come history (table ∷ tables) joins are =
      All-same MayCome joins (are.0 ∷ are.1) are.2
      (All-cons MayCome are.0 are.1 (join_may_come table are.0 history are.3 are.4) (joins_may_come (with_join are.0 history) tables are.1 are.5))

pub lawful_config : (config : GatewayConfig) (octets : List ℕ) → IsGatewayFile config octets → IsLawfulConfig config
lawful_config config octets file =
    let values = file.2.values in record {
      source = values.source.2.1;
      joins = joins_may_come config [] values.joins.tables config.joins values.joins.are;
    }
