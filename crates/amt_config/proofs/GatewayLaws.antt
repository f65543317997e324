-- A gateway's table has one configuration, or one first fault.
use Rattle.std.{proofs.Common.{◌≡◌, ◌⊎◌, Bool, true, false, List, [], Option, Some, codes, inl, inr, refl, sym, subst, ap, drop, ◌∙◌}, specs.Option.{option_and_then}}
use Rattle.amt_values.{specs.{Text.{IsPeerText}}, proofs.Unique.{IsPeerText-unique}}
use Rattle.group_records.specs.declared.family.Family.{Family, TheVariants.{V4, V6}}
use Rattle.script_lines.specs.{Form.{IsAddressText, IsFamilyText, a_family, a_peer, an_address_of}, Texts.{family_text}}
use Rattle.socket_merge.specs.FullReport.{family_by}
use Rattle.gateway_script.{specs.Settling.{is_v6}, proofs.Fields.{IsAddressText-unique, IsFamilyText-unique}}
use Rattle.toml.specs.Data.{Members}
use Rattle.amt_config.specs.declared.{config.{GatewayConfig.{GatewayConfig}, Join.{Join}}, fault.ConfigFault.{ConfigFault, TheVariants.{Memory}}}
use Rattle.amt_config.specs.{Gateway.{GatewayConfigOf, HasGatewayValues, HasJoins, IsFaultInJoins, family_of_text, gateway_keys, port_range, table_family}, Join.{AreJoins, FailsInJoins}, Key.{HasTables, HasText, IsRight, a_text, report_range, required}, Reading.{MayFail, MayFailFirst}, Table.{IsValueFault}}
use Rattle.amt_config.proofs.{Faults.{AreRight, also, settled}, JoinLaws.{joins_or_fault, one_fault_in_joins, same_joins}, Values.{right_boolean, right_number, right_optional, right_tables, right_text, same_boolean, same_number, same_optional, same_tables, same_text}}

by_text : (family : Family) → family_of_text (family_text family) ≡ Some family
by_text V4 = refl
by_text V6 = refl

-- the family by its text
pub family_is : (table : Members) (family : Family) → HasText (codes "family") table (IsFamilyText family) → table_family table ≡ Some family
family_is table family h = ap (option_and_then family_of_text) h.1 ∙ (ap family_of_text h.2 ∙ by_text family)

by_bool : (one other : Bool) → family_by one ≡ family_by other → one ≡ other
by_bool true true same = refl
by_bool false false same = refl
by_bool true false same = cc same
by_bool false true same = cc same

pub right_family : (table : Members) (family : Family) → HasText (codes "family") table (IsFamilyText family) → IsRight table (required (codes "family") (a_text a_family))
right_family table family h = right_text a_family (IsFamilyText family) (λ text names fails. fails family names) (codes "family") table true h

pub right_keys : (table : Members) (config : GatewayConfig) → GatewayConfigOf table config → AreRight table (gateway_keys (table_family table))
right_keys table config of =
    let h = of.values in
    let family = family_by config.v6 in
    subst (λ (f : Option Family). AreRight table (gateway_keys f)) (sym (family_is table family h.family))
    (also (right_family table family h.family)
    (also (right_text a_peer (IsPeerText config.listen) (λ text names fails. fails config.listen names) (codes "listen") table true h.listen)
    (also (right_text a_peer (IsPeerText config.deliver) (λ text names fails. fails config.deliver names) (codes "deliver") table true h.deliver)
    (also (right_text a_peer (IsPeerText config.control) (λ text names fails. fails config.control names) (codes "control") table true h.control)
    (also (right_text a_peer (IsPeerText config.discovery) (λ text names fails. fails config.discovery names) (codes "discovery") table true h.discovery)
    (also (right_text (an_address_of (Some family)) (IsAddressText (Some family) config.source) (λ text names fails. fails config.source names) (codes "source") table true h.source)
    (also (right_optional a_peer IsPeerText (λ peer text names fails. fails peer names) (codes "relay") table config.relay h.relay)
    (also (right_number (codes "port") port_range table config.port h.port)
    (also (right_boolean (codes "linux_relay") table config.linux_relay h.linux_relay)
    (also (right_number (codes "report_seconds") report_range table config.report_seconds h.report)
    (also (right_tables (codes "join") table h.joins.tables h.joins.there) tt)))))))))))

same_list : (one other : Option Family) (table : Members) (joins others : List Join) → one ≡ other → HasJoins one table joins → HasJoins other table others → joins ≡ others
same_list one other table joins others same h k =
    same_joins other [] k.tables joins others
    (subst (λ (f : Option Family). AreJoins f [] k.tables joins) same
    (subst (λ (ts : List Members). AreJoins one [] ts joins) (same_tables (codes "join") table h.tables k.tables h.there k.there) h.are)) k.are

same_values : (table : Members) (one other : GatewayConfig) → HasGatewayValues table one → HasGatewayValues table other → one ≡ other
same_values table one other h k =
    let family = same_text IsFamilyText IsFamilyText-unique (codes "family") table (family_by one.v6) (family_by other.v6) h.family k.family in
    let some_family : Some (family_by one.v6) ≡ Some (family_by other.v6) = ap (λ (f : Family). Some f) family in
    let source = subst (λ (f : Option Family). HasText (codes "source") table (IsAddressText f one.source)) some_family h.source in
    λ i. record {
      v6 = by_bool one.v6 other.v6 family i;
      listen = same_text IsPeerText IsPeerText-unique (codes "listen") table _ _ h.listen k.listen i;
      deliver = same_text IsPeerText IsPeerText-unique (codes "deliver") table _ _ h.deliver k.deliver i;
      control = same_text IsPeerText IsPeerText-unique (codes "control") table _ _ h.control k.control i;
      discovery = same_text IsPeerText IsPeerText-unique (codes "discovery") table _ _ h.discovery k.discovery i;
      source = same_text (IsAddressText (Some (family_by other.v6))) (IsAddressText-unique (Some (family_by other.v6))) (codes "source") table one.source other.source source k.source i;
      relay = same_optional IsPeerText IsPeerText-unique (codes "relay") table one.relay other.relay h.relay k.relay i;
      port = same_number (codes "port") port_range table one.port other.port h.port k.port i;
      linux_relay = same_boolean (codes "linux_relay") table one.linux_relay other.linux_relay h.linux_relay k.linux_relay i;
      report_seconds = same_number (codes "report_seconds") report_range table one.report_seconds other.report_seconds h.report k.report i;
      joins = same_list (Some (family_by one.v6)) (Some (family_by other.v6)) table one.joins other.joins some_family h.joins k.joins i;
    }

pub one_config : (table : Members) (one other : GatewayConfig) → GatewayConfigOf table one → GatewayConfigOf table other → one ≡ other
one_config table one other h k = same_values table one other h.values k.values

pub one_together : (table : Members) (one other : ConfigFault) → IsFaultInJoins table one → IsFaultInJoins table other → one ≡ other
one_together table one other h k =
    one_fault_in_joins (table_family table) [] k.tables one other
    (subst (λ (ts : List Members). FailsInJoins (table_family table) [] ts one) (same_tables (codes "join") table h.tables k.tables h.there k.there) h.fails) k.fails

pub not_together : (table : Members) (config : GatewayConfig) (fault : ConfigFault) → GatewayConfigOf table config → IsFaultInJoins table fault → ⊥
not_together table config fault of k =
    let joins = of.values.joins in
    joins_or_fault (table_family table) [] k.tables config.joins fault
    (subst (λ (f : Option Family). AreJoins f [] k.tables config.joins) (sym (family_is table (family_by config.v6) of.values.family))
    (subst (λ (ts : List Members). AreJoins (Some (family_by config.v6)) [] ts config.joins) (same_tables (codes "join") table joins.tables k.tables joins.there k.there) joins.are))
    k.fails

-- what is read of a family, in the words of the table
pub family_back : (family : Family) → family_by (is_v6 family) ≡ family
family_back V4 = refl
family_back V6 = refl

pub in_joins : (table : Members) (family : Family) (tables : List Members) (fault : ConfigFault) → HasText (codes "family") table (IsFamilyText family)
    → HasTables (codes "join") table tables → FailsInJoins (Some family) [] tables fault ⊎ (fault ≡ Memory) → IsFaultInJoins table fault ⊎ (fault ≡ Memory)
in_joins table family tables fault named there (inl fails) =
    inl (record { tables = tables; there = there; fails = subst (λ (f : Option Family). FailsInJoins f [] tables fault) (sym (family_is table family named)) fails })
in_joins table family tables fault named there (inr memory) = inr memory

pub after_family : (table : Members) (family : Family) (fault : ConfigFault) → HasText (codes "family") table (IsFamilyText family)
    → MayFailFirst (drop 1 (gateway_keys (Some family))) table (IsFaultInJoins table fault) fault
    → IsValueFault (gateway_keys (table_family table)) IsFaultInJoins table fault ⊎ (fault ≡ Memory)
after_family table family fault named later =
    subst (λ (f : Option Family). IsValueFault (gateway_keys f) IsFaultInJoins table fault ⊎ (fault ≡ Memory)) (sym (family_is table family named))
    (settled table fault (gateway_keys (Some family)) _ (IsFaultInJoins table fault) (λ h. h) (inr (right_family table family named, later)))

pub bad_family : (table : Members) (fault : ConfigFault) → MayFail table (required (codes "family") (a_text a_family)) fault
    → IsValueFault (gateway_keys (table_family table)) IsFaultInJoins table fault ⊎ (fault ≡ Memory)
bad_family table fault h = settled table fault (gateway_keys (table_family table)) (IsFaultInJoins table fault ⊎ (fault ≡ Memory)) (IsFaultInJoins table fault) (λ h. h) (inl h)
