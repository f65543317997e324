use Rattle.std.proofs.{Common.{◌≡◌, inl, subst}, lemmas.Result.{err_from_is_err_and}}
use Rattle.amt_values.specs.{declared.address.Ip.TheVariants.{V4, V6}, Text.{IsIpText}}
use Rattle.relay_machine.specs.declared.{number_key.NumberKey.TheVariants.{Robustness, QuerySeconds, ResponseTenths, Secrets, Endpoints, Groups, Sources, PacketLimit}, settings.Settings.{Settings}}
use Rattle.amt_script.specs.declared.kind.Key.TheVariants as words
use Rattle.amt_script.specs.Row.{key_word}
use Rattle.toml.specs.View.{table_view}
use Rattle.amt_config.{specs.{Key.{HasTextOr}, Reading.{MayFailFirst}, Relay.{relay_keys, table_anywhere}}, proofs.Faults.{past}}
use Rattle.amt_config.proofs.relay.read_values.Goals as goal

pub returns-in_err-number_of-3-clause-fault : goal.returns-in_err-number_of-3-clause-fault
returns-in_err-number_of-3-clause-fault c =
    let table = table_view c.args.table.now in
    let handed = err_from_is_err_and c.from_residual-in_err-number_of-3.result c.from_residual-in_err-number_of-3.ensures.1 in
    let first : MayFailFirst (relay_keys (table_anywhere table)) table ⊥ c.in_err-number_of-3.field-0.0 =
    past c.in_ok-relay.ensures.right (past c.in_ok-listen.ensures.right (past c.in_ok-feed.ensures.right (past c.in_ok-control_anywhere.ensures.right (past c.in_ok-control.ensures.right (past c.in_ok-value_or.ensures.right (past c.in_ok-value_or-2.ensures.right (past c.in_ok-number_of.ensures.right (past c.in_ok-number_of-2.ensures.right (inl c.in_err-number_of-3.ensures.fault))))))))) in
    rw (handed.1, handed.2) first

pub returns-in_err-number_of-4-clause-fault : goal.returns-in_err-number_of-4-clause-fault
returns-in_err-number_of-4-clause-fault c =
    let table = table_view c.args.table.now in
    let handed = err_from_is_err_and c.from_residual-in_err-number_of-4.result c.from_residual-in_err-number_of-4.ensures.1 in
    let first : MayFailFirst (relay_keys (table_anywhere table)) table ⊥ c.in_err-number_of-4.field-0.0 =
    past c.in_ok-relay.ensures.right (past c.in_ok-listen.ensures.right (past c.in_ok-feed.ensures.right (past c.in_ok-control_anywhere.ensures.right (past c.in_ok-control.ensures.right (past c.in_ok-value_or.ensures.right (past c.in_ok-value_or-2.ensures.right (past c.in_ok-number_of.ensures.right (past c.in_ok-number_of-2.ensures.right (past c.in_ok-number_of-3.ensures.right (inl c.in_err-number_of-4.ensures.fault)))))))))) in
    rw (handed.1, handed.2) first

pub returns-in_err-number_of-5-clause-fault : goal.returns-in_err-number_of-5-clause-fault
returns-in_err-number_of-5-clause-fault c =
    let table = table_view c.args.table.now in
    let handed = err_from_is_err_and c.from_residual-in_err-number_of-5.result c.from_residual-in_err-number_of-5.ensures.1 in
    let first : MayFailFirst (relay_keys (table_anywhere table)) table ⊥ c.in_err-number_of-5.field-0.0 =
    past c.in_ok-relay.ensures.right (past c.in_ok-listen.ensures.right (past c.in_ok-feed.ensures.right (past c.in_ok-control_anywhere.ensures.right (past c.in_ok-control.ensures.right (past c.in_ok-value_or.ensures.right (past c.in_ok-value_or-2.ensures.right (past c.in_ok-number_of.ensures.right (past c.in_ok-number_of-2.ensures.right (past c.in_ok-number_of-3.ensures.right (past c.in_ok-number_of-4.ensures.right (inl c.in_err-number_of-5.ensures.fault))))))))))) in
    rw (handed.1, handed.2) first

pub returns-in_err-number_of-6-clause-fault : goal.returns-in_err-number_of-6-clause-fault
returns-in_err-number_of-6-clause-fault c =
    let table = table_view c.args.table.now in
    let handed = err_from_is_err_and c.from_residual-in_err-number_of-6.result c.from_residual-in_err-number_of-6.ensures.1 in
    let first : MayFailFirst (relay_keys (table_anywhere table)) table ⊥ c.in_err-number_of-6.field-0.0 =
    past c.in_ok-relay.ensures.right (past c.in_ok-listen.ensures.right (past c.in_ok-feed.ensures.right (past c.in_ok-control_anywhere.ensures.right (past c.in_ok-control.ensures.right (past c.in_ok-value_or.ensures.right (past c.in_ok-value_or-2.ensures.right (past c.in_ok-number_of.ensures.right (past c.in_ok-number_of-2.ensures.right (past c.in_ok-number_of-3.ensures.right (past c.in_ok-number_of-4.ensures.right (past c.in_ok-number_of-5.ensures.right (inl c.in_err-number_of-6.ensures.fault)))))))))))) in
    rw (handed.1, handed.2) first

pub returns-in_err-number_of-7-clause-fault : goal.returns-in_err-number_of-7-clause-fault
returns-in_err-number_of-7-clause-fault c =
    let table = table_view c.args.table.now in
    let handed = err_from_is_err_and c.from_residual-in_err-number_of-7.result c.from_residual-in_err-number_of-7.ensures.1 in
    let first : MayFailFirst (relay_keys (table_anywhere table)) table ⊥ c.in_err-number_of-7.field-0.0 =
    past c.in_ok-relay.ensures.right (past c.in_ok-listen.ensures.right (past c.in_ok-feed.ensures.right (past c.in_ok-control_anywhere.ensures.right (past c.in_ok-control.ensures.right (past c.in_ok-value_or.ensures.right (past c.in_ok-value_or-2.ensures.right (past c.in_ok-number_of.ensures.right (past c.in_ok-number_of-2.ensures.right (past c.in_ok-number_of-3.ensures.right (past c.in_ok-number_of-4.ensures.right (past c.in_ok-number_of-5.ensures.right (past c.in_ok-number_of-6.ensures.right (inl c.in_err-number_of-7.ensures.fault))))))))))))) in
    rw (handed.1, handed.2) first

pub returns-in_err-number_at-clause-fault : goal.returns-in_err-number_at-clause-fault
returns-in_err-number_at-clause-fault c =
    let table = table_view c.args.table.now in
    let handed = err_from_is_err_and c.from_residual-in_err-number_at.result c.from_residual-in_err-number_at.ensures.1 in
    let first : MayFailFirst (relay_keys (table_anywhere table)) table ⊥ c.in_err-number_at.field-0.0 =
    past c.in_ok-relay.ensures.right (past c.in_ok-listen.ensures.right (past c.in_ok-feed.ensures.right (past c.in_ok-control_anywhere.ensures.right (past c.in_ok-control.ensures.right (past c.in_ok-value_or.ensures.right (past c.in_ok-value_or-2.ensures.right (past c.in_ok-number_of.ensures.right (past c.in_ok-number_of-2.ensures.right (past c.in_ok-number_of-3.ensures.right (past c.in_ok-number_of-4.ensures.right (past c.in_ok-number_of-5.ensures.right (past c.in_ok-number_of-6.ensures.right (past c.in_ok-number_of-7.ensures.right (inl c.in_err-number_at.ensures.fault)))))))))))))) in
    rw (handed.1, handed.2) first

pub returns-in_err-number_of-8-clause-fault : goal.returns-in_err-number_of-8-clause-fault
returns-in_err-number_of-8-clause-fault c =
    let table = table_view c.args.table.now in
    let handed = err_from_is_err_and c.from_residual-in_err-number_of-8.result c.from_residual-in_err-number_of-8.ensures.1 in
    let first : MayFailFirst (relay_keys (table_anywhere table)) table ⊥ c.in_err-number_of-8.field-0.0 =
    past c.in_ok-relay.ensures.right (past c.in_ok-listen.ensures.right (past c.in_ok-feed.ensures.right (past c.in_ok-control_anywhere.ensures.right (past c.in_ok-control.ensures.right (past c.in_ok-value_or.ensures.right (past c.in_ok-value_or-2.ensures.right (past c.in_ok-number_of.ensures.right (past c.in_ok-number_of-2.ensures.right (past c.in_ok-number_of-3.ensures.right (past c.in_ok-number_of-4.ensures.right (past c.in_ok-number_of-5.ensures.right (past c.in_ok-number_of-6.ensures.right (past c.in_ok-number_of-7.ensures.right (past c.in_ok-number_at.ensures.right (inl c.in_err-number_of-8.ensures.fault))))))))))))))) in
    rw (handed.1, handed.2) first

pub returns-in_err-number_at-2-clause-fault : goal.returns-in_err-number_at-2-clause-fault
returns-in_err-number_at-2-clause-fault c =
    let table = table_view c.args.table.now in
    let handed = err_from_is_err_and c.from_residual-in_err-number_at-2.result c.from_residual-in_err-number_at-2.ensures.1 in
    let first : MayFailFirst (relay_keys (table_anywhere table)) table ⊥ c.in_err-number_at-2.field-0.0 =
    past c.in_ok-relay.ensures.right (past c.in_ok-listen.ensures.right (past c.in_ok-feed.ensures.right (past c.in_ok-control_anywhere.ensures.right (past c.in_ok-control.ensures.right (past c.in_ok-value_or.ensures.right (past c.in_ok-value_or-2.ensures.right (past c.in_ok-number_of.ensures.right (past c.in_ok-number_of-2.ensures.right (past c.in_ok-number_of-3.ensures.right (past c.in_ok-number_of-4.ensures.right (past c.in_ok-number_of-5.ensures.right (past c.in_ok-number_of-6.ensures.right (past c.in_ok-number_of-7.ensures.right (past c.in_ok-number_at.ensures.right (past c.in_ok-number_of-8.ensures.right (inl c.in_err-number_at-2.ensures.fault)))))))))))))))) in
    rw (handed.1, handed.2) first

pub returns-in_err-flag_at-clause-fault : goal.returns-in_err-flag_at-clause-fault
returns-in_err-flag_at-clause-fault c =
    let table = table_view c.args.table.now in
    let handed = err_from_is_err_and c.from_residual-in_err-flag_at.result c.from_residual-in_err-flag_at.ensures.1 in
    let first : MayFailFirst (relay_keys (table_anywhere table)) table ⊥ c.in_err-flag_at.field-0.0 =
    past c.in_ok-relay.ensures.right (past c.in_ok-listen.ensures.right (past c.in_ok-feed.ensures.right (past c.in_ok-control_anywhere.ensures.right (past c.in_ok-control.ensures.right (past c.in_ok-value_or.ensures.right (past c.in_ok-value_or-2.ensures.right (past c.in_ok-number_of.ensures.right (past c.in_ok-number_of-2.ensures.right (past c.in_ok-number_of-3.ensures.right (past c.in_ok-number_of-4.ensures.right (past c.in_ok-number_of-5.ensures.right (past c.in_ok-number_of-6.ensures.right (past c.in_ok-number_of-7.ensures.right (past c.in_ok-number_at.ensures.right (past c.in_ok-number_of-8.ensures.right (past c.in_ok-number_at-2.ensures.right (inl c.in_err-flag_at.ensures.fault))))))))))))))))) in
    rw (handed.1, handed.2) first

pub returns-in_err-number_at-3-clause-fault : goal.returns-in_err-number_at-3-clause-fault
returns-in_err-number_at-3-clause-fault c =
    let table = table_view c.args.table.now in
    let handed = err_from_is_err_and c.from_residual-in_err-number_at-3.result c.from_residual-in_err-number_at-3.ensures.1 in
    let first : MayFailFirst (relay_keys (table_anywhere table)) table ⊥ c.in_err-number_at-3.field-0.0 =
    past c.in_ok-relay.ensures.right (past c.in_ok-listen.ensures.right (past c.in_ok-feed.ensures.right (past c.in_ok-control_anywhere.ensures.right (past c.in_ok-control.ensures.right (past c.in_ok-value_or.ensures.right (past c.in_ok-value_or-2.ensures.right (past c.in_ok-number_of.ensures.right (past c.in_ok-number_of-2.ensures.right (past c.in_ok-number_of-3.ensures.right (past c.in_ok-number_of-4.ensures.right (past c.in_ok-number_of-5.ensures.right (past c.in_ok-number_of-6.ensures.right (past c.in_ok-number_of-7.ensures.right (past c.in_ok-number_at.ensures.right (past c.in_ok-number_of-8.ensures.right (past c.in_ok-number_at-2.ensures.right (past c.in_ok-flag_at.ensures.right (inl c.in_err-number_at-3.ensures.fault)))))))))))))))))) in
    rw (handed.1, handed.2) first

pub returns-clause-found : goal.returns-clause-found
returns-clause-found c =
    let table = table_view c.args.table.now in
    let query4 = c.in_ok-value_or.field-0 in
    let query6 = c.in_ok-value_or-2.field-0 in
    record {
      relay = c.in_ok-relay.ensures.found;
      listen = c.in_ok-listen.ensures.found;
      feed = c.in_ok-feed.ensures.found;
      anywhere = c.in_ok-control_anywhere.ensures.found;
      control = c.in_ok-control.ensures.found;
      query4 = subst (λ (defaults : Settings). HasTextOr (key_word words.Query4) table (IsIpText (V4 query4)) (query4 ≡ defaults.query4))
          c.of_relay-defaults.ensures.value c.in_ok-value_or.ensures.found;
      query6 = subst (λ (defaults : Settings). HasTextOr (key_word words.Query6) table (IsIpText (V6 query6)) (query6 ≡ defaults.query6))
          c.of_relay-defaults.ensures.value c.in_ok-value_or-2.ensures.found;
      numbers = elim [
        | Robustness ↦ c.in_ok-number_of.ensures.found
        | QuerySeconds ↦ c.in_ok-number_of-2.ensures.found
        | ResponseTenths ↦ c.in_ok-number_of-3.ensures.found
        | Secrets ↦ c.in_ok-number_of-8.ensures.found
        | Endpoints ↦ c.in_ok-number_of-4.ensures.found
        | Groups ↦ c.in_ok-number_of-5.ensures.found
        | Sources ↦ c.in_ok-number_of-6.ensures.found
        | PacketLimit ↦ c.in_ok-number_of-7.ensures.found
      ];
      rotate = c.in_ok-number_at.ensures.found;
      workers = c.in_ok-number_at-2.ensures.found;
      linux_gateways = c.in_ok-flag_at.ensures.found;
      report = c.in_ok-number_at-3.ensures.found;
    }
