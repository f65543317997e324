use Rattle.std.proofs.Common.{◌≡◌, ◌⊎◌, Some}
use Rattle.toml.specs.View.{table_view}
use Rattle.amt_config.{specs.{Join.{join_keys}, declared.fault.ConfigFault.TheVariants.{Memory}}, proofs.{Exactness.{unknown_fault_or, value_fault_or}, Faults.{settled}}}
use Rattle.amt_config.proofs.join.read_join.Goals as goal

pub returns-in-Err-clause-fault : goal.returns-in-Err-clause-fault
returns-in-Err-clause-fault c =
    unknown_fault_or (join_keys (Some c.args.family)) (λ table fault. ⊥) (table_view c.args.table.now) c.in-Err.fault c.in-Err.ensures.unknown

pub returns-in-Err-read_keys-clause-fault : goal.returns-in-Err-read_keys-clause-fault
returns-in-Err-read_keys-clause-fault c =
    value_fault_or (join_keys (Some c.args.family)) (λ table fault. ⊥) (table_view c.args.table.now) c.in-Err-read_keys.fault c.in-Ok.ensures.known
    (settled (table_view c.args.table.now) c.in-Err-read_keys.fault (join_keys (Some c.args.family)) (⊥ ⊎ (c.in-Err-read_keys.fault ≡ Memory)) ⊥ (λ h. h) c.in-Err-read_keys.ensures.fault)
