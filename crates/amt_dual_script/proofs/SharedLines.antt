-- What is wrong with a line that begins as a line of a pair's script and gives neither a setting nor a gateway.
use Rattle.std.proofs.Common.{ℕ, List, [], refl, ◌≢◌}
use Rattle.amt_script.specs.declared.setting.Setting.{Setting}
use Rattle.script_lines.{specs.{Reading.{FailsFirst}, declared.fault.LineError.{LineError}}}
use Rattle.pair_script.specs.{Fault.{FailsAfterOpening as PairFails, order_of_reasons}, declared.opening.Opening.{Opening, TheVariants.{Gateway, Set}}}
use Rattle.amt_dual_script.specs.{Fault.{FailsAfterOpening}, declared.script.{DualGateway.{DualGateway}, DualItem.{DualItem}}}

pub shared_fails : (given : List Setting) (gateways : List DualGateway) (items : List DualItem) (opening : Opening) (values : List (List ℕ)) (error : LineError) → opening ≢ Set → opening ≢ Gateway
    → FailsFirst (PairFails [] [] [] opening values) order_of_reasons error → FailsFirst (FailsAfterOpening given gateways items opening values) order_of_reasons error
shared_fails given gateways items Set values error no_setting no_gateway fails = absurd (no_setting refl)
shared_fails given gateways items Gateway values error no_setting no_gateway fails = absurd (no_gateway refl)
shared_fails given gateways items opening values error no_setting no_gateway fails = fails
