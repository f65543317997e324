use Rattle.std.proofs.Common.{[], Err, ap, map, take}
use Rattle.amt_dual.{specs.{Setup.{DualSetup}, declared.pair.DualFault.{DualFault}}, proofs.DualCourses.{pair_machines}}
use Rattle.amt_dual_script.{specs.Setup.{host_of}, proofs.SetUp.{added_at, dual_more, never_taken}}
use Rattle.amt_dual_script.proofs.replay.set_up.Goals as goal

pub unreachable-requires : goal.unreachable-requires
unreachable-requires c =
    let settings = c.args.script.now.settings in
    let gateways = c.as_slice-gateway-items.result.now in
    let i = c.loop-gateway.gateway-index in
    let gateway = c.gateway-item.result in
    let all = rw (← c.as_slice-gateway-items.ensures) at c.requires.gateways in
    let new = added_at [] gateways i gateway c.loop-gateway-test.true all in
    let setup : DualSetup = record { settings = settings; secret = c.args.script.now.secret; hosts = map host_of (take i gateways) } in
    let hosts = pair_machines c.loop-gateway.pair setup [] c.loop-gateway.invariant.stands in
    let taken = c.in-Err-Taken.ensures.taken.0 (ap (λ (fault : DualFault). Err fault) c.in-Err-Taken.field-0-is) in
    never_taken settings (take i gateways) gateway _ c.as_slice-name.result.now _ hosts new c.gateway-item.is c.as_slice-name.ensures taken

pub loop-gateway-preserved : goal.loop-gateway-preserved
loop-gateway-preserved c =
    let settings = c.args.script.now.settings in
    let secret = c.args.script.now.secret in
    let gateways = c.as_slice-gateway-items.result.now in
    let i = c.loop-gateway.gateway-index in
    let gateway = c.gateway-item.result in
    let added = c.in-Ok.ensures.added settings secret (map host_of (take i gateways)) c.loop-gateway.invariant in
    dual_more c.add.new.self settings secret gateways i gateway gateway c.as_slice-name.result.now c.loop-gateway-test.true c.gateway-item.is c.as_slice-name.ensures added
