use Rattle.std.proofs.Common.{◌≡◌, true, [], Err, subst, sym, ap, map, take}
use Rattle.group_records.specs.Written.{is_of_family}
use Rattle.amt_pair.{specs.{Setup.{PairSetup}, declared.pair.PairFault.{PairFault}}, proofs.Courses.{pair_hosts}}
use Rattle.pair_script.{specs.{Gateways.{family_of}, Setup.{host_of}, declared.script.PairGateway.{PairGateway}}, proofs.SetUp.{added_at, never_taken, pair_more}}
use Rattle.pair_script.proofs.replay.set_up.Goals as goal

pub add-requires : goal.add-requires
add-requires c =
    let gateways = c.as_slice-gateway-items.result.now in
    let gateway = c.gateway-item.result in
    let all = rw (← c.as_slice-gateway-items.ensures) at c.requires.gateways in
    let addable = added_at [] gateways c.loop-gateway.gateway-index gateway c.loop-gateway-test.true all in
    subst (λ (g : PairGateway). is_of_family (family_of g) g.source ≡ true) (sym c.gateway-item.is) addable.source

pub unreachable-requires : goal.unreachable-requires
unreachable-requires c =
    let settings = c.args.script.now.settings in
    let gateways = c.as_slice-gateway-items.result.now in
    let i = c.loop-gateway.gateway-index in
    let gateway = c.gateway-item.result in
    let all = rw (← c.as_slice-gateway-items.ensures) at c.requires.gateways in
    let addable = added_at [] gateways i gateway c.loop-gateway-test.true all in
    let setup : PairSetup = record { settings = settings; secret = c.args.script.now.secret; hosts = map (host_of settings) (take i gateways) } in
    let hosts = pair_hosts c.loop-gateway.pair setup [] c.loop-gateway.invariant.stands in
    let taken = c.in-Err-Taken.ensures.taken.0 (ap (λ (fault : PairFault). Err fault) c.in-Err-Taken.field-0-is) in
    never_taken settings (take i gateways) gateway _ c.as_slice-name.result.now _ hosts addable c.gateway-item.is c.as_slice-name.ensures taken

pub loop-gateway-preserved : goal.loop-gateway-preserved
loop-gateway-preserved c =
    let settings = c.args.script.now.settings in
    let secret = c.args.script.now.secret in
    let gateways = c.as_slice-gateway-items.result.now in
    let i = c.loop-gateway.gateway-index in
    let gateway = c.gateway-item.result in
    let added = c.in-Ok.ensures.added settings secret (map (host_of settings) (take i gateways)) c.loop-gateway.invariant in
    pair_more c.add.new.self settings secret gateways i gateway gateway c.as_slice-name.result.now c.loop-gateway-test.true c.gateway-item.is c.as_slice-name.ensures added
