use Rattle.std.proofs.Common.{◌≡◌, ◌++◌, ◌^◌, ◌<◌, ◌≤◌, List, All, length, get_or, ap, sym, subst, arith, rules}
use Rattle.std.proofs.lemmas.List.{take_all}
use Rattle.amt_script.specs.Script.{IsRelayScript}
use Rattle.amt_pcap.{specs.{declared.capture.Item.{Item}, Texts.{IsReadBack, captured_script, lines_of_items, relay_line}}, proofs.{Loops.{All-next}, RelayLines.{left-next, left-none, script_spelled}}}
use Rattle.amt_pcap.proofs.script.capture_script.Goals as goal

pub loop-index-preserved : goal.loop-index-preserved
loop-index-preserved c =
    let relay = c.args.relay.now in
    let items = c.args.capture.now.items in
    let i = c.loop-index.index in
    let item = c.item-item.result in
    let same = c.as_slice-item-items.ensures in
    let inside : i < length items = omega (arith, ap (λ (all : List Item). length all) same, c.loop-index-test.true) in
    let is = subst (λ (all : List Item). item ≡ get_or all i item) same c.item-item.is in
    let before = c.loop-index.invariant in record {
      text = left-next relay items i item (relay_line relay ++ lines_of_items relay 1 items) c.loop-index.text c.append_item.new.text inside is before.text c.in_ok-append_item.ensures.text;
      back = All-next (IsReadBack relay) items i item inside before.back (subst (IsReadBack relay) is c.in_ok-append_item.ensures.back);
    }

pub returns-clause-text : goal.returns-clause-text
returns-clause-text c =
    let capture = c.args.capture.now in
    let past : length capture.items ≤ c.loop-index.index = omega (arith, ap (λ (all : List Item). length all) c.as_slice-item-items.ensures, c.loop-index-test.false) in
    left-none c.args.relay.now capture c.loop-index.index c.loop-index.text c.append_tail.new.text past c.loop-index.invariant.text c.in_ok-append_tail.ensures

pub returns-clause-spelled : goal.returns-clause-spelled
returns-clause-spelled c =
    let relay = c.args.relay.now in
    let capture = c.args.capture.now in
    let past : length capture.items ≤ c.loop-index.index = omega (arith, ap (λ (all : List Item). length all) c.as_slice-item-items.ensures, c.loop-index-test.false) in
    let few : length capture.items < 2 ^ 63 = search rules in
    let small : capture.tail < 2 ^ 32 = search rules in
    let back = subst (All (IsReadBack relay)) (take_all c.loop-index.index capture.items past) c.loop-index.invariant.back in
    subst (IsRelayScript (captured_script relay capture)) (sym (returns-clause-text c)) (script_spelled relay capture c.in_ok-text.ensures.names back few small)
