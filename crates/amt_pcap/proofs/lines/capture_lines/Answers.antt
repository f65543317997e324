use Rattle.std.proofs.{Common.{◌≡◌, ◌<◌, ◌≤◌, ◌++◌, List, ℕ, All, flat_map, length, get_or, take, ap, sym, subst, ◌∙◌, arith}, lemmas.{Grind.{flat_map-append}, List.{take_all, Elements.{All-append}}}}
use Rattle.script_lines.specs.Script.{Spells}
use Rattle.amt_dump.specs.Lines.{dump_kind}
use Rattle.amt_pcap.{specs.{declared.capture.Item.{Item}, Texts.{HasDumpLine, capture_lines_text, payload_line, tunnel_payloads, tunnel_payloads_in}}, proofs.DumpLines.{lines_spelled, tunnelled-next}}
use Rattle.amt_pcap.proofs.lines.capture_lines.Goals as goal

pub loop-item-preserved : goal.loop-item-preserved
loop-item-preserved c =
    let items = c.args.capture.now.items in
    let i = c.loop-item.item-index in
    let item = c.item-item.result in
    let same = c.as_slice-item-items.ensures in
    let inside : i < length items = omega (arith, ap (λ (all : List Item). length all) same, c.loop-item-test.true) in
    let next = tunnelled-next items i item inside (subst (λ (all : List Item). item ≡ get_or all i item) same c.item-item.is) in
    let seen = flat_map (λ (one : Item). tunnel_payloads_in one.packet) (take i items) in
    let new = tunnel_payloads_in item.packet in record {
      text =
          c.in_ok-append_item.ensures.text ∙ (ap (λ (text : List ℕ). text ++ flat_map payload_line new) c.loop-item.invariant.text
          ∙ (sym (flat_map-append payload_line seen new) ∙ ap (flat_map payload_line) (sym next)));
      said = subst (All HasDumpLine) (sym next) (All-append HasDumpLine seen new c.loop-item.invariant.said c.in_ok-append_item.ensures.said);
    }

pub returns-clause-text : goal.returns-clause-text
unfolding capture_lines_text
returns-clause-text c =
    let items = c.args.capture.now.items in
    let past : length items ≤ c.loop-item.item-index = omega (arith, ap (λ (all : List Item). length all) c.as_slice-item-items.ensures, c.loop-item-test.false) in
    c.loop-item.invariant.text
    ∙ ap (λ (all : List Item). flat_map payload_line (flat_map (λ (one : Item). tunnel_payloads_in one.packet) all)) (take_all c.loop-item.item-index items past)

pub returns-clause-spelled : goal.returns-clause-spelled
returns-clause-spelled c =
    let capture = c.args.capture.now in
    let past : length capture.items ≤ c.loop-item.item-index = omega (arith, ap (λ (all : List Item). length all) c.as_slice-item-items.ensures, c.loop-item-test.false) in
    let said = subst (λ (all : List Item). All HasDumpLine (flat_map (λ (one : Item). tunnel_payloads_in one.packet) all)) (take_all c.loop-item.item-index capture.items past) c.loop-item.invariant.said in
    subst (Spells dump_kind (tunnel_payloads capture)) (sym (returns-clause-text c)) (lines_spelled capture said)
