use Rattle.std.{proofs.Common.{◌≡◌, ◌+◌, List, [], ◌∷◌, ◌++◌, Some, None, sym, subst, ap, ◌∙◌}, specs.Option.{option_copied}}
use Rattle.amt_values.specs.declared.address.Ip.{Ip}
use Rattle.toml.specs.{Data.{as_str}, View.{items_view}}
use Rattle.script_lines.specs.Form.{IsAddressText}
use Rattle.gateway_script.proofs.Addresses.{reading_end, reading_more, reading_start, IsReading}
use Rattle.amt_config.{specs.Arrays.{those_in}, proofs.{Items.{end_those, next_those, those_from}, join.read_sources.Goals.{in-Some+in-Some-read_address+in-Ok, in_default}}}
use Rattle.amt_config.proofs.join.read_sources.Goals as goal

pub loop-item-init : goal.loop-item-init
loop-item-init c = reading_start (Some c.args.family) c.new-sources.result (those_in as_str (items_view c.args.items.now)) c.new-sources.ensures

pub loop-item-preserved : goal.loop-item-preserved
loop-item-preserved c =
    let items = c.args.items.now in
    let i = c.loop-item.item-index in
    elim c.match-as_str.branch [
      | in-Some+in-Some-read_address+in-Ok w ↦
          reading_more (Some c.args.family) c.loop-item.sources c.match-as_str.sources (those_in as_str (items_view items)) (those_from as_str i items)
          (those_from as_str (i + 1) items) w.in-Some.text.now w.in-Some-read_address.source
          (next_those as_str items i c.item-item.result (Some w.in-Some.text.now) c.loop-item-test.true c.item-item.is (sym c.as_str.ensures ∙ ap option_copied w.in-Some.is))
          (subst (IsAddressText (Some c.args.family) w.in-Some-read_address.source) w.as_bytes.ensures.value w.in-Some-read_address.ensures.found)
          (let grown : c.match-as_str.sources ≡ c.loop-item.sources ++ w.in-Some-read_address.source ∷ [] = cc (w.in-Ok.ensures.ok, w.sources-is) in grown)
          c.loop-item.invariant
      | in_default w ↦
          subst (λ (sources : List Ip). IsReading (Some c.args.family) sources (those_in as_str (items_view items)) (those_from as_str (i + 1) items)) (sym w.sources-is)
          (subst (IsReading (Some c.args.family) c.loop-item.sources (those_in as_str (items_view items)))
          (next_those as_str items i c.item-item.result None c.loop-item-test.true c.item-item.is (sym c.as_str.ensures ∙ ap option_copied w.in_default.is)) c.loop-item.invariant)
    ]

pub returns-clause-found : goal.returns-clause-found
returns-clause-found c =
    reading_end (Some c.args.family) c.loop-item.sources (those_in as_str (items_view c.args.items.now)) (those_from as_str c.loop-item.item-index c.args.items.now)
    (end_those as_str c.args.items.now c.loop-item.item-index c.loop-item-test.false) c.loop-item.invariant
