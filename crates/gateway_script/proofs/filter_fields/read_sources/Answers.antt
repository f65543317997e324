use Rattle.std.proofs.Common.{refl}
use Rattle.script_lines.specs.Lines.{fields}
use Rattle.gateway_script.proofs.Addresses.{reading_bad, reading_end, reading_more, reading_start}
use Rattle.gateway_script.proofs.filter_fields.read_sources.Goals as goal

pub loop-text-init : goal.loop-text-init
loop-text-init c = reading_start c.args.family c.new-sources.result (fields c.args.values.now) c.new-sources.ensures

pub returns-in_default-read_address-clause-reason : goal.returns-in_default-read_address-clause-reason
returns-in_default-read_address-clause-reason c = (
  refl,
  reading_bad c.args.family c.loop-text.sources (fields c.args.values.now) (fields c.loop-text.left.now) (fields c.in-Some.rest.now) c.in-Some.text.now
      c.in-Some.ensures.parts c.in_default-read_address.ensures.none c.loop-text.invariant,
)

pub loop-text-preserved : goal.loop-text-preserved
loop-text-preserved c =
    reading_more c.args.family c.loop-text.sources c.push.new.self (fields c.args.values.now) (fields c.loop-text.left.now) (fields c.in-Some.rest.now) c.in-Some.text.now
    c.in-Some-read_address.source c.in-Some.ensures.parts c.in-Some-read_address.ensures.found c.in-Ok.ensures.ok c.loop-text.invariant

pub returns-clause-found : goal.returns-clause-found
returns-clause-found c =
    reading_end c.args.family c.loop-text.sources (fields c.args.values.now) (fields c.loop-text.left.now) c.in_default.ensures.parts c.loop-text.invariant
