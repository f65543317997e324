use Rattle.std.proofs.{Common.{◌<◌, ◌≤◌, arith, rules}, lemmas.Result.{on_ok_weaker}}
use Rattle.script_lines.proofs.OctetDigits.{two_put, three_put}
use Rattle.script_lines.proofs.addresses.append_octet.Goals as goal

pub returns-then-octet-lt100 : goal.returns-then-octet-lt100
returns-then-octet-lt100 c =
    let more : 10 ≤ c.args.octet = omega (arith, c.if-octet-lt10.false) in
    let less : c.args.octet < 100 = omega (arith, c.if-octet-lt100.true) in
    on_ok_weaker c.push-then-octet-lt100-2.result (two_put c.args.text.now c.push-then-octet-lt100.new.self _ c.args.octet more less c.in_ok-push.ensures.ok) c.push-then-octet-lt100-2.ensures.ok

pub returns : goal.returns
returns c =
    let more : 100 ≤ c.args.octet = omega (arith, c.if-octet-lt100.false) in
    let less : c.args.octet < 256 = search rules in
    on_ok_weaker c.push-4.result (three_put c.args.text.now c.push-2.new.self c.push-3.new.self _ c.args.octet more less c.in_ok-push-2.ensures.ok c.in_ok-push-3.ensures.ok) c.push-4.ensures.ok
