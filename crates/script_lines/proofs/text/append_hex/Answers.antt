use Rattle.std.proofs.Common.{◌≡◌, ◌++◌, rules}
use Rattle.script_lines.proofs.{Digits.{one_piece_more}, Beginnings.{begins_on}}
use Rattle.script_lines.proofs.text.append_hex.Goals as goal

pub loop-rest-preserved : goal.loop-rest-preserved
loop-rest-preserved c =
    let whole : c.loop-rest.rest.now ≡ c.split_at.result.0.now ++ c.split_at.result.1.now = search rules in
    record {
      digits = one_piece_more c.loop-rest.text c.append_digits.new.text _ c.loop-rest.rest.now c.split_at.result.0.now c.split_at.result.1.now c.loop-rest.invariant.digits whole c.in_ok-append_digits.ensures.ok;
      begun = begins_on _ _ _ _ c.loop-rest.invariant.begun c.in_ok-append_digits.ensures.ok;
    }
