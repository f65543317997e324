use Rattle.std.{proofs.{Common.{◌≡◌, ◌+◌, ◌++◌, List, ℕ, take, get_or, ap, sym, ◌∙◌, append_assoc, arith}, lemmas.List.Sums.{sum_by_more}}, specs.List.{sum_by}}
use Rattle.amt_pair.specs.declared.step.Part.{Part}
use Rattle.pair_script.{specs.Texts.{downs_in, part_text, parts_text, ups_in}, proofs.Texts.{parts_more, same_counts}}
use Rattle.pair_script.proofs.text.append_parts.Goals as goal

pub loop-part-preserved : goal.loop-part-preserved
loop-part-preserved c =
    let start = c.args.text.now in
    let number = c.args.number in
    let parts = c.args.parts.now in
    let i = c.loop-part.part-index in
    let part = c.part-item.result in
    let before = parts_text number c.args.up c.args.down (take i parts) in
    let ups = c.args.up + sum_by ups_in (take i parts) in
    let downs = c.args.down + sum_by downs_in (take i parts) in
    let text = part_text number ups downs (get_or parts i part) in
    let same : part_text number c.loop-part.sent_up c.loop-part.sent_down part ≡ text =
    same_counts number c.loop-part.sent_up ups c.loop-part.sent_down downs part c.loop-part.invariant.up c.loop-part.invariant.down
    ∙ ap (λ (p : Part). part_text number ups downs p) c.part-item.is in
    record {
      text =
          c.in_ok-append_part.ensures ∙ (ap (λ (t : List ℕ). c.loop-part.text ++ t) same
          ∙ (ap (λ (t : List ℕ). t ++ text) c.loop-part.invariant.text
          ∙ (append_assoc start before text ∙ ap (λ (t : List ℕ). start ++ t) (sym (parts_more number c.args.up c.args.down parts i part c.loop-part-test.true)))));
      up =
          omega (
            arith,
            c.loop-part.invariant.up,
            c.ups_in-sent_up.ensures,
            ap ups_in c.part-item.is,
            sum_by_more ups_in parts i part c.loop-part-test.true,
          );
      down =
          omega (
            arith,
            c.loop-part.invariant.down,
            c.downs_in-sent_down.ensures,
            ap downs_in c.part-item.is,
            sum_by_more downs_in parts i part c.loop-part-test.true,
          );
    }
