use Rattle.std.proofs.Common.{◌∙◌, ◌++◌, length, map, reverse, sym, ap, subst, arith}
use Rattle.replication_workers.specs.Replicators.{out_of}
use Rattle.relay_serving.{specs.Starting.{AreStarts, IsStart}, proofs.Starting.{All-reverse, as_many, of_no_err}}
use Rattle.relay_serving.proofs.server.starting.make_replicators.Goals as goal

pub unmake-requires : goal.unmake-requires
unmake-requires g c =
    let many = as_many out_of c.make_each.new.outs.items c.into_items-outs.result.items c.make_each.new.made.items c.make_each.ensures.outs in
    record { room = omega (arith, many, c.make_each.ensures.room.0, c.into_items-outs.result.ok.0, c.into_items-outs.result.ok.1) }

pub returns : goal.returns
returns g c =
    let none = of_no_err c.make_each.result c.if-is_err.ensures.value c.make_each.ensures.all in
    let slots = c.from-2.ensures ∙ c.turn_round.ensures.turned ∙ ap (λ list. list ++ reverse c.make_each.new.made.items) c.in-Ok-with_capacity.ensures.items in
    let size = ap length c.into_items-outs.ensures in
    record {
      outs = ap (map out_of) slots ∙ sym (ap (λ list. list ++ map out_of (reverse c.make_each.new.made.items)) none) ∙ c.make_each.ensures.outs ∙ c.into_items-outs.ensures;
      starts = λ book new. subst (AreStarts c.args.settings.now book) (sym slots)
          (All-reverse (IsStart c.args.settings.now book) c.make_each.new.made.items (c.make_each.ensures.starts book new));
      room = record {
        no_turned = c.turn_round.ensures.none;
        no_outs = none;
        room_turned = omega (arith, size, c.turn_round.ensures.room.1, c.make_each.ensures.room.1, c.in-Ok.ensures.exact, c.len.ensures, c.into_items-outs.result.ok.0);
        room_outs = omega (arith, size, c.make_each.ensures.room.0, c.into_items-outs.result.ok.0, c.into_items-outs.result.ok.1);
      };
      back = tt;
    }
