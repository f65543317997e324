use Rattle.std.proofs.Common.{Bool, refl, sym, ap, append-nil, subst, arith}
use Rattle.gateway_script.specs.SocketLine.{IsSocketLine}
use Rattle.socket_merge.specs.FullReport.{family_by}
use Rattle.gateway_serving.{specs.{Answering.{waiting_in}, Turns.{Asks, Bad, IsBad, Starved}, declared.counts.Counts.{Counts}}, proofs.{Lines.{line_called}, Traces.{Does-at, counted}}}
use Rattle.gateway_serving.proofs.server.Server.take_line.Goals as goal

pub offer-requires-clause-event : goal.offer-requires-clause-event
offer-requires-clause-event g c = c.in-Call.ensures.may _ c.args.self.now.family

pub returns-in-Call : goal.returns-in-Call
returns-in-Call g c = record {
  lines = line_called c.args.from c.args.line.now c.in-Call.event (waiting_in c.args.askers.now) c.offer.ensures.offers.starved
      (subst (λ (v6 : Bool). IsSocketLine (family_by v6) c.in-Call.event c.args.line.now) (sym c.args.self.now.family) c.in-Call.ensures.is)
      (counted 0 1 0 0 (refl, refl, refl, refl) refl (record { datagrams_are = omega arith; controls_are = refl; bad_are = omega arith; starved_are = omega arith })) c.offer.ensures.offers.does;
}

pub returns-in-Asking : goal.returns-in-Asking
returns-in-Asking g c = record {
  lines = record {
    line = Asks c.in-Asking.asking;
    may = c.in-Asking.ensures.is;
    does = λ around. Does-at (counted 0 1 0 0 (refl, refl, refl, refl) refl (record { datagrams_are = omega arith; controls_are = refl; bad_are = omega arith; starved_are = omega arith }) around)
        refl refl refl refl refl (λ _. refl) refl refl refl refl (omega arith);
    asked = c.add.ensures;
  };
}

pub returns-in-Bad : goal.returns-in-Bad
returns-in-Bad g c = record {
  lines = record {
    line = Bad c.in-Bad.reason;
    may = subst (λ (v6 : Bool). IsBad (family_by v6) c.args.line.now c.in-Bad.reason) (sym c.args.self.now.family) c.in-Bad.ensures.is;
    does = counted 0 1 1 0 (refl, refl, refl, refl) refl (record { datagrams_are = omega arith; controls_are = refl; bad_are = refl; starved_are = omega arith });
    asked = c.add_bad.ensures;
  };
}

pub returns-in-Starved : goal.returns-in-Starved
returns-in-Starved g c =
    let is = c.count_starved.ensures in record {
      lines = record {
        line = Starved;
        may = c.in-Starved.ensures.is;
        does = counted 0 1 0 1 (refl, refl, ap (λ (one : Counts). one.delivered) is, ap (λ (one : Counts). one.unsent) is) refl
            (record { datagrams_are = omega (arith, ap (λ (one : Counts). one.datagrams) is); controls_are = ap (λ (one : Counts). one.controls) is; bad_are = omega (arith, ap (λ (one : Counts). one.bad_controls) is); starved_are = ap (λ (one : Counts). one.starved) is });
        asked = sym (append-nil _);
      };
    }
