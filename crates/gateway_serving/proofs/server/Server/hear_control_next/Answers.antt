use Rattle.std.proofs.{Common.{[], ◌∷◌, inl, inr, length, take, refl, sym, ap, subst, append-nil, arith}, lemmas.List.{length-take}}
use Rattle.amt_ports.{specs.{Arrivals.{IsShortGot, link_answer}, Told.{Answers}, declared.link.{Got.{Got}, LinkAnswer.TheVariants.{Datagram as LineCame, Nothing as NothingCame, Closed as LinkClosed}}, Devices.{link_at, out_at}}, proofs.{EndCauses.{not_cause}, Lists.{one_answer}}}
use Rattle.gateway_serving.{specs.{Answering.{waiting_in}, Traces.{at_control, at_work, with_control}, Turns.{a_line, no_line}}, proofs.Traces.{Does-at, Does-then, read_so, with_askers}}
use Rattle.gateway_serving.proofs.server.Server.hear_control_next.Goals as goal

pub returns-in-Ok-Datagram : goal.returns-in-Ok-Datagram
returns-in-Ok-Datagram g c =
    let got = c.in-Ok-Datagram in
    let now = c.recv.new.self in
    let bytes = take got.octets c.recv.new.buf in
    let is = subst (Answers LinkClosed (g.K.Link.coming c.args.control.now) (g.K.Link.coming now)) (ap (λ (one : Got). link_answer one c.recv.new.buf) got.field-0-is) got.ensures.answer in
    let octets = subst IsShortGot got.field-0-is got.ensures.short in
    let long = length-take got.octets c.recv.new.buf in
    let reads = c.take_line.ensures.lines in record {
      lines = λ around. record {
        answers = a_line got.from bytes reads.line ∷ [];
        goes = record {
          does = with_askers (waiting_in c.take_line.new.askers) (Does-at
              (Does-then (read_so (link_at g.K.Link now) _ _ 0 (LineCame got.from bytes ∷ []) (one_answer LinkClosed _ _ _ _ is refl) c.recv.ensures.waits c.recv.ensures.buffer)
              (reads.does (with_control (record around { room = length c.recv.new.buf }) (at_control (at_work c.args.self.now (link_at g.L.Link c.args.link.now) (g.L.Link.longest_wait c.args.link.now) (out_at g.O.OutLink c.args.out.now)) (link_at g.K.Link now) (g.K.Link.longest_wait now) (waiting_in c.args.askers.now)))))
              refl refl refl refl refl (λ is. is) refl refl (omega arith) (omega arith) (omega arith));
          untried = record { same_tried = c.recv.ensures.sends; same_faults = c.recv.ensures.apart };
          asked = reads.asked;
        };
        ends = (a_line got.from bytes reads.line, (omega (arith, octets, long), reads.may), refl);
        cause = not_cause _ _ _ _ (λ is. cc) got.ensures.cause.quiet;
      };
    }

pub returns-in-Ok-Nothing : goal.returns-in-Ok-Nothing
returns-in-Ok-Nothing g c =
    let got = c.in-Ok-Nothing in
    let is = subst (Answers LinkClosed (g.K.Link.coming c.args.control.now) (g.K.Link.coming c.recv.new.self)) (ap (λ (one : Got). link_answer one c.recv.new.buf) got.field-0-is) got.ensures.answer in record {
      lines = λ around. record {
        answers = no_line NothingCame ∷ [];
        goes = record {
          does = read_so _ _ _ 2 (NothingCame ∷ []) (one_answer LinkClosed _ _ _ _ is refl) c.recv.ensures.waits c.recv.ensures.buffer;
          untried = record { same_tried = c.recv.ensures.sends; same_faults = c.recv.ensures.apart };
          asked = sym (append-nil _);
        };
        ends = refl;
        cause = not_cause _ _ _ _ (λ is. cc) got.ensures.cause.quiet;
      };
    }

pub returns-in-Ok-Closed : goal.returns-in-Ok-Closed
returns-in-Ok-Closed g c =
    let got = c.in-Ok-Closed in
    let is = subst (Answers LinkClosed (g.K.Link.coming c.args.control.now) (g.K.Link.coming c.recv.new.self)) (ap (λ (one : Got). link_answer one c.recv.new.buf) got.field-0-is) got.ensures.answer in record {
      lines = λ around. record {
        answers = no_line LinkClosed ∷ [];
        goes = record {
          does = read_so _ _ _ 2 (LinkClosed ∷ []) (one_answer LinkClosed _ _ _ _ is refl) c.recv.ensures.waits c.recv.ensures.buffer;
          untried = record { same_tried = c.recv.ensures.sends; same_faults = c.recv.ensures.apart };
          asked = sym (append-nil _);
        };
        ends = inl (refl, refl);
        cause = not_cause _ _ _ _ (λ is. cc) got.ensures.cause.quiet;
      };
    }

pub returns-in-Err : goal.returns-in-Err
returns-in-Err g c = record {
  lines = λ around. record {
    answers = [];
    goes = record {
      does = read_so _ _ _ 0 [] c.in-Err.ensures.kept c.recv.ensures.waits c.recv.ensures.buffer;
      untried = record { same_tried = c.recv.ensures.sends; same_faults = c.recv.ensures.apart };
      asked = sym (append-nil _);
    };
    ends = inr (refl, refl);
    cause = record { rose = λ _. c.in-Err.ensures.cause.failed; calm = λ isnt. absurd (isnt refl) };
  };
}
