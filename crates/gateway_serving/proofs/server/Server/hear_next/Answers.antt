use Rattle.std.proofs.{Common.{[], ◌∷◌, inl, inr, length, take, refl, ap, subst, ◌∙◌, arith}, lemmas.List.{length-take}}
use Rattle.amt_ports.{specs.{Arrivals.{IsShortGot, link_answer}, Told.{Answers}, declared.link.{Got.{Got}, LinkAnswer.TheVariants.{Datagram as DatagramCame, Nothing as NothingCame, Closed as LinkClosed}}, Answers.{taken}, Devices.{link_at}}, proofs.{EndCauses.{not_cause}, Lists.{one_answer}}}
use Rattle.gateway_serving.proofs.Traces.{Does-at, Does-then, heard_so}
use Rattle.gateway_serving.proofs.server.Server.hear_next.Goals as goal

pub returns-in-Ok-Datagram : goal.returns-in-Ok-Datagram
returns-in-Ok-Datagram g c =
    let got = c.in-Ok-Datagram in
    let bytes = take got.octets c.recv.new.buf in
    let is = subst (Answers LinkClosed (g.L.Link.coming c.args.link.now) (g.L.Link.coming c.recv.new.self)) (ap (λ (one : Got). link_answer one c.recv.new.buf) got.field-0-is) got.ensures.answer in
    let octets = subst IsShortGot got.field-0-is got.ensures.short in
    let long = length-take got.octets c.recv.new.buf in
    let hears = c.hear_datagram.ensures.hears in record {
      hears = λ around.
          let now = record around { room = length c.recv.new.buf } in record {
            answers = record { answer = DatagramCame got.from bytes; starved = hears.0 } ∷ [];
            goes = Does-at
                (Does-then
                (heard_so (link_at g.L.Link c.recv.new.self) _ _ 0 (DatagramCame got.from bytes ∷ []) (one_answer LinkClosed _ _ _ _ is refl) c.recv.ensures.sends c.recv.ensures.apart c.recv.ensures.waits c.recv.ensures.buffer)
                (hears.1 now)) refl refl refl refl refl (λ is. is) refl refl refl refl (omega arith);
            ends = (record { answer = DatagramCame got.from bytes; starved = hears.0 }, omega (arith, octets, long), refl);
            cause = not_cause _ _ _ _ (λ is. cc) ((hears.1 now).calm refl ∙ got.ensures.cause.quiet);
          };
    }

pub returns-in-Ok-Nothing : goal.returns-in-Ok-Nothing
returns-in-Ok-Nothing g c =
    let got = c.in-Ok-Nothing in
    let is = subst (Answers LinkClosed (g.L.Link.coming c.args.link.now) (g.L.Link.coming c.recv.new.self)) (ap (λ (one : Got). link_answer one c.recv.new.buf) got.field-0-is) got.ensures.answer in record {
      hears = λ around. record {
        answers = taken NothingCame ∷ [];
        goes = heard_so _ _ _ 2 (NothingCame ∷ []) (one_answer LinkClosed _ _ _ _ is refl) c.recv.ensures.sends c.recv.ensures.apart c.recv.ensures.waits c.recv.ensures.buffer;
        ends = refl;
        cause = not_cause _ _ _ _ (λ is. cc) got.ensures.cause.quiet;
      };
    }

pub returns-in-Ok-Closed : goal.returns-in-Ok-Closed
returns-in-Ok-Closed g c =
    let got = c.in-Ok-Closed in
    let is = subst (Answers LinkClosed (g.L.Link.coming c.args.link.now) (g.L.Link.coming c.recv.new.self)) (ap (λ (one : Got). link_answer one c.recv.new.buf) got.field-0-is) got.ensures.answer in record {
      hears = λ around. record {
        answers = taken LinkClosed ∷ [];
        goes = heard_so _ _ _ 2 (LinkClosed ∷ []) (one_answer LinkClosed _ _ _ _ is refl) c.recv.ensures.sends c.recv.ensures.apart c.recv.ensures.waits c.recv.ensures.buffer;
        ends = inl (refl, refl);
        cause = not_cause _ _ _ _ (λ is. cc) got.ensures.cause.quiet;
      };
    }

pub returns-in-Err : goal.returns-in-Err
returns-in-Err g c = record {
  hears = λ around. record {
    answers = [];
    goes = heard_so _ _ _ 0 [] c.in-Err.ensures.kept c.recv.ensures.sends c.recv.ensures.apart c.recv.ensures.waits c.recv.ensures.buffer;
    ends = inr (refl, refl);
    cause = record { rose = λ _. c.in-Err.ensures.cause.failed; calm = λ isnt. absurd (isnt refl) };
  };
}
