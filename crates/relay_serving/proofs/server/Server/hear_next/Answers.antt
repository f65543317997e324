use Rattle.std.proofs.{Common.{[], ◌∷◌, ◌≤◌, ◌+◌, inl, inr, length, take, refl, ap, subst, ◌∙◌, arith}, lemmas.List.{length-take}}
use Rattle.amt_ports.{specs.{Arrivals.{IsShortGot, link_answer}, Told.{Answers}, declared.link.{Got.{Got}, LinkAnswer.TheVariants.{Datagram as DatagramCame, Nothing as NothingCame, Closed as LinkClosed}}, Answers.{refused, taken}, Devices.{link_at}}, proofs.{EndCauses.{not_cause}, Lists.{one_answer}}}
use Rattle.relay_serving.{specs.{Servers.{tally_in}, Traces.{at_link}}, proofs.Traces.{Does-then, alone, heard_so}}
use Rattle.relay_serving.proofs.server.Server.hear_next.Goals as goal

pub returns-in-Ok : goal.returns-in-Ok
returns-in-Ok g c =
    let got = c.in-Ok-Datagram in
    let bytes = take got.octets c.recv.new.buf in
    let is = subst (Answers LinkClosed (g.L.Link.coming c.args.link.now) (g.L.Link.coming c.recv.new.self)) (ap (λ (one : Got). link_answer one c.recv.new.buf) got.field-0-is) got.ensures.answer in
    let octets = subst IsShortGot got.field-0-is got.ensures.short in
    let long = length-take got.octets c.recv.new.buf in record {
      hears = λ around. record {
        answers = taken (DatagramCame got.from bytes) ∷ [];
        goes = Does-then
            (heard_so (link_at g.L.Link c.recv.new.self) _ _ 0 (DatagramCame got.from bytes ∷ []) (one_answer LinkClosed _ _ _ _ is refl) c.recv.ensures.sends c.recv.ensures.apart c.recv.ensures.waits c.recv.ensures.buffer)
            (c.in-Ok.ensures.takes (record around { room = length c.recv.new.buf }));
        ends = (taken (DatagramCame got.from bytes), omega (arith, octets, long), refl);
        cause = not_cause _ _ _ _ (λ is. cc) (c.hear_datagram.ensures.faults ∙ got.ensures.cause.quiet);
      };
    }

pub starve-requires : goal.starve-requires
starve-requires g c =
    let few : tally_in c.hear_datagram.new.self ≤ tally_in c.args.self.now + 0 = (c.in-Err-hear_datagram.ensures.none (alone c.args.self.now)).few in
    record { few = omega (arith, few, c.requires.few); number = omega arith }

pub returns-in-Err-hear_datagram : goal.returns-in-Err-hear_datagram
returns-in-Err-hear_datagram g c =
    let got = c.in-Ok-Datagram in
    let last = c.hear_datagram.new.link in
    let bytes = take got.octets c.recv.new.buf in
    let is = subst (Answers LinkClosed (g.L.Link.coming c.args.link.now) (g.L.Link.coming c.recv.new.self)) (ap (λ (one : Got). link_answer one c.recv.new.buf) got.field-0-is) got.ensures.answer in
    let octets = subst IsShortGot got.field-0-is got.ensures.short in
    let long = length-take got.octets c.recv.new.buf in record {
      hears = λ around. record {
        answers = refused (DatagramCame got.from bytes) ∷ [];
        goes = Does-then
            (heard_so (link_at g.L.Link c.recv.new.self) _ _ 0 (DatagramCame got.from bytes ∷ []) (one_answer LinkClosed _ _ _ _ is refl) c.recv.ensures.sends c.recv.ensures.apart c.recv.ensures.waits c.recv.ensures.buffer)
            (Does-then (c.in-Err-hear_datagram.ensures.none (record around { room = length c.recv.new.buf }))
            (c.starve.ensures.starves (at_link around c.hear_datagram.new.self (link_at g.L.Link last) (g.L.Link.longest_wait last) (length c.recv.new.buf))));
        ends = (refused (DatagramCame got.from bytes), omega (arith, octets, long), refl);
        cause = not_cause _ _ _ _ (λ is. cc) (c.hear_datagram.ensures.faults ∙ got.ensures.cause.quiet);
      };
    }

pub returns-in-Ok-Nothing : goal.returns-in-Ok-Nothing
returns-in-Ok-Nothing g c =
    let got = c.in-Ok-Nothing in
    let is = subst (Answers LinkClosed (g.L.Link.coming c.args.link.now) (g.L.Link.coming c.recv.new.self)) (ap (λ (one : Got). link_answer one c.recv.new.buf) got.field-0-is) got.ensures.answer in record {
      hears = λ around. record {
        answers = taken NothingCame ∷ [];
        goes = heard_so _ _ _ 1 (NothingCame ∷ []) (one_answer LinkClosed _ _ _ _ is refl) c.recv.ensures.sends c.recv.ensures.apart c.recv.ensures.waits c.recv.ensures.buffer;
        ends = refl;
        cause = not_cause _ _ _ _ (λ is. cc) got.ensures.cause.quiet;
      };
    }

pub returns-in-Ok-Closed : goal.returns-in-Ok-Closed
returns-in-Ok-Closed g c =
    let got = c.in-Ok-Closed in
    let is = subst (Answers LinkClosed (g.L.Link.coming c.args.link.now) (g.L.Link.coming c.recv.new.self)) (ap (λ (one : Got). link_answer one c.recv.new.buf) got.field-0-is) got.ensures.answer in record {
      hears = λ around. record {
        answers = taken LinkClosed ∷ [];
        goes = heard_so _ _ _ 1 (LinkClosed ∷ []) (one_answer LinkClosed _ _ _ _ is refl) c.recv.ensures.sends c.recv.ensures.apart c.recv.ensures.waits c.recv.ensures.buffer;
        ends = inl (refl, refl);
        cause = not_cause _ _ _ _ (λ is. cc) got.ensures.cause.quiet;
      };
    }

pub returns-in-Err : goal.returns-in-Err
returns-in-Err g c = record {
  hears = λ around. record {
    answers = [];
    goes = heard_so _ _ _ 0 [] c.in-Err.ensures.kept c.recv.ensures.sends c.recv.ensures.apart c.recv.ensures.waits c.recv.ensures.buffer;
    ends = inr (refl, refl);
    cause = record { rose = λ _. c.in-Err.ensures.cause.failed; calm = λ isnt. absurd (isnt refl) };
  };
}
