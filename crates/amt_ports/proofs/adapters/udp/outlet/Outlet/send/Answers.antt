use Rattle.std.proofs.Common.{refl, subst, [], ◌∷◌}
use Rattle.amt_ports.{specs.{Outlets.{once, tried, try_of, twice, waited}, Told.{AppendsAll}, declared.adapters.udp.outlet.Attempt.TheVariants.{Full}}, proofs.Told.{AppendsAll-then}}
use Rattle.amt_ports.proofs.adapters.udp.outlet.Outlet.send.Goals as goal

pub returns-then-not-is_to_wait-clause-course : goal.returns-then-not-is_to_wait-clause-course
returns-then-not-is_to_wait-clause-course g c =
    (tried c.args.to.now c.args.bytes.now (try_of c.try_send-first.result) ∷ [], once (c.is_to_wait.ensures.not c.if-not-is_to_wait.true) refl, c.try_send-first.ensures)

pub returns-clause-course : goal.returns-clause-course
returns-clause-course g c =
    let to = c.args.to.now in
    let bytes = c.args.bytes.now in
    let waits = c.is_to_wait.ensures.waits c.if-not-is_to_wait.false in
    let full = subst (λ one. AppendsAll (g.S.Unwaiting.done c.args.self.now.socket) (g.S.Unwaiting.done c.try_send-first.new.self) (tried to bytes one ∷ [])) waits.0 c.try_send-first.ensures in
    let last = tried to bytes (try_of c.try_send.result) in (
      tried to bytes Full ∷ waited ∷ last ∷ [],
      twice waits.1 refl,
      AppendsAll-then _ _ _ (tried to bytes Full ∷ []) (waited ∷ last ∷ []) full
          (AppendsAll-then _ _ _ (waited ∷ []) (last ∷ []) c.wait_for_room.ensures c.try_send.ensures),
    )
