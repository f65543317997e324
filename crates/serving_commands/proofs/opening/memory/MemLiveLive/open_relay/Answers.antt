use Rattle.std.proofs.Common.{◌≡◌, ◌⊎◌, ◌∙◌, Contains, IsSome, ap, false, inl, inr, subst, sym}
use Rattle.amt_ports.specs.{Causes.{next_count}, Tally.{with_call, with_fault}, Told.{Appends}}
use Rattle.serving_commands.{specs.{Seen.{is_asked}, Sets.{fits_relay}, declared.opening.{asked.Opening.TheVariants.{Relay as AskedRelay}, live.OpenFault.TheVariants.{Failed}}}, proofs.Faults.{same_fault}}
use Rattle.serving_commands.proofs.opening.memory.MemLiveLive.open_relay.Goals as goal

pub returns-in-Err-clause-quiet : goal.returns-in-Err-clause-quiet
returns-in-Err-clause-quiet g c = λ other.
    let counted = c.in-Err.ensures.ok (λ is. other (same_fault c.in-Err.fault Failed is)) in
    subst (λ live. c.admit.new.calls.faults ≡ live.calls.faults) c.self.view_is (ap (λ calls. calls.faults) counted)

pub returns-in-Err-clause-listed : goal.returns-in-Err-clause-listed
returns-in-Err-clause-listed g c = λ listed.
    same_fault c.in-Err.fault Failed
    (c.in-Err.ensures.listed (subst (λ live. Contains live.calls.failing (next_count live.calls.made)) (sym c.self.view_is) listed))

pub returns-in-Err-clause-only : goal.returns-in-Err-clause-only
returns-in-Err-clause-only g c = λ is.
    subst (λ live. Contains live.calls.failing (next_count live.calls.made) ⊎ (fits_relay g.R.RelaySet.seen c.args.slots (is_asked c.args.asking.now) live.sets ≡ false)) c.self.view_is
    (elim (c.in-Err.ensures.only (same_fault c.in-Err.fault Failed is)) [
      | inl listed ↦ inl listed
      | inr unfit ↦ inr (subst (λ sets. fits_relay g.R.RelaySet.seen c.args.slots (is_asked c.args.asking.now) sets ≡ false) c.as_slice.ensures.value
          (subst (λ asked. fits_relay g.R.RelaySet.seen c.args.slots asked c.as_slice.result.now ≡ false) c.is_wanted-asked.ensures (sym c.fits_relay-fits.ensures ∙ unfit)))
    ])

pub returns-in-Err-clause-ok : goal.returns-in-Err-clause-ok
returns-in-Err-clause-ok g c = λ other.
    let counted = c.in-Err.ensures.ok (λ is. other (same_fault c.in-Err.fault Failed is)) in
    subst (λ live. c.admit.new.calls ≡ with_call live.calls) c.self.view_is counted

pub returns-in-Ok-clause-asked : goal.returns-in-Ok-clause-asked
returns-in-Ok-clause-asked g c = subst (λ live. Appends live.asked c.admit.new.asked (AskedRelay c.args.listen.now c.args.feed.now c.args.asking.now c.args.slots)) c.self.view_is c.in-Ok.ensures.asked

pub returns-in-Ok-clause-tells : goal.returns-in-Ok-clause-tells
returns-in-Ok-clause-tells g c = subst (λ live. IsSome live.asked → IsSome c.admit.new.asked) c.self.view_is c.in-Ok.ensures.tells

pub returns-in-Ok-clause-quiet : goal.returns-in-Ok-clause-quiet
returns-in-Ok-clause-quiet g c = λ other. subst (λ live. c.admit.new.calls.faults ≡ live.calls.faults) c.self.view_is (ap (λ calls. calls.faults) (c.in-Ok.ensures.ok (λ is. cc is)))

pub returns-in-Ok-clause-listed : goal.returns-in-Ok-clause-listed
returns-in-Ok-clause-listed g c = λ listed.
    absurd (cc (c.in-Ok.ensures.listed (subst (λ live. Contains live.calls.failing (next_count live.calls.made)) (sym c.self.view_is) listed)))

pub returns-in-Ok-clause-ok : goal.returns-in-Ok-clause-ok
returns-in-Ok-clause-ok g c = λ other. subst (λ live. c.admit.new.calls ≡ with_call live.calls) c.self.view_is (c.in-Ok.ensures.ok (λ is. cc is))

pub returns-in-Err-clause-asked : goal.returns-in-Err-clause-asked
returns-in-Err-clause-asked g c = subst (λ live. Appends live.asked c.admit.new.asked (AskedRelay c.args.listen.now c.args.feed.now c.args.asking.now c.args.slots)) c.self.view_is c.in-Err.ensures.asked

pub returns-in-Err-clause-unfit : goal.returns-in-Err-clause-unfit
returns-in-Err-clause-unfit g c = λ unfit.
    same_fault c.in-Err.fault Failed
    (c.in-Err.ensures.unfit (c.fits_relay-fits.ensures ∙ subst (λ asked. fits_relay g.R.RelaySet.seen c.args.slots asked c.as_slice.result.now ≡ false) (sym c.is_wanted-asked.ensures) (subst (λ sets. fits_relay g.R.RelaySet.seen c.args.slots (is_asked c.args.asking.now) sets ≡ false) (sym c.as_slice.ensures.value) (subst (λ live. fits_relay g.R.RelaySet.seen c.args.slots (is_asked c.args.asking.now) live.sets ≡ false) (sym c.self.view_is) unfit))))

pub returns-in-Err-clause-err : goal.returns-in-Err-clause-err
returns-in-Err-clause-err g c = λ is. subst (λ live. c.admit.new.calls ≡ with_fault (with_call live.calls)) c.self.view_is (c.in-Err.ensures.err (same_fault c.in-Err.fault Failed is))
