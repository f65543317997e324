use Rattle.std.proofs.Common.{◌≡◌, ℕ, Option, IfSome, subst}
use Rattle.relay_load.{specs.Script.{load_packets, load_script_of, load_updates}, proofs.Items.{same_script, whole}}
use Rattle.relay_load.proofs.script.load_script.Goals as goal

pub returns-clause-script : goal.returns-clause-script
unfolding load_script_of
returns-clause-script c =
    let zero = subst (λ (moment : Option ℕ). IfSome moment (λ ms. ms ≡ 0)) c.unwrap-start.ensures c.new.ensures.value in
    same_script _ _ _ _ _ c.load_settings.ensures.value
    (whole (load_updates c.args.seed c.args.count) load_packets _ _ _ _ _ zero c.in_ok-items.ensures c.in_ok-push.ensures.ok c.in_ok-append_updates.ensures.updates c.in_ok-append_packets.ensures.packets)

pub returns-clause-runs : goal.returns-clause-runs
returns-clause-runs c =
    let settings = c.load_settings.result in
    record {
      lawful = c.load_settings.ensures.lawful;
      sized = c.in_ok-append_packets.ensures.sized settings (c.in_ok-append_updates.ensures.sized settings (rw (c.in_ok-push.ensures.ok, c.in_ok-items.ensures) (tt, tt)));
    }
