-- Devices that were opened and given back, or refused, put together from what each call says.
use Rattle.std.proofs.Common.{◌≡◌, ℕ, List, Option, None, Some, IsSome, sym, subst, ap, arith, ◌∙◌}
use Rattle.serving_commands.specs.{Sets.{HasRoom, TakesFirst, less_room, more_room}, declared.opening.{asked.Opening.{Opening}, devices.DeviceSet.{DeviceSet}, live.Live.{Ghosts as LiveTells}}, Openings.{IsLent}}
use Rattle.amt_ports.specs.Told.{Appends}

-- what was opened can be given back
pub has_room : (before after : Option ℕ) → after ≡ more_room before → HasRoom after
has_room None after more = subst (λ (room : Option ℕ). HasRoom room) (sym more) tt
has_room (Some sets) after more = subst (λ (room : Option ℕ). HasRoom room) (sym more) (omega arith)

same_room : (before between after : Option ℕ) → between ≡ more_room before → after ≡ less_room between → after ≡ before
same_room None between after more less = less ∙ ap less_room more
same_room (Some sets) between after more less = less ∙ ap less_room more ∙ ap Some (omega arith)

module _ {V R G : Type 0} (live : LiveTells V R G) where
  pub lent : (opening : Opening) (opened left : DeviceSet R G) (before between after : V)
      → Appends (live.asked before) (live.asked between) opening → TakesFirst (live.sets before) (live.sets between) opened
      → (IsSome (live.asked before) → IsSome (live.asked between)) → live.returned between ≡ live.returned before → live.room between ≡ more_room (live.room before)
      → Appends (live.returned between) (live.returned after) left → (IsSome (live.returned between) → IsSome (live.returned after))
      → live.room after ≡ less_room (live.room between) → live.sets after ≡ live.sets between → live.asked after ≡ live.asked between
      → IsLent live opening opened left before after
  lent opening opened left before between after asked first tells returned more back tells_back less sets asked_after = record {
    asked = subst (λ (all : Option (List Opening)). Appends (live.asked before) all opening) (sym asked_after) asked;
    first = subst (λ (all : Option (List (DeviceSet R G))). TakesFirst (live.sets before) all opened) (sym sets) first;
    returned = subst (λ (all : Option (List (DeviceSet R G))). Appends all (live.returned after) left) returned back;
    tells_asked = λ some. subst (λ (all : Option (List Opening)). IsSome all) (sym asked_after) (tells some);
    tells_returned = λ some. tells_back (subst (λ (all : Option (List (DeviceSet R G))). IsSome all) (sym returned) some);
    room = same_room _ _ _ more less;
  }
