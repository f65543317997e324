-- The items of a load, one more at a time.
use Rattle.std.proofs.Common.{◌≡◌, ℕ, ◌+◌, ◌*◌, ◌≤◌, Bool, List, [], ◌∷◌, ◌++◌, map, length, refl, sym, ap, subst, ◌∙◌, append_assoc, arith}
use Rattle.std.{proofs.lemmas.List.{map-append, FromFn.{map-range_with_len_more}}, specs.List.{range_with_len, AllByRecursion}}
use Rattle.amt_script.specs.{Running.{IsItem}, declared.script.{RelayItem.{RelayItem, TheVariants.{Event as EventItem}}, RelayScript.{RelayScript}}}
use Rattle.response_mac.specs.declared.secret.Secret.{Secret}
use Rattle.relay_machine.specs.declared.{event.Event.{Event, TheVariants.{Moment}}, settings.Settings.{Settings}}
use Rattle.relay_load.{specs.{Generator.{number_after}, Packets.{packet_to}, Updates.{chosen_exclude, chosen_group, chosen_nonce, chosen_port, chosen_update, record_with, update_at, update_with}}, proofs.Draws.{draws_before}}

-- what holds of all items and of one more, holds of all these
pub all_more : {X : Type 0} (Fact : X → Type 0) (xs : List X) (x : X) → AllByRecursion Fact xs → Fact x → AllByRecursion Fact (xs ++ x ∷ [])
all_more Fact [] x all one = (one, tt)
all_more Fact (y ∷ ys) x all one = (all.0, all_more Fact ys x all.1 one)

-- the items are as they may be, where those before were, and the one more is
pub pushed_sized : (settings : Settings) (old items newer : List RelayItem) (item : RelayItem)
    → (AllByRecursion (IsItem settings) old → AllByRecursion (IsItem settings) items) → IsItem settings item → newer ≡ items ++ item ∷ []
    → AllByRecursion (IsItem settings) old → AllByRecursion (IsItem settings) newer
pushed_sized settings old items newer item so_far one push start =
    subst (AllByRecursion (IsItem settings)) (sym push) (all_more (IsItem settings) items item (so_far start) one)

pub packet_size : (bytes : List ℕ) (group : ℕ) → bytes ≡ packet_to group → length bytes ≤ 65535
unfolding packet_to
packet_size bytes group is = rw is (omega arith)

module _ (event_at : ℕ → Event) where
  -- the items of one place more
  items_more : (start : ℕ) → map EventItem (map event_at (range_with_len 1 (start + 1))) ≡ map EventItem (map event_at (range_with_len 1 start)) ++ EventItem (event_at (start + 1)) ∷ []
  items_more start =
      let next : 1 + start ≡ start + 1 = omega arith in
      ap (map EventItem) (map-range_with_len_more event_at 1 start (start + 1) next)
      ∙ map-append EventItem (map event_at (range_with_len 1 start)) (event_at (start + 1) ∷ [])

  -- after other items
  pub pushed : (old items newer : List RelayItem) (before : ℕ) (event : Event)
      → items ≡ old ++ map EventItem (map event_at (range_with_len 1 before))
      → event ≡ event_at (before + 1)
      → newer ≡ items ++ EventItem event ∷ []
      → newer ≡ old ++ map EventItem (map event_at (range_with_len 1 (before + 1)))
  pushed old items newer before event so_far is push =
      push
      ∙ (ap (λ (all : List RelayItem). all ++ EventItem event ∷ []) so_far
      ∙ (append_assoc old (map EventItem (map event_at (range_with_len 1 before))) (EventItem event ∷ [])
      ∙ (ap (λ (e : Event). old ++ (map EventItem (map event_at (range_with_len 1 before)) ++ EventItem e ∷ [])) is
      ∙ ap (λ (all : List RelayItem). old ++ all) (sym (items_more before)))))

-- moment 0, the Updates and the packets, each put at the end of the others
pub whole : (updates packets : List Event) (moment : ℕ) (none start sent all : List RelayItem)
    → moment ≡ 0
    → none ≡ []
    → start ≡ none ++ EventItem (Moment moment) ∷ []
    → sent ≡ start ++ map EventItem updates
    → all ≡ sent ++ map EventItem packets
    → all ≡ map EventItem (Moment 0 ∷ (updates ++ packets))
whole updates packets moment none start sent all is_zero is_none is_start is_sent is_all =
    let first : start ≡ EventItem (Moment 0) ∷ [] = is_start ∙ (ap (λ (items : List RelayItem). items ++ EventItem (Moment moment) ∷ []) is_none ∙ ap (λ (n : ℕ). EventItem (Moment n) ∷ []) is_zero) in
    is_all
    ∙ (ap (λ (items : List RelayItem). items ++ map EventItem packets) (is_sent ∙ ap (λ (items : List RelayItem). items ++ map EventItem updates) first)
    ∙ ap (λ (items : List RelayItem). EventItem (Moment 0) ∷ items) (sym (map-append EventItem updates packets)))

abbrev script_with : Settings → Secret → List RelayItem → RelayScript
script_with settings secret items = record { settings = settings; secret = secret; items = items }

pub same_script : (settings settings' : Settings) (secret : Secret) (items items' : List RelayItem) → settings ≡ settings' → items ≡ items'
    → script_with settings secret items ≡ script_with settings' secret items'
same_script settings settings' secret items items' same_settings same_items = rw (same_settings, same_items) refl

-- the Update by what four words chose
pub same_update : (place port nonce group number : ℕ) (excludes : Bool) → port ≡ chosen_port number → nonce ≡ chosen_nonce number → group ≡ chosen_group number
    → excludes ≡ chosen_exclude number → update_with place port nonce (record_with excludes group) ≡ chosen_update place number
same_update place port nonce group number excludes same_port same_nonce same_group same_exclude =
    rw (same_port, same_nonce, same_group, same_exclude) refl

-- the Update that follows so many others
pub next_update : (seed before number : ℕ) → number ≡ number_after seed (4 * before) → chosen_update (before + 1) number ≡ update_at seed (before + 1)
next_update seed before number is = ap (chosen_update (before + 1)) (is ∙ sym (draws_before seed before))
