-- A script that some octets spell can be run.
use Rattle.std.{proofs.{Common.{◌≡◌, ℕ, List, [], ◌∷◌, ◌++◌, refl, sym, subst, ap, ◌∙◌, append_assoc, append-nil}, lemmas.List.Elements.{filter_map-append}}, specs.{List.{AllByRecursion}, Str.Lines.{lines}}}
use Rattle.endpoint_membership.specs.declared.limits.Limits.{Limits as LimitsValue}
use Rattle.relay_machine.specs.{EventSize.{IsEvent}, declared.{event.Event.{Event, TheVariants.{Moment, Datagram, Packet, Rotate, Limits}}, settings.Settings.{Settings}}}
use Rattle.script_lines.{proofs.Forms.{hex_sized}, specs.{Lines.{fields, lines_that_say}, Script.{Say}}}
use Rattle.amt_script.{specs.{declared.{line.RelayStatement.{RelayStatement}, script.{RelayItem.{RelayItem}, RelayScript.{RelayScript}}, setting.Setting.{Setting}}, Running.{IsItem, IsRunnable}, Says.{SaysEvent, SaysItem}, Script.{MayCome, setting_in, settings_in, item_in, items_in, relay_kind, IsRelayScript}, Settling.{limits_given}}, proofs.Settlings.{limits_settled}}
use Rattle.amt_script.specs.declared.line.RelayStatement.TheVariants as statements
use Rattle.amt_script.specs.declared.script.RelayItem.TheVariants as items

event_may_come : (settings : Settings) (event : Event) (line : List (List ℕ)) → MayCome settings.limits (items.Event event) → SaysEvent event line → IsEvent settings event
event_may_come settings (Moment ms) line may says = tt
event_may_come settings (Datagram bytes from) line may says = hex_sized bytes says.next says.names_next
event_may_come settings (Packet bytes) line may says = hex_sized bytes says.text says.names
event_may_come settings (Rotate secret) line may says = tt
event_may_come settings (Limits limits) line may says = may

item_may_come : (settings : Settings) (item : RelayItem) (line : List (List ℕ)) → MayCome settings.limits item → SaysItem item line → IsItem settings item
item_may_come settings (items.Event event) line may says = event_may_come settings event line may says
item_may_come settings items.Show line may says = tt

some_item : (before : List RelayItem) (item : RelayItem) → before ++ item ∷ [] ≡ [] → ⊥
some_item [] item same = cc same
some_item (first ∷ rest) item same = cc same

after_item : (past : List RelayStatement) (item : RelayItem) → items_in (past ++ statements.Item item ∷ []) ≡ [] → ⊥
after_item past item same = some_item (items_in past) item (sym (filter_map-append item_in past (statements.Item item ∷ [])) ∙ same)

-- after an item no line gives a setting
no_more_settings : (past said : List RelayStatement) (ls : List (List ℕ)) → (items_in past ≡ [] → ⊥) → Say relay_kind past said ls → settings_in said ≡ []
no_more_settings past [] ls late each = refl
no_more_settings past (one ∷ said) [] late each = absurd each
no_more_settings past (statements.Setting setting ∷ said) (line ∷ ls) late each = absurd (late each.1.0.early)
no_more_settings past (statements.Item item ∷ said) (line ∷ ls) late each =
    no_more_settings (past ++ statements.Item item ∷ []) said ls (after_item past item) each.2

all_settings : (past said : List RelayStatement) (item : RelayItem) (ls : List (List ℕ)) → Say relay_kind (past ++ statements.Item item ∷ []) said ls
    → settings_in (past ++ statements.Item item ∷ said) ≡ settings_in past
all_settings past said item ls each =
    filter_map-append setting_in past (statements.Item item ∷ said)
    ∙ (ap (λ (more : List Setting). settings_in past ++ more) (no_more_settings (past ++ statements.Item item ∷ []) said ls (after_item past item) each)
    ∙ append-nil (settings_in past))

-- each item may come after all settings, since those before it are all
items_may_come : (settings : Settings) (past said : List RelayStatement) (ls : List (List ℕ)) → settings.limits ≡ limits_given (settings_in (past ++ said))
    → Say relay_kind past said ls → AllByRecursion (IsItem settings) (items_in said)
items_may_come settings past [] ls same each = tt
items_may_come settings past (one ∷ said) [] same each = absurd each
items_may_come settings past (statements.Setting setting ∷ said) (line ∷ ls) same each =
    items_may_come settings (past ++ statements.Setting setting ∷ []) said ls
    (same ∙ ap (λ (all : List RelayStatement). limits_given (settings_in all)) (sym (append_assoc past (statements.Setting setting ∷ []) said))) each.2
items_may_come settings past (statements.Item item ∷ said) (line ∷ ls) same each =
    let before = same ∙ ap limits_given (all_settings past said item ls each.2) in (
      item_may_come settings item (fields line) (subst (λ (limits : LimitsValue). MayCome limits item) (sym before) each.1.0) each.1.1,
      items_may_come settings (past ++ statements.Item item ∷ []) said ls
          (same ∙ ap (λ (all : List RelayStatement). limits_given (settings_in all)) (sym (append_assoc past (statements.Item item ∷ []) said))) each.2,
    )

pub runs : (script : RelayScript) (bytes : List ℕ) → IsRelayScript script bytes → IsRunnable script
runs script bytes spelled =
    let same = limits_settled (settings_in spelled.said) script.settings script.secret spelled.made.settled in record {
      lawful = spelled.made.lawful;
      sized = subst (AllByRecursion (IsItem script.settings)) (sym spelled.made.items)
          (items_may_come script.settings [] spelled.said (lines_that_say (lines bytes)) same spelled.all_lines.says);
    }
