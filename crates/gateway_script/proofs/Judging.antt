-- The first reason why a line is bad, by its kind and its fields.
use Rattle.std.{proofs.Common.{◌≡◌, ℕ, ◌⊎◌, ◌↔◌, List, [], ◌∷◌, ◌++◌, codes, Option, None, Some, IsSome, inl, inr, sym, subst, ◌∙◌}, specs.List.{AllByRecursion}}
use Rattle.amt_values.specs.Conditions.{First}
use Rattle.group_records.specs.declared.family.Family.{Family}
use Rattle.gateway_machine.specs.declared.event.GatewayEvent.{GatewayEvent}
use Rattle.script_lines.{specs.{declared.{fault.LineError.{LineError, TheVariants.{Bad, Memory}}, reason.Reason.{Reason}}, Form.{Form, Fails, a_group, a_mode, a_moment, a_name, a_nonce, a_peer, an_address_of, some_octets}, Reading.{FailsFirst}, Shape.{SomeFails}}, proofs.Firsts.{First-same}}
use Rattle.script_lines.specs.declared.reason.Reason.TheVariants as reasons
use Rattle.gateway_script.{specs.{declared.{kind.{Key.{Key}, LineKind.{LineKind}}, setting.Setting.{Setting}}, Fault.{FailsAfter, FailsAs, FailsInKind, order_of_values, order_of_reasons}, Reading.{FailsToSet, IsEventKind}, Row.{form_of_key, words_of, IsUnknown}, Setting.{set_at}, Settling.{family_given}}, proofs.Rows.{same_kind, same_values}}
use Rattle.gateway_script.specs.declared.kind.Key.TheVariants as keys
use Rattle.gateway_script.specs.declared.kind.LineKind.TheVariants as kinds

pub fails_as : (family : Option Family) (kind : LineKind) (values line : List (List ℕ)) (reason : Reason) → line ≡ words_of kind ++ values
    → FailsInKind family line reason → FailsAs family kind values reason
fails_as family kind values line reason parts fails =
    let both = sym fails.2 ∙ parts in
    subst (λ (vs : List (List ℕ)). FailsAs family kind vs reason) (same_values fails.0 kind fails.1 values both)
    (subst (λ (k : LineKind). FailsAs family k fails.1 reason) (same_kind fails.0 kind fails.1 values both) fails.3)

in_kind : (family : Option Family) (kind : LineKind) (values line : List (List ℕ)) (reason : Reason) → line ≡ words_of kind ++ values
    → FailsAs family kind values reason ↔ FailsInKind family line reason
in_kind family kind values line reason parts = (λ h. (kind, values, parts, h), fails_as family kind values line reason parts)

-- what holds of each reason does of those in an order
pub each_of : {R : Type 0} (P : R → Type 0) (order : List R) → ((reason : R) → P reason) → AllByRecursion P order
each_of P [] each = tt
each_of P (next ∷ more) each = (each next, each_of P more each)

-- the reasons after that of the number of fields
abbrev pub order_of_fields : List Reason
order_of_fields = reasons.Number ∷ reasons.Hex ∷ reasons.Address ∷ reasons.Peer ∷ reasons.Name ∷ reasons.Mode ∷ reasons.Group ∷ reasons.Range ∷ []

-- a field fails for the same reasons whether the kind is given or told by the line
fields_fail : (family : Option Family) (kind : LineKind) (values line : List (List ℕ)) → line ≡ words_of kind ++ values
    → AllByRecursion (λ reason. FailsAs family kind values reason ↔ FailsInKind family line reason) order_of_fields
fields_fail family kind values line parts = each_of (λ reason. FailsAs family kind values reason ↔ FailsInKind family line reason) order_of_fields (λ reason. in_kind family kind values line reason parts)

pub no_set_alone : (kind : LineKind) (values line : List (List ℕ)) → line ≡ words_of kind ++ values → line ≡ codes "set" ∷ [] → ⊥
no_set_alone (kinds.Set key) values line parts alone = cc (sym alone ∙ parts)
no_set_alone kind values line parts alone = cc (sym alone ∙ parts)

counted : (family : Option Family) (kind : LineKind) (values line : List (List ℕ)) → line ≡ words_of kind ++ values
    → (line ≡ codes "set" ∷ []) ⊎ FailsInKind family line reasons.Count → FailsAs family kind values reasons.Count
counted family kind values line parts (inl alone) = absurd (no_set_alone kind values line parts alone)
counted family kind values line parts (inr fails) = fails_as family kind values line reasons.Count parts fails

pub values_judged : (given : List Setting) (events : List GatewayEvent) (line : List (List ℕ)) (kind : LineKind) (values : List (List ℕ)) (reason : Reason)
    → line ≡ words_of kind ++ values → First (FailsAs (family_given given) kind values) order_of_values reason
    → First (FailsAfter given events line) order_of_values reason
values_judged given events line kind values reason parts first =
    let family = family_given given in
    First-same (FailsAs family kind values) (FailsAfter given events line) order_of_values reason
    ((λ h. inr (kind, values, parts, h), counted family kind values line parts), fields_fail family kind values line parts) first

-- a text of the form is never an unknown word
abbrev pub NeverWord : Form → Type 0
NeverWord form = (text : List ℕ) → Fails form text reasons.Word → ⊥

abbrev RepeatsNoWord : Option Form → Type 0
RepeatsNoWord None = Unit {0}
RepeatsNoWord (Some form) = NeverWord form

pub some_word : (forms : List Form) (repeated : Option Form) (values : List (List ℕ)) → AllByRecursion NeverWord forms → RepeatsNoWord repeated
    → SomeFails forms repeated values reasons.Word → ⊥
some_word forms repeated [] each others fails = fails
some_word [] None (text ∷ texts) each others fails = fails
some_word [] (Some form) (text ∷ texts) each others (inl here) = others text here
some_word [] (Some form) (text ∷ texts) each others (inr later) = some_word [] (Some form) texts each others later
some_word (form ∷ forms) repeated (text ∷ texts) each others (inl here) = each.0 text here
some_word (form ∷ forms) repeated (text ∷ texts) each others (inr later) = some_word forms repeated texts each.1 others later

no_family : (keys.Family ≡ keys.Discovery) ⊎ ((keys.Family ≡ keys.Source) ⊎ ((keys.Family ≡ keys.Relay) ⊎ ((keys.Family ≡ keys.Port) ⊎ ((keys.Family ≡ keys.Nonce) ⊎ (keys.Family ≡ keys.LinuxRelay))))) → ⊥
no_family (inl same) = cc same
no_family (inr (inl same)) = cc same
no_family (inr (inr (inl same))) = cc same
no_family (inr (inr (inr (inl same)))) = cc same
no_family (inr (inr (inr (inr (inl same))))) = cc same
no_family (inr (inr (inr (inr (inr same))))) = cc same

-- no field of another setting than the family is an unknown word
pub setting_word : (key : Key) (values : List (List ℕ))
    → (key ≡ keys.Discovery) ⊎ ((key ≡ keys.Source) ⊎ ((key ≡ keys.Relay) ⊎ ((key ≡ keys.Port) ⊎ ((key ≡ keys.Nonce) ⊎ (key ≡ keys.LinuxRelay)))))
    → SomeFails (form_of_key key ∷ []) None values reasons.Word → ⊥
setting_word keys.Family values other fails = no_family other
setting_word key values other fails = some_word (form_of_key key ∷ []) None values (λ text h. h, tt) tt fails

-- no field of an event is an unknown word
event_word : (family : Option Family) (kind : LineKind) (values : List (List ℕ)) → IsEventKind kind → FailsAs family kind values reasons.Word → ⊥
event_word family (kinds.Set key) values event fails = event
event_word family kinds.Moment values event fails = some_word (a_moment ∷ []) None values (λ text h. h, tt) tt fails
event_word family kinds.Nonce values event fails = some_word (a_nonce ∷ []) None values (λ text h. h, tt) tt fails
event_word family kinds.Datagram values event fails = some_word (a_peer ∷ some_octets ∷ []) None values (λ text h. h, (λ text h. h, tt)) tt fails
event_word family kinds.Open values event fails =
    some_word (a_name ∷ a_group family ∷ a_mode ∷ []) (Some (an_address_of family)) values (λ text h. h, (λ text h. h, (λ text h. h, tt))) (λ text h. h) fails
event_word family kinds.Change values event fails =
    some_word (a_name ∷ a_mode ∷ []) (Some (an_address_of family)) values (λ text h. h, (λ text h. h, tt)) (λ text h. h) fails
event_word family kinds.Close values event fails = some_word (a_name ∷ []) None values (λ text h. h, tt) tt fails
event_word family kinds.Leave values event fails = some_word [] None values tt tt fails

-- a line of a kind is a known one, unless a field of it is an unknown word
pub no_word : (family : Option Family) (line : List (List ℕ)) (kind : LineKind) (values : List (List ℕ)) → line ≡ words_of kind ++ values
    → IsUnknown line ⊎ FailsInKind family line reasons.Word → FailsAs family kind values reasons.Word
no_word family line kind values parts (inl unknown) = absurd (unknown.no_kind kind values parts)
no_word family line kind values parts (inr fails) = fails_as family kind values line reasons.Word parts fails

pub no_late : (kind : LineKind) (values line rest : List (List ℕ)) → IsEventKind kind → line ≡ words_of kind ++ values → line ≡ codes "set" ∷ rest → ⊥
no_late (kinds.Set key) values line rest event parts set = event
no_late kind values line rest event parts set = cc (sym set ∙ parts)

pub no_key : (kind : LineKind) (values line : List (List ℕ)) (key : Key) (others : List (List ℕ)) → IsEventKind kind → line ≡ words_of kind ++ values
    → line ≡ words_of (kinds.Set key) ++ others → ⊥
no_key kind values line key others event parts set =
    subst IsEventKind (same_kind kind (kinds.Set key) values others (sym parts ∙ set)) event

pub event_judged : (given : List Setting) (events : List GatewayEvent) (line : List (List ℕ)) (kind : LineKind) (values : List (List ℕ)) (reason : Reason)
    → IsEventKind kind → line ≡ words_of kind ++ values
    → First (FailsAs (family_given given) kind values) order_of_values reason → First (FailsAfter given events line) order_of_reasons reason
event_judged given events line kind values reason event parts first =
    inr (
      λ word. event_word (family_given given) kind values event (no_word (family_given given) line kind values parts word),
      inr (
        λ late. no_late kind values line late.1 event parts late.2,
        inr (
          λ twice. no_key kind values line twice.0 twice.1 event parts twice.2,
          values_judged given events line kind values reason parts first,
        ),
      ),
    )

-- where an event couldn't be read of a line
pub event_failed : (given : List Setting) (events : List GatewayEvent) (family : Option Family) (line : List (List ℕ)) (kind : LineKind) (values : List (List ℕ)) (error : LineError)
    → IsEventKind kind → line ≡ words_of kind ++ values → family ≡ family_given given → FailsFirst (FailsAs family kind values) order_of_values error
    → FailsFirst (FailsAfter given events line) order_of_reasons error
event_failed given events family line kind values (Bad reason) event parts is fails =
    event_judged given events line kind values reason event parts (subst (λ (f : Option Family). First (FailsAs f kind values) order_of_values reason) is fails)
event_failed given events family line kind values Memory event parts is fails = tt

set_key : (one other : Key) → kinds.Set one ≡ kinds.Set other → one ≡ other
set_key one other same = cc

pub twice_at : (given : List Setting) (line : List (List ℕ)) (key : Key) (values : List (List ℕ)) → line ≡ words_of (kinds.Set key) ++ values
    → (other : Key) (others : List (List ℕ)) → line ≡ words_of (kinds.Set other) ++ others → IsSome (set_at given other) → IsSome (set_at given key)
twice_at given line key values parts other others twice set =
    subst (λ (k : Key). IsSome (set_at given k)) (set_key other key (same_kind (kinds.Set other) (kinds.Set key) others values (sym twice ∙ parts))) set

pub setting_judged : (given : List Setting) (events : List GatewayEvent) (line : List (List ℕ)) (key : Key) (values : List (List ℕ)) (reason : Reason)
    → line ≡ words_of (kinds.Set key) ++ values
    → First (FailsToSet given events key values) (reasons.Word ∷ reasons.Late ∷ reasons.Twice ∷ order_of_values) reason
    → First (FailsAfter given events line) order_of_reasons reason
setting_judged given events line key values reason parts first =
    let family = family_given given in
    let kind = kinds.Set key in
    First-same (FailsToSet given events key values) (FailsAfter given events line) order_of_reasons reason (
      (λ h. inr (kind, values, parts, h), no_word family line kind values parts),
      (
        (λ late. (late, _, parts), λ late. late.0),
        (
          (λ twice. (key, values, parts, twice), λ twice. twice_at given line key values parts twice.0 twice.1 twice.2 twice.3),
          ((λ h. inr (kind, values, parts, h), counted family kind values line parts), fields_fail family kind values line parts),
        ),
      ),
    ) first
