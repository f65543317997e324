-- The first reason of a line, where more reasons are tried that the line never has.
use Rattle.std.proofs.Common.{◌≡◌, ◌≢◌, ℕ, List, [], ◌∷◌, ◌++◌, length, None, Option, Some, inl, inr, refl, sym, subst}
use Rattle.amt_values.specs.Conditions.{First}
use Rattle.amt_script.specs.{Fault.{order_of_values as relay_order_of_values, order_of_reasons as relay_order_of_reasons}, SetLine.{FailsToSet}, Row.{form_of_key}, declared.{kind.Key.{Key}, setting.Setting.{Setting}}}
use Rattle.amt_script.specs.declared.kind.Key.TheVariants as keys
use Rattle.gateway_script.specs.{Fault.{order_of_values as gateway_order_of_values}, Row.{shape_of}, SocketLine.{FailsAsCall}}
use Rattle.group_records.specs.declared.family.Family.{Family}
use Rattle.script_lines.specs.{Form.{Fails, Form, a_moment, a_secret, some_octets}, Reading.{FailsFirst}, Shape.{FailsIn, SomeFails}, declared.{fault.LineError.{LineError, TheVariants.{Bad, Memory}}, reason.Reason.{Reason}}}
use Rattle.script_lines.specs.declared.reason.Reason.TheVariants as reasons
use Rattle.pair_script.specs.Fault.{FailsAsNumber, FailsToCall, order_of_reasons, order_of_values}

-- what is tried after these reasons is tried in another order
pub on_after : {R : Type 0} (P : R → Type 0) (before rest other : List R) (reason : R) → (First P rest reason → First P other reason)
    → First P (before ++ rest) reason → First P (before ++ other) reason
on_after P [] rest other reason on first = on first
on_after P (next ∷ before) rest other reason on (inl here) = inl here
on_after P (next ∷ before) rest other reason on (inr later) = inr (later.0, on_after P before rest other reason on later.1)

abbrev pub Never : Form → Reason → Type 0
Never form reason = (text : List ℕ) → Fails form text reason → ⊥

-- a field of the form fails for no reason that no relay's line has
pub record IsRelayForm (form : Form) : Type 0 where
  pub word : Never form reasons.Word
  pub late : Never form reasons.Late
  pub twice : Never form reasons.Twice
  pub name : Never form reasons.Name
  pub mode : Never form reasons.Mode
  pub group : Never form reasons.Group

one_never : (form : Form) (values : List (List ℕ)) (reason : Reason) → Never form reason → SomeFails (form ∷ []) None values reason → ⊥
one_never form [] reason never h = h
one_never form (text ∷ []) reason never (inl h) = never text h
one_never form (text ∷ []) reason never (inr h) = h
one_never form (text ∷ next ∷ more) reason never (inl h) = never text h
one_never form (text ∷ next ∷ more) reason never (inr h) = h

none_never : (values : List (List ℕ)) (reason : Reason) → SomeFails [] None values reason → ⊥
none_never [] reason h = h
none_never (text ∷ more) reason h = h

abbrev WithNames : (Reason → Type 0) → Type 0
WithNames P = (P reasons.Name → ⊥) × (P reasons.Mode → ⊥) × (P reasons.Group → ⊥)

with_names : (P : Reason → Type 0) (reason : Reason) → WithNames P
    → First P (reasons.Range ∷ []) reason → First P (reasons.Name ∷ reasons.Mode ∷ reasons.Group ∷ reasons.Range ∷ []) reason
with_names P reason none first = inr (none.0, inr (none.1, inr (none.2, first)))

-- a line that fails for none of the first three reasons
pub past_three : (P : Reason → Type 0) (reason : Reason) → (P reasons.Word → ⊥) → (P reasons.Late → ⊥) → (P reasons.Twice → ⊥) → First P order_of_values reason
    → First P order_of_reasons reason
past_three P reason word late twice first = inr (word, inr (late, inr (twice, first)))

-- and for none of those that no relay's line has
judged : (P : Reason → Type 0) (reason : Reason) → (P reasons.Word → ⊥) → (P reasons.Late → ⊥) → (P reasons.Twice → ⊥) → WithNames P → First P relay_order_of_values reason
    → First P order_of_reasons reason
judged P reason word late twice none first =
    past_three P reason word late twice
    (on_after P (reasons.Count ∷ reasons.Number ∷ reasons.Hex ∷ reasons.Address ∷ reasons.Peer ∷ []) (reasons.Range ∷ [])
    (reasons.Name ∷ reasons.Mode ∷ reasons.Group ∷ reasons.Range ∷ []) reason (with_names P reason none) first)

-- a line of one field of such a form
abbrev pub FailsAsOne : Form → List (List ℕ) → Reason → Type 0
FailsAsOne form values reason = FailsIn (record { forms = form ∷ []; repeated = None }) values reason

pub one_judged : (form : Form) (values : List (List ℕ)) (reason : Reason) → IsRelayForm form
    → First (FailsAsOne form values) relay_order_of_values reason → First (FailsAsOne form values) order_of_reasons reason
one_judged form values reason is =
    let never = one_never form values in
    judged (FailsAsOne form values) reason (never reasons.Word is.word) (never reasons.Late is.late) (never reasons.Twice is.twice)
    (never reasons.Name is.name, never reasons.Mode is.mode, never reasons.Group is.group)

pub relay_moment : IsRelayForm a_moment
relay_moment = record { word = λ text h. h; late = λ text h. h; twice = λ text h. h; name = λ text h. h; mode = λ text h. h; group = λ text h. h }

pub relay_secret : IsRelayForm a_secret
relay_secret = record { word = λ text h. h; late = λ text h. h; twice = λ text h. h; name = λ text h. h; mode = λ text h. h; group = λ text h. h }

relay_octets : IsRelayForm some_octets
relay_octets = record { word = λ text h. h; late = λ text h. h; twice = λ text h. h; name = λ text h. h; mode = λ text h. h; group = λ text h. h }

pub packet_judged : (values : List (List ℕ)) (error : LineError) → FailsFirst (FailsAsOne some_octets values) relay_order_of_values error
    → FailsFirst (FailsAsOne some_octets values) order_of_reasons error
packet_judged values (Bad reason) first = one_judged some_octets values reason relay_octets first
packet_judged values Memory first = tt

abbrev FailsAsNone : List (List ℕ) → Reason → Type 0
FailsAsNone values reason = FailsIn (record { forms = []; repeated = None }) values reason

pub show_judged : (values : List (List ℕ)) (reason : Reason) → First (FailsAsNone values) relay_order_of_values reason
    → First (FailsAsNone values) order_of_reasons reason
show_judged values reason =
    let never = none_never values in
    judged (FailsAsNone values) reason (never reasons.Word) (never reasons.Late) (never reasons.Twice) (never reasons.Name, never reasons.Mode, never reasons.Group)

-- no field of a setting fails for these
no_name : (key : Key) → Never (form_of_key key) reasons.Name
no_name keys.Relay text h = h
no_name key text h = h

no_mode : (key : Key) → Never (form_of_key key) reasons.Mode
no_mode keys.Relay text h = h
no_mode key text h = h

no_group : (key : Key) → Never (form_of_key key) reasons.Group
no_group keys.Relay text h = h
no_group key text h = h

pub set_judged : {I : Type 0} → (given : List Setting) (items : List I) (values : List (List ℕ)) (reason : Reason)
    → First (FailsToSet given items values) relay_order_of_reasons reason → First (FailsToSet given items values) order_of_reasons reason
set_judged given items values reason first =
    on_after (FailsToSet given items values)
    (reasons.Word ∷ reasons.Late ∷ reasons.Twice ∷ reasons.Count ∷ reasons.Number ∷ reasons.Hex ∷ reasons.Address ∷ reasons.Peer ∷ []) (reasons.Range ∷ [])
    (reasons.Name ∷ reasons.Mode ∷ reasons.Group ∷ reasons.Range ∷ []) reason
    (with_names (FailsToSet given items values) reason (
      λ h. one_never (form_of_key h.0) h.1 reasons.Name (no_name h.0) h.3,
      λ h. one_never (form_of_key h.0) h.1 reasons.Mode (no_mode h.0) h.3,
      λ h. one_never (form_of_key h.0) h.1 reasons.Group (no_group h.0) h.3,
    )) first

-- no form of any field fails for these
pub form_late : (form : Form) → Never form reasons.Late
form_late a_moment text h = h
form_late form text h = h

pub form_twice : (form : Form) → Never form reasons.Twice
form_twice a_moment text h = h
form_twice form text h = h

pub all_never : (forms : List Form) (repeated : Option Form) (values : List (List ℕ)) (reason : Reason) → ((form : Form) → Never form reason)
    → SomeFails forms repeated values reason → ⊥
all_never forms repeated [] reason never h = h
all_never [] None (text ∷ texts) reason never h = h
all_never [] (Some form) (text ∷ texts) reason never (inl h) = never form text h
all_never [] (Some form) (text ∷ texts) reason never (inr h) = all_never [] (Some form) texts reason never h
all_never (form ∷ forms) repeated (text ∷ texts) reason never (inl h) = never form text h
all_never (form ∷ forms) repeated (text ∷ texts) reason never (inr h) = all_never forms repeated texts reason never h

call_first : (family : Family) (word : List ℕ) (values : List (List ℕ)) (reason : Reason)
    → First (FailsAsCall family (word ∷ values)) (reasons.Word ∷ gateway_order_of_values) reason
    → First (FailsAsCall family (word ∷ values)) order_of_reasons reason
call_first family word values reason first =
    let P : Reason → Type 0 = FailsAsCall family (word ∷ values) in
    on_after P (reasons.Word ∷ []) gateway_order_of_values (reasons.Late ∷ reasons.Twice ∷ gateway_order_of_values) reason
    (λ later. inr (
      λ h. let shape = shape_of (Some family) h.0 in all_never shape.forms shape.repeated h.1 reasons.Late form_late h.4,
      inr (λ h. let shape = shape_of (Some family) h.0 in all_never shape.forms shape.repeated h.1 reasons.Twice form_twice h.4, later),
    )) first

pub call_judged : (family : Family) (word : List ℕ) (rest values : List (List ℕ)) (error : LineError) → values ≡ word ∷ rest
    → FailsFirst (FailsAsCall family (word ∷ rest)) (reasons.Word ∷ gateway_order_of_values) error → FailsFirst (FailsToCall family values) order_of_reasons error
call_judged family word rest values (Bad reason) parts first =
    subst (λ (vs : List (List ℕ)). First (FailsToCall family vs) order_of_reasons reason) (sym parts) (call_first family word rest reason first)
call_judged family word rest values Memory parts first = tt

pub name_alone : (family : Family) (values : List (List ℕ)) → values ≡ [] → First (FailsToCall family values) order_of_reasons reasons.Count
name_alone family values none =
    subst (λ (vs : List (List ℕ)). First (FailsToCall family vs) order_of_reasons reasons.Count) (sym none)
    (inr (λ h. h, inr (λ h. h, inr (λ h. h, inl (tt, refl)))))

pub number_counted : (values : List (List ℕ)) → length values ≢ 1 → First (FailsAsNumber values) order_of_reasons reasons.Count
number_counted values count =
    let never = one_never a_moment values in
    past_three (FailsAsNumber values) reasons.Count (never reasons.Word (λ text h. h)) (never reasons.Late (λ text h. h)) (never reasons.Twice (λ text h. h)) (inl (count, refl))
