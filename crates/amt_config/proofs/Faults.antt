-- The fault of a key, and the first of several keys.
use Rattle.std.{proofs.Common.{◌≡◌, ◌⊎◌, ℕ, Bool, true, false, List, [], ◌∷◌, Option, Some, None, Bor, option_map, inl, inr, refl, sym, subst, ap, ◌∙◌}, specs.{List.{AllByRecursion}, Option.{option_and_then}}}
use Rattle.script_lines.specs.Form.{Form}
use Rattle.toml.specs.{Data.{Data, Members, as_bool, as_integer, as_str, get_member}, View.{view}, declared.value.Value.{Value}}
use Rattle.amt_config.specs.{Arrays.{as_tables, as_texts}, declared.fault.{ConfigFault.{ConfigFault, TheVariants.{Memory}}, KeyFault.{KeyFault, TheVariants.{Missing, Kind, Range}}}, Key.{Fails, FailsBy, IsOutside, IsRight, IsSomeUnfit, IsUnfit, Key, Refuses, RefusesAs, RefusesPeer, Want, a_boolean, a_guarded_peer, a_text, a_whole, fault_of, read_at, reason_of, some_tables, some_texts, text_key}, Reading.{MayFail}, Table.{FirstOf, IsFaultOf, told}}

-- a key has one fault
one_refused : {X : Type 0} (r : Option X) (Unfit : X → Type 0) (cause one other : KeyFault) → RefusesAs r Unfit cause one → RefusesAs r Unfit cause other → one ≡ other
one_refused None Unfit cause one other h k = h ∙ sym k
one_refused (Some x) Unfit cause one other h k = h.1 ∙ sym k.1

one_refused_peer : (anywhere : Bool) (r : Option (List ℕ)) (one other : KeyFault) → RefusesPeer anywhere r one → RefusesPeer anywhere r other → one ≡ other
one_refused_peer anywhere None one other (inl h) (inl k) = h ∙ sym k
one_refused_peer anywhere None one other (inl h) (inr k) = h ∙ sym k
one_refused_peer anywhere None one other (inr h) (inl k) = h ∙ sym k
one_refused_peer anywhere None one other (inr h) (inr k) = h ∙ sym k
one_refused_peer anywhere (Some text) one other (inl h) (inl k) = h.1 ∙ sym k.1
one_refused_peer anywhere (Some text) one other (inl h) (inr k) = absurd (h.0 k.0.0 k.0.1)
one_refused_peer anywhere (Some text) one other (inr h) (inl k) = absurd (k.0 h.0.0 h.0.1)
one_refused_peer anywhere (Some text) one other (inr h) (inr k) = h.1 ∙ sym k.1

one_refusal : (want : Want) (value : Data) (one other : KeyFault) → Refuses want value one → Refuses want value other → one ≡ other
one_refusal (a_text form) value one other h k = one_refused (as_str value) (IsUnfit form) (fault_of (reason_of form)) one other h k
one_refusal (a_guarded_peer anywhere) value one other h k = one_refused_peer anywhere (as_str value) one other h k
one_refusal a_boolean value one other h k = one_refused (as_bool value) (λ flag. ⊥) Kind one other h k
one_refusal (a_whole range) value one other h k = one_refused (as_integer value) (IsOutside range) Range one other h k
one_refusal (some_texts form) value one other h k = one_refused (as_texts value) (IsSomeUnfit form) (fault_of (reason_of form)) one other h k
one_refusal some_tables value one other h k = one_refused (as_tables value) (λ tables. ⊥) Range one other h k

one_by : (key : Key) (found : Option Data) (one other : KeyFault) → FailsBy key found one → FailsBy key found other → one ≡ other
one_by key None one other h k = h.1 ∙ sym k.1
one_by key (Some value) one other h k = one_refusal key.want value one other h k

one_fault_of : (table : Members) (key : Key) (one other : ConfigFault) → IsFaultOf table key one → IsFaultOf table key other → one ≡ other
one_fault_of table key one other h k = h.2 ∙ (ap (told key.word) (one_by key (get_member key.word table) h.0 k.0 h.1 k.1) ∙ sym k.2)

-- of a key that is read so
module _ {X : Type 0} (read : Data → Option X) (Unfit : X → Type 0) (cause : KeyFault) (key : Key) (table : Members) where
  abbrev IsRead : Type 0
  IsRead = (value : Data) (fault : KeyFault) → Refuses key.want value fault → RefusesAs (read value) Unfit cause fault

  abbrev Reads : Type 0
  Reads = (value : Data) (fault : KeyFault) → RefusesAs (read value) Unfit cause fault → Refuses key.want value fault

  fits_as : (r : Option X) (one : X) (fault : KeyFault) → r ≡ Some one → (Unfit one → ⊥) → RefusesAs r Unfit cause fault → ⊥
  fits_as None one fault is fits refused = cc is
  fits_as (Some x) one fault is fits refused = let same : x ≡ one = cc is in fits (subst Unfit same refused.0)

  fits_by : IsRead → (found : Option Data) (one : X) (fault : KeyFault) → option_and_then read found ≡ Some one → (Unfit one → ⊥) → FailsBy key found fault → ⊥
  fits_by reads None one fault is fits fails = cc is
  fits_by reads (Some value) one fault is fits fails = fits_as (read value) one fault is fits (reads value fault fails)

  -- a value that fits is right
  pub right_by : IsRead → (one : X) → read_at read key.word table ≡ Some one → (Unfit one → ⊥) → IsRight table key
  right_by reads one is fits = record { none = λ fault fails. fits_by reads (get_member key.word table) one fault is fits fails }

  unfit_by : Reads → (found : Option Data) (one : X) → option_and_then read found ≡ Some one → Unfit one → FailsBy key found cause
  unfit_by reads None one is unfit = cc is
  unfit_by reads (Some value) one is unfit = reads value cause (subst (λ (r : Option X). RefusesAs r Unfit cause cause) (sym is) (unfit, refl))

  -- one that doesn't fails, and so does one of another type
  pub fails_unfit : Reads → (one : X) → read_at read key.word table ≡ Some one → Unfit one → Fails key table cause
  fails_unfit reads one is unfit = unfit_by reads (get_member key.word table) one is unfit

  pub fails_kind : Reads → (value : Data) → get_member key.word table ≡ Some value → read value ≡ None → Fails key table Kind
  fails_kind reads value there none =
      subst (λ (found : Option Data). FailsBy key found Kind) (sym there)
      (reads value Kind (subst (λ (r : Option X). RefusesAs r Unfit cause Kind) (sym none) refl))

-- a key that isn't there
pub fails_missing : (key : Key) (table : Members) → key.is_required ≡ true → get_member key.word table ≡ None → Fails key table Missing
fails_missing key table must none = subst (λ (found : Option Data). FailsBy key found Missing) (sym none) (must, refl)

absent_by : (key : Key) (found : Option Data) (fault : KeyFault) → key.is_required ≡ false → found ≡ None → FailsBy key found fault → ⊥
absent_by key None fault free none fails = cc (free, fails.0)
absent_by key (Some value) fault free none fails = cc none

pub right_absent : (key : Key) (table : Members) → key.is_required ≡ false → get_member key.word table ≡ None → IsRight table key
right_absent key table free none = record { none = λ fault fails. absent_by key (get_member key.word table) fault free none fails }

-- a fault that is told, or for which memory ran out
pub may_fail : (table : Members) (key : Key) (cause : KeyFault) (fault : ConfigFault) → Fails key table cause → (fault ≡ told key.word cause) ⊎ (fault ≡ Memory) → MayFail table key fault
may_fail table key cause fault fails (inl is) = record { is = inl (cause, fails, is) }
may_fail table key cause fault fails (inr memory) = record { is = inr memory }

-- all keys are right
abbrev pub AreRight : Members → List Key → Type 0
AreRight table keys = AllByRecursion (IsRight table) keys

pub also : {A B : Type 0} → A → B → A × B
also here later = (here, later)

-- then it is something else that holds, and that holds is enough
pub else_by : (table : Members) (keys : List Key) (fault : ConfigFault) (Else : Type 0) → AreRight table keys
    → FirstOf (λ key. IsFaultOf table key fault) (IsRight table) keys Else → Else
else_by table [] fault Else right h = h
else_by table (key ∷ keys) fault Else right (inl here) = absurd (right.0.none here.0 here.1)
else_by table (key ∷ keys) fault Else right (inr later) = else_by table keys fault Else right.1 later.1

pub by_else : (table : Members) (keys : List Key) (fault : ConfigFault) (Else : Type 0) → AreRight table keys → Else
    → FirstOf (λ key. IsFaultOf table key fault) (IsRight table) keys Else
by_else table [] fault Else right h = h
by_else table (key ∷ keys) fault Else right h = inr (right.0, by_else table keys fault Else right.1 h)

-- a key is right, and what is bad comes after it
pub past : {P Q R : Type 0} → Q → R → P ⊎ (Q × R)
past right later = inr (right, later)

-- a first fault that a reader answers is one, or memory ran out
or_more : {P Q M : Type 0} → P ⊎ M → (P ⊎ Q) ⊎ M
or_more (inl h) = inl (inl h)
or_more (inr memory) = inr memory

or_later : {P Q A M : Type 0} → Q → A ⊎ M → (P ⊎ (Q × A)) ⊎ M
or_later right (inl h) = inl (inr (right, h))
or_later right (inr memory) = inr memory

pub no_else : {A M : Type 0} → ⊥ ⊎ M → A ⊎ M
no_else (inl never) = absurd never
no_else (inr memory) = inr memory

pub settled : (table : Members) (fault : ConfigFault) (keys : List Key) (Else Else' : Type 0) → (Else → Else' ⊎ (fault ≡ Memory))
    → FirstOf (λ key. MayFail table key fault) (IsRight table) keys Else → FirstOf (λ key. IsFaultOf table key fault) (IsRight table) keys Else' ⊎ (fault ≡ Memory)
settled table fault [] Else Else' last h = last h
settled table fault (key ∷ keys) Else Else' last (inl here) = or_more here.is
settled table fault (key ∷ keys) Else Else' last (inr later) = or_later later.0 (settled table fault keys Else Else' last later.1)

-- there is one first fault, where what may be wrong with all values is one
pub one_first : (table : Members) (keys : List Key) (Else : ConfigFault → Type 0) → ((one other : ConfigFault) → Else one → Else other → one ≡ other)
    → (one other : ConfigFault) → FirstOf (λ key. IsFaultOf table key one) (IsRight table) keys (Else one)
    → FirstOf (λ key. IsFaultOf table key other) (IsRight table) keys (Else other) → one ≡ other
one_first table [] Else unique one other h k = unique one other h k
one_first table (key ∷ keys) Else unique one other (inl h) (inl k) = one_fault_of table key one other h k
one_first table (key ∷ keys) Else unique one other (inl h) (inr k) = absurd (k.0.none h.0 h.1)
one_first table (key ∷ keys) Else unique one other (inr h) (inl k) = absurd (h.0.none k.0 k.1)
one_first table (key ∷ keys) Else unique one other (inr h) (inr k) = one_first table keys Else unique one other h.1 k.1

-- of a text
module _ (word : List ℕ) (must : Bool) (form : Form) (table : Members) (text : List ℕ) (there : read_at as_str word table ≡ Some text) where
  pub text_right : (IsUnfit form text → ⊥) → IsRight table (text_key word must form)
  text_right fits = right_by as_str (IsUnfit form) (fault_of (reason_of form)) (text_key word must form) table (λ value fault h. h) text there fits

  pub text_unfit : (cause : KeyFault) (fault : ConfigFault) → IsUnfit form text → cause ≡ fault_of (reason_of form) → (fault ≡ told word cause) ⊎ (fault ≡ Memory)
      → MayFail table (text_key word must form) fault
  text_unfit cause fault unfit is told =
      may_fail table (text_key word must form) cause fault
      (subst (Fails (text_key word must form) table) (sym is) (fails_unfit as_str (IsUnfit form) (fault_of (reason_of form)) (text_key word must form) table (λ value fault h. h) text there unfit)) told

-- what a look-up found is what the table has
pub found_value : (r : Option (Bor Value)) (value : Bor Value) (found : Option Data) → option_map (λ v. view v.now) r ≡ found → r ≡ Some value → found ≡ Some (view value.now)
found_value r value found same is = sym same ∙ ap (option_map (λ (v : Bor Value). view v.now)) is

pub found_none : (r : Option (Bor Value)) (found : Option Data) → option_map (λ v. view v.now) r ≡ found → r ≡ None → found ≡ None
found_none r found same is = sym same ∙ ap (option_map (λ (v : Bor Value). view v.now)) is
