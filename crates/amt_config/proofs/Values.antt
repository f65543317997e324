-- What a key's value names is one thing, and a key that has it is right.
use Rattle.std.proofs.Common.{◌≡◌, ℕ, Bool, false, List, Option, Some, None, pos, inl, inr, refl, sym, subst, ap, ◌∙◌}
use Rattle.std.specs.Option.{option_and_then}
use Rattle.relay_machine.specs.declared.number_key.NumberRange.{NumberRange}
use Rattle.script_lines.specs.Form.{Form}
use Rattle.toml.specs.Data.{Data, Members, as_bool, as_integer, as_str, get_member}
use Rattle.amt_config.{specs.{Arrays.{as_tables}, Key.{HasBoolean, HasOptional, HasTables, HasText, HasTextOr, HasWholeNumber, IsOutside, IsRight, IsUnfit, a_boolean, a_whole, fault_of, optional, reason_of, read_at, some_tables, text_key}, declared.fault.KeyFault.TheVariants.{Kind, Range}}, proofs.Faults.{right_absent, right_by}}

-- what is read is one thing, and nothing is read where there is nothing
pub one_read : {X : Type 0} (r : Option X) (one other : X) → r ≡ Some one → r ≡ Some other → one ≡ other
one_read r one other h k = let both : Some one ≡ Some other = sym h ∙ k in cc

pub none_read : {X : Type 0} (read : Data → Option X) (found : Option Data) (one : X) → option_and_then read found ≡ Some one → found ≡ None → ⊥
none_read read None one is none = cc is
none_read read (Some value) one is none = cc none

module _ {V : Type 0} (Names : V → List ℕ → Type 0) (unique : (one other : V) (text : List ℕ) → Names one text → Names other text → one ≡ other)
    (word : List ℕ) (table : Members) where
  pub same_text : (one other : V) → HasText word table (Names one) → HasText word table (Names other) → one ≡ other
  same_text one other h k =
      unique one other h.0 h.2 (subst (Names other) (sym (one_read (read_at as_str word table) h.0 k.0 h.1 k.1)) k.2)

  pub same_text_or : (default one other : V) → HasTextOr word table (Names one) (one ≡ default) → HasTextOr word table (Names other) (other ≡ default) → one ≡ other
  same_text_or default one other (inl h) (inl k) = h.1 ∙ sym k.1
  same_text_or default one other (inl h) (inr k) = absurd (none_read as_str (get_member word table) k.0 k.1 h.0)
  same_text_or default one other (inr h) (inl k) = absurd (none_read as_str (get_member word table) h.0 h.1 k.0)
  same_text_or default one other (inr h) (inr k) = same_text one other h k

  pub same_optional : (one other : Option V) → HasOptional word table Names one → HasOptional word table Names other → one ≡ other
  same_optional None None h k = refl
  same_optional None (Some value) h k = absurd (none_read as_str (get_member word table) k.0 k.1 h)
  same_optional (Some value) None h k = absurd (none_read as_str (get_member word table) h.0 h.1 k)
  same_optional (Some value) (Some other) h k = ap (λ (v : V). Some v) (same_text value other h k)

pub same_number : (word : List ℕ) (range : NumberRange) (table : Members) (one other : ℕ) → HasWholeNumber word range table one → HasWholeNumber word range table other → one ≡ other
same_number word range table one other (inl h) (inl k) = h.1 ∙ sym k.1
same_number word range table one other (inl h) (inr k) = absurd (none_read as_integer (get_member word table) (pos other) k.0 h.0)
same_number word range table one other (inr h) (inl k) = absurd (none_read as_integer (get_member word table) (pos one) h.0 k.0)
same_number word range table one other (inr h) (inr k) = let same : pos one ≡ pos other = one_read (read_at as_integer word table) (pos one) (pos other) h.0 k.0 in cc

pub same_boolean : (word : List ℕ) (table : Members) (one other : Bool) → HasBoolean word table one → HasBoolean word table other → one ≡ other
same_boolean word table one other (inl h) (inl k) = h.1 ∙ sym k.1
same_boolean word table one other (inl h) (inr k) = absurd (none_read as_bool (get_member word table) other k h.0)
same_boolean word table one other (inr h) (inl k) = absurd (none_read as_bool (get_member word table) one h k.0)
same_boolean word table one other (inr h) (inr k) = one_read (read_at as_bool word table) one other h k

pub same_tables : (word : List ℕ) (table : Members) (one other : List Members) → HasTables word table one → HasTables word table other → one ≡ other
same_tables word table one other (inl h) (inl k) = h.1 ∙ sym k.1
same_tables word table one other (inl h) (inr k) = absurd (none_read as_tables (get_member word table) other k h.0)
same_tables word table one other (inr h) (inl k) = absurd (none_read as_tables (get_member word table) one h k.0)
same_tables word table one other (inr h) (inr k) = one_read (read_at as_tables word table) one other h k

-- a key with a text of its form, or one that isn't there and need not be
module _ (form : Form) (Names : List ℕ → Type 0) (fits : (text : List ℕ) → Names text → IsUnfit form text → ⊥) (word : List ℕ) (table : Members) where
  pub right_text : (must : Bool) → HasText word table Names → IsRight table (text_key word must form)
  right_text must h = right_by as_str (IsUnfit form) (fault_of (reason_of form)) (text_key word must form) table (λ value fault h. h) h.0 h.1 (fits h.0 h.2)

  pub right_text_or : (Default : Type 0) → HasTextOr word table Names Default → IsRight table (text_key word false form)
  right_text_or Default (inl absent) = right_absent (text_key word false form) table refl absent.0
  right_text_or Default (inr there) = right_text false there

pub right_optional : {V : Type 0} (form : Form) (Names : V → List ℕ → Type 0) (fits : (value : V) (text : List ℕ) → Names value text → IsUnfit form text → ⊥)
    (word : List ℕ) (table : Members) (given : Option V) → HasOptional word table Names given → IsRight table (text_key word false form)
right_optional form Names fits word table None none = right_absent (text_key word false form) table refl none
right_optional form Names fits word table (Some value) there = right_text form (Names value) (fits value) word table false there

-- the same with a boolean, with a number in its range, and with tables
pub right_boolean : (word : List ℕ) (table : Members) (flag : Bool) → HasBoolean word table flag → IsRight table (optional word a_boolean)
right_boolean word table flag (inl absent) = right_absent (optional word a_boolean) table refl absent.0
right_boolean word table flag (inr there) = right_by as_bool (λ flag. ⊥) Kind (optional word a_boolean) table (λ value fault h. h) flag there (λ h. h)

pub right_number : (word : List ℕ) (range : NumberRange) (table : Members) (number : ℕ) → HasWholeNumber word range table number → IsRight table (optional word (a_whole range))
right_number word range table number (inl absent) = right_absent (optional word (a_whole range)) table refl absent.0
right_number word range table number (inr there) =
    right_by as_integer (IsOutside range) Range (optional word (a_whole range)) table (λ value fault h. h) (pos number) there.0
    (λ outside. outside number there.1 refl)

pub right_tables : (word : List ℕ) (table : Members) (tables : List Members) → HasTables word table tables → IsRight table (optional word some_tables)
right_tables word table tables (inl absent) = right_absent (optional word some_tables) table refl absent.0
right_tables word table tables (inr there) = right_by as_tables (λ tables. ⊥) Range (optional word some_tables) table (λ value fault h. h) tables there (λ h. h)
