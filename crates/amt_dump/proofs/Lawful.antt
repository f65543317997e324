-- Lines of a dump are a lawful kind of script, and each says a datagram that UDP can carry.
use Rattle.std.{proofs.Common.{◌≡◌, ℕ, List, [], ◌∷◌, ◌++◌, length, refl, sym, ap, subst, ◌∙◌, inl, inr, arith}, specs.{List.{AllByRecursion}, Str.Lines.{lines}}}
use Rattle.amt_values.specs.Conditions.{First}
use Rattle.script_lines.{specs.{declared.reason.Reason.{Reason, TheVariants.{Count, Hex}}, Form.{IsHexText, some_octets}, Kind.{IsLawfulKind}, Lines.{lines_that_say}, Script.{Say, Spells}, Shape.{HasField, FailsIn}}, proofs.Forms.{IsHexText-unique, hex_sized, octets_fit, one_field, one_fits}}
use Rattle.amt_dump.specs.{Dump.{HasOneDump, IsDump, dump_text}, Lines.{IsDatagram, dump_kind, dump_shape}}

no_statement : (one : List ℕ) (line : List (List ℕ)) (reason : Reason) → HasField [] (IsHexText one) line → FailsIn dump_shape line reason → ⊥
no_statement one line reason says fails =
    one_fits some_octets says.text (octets_fit one says.text says.names) reason
    (subst (λ (values : List (List ℕ)). FailsIn dump_shape values reason) says.parts fails)

pub dump_kind_lawful : IsLawfulKind dump_kind
dump_kind_lawful = record {
  one_statement = λ past one other line h k. one_field [] IsHexText IsHexText-unique one other line h k;
  no_statement = λ past one line reason h k. no_statement one line reason h k;
  one_script = λ said one other h k. h ∙ sym k;
  no_script = λ said datagrams reason h k. k;
}

datagrams_sized : (past said : List (List ℕ)) (ls : List (List ℕ)) → Say dump_kind past said ls → AllByRecursion IsDatagram said
datagrams_sized past [] [] each = tt
datagrams_sized past [] (line ∷ ls) each = absurd each
datagrams_sized past (one ∷ said) [] each = absurd each
datagrams_sized past (one ∷ said) (line ∷ ls) each =
    (hex_sized one each.1.text each.1.names, datagrams_sized (past ++ one ∷ []) said ls each.2)

pub spelled_sized : (datagrams : List (List ℕ)) (bytes : List ℕ) → Spells dump_kind datagrams bytes → AllByRecursion IsDatagram datagrams
spelled_sized datagrams bytes spelled =
    subst (AllByRecursion IsDatagram) (sym spelled.made) (datagrams_sized [] spelled.said (lines_that_say (lines bytes)) spelled.all_lines.says)

-- the one field of a line
pub says_datagram : (one first : List ℕ) (rest : List (List ℕ)) → rest ≡ [] → IsHexText one first → HasField [] (IsHexText one) (first ∷ rest)
says_datagram one first rest none names =
    record { text = first; parts = ap (λ (fs : List (List ℕ)). first ∷ fs) none; names = names }

-- more fields than one
pub fails_by_count : (first second : List ℕ) (more rest : List (List ℕ)) → rest ≡ second ∷ more
    → First (FailsIn dump_shape (first ∷ rest)) (Count ∷ Hex ∷ []) Count
fails_by_count first second more rest parts =
    inl (λ same. omega (arith, same, ap (λ (fs : List (List ℕ)). length fs) parts), refl)

hex_first : (first : List ℕ) → ((bytes : List ℕ) → IsHexText bytes first → ⊥) → First (FailsIn dump_shape (first ∷ [])) (Count ∷ Hex ∷ []) Hex
hex_first first none = inr (λ other. other refl, inl (inl none, refl))

-- one field that has no octets
pub fails_by_digits : (first : List ℕ) (rest : List (List ℕ)) → rest ≡ [] → ((bytes : List ℕ) → IsHexText bytes first → ⊥)
    → First (FailsIn dump_shape (first ∷ rest)) (Count ∷ Hex ∷ []) Hex
fails_by_digits first rest alone none =
    subst (λ (fs : List (List ℕ)). First (FailsIn dump_shape (first ∷ fs)) (Count ∷ Hex ∷ []) Hex) (sym alone) (hex_first first none)

pub one_dump : HasOneDump
one_dump bytes one other h k = h.printed ∙ sym k.printed

pub has_text : (text bytes : List ℕ) (datagrams : List (List ℕ)) → Spells dump_kind datagrams bytes → text ≡ dump_text 1 (lines bytes) → IsDump text bytes
has_text text bytes datagrams spelled printed = record { datagrams = datagrams; spelled = spelled; printed = printed }
