-- What was written of a text, piece by piece.
use Rattle.std.{proofs.{Common.{ℕ, Option, List, [], ◌++◌, take, drop, refl, sym, ap, ◌∙◌, append_assoc, append-nil, take-append-drop}, KnownBytes.{Appends-nil, Appends-trans}}, specs.Io.KnownBytes.{Appends}}
use Rattle.script_lines.specs.Writing.{WritesUpTo, WritesPrefix}

pub written_start : (a : Option (List ℕ)) (text : List ℕ) → WritesUpTo a a text text
written_start a text = record { prefix = []; parts = refl; written = Appends-nil a }

pub nothing_written : (a : Option (List ℕ)) (text : List ℕ) → WritesPrefix a a text
nothing_written a text = (text, written_start a text)

pub prefix_written : (a b : Option (List ℕ)) (text : List ℕ) (n : ℕ) → Appends a b (take n text) → WritesPrefix a b text
prefix_written a b text n written = (drop n text, record { prefix = take n text; parts = sym (take-append-drop n text); written = written })

-- the next piece was written but for what is held of it
pub written_more : (a b c : Option (List ℕ)) (text piece rest held : List ℕ) → WritesUpTo a b text (piece ++ rest) → WritesUpTo b c piece held → WritesUpTo a c text (held ++ rest)
written_more a b c text piece rest held before next = record {
  prefix = before.prefix ++ next.prefix;
  parts =
      before.parts
      ∙ (ap (λ (xs : List ℕ). before.prefix ++ (xs ++ rest)) next.parts
      ∙ (ap (λ (xs : List ℕ). before.prefix ++ xs) (append_assoc next.prefix held rest) ∙ sym (append_assoc before.prefix next.prefix (held ++ rest))));
  written = Appends-trans a b c before.prefix next.prefix before.written next.written;
}

-- a prefix of the next piece was written
pub written_prefix : (a b c : Option (List ℕ)) (text piece rest : List ℕ) → WritesUpTo a b text (piece ++ rest) → WritesPrefix b c piece → WritesPrefix a c text
written_prefix a b c text piece rest before next =
    let whole = before.parts ∙ (ap (λ (xs : List ℕ). before.prefix ++ (xs ++ rest)) next.1.parts
    ∙ (ap (λ (xs : List ℕ). before.prefix ++ xs) (append_assoc next.1.prefix next.0 rest) ∙ sym (append_assoc before.prefix next.1.prefix (next.0 ++ rest)))) in (
      next.0 ++ rest,
      record {
        prefix = before.prefix ++ next.1.prefix;
        parts = whole;
        written = Appends-trans a b c before.prefix next.1.prefix before.written next.1.written;
      },
    )

pub written_prefix_of_last : (a b c : Option (List ℕ)) (text piece : List ℕ) → WritesUpTo a b text piece → WritesPrefix b c piece → WritesPrefix a c text
written_prefix_of_last a b c text piece before next =
    written_prefix a b c text piece [] (record { prefix = before.prefix; parts = before.parts ∙ ap (λ (xs : List ℕ). before.prefix ++ xs) (sym (append-nil piece)); written = before.written }) next

-- more text was held, and then the next piece of it written
pub written_on : (a b c : Option (List ℕ)) (text more held held' : List ℕ) → WritesUpTo a b text held → WritesUpTo b c (held ++ more) held' → WritesUpTo a c (text ++ more) held'
written_on a b c text more held held' before next = record {
  prefix = before.prefix ++ next.prefix;
  parts =
      ap (λ (xs : List ℕ). xs ++ more) before.parts
      ∙ (append_assoc before.prefix held more ∙ (ap (λ (xs : List ℕ). before.prefix ++ xs) next.parts ∙ sym (append_assoc before.prefix next.prefix held')));
  written = Appends-trans a b c before.prefix next.prefix before.written next.written;
}

-- more text was held, and then a prefix of it written
pub prefix_on : (a b c : Option (List ℕ)) (text more held : List ℕ) → WritesUpTo a b text held → WritesPrefix b c (held ++ more) → WritesPrefix a c (text ++ more)
prefix_on a b c text more held before next = (next.0, written_on a b c text more held next.0 before next.1)

-- a prefix of a text is one of a longer text
pub prefix_of_more : (a b : Option (List ℕ)) (text more : List ℕ) → WritesPrefix a b text → WritesPrefix a b (text ++ more)
prefix_of_more a b text more prefix = (
  prefix.0 ++ more,
  record {
    prefix = prefix.1.prefix;
    parts = ap (λ (xs : List ℕ). xs ++ more) prefix.1.parts ∙ append_assoc prefix.1.prefix prefix.0 more;
    written = prefix.1.written;
  },
)
