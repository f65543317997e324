-- What holds of a publisher, said of plain values, and what each part of a publishing makes of it.
use Rattle.std.proofs.{Common.{◌≡◌, ℕ, ◌<◌, ◌^◌, List, [], ◌∷◌, ◌++◌, fold, length, map, MatchResult, Result, Ok, Err, refl, sym, ap, subst, ◌∙◌, arith}, lemmas.List.{append-nil, Elements.{All-nil}}}
use mathlib.Core.List.{IsPrefix}
use Rattle.crossbeam_utils.specs.Register.{TurnsAt}
use Rattle.logbook.specs.Pages.{Book}
use Rattle.endpoint_membership.specs.declared.change.Change.{Change}
use Rattle.published_table.specs.{Copies.{log_of, origin_of, state_of}, Entries.{IsVouched, changes, with_entry}, History.{IsUnder}, Lists.{BeginsWith, BeginsWithEach}, Logs.{entries}, Rule.{HasSeen, TableRule}, Terms.{FitsThroughout}, declared.entry.{CopyState.{CopyState}, Entry.{Entry}}}
use Rattle.published_table.{specs.declared.{history.Bookmark.{Bookmark}, past.Past.{Past, Empty}, rule.Known.{Known}, table_copy.TableCopy.{TableCopy}, terms.Terms.{Terms}}, proofs.{Beginnings.{IsUnder-later, begins_by, begins_itself}, RuleKept.{Seen, steps}, Vouching.{log_after, terms_after}}}

-- the ghost fields of a publisher
pub record IsPublisher (known : Known) (shown : TableCopy) (pending : List Entry) (taken : List Change) (owed : ℕ) (whole : Past) (bookmark : Bookmark) (terms : Terms) : Type 0 where
  pub marked : map origin_of known.copies ≡ (bookmark.seen.book, terms) ∷ []
  pub origin : origin_of shown ≡ (bookmark.seen.book, terms)
  pub all : entries whole ≡ log_of shown ++ (changes pending ++ taken)
  pub vouched : IsVouched bookmark.seen.book (fold with_entry (state_of shown) pending)
  pub under : IsUnder bookmark.seen.log (log_of shown)
  pub above : BeginsWithEach (entries whole) (map entries bookmark.seen.log)
  pub counted : owed ≡ length (changes pending ++ taken)
  pub short : length (entries whole) < 2 ^ 63
  pub fits : FitsThroughout terms (entries whole)

-- after the history grew, and some of what was taken was handed over
pub after_handing : (known known_now : Known) (shown shown_then : TableCopy) (pending pending_now : List Entry) (taken taken_now : List Change) (owed : ℕ) (whole : Past) (before after : Bookmark) (terms : Terms)
    → known_now ≡ known → shown_then ≡ shown → after.seen.book ≡ before.seen.book → IsPrefix before.seen.log after.seen.log → BeginsWithEach (entries whole) (map entries after.seen.log)
    → changes pending_now ++ taken_now ≡ changes pending ++ taken → IsVouched after.seen.book (fold with_entry (state_of shown_then) pending_now)
    → IsPublisher known shown pending taken owed whole before terms → IsPublisher known_now shown_then pending_now taken_now owed whole after terms
after_handing known known_now shown shown_then pending pending_now taken taken_now owed whole before after terms same_known same_shown book kept above rest vouched is =
    let same : ◌≡◌ {A = Book × Terms} (before.seen.book, terms) (after.seen.book, terms) = ap (λ (one : Book). (one, terms)) (sym book) in record {
      marked = (λ i. map origin_of (same_known i).copies) ∙ is.marked ∙ ap (λ (one : Book × Terms). one ∷ []) same;
      origin = (λ i. origin_of (same_shown i)) ∙ is.origin ∙ same;
      all = is.all ∙ (λ i. log_of (sym same_shown i) ++ sym rest i);
      vouched = vouched;
      under = IsUnder-later before.seen.log after.seen.log (log_of shown_then) kept (subst (λ (one : TableCopy). IsUnder before.seen.log (log_of one)) (sym same_shown) is.under);
      above = above;
      counted = is.counted ∙ ap length (sym rest);
      short = is.short;
      fits = is.fits;
    }

-- nothing is left that isn't pending
module _ (known : Known) (shown : TableCopy) (pending : List Entry) (owed : ℕ) (whole : Past) (bookmark : Bookmark) (terms : Terms) (is : IsPublisher known shown pending [] owed whole bookmark terms)
    (next : TableCopy) (state : state_of next ≡ fold with_entry (state_of shown) pending) where
  pub log_next : log_of next ≡ log_of shown ++ changes pending
  log_next = (λ i. (state i).log) ∙ log_after (state_of shown) pending

  whole_next : log_of next ≡ entries whole
  whole_next = log_next ∙ ap (λ (rest : List Change). log_of shown ++ rest) (sym (append-nil (changes pending))) ∙ sym is.all

  terms_next : next.terms ≡ terms
  terms_next = (λ i. (state i).terms) ∙ terms_after (state_of shown) pending ∙ (λ i. (is.origin i).1)

  origin_next : origin_of next ≡ (bookmark.seen.book, terms)
  origin_next = λ i. (((λ j. (state j).bookmark.seen.book) ∙ is.vouched.0) i, terms_next i)

  vouched_next : IsVouched bookmark.seen.book (state_of next)
  vouched_next = subst (IsVouched bookmark.seen.book) (sym state) is.vouched

  -- the step by which it is shown keeps the rule
  pub may_publish : (seat : ℕ) → TurnsAt TableRule seat known shown next Seen
  may_publish seat =
      steps seat known shown next (origin_next ∙ sym is.origin) (begins_by (log_of next) (log_of shown) (changes pending) log_next)
      (λ short. subst (λ (log : List Change). length log < 2 ^ 63) (sym whole_next) is.short)
      (λ fits. subst (λ (by : Terms). FitsThroughout by (log_of next)) (sym terms_next) (subst (FitsThroughout terms) (sym whole_next) is.fits))
      (λ under. vouched_next.1)

  -- what holds once it is shown
  pub shown_now : (after : Known) → IsUnder bookmark.seen.log (entries whole) → HasSeen known next after → IsPublisher after next [] [] 0 whole bookmark terms
  shown_now after under has_seen = record {
    marked = has_seen.origin ∙ ap (λ (one : Book × Terms). one ∷ []) origin_next;
    origin = origin_next;
    all = sym whole_next ∙ sym (append-nil (log_of next));
    vouched = vouched_next;
    under = subst (IsUnder bookmark.seen.log) (sym whole_next) under;
    above = is.above;
    counted = refl;
    short = is.short;
    fits = is.fits;
  }

-- nothing was shown
pub nothing_shown : (known known_now : Known) (shown shown_then : TableCopy) (pending pending_now : List Entry) (taken : List Change) (owed owed_now : ℕ) (whole : Past) (bookmark : Bookmark) (terms : Terms)
    → IsPublisher known shown pending taken owed whole bookmark terms → known_now ≡ known → shown_then ≡ shown → pending_now ≡ pending → owed_now ≡ owed
    → IsPublisher known_now shown_then pending_now taken owed_now whole bookmark terms
nothing_shown known known_now shown shown_then pending pending_now taken owed owed_now whole bookmark terms is same_known same_shown same_pending counted =
    subst (λ (one : Known × TableCopy × List Entry × ℕ). IsPublisher one.0 one.1 one.2 taken one.3 whole bookmark terms) (λ i. (sym same_known i, sym same_shown i, sym same_pending i, sym counted i)) is

-- whether the copy was shown or not
pub published_or_not : {D E : Type 0} (known known_now : Known) (shown shown_then : TableCopy) (pending pending_now : List Entry) (taken : List Change) (owed owed_now : ℕ) (whole : Past) (bookmark : Bookmark) (terms : Terms)
    (result : Result D E) → IsPublisher known shown pending taken owed whole bookmark terms → taken ≡ [] → IsUnder bookmark.seen.log (entries whole)
    → MatchResult result (λ _. (state_of shown_then ≡ fold with_entry (state_of shown) pending) × (pending_now ≡ [])) (λ _. (shown_then ≡ shown) × (pending_now ≡ pending))
    → MatchResult result (λ _. HasSeen known shown_then known_now) (λ _. known_now ≡ known)
    → MatchResult result (λ _. owed_now ≡ 0) (λ _. owed_now ≡ owed)
    → IsPublisher known_now shown_then pending_now taken owed_now whole bookmark terms
published_or_not known known_now shown shown_then pending pending_now taken owed owed_now whole bookmark terms (Ok done) is none under values seen counted =
    let empty = subst (λ (one : List Change). IsPublisher known shown pending one owed whole bookmark terms) none is in
    subst (λ (one : List Entry × List Change × ℕ). IsPublisher known_now shown_then one.0 one.1 one.2 whole bookmark terms) (λ i. (sym values.1 i, sym none i, sym counted i))
    (shown_now known shown pending owed whole bookmark terms empty shown_then values.0 known_now under seen)
published_or_not known known_now shown shown_then pending pending_now taken owed owed_now whole bookmark terms (Err error) is none under values same counted =
    nothing_shown known known_now shown shown_then pending pending_now taken owed owed_now whole bookmark terms is same values.0 values.1 counted

-- a copy in the same state may be shown
pub shows_same : (known : Known) (shown next : TableCopy) → state_of next ≡ state_of shown → (seat : ℕ) → TurnsAt TableRule seat known shown next Seen
shows_same known shown next same seat =
    steps seat known shown next (λ i. ((same i).bookmark.seen.book, (same i).terms))
    (subst (λ (log : List Change). BeginsWith log (log_of shown)) (λ i. (sym same i).log) (begins_itself (log_of shown)))
    (subst (λ (one : CopyState). length one.log < 2 ^ 63) (sym same))
    (subst (λ (one : CopyState). FitsThroughout one.terms one.log) (sym same))
    (subst (λ (one : CopyState). IsUnder one.bookmark.seen.log one.log) (sym same))

under_none : (logs : List Past) (log : List Change) → log ≡ [] → IsUnder logs log
under_none logs log none longest begins = subst (BeginsWith longest) (sym none) refl

-- a publisher to which nothing came yet
pub opened : (before known : Known) (copy : TableCopy) (pending : List Entry) (taken : List Change) (bookmark : Bookmark) (terms : Terms) → HasSeen before copy known
    → log_of copy ≡ [] → copy.bookmark ≡ bookmark → copy.terms ≡ terms → pending ≡ [] → taken ≡ [] → bookmark.seen.log ≡ []
    → IsPublisher known copy pending taken 0 Empty bookmark terms
opened before known copy pending taken bookmark terms seen none same_bookmark same_terms no_pending no_taken no_logs =
    let origin : origin_of copy ≡ (bookmark.seen.book, terms) = λ i. ((same_bookmark i).seen.book, same_terms i) in
    let rest : changes pending ++ taken ≡ [] = (λ i. changes (no_pending i) ++ no_taken i) in
    let vouched : IsVouched bookmark.seen.book (state_of copy) = ((λ i. (same_bookmark i).seen.book), under_none copy.bookmark.seen.log (log_of copy) none) in record {
      marked = seen.origin ∙ ap (λ (one : Book × Terms). one ∷ []) origin;
      origin = origin;
      all = sym (ap (λ (log : List Change). log ++ (changes pending ++ taken)) none ∙ rest);
      vouched = subst (λ (list : List Entry). IsVouched bookmark.seen.book (fold with_entry (state_of copy) list)) (sym no_pending) vouched;
      under = under_none bookmark.seen.log (log_of copy) none;
      above = subst (λ (logs : List Past). BeginsWithEach [] (map entries logs)) (sym no_logs) (All-nil (BeginsWith []));
      counted = sym (ap length rest);
      short = omega arith;
      fits = subst (λ (one : Terms). FitsThroughout one []) same_terms (subst (FitsThroughout copy.terms) (seen.seen ∙ none) seen.fits);
    }
