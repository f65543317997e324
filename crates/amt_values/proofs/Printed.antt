-- The rule of RFC 5952 gives each IPv6 address one text, which is the text that std writes.
use Rattle.std.proofs.Common.{◌≡◌, ℕ, suc, ◌+◌, ◌<◌, ◌≤◌, ◌↔◌, inl, inr, List, [], ◌∷◌, ◌++◌, take, drop, flat_map, map, codes, refl, sym, ap, ap₂, ◌∙◌, subst, arith, append_assoc, lt-ltb, le-ltb}
use Rattle.std.{proofs.{NetLemmas.Texts.{AllSegments, AllSegments-take, AllSegments-drop, IsZeroRun-longest_zero_run, longest_zero_run_first}, lemmas.Bool.{cases_lt}}, specs.{List.{AllZip, join_with_byte}, Net.Text.{hex, groups_text, longest_zero_run, hex_groups_text}}}
use Rattle.amt_values.{specs.Canonical.{IsShortGroup, IsShortGroupsText, AreZeros, IsShortened, HasNoRun, IsCanonicalText}, proofs.{Joined.{after_piece, join-cons}, ShortGroups.{short_only, IsShortGroup-hex}}}

abbrev pub text_after_colons : List ℕ → List ℕ
text_after_colons groups = flat_map (λ (group : ℕ). codes ":" ++ hex group) groups

after_only : (pieces : List (List ℕ)) (groups : List ℕ) → AllZip IsShortGroup pieces groups → after_piece pieces ≡ text_after_colons groups
after_only [] [] h = refl
after_only [] (g ∷ groups) h = absurd h
after_only (p ∷ pieces) [] h = absurd h
after_only (p ∷ pieces) (g ∷ groups) h =
    ap (λ (t : List ℕ). 58 ∷ t) (join-cons p pieces ∙ ap₂ ◌++◌ (short_only p g h.0) (after_only pieces groups h.1))

pieces_only : (pieces : List (List ℕ)) (groups : List ℕ) → AllZip IsShortGroup pieces groups → join_with_byte 58 pieces ≡ groups_text groups
pieces_only [] [] h = refl
pieces_only [] (g ∷ groups) h = absurd h
pieces_only (p ∷ pieces) [] h = absurd h
pieces_only (p ∷ pieces) (g ∷ groups) h = join-cons p pieces ∙ ap₂ ◌++◌ (short_only p g h.0) (after_only pieces groups h.1)

-- groups have one short text
groups_only : (groups text : List ℕ) → IsShortGroupsText groups text → text ≡ groups_text groups
groups_only groups text h = h.1 ∙ pieces_only h.0 groups h.2

each_short : (groups : List ℕ) → AllSegments groups → AllZip IsShortGroup (map hex groups) groups
each_short [] fits = tt
each_short (g ∷ groups) fits = (IsShortGroup-hex g (fits 0), each_short groups (λ k. fits (suc k)))

groups_short : (groups : List ℕ) → AllSegments groups → IsShortGroupsText groups (groups_text groups)
groups_short groups fits =
    let each = each_short groups fits in
    (map hex groups, sym (pieces_only (map hex groups) groups each), each)

-- one run may be shortened
shortened_run : (groups : List ℕ) → 1 < (longest_zero_run groups).1 → IsShortened groups (longest_zero_run groups).0 (longest_zero_run groups).1
shortened_run groups long = record {
  zeros = IsZeroRun-longest_zero_run groups;
  two = long;
  longest = λ s c run. (longest_zero_run_first groups s c run).0;
  first = λ s run. (longest_zero_run_first groups s (longest_zero_run groups).1 run).1 refl;
}

-- and no other
record IsThatRun (groups : List ℕ) (start count : ℕ) : Type 0 where
  same_start : start ≡ (longest_zero_run groups).0
  same_count : count ≡ (longest_zero_run groups).1

that_run : (groups : List ℕ) (start count : ℕ) → IsShortened groups start count → IsThatRun groups start count
that_run groups start count h =
    let longest = IsZeroRun-longest_zero_run groups in
    let theirs = longest_zero_run_first groups start count h.zeros in
    let ours = h.longest (longest_zero_run groups).0 (longest_zero_run groups).1 longest in
    let same : (longest_zero_run groups).1 ≡ count = omega (arith, theirs.0, ours) in
    let family : ℕ → Type 0 = λ (c : ℕ). AreZeros groups (longest_zero_run groups).0 c in
    let early = h.first (longest_zero_run groups).0 (subst family same longest) in
    record { same_start = omega (arith, early, theirs.1 (sym same)); same_count = sym same }

abbrev pub shortened_text : List ℕ → ℕ → ℕ → List ℕ
shortened_text groups start count = groups_text (take start groups) ++ (codes "::" ++ groups_text (drop (start + count) groups))

-- what std writes where a run is shortened, and where none is
pub long_text : (groups : List ℕ) → 1 < (longest_zero_run groups).1
    → hex_groups_text groups ≡ shortened_text groups (longest_zero_run groups).0 (longest_zero_run groups).1
unfolding hex_groups_text
long_text groups long =
    rw (lt-ltb 1 (longest_zero_run groups).1 long)
    (append_assoc (groups_text (take (longest_zero_run groups).0 groups)) (codes "::") (groups_text (drop ((longest_zero_run groups).0 + (longest_zero_run groups).1) groups)))

pub plain_text : (groups : List ℕ) → (longest_zero_run groups).1 ≤ 1 → hex_groups_text groups ≡ groups_text groups
unfolding hex_groups_text
plain_text groups short = rw (le-ltb 1 (longest_zero_run groups).1 short) refl

canonical_only : (groups text : List ℕ) → IsCanonicalText groups text → text ≡ hex_groups_text groups
canonical_only groups text (inl h) =
    let run = that_run groups h.start h.count h.run in
    let front = groups_only (take h.start groups) h.head_text h.before in
    let back = groups_only (drop (h.start + h.count) groups) h.tail_text h.after in
    let parts : text ≡ shortened_text groups h.start h.count = h.spelled ∙ rw (front, back) refl in
    let same : shortened_text groups h.start h.count ≡ shortened_text groups (longest_zero_run groups).0 (longest_zero_run groups).1 =
    ap₂ (λ (s c : ℕ). shortened_text groups s c) run.same_start run.same_count in
    parts ∙ (same ∙ sym (long_text groups (omega (arith, h.run.two, run.same_count))))
canonical_only groups text (inr h) =
    let longest = h.0 (longest_zero_run groups).0 (longest_zero_run groups).1 (IsZeroRun-longest_zero_run groups) in
    groups_only groups text h.1 ∙ sym (plain_text groups (omega (arith, longest)))

no_run : (groups : List ℕ) → (longest_zero_run groups).1 ≤ 1 → HasNoRun groups
no_run groups short = λ start count run. let longest = (longest_zero_run_first groups start count run).0 in omega (arith, longest)

canonical : (groups : List ℕ) → AllSegments groups → IsCanonicalText groups (hex_groups_text groups)
canonical groups fits =
    let start = (longest_zero_run groups).0 in
    let count = (longest_zero_run groups).1 in
    elim (cases_lt 1 count) [
      | inl long ↦ inl (record {
        start = start;
        count = count;
        run = shortened_run groups long;
        head_text = groups_text (take start groups);
        tail_text = groups_text (drop (start + count) groups);
        spelled = long_text groups long;
        before = groups_short (take start groups) (AllSegments-take start groups fits);
        after = groups_short (drop (start + count) groups) (AllSegments-drop (start + count) groups fits);
      })
      | inr short ↦ inr (no_run groups short, subst (IsShortGroupsText groups) (sym (plain_text groups short)) (groups_short groups fits))
    ]

pub canonical_exactly : (groups : List ℕ) → AllSegments groups → (text : List ℕ) → IsCanonicalText groups text ↔ (text ≡ hex_groups_text groups)
canonical_exactly groups fits text =
    (canonical_only groups text, λ same. subst (IsCanonicalText groups) (sym same) (canonical groups fits))
