-- What a step makes of the numbers, and what steps make of them together.
use Rattle.std.{proofs.{Common.{◌≡◌, ℕ, zero, suc, ◌+◌, ◌-◌, ◌<◌, ◌≤◌, Bool, true, false, cond, ◌||◌, List, [], ◌∷◌, ◌++◌, length, get_or, take, Option, None, Some, is_some, refl, sym, ap, subst, ◌∙◌, arith, add-zero, zero-add}, lemmas.{Cmp.{eq_by_cmp_equiv}, List.{length-take-le, take_more, Folds.{list_any-append, list_any_at}, Sums.{count_by-le-length, sum_by-append, sum_by-cons}}}}, specs.{BTreeMap.{Updates, get}, Option.{unwrap_or}, Ordering.{eq_by_cmp}, declared.cmp.Ordering.{Ordering}}}
use Rattle.amt_values.specs.Ascending.{has}
use Rattle.endpoint_membership.specs.Parts.{some_unless_zero}
use Rattle.amt_upstream.{specs.{Counting.{AreThere, HasLowered, HasRaised, HasSwept, IsClean, IsCleanBesides, Numbers, entry_at, key_order, lowered, number, raised, same_key, swept, times}, declared.count_key.CountKey.{CountKey}}, proofs.KeyOrder.{key_order-total, keys_compared, same_key-is}}
use Rattle.amt_upstream.specs.contracts.count_key.CountKeyOrd as keys

abbrev Order : Type 0
Order = CountKey → CountKey → Ordering

-- what a call finds, by the order of the definitions
pub found_at : (tally : Numbers) (key : CountKey) → get (keys.TheImpl.ghosts).cmp tally key ≡ entry_at tally key
found_at tally key = ap (λ (order : Order). get order tally key) keys_compared

set_at : (before after : Numbers) (key : CountKey) (entry : Option ℕ) → Updates (keys.TheImpl.ghosts).cmp before after key entry
    → (other : CountKey) → entry_at after other ≡ cond (same_key other key) entry (entry_at before other)
set_at before after key entry updates other =
    let At : Order → Type 0 = λ order. (one : CountKey) → get order after one ≡ cond (eq_by_cmp order key one) entry (get order before one) in
    let at : At key_order = subst At keys_compared updates.0 in
    at other ∙ ap (λ (same : Bool). cond same entry (entry_at before other)) ((eq_by_cmp_equiv key_order-total).symm key other)

its_entry : (tally : Numbers) (other key : CountKey) → same_key other key ≡ true → entry_at tally other ≡ entry_at tally key
its_entry tally other key same = ap (entry_at tally) (same_key-is other key same)

raised-none : (entry : Option ℕ) → raised 0 entry ≡ entry
raised-none None = refl
raised-none (Some number) = ap Some (add-zero number)

raised-one : (entry : Option ℕ) → Some (unwrap_or entry 0 + 1) ≡ raised 1 entry
raised-one None = refl
raised-one (Some number) = refl

raised_by : (same : Bool) (mine its : Option ℕ) → (same ≡ true → its ≡ mine) → cond same (Some (unwrap_or mine 0 + 1)) its ≡ raised (0 + cond same 1 0) its
raised_by true mine its here = sym (ap (λ (entry : Option ℕ). Some (unwrap_or entry 0 + 1)) (here refl)) ∙ raised-one its
raised_by false mine its here = sym (raised-none its)

-- a number with one more in its place
pub HasRaised-set : (before after : Numbers) (key : CountKey) → Updates (keys.TheImpl.ghosts).cmp before after key (Some (number before key + 1)) → HasRaised (key ∷ []) before after
HasRaised-set before after key updates other =
    set_at before after key (Some (number before key + 1)) updates other ∙ raised_by (same_key other key) (entry_at before key) (entry_at before other) (its_entry before other key)

lowered-none : (entry : Option ℕ) → lowered 0 entry ≡ entry
lowered-none None = refl
lowered-none (Some number) = let same : number - 0 ≡ number = omega arith in ap Some same

lowered_by : (same : Bool) (number : ℕ) (its : Option ℕ) → (same ≡ true → its ≡ Some number) → cond same (Some (number - 1)) its ≡ lowered (0 + cond same 1 0) its
lowered_by true number its here = sym (ap (lowered 1) (here refl))
lowered_by false number its here = sym (lowered-none its)

-- a number with one less in its place
pub HasLowered-set : (before after : Numbers) (key : CountKey) (number : ℕ) → entry_at before key ≡ Some number → Updates (keys.TheImpl.ghosts).cmp before after key (Some (number - 1)) → HasLowered (key ∷ []) before after
HasLowered-set before after key number is updates other =
    set_at before after key (Some (number - 1)) updates other ∙ lowered_by (same_key other key) number (entry_at before other) (λ same. its_entry before other key same ∙ is)

lowered_none_by : (same : Bool) (its : Option ℕ) → (same ≡ true → its ≡ None) → its ≡ lowered (0 + cond same 1 0) its
lowered_none_by true its here = here refl ∙ sym (ap (lowered 1) (here refl))
lowered_none_by false its here = sym (lowered-none its)

-- of a key that has no number there is nothing to lower
pub HasLowered-none : (tally : Numbers) (key : CountKey) → entry_at tally key ≡ None → HasLowered (key ∷ []) tally tally
HasLowered-none tally key none other = lowered_none_by (same_key other key) (entry_at tally other) (λ same. its_entry tally other key same ∙ none)

swept_by : (same : Bool) (its : Option ℕ) → (same ≡ true → unwrap_or its 0 ≡ 0) → cond same None its ≡ swept (same || false) its
swept_by true its here = sym (ap some_unless_zero (here refl))
swept_by false its here = refl

-- a 0 that is taken away
pub HasSwept-removed : (before after : Numbers) (key : CountKey) → number before key ≡ 0 → Updates (keys.TheImpl.ghosts).cmp before after key None → HasSwept (key ∷ []) before after
HasSwept-removed before after key none updates other =
    set_at before after key None updates other
    ∙ swept_by (same_key other key) (entry_at before other) (λ same. ap (λ (entry : Option ℕ). unwrap_or entry 0) (its_entry before other key same) ∙ none)

swept_some_by : (same : Bool) (its : Option ℕ) → (same ≡ true → unwrap_or its 0 ≡ 0 → ⊥) → its ≡ swept (same || false) its
swept_some_by true None here = absurd (here refl refl)
swept_some_by true (Some zero) here = absurd (here refl refl)
swept_some_by true (Some (suc number)) here = refl
swept_some_by false its here = refl

-- another number stays
pub HasSwept-kept : (tally : Numbers) (key : CountKey) → (number tally key ≡ 0 → ⊥) → HasSwept (key ∷ []) tally tally
HasSwept-kept tally key some other =
    swept_some_by (same_key other key) (entry_at tally other) (λ same none. some (sym (ap (λ (entry : Option ℕ). unwrap_or entry 0) (its_entry tally other key same)) ∙ none))

raised-twice : (n m : ℕ) (entry : Option ℕ) → raised m (raised n entry) ≡ raised (n + m) entry
raised-twice zero m None = ap some_unless_zero (sym (zero-add m))
raised-twice (suc n) m None = let same : suc n + m ≡ suc (n + m) = omega arith in ap Some same ∙ sym (ap some_unless_zero same)
raised-twice n m (Some number) = let same : number + n + m ≡ number + (n + m) = omega arith in ap Some same

lowered-twice : (n m : ℕ) (entry : Option ℕ) → lowered m (lowered n entry) ≡ lowered (n + m) entry
lowered-twice n m None = refl
lowered-twice n m (Some number) = let same : number - n - m ≡ number - (n + m) = omega arith in ap Some same

number_kept : (n : ℕ) → unwrap_or (some_unless_zero n) 0 ≡ n
number_kept zero = refl
number_kept (suc n) = refl

swept-twice : (one other : Bool) (entry : Option ℕ) → swept other (swept one entry) ≡ swept (one || other) entry
swept-twice false other entry = refl
swept-twice true false entry = refl
swept-twice true true entry = ap some_unless_zero (number_kept (unwrap_or entry 0))

abbrev one_of : CountKey → CountKey → ℕ
one_of key other = cond (same_key key other) 1 0

pub HasRaised-none : (tally : Numbers) → HasRaised [] tally tally
HasRaised-none tally at = sym (raised-none (entry_at tally at))

pub HasLowered-nothing : (tally : Numbers) → HasLowered [] tally tally
HasLowered-nothing tally at = sym (lowered-none (entry_at tally at))

module _ (keys : List CountKey) (index : ℕ) (key : CountKey) (below : index < length keys) (is : key ≡ get_or keys index key) where
  next : take (index + 1) keys ≡ take index keys ++ key ∷ []
  next = take_more keys index key below ∙ ap (λ (one : CountKey). take index keys ++ one ∷ []) (sym is)

  times-next : (at : CountKey) → times at (take index keys) + times at (key ∷ []) ≡ times at (take (index + 1) keys)
  times-next at = sym (sum_by-append (one_of at) (take index keys) (key ∷ [])) ∙ ap (times at) (sym next)

  has-next : (at : CountKey) → (has key_order (take index keys) at || has key_order (key ∷ []) at) ≡ has key_order (take (index + 1) keys) at
  has-next at = sym (list_any-append (same_key at) (take index keys) (key ∷ [])) ∙ ap (λ (all : List CountKey). has key_order all at) (sym next)

  has-item : has key_order keys key ≡ true
  has-item = list_any_at (same_key key) keys index key below (ap (same_key key) (sym is) ∙ (eq_by_cmp_equiv key_order-total).refl key)

  module _ (before between after : Numbers) where
    -- a step of a loop that counts keys in
    pub HasRaised-more : HasRaised (take index keys) before between → HasRaised (key ∷ []) between after → HasRaised (take (index + 1) keys) before after
    HasRaised-more some more at =
        more at ∙ ap (raised (times at (key ∷ []))) (some at) ∙ raised-twice (times at (take index keys)) (times at (key ∷ [])) (entry_at before at)
        ∙ ap (λ (n : ℕ). raised n (entry_at before at)) (times-next at)

    -- of one that counts them out
    pub HasLowered-more : HasLowered (take index keys) before between → HasLowered (key ∷ []) between after → HasLowered (take (index + 1) keys) before after
    HasLowered-more some more at =
        more at ∙ ap (lowered (times at (key ∷ []))) (some at) ∙ lowered-twice (times at (take index keys)) (times at (key ∷ [])) (entry_at before at)
        ∙ ap (λ (n : ℕ). lowered n (entry_at before at)) (times-next at)

    -- and of one that sweeps
    pub HasSwept-more : HasSwept (take index keys) before between → HasSwept (key ∷ []) between after → HasSwept (take (index + 1) keys) before after
    HasSwept-more some more at =
        more at ∙ ap (swept (has key_order (key ∷ []) at)) (some at) ∙ swept-twice (has key_order (take index keys) at) (has key_order (key ∷ []) at) (entry_at before at)
        ∙ ap (λ (there : Bool). swept there (entry_at before at)) (has-next at)

number-raised : (n : ℕ) (entry : Option ℕ) → unwrap_or (raised n entry) 0 ≡ unwrap_or entry 0 + n
number-raised n None = number_kept n ∙ sym (zero-add n)
number-raised n (Some number) = refl

number-swept : (at : Bool) (entry : Option ℕ) → unwrap_or (swept at entry) 0 ≡ unwrap_or entry 0
number-swept false entry = refl
number-swept true entry = number_kept (unwrap_or entry 0)

abbrev number_in : Option ℕ → ℕ
number_in entry = unwrap_or entry 0

-- the numbers once keys are counted in
pub numbers_raised : (keys : List CountKey) (before after : Numbers) → HasRaised keys before after → (key : CountKey) → number after key ≡ number before key + times key keys
numbers_raised keys before after raised key = ap number_in (raised key) ∙ number-raised (times key keys) (entry_at before key)

-- sweeping changes none
pub numbers_swept : (keys : List CountKey) (before after : Numbers) → HasSwept keys before after → (key : CountKey) → number after key ≡ number before key
numbers_swept keys before after swept key = ap number_in (swept key) ∙ number-swept (has key_order keys key) (entry_at before key)

none_by : (same later : Bool) (n : ℕ) → (same || later) ≡ false → (later ≡ false → n ≡ 0) → cond same 1 0 + n ≡ 0
none_by true later n none rest = cc
none_by false later n none rest = let zero : n ≡ 0 = rest none in omega arith

times_none : (key : CountKey) (keys : List CountKey) → has key_order keys key ≡ false → times key keys ≡ 0
times_none key [] none = refl
times_none key (first ∷ rest) none = sum_by-cons (one_of key) first rest ∙ none_by (same_key key first) (has key_order rest key) (times key rest) none (times_none key rest)

some_by : (same later : Bool) (n : ℕ) → (same || later) ≡ true → (later ≡ true → 1 ≤ n) → 1 ≤ cond same 1 0 + n
some_by true later n some rest = omega arith
some_by false later n some rest = let one : 1 ≤ n = rest some in omega arith

times_some : (key : CountKey) (keys : List CountKey) → has key_order keys key ≡ true → 1 ≤ times key keys
times_some key [] some = cc
times_some key (first ∷ rest) some =
    subst (λ (n : ℕ). 1 ≤ n) (sym (sum_by-cons (one_of key) first rest)) (some_by (same_key key first) (has key_order rest key) (times key rest) some (times_some key rest))

clean_at : (entry : Option ℕ) (n : ℕ) → entry ≡ some_unless_zero n → entry ≡ some_unless_zero (unwrap_or entry 0)
clean_at entry n is = is ∙ sym (ap some_unless_zero (ap number_in is ∙ number_kept n))

-- there is room for one more key
pub room_for_one : (keys : List CountKey) (index limit : ℕ) (before after : Numbers) (key : CountKey) → index < length keys → number before key + length keys < limit
    → HasRaised (take index keys) before after → number after key + 1 < limit
room_for_one keys index limit before after key below room in_ =
    let more = numbers_raised (take index keys) before after in_ key in
    let few = count_by-le-length (same_key key) (take index keys) in
    let long = length-take-le index keys (omega arith) in omega arith

is_some-raised : (n : ℕ) (entry : Option ℕ) → is_some entry ≡ true → is_some (raised n entry) ≡ true
is_some-raised n None there = cc
is_some-raised n (Some number) there = refl

-- a key that was there is not refused
pub never_refused : (keys : List CountKey) (index : ℕ) (key : CountKey) (before after : Numbers) → index < length keys → key ≡ get_or keys index key → AreThere keys before
    → HasRaised (take index keys) before after → entry_at after key ≡ None → ⊥
never_refused keys index key before after below is there in_ none =
    let some = is_some-raised (times key (take index keys)) (entry_at before key) (there key (has-item keys index key below is)) in
    let same = ap is_some (sym (in_ key) ∙ none) in cc

-- clean numbers stay clean where keys are counted in
pub IsClean-raised : (keys : List CountKey) (before after : Numbers) → IsClean before → HasRaised keys before after → IsClean after
IsClean-raised keys before after clean in_ key =
    clean_at (entry_at after key) (number before key + times key keys) (in_ key ∙ ap (raised (times key keys)) (clean key) ∙ raised-twice (number before key) (times key keys) None)

-- where keys are counted out, all others stay clean
pub IsCleanBesides-lowered : (keys : List CountKey) (before after : Numbers) → IsCleanBesides keys before → HasLowered keys before after → IsCleanBesides keys after
IsCleanBesides-lowered keys before after clean out key none =
    clean_at (entry_at after key) (number before key)
    (out key ∙ ap (λ (n : ℕ). lowered n (entry_at before key)) (times_none key keys none) ∙ lowered-none (entry_at before key) ∙ clean key none)

swept_clean_by : (there : Bool) (entry after : Option ℕ) → (there ≡ false → entry ≡ some_unless_zero (unwrap_or entry 0)) → after ≡ swept there entry → after ≡ some_unless_zero (unwrap_or after 0)
swept_clean_by true entry after clean is = clean_at after (unwrap_or entry 0) is
swept_clean_by false entry after clean is = clean_at after (unwrap_or entry 0) (is ∙ clean refl)

-- where the others are swept, all are clean
pub IsClean-swept : (keys : List CountKey) (before after : Numbers) → IsCleanBesides keys before → HasSwept keys before after → IsClean after
IsClean-swept keys before after clean swept key = swept_clean_by (has key_order keys key) (entry_at before key) (entry_at after key) (clean key) (swept key)

there_by : (entry : Option ℕ) → 1 ≤ unwrap_or entry 0 → is_some entry ≡ true
there_by None some = absurd (omega arith)
there_by (Some number) some = refl

is_some-lowered : (n : ℕ) (entry : Option ℕ) → is_some (lowered n entry) ≡ is_some entry
is_some-lowered n None = refl
is_some-lowered n (Some number) = refl

-- of keys counted in and then others out, those counted out are there still
pub AreThere-counted : (added removed : List CountKey) (before between after : Numbers) → ((key : CountKey) → times key removed ≤ number before key)
    → HasRaised added before between → HasLowered removed between after → AreThere removed after
AreThere-counted added removed before between after enough in_ out key has =
    let few = enough key in
    let more = numbers_raised added before between in_ key in
    let some = times_some key removed has in
    ap is_some (out key) ∙ is_some-lowered (times key removed) (entry_at between key) ∙ there_by (entry_at between key) (omega arith)

back_by : (there : Bool) (n : ℕ) (entry after : Option ℕ) → (there ≡ true → is_some entry ≡ true) → (there ≡ true → 1 ≤ n) → (there ≡ false → n ≡ 0) → (there ≡ false → entry ≡ some_unless_zero (unwrap_or entry 0))
    → after ≡ raised n entry → after ≡ some_unless_zero (unwrap_or after 0)
back_by true n None after here some none clean is = let wrong = here refl in cc
back_by true zero (Some number) after here some none clean is = let wrong : 1 ≤ 0 = some refl in absurd (omega arith)
back_by true (suc n) (Some number) after here some none clean is = clean_at after (suc (number + n)) (is ∙ (let same : number + suc n ≡ suc (number + n) = omega arith in ap Some same))
back_by false n entry after here some none clean is = clean_at after (unwrap_or entry 0) (is ∙ ap (λ (m : ℕ). raised m entry) (none refl) ∙ raised-none entry ∙ clean refl)

-- all are clean where those that were not are counted in
pub IsClean-back : (keys : List CountKey) (before after : Numbers) → IsCleanBesides keys before → AreThere keys before → HasRaised keys before after → IsClean after
IsClean-back keys before after clean there in_ key =
    back_by (has key_order keys key) (times key keys) (entry_at before key) (entry_at after key) (there key) (times_some key keys) (times_none key keys) (clean key) (in_ key)
