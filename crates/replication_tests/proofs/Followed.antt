-- A table that follows a publisher, and what calls of the publisher leave of its log.
use Rattle.std.proofs.{Common.{◌≡◌, [], ◌∷◌, ◌++◌, sym, subst, ◌∙◌}, lemmas.List.{append_assoc}}
use Rattle.endpoint_membership.specs.{Table.{Holds, IsWithinLimits, TableValue}, declared.change.Change.{Change}}
use Rattle.published_table.specs.{Publishers.{IsSamePublisher, ShowsAlike, owing, published, reading_terms}, Terms.{settings_by}, declared.{publisher.Publisher.{Publisher}, terms.Terms.{Terms}}}
use Rattle.replication_tests.specs.Following.{Follows, whole_log}

pub whole_log-alike : (before after : Publisher) → ShowsAlike before after → whole_log after ≡ whole_log before
whole_log-alike before after same = λ i. same.same_published i ++ same.same_owing i

pub whole_log-taken : (before after : Publisher) (change : Change) → published after ≡ published before → owing after ≡ owing before ++ change ∷ [] → whole_log after ≡ whole_log before ++ change ∷ []
whole_log-taken before after change same more = (λ i. same i ++ more i) ∙ sym (append_assoc (published before) (owing before) (change ∷ []))

-- the table, with the same log as before
pub Follows-same : (table : TableValue) (before after : Publisher) → IsSamePublisher before after → whole_log after ≡ whole_log before → Follows table before → Follows table after
Follows-same table before after same log follows = record {
  stands = subst (λ (terms : Terms). Holds (settings_by terms) table (whole_log after)) (sym same.terms)
      (subst (Holds (settings_by (reading_terms before)) table) (sym log) follows.stands);
  within = follows.within;
}

-- the table with one entry more, and the publisher that took it
pub Follows-taken : (table : TableValue) (before after : Publisher) (change : Change) → IsSamePublisher before after → published after ≡ published before → owing after ≡ owing before ++ change ∷ []
    → Holds (settings_by (reading_terms before)) table (whole_log before ++ change ∷ []) → IsWithinLimits table → Follows table after
Follows-taken table before after change same shown more stands within = record {
  stands = subst (λ (terms : Terms). Holds (settings_by terms) table (whole_log after)) (sym same.terms)
      (subst (Holds (settings_by (reading_terms before)) table) (sym (whole_log-taken before after change shown more)) stands);
  within = within;
}
