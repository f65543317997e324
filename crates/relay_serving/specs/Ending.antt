-- What a running relay leaves.
use Rattle.std.specs.{Prelude.{◌≡◌, List, length, count_by, if◌then◌else◌}, List.{All, AllZip}}
use Rattle.amt_ports.specs.declared.out_link.OutLink.{Ghosts}
use Rattle.endpoint_membership.specs.declared.change.Change.{Change}
use Rattle.published_table.specs.{Lists.{BeginsWith}, Views.{seen, views_of}, declared.view.View.{View}}
use Rattle.replication_workers.specs.{Dispatchers.{is_threaded}, SlotStates.{HaveLeft, jobs_in_all}}
use Rattle.relay_serving.specs.{Servers.{counts_in, owing_in, published_in, slots_in}, Views.{is_apart}, declared.server.{Server.{Server}, ending.Ending.{Ending}}}

-- each view has seen more than it had, and all that is published
pub record AreAsked (published : List Change) (before after : List View) : Type 0 where
  pub further : AllZip (λ one other. BeginsWith (seen other) (seen one)) before after
  pub each : All (λ view. BeginsWith (seen view) published) after

-- the slots left their outs and views after exactly their jobs, and the views were asked since
pub record Finishes {O : Type 0} {g : Ghosts O} {T : Type 0} (server : Server O T g) (ending : Ending O) : Type 0 where
  pub left_views : List View
  pub left : HaveLeft (slots_in server) ending.outs left_views ending.outs_sent ending.outs_unsent
  pub asked : AreAsked (published_in server) left_views (views_of ending.views)
  pub same_counts : ending.counts ≡ counts_in server
  pub inline_is : ending.inline ≡ (if is_threaded server.dispatcher then 0 else jobs_in_all (slots_in server))
  pub owed_is : ending.owed ≡ length (owing_in server)
  pub published_is : ending.published ≡ length (published_in server)
  pub apart_is : ending.apart ≡ count_by (is_apart ending.published) (views_of ending.views)
