-- What comes back as it was.
use Rattle.std.specs.{Prelude.{◌≡◌, List, map}, List.{All}}
use Rattle.amt_ports.specs.declared.out_link.OutLink.{Ghosts}
use Rattle.published_table.specs.{Views.{publisher_of, seen, terms_of}, declared.view.View.{View}}
use Rattle.replication_workers.specs.{Replicators.{out_of, view_of}, declared.replicator.Replicator.{Replicator}}

-- a replicator as it was given, and the link and the view that came back
pub record SlotBack (O : Type 0) (g : Ghosts O) : Type 0 where
  pub given : Replicator O g
  pub out : O
  pub view : View

module _ {O : Type 0} {g : Ghosts O} where
  -- the link tells the same sends and the same faults as the replicator's, and the view is of the same
  -- publisher and terms and has seen the same
  pub record IsBack (given : Replicator O g) (out : O) (view : View) : Type 0 where
    pub tried : g.tried out ≡ g.tried (out_of given)
    pub faults : g.faults out ≡ g.faults (out_of given)
    pub same_seen : seen view ≡ seen (view_of given)
    pub terms : terms_of view ≡ terms_of (view_of given)
    pub publisher : publisher_of view ≡ publisher_of (view_of given)

  -- the links and the views of these replicators, in order, each as it was
  pub record AreBack (given : List (Replicator O g)) (outs : List O) (views : List View) : Type 0 where
    pub backs : List (SlotBack O g)
    pub given_are : map (λ back. back.given) backs ≡ given
    pub outs_are : map (λ back. back.out) backs ≡ outs
    pub views_are : map (λ back. back.view) backs ≡ views
    pub each : All (λ back. IsBack back.given back.out back.view) backs
