use Rattle.std.proofs.Common.{◌≡◌, List, ℕ, [], IsTrue, sym, ◌∙◌, ◌+◌, ap, subst}
use Rattle.q4_disk.specs.Time.{LeavesOnly}
use Rattle.q4_disk.proofs.Moments.{weaker}
use Rattle.q4_store.proofs.Lifting.{Holds}
use Rattle.q4_store.specs.Commit.{sealed}
use Rattle.q4_store.specs.Device.{AllMade, BrokeOff, commit_calls}
use Rattle.q4_store.specs.Content.{Content, table_of, IsPrefix, IsAllOrNone}
use Rattle.q4_store.specs.Store.{Stored, StandsFor, IsLongerBy}
use Rattle.q4_store.proofs.Commits.{nothing_waits, not_so, ends_behind, end_is, leaves, leaves_all, settled_new, stands_open, stands_done, held_then}
use Rattle.q4_store.proofs.store.Store.commit.Given as given
use Rattle.q4_store.proofs.store.Store.commit.Goals as goal
use Rattle.q4_store.proofs.store.Store.commit.Goals.{After-commit_batch, In-Ok}

pub returns-then-is_empty-clause-done : goal.returns-then-is_empty-clause-done
returns-then-is_empty-clause-done g c content s =
    let none : c.self.inside.batch.records ≡ [] = c.is_empty.ensures.0 c.if-is_empty.true in
    let here = subst (λ store. StandsFor g.D.Disk.told store content) (sym c.self.view_is) s in
    subst (StandsFor g.D.Disk.told c.args.self.now) (nothing_waits content (sym here.records ∙ none)) s

-- what a commit that was begun leaves, by the store's own disk
module _ (g : given.Over) (content : Content) where
  run : (c : goal.After-commit_batch g) → StandsFor g.D.Disk.told c.args.self.now content → IsTrue (g.D.Disk.told c.self.inside.disk).honest → LeavesOnly (g.D.Disk.told c.self.inside.disk) (g.D.Disk.told c.commit_batch.new.disk) (λ d. IsPrefix content c.self.inside.generation d × Holds c.self.inside.side c.self.inside.generation d)
  run c s h =
      let here = subst (λ store. StandsFor g.D.Disk.told store content) (sym c.self.view_is) s in
      let some = not_so c.is_empty.result c.is_empty.ensures c.if-is_empty.false in
      let kept = c.self.invariant.kept in
      let ends = ends_behind g.D.Disk.told _ content here some kept.room c.if-self.false h in
      leaves g.D.Disk.told _ content here some kept.room c.if-self.false h _ c.as_slice.result.now c.as_slice.ensures (c.commit_batch.ensures.any_moment _ h ends (end_is g.D.Disk.told _ content here some kept.room c.if-self.false h))

  run_all : (c : goal.After-commit_batch g) → StandsFor g.D.Disk.told c.args.self.now content → IsTrue (g.D.Disk.told c.self.inside.disk).honest → LeavesOnly (g.D.Disk.told c.self.inside.disk) (g.D.Disk.told c.commit_batch.new.disk) (IsAllOrNone content c.self.inside.generation)
  run_all c s h =
      let here = subst (λ store. StandsFor g.D.Disk.told store content) (sym c.self.view_is) s in
      let some = not_so c.is_empty.result c.is_empty.ensures c.if-is_empty.false in
      let kept = c.self.invariant.kept in
      let ends = ends_behind g.D.Disk.told _ content here some kept.room c.if-self.false h in
      leaves_all g.D.Disk.told _ content here some kept.room c.if-self.false h _ c.as_slice.result.now c.as_slice.ensures (c.commit_batch.ensures.any_moment _ h ends (end_is g.D.Disk.told _ content here some kept.room c.if-self.false h))

pub returns-in-Ok-clause-all_or_none : goal.returns-in-Ok-clause-all_or_none
returns-in-Ok-clause-all_or_none g c content s h whole some =
    subst (λ (store : Stored g.row.D.Denot). IsTrue (g.D.Disk.told store.disk).honest → LeavesOnly (g.D.Disk.told store.disk) (g.D.Disk.told c.commit_batch.new.disk) (IsAllOrNone content store.generation)) c.self.view_is
    (run_all g content (goal.at.returns-in-Ok-clause-all_or_none g c).After-commit_batch s) h

pub returns-in-Err-clause-all_or_none : goal.returns-in-Err-clause-all_or_none
returns-in-Err-clause-all_or_none g c content s h whole some =
    subst (λ (store : Stored g.row.D.Denot). IsTrue (g.D.Disk.told store.disk).honest → LeavesOnly (g.D.Disk.told store.disk) (g.D.Disk.told c.commit_batch.new.disk) (IsAllOrNone content store.generation)) c.self.view_is
    (run_all g content (goal.at.returns-in-Err-clause-all_or_none g c).After-commit_batch s) h

pub returns-in-Ok-clause-copy : goal.returns-in-Ok-clause-copy
returns-in-Ok-clause-copy g c content extra longer =
    subst (λ (store : Stored g.row.D.Denot). IsLongerBy store (table_of content) extra) (sym c.self.view_is) longer

pub returns-in-Err-clause-copy : goal.returns-in-Err-clause-copy
returns-in-Err-clause-copy g c content extra longer =
    subst (λ (store : Stored g.row.D.Denot). IsLongerBy store (table_of content) extra) (sym c.self.view_is) longer

pub returns-in-Ok-clause-any_moment : goal.returns-in-Ok-clause-any_moment
returns-in-Ok-clause-any_moment g c content s h =
    subst (λ (store : Stored g.row.D.Denot). IsTrue (g.D.Disk.told store.disk).honest → LeavesOnly (g.D.Disk.told store.disk) (g.D.Disk.told c.commit_batch.new.disk) (IsPrefix content store.generation)) c.self.view_is
    (λ honest. weaker _ _ _ (IsPrefix content c.self.inside.generation) (run g content (goal.at.returns-in-Ok-clause-any_moment g c).After-commit_batch s honest) (λ d both. both.0)) h

pub returns-in-Err-clause-any_moment : goal.returns-in-Err-clause-any_moment
returns-in-Err-clause-any_moment g c content s h =
    subst (λ (store : Stored g.row.D.Denot). IsTrue (g.D.Disk.told store.disk).honest → LeavesOnly (g.D.Disk.told store.disk) (g.D.Disk.told c.commit_batch.new.disk) (IsPrefix content store.generation)) c.self.view_is
    (λ honest. weaker _ _ _ (IsPrefix content c.self.inside.generation) (run g content (goal.at.returns-in-Err-clause-any_moment g c).After-commit_batch s honest) (λ d both. both.0)) h

pub returns-in-Err-clause-open : goal.returns-in-Err-clause-open
returns-in-Err-clause-open g c content s =
    let here = subst (λ store. StandsFor g.D.Disk.told store content) (sym c.self.view_is) s in
    stands_open g.D.Disk.told _ content c.commit_batch.new.disk here c.commit_batch.ensures.honest (g.met.D.Disk.counts_now c.commit_batch.new.disk) (run g content (goal.at.returns-in-Err-clause-open g c).After-commit_batch s) c.commit_batch.ensures.other c.if-self.false c.commit_batch.ensures.there

pub returns-in-Ok-clause-done : goal.returns-in-Ok-clause-done
returns-in-Ok-clause-done g c content s =
    let here = subst (λ store. StandsFor g.D.Disk.told store content) (sym c.self.view_is) s in
    let some = not_so c.is_empty.result c.is_empty.ensures c.if-is_empty.false in
    let kept = c.self.invariant.kept in
    stands_done g.D.Disk.told _ content c.commit_batch.new.disk _ c.clear.new.self.records here c.commit_batch.ensures.honest
    (λ h.
    settled_new g.D.Disk.told _ content here some kept.room c.if-self.false h _ c.as_slice.result.now c.pending_size.result c.as_slice.ensures c.pending_size.ensures
    (c.in-Ok.ensures.done _ h (ends_behind g.D.Disk.told _ content here some kept.room c.if-self.false h) (end_is g.D.Disk.told _ content here some kept.room c.if-self.false h))
    (c.in-Ok.ensures.only h) (c.commit_batch.ensures.other h))
    c.commit_batch.ensures.other c.if-self.false c.clear.ensures.records (ap (λ (n : ℕ). c.self.inside.end + n) c.pending_size.ensures) c.commit_batch.ensures.there

pub returns-in-Ok-clause-device : goal.returns-in-Ok-clause-device
returns-in-Ok-clause-device g c whole some =
    let made = subst (λ (bytes : List ℕ). AllMade g.D.Disk.told (commit_calls c.self.inside.side c.self.inside.end bytes) c.self.inside.disk c.commit_batch.new.disk) c.as_slice.ensures c.in-Ok.ensures.device in
    subst (λ (store : Stored g.row.D.Denot). AllMade g.D.Disk.told (commit_calls store.side store.end (sealed store.records)) store.disk c.commit_batch.new.disk) c.self.view_is made

pub returns-in-Err-clause-device : goal.returns-in-Err-clause-device
returns-in-Err-clause-device g c whole some =
    let broke = subst (λ (bytes : List ℕ). BrokeOff g.D.Disk.told (commit_calls c.self.inside.side c.self.inside.end bytes) c.self.inside.disk c.commit_batch.new.disk) c.as_slice.ensures c.in-Err.ensures.device in
    subst (λ (store : Stored g.row.D.Denot). BrokeOff g.D.Disk.told (commit_calls store.side store.end (sealed store.records)) store.disk c.commit_batch.new.disk) c.self.view_is broke

pub invariant_of-self : goal.invariant_of-self
invariant_of-self g c =
    held_then g.D.Disk.told _ c.commit_batch.new.disk c.as_slice.result.now c.clear.new.self.records c.pending_size.result _ c.clear.new.self.room _ c.self.invariant (not_so c.is_empty.result c.is_empty.ensures c.if-is_empty.false)
    c.commit_batch.ensures.honest c.as_slice.ensures c.pending_size.ensures c.clear.ensures.records c.clear.ensures.room c.in-Ok.ensures.long
