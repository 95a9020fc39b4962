-- `Core::flushes_before`: both flushes are the definition's.
use Rattle.std.specs.Prelude.{not, ◌&&◌, ◌||◌, eqb}
use Rattle.queue.specs.Send.{flushes_before}
use Rattle.plans.proofs.state.Core.flushes_before.Goals as goal

pub returns : goal.returns
unfolding flushes_before
returns c =
    let a = c.args in
    let waits = not (eqb a.self.batch.len 0) in
    λ j.
    (waits && a.self.settings.switches.batching_enabled && not (c.same_txn.ensures j)) || (waits && not (c.may_join.ensures j))
