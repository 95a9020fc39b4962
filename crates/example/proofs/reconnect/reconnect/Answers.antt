-- `reconnect::reconnect`: each of its three ends, by the contracts of the two calls.
use Rattle.std.proofs.lemmas.Result.{err_from_is_err_and}
use Rattle.example.specs.Reconnects.{not_replayed}
use Rattle.example.proofs.Reconnects.{refused_first, both_calls}
use Rattle.example.proofs.reconnect.reconnect.Goals as goal

pub returns-in_err-counts : goal.returns-in_err-counts
returns-in_err-counts c =
    let p = err_from_is_err_and c.from_residual.result c.from_residual.ensures.1 in
    rw (p.1, p.2) (refused_first _ _ _ _ _ _ _ (rw c.in_err-counts.was at c.snapshot_pending_sends-cut.ensures))

pub returns-in_err-again : goal.returns-in_err-again
returns-in_err-again c =
    let p = err_from_is_err_and c.from_residual-in_err-again.result c.from_residual-in_err-again.ensures.1 in
    let snaps = rw c.in_ok-counts.was at c.snapshot_pending_sends-cut.ensures in
    let meets = rw c.in_err-again.was at c.replay_snapshots-again.ensures.meets in
    rw (p.1, p.2) (not_replayed c.in_ok-counts.counts (both_calls _ _ _ _ _ _ _ _ _ _ snaps c.written.ensures meets))

pub returns : goal.returns
returns c =
    let snaps = rw c.in_ok-counts.was at c.snapshot_pending_sends-cut.ensures in
    let meets = rw c.in_ok-again.was at c.replay_snapshots-again.ensures.meets in
    both_calls _ _ _ _ _ _ _ _ _ _ snaps c.written.ensures meets
