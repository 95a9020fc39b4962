-- `tevrulig::lent::tevrulig_replay_snapshots`: the status is the number that the answer says.
use Rattle.std.proofs.Common.{[], map}
use Rattle.queue.specs.Run.{step, replay}
use Rattle.queue.proofs.Values.{no_values}
use Rattle.rows.specs.Entry.{decode_entry}
use Rattle.producer.specs.View.{view}
use Rattle.tevrulig.proofs.Refused.{status_is}
use Rattle.tevrulig.proofs.lent.tevrulig_replay_snapshots.Goals as goal

pub returns-clause-meets : goal.returns-clause-meets
returns-clause-meets c =
    let q = view c.args.producer.now in
    let call = replay (map decode_entry c.args.table.now) in
    status_is (step [] call q) (no_values [] call q tt) (view c.replay.new.self) _ c.replay.ensures.meets _ c.status.ensures
