-- `tevrulig::settings::set`: the status is the number that the answer says.
use Rattle.std.proofs.Common.{[]}
use Rattle.queue.specs.Run.{step, set}
use Rattle.queue.proofs.Values.{no_values}
use Rattle.producer.specs.View.{view}
use Rattle.tevrulig.proofs.Refused.{status_is}
use Rattle.tevrulig.proofs.settings.set.Goals as goal

pub returns-clause-meets : goal.returns-clause-meets
returns-clause-meets c =
    let q = view c.args.producer.now in
    let call = set c.args.s in
    status_is (step [] call q) (no_values [] call q tt) (view c.change.new.self) _ c.change.ensures.meets _ c.status.ensures
