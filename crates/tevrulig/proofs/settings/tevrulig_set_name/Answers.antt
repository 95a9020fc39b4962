-- `tevrulig::settings::tevrulig_set_name`: the status is the number that the answer says.
use Rattle.std.proofs.Common.{[]}
use Rattle.queue.specs.Run.{step, set_name}
use Rattle.queue.proofs.Values.{no_values}
use Rattle.producer.specs.View.{view}
use Rattle.tevrulig.proofs.Refused.{status_is}
use Rattle.tevrulig.proofs.settings.tevrulig_set_name.Goals as goal

pub returns-clause-meets : goal.returns-clause-meets
returns-clause-meets c =
    let q = view c.args.producer.now in
    let call = set_name c.args.name.now in
    status_is (step [] call q) (no_values [] call q tt) (view c.rename.new.self) _ c.rename.ensures.meets _ c.status.ensures
