-- `tevrulig::lent::tevrulig_replay_pending_outbound`: a refusal answers its number alone.
use Rattle.std.proofs.Common.{[], ap}
use Rattle.queue.specs.Run.{step, resend}
use Rattle.queue.proofs.Values.{no_values}
use Rattle.queue.specs.Told.{told}
use Rattle.producer.specs.View.{view}
use Rattle.tevrulig.proofs.Refused.{refused_is}
use Rattle.tevrulig.proofs.lent.tevrulig_replay_pending_outbound.Goals as goal

pub returns-in-Err-clause-meets : goal.returns-in-Err-clause-meets
returns-in-Err-clause-meets c =
    let q = view c.args.producer.now in
    let call = resend in
    refused_is (step [] call q) (no_values [] call q tt) (view c.resend.new.self) _ c.in-Err.e (ap told c.in-Err.is) c.resend.ensures.meets _ c.number.ensures _
