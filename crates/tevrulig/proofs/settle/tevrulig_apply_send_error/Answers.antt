-- `tevrulig::settle::tevrulig_apply_send_error`: a refusal answers its number alone.
use Rattle.std.proofs.Common.{[], ap, ◌∙◌}
use Rattle.queue.specs.Run.{step, send_error}
use Rattle.queue.proofs.Values.{no_values}
use Rattle.types.specs.declared.command.CommandSendError.{CommandSendError}
use Rattle.queue.specs.Settle.{apply_send_error}
use Rattle.std.specs.Prelude.{Result, ℤ}
use Rattle.types.specs.declared.entry.OpSend.{OpSend}
use Rattle.types.specs.declared.error.ProducerError.{ProducerError}
use Rattle.rows.specs.declared.entry.OpSendRow.{OpSendRow}
use Rattle.queue.specs.Queue.{Answer}
use Rattle.producer.specs.Settle.{decode_settled}
use Rattle.queue.specs.Told.{told}
use Rattle.rows.specs.Command.{decode_error}
use Rattle.producer.specs.View.{view}
use Rattle.tevrulig.proofs.Refused.{refused_is}
use Rattle.tevrulig.proofs.settle.tevrulig_apply_send_error.Goals as goal

pub returns-in-Err-clause-meets : goal.returns-in-Err-clause-meets
returns-in-Err-clause-meets c =
    let q = view c.args.producer.now in
    let settled : Result (OpSendRow × ℤ) ProducerError → Answer (OpSend × ℤ) = λ r. told (decode_settled r) in
    let call = send_error (decode_error c.args.err.now).sequence_id.0 (decode_error c.args.err.now).error in
    refused_is (step [] call q) (no_values [] call q tt) (view c.fail.new.self) _ c.in-Err.e (ap settled c.in-Err.is) (c.fail.ensures.meets ∙ ap (λ (x : CommandSendError). apply_send_error x.sequence_id.0 x.error q) c.decode.ensures) _ c.number.ensures _
