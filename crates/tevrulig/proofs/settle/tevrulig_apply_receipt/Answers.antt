-- `tevrulig::settle::tevrulig_apply_receipt`: a refusal answers its number alone.
use Rattle.std.proofs.Common.{[], ap, ◌∙◌}
use Rattle.queue.specs.Run.{step, receipt}
use Rattle.queue.proofs.Values.{no_values}
use Rattle.types.specs.declared.command.CommandSendReceipt.{CommandSendReceipt}
use Rattle.queue.specs.Settle.{apply_receipt}
use Rattle.std.specs.Prelude.{Result}
use Rattle.types.specs.declared.entry.OpSend.{OpSend}
use Rattle.types.specs.declared.types.MessageId.{MessageId}
use Rattle.types.specs.declared.error.ProducerError.{ProducerError}
use Rattle.rows.specs.declared.entry.OpSendRow.{OpSendRow}
use Rattle.queue.specs.Queue.{Answer}
use Rattle.producer.specs.Settle.{decode_settled}
use Rattle.queue.specs.Told.{told}
use Rattle.rows.specs.Command.{decode_receipt}
use Rattle.producer.specs.View.{view}
use Rattle.tevrulig.proofs.Refused.{refused_is}
use Rattle.tevrulig.proofs.settle.tevrulig_apply_receipt.Goals as goal

pub returns-in-Err-clause-meets : goal.returns-in-Err-clause-meets
returns-in-Err-clause-meets c =
    let q = view c.args.producer.now in
    let settled : Result (OpSendRow × MessageId) ProducerError → Answer (OpSend × MessageId) = λ r. told (decode_settled r) in
    let call = receipt (decode_receipt c.args.r.now).sequence_id.0 (decode_receipt c.args.r.now).message_id in
    refused_is (step [] call q) (no_values [] call q tt) (view c.receive.new.self) _ c.in-Err.e (ap settled c.in-Err.is) (c.receive.ensures.meets ∙ ap (λ (x : CommandSendReceipt). apply_receipt x.sequence_id.0 x.message_id q) c.decode.ensures) _ c.number.ensures _
