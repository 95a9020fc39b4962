-- The broker's answers that rows stand for.
use Rattle.std.specs.Prelude.{Option}
use Rattle.types.specs.declared.command.CommandSendError.{CommandSendError}
use Rattle.types.specs.declared.command.CommandSendReceipt.{CommandSendReceipt}
use Rattle.types.specs.declared.types.MessageIdData.{MessageIdData}
use Rattle.rows.specs.Optional.{when, decode_i32}
use Rattle.rows.specs.declared.command.MessageIdDataRow.{MessageIdDataRow}
use Rattle.rows.specs.declared.command.ReceiptRow.{ReceiptRow}
use Rattle.rows.specs.declared.command.ErrorRow.{ErrorRow}

abbrev pub decode_message_id_data : MessageIdDataRow → Option MessageIdData
decode_message_id_data m =
    when m.present
    (record {
      ledger_id = m.ledger_id;
      entry_id = m.entry_id;
      partition = decode_i32 m.partition;
      batch_index = decode_i32 m.batch_index;
      batch_size = decode_i32 m.batch_size;
    })

abbrev pub decode_receipt : ReceiptRow → CommandSendReceipt
decode_receipt r = record { producer_id = r.producer_id; sequence_id = r.sequence_id; message_id = decode_message_id_data r.message_id }

abbrev pub decode_error : ErrorRow → CommandSendError
decode_error e = record { producer_id = e.producer_id; sequence_id = e.sequence_id; error = e.error }
