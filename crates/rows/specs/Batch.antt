-- The open batch that a row stands for.
use Rattle.types.specs.declared.batch.BatchContainer.{BatchContainer}
use Rattle.rows.specs.Optional.{decode_txn}
use Rattle.rows.specs.declared.batch.BatchRow.{BatchRow}

abbrev pub decode_batch : BatchRow → BatchContainer
decode_batch b =
    record {
      len = b.len;
      current_size_bytes = b.current_size_bytes;
      encoded_len = b.encoded_len;
      lowest_sequence_id = b.lowest_sequence_id;
      highest_sequence_id = b.highest_sequence_id;
      first_added_at = b.first_added_at;
      txn_id = decode_txn b.txn_id;
    }
