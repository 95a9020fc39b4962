-- The empty batch and the empty name.
use Rattle.std.specs.Prelude.{replicate, None}
use Rattle.types.specs.Bounds.{longest_name}
use Rattle.types.specs.declared.batch.BatchContainer.{BatchContainer}
use Rattle.types.specs.declared.frame.ProducerName.{ProducerName}

-- `BatchContainer::empty`
abbrev pub empty_batch : BatchContainer
empty_batch =
    record {
      len = 0;
      current_size_bytes = 0;
      encoded_len = 0;
      lowest_sequence_id = record { 0 = 0 };
      highest_sequence_id = record { 0 = 0 };
      first_added_at = 0;
      txn_id = None;
    }

abbrev pub empty_name : ProducerName
empty_name = record { bytes = replicate longest_name 0; len = 0 }
