-- Document 01, types.rs, and the ids of producer.rs.
use Rattle.std.specs.Prelude.{ℕ, ℤ, pos, negsuc, None, Option, Some}
use Rattle.laws.specs.Numbers.{signed, less_one}
use Rattle.types.specs.declared.types.MessageId.{MessageId}
use Rattle.types.specs.declared.types.MessageIdData.{MessageIdData}

-- an absent number becomes -1
abbrev pub or_minus_one : Option ℤ → ℤ
or_minus_one None = negsuc 0
or_minus_one (Some n) = n

-- an absent partition, batch index or batch size becomes -1
abbrev pub from_pb : MessageIdData → MessageId
from_pb pb =
    record {
      ledger_id = pb.ledger_id;
      entry_id = pb.entry_id;
      partition = or_minus_one pb.partition;
      batch_index = or_minus_one pb.batch_index;
      batch_size = or_minus_one pb.batch_size;
    }

-- the other way, all numbers are there
abbrev pub with_all : MessageId → MessageIdData
with_all id =
    record {
      ledger_id = id.ledger_id;
      entry_id = id.entry_id;
      partition = Some id.partition;
      batch_index = Some id.batch_index;
      batch_size = Some id.batch_size;
    }

-- the id that a receipt answers; one with no message id at all: (0, 0, -1, -1, 0)
abbrev pub of_receipt : Option MessageIdData → MessageId
of_receipt None = record { ledger_id = 0; entry_id = 0; partition = negsuc 0; batch_index = negsuc 0; batch_size = pos 0 }
of_receipt (Some pb) = from_pb pb

-- the pushed and the published number of a producer whose next id is set, to one above 0:
-- the next id read as a signed 64-bit number, less 1, stopping at -2^63
abbrev pub before_next : ℕ → ℤ
before_next next = less_one (signed next)
