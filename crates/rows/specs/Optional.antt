-- What optional values stand for, as rows.
use Rattle.std.specs.Prelude.{ℕ, ℤ, List, Bool, not, ◌==◌, Option, Some, None}
use Rattle.laws.specs.Choice.{pick}
use Rattle.types.specs.declared.message.Part.{Part}
use Rattle.types.specs.declared.txn.TxnId.{TxnId}
use Rattle.types.specs.declared.types.MessageId.{MessageId}
use Rattle.types.specs.declared.types.SequenceId.{SequenceId}
use Rattle.rows.specs.declared.optional.OptionalPart.{OptionalPart}
use Rattle.rows.specs.declared.optional.OptionalU64.{OptionalU64}
use Rattle.rows.specs.declared.optional.OptionalI64.{OptionalI64}
use Rattle.rows.specs.declared.optional.OptionalI32.{OptionalI32}
use Rattle.rows.specs.declared.optional.OptionalBool.{OptionalBool}
use Rattle.rows.specs.declared.optional.OptionalTxnId.{OptionalTxnId}
use Rattle.rows.specs.declared.optional.OptionalMessageId.{OptionalMessageId}
use Rattle.rows.specs.declared.optional.OptionalSequenceId.{OptionalSequenceId}
use Rattle.rows.specs.declared.optional.OptionalUuid.{OptionalUuid}

-- a number as a truth value
abbrev pub decode_mark : ℕ → Bool
decode_mark n = not (n == 0)

-- the value, where its mark is not 0
abbrev pub when : {A : Type 0} → ℕ → A → Option A
when present value = pick (present == 0) None (Some value)

abbrev pub decode_part : OptionalPart → Option Part
decode_part o = when o.present o.value

abbrev pub decode_u64 : OptionalU64 → Option ℕ
decode_u64 o = when o.present o.value

abbrev pub decode_i64 : OptionalI64 → Option ℤ
decode_i64 o = when o.present o.value

abbrev pub decode_i32 : OptionalI32 → Option ℤ
decode_i32 o = when o.present o.value

abbrev pub decode_bool : OptionalBool → Option Bool
decode_bool o = when o.present (decode_mark o.value)

abbrev pub decode_txn : OptionalTxnId → Option TxnId
decode_txn o = when o.present o.value

abbrev pub decode_message_id : OptionalMessageId → Option MessageId
decode_message_id o = when o.present o.value

abbrev pub decode_sequence_id : OptionalSequenceId → Option SequenceId
decode_sequence_id o = when o.present o.value

abbrev pub decode_uuid : OptionalUuid → Option (List ℕ)
decode_uuid o = when o.present o.value
