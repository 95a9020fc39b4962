-- The payload of the front frame. These mirror the code: what a reader must believe is in crate `queue`.
use Rattle.std.specs.Prelude.{ℕ, ◌+◌, ◌-◌, ◌*◌, min, Bool, true, false, ◌&&◌, List, leb, eqb, Option, Some, None}
use Rattle.laws.specs.Choice.{pick}
use Rattle.laws.specs.Numbers.{add_sat}
use Rattle.types.specs.Values.{part_in, maybe_in}
use Rattle.wire.specs.Length.{stopped, item_length, batch_length}
use Rattle.queue.specs.Sizes.{held_size}
use Rattle.queue.specs.Frame.{single_in, all_in}
use Rattle.types.specs.declared.frame.FrameRecord.{FrameRecord}
use Rattle.types.specs.declared.frame.FrameKind.{FrameKind}
use Rattle.types.specs.declared.frame.FrameKind.TheVariants.{Single, Batch, Chunked}
use Rattle.types.specs.declared.message.Part.{Part}
use Rattle.types.specs.declared.message.OutgoingMessage.{OutgoingMessage}
use Rattle.types.specs.declared.message.SingleMessage.{SingleMessage}
use Rattle.frames.specs.declared.span.Span.{Span}

abbrev pub name_in : ℕ → Part → Bool
name_in n name = pick (eqb name.len 0) true (part_in n name)

-- what a message bears besides its payload
abbrev pub borne : ℕ → OutgoingMessage → Bool
borne n m =
    maybe_in n m.partition_key && maybe_in n m.ordering_key && maybe_in n m.schema_version && name_in n m.producer_name

-- what of the payload went before
abbrev pub skip_of : FrameKind → ℕ
skip_of Single = 0
skip_of (Batch b) = 0
skip_of (Chunked c) = c.next_chunk * c.max_chunk_size

abbrev pub piece_len : FrameKind → ℕ → ℕ → ℕ
piece_len Single len skip = len
piece_len (Batch b) len skip = len
piece_len (Chunked c) len skip = min c.max_chunk_size (len - skip)

abbrev pub span_at : ℕ → OutgoingMessage → ℕ → ℕ → Option Span
span_at n m skip len =
    pick (leb (m.payload.start + skip + len) n && borne n m) (Some (record { start = add_sat m.payload.start skip; len = len })) None

abbrev pub message_span : ℕ → FrameRecord → Option Span
message_span n r =
    let skip = skip_of r.kind in
    span_at n r.message skip (piece_len r.kind r.message.payload.len skip)

abbrev pub empty_span : Span
empty_span = record { start = 0; len = 0 }

abbrev pub with_item : ℕ → Span → SingleMessage → Option Span
with_item n s m = pick (single_in n m) (Some (record { start = s.start; len = add_sat s.len (stopped (item_length m)) })) None

abbrev pub batch_span : ℕ → List SingleMessage → Option Span
batch_span n ms = pick (all_in n ms) (Some (record { start = 0; len = stopped (batch_length ms) })) None

abbrev pub is_batch : FrameKind → Bool
is_batch Single = false
is_batch (Batch b) = true
is_batch (Chunked c) = false

abbrev pub held_count : FrameKind → ℕ → ℕ
held_count Single held = 0
held_count (Batch b) held = min b.num_messages (min held held_size)
held_count (Chunked c) held = 0

abbrev pub span_of : ℕ → FrameRecord → FrameKind → List SingleMessage → Option Span
span_of n r k ms =
    pick (is_batch k) (batch_span n ms) (span_at n r.message (skip_of k) (piece_len k r.message.payload.len (skip_of k)))
