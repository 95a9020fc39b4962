-- A message that a send takes is within the bounds that a batch's bytes want: refusal 3 sees to it.
use Rattle.std.specs.Prelude.{None, Option, Some, ℕ, unwrap_or}
use Prim.Native.Nat.{◌^◌, ◌≤◌, ◌<◌}
use mathlib.Core.Path.{◌≡◌}
use mathlib.Core.Bool.{true, ◌&&◌}
use native.Mathlib.Omega.{arith}
use lib.Dec.{leb}
use borrow.Author.Tests.{leb-true}
use Rattle.types.specs.Bounds.{longest_payload, longest_key, longest_name}
use Rattle.types.specs.MemoryLimit.{reservable}
use Rattle.types.specs.Values.{up_to}
use Rattle.types.specs.declared.message.OutgoingMessage.{OutgoingMessage}
use Rattle.wire.specs.Batch.{WithinBounds, len_of}
use Rattle.queue.specs.Batch.{single_of}
use Rattle.queue.specs.Send.{Sending, within_bounds}
use Rattle.queue.specs.Run.{Is64}
use Rattle.laws.proofs.Choice.{and_left, and_right}
use Rattle.types.specs.declared.message.Part.{Part}

part_within : (x : Option Part) → up_to longest_key x ≡ true → len_of x ≤ longest_key
part_within None h = omega arith
part_within (Some p) h = leb-true p.len longest_key h

number_within : (x : Option ℕ) → Is64 x → unwrap_or x 0 < 2 ^ 64
number_within None h = omega arith
number_within (Some n) h = h

pub payload_within : (m : OutgoingMessage) (reserved : ℕ) → within_bounds m reserved ≡ true → m.payload.len ≤ longest_payload
payload_within m reserved h = leb-true m.payload.len longest_payload (and_left _ _ (and_left _ _ (and_left _ _ (and_left _ _ (and_left _ _ h)))))

-- a send that refusal 3 lets through
pub record Sendable (a : Sending) : Type 0 where
  pub within : within_bounds a.message a.reserved ≡ true
  pub bounds : WithinBounds (single_of a.message)

pub sendable : (s : Sending) → within_bounds s.message s.reserved ≡ true → Is64 s.message.event_time → Sendable s
sendable s h is64 =
    let m = s.message in
    let a = leb m.payload.len longest_payload in
    let b = up_to longest_key m.partition_key in
    let c = up_to longest_key m.ordering_key in
    let d = up_to longest_key m.schema_version in
    let e = leb m.producer_name.len longest_name in
    let abc : (a && b && c) ≡ true =
    and_left (a && b && c) d (and_left (a && b && c && d) e (and_left (a && b && c && d && e) (reservable s.reserved) h)) in
    let ab : (a && b) ≡ true = and_left (a && b) c abc in
    record {
      within = h;
      bounds = record {
        payload = payload_within m s.reserved h;
        partition_key = part_within m.partition_key (and_right a b ab);
        ordering_key = part_within m.ordering_key (and_right (a && b) c abc);
        event_time = number_within m.event_time is64;
      };
    }
