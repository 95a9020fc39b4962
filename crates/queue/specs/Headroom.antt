-- The headroom (document 02, K6): the size of a chunk at 1,024 is document 01's, it is at most the limit, and a message that was cut keeps its own.
use Rattle.std.specs.Prelude.{ℕ, ◌-◌, ◌≤◌, ◌≡◌, List, ltb}
use Rattle.laws.specs.Choice.{pick}
use Rattle.types.specs.declared.entry.OpSend.{OpSend}
use Rattle.types.specs.declared.settings.Setting.TheVariants.{MetadataReservation}
use Rattle.queue.specs.Queue.{Queue, with_settings}
use Rattle.queue.specs.Settings.{changed}
use Rattle.queue.specs.Send.{chunk_size}
use Rattle.queue.specs.Run.{Call, take, snapshot, replay, resend, step}

-- ── the size of a chunk ──

-- document 01, 'sends': the limit less 1,024 if the limit is over 4,096, else the limit
abbrev pub told_chunk_size : ℕ → ℕ
told_chunk_size limit = pick (ltb 4096 limit) (limit - 1024) limit

abbrev pub DefaultTold : Type 0
DefaultTold = (limit : ℕ) → chunk_size 1024 limit ≡ told_chunk_size limit

abbrev pub WithinLimit : Type 0
WithinLimit = (headroom limit : ℕ) → chunk_size headroom limit ≤ limit

-- ── an entry keeps the size it was cut with, and its replay and 12 go by that ──

abbrev pub at_headroom : ℕ → Queue → Queue
at_headroom n q = with_settings (changed (MetadataReservation n) q.settings) q

-- a call answers and does the same whatever the headroom is, and leaves it
abbrev pub Unread : Call → Type 0
Unread c = (store : List ℕ) (n : ℕ) (q : Queue) → step store c (at_headroom n q) ≡ (at_headroom n (step store c q).0, (step store c q).1)

pub record CutKept : Type 0 where
  pub takes : (room : ℕ) → Unread (take room)
  pub snapshots : (droppedRoom replayRoom : ℕ) → Unread (snapshot droppedRoom replayRoom)
  pub replays : (entries : List OpSend) → Unread (replay entries)
  pub resends : Unread resend
