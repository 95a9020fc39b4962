-- The codes of the calls (docs/SCRIPT.md, 'The script').
use Rattle.std.specs.Prelude.{◌≡◌, ℕ, Result, MatchResult}
use Rattle.script.specs.declared.operation.Call.{Call}
use Rattle.script.specs.declared.operation.Call.TheVariants.{QueueSendReserved, QueueSend, FlushBatch, NextOutboundFrame, ApplyReceipt, ApplySendError, DrainTimedOutSends, DrainPendingSends, SnapshotPendingSends, ReplaySnapshots, ReplayLastSnapshot, ReplayPendingOutbound, SetInitialSequenceId, SetName, SetMaxMessageSize, SetMaxBatchSizeBytes, SetMaxMessagesInBatch, SetBatchingEnabled, SetChunkingEnabled, SetSendTimeout, SetBatchingMaxPublishDelay, SetBrokerReady, Close, SetMetadataReservation, NextSendDeadline, NextBatchDeadline, BatchDeadlineElapsed, CanAddToBatch, OutboundLen, Stats, Dump, MetadataReservation}
use Rattle.script.specs.declared.operation.UnknownCode.{UnknownCode}

-- the byte that stands for a call
abbrev pub code_of : Call → ℕ
code_of QueueSendReserved = 0x01
code_of QueueSend = 0x02
code_of FlushBatch = 0x03
code_of NextOutboundFrame = 0x04
code_of ApplyReceipt = 0x05
code_of ApplySendError = 0x06
code_of DrainTimedOutSends = 0x07
code_of DrainPendingSends = 0x08
code_of SnapshotPendingSends = 0x09
code_of ReplaySnapshots = 0x0A
code_of ReplayLastSnapshot = 0x0B
code_of ReplayPendingOutbound = 0x0C
code_of SetInitialSequenceId = 0x0D
code_of SetName = 0x10
code_of SetMaxMessageSize = 0x11
code_of SetMaxBatchSizeBytes = 0x12
code_of SetMaxMessagesInBatch = 0x13
code_of SetBatchingEnabled = 0x14
code_of SetChunkingEnabled = 0x15
code_of SetSendTimeout = 0x16
code_of SetBatchingMaxPublishDelay = 0x17
code_of SetBrokerReady = 0x18
code_of Close = 0x19
code_of SetMetadataReservation = 0x1A
code_of NextSendDeadline = 0x20
code_of NextBatchDeadline = 0x21
code_of BatchDeadlineElapsed = 0x22
code_of CanAddToBatch = 0x23
code_of OutboundLen = 0x24
code_of Stats = 0x25
code_of Dump = 0x26
code_of MetadataReservation = 0x27

-- the call with this code, or an error with it
abbrev pub Decodes : ℕ → Result Call UnknownCode → Type 0
Decodes code r = MatchResult r (λ call. code_of call ≡ code) (λ e. e.0 ≡ code)
