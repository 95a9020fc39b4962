-- Runs of the code: states and answers, each call meeting its method's contract; the order rule and its corollaries for them, and document 02's
-- K14 for the four calls of two reconnects.
use Rattle.std.specs.Prelude.{◌≡◌, ◌≤◌, ℕ, List, [], ◌∷◌, ◌++◌, map, length, Some}
use Rattle.types.specs.declared.entry.OpSend.{OpSend}
use Rattle.types.specs.declared.types.ProducerHandle.{ProducerHandle}
use Rattle.queue.specs.Queue.{Answer, refused, done, new_queue}
use Rattle.queue.specs.Frame.{Frame}
use Rattle.queue.specs.Message.{Message}
use Rattle.queue.specs.Settle.{Handed, handed}
use Rattle.queue.specs.Tables.{mark}
use Rattle.queue.specs.Run.{Call, snapshot, replay, Gives, frame_of, accepted_by, Waiting, AllRanged}
use Rattle.queue.specs.Read.{read}
use Rattle.queue.specs.Order.{AllCovered, Premises}
use Rattle.queue.specs.Chunks.{CallByCall}
use Rattle.producer.specs.Meets.{Meets}
use Rattle.producer.specs.View.{view}
use Rattle.producer.specs.declared.state.ProducerState.{ProducerState}

-- calls one after the other, each on the state that the last one left, by value, by reference or exported: from a state to a state, with the frames that the takes
-- answered and the messages of the sends that were not refused
pub data Run (store : List ℕ) : ProducerState → List Call → ProducerState → List Frame → List Message → Type 0 where
  end : {s : ProducerState} → Run store s [] s [] []
  call : {s t u : ProducerState} {c : Call} {cs : List Call} {fs : List Frame} {ms : List Message} (answer : Answer (Gives c))
      → Meets store c s t answer
      → Run store t cs u fs ms
      → Run store s (c ∷ cs) u (frame_of c answer ++ fs) (accepted_by store c answer ++ ms)

-- a run from a new producer, by what `ProducerState::new` and `reset` promise, and `tevrulig_new` of `tevrulig`
pub record RunOfNew (store : List ℕ) (handle : ProducerHandle) (cs : List Call) (u : ProducerState) (frames : List Frame) (messages : List Message) : Type 0 where
  pub first : ProducerState
  pub new : view first ≡ new_queue handle
  pub run : Run store first cs u frames messages

-- the frames taken and then those that wait read back as exactly the accepted messages, in order
abbrev pub CodeInOrder : Type 0
CodeInOrder =
    (store : List ℕ) (handle : ProducerHandle) (cs : List Call) (u : ProducerState) (frames waiting : List Frame) (messages : List Message)
    → RunOfNew store handle cs u frames messages
    → Premises store handle cs
    → Waiting store (view u) waiting
    → read (frames ++ waiting) ≡ Some messages

-- two runs, of any two producers and stores, with the same frames: they accepted the same messages
abbrev pub CodeSameFrames : Type 0
CodeSameFrames =
    (store₁ store₂ : List ℕ) (handle₁ handle₂ : ProducerHandle) (cs₁ cs₂ : List Call) (u₁ u₂ : ProducerState)
    (frames₁ frames₂ waiting₁ waiting₂ : List Frame) (messages₁ messages₂ : List Message)
    → RunOfNew store₁ handle₁ cs₁ u₁ frames₁ messages₁
    → RunOfNew store₂ handle₂ cs₂ u₂ frames₂ messages₂
    → Premises store₁ handle₁ cs₁
    → Premises store₂ handle₂ cs₂
    → Waiting store₁ (view u₁) waiting₁
    → Waiting store₂ (view u₂) waiting₂
    → frames₁ ++ waiting₁ ≡ frames₂ ++ waiting₂
    → messages₁ ≡ messages₂

-- the frames taken and then those that wait are, call by call, what the calls made; the queue that a call finds there is the view of the state
-- that it finds, and the answer is the code's own
abbrev pub CodeInChunks : Type 0
CodeInChunks =
    (store : List ℕ) (handle : ProducerHandle) (cs : List Call) (u : ProducerState) (frames waiting : List Frame) (messages : List Message)
    → RunOfNew store handle cs u frames messages
    → AllRanged cs
    → AllCovered store (new_queue handle) cs
    → Waiting store (view u) waiting
    → CallByCall store (new_queue handle) cs (frames ++ waiting)

-- the whole replay table that a snapshot hands out
abbrev pub replay_table : Answer (Handed × Handed) → List OpSend
replay_table (done tables) = tables.1.entries
replay_table (refused n values) = []

-- a reconnect, with tables of these lengths: a snapshot and the replay of its whole replay table, each meeting its method's contract, with no call
-- between
pub record Reconnect (droppedRoom replayRoom : ℕ) (before after : ProducerState) (tables : Answer (Handed × Handed)) (replayed : Answer (Unit {0})) : Type 0 where
  pub cut : ProducerState
  pub snapshot_met : Meets [] (snapshot droppedRoom replayRoom) before cut tables
  pub replay_met : Meets [] (replay (replay_table tables)) cut after replayed

-- K14: what the second of two reconnects answers, and that it leaves what the first left
pub record TwiceMet (first last : ProducerState) (table : List OpSend) (tables : Answer (Handed × Handed)) (replayed : Answer (Unit {0})) : Type 0 where
  pub snapshot : tables ≡ done (handed [], handed (map mark table))
  pub replay : replayed ≡ done tt
  pub same : view last ≡ view first

-- from any state: the first reconnect is carried out, and the second has room for as many entries as the first put back
abbrev pub CodeTwice : Type 0
CodeTwice =
    (start first last : ProducerState) (droppedRoom replayRoom droppedRoom₂ replayRoom₂ : ℕ) (tables : Handed × Handed) (again : Answer (Handed × Handed))
    (replayed : Answer (Unit {0}))
    → Reconnect droppedRoom replayRoom start first (done tables) (done tt)
    → length tables.1.entries ≤ replayRoom₂
    → Reconnect droppedRoom₂ replayRoom₂ first last again replayed
    → TwiceMet first last tables.1.entries again replayed
