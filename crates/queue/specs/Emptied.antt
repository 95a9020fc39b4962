-- When the open batch is empty: 'The batch is empty if, by the rules above, no message joined after the last flush that made a frame' (document
-- 01, 'How demand 3 is read').
use Rattle.std.specs.Prelude.{ℕ, ◌+◌, ◌≡◌, Bool, false, List, [], ◌∷◌, ◌++◌, eqb}
use Rattle.laws.specs.Choice.{pick}
use Rattle.types.specs.declared.types.ProducerHandle.{ProducerHandle}
use Rattle.types.specs.declared.way.Way.{Way}
use Rattle.types.specs.declared.way.Way.TheVariants.{TooLarge, Join, Single, Chunked}
use Rattle.queue.specs.Queue.{Queue, Answer, refused, done, new_queue}
use Rattle.queue.specs.Send.{Decision, emitted, batched, way_of}
use Rattle.queue.specs.Run.{Call, send, flush, drain, snapshot, Gives, AllRanged, step, after}

-- what befalls the open batch
pub data Event : Type 0 where
  joined : Event
  -- a flush made a frame of it
  made_frame : Event
  -- a drain or a snapshot was carried out: it 'empties batch and frames'
  handed_out : Event

abbrev pub flushes : Bool → List Event
flushes flushed = pick flushed (made_frame ∷ []) []

-- a waiting batch is flushed before, and one that is full after the message joined ('sends'): no answer shows this
abbrev pub flushed_before : Way → Bool
flushed_before (TooLarge before) = before
flushed_before (Join before after) = before
flushed_before (Single before) = before
flushed_before (Chunked before size count) = before

abbrev pub flushed_after : Way → Bool
flushed_after (Join before after) = after
flushed_after w = false

-- a send by its way and its answer: `Batched` says that the message joined; of the refusals only 6 comes after the flushes
abbrev pub of_send : Way → Answer Decision → List Event
of_send w (refused n values) = pick (eqb n 6) (flushes (flushed_before w)) []
of_send w (done batched) = flushes (flushed_before w) ++ (joined ∷ flushes (flushed_after w))
of_send w (done (emitted n)) = flushes (flushed_before w)

-- a call by its answer: a flush that answers 0 made no frame; what is refused, and every other call, leaves the batch alone
abbrev pub events_of : Queue → (c : Call) → Answer (Gives c) → List Event
events_of q (send a) r = of_send (way_of q.settings a.message q.out.batch) r
events_of q (flush publish_time) (done count) = pick (eqb count 0) [] (made_frame ∷ [])
events_of q (drain room) (done entries) = handed_out ∷ []
events_of q (snapshot droppedRoom replayRoom) (done tables) = handed_out ∷ []
events_of q c r = []

unfoldable pub events : List ℕ → Queue → List Call → List Event
events store q [] = []
events store q (c ∷ cs) = events_of q c (step store c q).1 ++ events store (step store c q).0 cs

-- the messages that joined after the last of the other events; n joined before all of these
abbrev pub joined_since : ℕ → List Event → ℕ
joined_since n [] = n
joined_since n (joined ∷ es) = joined_since (n + 1) es
joined_since n (made_frame ∷ es) = joined_since 0 es
joined_since n (handed_out ∷ es) = joined_since 0 es

-- the stored count is their number, so that `is_empty` says that none did
abbrev pub EmptiedRule : Type 0
EmptiedRule =
    (store : List ℕ) (handle : ProducerHandle) (cs : List Call) → AllRanged cs
    → (after store (new_queue handle) cs).out.batch.len ≡ joined_since 0 (events store (new_queue handle) cs)
