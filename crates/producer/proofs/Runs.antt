-- A run of the code has the view, the frames and the accepted messages of the run of definitions, by induction over its calls. Assumes nothing.
use Rattle.std.specs.Prelude.{Some}
use Rattle.std.proofs.Common.{◌≡◌, ℕ, ◌≤◌, List, [], ◌++◌, map, length, sym, refl, ap, ◌∙◌, subst}
use Rattle.queue.specs.Queue.{Queue, Outcome, done, new_queue}
use Rattle.queue.specs.Frame.{Frame}
use Rattle.queue.specs.Message.{Message}
use Rattle.queue.specs.Restore.{Twice}
use Rattle.queue.specs.Settle.{Handed, handed}
use Rattle.queue.specs.Tables.{mark, snapshot_pending_sends, replay_snapshots}
use Rattle.queue.specs.Run.{Call, Gives, step, after, taken, accepted, frame_of, accepted_by, Waiting}
use Rattle.queue.specs.Read.{read}
use Rattle.types.specs.declared.types.ProducerHandle.{ProducerHandle}
use Rattle.queue.proofs.Order.{order_rule, chunk_rule}
use Rattle.queue.proofs.Restore.{snapshot_is}
use Rattle.queue.proofs.Twice.{twice_rule}
use Rattle.producer.specs.View.{view}
use Rattle.producer.specs.Runs.{Run, end, call, RunOfNew, Reconnect, CodeInOrder, CodeSameFrames, CodeInChunks, CodeTwice}
use Rattle.producer.specs.declared.state.ProducerState.{ProducerState}

-- what the definitions say of a run from this queue
pub record AsRun (store : List ℕ) (q : Queue) (cs : List Call) (u : ProducerState) (fs : List Frame) (ms : List Message) : Type 0 where
  pub state : view u ≡ after store q cs
  pub frames : fs ≡ taken store q cs
  pub messages : ms ≡ accepted store q cs

pub as_run : (store : List ℕ) {s u : ProducerState} {cs : List Call} {fs : List Frame} {ms : List Message}
    → Run store s cs u fs ms → AsRun store (view s) cs u fs ms
unfolding after taken accepted
as_run store end = record { state = refl; frames = refl; messages = refl }
as_run store {s = s} {u = u} (call {t = t} {c = c} {cs = cs} {fs = fs} {ms = ms} answer meets rest) =
    let later : AsRun store (step store c (view s)).0 cs u fs ms =
    subst (λ (q : Queue). AsRun store q cs u fs ms) (ap (λ (o : Outcome (Gives c)). o.0) meets) (as_run store rest) in
    let told : answer ≡ (step store c (view s)).1 = ap (λ (o : Outcome (Gives c)). o.1) meets in
    record {
      state = later.state;
      frames = λ j. frame_of c (told j) ++ later.frames j;
      messages = λ j. accepted_by store c (told j) ++ later.messages j;
    }

pub of_new : {store : List ℕ} {handle : ProducerHandle} {cs : List Call} {u : ProducerState} {fs : List Frame} {ms : List Message}
    → RunOfNew store handle cs u fs ms → AsRun store (new_queue handle) cs u fs ms
of_new {store} {handle} {cs} {u} {fs} {ms} r = subst (λ (q : Queue). AsRun store q cs u fs ms) r.new (as_run store r.run)

-- what waits is said of the view
pub as_waiting : {store : List ℕ} {q : Queue} {cs : List Call} {u : ProducerState} {fs waiting : List Frame} {ms : List Message}
    → AsRun store q cs u fs ms → Waiting store (view u) waiting → Waiting store (after store q cs) waiting
as_waiting {store} {waiting = waiting} r w = subst (λ (q : Queue). Waiting store q waiting) r.state w

pub code_in_order : CodeInOrder
code_in_order store handle cs u frames waiting messages run premises waits =
    let r = of_new run in
    let o = order_rule store handle cs premises in
    let w = o.only waiting (as_waiting r waits) in
    (λ j. read (r.frames j ++ w j)) ∙ o.reads ∙ ap Some (sym r.messages)

pub code_same_frames : CodeSameFrames
code_same_frames store₁ store₂ handle₁ handle₂ cs₁ cs₂ u₁ u₂ frames₁ frames₂ waiting₁ waiting₂ messages₁ messages₂ run₁ run₂ p₁ p₂ w₁ w₂ e =
    let r₁ = code_in_order store₁ handle₁ cs₁ u₁ frames₁ waiting₁ messages₁ run₁ p₁ w₁ in
    let r₂ = code_in_order store₂ handle₂ cs₂ u₂ frames₂ waiting₂ messages₂ run₂ p₂ w₂ in
    cc (ap read e)

pub code_in_chunks : CodeInChunks
code_in_chunks store handle cs u frames waiting messages run is64 covered waits =
    let r = of_new run in
    rw r.frames (chunk_rule store handle cs waiting is64 covered (as_waiting r waits))

-- behind a reconnect that is carried out, what the second does to the view
pub twice_view : (start first : ProducerState) (droppedRoom replayRoom droppedRoom₂ replayRoom₂ : ℕ) (tables : Handed × Handed)
    → Reconnect droppedRoom replayRoom start first (done tables) (done tt)
    → length tables.1.entries ≤ replayRoom₂
    → Twice (view first) droppedRoom₂ replayRoom₂ tables.1.entries
twice_view start first droppedRoom replayRoom droppedRoom₂ replayRoom₂ tables one room =
    let q = view start in
    let p = view one.cut in
    let table = tables.1.entries in
    let s = snapshot_is droppedRoom replayRoom q p tables (sym one.snapshot_met) in
    let whole : tables ≡ (handed tables.0.entries, handed table) =
    s.tables_are ∙ sym (λ j. (handed (s.tables_are j).0.entries, handed (s.tables_are j).1.entries)) in
    let cut : snapshot_pending_sends droppedRoom replayRoom q ≡ (p, done (handed tables.0.entries, handed table)) =
    sym one.snapshot_met ∙ ap (λ t. (p, done t)) whole in
    twice_rule q p (view first) droppedRoom replayRoom droppedRoom₂ replayRoom₂ tables.0.entries table cut (sym one.replay_met) room

pub code_twice : CodeTwice
code_twice start first last droppedRoom replayRoom droppedRoom₂ replayRoom₂ tables again replayed one room two =
    let table = tables.1.entries in
    let w = twice_view start first droppedRoom replayRoom droppedRoom₂ replayRoom₂ tables one room in
    let snap = two.snapshot_met ∙ w.snapshot in
    let answer : again ≡ done (handed [], handed (map mark table)) = ap (λ o. o.1) snap in
    let at : view two.cut ≡ w.between = ap (λ o. o.0) snap in
    let met = rw answer at two.replay_met in
    let rep = met ∙ ap (replay_snapshots (map mark table)) at ∙ w.replay in
    record { snapshot = answer; replay = ap (λ o. o.1) rep; same = ap (λ o. o.0) rep }
