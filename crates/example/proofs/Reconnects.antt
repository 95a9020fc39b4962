-- How a reconnect of the program ends, by the contracts of its two calls; and that the second of two ends well where the first does, and leaves what
-- that left. Assumes nothing.
use Rattle.std.specs.Prelude.{Err, Ok}
use Rattle.std.proofs.Common.{◌≡◌, ◌≤◌, List, [], map, length, take, refl, ap, ◌∙◌, arith, length-take}
use lib.ListN.{length-map}
use Rattle.laws.proofs.Choice.{differ}
use Rattle.rows.specs.Entry.{decode_entry}
use Rattle.rows.specs.declared.entry.OpSendRow.{OpSendRow}
use Rattle.types.specs.declared.error.ProducerError.{ProducerError}
use Rattle.tables.specs.declared.snapshot.Snapshot.{Snapshot}
use Rattle.queue.specs.Queue.{Answer}
use Rattle.queue.specs.Run.{replay}
use Rattle.queue.specs.Settle.{Handed}
use Rattle.queue.specs.Tables.{replay_snapshots}
use Rattle.producer.specs.Meets.{Meets}
use Rattle.producer.specs.Runs.{Reconnect, TwiceMet}
use Rattle.producer.specs.Tables.{Snaps, told_first, told_snapshot}
use Rattle.producer.specs.View.{view}
use Rattle.producer.specs.declared.state.ProducerState.{ProducerState}
use Rattle.producer.proofs.Runs.{twice_view, code_twice}
use Rattle.example.specs.Reconnects.{Stopped, not_begun, not_replayed, Ended}

module _ (s t : ProducerState) (ys ws zs us : List OpSendRow) where
  pub refused_first : (e : ProducerError) → Snaps s ys ws (Err e) t zs us → Stopped ys ws s s zs us e
  refused_first e x = not_begun (rw x.3 at x.0) refl x.1 x.2

  module _ (u : ProducerState) (n : Snapshot) where
    pub both_calls : (table : List OpSendRow) (r : Answer (Unit {0})) → Snaps s ys ws (Ok n) t zs us → table ≡ take n.replay us → Meets [] (replay (map decode_entry table)) t u r
        → Reconnect (length ys) (length ws) s u (told_snapshot (Ok n) zs us) r
    both_calls table r x e m = record { cut = t; snapshot_met = x.0; replay_met = m ∙ ap (λ l. replay_snapshots (map decode_entry l) (view t)) e }

    tables : Handed × Handed
    tables = (told_first n.dropped zs, told_first n.replay us)

    -- the second replay table is the first's, as the first left it
    fits : length (map decode_entry (take n.replay us)) ≤ length us
    fits = omega (arith, length-map (take n.replay us) decode_entry, length-take n.replay us)

    pub second : (again : Answer (Handed × Handed)) (r : Answer (Unit {0})) → Ended ys ws s t zs us (Ok n) → Reconnect (length zs) (length us) t u again r
        → TwiceMet t u (map decode_entry (take n.replay us)) again r
    unfolding tables
    second again r one two = code_twice s t u (length ys) (length ws) (length zs) (length us) tables again r one fits two

    -- none behind one that was carried out is refused
    pub never : {P : Type 0} (ds rs : List OpSendRow) (e : ProducerError) → Ended ys ws s t zs us (Ok n) → Stopped zs us t u ds rs e → P
    unfolding tables
    never ds rs e one (not_begun m k d r) =
        let w = twice_view s t (length ys) (length ws) (length zs) (length us) tables one fits in
        differ (cc (ap (λ o. o.1) (m ∙ w.snapshot)))
    never ds rs e one (not_replayed m two) = differ (cc (second _ _ one two).replay)
