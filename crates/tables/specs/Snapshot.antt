-- How many entries a snapshot hands out to its two tables. This mirrors the code.
use Rattle.std.specs.Prelude.{ℕ, ◌&&◌, leb, nat_le, Err, Ok, Result}
use Rattle.laws.specs.Choice.{pick}
use Rattle.types.specs.declared.error.ProducerError.{ProducerError}
use Rattle.types.specs.declared.error.ProducerError.TheVariants.{TooShort}
use Rattle.tables.specs.declared.snapshot.Snapshot.{Snapshot}

abbrev pub snapshot_of : ℕ → ℕ → ℕ → ℕ → Result Snapshot ProducerError
snapshot_of dropped replay droppedRoom replayRoom =
    pick (nat_le dropped droppedRoom && leb replay replayRoom) (Ok (record { dropped = dropped; replay = replay })) (Err TooShort)
