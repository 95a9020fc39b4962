-- Rows and the records that they stand for: a store at one place, and how many there are. Assumes nothing.
use Rattle.std.proofs.Common.{◌≡◌, ℕ, List, [], ◌∷◌, map, length, set, ap, ◌∙◌}
use Rattle.std.proofs.lemmas.List.{map-set}
use lib.ListN.{length-map}
use denote.Laws.{Is}
use denote.Struct.Declared.{row}
use denote.Struct.Laws.{val}
use Rattle.rows.specs.Entry.{decode_publish}
use Rattle.rows.specs.Frame.{decode_frame}
use Rattle.rows.specs.Message.{decode_single}
use Rattle.producer.specs.State.{state_of}
use Rattle.producer.specs.declared.state.ProducerState.{ProducerState}
use Rattle.producer.specs.contracts.state.ProducerState.{the_type}
use Rattle.producer.proofs.state.ProducerState.TheLaws.{the_laws}
use Rattle.producer.proofs.Full.{Full}
use Rattle.queue.specs.Sizes.{outbound_size, held_size, pending_size}

-- decoding commutes with a store at one place
pub stored_row : {A B : Type 0} (decode : A → B) (l : List A) (i : ℕ) (row : A) (x : B) → decode row ≡ x → map decode (set l i row) ≡ set (map decode l) i x
stored_row decode l i row x e = map-set decode l i row ∙ ap (set (map decode l) i) e

pub full_rows : (s : ProducerState) → length s.outbound ≡ outbound_size → length s.held ≡ held_size → length s.pending ≡ pending_size
    → length s.pending_ids ≡ pending_size → length s.pending_marks ≡ pending_size → Full (state_of s)
full_rows s outbound held pending ids marks =
    record {
      outbound = length-map s.outbound decode_frame ∙ outbound;
      held = length-map s.held decode_single ∙ held;
      pending = length-map s.pending decode_publish ∙ pending;
      ids = ids;
      marks = marks;
    }

-- what owning a state tells
abbrev pub Good : ProducerState → Type 0
Good s = Is (row the_type) s (val the_type the_laws s ∷ [])

pub full : (s : ProducerState) → Good s → Full (state_of s)
full s g = full_rows s g.1.1.1.0.1.0.1 g.1.1.1.1.0.1.0.1 g.1.1.1.1.1.0.1.0.1 g.1.1.1.1.1.1.0.1.0.1 g.1.1.1.1.1.1.1.0.1.0.1
