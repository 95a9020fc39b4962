-- The ids of the waiting frames, and the entries that none of them bears. Assumes nothing.
use Rattle.std.proofs.Common.{◌≡◌, ℕ, ◌<◌, ◌≤◌, min, Bool, true, false, not, ◌||◌, eqb, List, [], ◌∷◌, map, length, get_or, refl, sym, ap, subst, ◌∙◌, arith, lit<}
use Rattle.std.proofs.lemmas.List.{get_or_default}
use lib.ListN.{length-map, get_or-map}
use Rattle.laws.specs.Choice.{pick}
use Rattle.laws.specs.Lists.{keeping}
use Rattle.laws.specs.Ring.{ring, slot}
use Rattle.laws.proofs.Rings.{ring_at, length_ring}
use Rattle.types.specs.declared.entry.OpSend.{OpSend}
use Rattle.types.specs.declared.frame.FrameRecord.{FrameRecord}
use Rattle.queue.specs.Sizes.{outbound_size}
use Rattle.queue.specs.Tables.{borne, unborne}
use Rattle.tables.specs.Unborne.{borne_by, free}
use Rattle.producer.specs.Replay.{frame_id}
use Rattle.producer.specs.View.{queue_of, view}
use Rattle.rows.specs.Frame.{decode_frame}
use Rattle.rows.specs.declared.frame.FrameRow.{FrameRow}
use Rattle.types.specs.declared.types.SequenceId.{SequenceId}
use Rattle.producer.specs.State.{State, state_of}
use Rattle.producer.specs.declared.state.ProducerState.{ProducerState}
use Rattle.producer.proofs.Listed.{few_ring}

-- the definition's test, by ids
borne_ids : (id : ℕ) (rs : List FrameRecord) → borne_by id (map frame_id rs) ≡ borne id rs
borne_ids id [] = refl
borne_ids id (r ∷ rs) = ap (λ (b : Bool). eqb r.sequence_id.0 id || b) (borne_ids id rs)

pub unborne_ids : (rs : List FrameRecord) (l : List OpSend) → keeping (free (map frame_id rs)) l ≡ unborne rs l
unborne_ids rs [] = refl
unborne_ids rs (op ∷ l) =
    ap (λ (b : Bool). pick (not b) (op ∷ keeping (free (map frame_id rs)) l) (keeping (free (map frame_id rs)) l)) (borne_ids op.sequence_id.0 rs)
    ∙ ap (λ (r : List OpSend). pick (not (borne op.sequence_id.0 rs)) (op ∷ r) r) (unborne_ids rs l)
    ∙ go (borne op.sequence_id.0 rs)
  where
    go : (b : Bool) → pick (not b) (op ∷ unborne rs l) (unborne rs l) ≡ pick b (unborne rs l) (op ∷ unborne rs l)
    go true = refl
    go false = refl

pub few_names : (s : State) → length (map frame_id (queue_of s).out.frames) ≤ min s.core.rings.outbound.len outbound_size
unfolding queue_of
few_names s =
    omega (arith, length-map (queue_of s).out.frames frame_id, few_ring outbound_size s.outbound s.core.rings.outbound.head s.core.rings.outbound.len)

module _ (s : State) (full : length s.outbound ≡ outbound_size) where
  pub length_names : length (map frame_id (queue_of s).out.frames) ≡ min s.core.rings.outbound.len outbound_size
  unfolding queue_of
  length_names =
      length-map (ring outbound_size s.outbound s.core.rings.outbound.head s.core.rings.outbound.len) frame_id
      ∙ length_ring outbound_size (lit< tt) s.outbound full s.core.rings.outbound.head s.core.rings.outbound.len

  -- the id read at a place's slot is the one listed there
  pub name_there : (i at : ℕ) (d : FrameRecord) → at ≡ slot outbound_size s.core.rings.outbound.head i → i < min s.core.rings.outbound.len outbound_size
      → get_or (map frame_id (queue_of s).out.frames) i (frame_id (get_or s.outbound at d)) ≡ frame_id (get_or s.outbound at d)
  unfolding queue_of
  name_there i at d q b =
      let h = s.core.rings.outbound.head in
      let n = s.core.rings.outbound.len in
      let e : length (map frame_id (queue_of s).out.frames) ≡ min n outbound_size = length_names in
      get_or_default (map frame_id (queue_of s).out.frames) i (frame_id (get_or s.outbound at d)) (frame_id d) (omega (arith, e))
      ∙ get_or-map frame_id (ring outbound_size s.outbound h n) i d
      ∙ ap frame_id (ring_at outbound_size (lit< tt) s.outbound full d h n i b)
      ∙ ap (λ (k : ℕ). frame_id (get_or s.outbound k d)) (sym q)

-- the same of rows
pub id_there : (r : ProducerState) → length r.outbound ≡ outbound_size → (i at : ℕ) (d : FrameRow) → at ≡ slot outbound_size r.core.rings.outbound.head i
    → i < min r.core.rings.outbound.len outbound_size
    → get_or (map frame_id (view r).out.frames) i (get_or r.outbound at d).sequence_id ≡ (get_or r.outbound at d).sequence_id
id_there r full i at d q b =
    subst (λ (x : SequenceId). get_or (map frame_id (view r).out.frames) i x ≡ x) (ap frame_id (get_or-map decode_frame r.outbound at d))
    (name_there (state_of r) (length-map r.outbound decode_frame ∙ full) i at (decode_frame d) q b)
