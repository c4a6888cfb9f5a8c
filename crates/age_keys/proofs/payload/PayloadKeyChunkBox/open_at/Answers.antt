use Rattle.std.proofs.Common.{[], length, take}
use Rattle.std.specs.Prelude.{Bool, true, false}
use Rattle.std.specs.Bool.{OnFalse}
use Rattle.age_chunk.specs.{text_length}
use Rattle.age_cipher.proofs.SealingLemmas.{opening_where_true, opening_where_false}
use Rattle.age_keys.proofs.payload.PayloadKeyChunkBox.open_at.Goals as goal

pub returns-clause-opened : goal.returns-clause-opened
returns-clause-opened c =
    rw (← c.self.view_is)
    (opening_where_true c.open_in_place.result c.self.inside.bytes c.args.nonce.now [] c.args.block.now
    (take (text_length (length c.args.block.now)) c.open_in_place.new.block) c.open_in_place.ensures.text)

both : (A B : Type 0) (b : Bool) → OnFalse b A → OnFalse b B → OnFalse b (A × B)
both A B true h k = tt
both A B false h k = (h, k)

pub returns-clause-closed : goal.returns-clause-closed
returns-clause-closed c =
    rw (← c.self.view_is)
    (both _ _ c.open_in_place.result
    (opening_where_false c.open_in_place.result c.self.inside.bytes c.args.nonce.now [] c.args.block.now c.open_in_place.ensures.exact)
    c.open_in_place.ensures.kept)
