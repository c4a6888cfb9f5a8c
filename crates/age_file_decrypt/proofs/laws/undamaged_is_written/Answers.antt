use Rattle.age_file_decrypt.proofs.UndamagedLemmas.{writes_text}
use Rattle.age_file_decrypt.proofs.laws.undamaged_is_written.Goals as goal

pub returns : goal.returns
returns g c = λ keep who from old new result text d u. writes_text c.one_header.ensures (g.U.Unlock.allows who) (g.U.Unlock.refuses who) keep
    old new text from result d.run d.answers u
