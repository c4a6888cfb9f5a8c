use Rattle.std.proofs.Common.{◌≡◌, ap, length, arith, refl}
use Rattle.age_stream.proofs.{sealed_in}
use Rattle.age_stream.proofs.sealer.seal_in.Goals as goal

pub returns : goal.returns
returns g c =
    let len : length c.seal_at.new.block ≡ length c.push_bytes.new.buffer.items = omega (arith, c.seal_at.auto.block, ap length c.as_mut_slice.ensures.value) in
    sealed_in (g.B.ChunkBox.sealing c.args.key.now) _ _ _ _ _ _ c.seal_at.new.block c.nonce_of.ensures c.as_mut_slice.ensures.value c.push_bytes.ensures refl len
    c.seal_at.ensures
