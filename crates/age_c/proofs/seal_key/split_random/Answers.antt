use Rattle.std.proofs.Common.{◌≡◌, length, drop, ◌∙◌, arith}
use Rattle.std.proofs.lemmas.List.{length-drop, take_all}
use Rattle.age_c.proofs.seal_key.split_random.Goals as goal

pub returns-clause-nonce : goal.returns-clause-nonce
returns-clause-nonce c =
    let size : length c.args.random.now ≡ 32 = search in
    c.copy_from_slice-2.ensures.after ∙ take_all 16 (drop 16 c.args.random.now) (omega (arith, length-drop 16 c.args.random.now))
