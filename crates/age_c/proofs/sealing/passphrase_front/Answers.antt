use Rattle.std.proofs.Common.{◌≡◌, length}
use Rattle.std.proofs.lemmas.Result.{IfOk-weaker}
use Rattle.age_keys.specs.{scrypt_head}
use Rattle.age_c.proofs.{front_size}
use Rattle.age_c.proofs.sealing.passphrase_front.Goals as goal

pub returns-in-Ok-clause-size : goal.returns-in-Ok-clause-size
returns-in-Ok-clause-size c =
    let random = c.args.random.now in
    let head : c.in-Ok.header ≡ scrypt_head c.args.pass.now c.args.work random.salt random.file_key = cc (c.in-Ok.ensures.head, c.new-key.ensures) in
    let salt : length random.salt ≡ 16 = search in
    let key : length random.file_key ≡ 16 = search in
    let fronts = rw head at c.encode_front.ensures.front in
    IfOk-weaker c.encode_front.result _ _
    (λ front it. front_size c.args.pass.now c.args.work random.file_key random.salt random.payload_nonce front.items it salt key c.requires.most_log) fronts
