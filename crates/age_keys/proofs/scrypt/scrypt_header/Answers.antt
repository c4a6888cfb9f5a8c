use Rattle.std.proofs.Common.{arith}
use Rattle.age_keys.proofs.{scrypt_head_is, other_mac}
use Rattle.age_keys.proofs.scrypt.scrypt_header.Goals as goal

pub returns-clause-head : goal.returns-clause-head
returns-clause-head c =
    scrypt_head_is c.args.pass.now c.args.salt.now c.args.key.now c.in_ok-wrap_key.wrap_key c.wrapped_key.result c.in_ok-header-2.field-0 c.args.log
    c.in_ok-header.header
    c.in_ok-wrap_key.ensures.key c.wrapped_key.ensures c.in_ok-header.ensures.value c.in_ok-header-2.ensures.mac

pub returns-clause-text : goal.returns-clause-text
returns-clause-text c =
    other_mac c.in_ok-header.header c.in_ok-header-2.field-0 c.in_ok-header.ensures.text (omega arith) c.in_ok-header-2.ensures.bytes
