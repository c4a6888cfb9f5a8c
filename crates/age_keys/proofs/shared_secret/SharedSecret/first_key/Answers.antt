use Rattle.std.proofs.Common.{◌+◌, take, drop, arith}
use Rattle.age_keys.specs.{StaysShut}
use Rattle.age_keys.proofs.{all_more, around}
use Rattle.age_keys.proofs.shared_secret.SharedSecret.first_key.Goals as goal

pub returns-in-Some-clause-key : goal.returns-in-Some-clause-key
returns-in-Some-clause-key c = record {
  before = take c.loop-stanza.stanza-index c.args.stanzas.now;
  stanza = c.stanza-item.result;
  after = drop (c.loop-stanza.stanza-index + 1) c.args.stanzas.now;
  parts = around c.args.stanzas.now c.loop-stanza.stanza-index c.stanza-item.result (omega arith) c.stanza-item.is;
  shut = c.loop-stanza.invariant;
  opens = c.in-Some.ensures.key;
}

pub loop-stanza-preserved : goal.loop-stanza-preserved
loop-stanza-preserved c =
    all_more (StaysShut c.args.self.now) c.args.stanzas.now c.loop-stanza.stanza-index c.stanza-item.result (omega arith) c.stanza-item.is
    c.loop-stanza.invariant c.in_default.ensures.none
