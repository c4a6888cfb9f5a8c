use Rattle.age_keys.proofs.{only_one}
use Rattle.age_c.proofs.{no_work, work_from}
use Rattle.age_c.proofs.work.find_work_factor.Goals as goal

pub returns-in-Some : goal.returns-in-Some
returns-in-Some c =
    let slice = c.as_slice.ensures in
    let one = only_one c.args.header.now.stanzas c.stanza-item.result (rw slice at c.in-len1.len_at_least) (rw slice at c.in-len1.len_below)
    (rw slice at c.stanza-item.is) in
    let read = c.in-Some.read in
    let is = c.in-Some.ensures.read in
    work_from c.args.header.now c.stanza-item.result read.salt read.body is.0 read.log one is.1 is.2

pub returns-in-None : goal.returns-in-None
returns-in-None c =
    let slice = c.as_slice.ensures in
    let one = only_one c.args.header.now.stanzas c.stanza-item.result (rw slice at c.in-len1.len_at_least) (rw slice at c.in-len1.len_below)
    (rw slice at c.stanza-item.is) in
    no_work c.args.header.now c.stanza-item.result one c.in-None.ensures.none
