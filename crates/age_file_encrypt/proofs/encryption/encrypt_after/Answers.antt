use Rattle.std.proofs.Common.{◌≡◌, ◌∙◌, ap, sym, subst, refl, List, ℕ, [], rules, IfOk, IfErr}
use Rattle.age_cipher.specs.{sealing}
use Rattle.age_chunk.specs.{chunk_length}
use Rattle.age_fault.specs.declared.fault.FileFault.{FileFault}
use Rattle.age_keys.specs.{payload_key}
use Rattle.age_file_input.specs.{ports}
use Rattle.age_file_encrypt.specs.Encrypts.{BeginsFile, EncryptsFront, Encrypts}
use Rattle.age_file_encrypt.specs.inner.{SealsAll, SealsFront}
use Rattle.age_file_position.specs.inner.{view_of_writer, writer_view}
use Rattle.age_file_input.proofs.ReadLemmas.{err_is, ports_last}
use Rattle.age_file_encrypt.proofs.SealLemmas.{front_fails, file_done, file_stopped}
use Rattle.age_file_encrypt.proofs.encryption.encrypt_after.Goals as goal

pub returns-in_err-write_front-clause-fails : goal.returns-in_err-write_front-clause-fails
returns-in_err-write_front-clause-fails g c s is =
    let p = err_is c.from_residual.result c.from_residual.ensures.1 in
    let cut = c.in_err-write_front.ensures.wrote in
    let source = g.S.Source.view c.args.reader.now in
    let old = ports source (g.O.Sink.view c.args.writer.now) in
    let begins : BeginsFile s c.as_slice.result.now = subst (BeginsFile s) (sym (c.as_slice.ensures.value ∙ ap (λ v. v.bytes) c.front.view_is)) is.0 in
    rw p (ports_last g.S.Source.view g.O.Sink.view (λ q. EncryptsFront s old q c.in_err-write_front.field-0.0) _
    c.args.reader.now _ c.write_front.new.writer.sink.now refl (search rules) (subst (λ (f : FileFault). EncryptsFront s old (ports source (g.O.Sink.view c.write_front.new.writer.sink.now)) f) (sym cut.0)
    (front_fails s c.as_slice.result.now begins source (writer_view (g.O.Sink.view c.args.writer.now) c.new.result) (view_of_writer g.O.Sink.view c.write_front.new.writer) cut.1)))

pub returns-clause-done : goal.returns-clause-done
returns-clause-done g c s is =
    let front = c.in_ok-write_front.ensures.wrote in
    let begins : BeginsFile s c.as_slice.result.now = subst (BeginsFile s) (sym (c.as_slice.ensures.value ∙ ap (λ v. v.bytes) c.front.view_is)) is.0 in
    let key : c.front.inside.key ≡ payload_key s.key s.nonce = ap (λ v. v.key) c.front.view_is ∙ is.1 in
    let written = c.write_front.new.writer.tally.written in
    let file = c.seal_all.new.writer.tally.written in
    let source = g.S.Source.view c.args.reader.now in
    let old = ports source (g.O.Sink.view c.args.writer.now) in
    let mid = ports source (g.O.Sink.view c.write_front.new.writer.sink.now) in
    let new = ports (g.S.Source.view c.seal_all.new.reader.source.now) (g.O.Sink.view c.seal_all.new.writer.sink.now) in
    ports_last g.S.Source.view g.O.Sink.view (λ q. IfOk c.seal_all.result (Encrypts s old q))
    _ c.seal_all.new.reader.source.now _ c.seal_all.new.writer.sink.now (search rules) (search rules)
    (file_done begins front source new file c.seal_all.result c.seal_all.ensures.sealed.counted (subst (λ (k : List ℕ). IfOk c.seal_all.result
    (λ w. SealsAll (λ nonce text. sealing k nonce [] text) chunk_length mid new written file w.plain)) key c.seal_all.ensures.sealed.done))

pub returns-clause-fails : goal.returns-clause-fails
returns-clause-fails g c s is =
    let front = c.in_ok-write_front.ensures.wrote in
    let begins : BeginsFile s c.as_slice.result.now = subst (BeginsFile s) (sym (c.as_slice.ensures.value ∙ ap (λ v. v.bytes) c.front.view_is)) is.0 in
    let key : c.front.inside.key ≡ payload_key s.key s.nonce = ap (λ v. v.key) c.front.view_is ∙ is.1 in
    let written = c.write_front.new.writer.tally.written in
    let file = c.seal_all.new.writer.tally.written in
    let source = g.S.Source.view c.args.reader.now in
    let old = ports source (g.O.Sink.view c.args.writer.now) in
    let mid = ports source (g.O.Sink.view c.write_front.new.writer.sink.now) in
    let new = ports (g.S.Source.view c.seal_all.new.reader.source.now) (g.O.Sink.view c.seal_all.new.writer.sink.now) in
    ports_last g.S.Source.view g.O.Sink.view (λ q. IfErr c.seal_all.result (EncryptsFront s old q))
    _ c.seal_all.new.reader.source.now _ c.seal_all.new.writer.sink.now (search rules) (search rules)
    (file_stopped begins front source new file c.seal_all.result (subst (λ (k : List ℕ). IfErr c.seal_all.result (SealsFront (λ nonce text. sealing k nonce [] text) chunk_length mid new written file)) key
    c.seal_all.ensures.sealed.fails))
