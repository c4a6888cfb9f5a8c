use Rattle.std.proofs.Common.{◌≡◌, List, ℕ, length, subst, ◌∙◌}
use Rattle.age_c.specs.{TakesHead}
use Rattle.age_c.proofs.decode_open.age_c_decode_head_key.Goals as goal

pub returns : goal.returns
returns c =
    let took = c.take_head.ensures in
    let whole = c.in-Some.ensures.cases in
    let same : c.new.result ≡ c.args.file_key.now = c.new.ensures ∙ whole.same in
    let long : length c.args.file_key.now ≡ 16 = whole.long in
    subst (λ (k : List ℕ). TakesHead (length c.args.file_key.now ≡ 16) (λ _ key. key ≡ k) (λ _ _. ⊥) c.args.piece.now c.args.ended c.args.decoder.now
    c.take_head.new.decoder c.args.front.now c.take_head.new.front c.take_head.result c.take_head.new.taken) same (record {
      waits = took.waits;
      opens = took.opens;
      refused = took.refused;
      ended_is = took.ended;
      cut = took.cut;
      idle = took.idle;
      kept = took.kept;
      none = took.none;
      fits = λ _. took.fits;
      meant = λ other. (long, took.meant other);
    })
