use Rattle.std.proofs.Common.{List, subst, sym, ap}
use Rattle.age_cli_files.specs.{FilesView, Outcome}
use Rattle.age_cli_memory.specs.{AreTrue}
use Rattle.age_cli_memory.proofs.{leaves, reports, spares_asked, spares_done, spares_refused}
use Rattle.age_cli_memory.proofs.laws.runs_keep_files.Goals as goal

pub returns : goal.returns
returns c = λ words before after ended is_old is_new ran.
    let was = c.args.before.now.entries in
    let is = c.args.after.now.entries in
    let kept_was : AreTrue was before.files.outcomes = subst (λ (o : List Outcome). AreTrue was o) (sym (ap (λ (v : FilesView). v.outcomes) is_old)) c.is_kept.ensures in
    let kept_is : AreTrue is after.files.outcomes = subst (λ (o : List Outcome). AreTrue is o) (sym (ap (λ (v : FilesView). v.outcomes) is_new)) c.is_kept-2.ensures in (
      (
        spares_asked words before after was is kept_was kept_is ended ran,
        spares_refused words before after was is kept_was kept_is ended ran,
        spares_done words before after was is kept_was kept_is ended ran,
      ),
      reports words before after was is kept_was kept_is ended ran,
      leaves words before after was is kept_was kept_is ended ran,
    )
