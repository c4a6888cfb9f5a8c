use Rattle.std.proofs.Common.{◌∙◌, ◌++◌, ap, sym, subst, arith, List, ℕ, length, Some}
use Rattle.age_cli_common.specs.{HoldsBytes, IsSharedIn}
use Rattle.age_cli_common.proofs.{cut_in_two, front_length}
use Rattle.age_cli_common.proofs.identity.parse_shared_secret.Goals as goal

pub returns : goal.returns
returns c =
    let xs = c.args.bytes.now in
    let a = c.in_ok-shared.ensures.cases in
    let b = c.in_ok-as_array.ensures.cases in
    let front = c.in_ok-shared.shared.now in
    let rest = c.in_ok-shared.recipient.now in
    record {
      some =
          subst (λ s. IsSharedIn (HoldsBytes (Some xs)) s) (sym c.new.ensures) (record {
            bytes =
                ap Some (cut_in_two 32 xs front rest a.0 a.1 ∙ ap (λ (t : List ℕ). front ++ t) (sym b.same));
            secret_length = front_length 32 xs front a.0 (omega (arith, a.2));
            recipient_length = ap length b.same ∙ b.long;
          });
    }
