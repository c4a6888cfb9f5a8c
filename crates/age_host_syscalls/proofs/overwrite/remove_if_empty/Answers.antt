use Rattle.std.proofs.Common.{inl, refl}
use Rattle.age_host_syscalls.proofs.overwrite.remove_if_empty.Goals as goal

pub returns-then-not-is_made-clause-removed : goal.returns-then-not-is_made-clause-removed
returns-then-not-is_made-clause-removed c = record {
  mid = c.args.machine.now.calls;
  removed = inl refl;
  named = inl refl;
}
