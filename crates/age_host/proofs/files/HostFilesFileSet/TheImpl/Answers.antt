use Rattle.std.proofs.Common.{refl}
use Rattle.age_host.proofs.files.HostFilesFileSet.TheImpl.Goals as goal

pub open-tells : goal.open-tells
open-tells g x c = let e = c.ensures in record { noted = rw (e.came, e.unended) refl; begun = e.begun; named = e.named; faults = e.faults }

pub replace-tells : goal.replace-tells
replace-tells g x c = let e = c.ensures in record { noted = rw (e.came, e.unended) refl; faults = e.faults }
