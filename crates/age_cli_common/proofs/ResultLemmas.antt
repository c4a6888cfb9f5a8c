-- What holds of a result that is this error, or of any.
use Rattle.std.proofs.Common.{◌≡◌, Result, Ok, Err, IfOk, OnOk, IfErr, IsErr, IsErrAnd, sym, subst}

pub no_value : {T E : Type 0} (r : Result T E) (e : E) → IsErr r × IsErrAnd r (λ x. x ≡ e) → (P : T → Type 0) → IfOk r P
no_value (Ok x) e is P = absurd is.1
no_value (Err x) e is P = tt

pub this_error : {T E : Type 0} (r : Result T E) (e : E) → IsErr r × IsErrAnd r (λ x. x ≡ e) → (P : E → Type 0) → P e → IfErr r P
this_error (Ok x) e is P h = tt
this_error (Err x) e is P h = subst P (sym is.1) h

-- what holds anyway
pub always_ok : {T E : Type 0} (r : Result T E) (P : Type 0) → P → OnOk r P
always_ok (Ok x) P h = h
always_ok (Err e) P h = tt
