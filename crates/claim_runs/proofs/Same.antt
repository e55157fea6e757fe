-- A claim that the end of a step hands on.
use Rattle.std.proofs.Common.{◌≡◌, sym, subst}
use Rattle.std.specs.Prelude.{IfOk, Result, Ok, Err}

-- What is known of it stays.
pub on-same : {T E : Type 0} (r : Result T E) (now : T) (P : T → Type 0) → IfOk r (λ n. n ≡ now) → P now → IfOk r P
on-same (Ok n) now P e p = subst P (sym e) p
on-same (Err x) now P e p = tt
