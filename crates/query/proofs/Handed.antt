-- What a `?` hands on is the refusal that it was given. Assumes nothing.
use mathlib.Core.Path.{◌≡◌, sym, subst}
use Rattle.std.specs.Prelude.{Result, Ok, Err}
use Rattle.std.specs.Result.{IsErrAnd}
use Rattle.query.specs.declared.Refusal.{Refusal}

pub handed-on : {T : Type 0} (P : Result T Refusal → Type 0) (r : Result T Refusal) {x : Refusal} → IsErrAnd r (λ e. e ≡ x) → P (Err x) → P r
handed-on P (Ok v) h p = absurd h
handed-on P (Err e) h p = subst (λ (e : Refusal). P (Err e)) (sym h) p
