-- What a stop tells.
use Rattle.std.proofs.Common.{Result, Ok, Err, IfErr, IfOk}
use Rattle.eqy.specs.declared.refusal.Refusal.{Refusal}
use Rattle.eqy.specs.declared.stop.Stop.{Stop}
use Rattle.eqy.specs.declared.stop.Stop.TheVariants.{Refused, Fault, Memory}
use Rattle.eqy.specs.Stops.{IfRefused}

pub if_refused : (stop : Stop) (P Q : Refusal → Type 0) → ((r : Refusal) → P r → Q r) → IfRefused stop P → IfRefused stop Q
if_refused (Refused r) P Q f h = f r h
if_refused Fault P Q f h = tt
if_refused Memory P Q f h = tt

pub err_map : {T E : Type 0} (r : Result T E) (P Q : E → Type 0) → ((e : E) → P e → Q e) → IfErr r P → IfErr r Q
err_map (Ok x) P Q f h = h
err_map (Err e) P Q f h = f e h

pub ok_map : {T E : Type 0} (r : Result T E) (P Q : T → Type 0) → ((x : T) → P x → Q x) → IfOk r P → IfOk r Q
ok_map (Ok x) P Q f h = f x h
ok_map (Err e) P Q f h = h
