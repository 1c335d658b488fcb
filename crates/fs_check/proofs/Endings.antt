-- What is told of a result where the error of a part ends it.
use Rattle.std.specs.Prelude.{Result, Ok, Err, OnOk, IfOk, IsErrAnd}

pub on_ended : {T E : Type 0} (P : Type 0) (Q : E → Type 0) (r : Result T E) → IsErrAnd r Q → OnOk r P
on_ended P Q (Ok x) told = absurd told
on_ended P Q (Err y) told = tt

pub if_ended : {T E : Type 0} (P : T → Type 0) (Q : E → Type 0) (r : Result T E) → IsErrAnd r Q → IfOk r P
if_ended P Q (Ok x) told = absurd told
if_ended P Q (Err y) told = tt
