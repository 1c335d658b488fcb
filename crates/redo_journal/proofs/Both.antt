-- What follows from several facts at `Ok`.
use Rattle.std.specs.Prelude.{Result, Ok, Err, OnOk}

pub on_ok_both : {T E P Q R : Type 0} (r : Result T E) → (P → Q → R) → OnOk r P → OnOk r Q → OnOk r R
on_ok_both (Ok x) then p q = then p q
on_ok_both (Err e) then p q = tt

pub on_ok_all : {T E P Q R S : Type 0} (r : Result T E) → (P → Q → R → S) → OnOk r P → OnOk r Q → OnOk r R → OnOk r S
on_ok_all (Ok x) then p q r = then p q r
on_ok_all (Err e) then p q r = tt
