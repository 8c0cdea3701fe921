-- A fact of what a result holds follows from another one.
use Rattle.std.specs.Prelude.{Result, Ok, Err, OnOk}

pub OnOk-map : {A E P Q : Type 0} (r : Result A E) → (P → Q) → OnOk r P → OnOk r Q
OnOk-map (Ok a) f p = f p
OnOk-map (Err e) f p = tt
