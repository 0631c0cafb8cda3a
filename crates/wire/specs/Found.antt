-- What an accessor answers: the contents where the file has the bytes in question. To find nothing is no refusal and has no number.
use Rattle.std.specs.Prelude.{Bool, cond, Option, Some, None}

abbrev pub found_if : {A : Type 0} → Bool → A → Option A
found_if there contents = cond there (Some contents) None
