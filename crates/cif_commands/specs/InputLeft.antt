-- What an input has left, by what its reader tells.
use Rattle.std.specs.Prelude.{List, Option, ℕ}
use Rattle.cif_commands.specs.Input.{device_remaining}
use Rattle.cif_commands.specs.declared.input.Input.{Input}

-- before it is opened what its name gives, and then what its reader has left
abbrev pub input_remaining : {F S D : Type 0} → (S → Option (List ℕ)) → (D → Option (List ℕ)) → (F → Option (List ℕ)) →
    (F → List ℕ → Option (List ℕ)) → Input F D S → Option (List ℕ)
input_remaining standard file of_standard of_file input =
    device_remaining standard file (of_standard input.files) (of_file input.files input.name.now) input.device
