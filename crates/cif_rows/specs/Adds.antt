-- What is added to a text of which a part waits to be written to a sink.
use Rattle.std.specs.Prelude.{◌≡◌, ◌<◌, ◌++◌, ℕ, List, Option, length}
use Rattle.cif_columns.specs.declared.sink.Sink.{Sink}
use Rattle.cif_rows.specs.Appended.{IsAppended}

-- What waited, with the text after it, is what has been written to the sink, with what waits now after it. If there is something, not all
-- of it is written.
pub record Adds {W : Type 0} (contents : W → Option (List ℕ)) (errors : W → Option ℕ) (text : List ℕ) (old new : Sink W)
    (waited waits : List ℕ) : Type 0 where
  pub out : List ℕ
  pub written : IsAppended contents errors out old new
  pub text_is : waited ++ text ≡ out ++ waits
  pub some : 0 < length (waited ++ text) → 0 < length waits
