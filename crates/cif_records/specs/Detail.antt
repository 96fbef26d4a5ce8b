-- What a schedule says of its train, in the columns of its line.
use Rattle.std.specs.Prelude.{ℕ, List, [], ◌∷◌, ◌++◌, Option, Some, replicate}
use Rattle.cif_columns.specs.Field.{Row, row, columns, text, spare}
use Rattle.cif_columns.specs.Text.{text_of}
use Rattle.cif_records.specs.{Bodies.of_body, declared.detail.Detail.Detail}

-- columns 30 to 78 of a basic schedule, which are spare where there is no detail
abbrev pub detail_rows : Option Detail → List Row
detail_rows detail =
    row 30 30 (of_body detail (λ d. text d.status))
    ∷ row 31 32 (of_body detail (λ d. text d.category))
    ∷ row 33 36 (of_body detail (λ d. text d.identity))
    ∷ row 37 40 (of_body detail (λ d. text d.headcode))
    ∷ row 41 41 (of_body detail (λ d. text d.course))
    ∷ row 42 49 (of_body detail (λ d. text d.service_code))
    ∷ row 50 50 (of_body detail (λ d. text d.sector))
    ∷ row 51 53 (of_body detail (λ d. text d.power))
    ∷ row 54 57 (of_body detail (λ d. text d.timing_load))
    ∷ row 58 60 (of_body detail (λ d. text d.speed))
    ∷ row 61 66 (of_body detail (λ d. text d.characteristics))
    ∷ row 67 67 (of_body detail (λ d. text d.class))
    ∷ row 68 68 (of_body detail (λ d. text d.sleepers))
    ∷ row 69 69 (of_body detail (λ d. text d.reservations))
    ∷ row 70 70 (of_body detail (λ d. text d.connection))
    ∷ row 71 74 (of_body detail (λ d. text d.catering))
    ∷ row 75 78 (of_body detail (λ d. text d.branding))
    ∷ []

-- the columns of a line of its own, which has the detail where a basic schedule has it and spaces elsewhere
abbrev pub detail_table : Detail → List Row
detail_table d = row 1 29 spare ∷ (detail_rows (Some d) ++ (row 79 80 spare ∷ []))

-- columns 30 to 78 of a line, and spaces elsewhere
abbrev pub alone_in : List ℕ → List ℕ
alone_in line = replicate 29 32 ++ (columns 30 78 line ++ replicate 2 32)

-- the detail that stands in columns 30 to 78 of a line
abbrev pub detail_in : List ℕ → Detail
detail_in line = record {
  status = text_of (columns 30 30 line);
  category = text_of (columns 31 32 line);
  identity = text_of (columns 33 36 line);
  headcode = text_of (columns 37 40 line);
  course = text_of (columns 41 41 line);
  service_code = text_of (columns 42 49 line);
  sector = text_of (columns 50 50 line);
  power = text_of (columns 51 53 line);
  timing_load = text_of (columns 54 57 line);
  speed = text_of (columns 58 60 line);
  characteristics = text_of (columns 61 66 line);
  class = text_of (columns 67 67 line);
  sleepers = text_of (columns 68 68 line);
  reservations = text_of (columns 69 69 line);
  connection = text_of (columns 70 70 line);
  catering = text_of (columns 71 74 line);
  branding = text_of (columns 75 78 line);
}
