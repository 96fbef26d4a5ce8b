-- AA: an association of two trains, its columns, and the reasons to refuse one.
use Rattle.std.specs.Prelude.{◌≡◌, ℕ, Bool, List, [], ◌∷◌, Option, codes}
use Rattle.cif_columns.specs.Field.{AllStandIn, FieldValue, Row, StandsIn, row, columns, exactly, text, date, weekdays, indicator, spare}
use Rattle.cif_columns.specs.declared.{refusal.Refusal.Refusal, stp.Stp.Stp}
use Rattle.cif_records.specs.Bodies.{of_body}
use Rattle.cif_records.specs.Checks.{first_of, identity_refusal, transaction_refusal, dates_refusal, days_refusal, letter_refusal}
use Rattle.cif_records.specs.declared.{association.AssocBody.AssocBody, association.AssocKey.AssocKey, association.Association.Association}

-- the columns of an association with these fields, where its transaction, its last date and its days stand as these values
abbrev pub association_rows_by : List ℕ → AssocKey → ℕ → FieldValue → FieldValue → Stp → Option AssocBody → List Row
association_rows_by transaction key first last days letter body =
    row 1 2 (exactly (codes "AA"))
    ∷ row 3 3 (exactly transaction)
    ∷ row 4 9 (exactly key.base)
    ∷ row 10 15 (exactly key.associated)
    ∷ row 16 21 (date first)
    ∷ row 22 27 last
    ∷ row 28 34 days
    ∷ row 35 36 (of_body body (λ b. text b.category))
    ∷ row 37 37 (of_body body (λ b. text b.date_indicator))
    ∷ row 38 44 (text key.location)
    ∷ row 45 45 (text key.base_suffix)
    ∷ row 46 46 (text key.associated_suffix)
    ∷ row 47 47 (of_body body (λ b. text b.diagram))
    ∷ row 48 48 (of_body body (λ b. text b.kind))
    ∷ row 49 79 spare
    ∷ row 80 80 (indicator letter)
    ∷ []

-- as an extract of this profile has them
abbrev pub association_rows : AssocKey → ℕ → ℕ → List Bool → Stp → Option AssocBody → List Row
association_rows key first last days letter body = association_rows_by (codes "N") key first (date last) (weekdays days) letter body

-- the columns of this association, with these dates in place of its own
abbrev pub rows_on : ℕ → ℕ → Association → List Row
rows_on first last r = association_rows r.key first last r.days r.letter r.body

-- the columns of this association
abbrev pub association_table : Association → List Row
association_table r = association_rows r.key r.first r.last r.days r.letter r.body

-- The line spells the association: each of its values stands in its columns. That the first date isn't after the last, and that
-- there is no body exactly for a cancellation, are invariants of the type `Association`.
abbrev pub SpellsAssociation : List ℕ → Association → Type 0
SpellsAssociation line r = AllStandIn line (association_table r)

-- its rows of the key alone, for readers: the key stands in its columns
pub record SpellsKey (line : List ℕ) (key : AssocKey) : Type 0 where
  pub base : columns 4 9 line ≡ key.base
  pub associated : columns 10 15 line ≡ key.associated
  pub location : StandsIn (columns 38 44 line) (text key.location)
  pub base_suffix : StandsIn (columns 45 45 line) (text key.base_suffix)
  pub associated_suffix : StandsIn (columns 46 46 line) (text key.associated_suffix)

-- and those of the body: the body, if there is one, stands in its columns
pub record SpellsBody (line : List ℕ) (body : Option AssocBody) : Type 0 where
  pub category : StandsIn (columns 35 36 line) (of_body body (λ b. text b.category))
  pub date_indicator : StandsIn (columns 37 37 line) (of_body body (λ b. text b.date_indicator))
  pub diagram : StandsIn (columns 47 47 line) (of_body body (λ b. text b.diagram))
  pub kind : StandsIn (columns 48 48 line) (of_body body (λ b. text b.kind))

-- the body that stands in blank columns
abbrev pub blank_body : AssocBody
blank_body = record { category = []; date_indicator = []; diagram = []; kind = [] }

-- the first reason to refuse a line as an association
unfoldable pub association_refusal : List ℕ → Option Refusal
association_refusal line = first_of (
    identity_refusal (codes "AA") line
    ∷ transaction_refusal line
    ∷ dates_refusal (columns 16 21 line) (columns 22 27 line)
    ∷ days_refusal (columns 28 34 line)
    ∷ letter_refusal line
    ∷ [])
