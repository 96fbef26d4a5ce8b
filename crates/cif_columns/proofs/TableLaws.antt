-- A line's columns have one value of each row's kind, so a line has one table of a form.
use Rattle.cif_columns.proofs.Names.{AllStandIn, FieldValue, List, Option, Row, Some, [], activity_codes, ap, codes_in, columns, date}
use Rattle.cif_columns.proofs.Names.{days_of, exactly, indicator, option_map, public_time, refl, slice_index, spare, stp_in, sym, text}
use Rattle.cif_columns.proofs.Names.{text_of, weekdays, working_time, yymmdd_in, ℕ, ◌∙◌, ◌∷◌, ◌≡◌}
use Rattle.cif_columns.proofs.{Codes.codes_in-stands, DayColumns.yymmdd_in-stands, FieldLaws.stp_in-letter, Masks.days_of-stands}
use Rattle.cif_columns.{proofs.Texts.trim-text, specs.Field.StandsIn}

-- the value in columns, of the same kind as this one
abbrev pub read_as : FieldValue → List ℕ → Option FieldValue
read_as (exactly value) c = Some (exactly c)
read_as (text value) c = Some (text (text_of c))
read_as (activity_codes codes) c = Some (activity_codes (codes_in c))
read_as (working_time time) c = Some (working_time c)
read_as (public_time time) c = Some (public_time c)
read_as (date day) c = option_map date (yymmdd_in c)
read_as (weekdays days) c = option_map weekdays (days_of c)
read_as (indicator stp) c = option_map indicator (stp_in (slice_index c 0))
read_as spare c = Some spare

reads-stands : (c : List ℕ) (value : FieldValue) → StandsIn c value → read_as value c ≡ Some value
reads-stands c (exactly value) h = ap (λ v. Some (exactly v)) h
reads-stands c (text value) h = ap (λ v. Some (text v)) (trim-text c value h)
reads-stands c (activity_codes codes) h = ap (λ v. Some (activity_codes v)) (codes_in-stands c codes h)
reads-stands c (working_time time) h = ap (λ v. Some (working_time v)) h.same
reads-stands c (public_time time) h = ap (λ v. Some (public_time v)) h.same
reads-stands c (date day) h = ap (option_map date) (yymmdd_in-stands c day h)
reads-stands c (weekdays days) h = ap (option_map weekdays) (days_of-stands c days h)
reads-stands c (indicator stp) h =
    ap (λ l. option_map indicator (stp_in (slice_index l 0))) h ∙ ap (option_map indicator) (stp_in-letter stp)
reads-stands c spare h = refl

-- a value's kind alone
abbrev kind_of : FieldValue → FieldValue
kind_of (exactly value) = exactly []
kind_of (text value) = text []
kind_of (activity_codes codes) = activity_codes []
kind_of (working_time time) = working_time []
kind_of (public_time time) = public_time []
kind_of (date day) = date 0
kind_of (weekdays days) = weekdays []
kind_of (indicator stp) = indicator Rattle.cif_columns.specs.declared.stp.Stp.TheVariants.P
kind_of spare = spare

reads-kind : (c : List ℕ) (value : FieldValue) → read_as value c ≡ read_as (kind_of value) c
reads-kind c (exactly value) = refl
reads-kind c _ = refl

-- the rows' columns and kinds
abbrev pub form : List Row → List Row
form [] = []
form (r ∷ rows) = record { from = r.from; to = r.to; value = kind_of r.value } ∷ form rows

-- the rows' values
abbrev pub values : List Row → List (Option FieldValue)
values [] = []
values (r ∷ rows) = Some r.value ∷ values rows

-- the values in a line's columns, of the rows' kinds
unfoldable pub all_read : List ℕ → List Row → List (Option FieldValue)
all_read line [] = []
all_read line (r ∷ rows) = read_as r.value (columns r.from r.to line) ∷ all_read line rows

pub all_read-stands : (line : List ℕ) (rows : List Row) → AllStandIn line rows → all_read line rows ≡ values rows
unfolding all_read
all_read-stands line [] h = refl
all_read-stands line (r ∷ rows) h =
    ap (λ v. v ∷ all_read line rows) (reads-stands (columns r.from r.to line) r.value h.0)
    ∙ ap (λ vs. Some r.value ∷ vs) (all_read-stands line rows h.1)

all_read-form : (line : List ℕ) (rows : List Row) → all_read line rows ≡ all_read line (form rows)
unfolding all_read
all_read-form line [] = refl
all_read-form line (r ∷ rows) =
    ap (λ v. v ∷ all_read line rows) (reads-kind (columns r.from r.to line) r.value)
    ∙ ap (λ vs. read_as (kind_of r.value) (columns r.from r.to line) ∷ vs) (all_read-form line rows)

-- two tables of one form that a line spells have the same values
pub one_table : (line : List ℕ) (a b : List Row) → form a ≡ form b → AllStandIn line a → AllStandIn line b → values a ≡ values b
one_table line a b same p q =
    sym (all_read-stands line a p) ∙ all_read-form line a ∙ ap (all_read line) same ∙ sym (all_read-form line b) ∙ all_read-stands line b q

-- the value of a row, by its kind
abbrev pub columns_in : Option FieldValue → List ℕ
columns_in (Some (exactly value)) = value
columns_in (Some (text value)) = value
columns_in (Some (working_time time)) = time
columns_in (Some (public_time time)) = time
columns_in _ = []

abbrev pub codes_value : Option FieldValue → List (List ℕ)
codes_value (Some (activity_codes codes)) = codes
codes_value _ = []
