-- Why a train does or doesn't run on a day, and why its associations hold or don't: the records that apply, each with a mark.
use Rattle.std.specs.Prelude.{◌≡◌, ◌⊎◌, ℕ, List, ◌∷◌, [], ◌++◌, Option, Some, None, AllPairs, Contains, codes, map, slice_get}
use Rattle.std.specs.{Cmp.Lexicographic.slice_cmp, List.flat_map, Ordering.nat_cmp, Ordering.ordering_then}
use Rattle.std.specs.declared.{cmp.Ordering.Ordering, cmp.Ordering.TheVariants.Less}
use Rattle.cif_calendar.specs.{Applies.Applies, Clash.IsClash, Clash.IsClear, Entries.association_entries, Entries.schedule_entries}
use Rattle.cif_calendar.specs.{Keys.of_key, Terms.Records, Terms.Terms, Wins.Wins, Wins.precedence}
use Rattle.cif_columns.specs.{DayDigits.yymmdd_of, DaysRun.days_columns, Stp.letter, Text.left_justified}
use Rattle.cif_extract.specs.{Body.BodyLines, ExtractParts.ExtractParts, declared.fault.Fault.Fault}
use Rattle.cif_extract.specs.declared.fault.Fault.TheVariants.{Memory, OutsideWindow, Write}
use Rattle.cif_records.specs.{AssocKey.key_cmp, declared.association.AssocBody.AssocBody, declared.association.AssocKey.AssocKey}
use Rattle.cif_weeks.specs.Window.{IsWithin}
use Rattle.cif_canon.specs.Asked.{header_window}
use Rattle.cif_canon.specs.Rows.{association_fields, association_names, journey_names, no_association, no_train, train_fields}
use Rattle.cif_rows.specs.Row.{Field, absent, heading_text, named, row_text, text}
use Rattle.cif_rows.specs.declared.{format.Format.Format, shape.Shape.TheVariants.Date, shape.Shape.TheVariants.Whole}
use Rattle.cif_views.specs.Listing.{date_field}
use Rattle.cif_views.specs.declared.marks.Mark.{Mark}
use Rattle.cif_views.specs.declared.marks.Mark.TheVariants as mark

-- The mark of a record among those of its key: it wins on day d and all winners have its body; or it wins and they haven't; or it
-- doesn't win.
abbrev pub IsMarked : {B : Type 0} → Records B → ℕ → Terms B → Mark → Type 0
IsMarked records d r mark.Wins = Wins records d r × IsClear records d
IsMarked records d r mark.Clash = Wins records d r × IsClash records d
IsMarked records d r mark.Hidden = ¬ Wins records d r

-- a record with its place among the entries, and its mark
pub record Explained (K B : Type 0) : Type 0 where
  pub place : ℕ
  pub key : K
  pub terms : Terms B
  pub mark : Mark

-- Records are ordered by their keys, then by their letters C, N, O, P, and then by their places: the first that differs decides.
abbrev pub explained_cmp : {K B : Type 0} → (K → K → Ordering) → Explained K B → Explained K B → Ordering
explained_cmp cmp r s =
    ordering_then (cmp r.key s.key)
    (ordering_then (nat_cmp (precedence r.terms) (precedence s.terms)) (nat_cmp r.place s.place))

-- The record stands at its place, is of train u, applies on day d and has its mark among the records of its key. `IsOf` says of which
-- trains a key is.
pub record IsExplained {K B : Type 0} (IsOf : K → List ℕ → Type 0) (entries : List (K × Terms B)) (u : List ℕ) (d : ℕ)
    (e : Explained K B) : Type 0 where
  pub at : slice_get entries e.place ≡ Some (e.key, e.terms)
  pub train : IsOf e.key u
  pub applies : Applies e.terms d
  pub marked : IsMarked (of_key entries e.key) d e.terms e.mark

-- The records of train u that apply on day d, each once and in order.
pub record AreExplained {K B : Type 0} (cmp : K → K → Ordering) (IsOf : K → List ℕ → Type 0) (entries : List (K × Terms B))
    (u : List ℕ) (d : ℕ) (explained : List (Explained K B)) : Type 0 where
  pub rising : AllPairs (λ r s. explained_cmp cmp r s ≡ Less) explained
  pub found : (e : Explained K B) → Contains explained e → IsExplained IsOf entries u d e
  pub all : (i : ℕ) (k : K) (r : Terms B) → slice_get entries i ≡ Some (k, r) → IsOf k u → Applies r d →
      (m : Mark) × Contains explained (record { place = i; key = k; terms = r; mark = m })

-- a record of key k is marked as the winner
pub record HasWinningMark {K B : Type 0} (explained : List (Explained K B)) (k : K) : Type 0 where
  pub one : Explained K B
  pub member : Contains explained one
  pub key : one.key ≡ k
  pub wins : one.mark ≡ mark.Wins

-- one of these records applies on day d
pub record SomeApplies {B : Type 0} (records : Records B) (d : ℕ) : Type 0 where
  pub one : Terms B
  pub listed : records one
  pub applies : Applies one d

-- the six columns of a mark
abbrev pub mark_columns : Mark → List ℕ
mark_columns mark.Wins = codes "wins  "
mark_columns mark.Clash = codes "clash "
mark_columns mark.Hidden = codes "hidden"

-- what rows begin with: the date, the mark and the kind, and the record's letter, its dates and its mask
abbrev pub start_fields : {B : Type 0} → ℕ → Mark → List ℕ → Terms B → List Field
start_fields d m kind r =
    date_field d ∷ named (codes "mark") (text (mark_columns m)) ∷ named (codes "kind") (text kind)
    ∷ named (codes "stp_indicator") (text (letter r.letter ∷ []))
    ∷ named (codes "first_date") (Date, yymmdd_of r.first) ∷ named (codes "last_date") (Date, yymmdd_of r.last)
    ∷ named (codes "days_run") (text (days_columns r.days)) ∷ []

-- what an association says: the fields of the day view, and of a cancellation those of its key alone
abbrev pub said_of_association : AssocKey → Option AssocBody → List Field
said_of_association key (Some body) = association_fields (key, body)
said_of_association key None =
    named (codes "base_uid") (Whole, key.base)
    ∷ named (codes "associated_uid") (Whole, key.associated)
    ∷ absent (codes "association_category")
    ∷ absent (codes "date_indicator")
    ∷ named (codes "association_location") (text (left_justified 7 key.location))
    ∷ named (codes "base_suffix") (text (left_justified 1 key.base_suffix))
    ∷ named (codes "associated_suffix") (text (left_justified 1 key.associated_suffix))
    ∷ absent (codes "diagram_type")
    ∷ absent (codes "association_type")
    ∷ []

-- what a schedule says: the fields of the day view, and of a cancellation its train alone
abbrev pub said_of_train : List ℕ → Option BodyLines → List Field
said_of_train uid (Some body) = train_fields (uid, body)
said_of_train uid None = named (codes "uid") (Whole, uid) ∷ map absent journey_names

-- the row of an association on day d, and that of a schedule
unfoldable pub explained_association_row : ℕ → Explained AssocKey AssocBody → List Field
explained_association_row d e =
    start_fields d e.mark (codes "AA") e.terms ++ (no_train ++ said_of_association e.key e.terms.body)

unfoldable pub explained_train_row : ℕ → Explained (List ℕ) BodyLines → List Field
explained_train_row d e =
    start_fields d e.mark (codes "BS") e.terms ++ (said_of_train e.key e.terms.body ++ no_association)

-- the names of their fields, which stand before the rows of a table
abbrev pub explanation_names : List (List ℕ)
explanation_names =
    codes "date" ∷ codes "mark" ∷ codes "kind" ∷ codes "stp_indicator" ∷ codes "first_date" ∷ codes "last_date" ∷ codes "days_run"
    ∷ codes "uid" ∷ (journey_names ++ association_names)

abbrev pub explanation_heading : Format → List ℕ
explanation_heading format = heading_text format explanation_names

-- an association is of both its trains, the base and the associated one
abbrev pub IsAssociationOf : AssocKey → List ℕ → Type 0
IsAssociationOf key u = (key.base ≡ u) ⊎ (key.associated ≡ u)

-- a schedule is of its own train
abbrev pub IsTrain : List ℕ → List ℕ → Type 0
IsTrain uid u = uid ≡ u

-- The day is in the window of the extract, and the text has the heading, a row for each record of the associations of train u, and then
-- one for each of its schedules, of those that apply on the day.
pub record IsExplanation (format : Format) (x : ExtractParts) (u : List ℕ) (d : ℕ) (text : List ℕ) : Type 0 where
  pub within : IsWithin (header_window x.header) d
  pub associations : List (Explained AssocKey AssocBody)
  pub of_associations : AreExplained key_cmp IsAssociationOf (association_entries x.associations) u d associations
  pub trains : List (Explained (List ℕ) BodyLines)
  pub of_trains : AreExplained (slice_cmp nat_cmp) IsTrain (schedule_entries x.schedules) u d trains
  pub text_is :
      text ≡ explanation_heading format
      ++ (flat_map (λ e. row_text format (explained_association_row d e)) associations
      ++ flat_map (λ e. row_text format (explained_train_row d e)) trains)

-- why there is no explanation: the day is outside the window; or else memory ran out, or the sink failed
abbrev pub IsExplanationFault : ExtractParts → ℕ → Fault → Type 0
IsExplanationFault x d OutsideWindow = ¬ IsWithin (header_window x.header) d
IsExplanationFault x d Memory = IsWithin (header_window x.header) d
IsExplanationFault x d Write = IsWithin (header_window x.header) d
IsExplanationFault x d _ = ⊥
