-- Which kind of record may stand where, as the table of docs/FORMAT.md, "Order of records", says it: one place for each row of that
-- table. That this is the order of the grammar, no less and no more, are laws (proofs/OrderLaws and proofs/GoesOn).
use Rattle.std.specs.Prelude.{◌≡◌, ℕ, Bool, true, List, [], ◌∷◌, ◌++◌, Option, Some, if◌then◌else◌}
use Rattle.std.specs.List.{fold, list_any}
use Rattle.cif_extract.specs.{Layouts.Layouts, Layouts.own_layouts, declared.place.Place.Place}
use Rattle.cif_extract.specs.declared.place.Place.TheVariants.{Associations, Basic, Cancelled, CancelledExtra, Ended, Extra, Journey}
use Rattle.cif_extract.specs.declared.place.Place.TheVariants.{Schedules, Start, Tiplocs}
use Rattle.cif_records.specs.{Kind.identity, Kind.is_identity, Kind.kind_in, declared.record.Kind.Kind}
use Rattle.cif_records.specs.declared.record.Kind.TheVariants.{Hd, Ti, Ta, Td, Aa, Bs, Bx, Lo, Li, Cr, Lt, Zz}

-- the kinds that may stand there, place by place; TA and TD may where TI may, and are refused for what they are
abbrev pub kinds_at : Place → List Kind
kinds_at Start = Hd ∷ []
kinds_at Tiplocs = Ti ∷ Ta ∷ Td ∷ Aa ∷ Bs ∷ Zz ∷ []
kinds_at Associations = Aa ∷ Bs ∷ Zz ∷ []
kinds_at Basic = Bx ∷ Lo ∷ []
kinds_at Extra = Lo ∷ []
kinds_at Cancelled = Bx ∷ Lo ∷ Bs ∷ Zz ∷ []
kinds_at CancelledExtra = Lo ∷ Bs ∷ Zz ∷ []
kinds_at Journey = Li ∷ Cr ∷ Lt ∷ []
kinds_at Schedules = Bs ∷ Zz ∷ []
kinds_at Ended = []

-- whether a record of this kind may stand there
abbrev pub may_stand : Place → Kind → Bool
may_stand place kind = list_any (is_identity (identity kind)) (kinds_at place)

-- the place after a BX, by that of its BS
abbrev pub after_extra : Place → Place
after_extra Cancelled = CancelledExtra
after_extra _ = Extra

-- the place after a BX, or after a location or a change on the way
abbrev pub after_further : Place → Kind → Place
after_further place Bx = after_extra place
after_further place _ = Journey

-- The place after a line of this kind that comes at this place, by whether it cancels. TA, TD and a line of no kind are refused wherever
-- they stand, so that no line is judged by what they leave.
abbrev pub place_after : Place → Option Kind → Bool → Place
place_after place (Some Hd) cancels = Tiplocs
place_after place (Some Ti) cancels = Tiplocs
place_after place (Some Aa) cancels = Associations
place_after place (Some Bs) cancels = if cancels then Cancelled else Basic
place_after place (Some Bx) cancels = after_extra place
place_after place (Some Lo) cancels = Journey
place_after place (Some Li) cancels = Journey
place_after place (Some Cr) cancels = Journey
place_after place (Some Lt) cancels = Schedules
place_after place (Some Zz) cancels = Ended
place_after place _ cancels = place

-- the place after these lines, by these layouts, and by those of this profile
abbrev pub place_behind_by : Layouts → List (List ℕ) → Place
place_behind_by layouts lines = fold (λ place line. place_after place (layouts.kind line) (layouts.cancels line)) Start lines

abbrev pub place_behind : List (List ℕ) → Place
place_behind = place_behind_by own_layouts

-- the line names a kind that may stand behind these lines
abbrev pub MayComeAfter : List (List ℕ) → List ℕ → Type 0
MayComeAfter before line = (kind : Kind) → kind_in line ≡ Some kind → may_stand (place_behind before) kind ≡ true

-- each of the lines may follow those before it, and these earlier ones
abbrev pub AreInOrder : List (List ℕ) → List (List ℕ) → Type 0
AreInOrder earlier [] = Unit {0}
AreInOrder earlier (line ∷ lines) = MayComeAfter earlier line × AreInOrder (earlier ++ (line ∷ [])) lines
