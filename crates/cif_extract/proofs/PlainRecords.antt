-- The records of an extract's plain lines.
use Rattle.cif_extract.proofs.Names.{All, All-head, All-tail, AreExtract, AreSchedule, AreSchedules, Basic, BodyLines, Extra, ExtractParts}
use Rattle.cif_extract.proofs.Names.{FitsColumns, HaveBody, IfSome, IsBody, List, None, Option, Record, Schedule, ScheduleFits, Some, []}
use Rattle.cif_extract.proofs.Names.{detail_of, extra_records, flat_map, inl, is_some, journey_records, option_map, parts_in}
use Rattle.cif_extract.proofs.Names.{records_before_trailer, refl, ◌++◌, ◌∙◌, ◌∷◌, ◌≡◌}
use Rattle.cif_records.specs.declared.record.Record.TheVariants as of
use Rattle.cif_extract.proofs.Bodies.{body_of-parts_in}

-- the parts of a body, where there is one
abbrev extra_of : Option BodyLines → Option Extra
extra_of None = None
extra_of (Some body) = (parts_in body).extra

abbrev journey_of : Option BodyLines → List Record
journey_of None = []
journey_of (Some body) = let p = parts_in body in journey_records p.origin p.calls p.terminus

abbrev pub records_of_body : Option BodyLines → List Record
records_of_body body = extra_records (extra_of body) ++ journey_of body

pub bodied-detail : (body : Option BodyLines) → is_some (option_map detail_of body) ≡ is_some body
bodied-detail None = refl
bodied-detail (Some body) = refl

have-body : (body : Option BodyLines) → IfSome body IsBody → HaveBody (option_map detail_of body) (extra_of body) (journey_of body) body
have-body None is = inl refl
have-body (Some body) is =
    let p = parts_in body in
    (record { origin = p.origin; calls = p.calls; terminus = p.terminus; are = refl }, body_of-parts_in body is.keep)

-- a schedule's BS, and its records
abbrev pub basic_of : Schedule → Basic
basic_of s = record {
  uid = s.uid;
  first = s.first;
  last = s.last;
  days = s.days;
  letter = s.letter;
  detail = option_map detail_of s.body;
  in_order = s.in_order;
  bodied = bodied-detail s.body ∙ s.bodied;
}

abbrev pub records_of : Schedule → List Record
records_of s = of.Basic (basic_of s) ∷ records_of_body s.body

are-schedule : (s : Schedule) → ScheduleFits s → AreSchedule (records_of s) s
are-schedule s fits = record {
  basic = basic_of s;
  extra = extra_of s.body;
  journey = journey_of s.body;
  parts = refl;
  terms = record { uid = refl; first = refl; last = refl; days = refl; letter = refl };
  body = have-body s.body fits.body;
}

are-schedules : (schedules : List Schedule) → All ScheduleFits schedules → AreSchedules (flat_map records_of schedules) schedules
are-schedules [] fits = refl
are-schedules (s ∷ schedules) fits = (
  records_of s,
  flat_map records_of schedules,
  refl,
  are-schedule s (All-head ScheduleFits s schedules fits),
  are-schedules schedules (All-tail ScheduleFits s schedules fits),
)

-- the plain records of an extract
abbrev pub plain_records : ExtractParts → List Record
plain_records x = records_before_trailer x (flat_map records_of x.schedules) ++ (of.Trailer ∷ [])

pub are-extract : (x : ExtractParts) → FitsColumns x → AreExtract (plain_records x) x
are-extract x fits = record {
  schedules = flat_map records_of x.schedules;
  parts = refl;
  are_schedules = are-schedules x.schedules fits.schedules;
}
