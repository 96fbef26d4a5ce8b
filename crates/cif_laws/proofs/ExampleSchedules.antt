-- The published extract that the example spells, the prepared one, and the canonical one.
use Rattle.std.proofs.Common.{All, Bool, IfSome, List, None, Some, [], arith, codes, false, refl, subst, sym, true, ℕ, ◌∷◌, ◌≡◌, ◌≤◌}
use Rattle.std.proofs.{lemmas.Bool.false≢true, lemmas.List.Elements.All-cons, lemmas.List.Elements.All-nil}
use Rattle.cif_columns.specs.DayDigits.{date_of, ddmmyy_of, yymmdd_of}
use Rattle.cif_columns.specs.{Field.AllFit, Text.text_of, declared.stp.Stp.TheVariants.P}
use Rattle.cif_extract.specs.Body.{BodyLines, IsBody, body_of, body_tables}
use Rattle.cif_extract.specs.{BodyParts.BodyParts, BodyParts.body_records, ExtractParts.ExtractParts, declared.extract.Schedule.Schedule}
use Rattle.cif_extract.specs.Texts.{FitsColumns, ScheduleFits, extract_text, rows_on}
use Rattle.cif_feed.specs.{OfProfile.of_profile, PublishedParts.PublishedParts, PublishedParts.published_text, WrittenOver.with_columns}
use Rattle.cif_feed.specs.declared.holidays.HolidayCode.TheVariants.{X}
use Rattle.cif_records.specs.{Association.association_table, declared.association.Association.Association, declared.detail.Detail.Detail}
use Rattle.cif_records.specs.{declared.origin.Origin.Origin, declared.terminus.Terminus.Terminus}
use Rattle.cif_laws.proofs.ExampleDays.{three-days, two-days}
use Rattle.cif_laws.proofs.TestedFits.{all_fit, rows-fit, tables-kept}
use Rattle.cif_laws.proofs.ExampleParts.{example-head, extract-fits, extract-with}
use Rattle.cif_laws.specs.Examples.{example_feed, example_prepared, example_prepared_canonical}

-- ---- the journey

abbrev example-detail : Detail
example-detail = record {
  status = [];
  category = [];
  identity = [];
  headcode = [];
  course = [];
  service_code = [];
  sector = [];
  power = [];
  timing_load = [];
  speed = [];
  characteristics = [];
  class = [];
  sleepers = [];
  reservations = [];
  connection = [];
  catering = [];
  branding = [];
}

abbrev example-origin : Origin
example-origin = record {
  location = codes "CREWE";
  suffix = [];
  departure = codes "0900 ";
  public_departure = codes "    ";
  platform = [];
  line = [];
  engineering = [];
  pathing = [];
  activities = [];
  performance = [];
}

abbrev example-terminus : Terminus
example-terminus = record {
  location = codes "EUSTON";
  suffix = [];
  arrival = codes "1100 ";
  public_arrival = codes "    ";
  platform = [];
  path = [];
  activities = [];
}

abbrev parts : BodyParts
parts = record { detail = example-detail; extra = None; origin = example-origin; calls = []; terminus = example-terminus }

abbrev pub example-journey : BodyLines
example-journey = body_of parts

pub journey-is : IsBody example-journey
unfolding text_of
journey-is =
    let kept = tables-kept (body_tables example-detail (body_records parts)) refl in record { are_lines = kept.0; keep = (parts, kept.1) }

-- ---- its schedules

abbrev pub schedule-of : (first last : ℕ) → List Bool → first ≤ last → Schedule
schedule-of first last days in_order = record {
  uid = codes "W00001";
  first = first;
  last = last;
  days = days;
  letter = P;
  body = Some example-journey;
  in_order = in_order;
  bodied = refl;
}

fit : (s : Schedule) (others : List Schedule) → s.body ≡ Some example-journey → all_fit (rows_on s.first s.last s) ≡ true
    → All ScheduleFits others → All ScheduleFits (s ∷ others)
fit s others body fits =
    All-cons ScheduleFits s others
    (record { basic = rows-fit (rows_on s.first s.last s) fits; body = subst (λ b. IfSome b IsBody) (sym body) journey-is })

abbrev pub given : Schedule
given = schedule-of 3 5 three-days (omega arith)

abbrev pub before : Schedule
before = schedule-of 3 3 three-days (omega arith)

abbrev pub after : Schedule
after = schedule-of 5 5 three-days (omega arith)

abbrev pub joined : Schedule
joined = schedule-of 3 5 two-days (omega arith)

-- ---- the extracts

abbrev pub example-published : PublishedParts
example-published = record {
  header = example-head;
  tiplocs = [];
  associations = [];
  schedules = record { schedule = given; open_end = false; code = Some X; closed = λ never. absurd (false≢true never) } ∷ [];
}

abbrev pub example-parts : ExtractParts
example-parts = extract-with [] (before ∷ after ∷ [])

abbrev pub example-joined : ExtractParts
example-joined = extract-with [] (joined ∷ [])

schedules-fit : (schedules : List Schedule) → All ScheduleFits schedules → FitsColumns (extract-with [] schedules)
schedules-fit schedules = extract-fits [] schedules (All-nil (λ (a : Association). AllFit (association_table a)))

pub published-fits : FitsColumns (of_profile example-published)
unfolding text_of
published-fits = schedules-fit (given ∷ []) (fit given [] refl refl (All-nil ScheduleFits))

pub parts-fit : FitsColumns example-parts
unfolding text_of
parts-fit = schedules-fit (before ∷ after ∷ []) (fit before (after ∷ []) refl refl (fit after [] refl refl (All-nil ScheduleFits)))

pub joined-fits : FitsColumns example-joined
unfolding text_of
joined-fits = schedules-fit (joined ∷ []) (fit joined [] refl refl (All-nil ScheduleFits))

-- ---- their texts

pub published-text : example_feed ≡ published_text example-published
unfolding ddmmyy_of yymmdd_of date_of text_of with_columns
published-text = refl

pub prepared-text : example_prepared ≡ extract_text example-parts
unfolding ddmmyy_of yymmdd_of date_of text_of
prepared-text = refl

pub joined-text : example_prepared_canonical ≡ extract_text example-joined
unfolding ddmmyy_of yymmdd_of date_of text_of
joined-text = refl
