-- The extract that the example spells, and the canonical one.
use Rattle.std.proofs.Common.{All, Bool, List, Some, [], ap, arith, codes, refl, sym, true, ℕ, ◌∙◌, ◌∷◌, ◌≡◌}
use Rattle.std.proofs.lemmas.List.Elements.{All-cons, All-nil}
use Rattle.cif_columns.proofs.{DayColumns.ddmmyy_in-stands, DayDigits.stands-ddmmyy_of, PrintableBytes.printable_fact}
use Rattle.cif_columns.specs.{Day.ddmmyy_in, Field.AllFit, Text.text_of}
use Rattle.cif_columns.specs.DayDigits.{date_of, ddmmyy_of, yymmdd_of}
use Rattle.cif_columns.specs.declared.{stp.Stp.Stp, stp.Stp.TheVariants.N, stp.Stp.TheVariants.P}
use Rattle.cif_extract.specs.{ExtractParts.ExtractParts, declared.extract.Schedule.Schedule}
use Rattle.cif_extract.specs.Texts.{FitsColumns, ScheduleFits, extract_text}
use Rattle.cif_records.proofs.Headers as headers
use Rattle.cif_records.specs.{Association.association_table, Bodies.has_body, Tiploc.tiploc_table}
use Rattle.cif_records.specs.declared.{association.AssocBody.AssocBody, association.AssocKey.AssocKey, association.Association.Association}
use Rattle.cif_records.specs.declared.{header.Header.Header, tiploc.Tiploc.Tiploc}
use Rattle.cif_laws.proofs.{ExampleDays.three-days, TestedFits.all_fit, TestedFits.rows-fit}
use Rattle.cif_laws.specs.Examples.{example_canonical, example_input}

-- ---- the header

abbrev example-columns : List ℕ
example-columns = codes "TPS.UDFROC1.PD6001010101600000DFROC1A       FA040160060160"

pub day-digits : ddmmyy_of 3 ≡ codes "040160"
unfolding ddmmyy_of date_of
day-digits = refl

pub last-digits : ddmmyy_of 5 ≡ codes "060160"
unfolding ddmmyy_of date_of
last-digits = refl

abbrev pub example-head : Header
example-head = record {
  columns = example-columns;
  first = 3;
  last = 5;
  wide = refl;
  printable = printable_fact example-columns refl;
  full = refl;
  first_stands = ap ddmmyy_in (sym day-digits) ∙ ddmmyy_in-stands (ddmmyy_of 3) 3 (stands-ddmmyy_of 3 (omega arith));
  last_stands = ap ddmmyy_in (sym last-digits) ∙ ddmmyy_in-stands (ddmmyy_of 5) 5 (stands-ddmmyy_of 5 (omega arith));
  in_order = omega arith;
}

-- ---- the association, as it is and as it is made

abbrev pub example-key : AssocKey
example-key = record {
  base = codes "W00001";
  associated = codes "W00002";
  location = codes "CREWE";
  base_suffix = [];
  associated_suffix = [];
}

abbrev pub example-body : AssocBody
example-body = record { category = codes "NP"; date_indicator = codes "S"; diagram = codes "T"; kind = codes "P" }

abbrev pub whole-week : List Bool
whole-week = true ∷ true ∷ true ∷ true ∷ true ∷ true ∷ true ∷ []

abbrev association-with : (days : List Bool) (letter : Stp) → true ≡ has_body letter → Association
association-with days letter bodied = record {
  key = example-key;
  first = 3;
  last = 5;
  days = days;
  letter = letter;
  body = Some example-body;
  in_order = omega arith;
  bodied = bodied;
}

abbrev pub example-association : Association
example-association = association-with whole-week N refl

abbrev pub made-association : Association
made-association = association-with three-days P refl

-- ---- extracts with this header, and without locations

abbrev pub extract-with : List Association → List Schedule → ExtractParts
extract-with associations schedules = record {
  header = example-head;
  tiplocs = [];
  associations = associations;
  schedules = schedules;
}

pub extract-fits : (associations : List Association) (schedules : List Schedule)
    → All (λ (a : Association). AllFit (association_table a)) associations → All ScheduleFits schedules
    → FitsColumns (extract-with associations schedules)
extract-fits associations schedules fit schedules_fit = record {
  header = headers.fits example-head;
  tiplocs = All-nil (λ (t : Tiploc). AllFit (tiploc_table t));
  associations = fit;
  schedules = schedules_fit;
}

abbrev pub extract-of : Association → ExtractParts
extract-of a = extract-with (a ∷ []) []

association-fits : (a : Association) → all_fit (association_table a) ≡ true → FitsColumns (extract-of a)
association-fits a fits = extract-fits (a ∷ []) []
    (All-cons (λ (b : Association). AllFit (association_table b)) a [] (rows-fit (association_table a) fits)
    (All-nil (λ (b : Association). AllFit (association_table b)))) (All-nil ScheduleFits)

pub example-fits : FitsColumns (extract-of example-association)
unfolding text_of
example-fits = association-fits example-association refl

pub made-fits : FitsColumns (extract-of made-association)
unfolding text_of
made-fits = association-fits made-association refl

-- ---- their texts

pub example-text : example_input ≡ extract_text (extract-of example-association)
unfolding ddmmyy_of yymmdd_of date_of
example-text = refl

pub made-text : example_canonical ≡ extract_text (extract-of made-association)
unfolding ddmmyy_of yymmdd_of date_of
made-text = refl
