-- Canonical extracts have the same tables exactly if they have the same text.
use Rattle.cif_views.proofs.Names.{All, All-cons, All-head, All-map, All-nil, All-tail, All-weaker, AllFit, AssocBody, AssocKey}
use Rattle.cif_views.proofs.Names.{Association, Associations, BodyLines, Bool, BytesSpell, Calls, CanonParts, Changes, Column, ExtractLines}
use Rattle.cif_views.proofs.Names.{ExtractParts, Form, IsCanonOf, IsCanonicalOf, List, Permanent, Public, Row, SameMeaning, Schedule}
use Rattle.cif_views.proofs.Names.{ScheduleFits, ScheduleLines, Schedules, Table, Terms, Tiplocs, [], ap, append_cancel_left, arith}
use Rattle.cif_views.proofs.Names.{association_columns, association_entries, association_entry, basic_rows, contents_of, detail_of}
use Rattle.cif_views.proofs.Names.{enumerate_from, extract_text, extracts-unique, false, flat_map, flat_map-map}
use Rattle.cif_views.proofs.Names.{further_lines, header_fields, header_table, length, length-append, line_of_association, line_of_tiploc}
use Rattle.cif_views.proofs.Names.{lines_of_schedule, lines_text, map, numbered_schedule, one_spelled, option_map, over, permanent_entries}
use Rattle.cif_views.proofs.Names.{plain_line, plain_lines_of, refl, row_of, schedule_entries, schedule_entry, schedule_fields}
use Rattle.cif_views.proofs.Names.{schedule_plain, spelled-fits, subst, sym, table_names, table_rows, table_text, terms_of, tiploc_fields}
use Rattle.cif_views.proofs.Names.{tiploc_table, trailer_table, true, ℕ, ◌++◌, ◌+◌, ◌<◌, ◌^◌, ◌↔◌, ◌∙◌, ◌∷◌, ◌≡◌, ◌≢◌, ◌≤◌}
use Rattle.std.proofs.lemmas.Simd.{map-map}
use Rattle.cif_records.specs.Association as aa
use Rattle.cif_canon.{proofs.SameExtracts.same-sym, proofs.SameExtracts.same-trans, specs.Canonical.IsCanonicalText, specs.Lines.lines_of}
use Rattle.cif_views.proofs.{PairedBodies.FitsLines, PairedBodies.association_line, RowsOfDifferences.AssociationEntryFits}
use Rattle.cif_views.{proofs.RowsOfDifferences.ScheduleEntryFits, specs.SameTables.HaveSameTables, specs.Tables.association_fields}
use Rattle.cif_views.proofs.RowLines.{IsPlain, same-plain_row, same-plain_rows, same-rows}
use Rattle.cif_views.proofs.Names.{map-append}
use Rattle.cif_views.proofs.RowNames.{Field, Format, Text, heading_text, row_text}
use Rattle.cif_views.proofs.SameJourneys.{IsRow, fields_of, most, one-row, row-said}
use Rattle.cif_views.proofs.SameSchedules.{IsNumberedPlain, IsSchedule, all-numbered, all-rows, listed, rows_from, same-row_of}
use Rattle.cif_views.proofs.SameSchedules.{same-schedules, schedule-said, schedules_from}
use Rattle.cif_views.specs.declared.{columns.TheConstants.HEADER, columns.TheConstants.TIPLOC, tables.Table.TheVariants.Header}

abbrev header_columns : List Column
header_columns = over HEADER (λ c. (c.0.now, c.1))

abbrev tiploc_columns : List Column
tiploc_columns = over TIPLOC (λ c. (c.0.now, c.1))

-- ---- tables, and lines

-- the lines of a canonical extract, of which there are few enough to be numbered
record ArePlain (x : ExtractLines) : Type 0 where
  header : IsPlain header_table x.header
  tiplocs : All (IsPlain tiploc_table) x.tiplocs
  associations : All (IsPlain association_line) x.associations
  schedules : All IsSchedule x.schedules
  few : length x.schedules < 2 ^ 64

module _ (format : Format) (not : format ≢ Text) (x y : ExtractLines) (one : ArePlain x) (other : ArePlain y)
    (same : HaveSameTables format x y) where
  abbrev text : List (List Field) → List ℕ
  text rows = flat_map (row_text format) rows

  rows : (table : Table) → table ≢ Public → text (table_rows table x) ≡ text (table_rows table y)
  unfolding table_text
  rows table other_table =
      append_cancel_left (heading_text format (table_names table)) (text (table_rows table x)) (text (table_rows table y)) (same table other_table)

  few-of : (z : ExtractLines) → ArePlain z → 1 + length z.schedules ≤ 2 ^ 64
  few-of z p = let few = p.few in omega (arith, few)

  headers : x.header ≡ y.header
  headers =
      same-plain_row header_table header_columns (λ h. refl) (λ h k. refl) format not header_fields (λ l. refl) refl (omega arith) x.header
      y.header one.header other.header (rows Header (λ e. absurd (cc)))

  tiplocs : x.tiplocs ≡ y.tiplocs
  tiplocs =
      same-plain_rows tiploc_table tiploc_columns (λ t. refl) (λ t u. refl) format not tiploc_fields (λ l. refl) refl (omega arith) x.tiplocs
      y.tiplocs one.tiplocs other.tiplocs (rows Tiplocs (λ e. absurd (cc)))

  associations : x.associations ≡ y.associations
  associations =
      same-plain_rows association_line association_columns (λ e. refl) (λ e g. refl) format not association_fields (λ l. refl) refl
      (omega arith) x.associations y.associations one.associations other.associations (rows Associations (λ e. absurd (cc)))

  -- rows of schedules, one for each
  one-each : (z : List (ℕ × ScheduleLines)) →
      flat_map (λ (s : ℕ × ScheduleLines). row_of schedule_fields (numbered_schedule s) ∷ []) z
      ≡ map (row_of schedule_fields) (map numbered_schedule z)
  one-each [] = refl
  one-each (s ∷ z) = ap (λ (rows : List (List Field)). row_of schedule_fields (numbered_schedule s) ∷ rows) (one-each z)

  numbered : schedules_from 1 x.schedules ≡ schedules_from 1 y.schedules
  numbered =
      let is : (z : ExtractLines) → table_rows Schedules z ≡ map (row_of schedule_fields) (schedules_from 1 z.schedules) =
      λ z. one-each (enumerate_from 1 z.schedules) in
      same-rows format not schedule_fields IsNumberedPlain (omega arith) schedule-said same-row_of (schedules_from 1 x.schedules)
      (schedules_from 1 y.schedules) (all-numbered 1 x.schedules (few-of x one) one.schedules)
      (all-numbered 1 y.schedules (few-of y other) other.schedules)
      (ap text (sym (is x)) ∙ rows Schedules (λ e. absurd (cc)) ∙ ap text (is y))

  -- the rows of calls, or else of changes
  abbrev rows_of_lines : Bool → ExtractLines → List (List Field)
  rows_of_lines calls z =
      flat_map (λ (s : ℕ × ScheduleLines). map (row_of (fields_of calls)) (listed calls s.0 s.1.further)) (enumerate_from 1 z.schedules)

  texts-of_rows : (calls : Bool) → text (rows_of_lines calls x) ≡ text (rows_of_lines calls y)
  texts-of_rows true = rows Calls (λ e. absurd (cc))
  texts-of_rows false = rows Changes (λ e. absurd (cc))

  some-field_of : (calls : Bool) → 0 < length (fields_of calls)
  some-field_of true = omega arith
  some-field_of false = omega arith

  map-flat : {A B C : Type 0} (f : B → C) (g : A → List B) (xs : List A) → map f (flat_map g xs) ≡ flat_map (λ x. map f (g x)) xs
  map-flat f g [] = refl
  map-flat f g (a ∷ rest) = map-append f (g a) (flat_map g rest) ∙ ap (λ l. map f (g a) ++ l) (map-flat f g rest)

  journeys : (calls : Bool) → rows_from calls 1 x.schedules ≡ rows_from calls 1 y.schedules
  journeys calls =
      let is : (z : ExtractLines) → map (row_of (fields_of calls)) (rows_from calls 1 z.schedules) ≡ rows_of_lines calls z =
      λ z. map-flat (row_of (fields_of calls)) _ (enumerate_from 1 z.schedules) in
      same-rows format not (fields_of calls) (IsRow calls 1 most) (some-field_of calls) (row-said calls) (one-row calls)
      (rows_from calls 1 x.schedules) (rows_from calls 1 y.schedules)
      (all-rows calls 1 1 x.schedules (omega arith) (few-of x one) one.schedules)
      (all-rows calls 1 1 y.schedules (omega arith) (few-of y other) other.schedules)
      (ap text (is x) ∙ texts-of_rows calls ∙ ap text (sym (is y)))

  schedules : x.schedules ≡ y.schedules
  schedules = same-schedules 1 x.schedules y.schedules one.schedules other.schedules (few-of x one) (few-of y other) numbered journeys

  same-lines : x ≡ y
  same-lines = λ i. record { header = headers i; tiplocs = tiplocs i; associations = associations i; schedules = schedules i }

-- ---- the text of lines

abbrev all_lines : ScheduleLines → List (List ℕ)
all_lines s = s.basic ∷ s.further

abbrev text_of : ExtractLines → List ℕ
text_of x = lines_text (x.header ∷ (x.tiplocs ++ (x.associations ++ (flat_map all_lines x.schedules ++ (plain_line trailer_table ∷ [])))))

lines-of_schedules : (ss : List Schedule) → flat_map plain_lines_of ss ≡ flat_map all_lines (map lines_of_schedule ss)
lines-of_schedules ss = sym (flat_map-map all_lines lines_of_schedule ss)

text-is : (x : ExtractParts) → extract_text x ≡ text_of (lines_of x)
text-is x =
    ap (λ (own : List (List ℕ)). lines_text (plain_line (header_table x.header) ∷ (map line_of_tiploc x.tiplocs
    ++ (map line_of_association x.associations ++ (own ++ (plain_line trailer_table ∷ [])))))) (lines-of_schedules x.schedules)

-- it has a byte at least for each line
some-byte : (ls : List (List ℕ)) → length ls ≤ length (lines_text ls)
some-byte [] = omega arith
some-byte (l ∷ ls) = omega (arith, some-byte ls, length-append (l ++ (10 ∷ [])) (lines_text ls), length-append l (10 ∷ []))

-- ---- what a canonical extract has

plain-all : {X : Type 0} (table : X → List Row) (xs : List X) → All (λ x. AllFit (table x)) xs →
    All (IsPlain table) (map (λ x. plain_line (table x)) xs)
plain-all table [] fits = All-nil (IsPlain table)
plain-all table (x ∷ xs) fits =
    All-cons (IsPlain table) (plain_line (table x)) (map (λ x. plain_line (table x)) xs)
    (record { it = x; fits = All-head (λ y. AllFit (table y)) x xs fits; is = refl })
    (plain-all table xs (All-tail (λ y. AllFit (table y)) x xs fits))

-- the line of an association, and those of a schedule, as entries
abbrev line_of_entry : AssocKey × Terms AssocBody → List ℕ
line_of_entry e = plain_line (aa.association_rows e.0 e.1.first e.1.last e.1.days e.1.letter e.1.body)

abbrev lines_of_entry : List ℕ × Terms BodyLines → ScheduleLines
lines_of_entry e = record {
  basic = plain_line (basic_rows e.0 e.1.first e.1.last e.1.days e.1.letter (option_map detail_of e.1.body));
  further = further_lines e.1.body;
}

of-map : {X Y : Type 0} (P : Y → Type 0) (f : X → Y) (xs : List X) → All P (map f xs) → All (λ x. P (f x)) xs
of-map P f [] all = All-nil (λ x. P (f x))
of-map P f (x ∷ xs) all = All-cons (λ y. P (f y)) x xs (All-head P (f x) (map f xs) all) (of-map P f xs (All-tail P (f x) (map f xs) all))

-- what canonical entries have is what their records have
module _ {A K B : Type 0} (entry : A → K × Terms B) (xs : List A) (es : List (K × Permanent B)) (are : map entry xs ≡ permanent_entries es)
  where
    by-records : {C : Type 0} (of : K × Terms B → C) → map (λ x. of (entry x)) xs ≡ map (λ (e : K × Permanent B). of (e.0, terms_of e.1)) es
    by-records of = sym (map-map of entry xs) ∙ ap (map of) are ∙ map-map of (λ (e : K × Permanent B). (e.0, terms_of e.1)) es

    -- what holds of the entries holds of the records
    of-records : (P : K × Terms B → Type 0) → All (λ x. P (entry x)) xs → All (λ (e : K × Permanent B). P (e.0, terms_of e.1)) es
    of-records P all = of-map P (λ (e : K × Permanent B). (e.0, terms_of e.1)) es (subst (All P) are (All-map P entry xs all))

plain-associations : (xs : List Association) (es : List (AssocKey × Permanent AssocBody)) → association_entries xs ≡ permanent_entries es →
    All (λ (a : Association). AllFit (aa.association_table a)) xs → All (IsPlain association_line) (map line_of_association xs)
plain-associations xs es are fits =
    subst (All (IsPlain association_line)) (sym (by-records association_entry xs es are line_of_entry))
    (plain-all association_line es (of-records association_entry xs es are AssociationEntryFits fits))

-- canonical records, of which so many lines are written
plain-records : (es : List (List ℕ × Permanent BodyLines)) → All FitsLines es →
    length (flat_map all_lines (map schedule_plain es)) < 2 ^ 64 →
    All IsSchedule (map schedule_plain es) × (length (map schedule_plain es) ≤ length (flat_map all_lines (map schedule_plain es)))
plain-records [] fits few = (All-nil IsSchedule, omega arith)
plain-records (e ∷ es) fits few =
    let own = schedule_plain e in
    let long = length-append (all_lines own) (flat_map all_lines (map schedule_plain es)) in
    let (others, count) = plain-records es (All-tail FitsLines e es fits) (omega (arith, few, long)) in (
      All-cons IsSchedule own (map schedule_plain es)
          (record { it = e; fits = All-head FitsLines e es fits; is = refl; few = omega (arith, few, long) }) others,
      omega (arith, long, count),
    )

plain-schedules : (xs : List Schedule) (es : List (List ℕ × Permanent BodyLines)) → schedule_entries xs ≡ permanent_entries es →
    All ScheduleFits xs → length (flat_map all_lines (map lines_of_schedule xs)) < 2 ^ 64 →
    All IsSchedule (map lines_of_schedule xs) × (length (map lines_of_schedule xs) < 2 ^ 64)
plain-schedules xs es are fits few =
    let lines = by-records schedule_entry xs es are lines_of_entry in
    let entries = All-weaker ScheduleFits (λ s. ScheduleEntryFits (schedule_entry s))
    (λ s f. record { basic = f.basic; body = f.body }) xs fits in
    let records = All-weaker (λ (e : List ℕ × Permanent BodyLines). ScheduleEntryFits (e.0, terms_of e.1)) FitsLines
    (λ e f. record { basic = f.basic; body = f.body }) es (of-records schedule_entry xs es are ScheduleEntryFits entries) in
    let some = subst (λ ls. length (flat_map all_lines ls) < 2 ^ 64) lines few in
    let (all, count) = plain-records es records some in
    subst (λ (ls : List ScheduleLines). All IsSchedule ls × (length ls < 2 ^ 64)) (sym lines) (all, omega (arith, some, count))

module _ (form : Form) (x : ExtractParts) (text : List ℕ) (is : IsCanonicalText form x text) (few : length text < 2 ^ 64) where
  are-plain : ArePlain (lines_of x)
  are-plain =
      let locations = map line_of_tiploc x.tiplocs in
      let own = map line_of_association x.associations in
      let trains = flat_map all_lines (map lines_of_schedule x.schedules) in
      let end = plain_line trailer_table ∷ [] in
      let fits = spelled-fits (contents_of text) x is.spelled.are_lines is.spelled.spelled in
      let bytes = ap length (is.text ∙ text-is x) in
      let lines = some-byte (plain_line (header_table x.header) ∷ (locations ++ (own ++ (trains ++ end)))) in
      let more = length-append locations (own ++ (trains ++ end)) in
      let others = length-append own (trains ++ end) in
      let last = length-append trains end in
      let (schedules, count) = plain-schedules x.schedules is.canonical.schedules.records is.canonical.schedules.are fits.schedules
      (omega (arith, few, bytes, lines, more, others, last)) in
      record {
        header = record { it = x.header; fits = fits.header; is = refl };
        tiplocs = plain-all tiploc_table x.tiplocs fits.tiplocs;
        associations = plain-associations x.associations is.canonical.associations.records is.canonical.associations.are fits.associations;
        schedules = schedules;
        few = count;
      }

-- ---- canonical extracts

module _ (format : Format) (not : format ≢ Text) (form other : Form) (x y : ExtractParts) (c d : CanonParts) (one : IsCanonOf form x c) (two : IsCanonOf other y d)
    (few : length c.text < 2 ^ 64) (as-few : length d.text < 2 ^ 64) where
  abbrev made : ExtractParts
  made = one.canonical.made

  abbrev other_made : ExtractParts
  other_made = two.canonical.made

  text-of_tables : HaveSameTables format c.lines d.lines → c.text ≡ d.text
  text-of_tables same =
      let lines = same-lines format not (lines_of made) (lines_of other_made) (are-plain form made c.text one.canonical.canonical few)
      (are-plain other other_made d.text two.canonical.canonical as-few)
      (λ table other_table.
      ap (table_text format table) (sym one.lines_are) ∙ same table other_table ∙ ap (table_text format table) two.lines_are) in
      one.canonical.canonical.text ∙ text-is made ∙ ap text_of lines ∙ sym (text-is other_made) ∙ sym two.canonical.canonical.text

  one-made : c.text ≡ d.text → made ≡ other_made
  one-made same =
      one_spelled d.text made other_made (subst (λ t. BytesSpell t made) same one.canonical.canonical.spelled)
      two.canonical.canonical.spelled

  same-text : HaveSameTables format c.lines d.lines ↔ (c.text ≡ d.text)
  same-text =
      (text-of_tables, λ same table other_table. ap (table_text format table) (one.lines_are ∙ ap lines_of (one-made same) ∙ sym two.lines_are))

-- of one form they have the same tables exactly if they say the same
module _ (format : Format) (not : format ≢ Text) (form : Form) (x y : ExtractParts) (c d : CanonParts) (one : IsCanonOf form x c)
    (two : IsCanonOf form y d) (few : length c.text < 2 ^ 64) (as-few : length d.text < 2 ^ 64) where
  abbrev p : IsCanonicalOf form x c.text
  p = one.canonical

  abbrev q : IsCanonicalOf form y d.text
  q = two.canonical

  said : HaveSameTables format c.lines d.lines → SameMeaning x y
  said same =
      let made = one-made format not form form x y c d one two few as-few (text-of_tables format not form form x y c d one two few as-few same) in
      same-trans x p.made y p.same (subst (λ m. SameMeaning m y) (sym made) (same-sym y q.made q.same))

  shown-same : SameMeaning x y → HaveSameTables format c.lines d.lines
  shown-same same =
      let made = extracts-unique form p.made q.made p.canonical.canonical q.canonical.canonical
      (same-trans p.made x q.made (same-sym x p.made p.same) (same-trans x y q.made same q.same)) in
      (same-text format not form form x y c d one two few as-few).1 (p.canonical.text ∙ ap extract_text made ∙ sym q.canonical.text)

  same-meaning : HaveSameTables format c.lines d.lines ↔ SameMeaning x y
  same-meaning = (said, shown-same)

pub text-law : (format : Format) (form other : Form) (x y : ExtractParts) (c d : CanonParts) → IsCanonOf form x c → IsCanonOf other y d →
    length c.text < 2 ^ 64 → length d.text < 2 ^ 64 → format ≢ Text → HaveSameTables format c.lines d.lines ↔ (c.text ≡ d.text)
text-law format form other x y c d one two few as-few not = same-text format not form other x y c d one two few as-few

pub meaning-law : (format : Format) (form : Form) (x y : ExtractParts) (c d : CanonParts) → IsCanonOf form x c → IsCanonOf form y d →
    length c.text < 2 ^ 64 → length d.text < 2 ^ 64 → format ≢ Text → HaveSameTables format c.lines d.lines ↔ SameMeaning x y
meaning-law format form x y c d one two few as-few not = same-meaning format not form x y c d one two few as-few
