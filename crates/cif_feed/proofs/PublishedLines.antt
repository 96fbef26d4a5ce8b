-- Lines that spell records of a published extract: those whose records are known, those that are written, and those of this profile.
use Rattle.cif_feed.proofs.Names.{All, All-cons, All-head, All-nil, All-tail, AllFit, AllStandIn, AreExtract, ArePairs, Association, Basic}
use Rattle.cif_feed.proofs.Names.{Bool, BytesSpellPublished, BytesSpellWithin, E, ExtractParts, FeedParts, FieldValue, Fits, Full, G}
use Rattle.cif_feed.proofs.Names.{HolidayCode, HolidayCodes, IsClosedAt, IsLine, IsPublishedAssociation, IsPublishedSchedule, IsTrue, Kind}
use Rattle.cif_feed.proofs.Names.{List, None, Option, PublishedAssociation, PublishedSchedule, Record, Row, SayPublished, Schedule, Some}
use Rattle.cif_feed.proofs.Names.{SpellAll, SpellAllBy, SpellExtract, SpellExtractBy, SpellFeed, SpellsAssociationBy, SpellsBasicBy}
use Rattle.cif_feed.proofs.Names.{SpellsInFeed, SpellsRecord, StandsIn, X, [], ap, arith, as_published, association_as_published}
use Rattle.cif_feed.proofs.Names.{association_mark, association_table, code_in, code_of, code_value, codes, columns, cond, contents_of}
use Rattle.cif_feed.proofs.Names.{date, drop, drop-append-add, end_value, exactly, false, has_code, if_allowed, inl, is_association}
use Rattle.cif_feed.proofs.Names.{is_basic, is_comment, is_note, is_open, is_record_line, is_whole_from, kind_in, kind_of, length}
use Rattle.cif_feed.proofs.Names.{length-append, length-plain_line, line-plain_line, lines_of, marks_in, no_open_end, not, plain_columns}
use Rattle.cif_feed.proofs.Names.{plain_line, plain_line-append, printable_fact, published_association_line, published_basic_line}
use Rattle.cif_feed.proofs.Names.{put_association_rows, put_basic_rows, record_lines, refl, row, rows_on, schedule_as_published}
use Rattle.cif_feed.proofs.Names.{schedule_mark, slice_index, stands-plain_line, subst, sym, take, take-append_seam, terms_of}
use Rattle.cif_feed.proofs.Names.{transaction_at, true, width_of, with_code, with_columns, with_open_end, ℕ, ◌&&◌, ◌++◌, ◌+◌, ◌-◌, ◌∙◌, ◌∷◌}
use Rattle.cif_feed.{proofs.Names.◌≡◌, specs.declared.mark.Transaction.TheVariants.New}
use Rattle.cif_columns.proofs.Parts.{length-plain_columns, length_behind}
use Rattle.cif_records.{proofs.Records.kind_there, specs.Checks.are}
use Rattle.cif_records.specs.declared.record.Record.TheVariants as of
use Rattle.cif_extract.proofs.PlainRecords.{basic_of}
use Rattle.cif_feed.proofs.{FeedLines.kind_there as feed_kind, FeedSteps.named_line, ListSteps.triples-of}
use Rattle.cif_feed.proofs.SaidLines.{IsScheduleLine, IsTest, SpellsAssociation, associations_spelled, schedules_spelled}
use Rattle.cif_feed.specs.{FeedLine.column, HolidayCode.letter, Marks.unless_deleted, Transaction.transaction_in}

-- ---- contents whose records are known

module _ (allowed : HolidayCodes) where
  -- the content is a line that spells this record
  pub record IsReadAs (c : List ℕ) (r : Record) : Type 0 where
    pub is_line : IsLine c
    pub spells : SpellsInFeed Full allowed c r

  abbrev pub AreReadAs : List (List ℕ) → List Record → Type 0
  AreReadAs cs rs = ArePairs IsReadAs cs rs

  -- it is no comment and no note
  neither : (c : List ℕ) (r : Record) → IsReadAs c r → (is_comment c ≡ false) × (is_note c ≡ false)
  neither c r is = named_line c (kind_of r) (feed_kind Full allowed c r is.spells)

  speaks : (c : List ℕ) (r : Record) → IsReadAs c r → is_record_line c ≡ true
  speaks c r is = let both = neither c r is in ap (λ b. not b && not (is_note c)) both.0 ∙ ap not both.1

  pub speak : (cs : List (List ℕ)) (rs : List Record) → AreReadAs cs rs → record_lines cs ≡ cs
  speak [] [] are = refl
  speak (c ∷ cs) (r ∷ rs) are =
      ap (λ b. cond b (c ∷ record_lines cs) (record_lines cs)) (speaks c r are.0) ∙ ap (λ k. c ∷ k) (speak cs rs are.1)
  speak _ _ are = absurd are

  pub read_are : (cs : List (List ℕ)) (rs : List Record) → AreReadAs cs rs → All IsLine cs
  read_are [] [] are = All-nil IsLine
  read_are (c ∷ cs) (r ∷ rs) are = All-cons IsLine c cs are.0.is_line (read_are cs rs are.1)
  read_are _ _ are = absurd are

  no_notes : (cs : List (List ℕ)) (rs : List Record) → AreReadAs cs rs → All (λ c. is_note c ≡ false) cs
  no_notes [] [] are = All-nil (λ c. is_note c ≡ false)
  no_notes (c ∷ cs) (r ∷ rs) are = All-cons (λ c. is_note c ≡ false) c cs (neither c r are.0).1 (no_notes cs rs are.1)
  no_notes _ _ are = absurd are

  spell : (cs : List (List ℕ)) (rs : List Record) → AreReadAs cs rs → SpellAllBy (SpellsInFeed Full allowed) cs rs
  spell [] [] are = tt
  spell (c ∷ cs) (r ∷ rs) are = (are.0.spells, spell cs rs are.1)
  spell _ _ are = absurd are

  -- what the contents say, where their records are this extract
  abbrev pub parts_read : List (List ℕ) → ExtractParts → FeedParts
  parts_read cs x = record { extract = x; marks = marks_in allowed cs }

  pub spell_read : (cs : List (List ℕ)) (rs : List Record) (x : ExtractParts) → AreReadAs cs rs → AreExtract rs x
      → SpellFeed Full allowed cs (parts_read cs x)
  spell_read cs rs x are extract = record {
    are_contents = λ k d below. inl (read_are cs rs are k d below);
    notes_stand = λ k below note. let none = no_notes cs rs are k [] below in absurd (cc);
    says = record {
      extract = record {
        records = rs;
        spelled = subst (λ ls. SpellAllBy (SpellsInFeed Full allowed) ls rs) (sym (speak cs rs are)) (spell cs rs are);
        are = extract;
      };
      marks = refl;
    };
  }

-- ---- columns that are written over those of a plain line

over : (first : ℕ) (a b c d : List ℕ) → first ≡ length a + 1 → length b ≡ length d → with_columns first d (a ++ (b ++ c)) ≡ a ++ (d ++ c)
unfolding with_columns
over first a b c d at wide =
    let behind : first - 1 + length d ≡ length a + (length b + 0) = omega (arith, at, wide) in
    let before : first - 1 ≡ length a = omega (arith, at) in
    ap (λ n. take n (a ++ (b ++ c)) ++ (d ++ drop (first - 1 + length d) (a ++ (b ++ c)))) before
    ∙ ap (λ l. l ++ (d ++ drop (first - 1 + length d) (a ++ (b ++ c)))) (take-append_seam a (b ++ c))
    ∙ ap (λ n. a ++ (d ++ drop n (a ++ (b ++ c)))) behind
    ∙ ap (λ l. a ++ (d ++ l)) (drop-append-add a (b ++ c) (length b + 0) ∙ drop-append-add b c 0)

-- another value in a row of a whole table: its columns are written over the row's
written : (front : List Row) (r : Row) (back : List Row) (value : FieldValue) → is_whole_from 1 (front ++ r ∷ back) ≡ true
    → is_whole_from r.from (r ∷ back) ≡ true → AllFit (front ++ r ∷ back) → AllFit (r ∷ back) → Fits (width_of r) value
    → with_columns r.from (plain_columns (width_of r) value) (plain_line (front ++ r ∷ back))
    ≡ plain_line (front ++ (record r { value = value }) ∷ back)
written front r back value whole rest fits fit new =
    let all : length (plain_line (front ++ r ∷ back)) ≡ 80 = length-plain_line (front ++ r ∷ back) whole fits in
    let behind : length (plain_line (r ∷ back)) + r.from ≡ 81 = length_behind r.from (r ∷ back) rest fit in
    let parts = plain_line-append front (r ∷ back) in
    let long : length (plain_line (front ++ r ∷ back)) ≡ length (plain_line front) + length (plain_line (r ∷ back)) =
    ap length parts ∙ length-append (plain_line front) (plain_line (r ∷ back)) in
    ap (with_columns r.from (plain_columns (width_of r) value)) parts
    ∙ over r.from (plain_line front) (plain_columns (width_of r) r.value) (plain_line back) (plain_columns (width_of r) value)
    (omega (arith, all, behind, long))
    (length-plain_columns (width_of r) r.value fit.0 ∙ sym (length-plain_columns (width_of r) value new))
    ∙ sym (plain_line-append front ((record r { value = value }) ∷ back))

nines_fit : Fits 6 (exactly (codes "999999"))
nines_fit = (refl, printable_fact (codes "999999") refl)

-- ---- what stands in the columns of a published record, it spells

-- whether an end is open that stands there
opened : (columns : List ℕ) (open_end : Bool) (last : ℕ) → StandsIn columns (end_value open_end last)
    → are columns (codes "999999") ≡ open_end
opened columns true last stands = ap (λ (l : List ℕ). are l (codes "999999")) stands
opened columns false last stands = no_open_end columns last stands

module _ (allowed : HolidayCodes) (c : List ℕ) where
  new_there : columns 3 3 c ≡ codes "N" → transaction_at Full c ≡ Some New
  new_there new = ap (λ (l : List ℕ). cond (are l (codes "N")) (Some New) None) new

  -- so its end and its code are read
  read_as_new : {A : Type 0} → columns 3 3 c ≡ codes "N" → (none value : A)
      → unless_deleted (transaction_in (column 3 c)) none value ≡ value
  read_as_new new none value = ap (λ (l : List ℕ). unless_deleted (transaction_in (slice_index l 0)) none value) new

  pub association_spelled : (a : Association) (open_end : Bool) → AllStandIn c (put_association_rows New open_end a)
      → IsClosedAt open_end a.last
      → SpellsInFeed Full allowed c (of.Association a) × ((association_mark (0, c)).open_end ≡ open_end)
  association_spelled a open_end s closed =
      let is : is_open 22 c ≡ open_end = opened (columns 22 27 c) open_end a.last s.1.1.1.1.1.0 in (
        subst (λ t. SpellsAssociationBy t c a) (sym (new_there s.1.0)) (
          subst (λ b. AllStandIn c (put_association_rows New b a)) (sym is) s,
          subst (λ b. IsClosedAt b a.last) (sym is) closed,
        ),
        read_as_new s.1.0 false (is_open 22 c) ∙ is,
      )

  code_there : (code : Option HolidayCode) → ((k : HolidayCode) → code ≡ Some k → IsTrue (has_code allowed k)) → (l : List ℕ)
      → StandsIn l (code_value code) → if_allowed allowed (code_in (slice_index l 0)) ≡ code
  code_there None may l is = ap (λ (l : List ℕ). if_allowed allowed (code_in (slice_index l 0))) is
  code_there (Some k) may l is =
      ap (λ (l : List ℕ). if_allowed allowed (code_in (slice_index l 0))) is ∙ ap (if_allowed allowed) (named k)
      ∙ ap (λ b. cond b (Some k) None) (may k refl)
    where
      named : (k : HolidayCode) → code_in (letter k) ≡ Some k
      named X = refl
      named E = refl
      named G = refl

  pub basic_spelled : (b : Basic) (open_end : Bool) (code : Option HolidayCode)
      → AllStandIn c (put_basic_rows New open_end code (terms_of b) b.detail) → IsClosedAt open_end b.last
      → ((k : HolidayCode) → code ≡ Some k → IsTrue (has_code allowed k))
      → SpellsInFeed Full allowed c (of.Basic b) × ((schedule_mark allowed (0, c)).open_end ≡ open_end)
      × ((schedule_mark allowed (0, c)).code ≡ code)
  basic_spelled b open_end code s closed may =
      let is : is_open 16 c ≡ open_end = opened (columns 16 21 c) open_end b.last s.1.1.1.1.0 in
      let reported : code_of allowed c ≡ code = code_there code may (columns 29 29 c) s.1.1.1.1.1.1.0 in (
        subst (λ t. SpellsBasicBy allowed t c b) (sym (new_there s.1.0)) (
          subst (λ k. AllStandIn c (put_basic_rows New (is_open 16 c) k (terms_of b) b.detail)) (sym reported)
              (subst (λ v. AllStandIn c (put_basic_rows New v code (terms_of b) b.detail)) (sym is) s),
          subst (λ v. IsClosedAt v b.last) (sym is) closed,
        ),
        read_as_new s.1.0 false (is_open 16 c) ∙ is,
        read_as_new s.1.0 None (code_of allowed c) ∙ reported,
      )

-- ---- what is written

module _ (allowed : HolidayCodes) where
  module _ (a : PublishedAssociation) (fits : AllFit (association_table a.association)) where
    abbrev association : Association
    association = a.association

    abbrev association_rows : Bool → List Row
    association_rows open_end = put_association_rows New open_end association

    association_is : (open_end : Bool)
        → with_open_end open_end 22 (plain_line (association_rows false)) ≡ plain_line (association_rows open_end)
    association_is false = refl
    association_is true = written (take 5 (association_rows false)) (row 22 27 (date association.last)) (drop 6 (association_rows false))
        (exactly (codes "999999")) refl refl fits fits.1.1.1.1.1 nines_fit

    association_fits : (open_end : Bool) → AllFit (association_rows open_end)
    association_fits false = fits
    association_fits true = (fits.0, (fits.1.0, (fits.1.1.0, (fits.1.1.1.0, (fits.1.1.1.1.0, (nines_fit, fits.1.1.1.1.1.1))))))

    -- the line spells it, with its end
    abbrev pub IsAssociationWritten : List ℕ → Type 0
    IsAssociationWritten c = IsReadAs allowed c (of.Association association) × ((association_mark (0, c)).open_end ≡ a.open_end)

    pub association_written : IsAssociationWritten (published_association_line a)
    association_written =
        let rows = association_rows a.open_end in
        let fit = association_fits a.open_end in
        let c = plain_line rows in
        let (spells, ends) = association_spelled allowed c association a.open_end (stands-plain_line rows refl fit) a.closed in
        subst IsAssociationWritten (sym (association_is a.open_end))
        (record { is_line = line-plain_line rows refl fit; spells = spells }, ends)

  module _ (s : PublishedSchedule) (fits : AllFit (rows_on s.schedule.first s.schedule.last s.schedule)) where
    abbrev basic : Basic
    basic = basic_of s.schedule

    abbrev rows_with : Bool → Option HolidayCode → List Row
    rows_with open_end code = put_basic_rows New open_end code (terms_of basic) basic.detail

    end_is : (open_end : Bool) → with_open_end open_end 16 (plain_line (rows_with false None)) ≡ plain_line (rows_with open_end None)
    end_is false = refl
    end_is true = written (take 4 (rows_with false None)) (row 16 21 (date basic.last)) (drop 5 (rows_with false None))
        (exactly (codes "999999")) refl refl fits fits.1.1.1.1 nines_fit

    end_fits : (open_end : Bool) → AllFit (rows_with open_end None)
    end_fits false = fits
    end_fits true = (fits.0, (fits.1.0, (fits.1.1.0, (fits.1.1.1.0, (nines_fit, fits.1.1.1.1.1)))))

    code_fit : (k : HolidayCode) → Fits 1 (code_value (Some k))
    code_fit X = (refl, printable_fact (letter X ∷ []) refl)
    code_fit E = (refl, printable_fact (letter E ∷ []) refl)
    code_fit G = (refl, printable_fact (letter G ∷ []) refl)

    basic_is : (open_end : Bool) (code : Option HolidayCode)
        → with_code code (with_open_end open_end 16 (plain_line (rows_with false None))) ≡ plain_line (rows_with open_end code)
    basic_is open_end None = end_is open_end
    basic_is open_end (Some k) =
        let fit = end_fits open_end in
        ap (with_columns 29 (letter k ∷ [])) (end_is open_end)
        ∙ written (take 6 (rows_with open_end None)) (row 29 29 (exactly (codes " "))) (drop 7 (rows_with open_end None))
        (code_value (Some k)) refl refl fit fit.1.1.1.1.1.1 (code_fit k)

    basic_fits : (open_end : Bool) (code : Option HolidayCode) → AllFit (rows_with open_end code)
    basic_fits open_end None = end_fits open_end
    basic_fits open_end (Some k) =
        let fit = end_fits open_end in
        (fit.0, (fit.1.0, (fit.1.1.0, (fit.1.1.1.0, (fit.1.1.1.1.0, (fit.1.1.1.1.1.0, (code_fit k, fit.1.1.1.1.1.1.1)))))))

    -- the line spells its BS, with its end and its code
    abbrev pub IsBasicWritten : List ℕ → Type 0
    IsBasicWritten c = IsReadAs allowed c (of.Basic basic) × ((schedule_mark allowed (0, c)).open_end ≡ s.open_end)
        × ((schedule_mark allowed (0, c)).code ≡ s.code)

    pub basic_written : ((k : HolidayCode) → s.code ≡ Some k → IsTrue (has_code allowed k)) → IsBasicWritten (published_basic_line s)
    basic_written may =
        let rows = rows_with s.open_end s.code in
        let fit = basic_fits s.open_end s.code in
        let c = plain_line rows in
        let (spells, ends, code) = basic_spelled allowed c basic s.open_end s.code (stands-plain_line rows refl fit) s.closed may in
        subst IsBasicWritten (sym (basic_is s.open_end s.code))
        (record { is_line = line-plain_line rows refl fit; spells = spells }, ends, code)

-- ---- lines of this profile

module _ (allowed : HolidayCodes) where
  pub own_spells : (c : List ℕ) (r : Record) → SpellsRecord c r → SpellsInFeed Full allowed c r
  own_spells c (of.Association a) s = (association_spelled allowed c a false s (λ e. cc)).0
  own_spells c (of.Basic b) s = (basic_spelled allowed c b false None s (λ e. cc) (λ k e. cc)).0
  own_spells c r s = s

  own_lines : (cs : List (List ℕ)) (rs : List Record) → All IsLine cs → SpellAll cs rs → AreReadAs allowed cs rs
  own_lines [] [] are spell = tt
  own_lines (c ∷ cs) (r ∷ rs) are spell = (
    record { is_line = All-head IsLine c cs are; spells = own_spells c r spell.0 },
    own_lines cs rs (All-tail IsLine c cs are) spell.1,
  )
  own_lines _ _ are spell = absurd spell

  -- ---- what they say: no end is open, and there is no code

  own_agrees : (is : Option Kind → Bool) → IsTest is → (c : List ℕ) (r : Record) → SpellsRecord c r → is (kind_in c) ≡ is (Some (kind_of r))
  own_agrees is test c r s = ap is (kind_there c r s)

  own_association : (line : ℕ × List ℕ) (a : Association) → SpellsAssociation SpellsRecord line a
      → IsPublishedAssociation a (association_mark line) (association_as_published a)
  own_association line a s = record { of_profile = refl; open_end = sym (association_spelled allowed line.1 a false s (λ e. cc)).1 }

  own_schedule : (line : ℕ × List ℕ) (s : Schedule) → IsScheduleLine SpellsRecord line s
      → IsPublishedSchedule s (schedule_mark allowed line) (schedule_as_published s)
  own_schedule line s is =
      let (spells, ends, code) = basic_spelled allowed line.1 is.basic false None is.spells (λ e. cc) (λ k e. cc) in
      record { of_profile = refl; open_end = sym ends; code = sym code }

  own_says : (cs : List (List ℕ)) (x : ExtractParts) → All IsLine cs → SpellExtract cs x
      → SayPublished (parts_read allowed cs x) (as_published x)
  own_says cs x are s =
      let all : record_lines cs ≡ cs = speak allowed cs s.records (own_lines cs s.records are s.spelled) in
      let spelled = subst (λ l. SpellExtractBy SpellsRecord l x) (sym all) s in
      record {
        header = refl;
        tiplocs = refl;
        associations = triples-of (SpellsAssociation SpellsRecord) association_mark association_as_published IsPublishedAssociation
            own_association (lines_of is_association cs) x.associations (associations_spelled SpellsRecord own_agrees cs x spelled);
        schedules = triples-of (IsScheduleLine SpellsRecord) (schedule_mark allowed) schedule_as_published IsPublishedSchedule
            own_schedule (lines_of is_basic cs) x.schedules (schedules_spelled SpellsRecord own_agrees cs x spelled);
      }

  pub own_published : (max : ℕ) (bytes : List ℕ) (x : ExtractParts) → BytesSpellWithin max bytes x
      → BytesSpellPublished allowed max bytes (as_published x)
  own_published max bytes x s =
      let cs = contents_of bytes in
      let e = s.spell.spelled in
      record {
        spell = record {
          lines = parts_read allowed cs x;
          spelled = spell_read allowed cs e.records x (own_lines cs e.records s.spell.are_lines e.spelled) e.are;
          says = own_says cs x s.spell.are_lines e;
        };
        within = s.within;
      }
