-- The text of a published extract spells it.
use Rattle.cif_feed.proofs.Names.{Aa, All, All-head, All-tail, AllFit, ArePairs, AreTriples, Association, BodyLines, Bool, Bs}
use Rattle.cif_feed.proofs.Names.{BytesSpellPublished, E, Each, Extra, FeedParts, FitsColumns, Full, G, HolidayCode, HolidayCodes, IfSome}
use Rattle.cif_feed.proofs.Names.{IsBody, IsPublishedAssociation, IsPublishedSchedule, IsTrue, Kind, List, None, Option}
use Rattle.cif_feed.proofs.Names.{PublishedAssociation, PublishedParts, PublishedSchedule, Record, RecordFits, SayPublished, Schedule}
use Rattle.cif_feed.proofs.Names.{ScheduleFits, Some, SpellPublished, Tiploc, X, [], all_codes, ap, append-nil, association_mark}
use Rattle.cif_feed.proofs.Names.{call_record, contents_of, each_append, each_map, enumerate_from, extra_records, filter, filter-append}
use Rattle.cif_feed.proofs.Names.{flat_map, further-fit, further-lines, further_lines, has_code, is_association, is_basic, kind_in, kind_of}
use Rattle.cif_feed.proofs.Names.{laid_out, length, line_of_tiploc, lines_of, map, of_profile, one_if, parts_in, plain_line}
use Rattle.cif_feed.proofs.Names.{published_association_line, published_basic_line, published_lines, published_schedule_lines}
use Rattle.cif_feed.proofs.Names.{published_text, record_table, refl, rows_on, same_extract_parts, schedule_mark, subst, sym, ℕ, ◌++◌, ◌+◌}
use Rattle.cif_feed.proofs.Names.{◌∙◌, ◌∷◌, ◌≡◌, ◌≤◌}
use Rattle.cif_columns.proofs.PlainLines.{contents-lines_text}
use Rattle.cif_records.proofs.Headers as headers
use Rattle.cif_records.proofs.Records.{kind_there}
use Rattle.cif_records.proofs.Records as records
use Rattle.cif_records.proofs.Tiplocs as locations
use Rattle.cif_records.proofs.Trailers as trailers
use Rattle.cif_records.specs.declared.record.Record.TheVariants as of
use Rattle.cif_extract.proofs.PlainRecords.{are-extract, basic_of, plain_records, records_of, records_of_body}
use Rattle.cif_extract.proofs.PlainTexts.{lines_of as record_lines}
use Rattle.cif_extract.specs.declared.{call.Call.Call, call.Call.TheVariants.At, call.Call.TheVariants.Turn}
use Rattle.cif_feed.proofs.{FeedLines.kind_there as feed_kind, FeedSteps.read_back, FittingUpdates.AssociationFits, SaidLines.feed_fits}
use Rattle.cif_feed.proofs.ListSteps.{enumerate_append, pairs-append, triples-by}
use Rattle.cif_feed.proofs.PublishedLines.{AreReadAs, IsReadAs, association_written, basic_written, own_spells, parts_read, read_are}
use Rattle.cif_feed.{proofs.PublishedLines.spell_read, specs.WrittenExtracts.CodesMayStand}

abbrev association_of : PublishedAssociation → Association
association_of a = a.association

abbrev schedule_of : PublishedSchedule → Schedule
schedule_of s = s.schedule

-- a record of no association and no BS
abbrev IsOther : Record → Type 0
IsOther (of.Association a) = ⊥
IsOther (of.Basic b) = ⊥
IsOther r = Unit {0}

-- so is each that follows a BS
extra_other : (x : Option Extra) → Each IsOther (extra_records x)
extra_other None = tt
extra_other (Some x) = (tt, tt)

call_other : (c : Call) → IsOther (call_record c)
call_other (At s) = tt
call_other (Turn c) = tt

body_other : (body : Option BodyLines) → Each IsOther (records_of_body body)
body_other None = tt
body_other (Some body) =
    let p = parts_in body in
    each_append IsOther (extra_records p.extra) _ (extra_other p.extra) (
      tt,
      each_append IsOther (map call_record p.calls) (of.Terminus p.terminus ∷ [])
          (each_map IsOther call_record call_other p.calls) (tt, tt),
    )

-- the lines of some kinds, of which the first has this number
abbrev lines_from : (Option Kind → Bool) → ℕ → List (List ℕ) → List (ℕ × List ℕ)
lines_from is n cs = filter (λ (line : ℕ × List ℕ). is (kind_in line.1)) (enumerate_from n cs)

lines-append : (is : Option Kind → Bool) (n : ℕ) (cs ds : List (List ℕ))
    → lines_from is n (cs ++ ds) ≡ lines_from is n cs ++ lines_from is (n + length cs) ds
lines-append is n cs ds =
    ap (filter (λ (line : ℕ × List ℕ). is (kind_in line.1))) (enumerate_append n cs ds)
    ∙ filter-append (λ (line : ℕ × List ℕ). is (kind_in line.1)) (enumerate_from n cs) (enumerate_from (n + length cs) ds)

module _ (allowed : HolidayCodes) where
  -- what lines say beyond the records
  abbrev HasEnd : ℕ × List ℕ → PublishedAssociation → Type 0
  HasEnd line a = (association_mark line).open_end ≡ a.open_end

  abbrev HasEndAndCode : ℕ × List ℕ → PublishedSchedule → Type 0
  HasEndAndCode line s = ((schedule_mark allowed line).open_end ≡ s.open_end) × ((schedule_mark allowed line).code ≡ s.code)

  -- Contents that spell these records, and of which the AA and the BS, with numbers from any on, are of these associations and schedules.
  record IsBlock (cs : List (List ℕ)) (rs : List Record) (al : List PublishedAssociation) (ss : List PublishedSchedule) : Type 0 where
    reads : AreReadAs allowed cs rs
    associations : (n : ℕ) → ArePairs HasEnd (lines_from is_association n cs) al
    schedules : (n : ℕ) → ArePairs HasEndAndCode (lines_from is_basic n cs) ss

  nothing : IsBlock [] [] [] []
  nothing = record { reads = tt; associations = λ n. tt; schedules = λ n. tt }

  both : {cs ds : List (List ℕ)} {rs qs : List Record} {al bs : List PublishedAssociation} {ss ts : List PublishedSchedule}
      → IsBlock cs rs al ss → IsBlock ds qs bs ts → IsBlock (cs ++ ds) (rs ++ qs) (al ++ bs) (ss ++ ts)
  both {cs} {ds} {rs} {qs} {al} {bs} {ss} {ts} p q = record {
    reads = pairs-append (IsReadAs allowed) cs rs ds qs p.reads q.reads;
    associations = λ n.
        subst (λ ls. ArePairs HasEnd ls (al ++ bs)) (sym (lines-append is_association n cs ds))
        (pairs-append HasEnd (lines_from is_association n cs) al (lines_from is_association (n + length cs) ds) bs (p.associations n)
        (q.associations (n + length cs)));
    schedules = λ n.
        subst (λ ls. ArePairs HasEndAndCode ls (ss ++ ts)) (sym (lines-append is_basic n cs ds))
        (pairs-append HasEndAndCode (lines_from is_basic n cs) ss (lines_from is_basic (n + length cs) ds) ts (p.schedules n)
        (q.schedules (n + length cs)));
  }

  -- ---- one line

  -- of this kind
  line_one : (c : List ℕ) (r : Record) (kind : Kind) (al : List PublishedAssociation) (ss : List PublishedSchedule)
      → IsReadAs allowed c r → kind_in c ≡ Some kind
      → ((n : ℕ) → ArePairs HasEnd (one_if (is_association (Some kind)) (n, c)) al)
      → ((n : ℕ) → ArePairs HasEndAndCode (one_if (is_basic (Some kind)) (n, c)) ss) → IsBlock (c ∷ []) (r ∷ []) al ss
  line_one c r kind al ss reads named association basic = record {
    reads = (reads, tt);
    associations = λ n. subst (λ k. ArePairs HasEnd (one_if (is_association k) (n, c)) al) (sym named) (association n);
    schedules = λ n. subst (λ k. ArePairs HasEndAndCode (one_if (is_basic k) (n, c)) ss) (sym named) (basic n);
  }

  other_one : (r : Record) → IsOther r → RecordFits r → IsBlock (plain_line (record_table r) ∷ []) (r ∷ []) [] []
  other_one r other fits =
      let c = plain_line (record_table r) in
      let spells = records.spells r fits in
      at c r other (record { is_line = records.line r fits; spells = own_spells allowed c r spells }) (kind_there c r spells)
    where
      at : (c : List ℕ) (r : Record) → IsOther r → IsReadAs allowed c r → kind_in c ≡ Some (kind_of r) → IsBlock (c ∷ []) (r ∷ []) [] []
      at c (of.Association a) other reads named = absurd other
      at c (of.Basic b) other reads named = absurd other
      at c r other reads named = line_one c r (kind_of r) [] [] reads named (λ n. tt) (λ n. tt)

  association_one : (a : PublishedAssociation) → AssociationFits a.association
      → IsBlock (published_association_line a ∷ []) (of.Association a.association ∷ []) (a ∷ []) []
  association_one a fits =
      let c = published_association_line a in
      let (reads, ends) = association_written allowed a fits in
      let named = read_back Full (kind_in c) Aa (λ e. cc) (feed_kind Full allowed c (of.Association a.association) reads.spells) in
      line_one c (of.Association a.association) Aa (a ∷ []) [] reads named (λ n. (ends, tt)) (λ n. tt)

  basic_one : (s : PublishedSchedule) → AllFit (rows_on s.schedule.first s.schedule.last s.schedule)
      → ((k : HolidayCode) → s.code ≡ Some k → IsTrue (has_code allowed k))
      → IsBlock (published_basic_line s ∷ []) (of.Basic (basic_of s.schedule) ∷ []) [] (s ∷ [])
  basic_one s fits may =
      let c = published_basic_line s in
      let (reads, ends, code) = basic_written allowed s fits may in
      let named = read_back Full (kind_in c) Bs (λ e. cc) (feed_kind Full allowed c (of.Basic (basic_of s.schedule)) reads.spells) in
      line_one c (of.Basic (basic_of s.schedule)) Bs [] (s ∷ []) reads named (λ n. tt) (λ n. ((ends, code), tt))

  -- ---- the records of a kind

  tiplocs : (ts : List Tiploc) → IsBlock (map line_of_tiploc ts) (map of.Tiploc ts) [] []
  tiplocs [] = nothing
  tiplocs (t ∷ ts) = both (other_one (of.Tiploc t) tt (locations.fits t)) (tiplocs ts)

  associations : (al : List PublishedAssociation) → All AssociationFits (map association_of al)
      → IsBlock (map published_association_line al) (map of.Association (map association_of al)) al []
  associations [] fits = nothing
  associations (a ∷ al) fits =
      both (association_one a (All-head AssociationFits a.association (map association_of al) fits))
      (associations al (All-tail AssociationFits a.association (map association_of al) fits))

  others : (rs : List Record) → Each IsOther rs → Each RecordFits rs → IsBlock (record_lines rs) rs [] []
  others [] are fits = nothing
  others (r ∷ rs) are fits = both (other_one r are.0 fits.0) (others rs are.1 fits.1)

  body : (b : Option BodyLines) → IfSome b IsBody → IsBlock (further_lines b) (records_of_body b) [] []
  body b is =
      subst (λ ls. IsBlock ls (records_of_body b) [] []) (sym (further-lines b is))
      (others (records_of_body b) (body_other b) (further-fit b is))

  schedule : (s : PublishedSchedule) → ScheduleFits s.schedule → ((k : HolidayCode) → s.code ≡ Some k → IsTrue (has_code allowed k))
      → IsBlock (published_schedule_lines s) (records_of s.schedule) [] (s ∷ [])
  schedule s fits may = both (basic_one s fits.basic may) (body s.schedule.body fits.body)

  schedules : (ss : List PublishedSchedule) → All ScheduleFits (map schedule_of ss) → CodesMayStand allowed ss
      → IsBlock (flat_map published_schedule_lines ss) (flat_map records_of (map schedule_of ss)) [] ss
  schedules [] fits may = nothing
  schedules (s ∷ ss) fits may =
      let more = map schedule_of ss in
      let May : PublishedSchedule → Type 0 = λ s. (k : HolidayCode) → s.code ≡ Some k → IsTrue (has_code allowed k) in
      both (schedule s (All-head ScheduleFits s.schedule more fits) (All-head May s ss may))
      (schedules ss (All-tail ScheduleFits s.schedule more fits) (All-tail May s ss may))

  -- ---- an extract

  module _ (p : PublishedParts) (fits : FitsColumns (of_profile p)) (may : CodesMayStand allowed p.schedules) where
    whole : IsBlock (published_lines p) (plain_records (of_profile p)) p.associations p.schedules
    whole =
        let x = of_profile p in
        let groups = flat_map records_of x.schedules in
        let made = both (other_one (of.Header p.header) tt (headers.fits p.header)) (both (tiplocs p.tiplocs)
        (both (associations p.associations fits.associations)
        (both (schedules p.schedules fits.schedules may) (other_one of.Trailer tt trailers.fits)))) in
        subst (λ al. IsBlock (published_lines p) (plain_records x) al p.schedules) (append-nil p.associations)
        (subst (λ ss. IsBlock (published_lines p) (plain_records x) (p.associations ++ []) ss) (append-nil p.schedules)
        (subst (λ rs. IsBlock (published_lines p) rs (p.associations ++ []) (p.schedules ++ [])) (sym (laid_out x groups)) made))

    says : SayPublished (parts_read allowed (published_lines p) (of_profile p)) p
    says =
        let cs = published_lines p in
        record {
          header = refl;
          tiplocs = refl;
          associations = triples-by HasEnd association_mark association_of IsPublishedAssociation
              (λ line a ends. record { of_profile = refl; open_end = sym ends }) (lines_of is_association cs) p.associations
              (whole.associations 1);
          schedules = triples-by HasEndAndCode (schedule_mark allowed) schedule_of IsPublishedSchedule
              (λ line s is. record { of_profile = refl; open_end = sym is.0; code = sym is.1 }) (lines_of is_basic cs) p.schedules
              (whole.schedules 1);
        }

    pub published-lines : contents_of (published_text p) ≡ published_lines p
    published-lines =
        contents-lines_text (published_lines p) (read_are allowed (published_lines p) (plain_records (of_profile p)) whole.reads)

    pub published-spells : (max : ℕ) → length (published_lines p) ≤ max → BytesSpellPublished allowed max (published_text p) p
    published-spells max within = record {
      spell = subst (λ ls. SpellPublished allowed ls p) (sym published-lines) (record {
        lines = parts_read allowed (published_lines p) (of_profile p);
        spelled = spell_read allowed (published_lines p) (plain_records (of_profile p)) (of_profile p) whole.reads
            (are-extract (of_profile p) fits);
        says = says;
      });
      within = subst (λ (ls : List (List ℕ)). length ls ≤ max) (sym published-lines) within;
    }

-- each holiday code is one of all
pub may_any : (ss : List PublishedSchedule) → CodesMayStand all_codes ss
may_any ss = λ k d below code is. any code
  where
    any : (code : HolidayCode) → IsTrue (has_code all_codes code)
    any X = refl
    any E = refl
    any G = refl

-- ---- what contents spell fits

said_all : {X M Z : Type 0} (P : X → M → Z → Type 0) (f : Z → X) → ((x : X) (m : M) (z : Z) → P x m z → f z ≡ x) → (xs : List X)
    (ms : List M) (zs : List Z) → AreTriples P xs ms zs → map f zs ≡ xs
said_all P f one [] [] [] t = refl
said_all P f one (x ∷ xs) (m ∷ ms) (z ∷ zs) t = ap (λ y. y ∷ map f zs) (one x m z t.0) ∙ ap (λ ys. x ∷ ys) (said_all P f one xs ms zs t.1)
said_all P f one _ _ _ t = absurd t

-- a published extract says the records of its lines
said_profile : (lines : FeedParts) (p : PublishedParts) → SayPublished lines p → of_profile p ≡ lines.extract
said_profile lines p s =
    let x = lines.extract in
    same_extract_parts (of_profile p) x s.header s.tiplocs
    (said_all IsPublishedAssociation association_of (λ a m p is. is.of_profile) x.associations lines.marks.associations p.associations
    s.associations)
    (said_all IsPublishedSchedule schedule_of (λ a m p is. is.of_profile) x.schedules lines.marks.schedules p.schedules s.schedules)

pub said_fits : (allowed : HolidayCodes) (cs : List (List ℕ)) (p : PublishedParts) → SpellPublished allowed cs p
    → FitsColumns (of_profile p)
said_fits allowed cs p s = subst FitsColumns (sym (said_profile s.lines p s.says)) (feed_fits Full allowed cs s.lines s.spelled)
