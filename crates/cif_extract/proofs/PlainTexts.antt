-- What an extract that is spelled says fits its columns, and the text of an extract that fits them spells it.
use Rattle.cif_extract.proofs.Names.{All, All-cons, All-head, All-nil, All-tail, AllFit, AreExtract, AreSchedule, AreSchedules, BodyLines}
use Rattle.cif_extract.proofs.Names.{BodyParts, Bool, BytesSpell, Detail, Extra, ExtractParts, FitsColumns, HaveBody, IfSome, IsBody}
use Rattle.cif_extract.proofs.Names.{IsLine, KeepAll, KeepBody, Layouts, List, None, Option, Record, Schedule, ScheduleFits, Some, SpellAll}
use Rattle.cif_extract.proofs.Names.{SpellAllBy, SpellExtract, SpellExtractBy, Stp, [], ap, ap₂, basic_back, basic_rows, body_of}
use Rattle.cif_extract.proofs.Names.{body_records, body_tables, contents_of, detail_of, detail_rows, detail_table, extra_records}
use Rattle.cif_extract.proofs.Names.{extract_lines, extract_text, fits-append, fits-front, flat_map, further_lines, line-plain_line, map}
use Rattle.cif_extract.proofs.Names.{map-append, option_map, own_layouts, parts_in, plain_line, plain_lines_of, record_table, refl, row}
use Rattle.cif_extract.proofs.Names.{spare, stands-plain_line, subst, sym, ℕ, ◌++◌, ◌∙◌, ◌∷◌, ◌≡◌}
use Rattle.cif_columns.proofs.PlainLines.{contents-lines_text}
use Rattle.cif_records.proofs.Details as details
use Rattle.cif_records.proofs.Records as records
use Rattle.cif_records.proofs.Trailers as trailers
use Rattle.cif_records.specs.declared.record.Record.TheVariants as of
use Rattle.cif_extract.proofs.Bodies.{body_of-parts_in, keeps_parts_in, parts_in-keeps}
use Rattle.cif_extract.proofs.Each.{Each, each_append, each_back, each_front}
use Rattle.cif_extract.proofs.{LayoutLaws.AreLayouts, LayoutLaws.own_are, OneExtract.laid_out}
use Rattle.cif_extract.proofs.PlainRecords.{are-extract, basic_of, plain_records, records_of, records_of_body}

-- what a record says fits its columns
abbrev pub RecordFits : Record → Type 0
RecordFits r = AllFit (record_table r)

-- the plain lines of records
abbrev pub lines_of : List Record → List (List ℕ)
lines_of rs = map plain_line (map record_table rs)

-- records made of values
module _ {X : Type 0} (f : X → Record) where
  abbrev It : X → Type 0
  It x = RecordFits (f x)

  all-fit : (xs : List X) → Each RecordFits (map f xs) → All It xs
  all-fit [] fits = All-nil It
  all-fit (x ∷ xs) fits = All-cons It x xs fits.0 (all-fit xs fits.1)

  each-fits : (xs : List X) → All It xs → Each RecordFits (map f xs)
  each-fits [] fits = tt
  each-fits (x ∷ xs) fits = (All-head It x xs fits, each-fits xs (All-tail It x xs fits))

-- ---- plain lines spell the records that fit them

pub plain-lines : (rs : List Record) → Each RecordFits rs → All IsLine (lines_of rs)
plain-lines [] fits = All-nil IsLine
plain-lines (r ∷ rs) fits = All-cons IsLine (plain_line (record_table r)) (lines_of rs) (records.line r fits.0) (plain-lines rs fits.1)

plain-spell : (rs : List Record) → Each RecordFits rs → SpellAll (lines_of rs) rs
plain-spell [] fits = tt
plain-spell (r ∷ rs) fits = (records.spells r fits.0, plain-spell rs fits.1)

keep-lines : (rs : List Record) → Each RecordFits rs → KeepAll (lines_of rs) (map record_table rs)
keep-lines [] fits = tt
keep-lines (r ∷ rs) fits = (records.spells r fits.0, refl, keep-lines rs fits.1)

-- records that lines keep fit
kept-fit : (lines : List (List ℕ)) (rs : List Record) → All IsLine lines → KeepAll lines (map record_table rs) → Each RecordFits rs
kept-fit [] [] are k = tt
kept-fit [] (r ∷ rs) are k = absurd k
kept-fit (line ∷ lines) [] are k = absurd k
kept-fit (line ∷ lines) (r ∷ rs) are k = (
  records.fit line (All-head IsLine line lines are) r k.0,
  kept-fit lines rs (All-tail IsLine line lines are) k.2,
)

-- ---- what is spelled fits

-- the body of parts that fit
module _ (p : BodyParts) (detail : AllFit (detail_rows (Some p.detail))) (fits : Each RecordFits (body_records p)) where
  alone : AllFit (detail_table p.detail)
  alone = (tt, fits-append (detail_rows (Some p.detail)) (row 79 80 spare ∷ []) detail (tt, tt))

  keep-body : KeepBody (body_of p) p
  keep-body = (stands-plain_line (detail_table p.detail) refl alone, refl, keep-lines (body_records p) fits)

  fit-body : IsBody (body_of p)
  fit-body = record {
    are_lines = All-cons IsLine (plain_line (detail_table p.detail)) (lines_of (body_records p))
        (line-plain_line (detail_table p.detail) refl alone) (plain-lines (body_records p) fits);
    keep = (p, keep-body);
  }

-- the body of a schedule whose records fit
have-fit : (d : Option Detail) (extra : Option Extra) (journey : List Record) (body : Option BodyLines) → HaveBody d extra journey body →
    AllFit (detail_rows d) → Each RecordFits (extra_records extra ++ journey) → (d ≡ option_map detail_of body) × IfSome body IsBody
have-fit (Some d) extra journey (Some b) (j, is) detail fits =
    let p : BodyParts = record { detail = d; extra = extra; origin = j.origin; calls = j.calls; terminus = j.terminus } in
    let own = subst (λ rs. Each RecordFits (extra_records extra ++ rs)) j.are fits in
    let whole : b ≡ body_of p = is ∙ ap (λ rs. map plain_line (body_tables d (extra_records extra ++ rs))) j.are in (
      ap (λ (q : BodyParts). Some q.detail)
          (sym (parts_in-keeps b p (subst (λ lines. KeepBody lines p) (sym whole) (keep-body p detail own)))),
      subst IsBody (sym whole) (fit-body p detail own),
    )
have-fit None extra journey None h detail fits = (refl, tt)
have-fit (Some d) extra journey None h detail fits = absurd h
have-fit None extra journey (Some b) h detail fits = absurd h

same-basic : (u v : List ℕ) (f g l m : ℕ) (d e : List Bool) (s t : Stp) (b c : Option Detail) → u ≡ v → f ≡ g → l ≡ m → d ≡ e → s ≡ t →
    b ≡ c
    → basic_rows u f l d s b ≡ basic_rows v g m e t c
same-basic u v f g l m d e s t b c hu hf hl hd hs hb =
    ap (λ x. basic_rows x f l d s b) hu ∙ ap (λ x. basic_rows v x l d s b) hf ∙ ap (λ x. basic_rows v g x d s b) hl
    ∙ ap (λ x. basic_rows v g m x s b) hd ∙ ap (λ x. basic_rows v g m e x b) hs ∙ ap (λ x. basic_rows v g m e t x) hb

fit-schedule : (own : List Record) (s : Schedule) → AreSchedule own s → Each RecordFits own → ScheduleFits s
fit-schedule own s a fits =
    let parts = subst (Each RecordFits) a.parts fits in
    let detail = fits-front (detail_rows a.basic.detail) (basic_back a.basic.letter) parts.0.1.1.1.1.1.1.1 in
    let body = have-fit a.basic.detail a.extra a.journey s.body a.body detail parts.1 in
    record {
      basic = subst AllFit (same-basic _ _ _ _ _ _ _ _ _ _ _ _ a.terms.uid a.terms.first a.terms.last a.terms.days a.terms.letter body.0)
          parts.0;
      body = body.1;
    }

fit-schedules : (rs : List Record) (schedules : List Schedule) → AreSchedules rs schedules → Each RecordFits rs → All ScheduleFits schedules
fit-schedules rs [] are fits = All-nil ScheduleFits
fit-schedules rs (s ∷ schedules) are fits =
    let (own, others, parts, first, rest) = are in
    let both = subst (Each RecordFits) parts fits in
    All-cons ScheduleFits s schedules (fit-schedule own s first (each_front RecordFits own others both))
    (fit-schedules others schedules rest (each_back RecordFits own others both))

fit-extract : (rs : List Record) (x : ExtractParts) → AreExtract rs x → Each RecordFits rs → FitsColumns x
fit-extract rs x are fits =
    let all = subst (Each RecordFits) (are.parts ∙ laid_out x are.schedules) fits in
    let behind = each_back RecordFits (map of.Tiploc x.tiplocs) _ all.1 in
    record {
      header = all.0;
      tiplocs = all-fit of.Tiploc x.tiplocs (each_front RecordFits (map of.Tiploc x.tiplocs) _ all.1);
      associations = all-fit of.Association x.associations (each_front RecordFits (map of.Association x.associations) _ behind);
      schedules = fit-schedules are.schedules x.schedules are.are_schedules (each_front RecordFits are.schedules _
          (each_back RecordFits (map of.Association x.associations) _ behind));
    }

module _ (layouts : Layouts) (laws : AreLayouts layouts) where
  -- what lines say of records fits
  fit-spelled : (lines : List (List ℕ)) (rs : List Record) → All IsLine lines → SpellAllBy layouts.spells lines rs → Each RecordFits rs
  fit-spelled [] [] are_lines spell = tt
  fit-spelled [] (r ∷ rs) are_lines spell = absurd spell
  fit-spelled (line ∷ lines) [] are_lines spell = absurd spell
  fit-spelled (line ∷ lines) (r ∷ rs) are_lines spell = (
    laws.fits line (All-head IsLine line lines are_lines) r spell.0,
    fit-spelled lines rs (All-tail IsLine line lines are_lines) spell.1,
  )

  -- what lines spell fits its columns
  pub spelled-fits-by : (lines : List (List ℕ)) (x : ExtractParts) → All IsLine lines → SpellExtractBy layouts.spells lines x →
      FitsColumns x
  spelled-fits-by lines x are_lines s = fit-extract s.records x s.are (fit-spelled lines s.records are_lines s.spelled)

pub spelled-fits : (lines : List (List ℕ)) (x : ExtractParts) → All IsLine lines → SpellExtract lines x → FitsColumns x
spelled-fits = spelled-fits-by own_layouts own_are

-- ---- what fits is spelled by its text

-- the records of a body, and their plain lines
body-fits : (lines : BodyLines) → All IsLine lines → KeepBody lines (parts_in lines) →
    AllFit (detail_rows (Some (detail_of lines))) × Each RecordFits (body_records (parts_in lines))
body-fits lines are k = at lines (parts_in lines) are k
  where
    at : (lines : List (List ℕ)) (p : BodyParts) → All IsLine lines → KeepBody lines p →
        AllFit (detail_rows (Some p.detail)) × Each RecordFits (body_records p)
    at [] p are k = absurd k
    at (line ∷ lines) p are k = (
      details.detail_fits line p.detail (All-head IsLine line lines are) k.0,
      kept-fit lines (body_records p) (All-tail IsLine line lines are) k.2,
    )

pub detail-fits : (body : BodyLines) → IsBody body → AllFit (detail_rows (Some (detail_of body)))
detail-fits body is = (body-fits body is.are_lines (keeps_parts_in body is.keep)).0

pub further-fit : (body : Option BodyLines) → IfSome body IsBody → Each RecordFits (records_of_body body)
further-fit None is = tt
further-fit (Some body) is = (body-fits body is.are_lines (keeps_parts_in body is.keep)).1

pub further-lines : (body : Option BodyLines) → IfSome body IsBody → further_lines body ≡ lines_of (records_of_body body)
further-lines None is = refl
further-lines (Some body) is = ap (λ lines. further_lines (Some lines)) (body_of-parts_in body is.keep)

schedules-fit : (ss : List Schedule) → All ScheduleFits ss → Each RecordFits (flat_map records_of ss)
schedules-fit [] fits = tt
schedules-fit (s ∷ ss) fits =
    let own = All-head ScheduleFits s ss fits in
    each_append RecordFits (records_of s) (flat_map records_of ss) (own.basic, further-fit s.body own.body)
    (schedules-fit ss (All-tail ScheduleFits s ss fits))

lines-append : (a b : List Record) → lines_of (a ++ b) ≡ lines_of a ++ lines_of b
lines-append a b = ap (map plain_line) (map-append record_table a b) ∙ map-append plain_line (map record_table a) (map record_table b)

lines-map : {X : Type 0} (f : X → Record) (xs : List X) → lines_of (map f xs) ≡ map (λ x. plain_line (record_table (f x))) xs
lines-map f [] = refl
lines-map f (x ∷ xs) = ap (λ ls. plain_line (record_table (f x)) ∷ ls) (lines-map f xs)

schedules-lines : (ss : List Schedule) → All ScheduleFits ss → lines_of (flat_map records_of ss) ≡ flat_map plain_lines_of ss
schedules-lines [] fits = refl
schedules-lines (s ∷ ss) fits =
    lines-append (records_of s) (flat_map records_of ss)
    ∙ ap₂ (λ (own others : List (List ℕ)). (plain_line (record_table (of.Basic (basic_of s))) ∷ own) ++ others)
    (sym (further-lines s.body (All-head ScheduleFits s ss fits).body)) (schedules-lines ss (All-tail ScheduleFits s ss fits))

module _ (x : ExtractParts) (fits : FitsColumns x) where
  fit-plain : Each RecordFits (plain_records x)
  fit-plain =
      subst (Each RecordFits) (sym (laid_out x (flat_map records_of x.schedules))) (
        fits.header,
        each_append RecordFits (map of.Tiploc x.tiplocs) _ (each-fits of.Tiploc x.tiplocs fits.tiplocs)
            (each_append RecordFits (map of.Association x.associations) _ (each-fits of.Association x.associations fits.associations)
            (each_append RecordFits (flat_map records_of x.schedules) (of.Trailer ∷ []) (schedules-fit x.schedules fits.schedules)
            (trailers.fits, tt))),
      )

  lines-are : lines_of (plain_records x) ≡ extract_lines x
  lines-are =
      ap lines_of (laid_out x (flat_map records_of x.schedules))
      ∙ ap (λ ls. plain_line (record_table (of.Header x.header)) ∷ ls)
      (lines-append (map of.Tiploc x.tiplocs) _
      ∙ ap₂ (λ (a b : List (List ℕ)). a ++ b) (lines-map of.Tiploc x.tiplocs)
      (lines-append (map of.Association x.associations) _
      ∙ ap₂ (λ (a b : List (List ℕ)). a ++ b) (lines-map of.Association x.associations)
      (lines-append (flat_map records_of x.schedules) (of.Trailer ∷ [])
      ∙ ap (λ (a : List (List ℕ)). a ++ (plain_line (record_table of.Trailer) ∷ [])) (schedules-lines x.schedules fits.schedules))))

  are_lines : All IsLine (extract_lines x)
  are_lines = subst (All IsLine) lines-are (plain-lines (plain_records x) fit-plain)

  spelled : SpellExtract (extract_lines x) x
  spelled = record {
    records = plain_records x;
    spelled = subst (λ ls. SpellAll ls (plain_records x)) lines-are (plain-spell (plain_records x) fit-plain);
    are = are-extract x fits;
  }

  -- the contents of its text are its lines
  pub text-lines : contents_of (extract_text x) ≡ extract_lines x
  text-lines = contents-lines_text (extract_lines x) are_lines

  -- and its text spells it
  pub text-spells : BytesSpell (extract_text x) x
  text-spells = record {
    are_lines = subst (All IsLine) (sym text-lines) are_lines;
    spelled = subst (λ ls. SpellExtract ls x) (sym text-lines) spelled;
  }
