-- The extract of what one side of differences says: its records fit their columns, as the side's own do.
use Rattle.std.proofs.Common.{All, Contains, IfSome, List, Ordering, Some, [], ap, flat_map, get_or, map, nat_cmp, option_map, refl, subst}
use Rattle.std.proofs.Common.{ℕ, ◌++◌, ◌∙◌, ◌∷◌, ◌≡◌}
use Rattle.std.proofs.lemmas.List.Elements.{All-cons, All-contains, All-head, All-nil, All-tail, Contains-get_or}
use Rattle.std.specs.Cmp.Lexicographic.{slice_cmp}
use Rattle.cif_calendar.specs.Entries.{association_entries, association_entry, schedule_entries, schedule_entry}
use Rattle.cif_calendar.specs.{Keys.of_key, Runs.BodyRuns, Terms.Terms}
use Rattle.cif_canon.proofs.MadeExtract.{IsDated, association_of, associations_of, schedule_of, schedules_of}
use Rattle.cif_canon.proofs.MadeFits.{HasTerms, have-terms, permanent-association, permanent-basic}
use Rattle.cif_canon.specs.{Asked.header_window, Differences.AreOnlyRecords}
use Rattle.cif_columns.specs.{Field.AllFit, Field.plain_line, declared.stp.Stp.TheVariants.P}
use Rattle.cif_extract.specs.Body.{BodyLines, IsBody, detail_of}
use Rattle.cif_extract.specs.{ExtractParts.ExtractParts, declared.extract.Schedule.Schedule}
use Rattle.cif_extract.specs.Texts.{FitsColumns, ScheduleFits, line_of_association, line_of_tiploc, plain_lines_of, schedule_lines}
use Rattle.cif_feed.proofs.ListSteps.{Contains-from_map}
use Rattle.cif_records.proofs.Headers as headers
use Rattle.cif_records.specs.{AssocKey.key_cmp, Association.association_rows, Association.association_table, Basic.basic_rows}
use Rattle.cif_records.specs.{Tiploc.tiploc_table, declared.association.AssocBody.AssocBody, declared.association.AssocKey.AssocKey}
use Rattle.cif_records.specs.{declared.association.Association.Association, declared.tiploc.Tiploc.Tiploc}
use Rattle.cif_weeks.proofs.{AlignedDays.tight, PermanentEntries.canonical-dated}
use Rattle.cif_weeks.specs.{Permanent.Permanent, declared.form.Form.TheVariants.Two}

-- the plain lines of a location, of a permanent association and of a permanent schedule
abbrev pub tiploc_lines : Tiploc → List (List ℕ)
tiploc_lines t = line_of_tiploc t ∷ []

abbrev pub association_lines : AssocKey × Permanent AssocBody → List (List ℕ)
association_lines e = plain_line (association_rows e.0 e.1.first e.1.last e.1.days P (Some e.1.body)) ∷ []

abbrev pub permanent_lines : List ℕ × Permanent BodyLines → List (List ℕ)
permanent_lines e = schedule_lines e.0 e.1.first e.1.last e.1.days P (Some e.1.body)

-- a record of a side has a body that runs by the side's own
module _ {K B : Type 0} (cmp : K → K → Ordering) (x y : ExtractParts) (xs ys : List (K × Terms B)) (records : List (K × Permanent B))
    (are : AreOnlyRecords cmp (header_window x.header) xs ys records) where
  pub dated : All IsDated records
  dated = canonical-dated cmp Two (header_window x.header) records are.canonical

  pub runs-there : (k : K) (r : Permanent B) → Contains records (k, r) → BodyRuns (of_key xs k) r.first r.body
  runs-there k r has =
      let t = tight r (header_window x.header) Two ((are.canonical.have_form k).aligned r has) in
      ((are.exact k r.first r.body t.first_within).0 (record { it = r; listed = has; applies = t.on_first; body = refl })).runs

-- ---- they fit

abbrev AssociationFits : Association → Type 0
AssociationFits a = AllFit (association_table a)

-- an association of these has the key and the body of the record, and so has a schedule
abbrev HasAssociation : List Association → AssocKey × Permanent AssocBody → Type 0
HasAssociation xs e = (a : Association) × Contains xs a × (a.key ≡ e.0) × (a.body ≡ Some e.1.body)

abbrev HasSchedule : List Schedule → List ℕ × Permanent BodyLines → Type 0
HasSchedule xs e = (s : Schedule) × Contains xs s × (s.uid ≡ e.0) × (s.body ≡ Some e.1.body)

association-there : (xs : List Association) (k : AssocKey) (d : ℕ) (b : AssocBody) → BodyRuns (of_key (association_entries xs) k) d b
    → (a : Association) × Contains xs a × (a.key ≡ k) × (a.body ≡ Some b)
association-there xs k d b runs =
    let (a, has, is) = Contains-from_map association_entry xs (k, runs.winner) runs.wins.listed in (
      a,
      has,
      ap (λ (e : AssocKey × Terms AssocBody). e.0) is,
      ap (λ (e : AssocKey × Terms AssocBody). e.1.body) is ∙ runs.body,
    )

schedule-there : (xs : List Schedule) (uid : List ℕ) (d : ℕ) (b : BodyLines) → BodyRuns (of_key (schedule_entries xs) uid) d b
    → (s : Schedule) × Contains xs s × (s.uid ≡ uid) × (s.body ≡ Some b)
schedule-there xs uid d b runs =
    let (s, has, is) = Contains-from_map schedule_entry xs (uid, runs.winner) runs.wins.listed in (
      s,
      has,
      ap (λ (e : List ℕ × Terms BodyLines). e.0) is,
      ap (λ (e : List ℕ × Terms BodyLines). e.1.body) is ∙ runs.body,
    )

associations-fit : (xs : List Association) (es : List (AssocKey × Permanent AssocBody)) (h : All IsDated es) → All HasTerms es
    → All (HasAssociation xs) es → All AssociationFits xs → All AssociationFits (associations_of es h)
associations-fit xs [] h terms there fits = All-nil AssociationFits
associations-fit xs ((k, r) ∷ es) h terms there fits =
    let (a, has, key, body) = All-head (HasAssociation xs) (k, r) es there in
    let own = subst (λ j. AllFit (association_rows j a.first a.last a.days a.letter (Some r.body))) key
    (subst (λ o. AllFit (association_rows a.key a.first a.last a.days a.letter o)) body (All-contains AssociationFits xs a fits has)) in
    All-cons AssociationFits (association_of (k, r) (All-head IsDated (k, r) es h))
    (associations_of es (All-tail IsDated (k, r) es h))
    (permanent-association k a.first a.last a.days a.letter r.body r.first r.last r.days own (All-head HasTerms (k, r) es terms))
    (associations-fit xs es (All-tail IsDated (k, r) es h) (All-tail HasTerms (k, r) es terms)
    (All-tail (HasAssociation xs) (k, r) es there) fits)

schedules-fit : (xs : List Schedule) (es : List (List ℕ × Permanent BodyLines)) (h : All IsDated es) → All HasTerms es
    → All (HasSchedule xs) es → All ScheduleFits xs → All ScheduleFits (schedules_of es h)
schedules-fit xs [] h terms there fits = All-nil ScheduleFits
schedules-fit xs ((uid, r) ∷ es) h terms there fits =
    let (s, has, train, body) = All-head (HasSchedule xs) (uid, r) es there in
    let fit = All-contains ScheduleFits xs s fits has in
    let own = subst (λ u. AllFit (basic_rows u s.first s.last s.days s.letter (Some (detail_of r.body)))) train
    (subst (λ o. AllFit (basic_rows s.uid s.first s.last s.days s.letter (option_map detail_of o))) body fit.basic) in
    All-cons ScheduleFits (schedule_of (uid, r) (All-head IsDated (uid, r) es h)) (schedules_of es (All-tail IsDated (uid, r) es h))
    (record {
      basic = permanent-basic uid s.first s.last s.days s.letter (detail_of r.body) r.first r.last r.days own
          (All-head HasTerms (uid, r) es terms);
      body = subst (λ o. IfSome o IsBody) body fit.body;
    })
    (schedules-fit xs es (All-tail IsDated (uid, r) es h) (All-tail HasTerms (uid, r) es terms)
    (All-tail (HasSchedule xs) (uid, r) es there) fits)

-- ---- the extract of one side: its header, and of the differences what it alone says

module _ (x own other : ExtractParts) (fits : FitsColumns own) (tiplocs : List Tiploc)
    (are_tiplocs : (t : Tiploc) → Contains tiplocs t → Contains own.tiplocs t) (associations : List (AssocKey × Permanent AssocBody))
    (are_associations : AreOnlyRecords key_cmp (header_window x.header) (association_entries own.associations)
    (association_entries other.associations) associations) (schedules : List (List ℕ × Permanent BodyLines))
    (are_schedules : AreOnlyRecords (slice_cmp nat_cmp) (header_window x.header) (schedule_entries own.schedules)
    (schedule_entries other.schedules) schedules) where
  pub associations-dated : All IsDated associations
  associations-dated =
      dated key_cmp x x (association_entries own.associations) (association_entries other.associations) associations are_associations

  pub schedules-dated : All IsDated schedules
  schedules-dated =
      dated (slice_cmp nat_cmp) x x (schedule_entries own.schedules) (schedule_entries other.schedules) schedules are_schedules

  abbrev pub side-extract : ExtractParts
  side-extract = record {
    header = x.header;
    tiplocs = tiplocs;
    associations = associations_of associations associations-dated;
    schedules = schedules_of schedules schedules-dated;
  }

  pub side-fits : FitsColumns side-extract
  side-fits = record {
    header = headers.fits x.header;
    tiplocs = λ k t below. All-contains (λ (u : Tiploc). AllFit (tiploc_table u)) own.tiplocs (get_or tiplocs k t) fits.tiplocs
        (are_tiplocs (get_or tiplocs k t) (Contains-get_or tiplocs k t below));
    associations = associations-fit own.associations associations associations-dated
        (have-terms key_cmp Two (header_window x.header) associations are_associations.canonical (headers.last_is_day x.header))
        (λ k e below.
        let one = get_or associations k e in
        association-there own.associations one.0 one.1.first one.1.body
        (runs-there key_cmp x x (association_entries own.associations) (association_entries other.associations) associations
        are_associations one.0 one.1 (Contains-get_or associations k e below))) fits.associations;
    schedules = schedules-fit own.schedules schedules schedules-dated
        (have-terms (slice_cmp nat_cmp) Two (header_window x.header) schedules are_schedules.canonical (headers.last_is_day x.header))
        (λ k e below.
        let one = get_or schedules k e in
        schedule-there own.schedules one.0 one.1.first one.1.body
        (runs-there (slice_cmp nat_cmp) x x (schedule_entries own.schedules) (schedule_entries other.schedules) schedules are_schedules
        one.0 one.1 (Contains-get_or schedules k e below))) fits.schedules;
  }

-- ---- their lines

pub lines-of_tiplocs : (ts : List Tiploc) → flat_map tiploc_lines ts ≡ map line_of_tiploc ts
lines-of_tiplocs [] = refl
lines-of_tiplocs (t ∷ ts) = ap (λ ls. line_of_tiploc t ∷ ls) (lines-of_tiplocs ts)

pub lines-of_associations : (es : List (AssocKey × Permanent AssocBody)) (h : All IsDated es)
    → flat_map association_lines es ≡ map line_of_association (associations_of es h)
lines-of_associations [] h = refl
lines-of_associations (e ∷ es) h =
    ap (λ ls. line_of_association (association_of e (All-head IsDated e es h)) ∷ ls) (lines-of_associations es (All-tail IsDated e es h))

pub lines-of_schedules : (es : List (List ℕ × Permanent BodyLines)) (h : All IsDated es)
    → flat_map permanent_lines es ≡ flat_map plain_lines_of (schedules_of es h)
unfolding schedule_lines
lines-of_schedules [] h = refl
lines-of_schedules (e ∷ es) h =
    ap (λ ls. plain_lines_of (schedule_of e (All-head IsDated e es h)) ++ ls) (lines-of_schedules es (All-tail IsDated e es h))
