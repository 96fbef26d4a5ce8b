-- What a canonical extract says fits the columns of lines, where what it is made of does.
use Rattle.cif_canon.proofs.Names.{All, All-cons, All-contains, All-head, All-nil, All-tail, AllFit, AllZip, AreCanonical}
use Rattle.cif_canon.proofs.Names.{AreCanonicalRecords, AreDistinct, AssocBody, AssocKey, BodyLines, Bool, Contains-get_or, Detail}
use Rattle.cif_canon.proofs.Names.{ExtractParts, FitsColumns, Form, IfSome, IsAligned, IsBody, IsDay, IsRunOf, IsWithin, List}
use Rattle.cif_canon.proofs.Names.{Ordering, P, Permanent, Run, Schedule, ScheduleFits, Some, Stp, Terms, Tiploc, Window, [], ap}
use Rattle.cif_canon.proofs.Names.{arith, association_entries, association_entry, association_rows, association_table, basic_rows}
use Rattle.cif_canon.proofs.Names.{detail_of, get_or, header_window, key_cmp, length, map, nat_cmp, option_map, refl, schedule_entries}
use Rattle.cif_canon.proofs.Names.{schedule_entry, slice_cmp, slice_get, subst, suc, tight, tiploc_table, zero, ℕ, ◌∙◌, ◌∷◌, ◌≡◌}
use Rattle.cif_records.proofs.Headers as headers
use Rattle.cif_records.specs.declared.association.Association.{Association}
use Rattle.cif_canon.proofs.KeptExtract.{canonical_of, dated-associations, dated-schedules}
use Rattle.cif_canon.proofs.MadeExtract.{IsDated, association_of, associations_of, schedule_of, schedules_of}

-- ---- a permanent record with dates and a mask of its own

pub record AreTerms (first last : ℕ) (days : List Bool) : Type 0 where
  pub first_is : IsDay first
  pub last_is : IsDay last
  pub week : length days ≡ 7

pub permanent-association : (key : AssocKey) (first last : ℕ) (days : List Bool) (letter : Stp) (body : AssocBody)
    (f l : ℕ) (m : List Bool) → AllFit (association_rows key first last days letter (Some body)) →
    AreTerms f l m → AllFit (association_rows key f l m P (Some body))
permanent-association key first last days letter body f l m p t =
    (p.0, (p.1.0, (p.1.1.0, (p.1.1.1.0, ((refl, t.first_is), ((refl, t.last_is), ((refl, t.week), p.1.1.1.1.1.1.1)))))))

pub permanent-basic : (uid : List ℕ) (first last : ℕ) (days : List Bool) (letter : Stp) (detail : Detail) (f l : ℕ) (m : List Bool) →
    AllFit (basic_rows uid first last days letter (Some detail)) → AreTerms f l m → AllFit (basic_rows uid f l m P (Some detail))
permanent-basic uid first last days letter detail f l m p t =
    (p.0, (p.1.0, (p.1.1.0, ((refl, t.first_is), ((refl, t.last_is), ((refl, t.week), p.1.1.1.1.1.1))))))

-- what stands at a position fits
record Found {X Y : Type 0} (entry : X → Y) (Fits : X → Type 0) (y : Y) : Type 0 where
  it : X
  is : entry it ≡ y
  fits : Fits it

found-at : {X Y : Type 0} (entry : X → Y) (Fits : X → Type 0) (xs : List X) (i : ℕ) (y : Y) → All Fits xs →
    slice_get (map entry xs) i ≡ Some y → Found entry Fits y
found-at entry Fits [] i y fits at = absurd (cc)
found-at entry Fits (x ∷ xs) zero y fits at = record { it = x; is = cc; fits = All-head Fits x xs fits }
found-at entry Fits (x ∷ xs) (suc i) y fits at = found-at entry Fits xs i y (All-tail Fits x xs fits) at

-- ---- the dates and the mask of canonical records

within-one : {B : Type 0} (form : Form) (window : Window) (r : Permanent B) → IsAligned form window r →
    IsWithin window r.first × IsWithin window r.last × (length r.days ≡ 7)
within-one form window r a = let t = tight r window form a in (t.first_within, t.last_within, t.seven)

abbrev pub HasTerms : {K B : Type 0} → K × Permanent B → Type 0
HasTerms e = AreTerms e.1.first e.1.last e.1.days

pub have-terms : {K B : Type 0} (cmp : K → K → Ordering) (form : Form) (window : Window) (records : List (K × Permanent B)) →
    AreCanonical cmp form window records → IsDay window.last → All HasTerms records
have-terms cmp form window records c last k d below =
    let e = get_or records k d in
    let w = within-one form window e.1 ((c.have_form e.0).aligned e.1 (Contains-get_or records k d below)) in
    let from = w.0.upto in
    let upto = w.1.upto in
    record { first_is = omega (arith, from, last); last_is = omega (arith, upto, last); week = w.2 }

-- ---- what is made

abbrev AssociationFits : Association → Type 0
AssociationFits a = AllFit (association_table a)

associations-fit : (xs : List Association) (runs : List Run) (es : List (AssocKey × Permanent AssocBody)) (dated : All IsDated es) →
    All HasTerms es → AllZip (IsRunOf (association_entries xs)) runs es → All AssociationFits xs →
    All AssociationFits (associations_of es dated)
associations-fit xs runs [] dated terms zip fits = All-nil AssociationFits
associations-fit xs [] (e ∷ es) dated terms zip fits = absurd zip
associations-fit xs (run ∷ runs) ((k, r) ∷ es) dated terms zip fits =
    let f = found-at association_entry AssociationFits xs run.source (k, zip.0.terms) fits zip.0.at in
    let a = f.it in
    let key : a.key ≡ k = ap (λ (e : AssocKey × Terms AssocBody). e.0) f.is in
    let body : a.body ≡ Some r.body = ap (λ (e : AssocKey × Terms AssocBody). e.1.body) f.is ∙ zip.0.body in
    let own = subst (λ j. AllFit (association_rows j a.first a.last a.days a.letter (Some r.body))) key
    (subst (λ o. AllFit (association_rows a.key a.first a.last a.days a.letter o)) body f.fits) in
    All-cons AssociationFits (association_of (k, r) (All-head IsDated (k, r) es dated))
    (associations_of es (All-tail IsDated (k, r) es dated))
    (permanent-association k a.first a.last a.days a.letter r.body r.first r.last r.days own (All-head HasTerms (k, r) es terms))
    (associations-fit xs runs es (All-tail IsDated (k, r) es dated) (All-tail HasTerms (k, r) es terms) zip.1 fits)

schedules-fit : (xs : List Schedule) (runs : List Run) (es : List (List ℕ × Permanent BodyLines)) (dated : All IsDated es) →
    All HasTerms es → AllZip (IsRunOf (schedule_entries xs)) runs es → All ScheduleFits xs → All ScheduleFits (schedules_of es dated)
schedules-fit xs runs [] dated terms zip fits = All-nil ScheduleFits
schedules-fit xs [] (e ∷ es) dated terms zip fits = absurd zip
schedules-fit xs (run ∷ runs) ((uid, r) ∷ es) dated terms zip fits =
    let f = found-at schedule_entry ScheduleFits xs run.source (uid, zip.0.terms) fits zip.0.at in
    let s = f.it in
    let train : s.uid ≡ uid = ap (λ (e : List ℕ × Terms BodyLines). e.0) f.is in
    let body : s.body ≡ Some r.body = ap (λ (e : List ℕ × Terms BodyLines). e.1.body) f.is ∙ zip.0.body in
    let own = subst (λ u. AllFit (basic_rows u s.first s.last s.days s.letter (Some (detail_of r.body)))) train
    (subst (λ o. AllFit (basic_rows s.uid s.first s.last s.days s.letter (option_map detail_of o))) body f.fits.basic) in
    All-cons ScheduleFits (schedule_of (uid, r) (All-head IsDated (uid, r) es dated)) (schedules_of es (All-tail IsDated (uid, r) es dated))
    (record {
      basic = permanent-basic uid s.first s.last s.days s.letter (detail_of r.body) r.first r.last r.days own
          (All-head HasTerms (uid, r) es terms);
      body = subst (λ o. IfSome o IsBody) body f.fits.body;
    })
    (schedules-fit xs runs es (All-tail IsDated (uid, r) es dated) (All-tail HasTerms (uid, r) es terms) zip.1 fits)

module _ (form : Form) (x : ExtractParts) (tiplocs : List Tiploc) (distinct : AreDistinct x.tiplocs tiplocs) (associations : List Run)
    (a : AreCanonicalRecords key_cmp form (header_window x.header) (association_entries x.associations) associations) (schedules : List Run)
    (s : AreCanonicalRecords (slice_cmp nat_cmp) form (header_window x.header) (schedule_entries x.schedules) schedules)
    (fits : FitsColumns x) where
  pub made-fits : FitsColumns (canonical_of form x tiplocs distinct associations a schedules s)
  made-fits =
      let terms_a = have-terms key_cmp form (header_window x.header) a.records a.canonical (headers.last_is_day x.header) in
      let terms_s = have-terms (slice_cmp nat_cmp) form (header_window x.header) s.records s.canonical (headers.last_is_day x.header) in
      record {
        header = headers.fits x.header;
        tiplocs = λ k t below. All-contains (λ (u : Tiploc). AllFit (tiploc_table u)) x.tiplocs (get_or tiplocs k t) fits.tiplocs
            ((distinct.members (get_or tiplocs k t)).1 (Contains-get_or tiplocs k t below));
        associations = associations-fit x.associations associations a.records (dated-associations form x associations a) terms_a
            a.runs_of fits.associations;
        schedules = schedules-fit x.schedules schedules s.records (dated-schedules form x schedules s) terms_s s.runs_of fits.schedules;
      }
