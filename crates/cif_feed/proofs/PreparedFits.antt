-- What a prepared extract says fits the columns of lines, where the published one does.
use Rattle.cif_feed.proofs.Names.{All, All-append, All-head, All-map, All-nil, All-tail, All-weaker, AllFit, ArePrepared, AssocBody}
use Rattle.cif_feed.proofs.Names.{AssocKey, BodyLines, Bool, ExtractParts, FitsColumns, HolidayCode, Holidays, IfSome, IsBody, IsDay}
use Rattle.cif_feed.proofs.Names.{IsPart, IsPrepared, IsStop, List, Option, Part, PublishedAssociation, PublishedParts, PublishedSchedule}
use Rattle.cif_feed.proofs.Names.{PublishedTerms, ScheduleFits, Terms, [], arith, association_entries, association_entry, association_rows}
use Rattle.cif_feed.proofs.Names.{basic_rows, cond_both, detail_of, ended, extract_fits, last_is_day, map, max, of_profile, option_map}
use Rattle.cif_feed.proofs.Names.{part_terms, prepared_last, published_association_terms, published_associations, published_schedule_terms}
use Rattle.cif_feed.proofs.Names.{published_schedules, refl, schedule_entries, schedule_entry, subst, sym, ℕ, ◌+◌, ◌∷◌}
use Rattle.cif_feed.proofs.{FittingUpdates.AssociationFits, ListSteps.All-from_map}

-- ---- records on the dates of their parts

module _ {K B : Type 0} (P : K × Terms B → Type 0) (Stops : K → Option HolidayCode → ℕ → Type 0) (window_last : ℕ) where
  -- a record of which P holds may have any days in place of its dates, and its own dates are days
  record TakesDays : Type 0 where
    first : (k : K) (r : Terms B) → P (k, r) → IsDay r.first
    last : (k : K) (r : Terms B) → P (k, r) → IsDay r.last
    on : (k : K) (r : Terms B) (p : Part) → IsDay p.first → IsDay p.last → P (k, r) → P (k, part_terms r p)

  module _ (takes : TakesDays) (day : IsDay window_last) where
    last_day : (k : K) (r : PublishedTerms B) → P (k, r.terms) → IsDay (prepared_last window_last r)
    last_day k r p =
        let first = takes.first k r.terms p in
        cond_both r.open_end (max r.terms.first window_last) r.terms.last IsDay (λ is. omega arith) (λ is. takes.last k r.terms p)

    parts_such : (k : K) (r : PublishedTerms B) (ps : List Part)
        → All (IsPart (Stops k r.code) (ended (prepared_last window_last r) r.terms)) ps
        → P (k, r.terms) → All P (map (λ p. (k, part_terms r.terms p)) ps)
    parts_such k r ps are p =
        All-map P (λ q. (k, part_terms r.terms q)) ps
        (All-weaker (IsPart (Stops k r.code) (ended (prepared_last window_last r) r.terms)) (λ q. P (k, part_terms r.terms q)) (λ q is.
        let upto = is.upto in
        let order = is.in_order in
        let end = last_day k r p in
        takes.on k r.terms q (omega arith) (omega arith) p) ps are)

    -- an entry of a record of which P holds
    abbrev IsSuch : K × PublishedTerms B → Type 0
    IsSuch e = P (e.0, e.1.terms)

    prepared_such : (entries : List (K × PublishedTerms B)) (prepared : List (K × Terms B)) → ArePrepared Stops window_last entries prepared
        → All IsSuch entries → All P prepared
    prepared_such [] prepared are such = subst (All P) (sym are) (All-nil P)
    prepared_such (e ∷ entries) prepared are such =
        let (parts, others, own, joined, rest) = are in
        subst (All P) (sym joined)
        (All-append P (map (λ p. (e.0, part_terms e.1.terms p)) parts) others
        (parts_such e.0 e.1 parts own.are (All-head IsSuch e entries such))
        (prepared_such entries others rest (All-tail IsSuch e entries such)))

abbrev AssociationEntryFits : AssocKey × Terms AssocBody → Type 0
AssociationEntryFits e = AllFit (association_rows e.0 e.1.first e.1.last e.1.days e.1.letter e.1.body)

abbrev ScheduleEntryFits : List ℕ × Terms BodyLines → Type 0
ScheduleEntryFits e =
    AllFit (basic_rows e.0 e.1.first e.1.last e.1.days e.1.letter (option_map detail_of e.1.body)) × IfSome e.1.body IsBody

module _ (window_last : ℕ) where
  association_days : (Stops : AssocKey → Option HolidayCode → ℕ → Type 0) → TakesDays AssociationEntryFits Stops window_last
  association_days Stops = record {
    first = λ k r f. f.1.1.1.1.0.1;
    last = λ k r f. f.1.1.1.1.1.0.1;
    on = λ k r p first last f. (f.0, (f.1.0, (f.1.1.0, (f.1.1.1.0, ((refl, first), ((refl, last), f.1.1.1.1.1.1))))));
  }

  schedule_days : (Stops : List ℕ → Option HolidayCode → ℕ → Type 0) → TakesDays ScheduleEntryFits Stops window_last
  schedule_days Stops = record {
    first = λ k r f. f.0.1.1.1.0.1;
    last = λ k r f. f.0.1.1.1.1.0.1;
    on = λ k r p first last f. ((f.0.0, (f.0.1.0, (f.0.1.1.0, ((refl, first), ((refl, last), f.0.1.1.1.1.1))))), f.1);
  }

-- ---- an extract

pub prepared_fits : (h : Holidays) (drops : Bool) (p : PublishedParts) (x : ExtractParts) → FitsColumns (of_profile p)
    → IsPrepared h drops p x → FitsColumns x
prepared_fits h drops p x fits is =
    let last = p.header.last in
    let day = last_is_day p.header in
    let OfAssociations = IsStop drops h (published_associations p.associations) p.header.first (last + 1) in
    let OfSchedules = IsStop drops h (published_schedules p.schedules) p.header.first (last + 1) in
    extract_fits x
    (All-from_map association_entry AssociationEntryFits x.associations
    (prepared_such AssociationEntryFits OfAssociations last (association_days last OfAssociations) day
    (published_associations p.associations) (association_entries x.associations) is.associations
    (All-map (λ (e : AssocKey × PublishedTerms AssocBody). AssociationEntryFits (e.0, e.1.terms))
    (λ (a : PublishedAssociation). (a.association.key, published_association_terms a)) p.associations
    (All-from_map (λ (a : PublishedAssociation). a.association) AssociationFits p.associations fits.associations))))
    (All-weaker (λ s. ScheduleEntryFits (schedule_entry s)) ScheduleFits (λ s f. record { basic = f.0; body = f.1 }) x.schedules
    (All-from_map schedule_entry ScheduleEntryFits x.schedules
    (prepared_such ScheduleEntryFits OfSchedules last (schedule_days last OfSchedules) day
    (published_schedules p.schedules) (schedule_entries x.schedules) is.schedules
    (All-map (λ (e : List ℕ × PublishedTerms BodyLines). ScheduleEntryFits (e.0, e.1.terms))
    (λ (s : PublishedSchedule). (s.schedule.uid, published_schedule_terms s)) p.schedules
    (All-from_map (λ (s : PublishedSchedule). s.schedule) (λ s. ScheduleEntryFits (schedule_entry s)) p.schedules
    (All-weaker ScheduleFits (λ s. ScheduleEntryFits (schedule_entry s)) (λ s f. (f.basic, f.body)) (of_profile p).schedules
    fits.schedules))))))
