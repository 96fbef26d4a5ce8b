-- One record more, where it may stand.
use Rattle.cif_extract.proofs.Names.{Aa, AreSchedule, AreSchedules, Association, Basic, Bs, Extra, HasOwn, HasRead, HasReadAt, Hd, Header}
use Rattle.cif_extract.proofs.Names.{IsCancelled, IsWithin, List, None, Option, Place, Progress, Record, Schedule, Some, Ti, Tiploc, Zz, []}
use Rattle.cif_extract.proofs.Names.{ap, append-nil, append_assoc, extra_records, inl, map, map-append, may_stand, parts_with_header}
use Rattle.cif_extract.proofs.Names.{records_before_trailer, refl, step, subst, sym, true, true≢false, ◌++◌, ◌∙◌, ◌∷◌, ◌≡◌}
use Rattle.cif_records.specs.declared.record.Record.TheVariants as of
use Rattle.cif_extract.proofs.GrammarLists.{behind_schedules, schedules_more}
use Rattle.cif_extract.specs.declared.place.Place.TheVariants as at

-- no schedule is being read
pub record AreClosed (records : List Record) (p : Progress) : Type 0 where
  pub header : Header
  pub is_header : p.header ≡ Some header
  pub groups : List Record
  pub parts : records ≡ records_before_trailer (parts_with_header p header p.schedules) groups
  pub are : AreSchedules groups p.schedules

module _ (records : List Record) (p : Progress) where
  -- where the records of the schedule that is being read are none
  with_none : (w : IsWithin records p) → w.own ≡ [] → w.earlier ≡ p.schedules → AreClosed records p
  with_none w none all = record {
    header = w.header;
    is_header = w.is_header;
    groups = w.groups;
    parts = w.parts ∙ ap (λ own. records_before_trailer (parts_with_header p w.header w.earlier) w.groups ++ own) none
        ∙ append-nil (records_before_trailer (parts_with_header p w.header w.earlier) w.groups);
    are = subst (AreSchedules w.groups) all w.are;
  }

  -- where these are a schedule, which is there already
  with_one : (w : IsWithin records p) → (s : Schedule) → p.schedules ≡ w.earlier ++ (s ∷ []) → AreSchedule w.own s → AreClosed records p
  with_one w s all is = record {
    header = w.header;
    is_header = w.is_header;
    groups = w.groups ++ w.own;
    parts = w.parts ∙ behind_schedules (parts_with_header p w.header w.earlier) w.groups w.own;
    are = subst (AreSchedules (w.groups ++ w.own)) (sym all) (schedules_more w.groups w.own w.earlier s w.are is);
  }

  -- a cancellation without a journey
  cancelled_alone : (earlier : List Schedule) (b : Basic) (c : IsCancelled p earlier b) (x : Option Extra) →
      AreSchedule (of.Basic b ∷ extra_records x) c.schedule
  cancelled_alone earlier b c x = record {
    basic = b;
    extra = x;
    journey = [];
    parts = ap (λ rs. of.Basic b ∷ rs) (sym (append-nil (extra_records x)));
    terms = c.terms;
    body = rw (c.has_none, c.body) (inl refl);
  }

  pub own_at : (place : Place) → place ≡ p.place → (w : IsWithin records p) → HasOwn place p w.earlier w.own
  own_at place e w = subst (λ here. HasOwn here p w.earlier w.own) (sym e) w.here

  pub closed_where : (place : Place) → place ≡ p.place → HasReadAt place records p → may_stand place Bs ≡ true → AreClosed records p
  closed_where at.Tiplocs e h may =
      let (none, earlier, schedules, associations) = own_at at.Tiplocs e h in with_none h none (earlier ∙ sym schedules)
  closed_where at.Associations e h may =
      let (none, earlier, schedules) = own_at at.Associations e h in with_none h none (earlier ∙ sym schedules)
  closed_where at.Cancelled e h may =
      let (b, own, c) = own_at at.Cancelled e h in
      with_one h c.schedule c.schedules (subst (λ rs. AreSchedule rs c.schedule) (sym own) (cancelled_alone h.earlier b c None))
  closed_where at.CancelledExtra e h may =
      let (b, x, own, c) = own_at at.CancelledExtra e h in
      with_one h c.schedule c.schedules (subst (λ rs. AreSchedule rs c.schedule) (sym own) (cancelled_alone h.earlier b c (Some x)))
  closed_where at.Schedules e h may = let (none, all) = own_at at.Schedules e h in with_none h none (sym all)
  closed_where _ e h may = absurd (true≢false (sym may))

  -- a trailer may stand where a schedule may
  pub trailer_where : (place : Place) → may_stand place Zz ≡ may_stand place Bs
  trailer_where at.Start = refl
  trailer_where _ = refl

  pub trailer_step : HasRead records p → may_stand p.place Zz ≡ true → HasRead (records ++ (of.Trailer ∷ [])) (step p of.Trailer)
  trailer_step h may =
      let c = closed_where p.place refl h (sym (trailer_where p.place) ∙ may) in
      record {
        header = c.header;
        is_header = c.is_header;
        are = record { schedules = c.groups; parts = ap (λ rs. rs ++ (of.Trailer ∷ [])) c.parts; are_schedules = c.are };
      }

  -- a header, where nothing stands before it
  pub header_where : (h : Header) (place : Place) → HasReadAt place records p → may_stand place Hd ≡ true →
      HasRead (records ++ (of.Header h ∷ [])) (step p (of.Header h))
  header_where header at.Start n may = record {
    header = header;
    is_header = refl;
    earlier = [];
    groups = [];
    own = [];
    parts = rw (n.none, n.tiplocs, n.associations) refl;
    are = refl;
    here = (refl, refl, n.schedules, n.associations);
  }
  header_where header _ h may = absurd (true≢false (sym may))

  -- no schedule yet, and these associations
  front_only : (w : IsWithin records p) → w.own ≡ [] → w.earlier ≡ [] →
      records ≡ of.Header w.header ∷ (map of.Tiploc p.tiplocs ++ map of.Association p.associations)
  front_only w none earlier =
      let groups : w.groups ≡ [] = subst (AreSchedules w.groups) earlier w.are in
      w.parts ∙ rw (none, groups)
      (append-nil (of.Header w.header ∷ (map of.Tiploc p.tiplocs ++ (map of.Association p.associations ++ [])))
      ∙ ap (λ rs. of.Header w.header ∷ (map of.Tiploc p.tiplocs ++ rs)) (append-nil (map of.Association p.associations)))

  tiploc_more : (t : Tiploc) (header : Header) →
      records ≡ of.Header header ∷ (map of.Tiploc p.tiplocs ++ map of.Association p.associations) → p.associations ≡ [] →
      records ++ (of.Tiploc t ∷ [])
      ≡ (of.Header header ∷ (map of.Tiploc (p.tiplocs ++ (t ∷ [])) ++ (map of.Association p.associations ++ []))) ++ []
  tiploc_more t header parts none =
      rw (parts, none, append-nil (map of.Tiploc p.tiplocs))
      (ap (λ rs. of.Header header ∷ rs)
      (sym (map-append of.Tiploc p.tiplocs (t ∷ [])) ∙ sym (append-nil (map of.Tiploc (p.tiplocs ++ (t ∷ []))))
      ∙ sym (append-nil (map of.Tiploc (p.tiplocs ++ (t ∷ [])) ++ []))))

  association_more : (a : Association) (header : Header) →
      records ≡ of.Header header ∷ (map of.Tiploc p.tiplocs ++ map of.Association p.associations) →
      records ++ (of.Association a ∷ [])
      ≡ (of.Header header ∷ (map of.Tiploc p.tiplocs ++ (map of.Association (p.associations ++ (a ∷ [])) ++ []))) ++ []
  association_more a header parts =
      rw parts
      (ap (λ rs. of.Header header ∷ rs)
      (append_assoc (map of.Tiploc p.tiplocs) (map of.Association p.associations) (of.Association a ∷ [])
      ∙ ap (λ rs. map of.Tiploc p.tiplocs ++ rs)
      (sym (map-append of.Association p.associations (a ∷ [])) ∙ sym (append-nil (map of.Association (p.associations ++ (a ∷ [])))))
      ∙ sym (append-nil (map of.Tiploc p.tiplocs ++ (map of.Association (p.associations ++ (a ∷ [])) ++ [])))))

  pub tiploc_where : (t : Tiploc) (place : Place) → place ≡ p.place → HasReadAt place records p → may_stand place Ti ≡ true →
      HasRead (records ++ (of.Tiploc t ∷ [])) (step p (of.Tiploc t))
  tiploc_where t at.Tiplocs e h may =
      let (none, earlier, schedules, associations) = own_at at.Tiplocs e h in
      record {
        header = h.header;
        is_header = h.is_header;
        earlier = [];
        groups = [];
        own = [];
        parts = tiploc_more t h.header (front_only h none earlier) associations;
        are = refl;
        here = (refl, refl, schedules, associations);
      }
  tiploc_where t _ e h may = absurd (true≢false (sym may))

  association_here : (a : Association) (w : IsWithin records p) → w.own ≡ [] → w.earlier ≡ [] → p.schedules ≡ [] →
      IsWithin (records ++ (of.Association a ∷ [])) (step p (of.Association a))
  association_here a w none earlier schedules = record {
    header = w.header;
    is_header = w.is_header;
    earlier = [];
    groups = [];
    own = [];
    parts = association_more a w.header (front_only w none earlier);
    are = refl;
    here = (refl, refl, schedules);
  }

  pub association_where : (a : Association) (place : Place) → place ≡ p.place → HasReadAt place records p → may_stand place Aa ≡ true →
      HasRead (records ++ (of.Association a ∷ [])) (step p (of.Association a))
  association_where a at.Tiplocs e h may =
      let (none, earlier, schedules, associations) = own_at at.Tiplocs e h in association_here a h none earlier schedules
  association_where a at.Associations e h may =
      let (none, earlier, schedules) = own_at at.Associations e h in association_here a h none earlier schedules
  association_where a _ e h may = absurd (true≢false (sym may))
