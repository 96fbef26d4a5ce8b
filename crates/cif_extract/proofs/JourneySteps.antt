-- The last record of a schedule, and with it any record more, where it may stand.
use Rattle.cif_extract.proofs.Names.{AreSchedule, AreSchedules, At, Basic, BasicTerms, Call, Cr, Extra, HasRead, HasReadAt, IsCancelled}
use Rattle.cif_extract.proofs.Names.{IsKeepable, IsOpened, IsWithin, KeepSomeBody, Li, List, Lt, None, Option, Origin, Place, Progress}
use Rattle.cif_extract.proofs.Names.{Record, Schedule, Some, Terminus, Turn, [], ap, append-nil, append_assoc, begun_journey, body_tables}
use Rattle.cif_extract.proofs.Names.{extra_records, has_body, inr, journey_records, may_stand, parts_with_header, plain_line, record_table}
use Rattle.cif_extract.proofs.Names.{records_before_trailer, refl, schedule_of, step, subst, sym, terms_of, true, true≢false, ⊎_elim, ◌++◌}
use Rattle.cif_extract.proofs.Names.{◌∙◌, ◌∷◌, ◌≡◌}
use Rattle.cif_records.proofs.Records.{kind_of as record_kind}
use Rattle.cif_records.specs.declared.record.Record.TheVariants as of
use Rattle.cif_extract.proofs.{GrammarLists.behind_schedules, GrammarLists.schedules_more, KeptLines.journey-whole, KeptLines.keep_body}
use Rattle.cif_extract.{proofs.Schedules.closed_some, proofs.WrittenLines.kept_plain, specs.Steps.Reading.kept}
use Rattle.cif_extract.proofs.ReadingSteps.{association_where, header_where, own_at, tiploc_where, trailer_step}
use Rattle.cif_extract.proofs.ScheduleSteps.{Again, basic_step, call_where, extra_where, origin_where}
use Rattle.cif_extract.specs.declared.place.Place.TheVariants as at

module _ (records : List Record) (p : Progress) (t : Terminus) where
  -- the schedules then, where they were these
  closes : (w : IsWithin records p) (s : Schedule) → (step p (of.Terminus t)).schedules ≡ w.earlier ++ (s ∷ []) →
      AreSchedule (w.own ++ (of.Terminus t ∷ [])) s → HasRead (records ++ (of.Terminus t ∷ [])) (step p (of.Terminus t))
  closes w s all is = record {
    header = w.header;
    is_header = w.is_header;
    earlier = (step p (of.Terminus t)).schedules;
    groups = w.groups ++ (w.own ++ (of.Terminus t ∷ []));
    own = [];
    parts = ap (λ rs. rs ++ (of.Terminus t ∷ [])) w.parts
        ∙ append_assoc (records_before_trailer (parts_with_header p w.header w.earlier) w.groups) w.own (of.Terminus t ∷ [])
        ∙ behind_schedules (parts_with_header p w.header w.earlier) w.groups (w.own ++ (of.Terminus t ∷ []))
        ∙ sym (append-nil (records_before_trailer (parts_with_header p w.header w.earlier) (w.groups ++ (w.own ++ (of.Terminus t ∷ [])))));
    are = subst (AreSchedules (w.groups ++ (w.own ++ (of.Terminus t ∷ [])))) (sym all)
        (schedules_more w.groups (w.own ++ (of.Terminus t ∷ [])) w.earlier s w.are is);
    here = (refl, refl);
  }

  module _ (w : IsWithin records p) (b : Basic) (x : Option Extra) (o : Origin) (calls : List Call)
      (own : w.own ≡ of.Basic b ∷ begun_journey x o calls) where
    whole_own : w.own ++ (of.Terminus t ∷ []) ≡ of.Basic b ∷ (extra_records x ++ journey_records o calls t)
    whole_own = ap (λ rs. rs ++ (of.Terminus t ∷ [])) own ∙ ap (λ rs. of.Basic b ∷ rs) (journey-whole x o calls t)

    -- a schedule with a body
    close_opened : Again (of.Terminus t) → IsOpened p w.earlier b (begun_journey x o calls) →
        HasRead (records ++ (of.Terminus t ∷ [])) (step p (of.Terminus t))
    close_opened again opened =
        let records = extra_records x ++ journey_records o calls t in
        let lines = p.lines ++ (plain_line (record_table (of.Terminus t)) ∷ []) in
        let keeps = keep_body p.lines opened.detail x o calls t opened.lines again in
        closes w (schedule_of (terms_of b) (Some lines) opened.runs)
        (rw opened.opened (closed_some p.schedules (terms_of b) lines opened.runs
        ∙ ap (λ (ss : List Schedule). ss ++ (schedule_of (terms_of b) (Some lines) opened.runs ∷ [])) opened.schedules))
        (record {
          basic = b;
          extra = x;
          journey = journey_records o calls t;
          parts = whole_own;
          terms = record { uid = refl; first = refl; last = refl; days = refl; letter = refl };
          body = rw opened.has (
            record { origin = o; calls = calls; terminus = t; are = refl },
            kept_plain lines (body_tables opened.detail records) keeps,
          );
        })

    -- a cancellation
    close_cancelled : IsCancelled p w.earlier b → HasRead (records ++ (of.Terminus t ∷ [])) (step p (of.Terminus t))
    close_cancelled c =
        closes w c.schedule (rw c.opened c.schedules)
        (record {
          basic = b;
          extra = x;
          journey = journey_records o calls t;
          parts = whole_own;
          terms = c.terms;
          body = rw (c.has_none, c.body) (inr (record { origin = o; calls = calls; terminus = t; are = refl }));
        })

    -- the lines that are kept are those of a body
    keeps_some : Again (of.Terminus t) → IsOpened p w.earlier b (begun_journey x o calls) →
        KeepSomeBody (kept p.opened p.lines (of.Terminus t))
    keeps_some again opened =
        rw opened.opened (
          record { detail = opened.detail; extra = x; origin = o; calls = calls; terminus = t },
          keep_body p.lines opened.detail x o calls t opened.lines again,
        )

  terminus_where : (place : Place) → place ≡ p.place → Again (of.Terminus t) → HasReadAt place records p → may_stand place Lt ≡ true →
      HasRead (records ++ (of.Terminus t ∷ [])) (step p (of.Terminus t))
  terminus_where at.Journey e again h may =
      let (b, x, o, calls, own, or) = own_at records p at.Journey e h in
      ⊎_elim (close_opened h b x o calls own again) (close_cancelled h b x o calls own) or
  terminus_where _ e again h may = absurd (true≢false (sym may))

  -- where a journey has begun, and its schedule has a body
  keeps_journey : (place : Place) → place ≡ p.place → place ≡ at.Journey → HasReadAt place records p → (o : BasicTerms) →
      p.opened ≡ Some o → Again (of.Terminus t) → KeepSomeBody (kept p.opened p.lines (of.Terminus t)) × (true ≡ has_body o.letter)
  keeps_journey at.Journey e is h o some again =
      let (b, x, origin, calls, own, or) = own_at records p at.Journey e h in
      ⊎_elim (λ (opened : IsOpened p h.earlier b (begun_journey x origin calls)).
      let options : ◌≡◌ {A = Option BasicTerms} (Some (terms_of b)) (Some o) = sym opened.opened ∙ some in
      let same : terms_of b ≡ o = cc in
      (keeps_some h b x origin calls own again opened, opened.runs ∙ ap (λ (u : BasicTerms). has_body u.letter) same))
      (λ (c : IsCancelled p h.earlier b). let none : None ≡ Some o = sym c.opened ∙ some in cc) or
  keeps_journey _ e is h o some again = absurd (cc)

pub keeps_body : (records : List Record) (p : Progress) (t : Terminus) → p.place ≡ at.Journey → HasRead records p → (o : BasicTerms) →
    p.opened ≡ Some o → Again (of.Terminus t) → KeepSomeBody (kept p.opened p.lines (of.Terminus t)) × (true ≡ has_body o.letter)
keeps_body records p t is h o some again = keeps_journey records p t p.place refl is h o some again

-- a change may stand where a location on the way may
change_where : (place : Place) → may_stand place Li ≡ may_stand place Cr
change_where at.Start = refl
change_where _ = refl

-- any record more, where it may stand
pub has_read_more : (records : List Record) (p : Progress) (r : Record) → IsKeepable r → HasRead records p →
    may_stand p.place (record_kind r) ≡ true → HasRead (records ++ (r ∷ [])) (step p r)
has_read_more records p (of.Header x) again h may = header_where records p x p.place h may
has_read_more records p (of.Tiploc x) again h may = tiploc_where records p x p.place refl h may
has_read_more records p (of.Association x) again h may = association_where records p x p.place refl h may
has_read_more records p (of.Basic x) again h may = basic_step records p x again h may
has_read_more records p (of.Extra x) again h may = extra_where records p x p.place refl again h may
has_read_more records p (of.Origin x) again h may = origin_where records p x p.place refl again h may
has_read_more records p (of.Stop x) again h may = call_where records p (At x) p.place refl again h may
has_read_more records p (of.Change x) again h may = call_where records p (Turn x) p.place refl again h (change_where p.place ∙ may)
has_read_more records p (of.Terminus x) again h may = terminus_where records p x p.place refl again h may
has_read_more records p of.Trailer again h may = trailer_step records p h may
