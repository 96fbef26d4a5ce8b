-- One record more of a schedule, where it may stand.
use Rattle.cif_extract.proofs.Names.{AllStandIn, Basic, BasicTerms, Bs, Bx, Call, Detail, Extra, HasOwn, HasRead, HasReadAt, IfSome}
use Rattle.cif_extract.proofs.Names.{IsCancelled, IsKeepable, IsOpened, IsWithin, Li, List, Lo, None, Option, Origin, Place, Progress}
use Rattle.cif_extract.proofs.Names.{Record, Schedule, Some, [], after_extra, ap, append_assoc, begun_journey, call_record, detail_table}
use Rattle.cif_extract.proofs.Names.{extra_records, has_body, inl, inr, is_some, may_stand, parts_with_header, plain_line, record_table}
use Rattle.cif_extract.proofs.Names.{records_before_trailer, refl, step, subst, sym, terms_of, true, true≢false, ℕ, ⊎_elim, ◌++◌, ◌∙◌, ◌∷◌}
use Rattle.cif_extract.{proofs.Names.◌≡◌, proofs.Names.◌⊎◌, proofs.KeptLines.journey-more, proofs.KeptLines.kept-more}
use Rattle.cif_extract.{specs.Steps.Reading.begun, specs.Steps.Reading.kept}
use Rattle.cif_records.specs.declared.record.Record.TheVariants as of
use Rattle.cif_extract.proofs.ReadingSteps.{AreClosed, closed_where, own_at}
use Rattle.cif_extract.specs.declared.place.Place.TheVariants as at

-- the plain line of the record spells it
abbrev pub Again : Record → Type 0
Again r = AllStandIn (plain_line (record_table r)) (record_table r)

-- the progress with the line of a record more, at this place
abbrev with_line : Progress → Place → Record → Progress
with_line p place r = record p { place = place; lines = kept p.opened p.lines r }

module _ (records : List Record) (p : Progress) where
  -- a BS, behind whole schedules
  begun_within : (b : Basic) (place : Place) (schedules : List Schedule) (opened : Option BasicTerms) (lines : List (List ℕ)) →
      AreClosed records p → let next = record p { place = place; schedules = schedules; opened = opened; lines = lines } in
      HasOwn place next p.schedules (of.Basic b ∷ []) → IsWithin (records ++ (of.Basic b ∷ [])) next
  begun_within b place schedules opened lines c here = record {
    header = c.header;
    is_header = c.is_header;
    earlier = p.schedules;
    groups = c.groups;
    own = of.Basic b ∷ [];
    parts = ap (λ rs. rs ++ (of.Basic b ∷ [])) c.parts;
    are = c.are;
    here = here;
  }

  begun_here : (b : Basic) → (d : Option Detail) (e : is_some d ≡ has_body b.letter) → b.detail ≡ d →
      IfSome d (λ x. AllStandIn (plain_line (detail_table x)) (detail_table x)) → AreClosed records p →
      HasRead (records ++ (of.Basic b ∷ [])) (begun p b d e)
  begun_here b None e is again c = begun_within b at.Cancelled (begun p b None e).schedules None p.lines c (
    b,
    refl,
    record {
      has_none = is;
      opened = refl;
      schedule = _;
      schedules = refl;
      terms = record { uid = refl; first = refl; last = refl; days = refl; letter = refl };
      body = refl;
    },
  )
  begun_here b (Some d) e is again c = begun_within b at.Basic p.schedules (Some (terms_of b)) (plain_line (detail_table d) ∷ []) c (
    b,
    refl,
    record { detail = d; has = is; runs = e; opened = refl; schedules = refl; lines = (again, refl, tt) },
  )

  pub basic_step : (b : Basic) → IsKeepable (of.Basic b) → HasRead records p → may_stand p.place Bs ≡ true →
      HasRead (records ++ (of.Basic b ∷ [])) (step p (of.Basic b))
  basic_step b again h may = begun_here b b.detail b.bodied refl again (closed_where records p p.place refl h may)

  -- the line of a record more is kept
  opened_more : (earlier : List Schedule) (b : Basic) (further : List Record) (place : Place) (r : Record) → Again r →
      IsOpened p earlier b further → IsOpened (with_line p place r) earlier b (further ++ (r ∷ []))
  opened_more earlier b further place r again o = record {
    detail = o.detail;
    has = o.has;
    runs = o.runs;
    opened = o.opened;
    schedules = o.schedules;
    lines = rw o.opened (kept-more p.lines o.detail further r o.lines again);
  }

  -- or not
  cancelled_more : (earlier : List Schedule) (b : Basic) (place : Place) (r : Record) → IsCancelled p earlier b →
      IsCancelled (with_line p place r) earlier b
  cancelled_more earlier b place r c = record {
    has_none = c.has_none;
    opened = c.opened;
    schedule = c.schedule;
    schedules = c.schedules;
    terms = c.terms;
    body = c.body;
  }

  -- the records within the schedule that is being read
  within_more : (place : Place) (r : Record) (own : List Record) (w : IsWithin records p) → w.own ++ (r ∷ []) ≡ own →
      HasOwn place (with_line p place r) w.earlier own → IsWithin (records ++ (r ∷ [])) (with_line p place r)
  within_more place r own w is here = record {
    header = w.header;
    is_header = w.is_header;
    earlier = w.earlier;
    groups = w.groups;
    own = own;
    parts = ap (λ rs. rs ++ (r ∷ [])) w.parts
        ∙ append_assoc (records_before_trailer (parts_with_header p w.header w.earlier) w.groups) w.own (r ∷ [])
        ∙ ap (λ rs. records_before_trailer (parts_with_header p w.header w.earlier) w.groups ++ rs) is;
    are = w.are;
    here = here;
  }

  pub extra_where : (x : Extra) (place : Place) → place ≡ p.place → Again (of.Extra x) → HasReadAt place records p →
      may_stand place Bx ≡ true → HasReadAt (after_extra place)
      (records ++ (of.Extra x ∷ [])) (with_line p (after_extra place) (of.Extra x))
  extra_where x at.Basic e again h may =
      let (b, own, o) = own_at records p at.Basic e h in
      within_more at.Extra (of.Extra x) (of.Basic b ∷ of.Extra x ∷ []) h (ap (λ rs. rs ++ (of.Extra x ∷ [])) own)
      (b, x, refl, opened_more h.earlier b [] at.Extra (of.Extra x) again o)
  extra_where x at.Cancelled e again h may =
      let (b, own, c) = own_at records p at.Cancelled e h in
      within_more at.CancelledExtra (of.Extra x) (of.Basic b ∷ of.Extra x ∷ []) h (ap (λ rs. rs ++ (of.Extra x ∷ [])) own)
      (b, x, refl, cancelled_more h.earlier b at.CancelledExtra (of.Extra x) c)
  extra_where x _ e again h may = absurd (true≢false (sym may))

  -- LO, behind a BS and a BX or none
  origin_opened : (o : Origin) (w : IsWithin records p) (b : Basic) (x : Option Extra) → w.own ≡ of.Basic b ∷ extra_records x →
      Again (of.Origin o) → IsOpened p w.earlier b (extra_records x) ⊎ IsCancelled p w.earlier b →
      IsWithin (records ++ (of.Origin o ∷ [])) (step p (of.Origin o))
  origin_opened o w b x own again or =
      within_more at.Journey (of.Origin o) (of.Basic b ∷ begun_journey x o []) w (ap (λ rs. rs ++ (of.Origin o ∷ [])) own) (
        b,
        x,
        o,
        [],
        refl,
        ⊎_elim
            (λ opened. inl (opened_more w.earlier b (extra_records x) at.Journey (of.Origin o) again opened))
            (λ cancelled. inr (cancelled_more w.earlier b at.Journey (of.Origin o) cancelled)) or,
      )

  pub origin_where : (o : Origin) (place : Place) → place ≡ p.place → Again (of.Origin o) → HasReadAt place records p →
      may_stand place Lo ≡ true → HasRead (records ++ (of.Origin o ∷ [])) (step p (of.Origin o))
  origin_where o at.Basic e again h may =
      let (b, own, opened) = own_at records p at.Basic e h in origin_opened o h b None own again (inl opened)
  origin_where o at.Extra e again h may =
      let (b, x, own, opened) = own_at records p at.Extra e h in origin_opened o h b (Some x) own again (inl opened)
  origin_where o at.Cancelled e again h may =
      let (b, own, c) = own_at records p at.Cancelled e h in origin_opened o h b None own again (inr c)
  origin_where o at.CancelledExtra e again h may =
      let (b, x, own, c) = own_at records p at.CancelledExtra e h in origin_opened o h b (Some x) own again (inr c)
  origin_where o _ e again h may = absurd (true≢false (sym may))

  -- LI and CR
  pub call_where : (call : Call) (place : Place) → place ≡ p.place → Again (call_record call) → HasReadAt place records p →
      may_stand place Li ≡ true → IsWithin (records ++ (call_record call ∷ [])) (with_line p at.Journey (call_record call))
  call_where call at.Journey e again h may =
      let (b, x, o, calls, own, or) = own_at records p at.Journey e h in
      within_more at.Journey (call_record call) (of.Basic b ∷ begun_journey x o (calls ++ (call ∷ []))) h
      (ap (λ rs. rs ++ (call_record call ∷ [])) own ∙ ap (λ rs. of.Basic b ∷ rs) (journey-more x o calls call)) (
        b,
        x,
        o,
        calls ++ (call ∷ []),
        refl,
        ⊎_elim
            (λ opened. inl (subst (IsOpened (with_line p at.Journey (call_record call)) h.earlier b) (journey-more x o calls call)
            (opened_more h.earlier b (begun_journey x o calls) at.Journey (call_record call) again opened)))
            (λ cancelled. inr (cancelled_more h.earlier b at.Journey (call_record call) cancelled)) or,
      )
  call_where call _ e again h may = absurd (true≢false (sym may))
