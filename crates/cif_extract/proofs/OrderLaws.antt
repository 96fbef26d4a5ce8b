-- The order of records is that of the grammar: no line of an extract is refused.
use Rattle.cif_extract.proofs.Names.{Aa, All, All-head, All-tail, AreExtract, AreJourney, AreSchedule, AreSchedules, Association, At, Basic}
use Rattle.cif_extract.proofs.Names.{BodyLines, Bool, Bs, Call, Detail, Extra, ExtractParts, HaveBody, IsLine, List, None, NoneRefused}
use Rattle.cif_extract.proofs.Names.{Option, Origin, Place, Record, Schedule, Some, SpellAll, SpellExtract, SpellsRecord, Terminus, Tiploc}
use Rattle.cif_extract.proofs.Names.{Turn, Zz, [], ap, append-nil, append_assoc, arith, call_record, cond, extra_records, false, has_body}
use Rattle.cif_extract.proofs.Names.{is_some, journey_records, length, length-append, map, may_stand, own_layouts, place_behind, refl}
use Rattle.cif_extract.proofs.Names.{subst, sym, true, ℕ, ⊎_elim, ◌++◌, ◌+◌, ◌<◌, ◌∙◌, ◌∷◌, ◌≡◌, ◌≤◌}
use Rattle.cif_records.proofs.Records.{kind_of as record_kind}
use Rattle.cif_records.specs.declared.record.Record.TheVariants as of
use Rattle.cif_extract.proofs.{FirstRefusals.none_refused-more, FirstRefusals.none_refused-none, LayoutLaws.own_are}
use Rattle.cif_extract.proofs.Places.{fine_here, place_more, place_past, refused_at}
use Rattle.cif_extract.specs.declared.place.Place.TheVariants as at

-- from one place to another these records may stand, one after another
abbrev pub MayStand : Place → List Record → Place → Type 0
MayStand from [] to = from ≡ to
MayStand from (r ∷ records) to = (may_stand from (record_kind r) ≡ true) × MayStand (place_past from r) records to

pub stand_append : (from over to : Place) (xs ys : List Record) → MayStand from xs over → MayStand over ys to → MayStand from (xs ++ ys) to
stand_append from over to [] ys e q = subst (λ place. MayStand place ys to) (sym e) q
stand_append from over to (x ∷ xs) ys p q = (p.0, stand_append (place_past from x) over to xs ys p.1 q)

stand_tiplocs : (ts : List Tiploc) → MayStand at.Tiplocs (map of.Tiploc ts) at.Tiplocs
stand_tiplocs [] = refl
stand_tiplocs (t ∷ ts) = (refl, stand_tiplocs ts)

-- a place where a schedule or the trailer may stand
record IsOpen (from : Place) (records : List Record) : Type 0 where
  to : Place
  stand : MayStand from records to
  schedule : may_stand to Bs ≡ true
  trailer : may_stand to Zz ≡ true

stand_associations : (xs : List Association) (from : Place) → may_stand from Aa ≡ true → may_stand from Bs ≡ true →
    may_stand from Zz ≡ true → IsOpen from (map of.Association xs)
stand_associations [] from a b z = record { to = from; stand = refl; schedule = b; trailer = z }
stand_associations (x ∷ xs) from a b z =
    let more = stand_associations xs at.Associations refl refl refl in
    record { to = more.to; stand = (a, more.stand); schedule = more.schedule; trailer = more.trailer }

stand_calls : (calls : List Call) (t : Terminus) → MayStand at.Journey (map call_record calls ++ (of.Terminus t ∷ [])) at.Schedules
stand_calls [] t = (refl, refl)
stand_calls (At s ∷ calls) t = (refl, stand_calls calls t)
stand_calls (Turn c ∷ calls) t = (refl, stand_calls calls t)

-- the records of a schedule, from where one may stand
module _ (from : Place) (may : may_stand from Bs ≡ true) (b : Basic) where
  stand_journey : (x : Option Extra) (o : Origin) (calls : List Call) (t : Terminus) →
      IsOpen from (of.Basic b ∷ (extra_records x ++ journey_records o calls t))
  stand_journey x o calls t = record { to = at.Schedules; stand = (may, behind (has_body b.letter) x); schedule = refl; trailer = refl }
    where
      behind : (r : Bool) (x : Option Extra) →
          MayStand (cond r at.Basic at.Cancelled) (extra_records x ++ journey_records o calls t) at.Schedules
      behind true None = (refl, stand_calls calls t)
      behind true (Some x) = (refl, (refl, stand_calls calls t))
      behind false None = (refl, stand_calls calls t)
      behind false (Some x) = (refl, (refl, stand_calls calls t))

  stand_alone : has_body b.letter ≡ false → (x : Option Extra) → IsOpen from (of.Basic b ∷ (extra_records x ++ []))
  stand_alone none None = record {
    to = at.Cancelled;
    stand = (may, ap (λ r. cond r at.Basic at.Cancelled) none);
    schedule = refl;
    trailer = refl;
  }
  stand_alone none (Some x) = record {
    to = at.CancelledExtra;
    stand = (may, subst (λ r. MayStand (cond r at.Basic at.Cancelled) (of.Extra x ∷ []) at.CancelledExtra) (sym none) (refl, refl));
    schedule = refl;
    trailer = refl;
  }

stand_schedule : (from : Place) → may_stand from Bs ≡ true → (records : List Record) (s : Schedule) → AreSchedule records s →
    IsOpen from records
stand_schedule from may records s is =
    subst (IsOpen from) (sym is.parts) (at is.basic.detail is.basic.bodied s.body is.body)
  where
    at : (d : Option Detail) → is_some d ≡ has_body is.basic.letter → (body : Option BodyLines) → HaveBody d is.extra is.journey body →
        IsOpen from (of.Basic is.basic ∷ (extra_records is.extra ++ is.journey))
    at (Some d) e (Some body) (j, h) =
        subst (λ rs. IsOpen from (of.Basic is.basic ∷ (extra_records is.extra ++ rs))) (sym j.are)
        (stand_journey from may is.basic is.extra j.origin j.calls j.terminus)
    at None e None h =
        ⊎_elim
        (λ (none : is.journey ≡ []). subst (λ rs. IsOpen from (of.Basic is.basic ∷ (extra_records is.extra ++ rs))) (sym none)
        (stand_alone from may is.basic (sym e) is.extra))
        (λ (j : AreJourney is.journey). subst (λ rs. IsOpen from (of.Basic is.basic ∷ (extra_records is.extra ++ rs))) (sym j.are)
        (stand_journey from may is.basic is.extra j.origin j.calls j.terminus)) h
    at (Some d) e None h = absurd h
    at None e (Some body) h = absurd h

stand_schedules : (schedules : List Schedule) (from : Place) → may_stand from Bs ≡ true → may_stand from Zz ≡ true →
    (records : List Record) → AreSchedules records schedules → IsOpen from records
stand_schedules [] from b z records none = record { to = from; stand = rw none refl; schedule = b; trailer = z }
stand_schedules (s ∷ schedules) from b z records are =
    let (own, others, parts, one, rest) = are in
    let first = stand_schedule from b own s one in
    let more = stand_schedules schedules first.to first.schedule first.trailer others rest in
    record {
      to = more.to;
      stand = subst (λ rs. MayStand from rs more.to) (sym parts) (stand_append from first.to more.to own others first.stand more.stand);
      schedule = more.schedule;
      trailer = more.trailer;
    }

-- the records of an extract may stand as they do
pub stand_extract : (records : List Record) (x : ExtractParts) → AreExtract records x → MayStand at.Start records at.Ended
stand_extract records x are =
    let associations = stand_associations x.associations at.Tiplocs refl refl refl in
    let schedules = stand_schedules x.schedules associations.to associations.schedule associations.trailer are.schedules
    are.are_schedules in
    subst (λ rs. MayStand at.Start rs at.Ended) (sym are.parts) (
      refl,
      subst (λ rs. MayStand at.Tiplocs rs at.Ended) (sym (behind_all x are.schedules))
          (stand_append at.Tiplocs at.Tiplocs at.Ended (map of.Tiploc x.tiplocs)
          (map of.Association x.associations ++ (are.schedules ++ (of.Trailer ∷ []))) (stand_tiplocs x.tiplocs)
          (stand_append at.Tiplocs associations.to at.Ended (map of.Association x.associations) (are.schedules ++ (of.Trailer ∷ []))
          associations.stand
          (stand_append associations.to schedules.to at.Ended are.schedules (of.Trailer ∷ []) schedules.stand (schedules.trailer, refl)))),
    )
  where
    behind_all : (x : ExtractParts) (groups : List Record) →
        (map of.Tiploc x.tiplocs ++ (map of.Association x.associations ++ groups)) ++ (of.Trailer ∷ [])
        ≡ map of.Tiploc x.tiplocs ++ (map of.Association x.associations ++ (groups ++ (of.Trailer ∷ [])))
    behind_all x groups =
        append_assoc (map of.Tiploc x.tiplocs) (map of.Association x.associations ++ groups) (of.Trailer ∷ [])
        ∙ ap (λ rs. map of.Tiploc x.tiplocs ++ rs) (append_assoc (map of.Association x.associations) groups (of.Trailer ∷ []))

-- lines of which none is refused, and the place behind them
record AreFine (max : ℕ) (lines : List (List ℕ)) (place : Place) : Type 0 where
  fine : NoneRefused max lines
  behind : place_behind lines ≡ place

fine_more : (max : ℕ) (lines : List (List ℕ)) (place : Place) (line : List ℕ) (r : Record) → AreFine max lines place → IsLine line →
    length lines < max → SpellsRecord line r → may_stand place (record_kind r) ≡ true → AreFine max (lines ++ (line ∷ []))
    (place_past place r)
fine_more max lines place line r so_far is_line room spells may = record {
  fine = none_refused-more max lines line so_far.fine
      (refused_at max lines line place is_line room so_far.behind ∙ fine_here own_layouts own_are place line r spells may);
  behind = place_more own_layouts own_are lines line r place so_far.behind spells;
}

fine_all : (max : ℕ) (front : List (List ℕ)) (place : Place) (lines : List (List ℕ)) (records : List Record) (to : Place) →
    AreFine max front place → All IsLine lines → length front + length lines ≤ max → SpellAll lines records → MayStand place records to →
    AreFine max (front ++ lines) to
fine_all max front place [] [] to so_far are_lines room spell stand =
    subst (AreFine max (front ++ [])) stand (subst (λ ls. AreFine max ls place) (sym (append-nil front)) so_far)
fine_all max front place [] (r ∷ records) to so_far are_lines room spell stand = absurd spell
fine_all max front place (line ∷ lines) [] to so_far are_lines room spell stand = absurd spell
fine_all max front place (line ∷ lines) (r ∷ records) to so_far are_lines room spell stand =
    subst (λ ls. AreFine max ls to) (append_assoc front (line ∷ []) lines)
    (fine_all max (front ++ (line ∷ [])) (place_past place r) lines records to
    (fine_more max front place line r so_far (All-head IsLine line lines are_lines)
    (let z : length front < max = omega (arith, room) in z) spell.0 stand.0)
    (All-tail IsLine line lines are_lines)
    (let z : length (front ++ (line ∷ [])) + length lines ≤ max = omega (arith, room, length-append front (line ∷ [])) in z)
    spell.1 stand.1)

-- none of the lines of an extract is refused
pub spelled_fine : (max : ℕ) (lines : List (List ℕ)) (x : ExtractParts) → length lines ≤ max → All IsLine lines → SpellExtract lines x →
    NoneRefused max lines
spelled_fine max lines x room are_lines s =
    let all = fine_all max [] at.Start lines s.records at.Ended (record { fine = none_refused-none max; behind = refl }) are_lines
    (let z : 0 + length lines ≤ max = omega (arith, room) in z)
    s.spelled (stand_extract s.records x s.are) in
    all.fine
