-- A full extract and updates that are spelled have an outcome: they are written, or a line is refused.
use Rattle.std.proofs.Common.{Bool, List, None, Option, Some, [], ap, ap₂, false, filter, inl, inr, nat_eq, not, option_to_list}
use Rattle.std.proofs.Common.{refl, rules, subst, sym, true, ℕ, ⊎_elim, ◌&&◌, ◌++◌, ◌↔◌, ◌∙◌, ◌∷◌, ◌==◌, ◌≡◌, ◌⊎◌, IsTrue}
use Rattle.std.proofs.lemmas.Grind.{common_steps}
use Rattle.std.proofs.lemmas.List.{map-append}
use Rattle.std.specs.Cmp.Lexicographic.{pointwise}
use Rattle.cif_calendar.proofs.Names.{false≢true}
use Rattle.cif_canon.proofs.Names.{bytes_decides, pointwise_decides}
use Rattle.cif_columns.specs.declared.{stp.Stp.Stp, stp.Stp.TheVariants.C, stp.Stp.TheVariants.N, stp.Stp.TheVariants.O, stp.Stp.TheVariants.P}
use Rattle.cif_feed.proofs.{ChangeLaws.put_keys, ListSteps.filter-map}
use Rattle.cif_feed.specs.Changes.{AreAfter, AreRefused, TellsSame, after_all, after_change, changes_of, key_of, parts_of, put_of}
use Rattle.cif_feed.specs.Changes.{refusals, with_keys}
use Rattle.cif_feed.specs.{HolidayCode.all_codes, PublishedParts.BytesSpellPublished, PublishedParts.PublishedParts}
use Rattle.cif_feed.specs.{PublishedParts.published_text, RecordKeys.tiploc_key, UpdateParts.AssociationKey, UpdateParts.BytesSpellUpdate}
use Rattle.cif_feed.specs.{UpdateParts.ScheduleKey, UpdateParts.UpdateParts, Waived.first_refused}
use Rattle.cif_feed.specs.Updated.{AreRefusedLines, IsLineRefused, IsUpdated, IsUpdatedBy, published_association_key}
use Rattle.cif_feed.specs.Updated.{published_schedule_key, refused_fault, refused_header, reported_once}
use Rattle.cif_feed.specs.UpdatesInTurn.{AreUpdatesDone, IsOneRefused, IsRefused, IsWritten}
use Rattle.cif_feed.specs.declared.{changes.RecordChange.RecordChange, changes.RefusedLine.RefusedLine, changes.Waived.Waived}
use Rattle.cif_feed.specs.declared.feed_fault.FeedFault.{FeedFault}
use Rattle.cif_records.specs.declared.association.AssocKey.{AssocKey}
use Rattle.cif_laws.specs.FeedChains.{HasOutcome, SpellUpdates}

-- ---- records after changes

module _ {K R : Type 0} (key : R → K) (same : K → K → Bool) (tells : TellsSame same) where
  abbrev after_one : List R → RecordChange K R → List R
  after_one records c = filter (λ r. not (same (key r) (key_of key c.action))) records ++ option_to_list (put_of c.action)

  abbrev after_list : List R → List (RecordChange K R) → List R
  after_list records [] = records
  after_list records (c ∷ changes) = after_list (after_one records c) changes

  one-step : (records : List R) (c : RecordChange K R)
      → with_keys key (after_one records c) ≡ after_change same (with_keys key records) (parts_of key c)
  one-step records c =
      map-append (λ (r : R). (key r, r)) (filter (λ r. not (same (key r) (key_of key c.action))) records) (option_to_list (put_of c.action))
      ∙ ap₂ (λ a b. a ++ b)
      (sym (filter-map (λ (r : K × R). not (same r.0 (key_of key c.action))) (λ (r : R). (key r, r)) records))
      (sym (put_keys key c.action))

  all-steps : (records : List R) (changes : List (RecordChange K R))
      → with_keys key (after_list records changes) ≡ after_all same (with_keys key records) (changes_of key changes)
  all-steps records [] = refl
  all-steps records (c ∷ changes) =
      all-steps (after_one records c) changes ∙ ap (λ rs. after_all same rs (changes_of key changes)) (one-step records c)

  pub are-after : (old : List R) (changes : List (RecordChange K R)) → AreAfter key old changes (after_list old changes)
  are-after old changes = record { same = same; tells = tells; after = all-steps old changes }

  pub are-refused : (old : List R) (changes : List (RecordChange K R))
      → AreRefused key old changes (refusals same (with_keys key old) (changes_of key changes))
  are-refused old changes = record { same = same; tells = tells; are = refl }

-- ---- tests of keys

abbrev text-same : List ℕ → List ℕ → Bool
text-same = pointwise nat_eq

abbrev stp-same : Stp → Stp → Bool
stp-same C C = true
stp-same N N = true
stp-same O O = true
stp-same P P = true
stp-same _ _ = false

stp-tells : TellsSame stp-same
stp-tells C C = (λ _. refl, λ _. refl)
stp-tells C N = (λ e. absurd (false≢true e), λ e. cc)
stp-tells C O = (λ e. absurd (false≢true e), λ e. cc)
stp-tells C P = (λ e. absurd (false≢true e), λ e. cc)
stp-tells N C = (λ e. absurd (false≢true e), λ e. cc)
stp-tells N N = (λ _. refl, λ _. refl)
stp-tells N O = (λ e. absurd (false≢true e), λ e. cc)
stp-tells N P = (λ e. absurd (false≢true e), λ e. cc)
stp-tells O C = (λ e. absurd (false≢true e), λ e. cc)
stp-tells O N = (λ e. absurd (false≢true e), λ e. cc)
stp-tells O O = (λ _. refl, λ _. refl)
stp-tells O P = (λ e. absurd (false≢true e), λ e. cc)
stp-tells P C = (λ e. absurd (false≢true e), λ e. cc)
stp-tells P N = (λ e. absurd (false≢true e), λ e. cc)
stp-tells P O = (λ e. absurd (false≢true e), λ e. cc)
stp-tells P P = (λ _. refl, λ _. refl)

and-both : (a b : Bool) → IsTrue (a && b) → IsTrue a × IsTrue b
and-both true true t = (refl, refl)
and-both true false t = absurd (false≢true t)
and-both false b t = absurd (false≢true t)

both-and : (a b : Bool) → IsTrue a → IsTrue b → IsTrue (a && b)
both-and true true a b = refl
both-and true false a b = absurd (false≢true b)
both-and false b a c = absurd (false≢true a)

-- keys of three parts are the same where all parts are
module _ {A B D : Type 0} (p : A → A → Bool) (tells_p : TellsSame p) (q : B → B → Bool) (tells_q : TellsSame q) (r : D → D → Bool)
    (tells_r : TellsSame r) where
  abbrev all-same : A × B × D → A × B × D → Bool
  all-same x y = p x.0 y.0 && (q x.1 y.1 && r x.2 y.2)

  all-tells : TellsSame all-same
  all-tells (a, b, c) (d, e, f) = (
    λ t. let first = and-both (p a d) (q b e && r c f) t in
        let others = and-both (q b e) (r c f) first.1 in
        ap₂ (λ (u : A) (v : B × D). (u, v.0, v.1)) ((tells_p a d).0 first.0)
        (ap₂ (λ (u : B) (v : D). (u, v)) ((tells_q b e).0 others.0) ((tells_r c f).0 others.1)),
    λ is. both-and (p a d) (q b e && r c f) ((tells_p a d).1 (ap (λ (z : A × B × D). z.0) is))
        (both-and (q b e) (r c f) ((tells_q b e).1 (ap (λ (z : A × B × D). z.1) is)) ((tells_r c f).1 (ap (λ (z : A × B × D). z.2) is))),
  )

abbrev number-same : ℕ → ℕ → Bool
number-same m n = m == n

number-tells : TellsSame number-same
number-tells m n = search (rules, common_steps)

abbrev key-same : AssocKey → AssocKey → Bool
key-same a b =
    pointwise nat_eq a.base b.base
    && (pointwise nat_eq a.associated b.associated
    && (pointwise nat_eq a.location b.location
    && (pointwise nat_eq a.base_suffix b.base_suffix && pointwise nat_eq a.associated_suffix b.associated_suffix)))

key-tells : TellsSame key-same
key-tells a b = search (rules, common_steps, pointwise_decides, bytes_decides)

abbrev association-same : AssociationKey → AssociationKey → Bool
association-same = all-same key-same key-tells number-same number-tells stp-same stp-tells

abbrev association-tells : TellsSame association-same
association-tells = all-tells key-same key-tells number-same number-tells stp-same stp-tells

abbrev schedule-same : ScheduleKey → ScheduleKey → Bool
schedule-same = all-same text-same bytes_decides number-same number-tells stp-same stp-tells

abbrev schedule-tells : TellsSame schedule-same
schedule-tells = all-tells text-same bytes_decides number-same number-tells stp-same stp-tells

-- ---- one update

module _ (u : UpdateParts) (old : PublishedParts) where
  updated : PublishedParts
  updated = record {
    header = u.header;
    tiplocs = after_list tiploc_key text-same bytes_decides old.tiplocs u.tiplocs;
    associations = after_list published_association_key association-same association-tells old.associations u.associations;
    schedules = after_list published_schedule_key schedule-same schedule-tells old.schedules u.schedules;
  }

  is-updated : IsUpdated u old updated
  unfolding updated
  is-updated = record {
    header = refl;
    tiplocs = are-after tiploc_key text-same bytes_decides old.tiplocs u.tiplocs;
    associations = are-after published_association_key association-same association-tells old.associations u.associations;
    schedules = are-after published_schedule_key schedule-same schedule-tells old.schedules u.schedules;
  }

  of-tiplocs : List RefusedLine
  of-tiplocs = refusals text-same (with_keys tiploc_key old.tiplocs) (changes_of tiploc_key u.tiplocs)

  of-associations : List RefusedLine
  of-associations = refusals association-same (with_keys published_association_key old.associations)
      (changes_of published_association_key u.associations)

  of-schedules : List RefusedLine
  of-schedules = refusals schedule-same (with_keys published_schedule_key old.schedules) (changes_of published_schedule_key u.schedules)

  lines : List RefusedLine
  lines = refused_header u old ++ reported_once 0 (of-tiplocs ++ (of-associations ++ of-schedules))

  are-lines : AreRefusedLines u old lines
  unfolding lines of-tiplocs of-associations of-schedules
  are-lines = record {
    tiplocs = of-tiplocs;
    of_tiplocs = are-refused tiploc_key text-same bytes_decides old.tiplocs u.tiplocs;
    associations = of-associations;
    of_associations = are-refused published_association_key association-same association-tells old.associations u.associations;
    schedules = of-schedules;
    of_schedules = are-refused published_schedule_key schedule-same schedule-tells old.schedules u.schedules;
    are = refl;
  }

module _ (how : Waived) (max : ℕ) where
  -- it is done, or a line of it is refused
  one-outcome : (u : UpdateParts) (old : PublishedParts) (bytes : List ℕ) → BytesSpellUpdate max bytes u
      → IsUpdatedBy how old max bytes (updated u old) (lines u old)
      ⊎ ((line : RefusedLine) × IsLineRefused how old max bytes line)
  one-outcome u old bytes spelled = at (first_refused how (lines u old)) refl
    where
      at : (o : Option RefusedLine) → first_refused how (lines u old) ≡ o
          → IsUpdatedBy how old max bytes (updated u old) (lines u old)
          ⊎ ((line : RefusedLine) × IsLineRefused how old max bytes line)
      at None none = inl (record {
        update = u;
        spelled = spelled;
        updated = is-updated u old;
        refused = are-lines u old;
        all_waived = none;
      })
      at (Some line) first = inr (
        line,
        record {
          update = u;
          spelled = spelled;
          lines = lines u old;
          refused = are-lines u old;
          first = first;
        },
      )

  all-outcomes : (old : PublishedParts) (bytes : List (List ℕ)) (us : List UpdateParts) → SpellUpdates max bytes us
      → ((new : PublishedParts) × (waived : List RefusedLine) × AreUpdatesDone how max old bytes new waived)
      ⊎ ((fault : FeedFault) × IsOneRefused how max old bytes fault)
  all-outcomes old [] us spelled = inl (old, [], (refl, refl))
  all-outcomes old (b ∷ bs) [] spelled = absurd spelled
  all-outcomes old (b ∷ bs) (u ∷ us) spelled = ⊎_elim
      (λ done. ⊎_elim
      (λ rest. inl (rest.0, lines u old ++ rest.1, (updated u old, lines u old, rest.1, done, rest.2, refl)))
      (λ refused. inr (refused.0, inr (updated u old, lines u old, done, refused.1)))
      (all-outcomes (updated u old) bs us spelled.1))
      (λ line. inr (refused_fault line.0, inl (inr (line.0, line.1, refl))))
      (one-outcome u old b spelled.0)

  pub outcome : (full : List ℕ) (old : PublishedParts) (bytes : List (List ℕ)) (us : List UpdateParts)
      → BytesSpellPublished all_codes max full old → SpellUpdates max bytes us → HasOutcome how max full bytes
  outcome full old bytes us spelled updates = ⊎_elim
      (λ done. inl (
        published_text done.0,
        done.1,
        record {
          old = old;
          spelled = spelled;
          new = done.0;
          done = done.2;
          text = refl;
        },
      ))
      (λ refused. inr (refused.0, record { old = old; spelled = spelled; refused = refused.1 }))
      (all-outcomes old bytes us updates)
