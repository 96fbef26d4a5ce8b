-- What is reported of the keys that clash, and what is cut at their clash days: the extract without clashes.
use Rattle.cif_feed.proofs.Names.{AppliesOnAny, AreAllFound, AreClashDays, AreDropped, AreFound, AssocBody, AssocKey, BodyLines, Clash}
use Rattle.cif_feed.proofs.Names.{Contains, Dropped, DroppedKey, ExtractParts, Holidays, IsClashDay, IsCountOf, IsCutAt, IsPrepared, List}
use Rattle.cif_feed.proofs.Names.{Option, Ordering, PublishedAssociation, PublishedExtract, PublishedParts, PublishedSchedule}
use Rattle.cif_feed.proofs.Names.{PublishedTerms, ReadsAssociations, ReadsTrains, RisingDays, [], ap, append_assoc, arith}
use Rattle.cif_feed.proofs.Names.{association_entries, codes, cond, decimal, dropped_text, false, key_cmp, last_day, last_is_day, map}
use Rattle.cif_feed.proofs.Names.{more_text, nat_cmp, published_association_terms, published_associations, published_parts}
use Rattle.cif_feed.proofs.Names.{published_schedule_terms, published_schedules, schedule_entries, slice_cmp, subst, sym, true, ℕ, ◌++◌}
use Rattle.cif_feed.proofs.Names.{◌+◌, ◌==◌, ◌∙◌, ◌≡◌, ◌≤◌}
use Rattle.cif_extract.specs.Clash.{clash_text}
use Rattle.cif_extract.specs.declared.fault.Clash.TheVariants as clash
use Rattle.cif_calendar.specs.Ranks.{IsNumberOf}
use Rattle.cif_feed.{proofs.CutCounts.count-map, proofs.CutCounts.count-same, specs.Dropped.reported_as}
use Rattle.cif_feed.proofs.PreparedRuns.{closed-associations, closed-schedules, cut-prepared, cut-whole}

-- what is found in records that are those of an extract, in the window of its header
found-in : {R K B : Type 0} (h : Holidays) (cmp : K → K → Ordering) (name : K → ℕ → Clash) (stands_for : R → K → Type 0)
    (es fs : List (K × PublishedTerms B)) (first one last other : ℕ) (known all : List DroppedKey) (found : R → Option RisingDays)
    → es ≡ fs → first ≡ one → last ≡ other → AreFound cmp name stands_for (AreClashDays h es first (last + 1)) known all found
    → AreFound cmp name stands_for (AreClashDays h fs one (other + 1)) known all found
found-in h cmp name stands_for es fs first one last other known all found is f l a =
    subst (λ n. AreFound cmp name stands_for (AreClashDays h fs n (other + 1)) known all found) f
    (subst (λ n. AreFound cmp name stands_for (AreClashDays h fs first (n + 1)) known all found) l
    (subst (λ xs. AreFound cmp name stands_for (AreClashDays h xs first (last + 1)) known all found) is a))

pub all-found : (h : Holidays) (x : PublishedExtract) (xs : List PublishedAssociation) (ss : List PublishedSchedule)
    (first last : ℕ) (known between all : List DroppedKey) (associations : AssocKey → Option RisingDays)
    (trains : ℕ → Option RisingDays) → xs ≡ x.associations.items → ss ≡ x.schedules.items → first ≡ x.header.first → last ≡ x.header.last
    → AreFound key_cmp clash.Association (λ (rank key : AssocKey). rank ≡ key)
    (AreClashDays h (published_associations xs) first (last + 1)) known between associations
    → AreFound (slice_cmp nat_cmp) clash.Train IsNumberOf (AreClashDays h (published_schedules ss) first (last + 1)) between all trains
    → AreAllFound h (published_parts x) known all associations trains
all-found h x xs ss first last known between all associations trains same same_also f l a t = (
  between,
  found-in h key_cmp clash.Association (λ (rank key : AssocKey). rank ≡ key) (published_associations xs)
      (published_associations x.associations.items) first x.header.first last x.header.last known between associations
      (ap published_associations same) f l a,
  found-in h (slice_cmp nat_cmp) clash.Train IsNumberOf (published_schedules ss) (published_schedules x.schedules.items) first
      x.header.first last x.header.last between all trains (ap published_schedules same_also) f l t,
)

module _ (h : Holidays) (p : PublishedParts) where
  day : p.header.last ≤ last_day
  day = (let d = last_is_day p.header in omega arith)

  -- what is cut at no day of its keys is the prepared extract
  pub whole-prepared : (x : ExtractParts) → IsCutAt h p (λ k. []) (λ k. []) x → IsPrepared h false p x
  whole-prepared x cut = record {
    header = cut.header;
    tiplocs = cut.tiplocs;
    associations = cut-whole h (published_associations p.associations) (closed-associations p.associations) p.header.first p.header.last day
        (association_entries x.associations) cut.cut_associations;
    schedules = cut-whole h (published_schedules p.schedules) (closed-schedules p.schedules) p.header.first p.header.last day
        (schedule_entries x.schedules) cut.cut_schedules;
  }

  module _ (known all : List DroppedKey) (empty : known ≡ []) (associations : AssocKey → Option RisingDays)
      (trains : ℕ → Option RisingDays) (found : AreAllFound h p known all associations trains) where
    associations-are : (k : AssocKey)
        → AreClashDays h (published_associations p.associations) p.header.first (p.header.last + 1) k (found.1.days k)
    associations-are k = found.1.are.are k

    trains-are : (k : List ℕ) → AreClashDays h (published_schedules p.schedules) p.header.first (p.header.last + 1) k (found.2.days k)
    trains-are k = found.2.are.are k

    are_keys : all ≡ map (reported_as clash.Association found.1.days) found.1.keys
        ++ map (reported_as clash.Train found.2.days) found.2.keys
    are_keys = found.2.added
        ∙ ap (λ l. l ++ map (reported_as clash.Train found.2.days) found.2.keys)
        (found.1.added ∙ ap (λ l. l ++ map (reported_as clash.Association found.1.days) found.1.keys) empty)

    -- they are reported
    pub reported-dropped : (n m : ℕ)
        → ((days : AssocKey → List ℕ) → ReadsAssociations days associations → IsCountOf
        (λ (a : PublishedAssociation). AppliesOnAny (Contains (days a.association.key)) h p.header.last (published_association_terms a))
        p.associations n)
        → ((days : List ℕ → List ℕ) → ReadsTrains days trains → IsCountOf
        (λ (s : PublishedSchedule). AppliesOnAny (Contains (days s.schedule.uid)) h p.header.last (published_schedule_terms s))
        p.schedules m)
        → (dropped : Dropped) → dropped.keys.items ≡ all → dropped.records ≡ n + m → AreDropped h p dropped
    reported-dropped n m count_associations count_trains dropped keys records = record {
      associations = found.1.keys;
      association_days = found.1.days;
      of_associations = record { rising = found.1.are.rising; each = found.1.are.each; are = associations-are };
      trains = found.2.keys;
      train_days = found.2.days;
      of_trains = record { rising = found.2.are.rising; each = found.2.are.each; are = trains-are };
      keys = keys ∙ are_keys;
      clashing_associations = n;
      are_associations = count-map (λ (a : PublishedAssociation). (a.association.key, published_association_terms a))
          (λ (e : AssocKey × PublishedTerms AssocBody). AppliesOnAny
          (IsClashDay h (published_associations p.associations) p.header.first (p.header.last + 1) e.0) h p.header.last e.1)
          p.associations n
          (count-same
          (λ (a : PublishedAssociation). AppliesOnAny (Contains (found.1.days a.association.key))
          h p.header.last (published_association_terms a))
          (λ (a : PublishedAssociation). AppliesOnAny
          (IsClashDay h (published_associations p.associations) p.header.first (p.header.last + 1) a.association.key) h p.header.last
          (published_association_terms a)) (λ (a : PublishedAssociation). (
            λ some. (some.0, ((associations-are a.association.key).are some.0).0 some.1, some.2),
            λ some. (some.0, ((associations-are a.association.key).are some.0).1 some.1, some.2),
          )) p.associations n (count_associations found.1.days found.1.reads));
      clashing_trains = m;
      are_trains = count-map (λ (s : PublishedSchedule). (s.schedule.uid, published_schedule_terms s))
          (λ (e : List ℕ × PublishedTerms BodyLines). AppliesOnAny
          (IsClashDay h (published_schedules p.schedules) p.header.first (p.header.last + 1) e.0) h p.header.last e.1) p.schedules m
          (count-same
          (λ (s : PublishedSchedule). AppliesOnAny (Contains (found.2.days s.schedule.uid)) h p.header.last (published_schedule_terms s))
          (λ (s : PublishedSchedule). AppliesOnAny
          (IsClashDay h (published_schedules p.schedules) p.header.first (p.header.last + 1) s.schedule.uid) h p.header.last
          (published_schedule_terms s)) (λ (s : PublishedSchedule). (
            λ some. (some.0, ((trains-are s.schedule.uid).are some.0).0 some.1, some.2),
            λ some. (some.0, ((trains-are s.schedule.uid).are some.0).1 some.1, some.2),
          )) p.schedules m (count_trains found.2.days found.2.reads));
      records = records;
    }

    -- what is cut at them is the extract without clashes
    pub cut-dropped : (y : ExtractParts) → IsCutAt h p found.1.days found.2.days y → IsPrepared h true p y
    cut-dropped y cut = record {
      header = cut.header;
      tiplocs = cut.tiplocs;
      associations = cut-prepared h (published_associations p.associations) (closed-associations p.associations) p.header.first
          p.header.last day (association_entries y.associations) found.1.days associations-are cut.cut_associations;
      schedules = cut-prepared h (published_schedules p.schedules) (closed-schedules p.schedules) p.header.first p.header.last day
          (schedule_entries y.schedules) found.2.days trains-are cut.cut_schedules;
    }

-- the text of a key with several dates more
pub many-more : (k : DroppedKey) (t : List ℕ) → (k.more == 0) ≡ false → (k.more == 1) ≡ false
    → t ≡ ((clash_text k.clash ++ codes " and ") ++ decimal k.more) ++ codes " more dates" → t ≡ dropped_text k
unfolding dropped_text
many-more k t some several is =
    let one = codes " and 1 more date" in
    let many = codes " and " ++ decimal k.more ++ codes " more dates" in
    let more : more_text k.more ≡ many = ap (λ b. cond b (codes "") (cond (k.more == 1) one many)) some
    ∙ ap (λ b. cond b one many) several in
    is
    ∙ append_assoc (clash_text k.clash ++ codes " and ") (decimal k.more) (codes " more dates")
    ∙ append_assoc (clash_text k.clash) (codes " and ") (decimal k.more ++ codes " more dates")
    ∙ ap (λ l. clash_text k.clash ++ l) (sym more)
