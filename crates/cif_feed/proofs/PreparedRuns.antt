-- What runs by the prepared records is what runs by the published ones.
use Rattle.cif_feed.proofs.Names.{All-contains, All-map, Applies, AreClashDays, AreClosed, AreDropped, AreParts, ArePrepared, Bool}
use Rattle.cif_feed.proofs.Names.{Contains, Contains-append_cases, Contains-append_left, Contains-append_right, Contains-cases}
use Rattle.cif_feed.proofs.Names.{Contains-first, Contains-none, Contains-rest, CountOn, Dropped, ExtractParts, HolidayCode, Holidays}
use Rattle.cif_feed.proofs.Names.{IsClashDay, IsClear, IsHolidayOf, IsPart, IsPreparedAs, IsStop, IsStopAmong, IsTrue, List, None, Option}
use Rattle.cif_feed.proofs.Names.{Part, PublishedAssociation, PublishedParts, PublishedSchedule, PublishedTerms, Records, Runs}
use Rattle.cif_feed.proofs.Names.{SayAsPublished, SayOfDay, SayTheSame, Some, Terms, Wins, [], ap, arith, association_entries, cases_lt}
use Rattle.cif_feed.proofs.Names.{cond, ended, false, false≢true, get_or, inl, inr, last_day, last_is_day, map, max, part_terms}
use Rattle.cif_feed.proofs.Names.{prepared_last, published_associations, published_schedules, refl, schedule_entries, subst, sym, true, ℕ}
use Rattle.cif_feed.proofs.Names.{⊎_elim, ◌+◌, ◌<◌, ◌↔◌, ◌∙◌, ◌∷◌, ◌≡◌, ◌≤◌, ◌⊎◌}
use Rattle.cif_columns.specs.Stp.{letter}
use Rattle.cif_calendar.specs.Keys.{of_key}
use Rattle.cif_feed.proofs.{ListSteps.Contains-from_map, ListSteps.Contains-map, PreparedLists.prepared-same}

-- ---- two sets of records

-- a record of the set that applies on day d, with the letter and the body of r
record IsMatch {B : Type 0} (ys : Records B) (d : ℕ) (r s : Terms B) : Type 0 where
  listed : ys s
  applies : Applies s d
  letters : s.letter ≡ r.letter
  bodies : s.body ≡ r.body

-- each record of the one set that applies on day d has its match in the other
record Match {B : Type 0} (xs ys : Records B) (d : ℕ) : Type 0 where
  found : (r : Terms B) → xs r → Applies r d → (s : Terms B) × IsMatch ys d r s

module _ {B : Type 0} (d : ℕ) where
  match-wins : (xs ys : Records B) → Match xs ys d → Match ys xs d → (r : Terms B) → Wins xs d r
      → (s : Terms B) × Wins ys d s × (s.letter ≡ r.letter) × (s.body ≡ r.body)
  match-wins xs ys to back r wins =
      let (s, found) = to.found r wins.listed wins.applies in (
        s,
        record {
          listed = found.listed;
          applies = found.applies;
          least = λ t listed on. let (u, other) = back.found t listed on in
              let least : letter r.letter ≤ letter u.letter = wins.least u other.listed other.applies in
              omega (arith, ap letter found.letters, ap letter other.letters);
        },
        found.letters,
        found.bodies,
      )

  match-clear : (xs ys : Records B) → Match xs ys d → Match ys xs d → IsClear xs d → IsClear ys d
  match-clear xs ys to back clear = record {
    agree = λ r s r_wins s_wins.
        let (t, t_wins, t_letter, t_body) = match-wins ys xs back to r r_wins in
        let (u, u_wins, u_letter, u_body) = match-wins ys xs back to s s_wins in
        sym t_body ∙ clear.agree t u t_wins u_wins ∙ u_body;
  }

  match-runs : (xs ys : Records B) → Match xs ys d → Match ys xs d → (o : Option B) → Runs xs d o → Runs ys d o
  match-runs xs ys to back None idle = record {
    cancelled = λ r wins. let (s, s_wins, s_letter, s_body) = match-wins ys xs back to r wins in sym s_letter ∙ idle.cancelled s s_wins;
  }
  match-runs xs ys to back (Some b) runs =
      let (s, s_wins, s_letter, s_body) = match-wins xs ys to back runs.winner runs.wins in
      record { winner = s; wins = s_wins; body = s_body ∙ runs.body }

-- ---- the parts of one record

module _ {B : Type 0} (Stops : ℕ → Type 0) (r : Terms B) (last : ℕ) (parts : List Part) (are : AreParts Stops (ended last r) parts)
    (d : ℕ) where
  -- where the record applies and isn't stopped, one of its parts applies
  pub part-applies : d ≤ last → Applies r d → ¬ Stops d → (p : Part) × Contains parts p × Applies (part_terms r p) d
  part-applies within on free = ⊎_elim
      (λ have. (have.0, have.1, record { begun = have.2; unfinished = have.3; on_weekday = on.on_weekday }))
      (λ cut. absurd (free cut.stops))
      (are.covered d on.begun within)

  -- and where a part applies, the record does, and isn't stopped
  pub applies-part : d ≤ r.last → (p : Part) → Contains parts p → Applies (part_terms r p) d → Applies r d × (¬ Stops d)
  applies-part within p listed on =
      let is = All-contains (IsPart Stops (ended last r)) parts p are.are listed in
      let early : r.first ≤ d = (let from : r.first ≤ p.first = is.from in let begun : p.first ≤ d = on.begun in omega arith) in
      let late : d ≤ last = (let upto : p.last ≤ last = is.upto in let unfinished : d ≤ p.last = on.unfinished in omega arith) in (
        record { begun = early; unfinished = within; on_weekday = on.on_weekday },
        λ stops. is.whole d on.begun on.unfinished
            (record { applies = record { begun = early; unfinished = late; on_weekday = on.on_weekday }; stops = stops }),
      )

-- ---- the records of each key

module _ {K B : Type 0} (Stops : K → Option HolidayCode → ℕ → Type 0) (window_last : ℕ) where
  -- the parts of one entry
  record HasParts (e : K × PublishedTerms B) (parts : List Part) : Type 0 where
    are : AreParts (Stops e.0 e.1.code) (ended (prepared_last window_last e.1) e.1.terms) parts

  -- an entry's parts are among the prepared records
  parts-of_entry : (entries : List (K × PublishedTerms B)) (prepared : List (K × Terms B)) → ArePrepared Stops window_last entries prepared
      → (e : K × PublishedTerms B) → Contains entries e
      → (parts : List Part) × HasParts e parts × ((p : Part) → Contains parts p → Contains prepared (e.0, part_terms e.1.terms p))
  parts-of_entry [] prepared none e (k, below, is) = absurd (omega arith)
  parts-of_entry (x ∷ entries) prepared (parts, others, are, joined, rest) e has = ⊎_elim
      (λ first. subst
      (λ (y : K × PublishedTerms B). (ps : List Part) × HasParts y ps
      × ((p : Part) → Contains ps p → Contains prepared (y.0, part_terms y.1.terms p)))
      first (
        parts,
        record { are = are },
        λ p listed. subst (λ (l : List (K × Terms B)). Contains l (x.0, part_terms x.1.terms p)) (sym joined)
            (Contains-append_left (map (λ (q : Part). (x.0, part_terms x.1.terms q)) parts) others (x.0, part_terms x.1.terms p)
            (Contains-map (λ (q : Part). (x.0, part_terms x.1.terms q)) parts p listed)),
      ))
      (λ later.
      let (ps, own, all) = parts-of_entry entries others rest e later in (
        ps,
        own,
        λ p listed. subst (λ (l : List (K × Terms B)). Contains l (e.0, part_terms e.1.terms p)) (sym joined)
            (Contains-append_right (map (λ (q : Part). (x.0, part_terms x.1.terms q)) parts) others (e.0, part_terms e.1.terms p)
            (all p listed)),
      ))
      (Contains-cases x entries e has)

  -- a prepared record is a part of an entry
  entry-of_part : (entries : List (K × PublishedTerms B)) (prepared : List (K × Terms B)) → ArePrepared Stops window_last entries prepared
      → (s : K × Terms B) → Contains prepared s → (e : K × PublishedTerms B) × Contains entries e × (parts : List Part) × HasParts e parts
      × (p : Part) × Contains parts p × (s ≡ (e.0, part_terms e.1.terms p))
  entry-of_part [] prepared none s has = absurd
      (let (k, below, is) = subst (λ (l : List (K × Terms B)). Contains l s) none has in let b : k < 0 = below in omega arith)
  entry-of_part (x ∷ entries) prepared (parts, others, are, joined, rest) s has = ⊎_elim
      (λ own.
      let (p, listed, is) = Contains-from_map (λ (q : Part). (x.0, part_terms x.1.terms q)) parts s own in
      (x, Contains-first x entries, parts, record { are = are }, p, listed, sym is))
      (λ later.
      let (e, found, ps, own, p, listed, is) = entry-of_part entries others rest s later in
      (e, Contains-rest x entries e found, ps, own, p, listed, is))
      (Contains-append_cases (map (λ (q : Part). (x.0, part_terms x.1.terms q)) parts) others s
      (subst (λ (l : List (K × Terms B)). Contains l s) joined has))

  module _ (entries : List (K × PublishedTerms B)) (prepared : List (K × Terms B)) (are : ArePrepared Stops window_last entries prepared)
      (closed : AreClosed entries) (k : K) (d : ℕ) (in_window : d ≤ window_last) (is_day : d ≤ last_day) where
    -- the day isn't after the record's last in the prepared extract
    in_prepared : (r : Terms B) (b : Bool) → r.first ≤ d → d ≤ r.last → d ≤ cond b (max r.first window_last) r.last
    in_prepared r true from upto = omega arith
    in_prepared r false from upto = upto

    in_published : (e : K × PublishedTerms B) → Contains entries e → (b : Bool) → e.1.open_end ≡ b
        → d ≤ cond b (max e.1.terms.first window_last) e.1.terms.last → d ≤ e.1.terms.last
    in_published e found true is within =
        let ends = All-contains (λ (x : K × PublishedTerms B). IsTrue x.1.open_end → x.1.terms.last ≡ last_day) entries e closed found is in
        let last : e.1.terms.last ≡ 36524 = ends in omega arith
    in_published e found false is within = within

    -- the records of the key that aren't stopped on the day
    record NotStopped (r : Terms B) : Type 0 where
      open_end : Bool
      code : Option HolidayCode
      listed : Contains entries (k, record { terms = r; open_end = open_end; code = code })
      free : ¬ Stops k code d

    published-match : Match NotStopped (of_key prepared k) d
    published-match = record {
      found = λ r count on.
          let e : PublishedTerms B = record { terms = r; open_end = count.open_end; code = count.code } in
          let (parts, own, all) = parts-of_entry entries prepared are (k, e) count.listed in
          let (p, listed, applies) =
          part-applies (Stops k e.code) r (prepared_last window_last e) parts own.are d
          (in_prepared r e.open_end on.begun on.unfinished) on count.free in
          (part_terms r p, record { listed = all p listed; applies = applies; letters = refl; bodies = refl });
    }

    prepared-match : Match (of_key prepared k) NotStopped d
    prepared-match = record { found = λ s has on. at s on (entry-of_part entries prepared are (k, s) has) }
      where
        at : (s : Terms B) → Applies s d → (e : K × PublishedTerms B) × Contains entries e × (parts : List Part) × HasParts e parts
            × (p : Part) × Contains parts p × (◌≡◌ {A = K × Terms B} (k, s) (e.0, part_terms e.1.terms p))
            → (r : Terms B) × IsMatch NotStopped d s r
        at s on (e, found, parts, own, p, listed, is) =
            let key : k ≡ e.0 = ap (λ (x : K × Terms B). x.0) is in
            let terms : s ≡ part_terms e.1.terms p = ap (λ (x : K × Terms B). x.1) is in
            let part_on : Applies (part_terms e.1.terms p) d = subst (λ (t : Terms B). Applies t d) terms on in
            let upto : d ≤ prepared_last window_last e.1 =
            (let ends : p.last ≤ prepared_last window_last e.1 =
            (All-contains (IsPart (Stops e.0 e.1.code) (ended (prepared_last window_last e.1) e.1.terms))
            parts p own.are.are listed).upto in
            let unfinished : d ≤ p.last = part_on.unfinished in omega arith) in
            let applies =
            applies-part (Stops e.0 e.1.code) e.1.terms (prepared_last window_last e.1) parts own.are d
            (in_published e found e.1.open_end refl upto) p listed part_on in (
              e.1.terms,
              record {
                listed = record {
                  open_end = e.1.open_end;
                  code = e.1.code;
                  listed = subst (λ (j : K). Contains entries (j, e.1)) (sym key) found;
                  free = subst (λ (j : K). ¬ Stops j e.1.code d) (sym key) applies.1;
                };
                applies = applies.0;
                letters = sym (ap (λ (t : Terms B). t.letter) terms);
                bodies = sym (ap (λ (t : Terms B). t.body) terms);
              },
            )

    -- where the day stops all its records, none of the prepared ones applies
    pub none-applies : ((code : Option HolidayCode) → Stops k code d) → (s : Terms B) → of_key prepared k s → ¬ Applies s d
    none-applies stops s has on =
        let (r, found) = prepared-match.found s has on in found.listed.free (stops found.listed.code)

    -- where it stops those for which it is a holiday, the prepared ones say what the published ones do
    pub says-same : (h : Holidays) → ((code : Option HolidayCode) → Stops k code d ↔ IsHolidayOf h code d)
        → SayTheSame (of_key prepared k) (λ r. CountOn h entries k d r) d
    says-same h stops = record {
      idle = (
        λ none r count on. let (s, m) = back.found r count on in none s m.listed m.applies,
        λ none s has on. let (r, m) = to.found s has on in none r m.listed m.applies,
      );
      winners = (
        record { winner = match-wins d (of_key prepared k) (λ r. CountOn h entries k d r) to back },
        record { winner = match-wins d (λ r. CountOn h entries k d r) (of_key prepared k) back to },
      );
      runs = λ o. (
        match-runs d (of_key prepared k) (λ r. CountOn h entries k d r) to back o,
        match-runs d (λ r. CountOn h entries k d r) (of_key prepared k) back to o,
      );
      clear = (
        match-clear d (of_key prepared k) (λ r. CountOn h entries k d r) to back,
        match-clear d (λ r. CountOn h entries k d r) (of_key prepared k) back to,
      );
    }
      where
        to : Match (of_key prepared k) (λ r. CountOn h entries k d r) d
        to = record {
          found = λ s has on. let (r, m) = prepared-match.found s has on in (
            r,
            record {
              listed = record {
                open_end = m.listed.open_end;
                code = m.listed.code;
                listed = m.listed.listed;
                no_holiday = λ holiday. m.listed.free ((stops m.listed.code).1 holiday);
              };
              applies = m.applies;
              letters = m.letters;
              bodies = m.bodies;
            },
          );
        }

        back : Match (λ r. CountOn h entries k d r) (of_key prepared k) d
        back = record {
          found = λ r count on. published-match.found r (record {
            open_end = count.open_end;
            code = count.code;
            listed = count.listed;
            free = λ stop. count.no_holiday ((stops count.code).0 stop);
          }) on;
        }

-- ---- open ends

pub closed-associations : (xs : List PublishedAssociation) → AreClosed (published_associations xs)
closed-associations xs = All-map (λ e. IsTrue e.1.open_end → e.1.terms.last ≡ last_day) _ xs (λ k d below. (get_or xs k d).closed)

pub closed-schedules : (ss : List PublishedSchedule) → AreClosed (published_schedules ss)
closed-schedules ss = All-map (λ e. IsTrue e.1.open_end → e.1.terms.last ≡ last_day) _ ss (λ k d below. (get_or ss k d).closed)

equal : (m n : ℕ) → (m ≡ n) ⊎ (m ≡ n → ⊥)
equal m n = ⊎_elim
    (λ (less : m < n). inr (λ is. omega arith))
    (λ (upto : n ≤ m). ⊎_elim (λ (less : n < m). inr (λ is. omega arith)) (λ (back : m ≤ n). inl (omega arith)) (cases_lt n m))
    (cases_lt m n)

-- a number is in a list or not
pub in-list : (d : ℕ) (days : List ℕ) → Contains days d ⊎ (¬ Contains days d)
in-list d [] = inr (Contains-none d)
in-list d (e ∷ days) = ⊎_elim
    (λ has. inl (Contains-rest e days d has))
    (λ lacks. ⊎_elim
    (λ (is : e ≡ d). inl (subst (λ n. Contains (e ∷ days) n) is (Contains-first e days)))
    (λ apart. inr (λ has. ⊎_elim apart lacks (Contains-cases e days d has)))
    (equal e d))
    (in-list d days)

module _ {K B : Type 0} (h : Holidays) (entries : List (K × PublishedTerms B)) (closed : AreClosed entries) (first last : ℕ)
    (is_day : last ≤ last_day) where
  abbrev Stop : Bool → K → Option HolidayCode → ℕ → Type 0
  Stop drops = IsStop drops h entries first (last + 1)

  -- what is cut at the clash days of its keys is the prepared extract without clashes
  pub cut-prepared : (prepared : List (K × Terms B)) (days : K → List ℕ) → ((k : K) → AreClashDays h entries first (last + 1) k (days k))
      → ArePrepared (IsStopAmong h days) last entries prepared → ArePrepared (Stop true) last entries prepared
  cut-prepared prepared days are = prepared-same (IsStopAmong h days) (Stop true) (λ k code d. (
    λ stop. ⊎_elim (λ holiday. inl holiday) (λ day. inr (((are k).are d).0 day)) stop,
    λ stop. ⊎_elim (λ holiday. inl holiday) (λ clash. inr (((are k).are d).1 clash)) stop,
  )) last entries prepared

  -- what is cut at no day of its keys is the prepared extract
  pub cut-whole : (prepared : List (K × Terms B)) → ArePrepared (IsStopAmong h (λ (k : K). [])) last entries prepared
      → ArePrepared (Stop false) last entries prepared
  cut-whole prepared = prepared-same (IsStopAmong h (λ (k : K). [])) (Stop false) (λ k code d. (
    λ stop. ⊎_elim (λ holiday. holiday) (λ day. absurd (Contains-none d day)) stop,
    λ holiday. inl holiday,
  )) last entries prepared

  module _ (prepared : List (K × Terms B)) (k : K) (d : ℕ) (from : first ≤ d) (upto : d ≤ last) where
    says-whole : ArePrepared (Stop false) last entries prepared → SayOfDay h false entries prepared first (last + 1) k d
    says-whole are = record {
      same = λ _. says-same (Stop false) last entries prepared are closed k d upto (omega arith) h (λ code. (λ is. is, λ is. is));
      none = λ yes. absurd (false≢true yes);
      clear = λ yes. absurd (false≢true yes);
    }

    says-cut : ArePrepared (Stop true) last entries prepared → (days : List ℕ) → AreClashDays h entries first (last + 1) k days
        → SayOfDay h true entries prepared first (last + 1) k d
    says-cut are days all = record {
      same = λ free. same (λ clash. free (refl, clash));
      none = λ _ clash r has. none clash r has;
      clear = λ _. ⊎_elim
          (λ has. record { agree = λ r s r_wins s_wins. absurd (none ((all.are d).0 has) r r_wins.listed r_wins.applies) })
          (λ lacks. (same (λ clash. lacks ((all.are d).1 clash))).clear.1 (all.clear d from (omega arith) lacks))
          (in-list d days);
    }
      where
        same : ¬ IsClashDay h entries first (last + 1) k d → SayTheSame (of_key prepared k) (CountOn h entries k d) d
        same free = says-same (Stop true) last entries prepared are closed k d upto (omega arith) h (λ code. (
          λ stop. ⊎_elim (λ holiday. holiday) (λ clash. absurd (free clash)) stop,
          λ holiday. inl holiday,
        ))

        none : IsClashDay h entries first (last + 1) k d → (r : Terms B) → of_key prepared k r → ¬ Applies r d
        none clash = none-applies (Stop true) last entries prepared are closed k d upto (omega arith) (λ code. inr clash)

pub says-published : (h : Holidays) (drops : Bool) (p : PublishedParts) (x : ExtractParts) (dropped : Dropped)
    → IsPreparedAs h drops p x dropped → SayAsPublished h drops p x
says-published h false p x dropped is =
    let day : p.header.last ≤ last_day = (let d = last_is_day p.header in omega arith) in record {
      header = is.prepared.header;
      associations = λ k d from upto. says-whole h (published_associations p.associations) (closed-associations p.associations)
          p.header.first p.header.last day (association_entries x.associations) k d from upto is.prepared.associations;
      trains = λ k d from upto. says-whole h (published_schedules p.schedules) (closed-schedules p.schedules)
          p.header.first p.header.last day (schedule_entries x.schedules) k d from upto is.prepared.schedules;
    }
says-published h true p x dropped is =
    let day : p.header.last ≤ last_day = (let d = last_is_day p.header in omega arith) in
    let reported : AreDropped h p dropped = is.reported in record {
      header = is.prepared.header;
      associations = λ k d from upto. says-cut h (published_associations p.associations) (closed-associations p.associations)
          p.header.first p.header.last day (association_entries x.associations) k d from upto is.prepared.associations
          (reported.association_days k) (reported.of_associations.are k);
      trains = λ k d from upto. says-cut h (published_schedules p.schedules) (closed-schedules p.schedules)
          p.header.first p.header.last day (schedule_entries x.schedules) k d from upto is.prepared.schedules
          (reported.train_days k) (reported.of_trains.are k);
    }
