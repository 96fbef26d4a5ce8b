-- What an update leaves of a key that it doesn't name.
use Rattle.std.proofs.Common.{All, Bool, Contains, List, Option, ap, false, filter, inl, inr, map, refl, subst, sym, true, ℕ, ⊎_elim, ◌↔◌}
use Rattle.std.proofs.Common.{◌∙◌, ◌≡◌, ◌≢◌}
use Rattle.cif_calendar.proofs.Sets.{IsClash-same, Runs-same}
use Rattle.cif_calendar.specs.Terms.{SameRecords, Terms}
use Rattle.cif_canon.proofs.ChosenRecords.{chosen, chosen-from}
use Rattle.cif_feed.proofs.{ChangeLaws.have_last_word, ListSteps.Contains-from_map, ListSteps.Contains-map}
use Rattle.cif_feed.specs.Changes.{AreAfter, AreOfKey, key_of}
use Rattle.cif_feed.specs.{Published.CountOn, Published.PublishedTerms, declared.changes.RecordChange.RecordChange}
use Rattle.cif_feed.specs.{declared.holidays.Holidays.Holidays}
use Rattle.cif_laws.specs.PublishedFeed.{FeedRuns}

-- ---- what is there

module _ {K R : Type 0} (key : R → K) (old : List R) (changes : List (RecordChange K R)) (new : List R) (are : AreAfter key old changes new)
    (k : K) (none : All (λ c. key_of key c.action ≢ k) changes) where
  test : R → Bool
  test r = are.same (key r) k

  kept : AreOfKey key new k (filter test old)
  unfolding test
  kept = (have_last_word key old changes new are k).kept none (filter test old)
      (record { test = test; tells = λ r. are.tells (key r) k; are = refl })

  -- the records of the key
  pub there-after : (r : R) → key r ≡ k → Contains old r → Contains new r
  unfolding test
  there-after r is has = (chosen-from kept.test new r
      (subst (λ l. Contains l r) kept.are (chosen test old r has ((are.tells (key r) k).1 is)))).0

  pub there-before : (r : R) → key r ≡ k → Contains new r → Contains old r
  unfolding test
  there-before r is has = (chosen-from test old r
      (subst (λ l. Contains l r) (sym kept.are) (chosen kept.test new r has ((kept.tells r).1 is)))).0

-- ---- what a feed says, where the same records count

module _ {K B : Type 0} (h : Holidays) (k : K) (d : ℕ) where
  count-also : (xs ys : List (K × PublishedTerms B)) → ((t : PublishedTerms B) → Contains xs (k, t) → Contains ys (k, t)) → (r : Terms B)
      → CountOn h xs k d r → CountOn h ys k d r
  count-also xs ys to r c = record {
    open_end = c.open_end;
    code = c.code;
    listed = to (record { terms = r; open_end = c.open_end; code = c.code }) c.listed;
    no_holiday = c.no_holiday;
  }

  same-count : (xs ys : List (K × PublishedTerms B)) → ((t : PublishedTerms B) → Contains xs (k, t) → Contains ys (k, t))
      → ((t : PublishedTerms B) → Contains ys (k, t) → Contains xs (k, t)) → SameRecords (CountOn h xs k d) (CountOn h ys k d)
  same-count xs ys to back = record { same = λ r. (count-also xs ys to r, count-also ys xs back r) }

  -- what the one says, the other does
  feed-also : (xs ys : List (K × PublishedTerms B)) → SameRecords (CountOn h xs k d) (CountOn h ys k d)
      → SameRecords (CountOn h ys k d) (CountOn h xs k d) → (drops : Bool) (o : Option B)
      → FeedRuns drops h xs k d o → FeedRuns drops h ys k d o
  feed-also xs ys to back false o runs = Runs-same (CountOn h xs k d) (CountOn h ys k d) to d o runs
  feed-also xs ys to back true o runs = ⊎_elim
      (λ none. inl (IsClash-same (CountOn h xs k d) (CountOn h ys k d) to d none.0, none.1))
      (λ clear. inr (
        λ clash. clear.0 (IsClash-same (CountOn h ys k d) (CountOn h xs k d) back d clash),
        Runs-same (CountOn h xs k d) (CountOn h ys k d) to d o clear.1,
      ))
      runs

-- ---- an update

module _ {K J R B : Type 0} (key : R → K) (part : K → J) (terms : R → PublishedTerms B) (old : List R) (changes : List (RecordChange K R))
    (new : List R) (are : AreAfter key old changes new) (j : J) (none : All (λ c. part (key_of key c.action) ≢ j) changes) where
  abbrev entry : R → J × PublishedTerms B
  entry r = (part (key r), terms r)

  others : (r : R) → part (key r) ≡ j → All (λ c. key_of key c.action ≢ key r) changes
  others r own = λ i c below e. none i c below (ap part e ∙ own)

  -- what is put in place of the others keeps an entry of the key
  entry-kept : (xs ys : List R) → ((r : R) → All (λ c. key_of key c.action ≢ key r) changes → Contains xs r → Contains ys r)
      → (t : PublishedTerms B) → Contains (map entry xs) (j, t) → Contains (map entry ys) (j, t)
  entry-kept xs ys kept t has =
      let (r, there, is) = Contains-from_map entry xs (j, t) has in
      let own = others r (ap (λ (v : J × PublishedTerms B). v.0) is) in
      subst (λ z. Contains (map entry ys) z) is (Contains-map entry ys r (kept r own there))

  pub key-alone : (h : Holidays) (drops : Bool) (d : ℕ) (o : Option B)
      → FeedRuns drops h (map entry old) j d o ↔ FeedRuns drops h (map entry new) j d o
  key-alone h drops d o =
      let after = entry-kept old new (λ r none. there-after key old changes new are (key r) none r refl) in
      let before = entry-kept new old (λ r none. there-before key old changes new are (key r) none r refl) in
      let to = same-count h j d (map entry old) (map entry new) after before in
      let back = same-count h j d (map entry new) (map entry old) before after in (
        feed-also h j d (map entry old) (map entry new) to back drops o,
        feed-also h j d (map entry new) (map entry old) back to drops o,
      )
