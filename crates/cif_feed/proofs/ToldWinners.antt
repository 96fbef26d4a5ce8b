-- What is said of the winners of a published extract, by the clash days that were found.
use Rattle.cif_feed.proofs.Names.{AreAllFound, AreDroppedIf, AssocKey, Bool, Dropped, DroppedKey, Holidays, List, Option, PublishedParts}
use Rattle.cif_feed.proofs.Names.{RisingDays, [], false, refl, true, ℕ, ◌∙◌, ◌≡◌}
use Rattle.cif_weeks.specs.{Permanent.Permanent, Window.window_from}
use Rattle.cif_feed.proofs.{ClashingKeys.reported-dropped, FirstPublishedClash.no-clash, MadeWinners.found_days, MadeWinners.made-winners}
use Rattle.cif_feed.specs.{Steps.Deciding.AppliesAt, Steps.Deciding.AreDecided, Steps.Dropping.AreCounted, WrittenWinners.AreWinnersAs}

module _ (h : Holidays) (p : PublishedParts) (all : List DroppedKey) (associations : AssocKey → Option RisingDays)
    (trains : ℕ → Option RisingDays) (found : AreAllFound h p [] all associations trains) (n : ℕ) (dropped : Dropped)
    (keys : dropped.keys.items ≡ all) (records : dropped.records ≡ n) where
  -- what is reported
  reported-if : (drops : Bool) → (drops ≡ false → all ≡ []) → (drops ≡ false → n ≡ 0)
      → (drops ≡ true → AreCounted h p associations trains n) → AreDroppedIf drops h p dropped
  reported-if true kept none counted =
      let c = counted refl in
      reported-dropped h p [] all refl associations trains found c.one c.other c.of_associations c.of_trains dropped keys
      (records ∙ c.both)
  reported-if false kept none counted = (keys ∙ kept refl, records ∙ none refl)

  -- and of the rows
  pub told-winners : (drops : Bool) (kept : drops ≡ false → all ≡ []) → (drops ≡ false → n ≡ 0)
      → (drops ≡ true → AreCounted h p associations trains n) → (rows : List (List ℕ × Permanent ℕ))
      → AreDecided (window_from p.header.first p.header.last)
      (AppliesAt h (found_days h drops p all associations trains found kept) p.header.last p.schedules) p.schedules rows
      → AreWinnersAs h drops p rows dropped
  told-winners drops kept none counted rows decided = record {
    winners = made-winners h drops p all associations trains found kept rows decided;
    clear = λ stays. no-clash h p all associations trains found (kept stays);
    reported = reported-if drops kept none counted;
  }
