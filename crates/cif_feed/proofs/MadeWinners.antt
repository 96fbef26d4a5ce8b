-- What decides by the clash days that were found are the winners of a published extract.
use Rattle.cif_feed.proofs.Names.{AreAllFound, AreClashDays, AssocKey, Bool, Contains, Contains-none, DroppedKey, Holidays, IsTrue, List, Option}
use Rattle.cif_feed.proofs.Names.{PublishedParts, RisingDays, [], ap, arith, false, length, length-append, length-map, map, nil_from_length}
use Rattle.cif_feed.proofs.Names.{published_schedules, refl, subst, suc, sym, ℕ, ◌++◌, ◌+◌, ◌<◌, ◌∙◌, ◌≡◌}
use Rattle.std.proofs.Common.{zero}
use Rattle.cif_extract.specs.declared.fault.Clash.TheVariants as clash
use Rattle.cif_feed.specs.Dropped.{reported_as}
use Rattle.cif_weeks.specs.{Permanent.Permanent, Window.window_from}
use Rattle.cif_feed.specs.Steps.Deciding.{AppliesAt, AreDecided}
use Rattle.cif_feed.specs.Winners.{AreWinners}
use Rattle.cif_feed.proofs.FoundDeciders.{for-published, published-for}

none-behind : {A B : Type 0} (xs : List B) (f : A → B) (ys : List A) → xs ++ map f ys ≡ [] → ys ≡ []
none-behind xs f ys is =
    let long : length xs + length ys ≡ 0 =
    sym (length-append xs (map f ys) ∙ ap (λ (n : ℕ). length xs + n) (length-map ys f)) ∙ ap length is in
    nil_from_length ys (omega (arith, long))

module _ (h : Holidays) (drops : Bool) (p : PublishedParts) (all : List DroppedKey) (associations : AssocKey → Option RisingDays)
    (trains : ℕ → Option RisingDays) (found : AreAllFound h p [] all associations trains) (kept : drops ≡ false → all ≡ []) where
  abbrev pub found_days : List ℕ → List ℕ
  found_days = found.2.days

  dropping : IsTrue drops → (k : List ℕ) → AreClashDays h (published_schedules p.schedules) p.header.first (p.header.last + 1) k (found_days k)
  dropping drop k = found.2.are.are k

  keeping : drops ≡ false → (k : List ℕ) → found_days k ≡ []
  keeping keep k =
      let keys : found.2.keys ≡ [] = none-behind found.0 (reported_as clash.Train found_days) found.2.keys (sym found.2.added ∙ kept keep) in
      let none : ¬ Contains found.2.keys k = λ has. Contains-none k (subst (λ (l : List (List ℕ)). Contains l k) keys has) in
      let each = found.2.are.each k in
      nil_from_length (found_days k) (few (length (found_days k)) (λ some. none (each.1 some)))
    where
      few : (n : ℕ) → (0 < n → ⊥) → n ≡ 0
      few zero lacks = refl
      few (suc n) lacks = absurd (lacks (omega arith))

  -- they are the winners
  pub made-winners : (rows : List (List ℕ × Permanent ℕ))
      → AreDecided (window_from p.header.first p.header.last) (AppliesAt h found_days p.header.last p.schedules) p.schedules rows
      → AreWinners h drops p rows
  made-winners rows d = record {
    canonical = d.canonical;
    say = λ k n i within.
        let say = d.say k n i within in (
          λ is. say.0 (published-for h drops p found_days dropping keeping k n within i is),
          λ has. for-published h drops p found_days dropping keeping k n within i (say.1 has),
        );
  }
