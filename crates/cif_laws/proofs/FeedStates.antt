-- What stands on a day by what is prepared of a feed is what stands by the feed.
use Rattle.std.proofs.Common.{Bool, List, arith, false, inl, inr, refl, subst, sym, true, ℕ, ⊎_elim, ◌+◌, ◌∙◌, ◌≡◌, ◌≤◌, ◌⊎◌}
use Rattle.cif_calendar.proofs.Names.{false≢true}
use Rattle.cif_calendar.specs.{Applies.Applies, Clash.IsClash, DayState.IsDayState, Entries.schedule_entries, Keys.of_key}
use Rattle.cif_calendar.specs.{Terms.Records, Terms.Terms, declared.day_state.DayState.DayState}
use Rattle.cif_calendar.specs.declared.day_state.DayState.TheVariants.{Clash, Letter, NoneApplies}
use Rattle.cif_extract.specs.ExtractParts.{ExtractParts}
use Rattle.cif_feed.proofs.PreparedRuns.{in-list, says-published}
use Rattle.cif_feed.specs.{Dropped.AreClashDays, Prepared.SayTheSame, PreparedDays.SayOfDay, WrittenPrepared.IsPreparedAs}
use Rattle.cif_feed.specs.{declared.dropped.Dropped.Dropped, declared.holidays.Holidays.Holidays}
use Rattle.cif_feed.specs.Published.{CountOn, PublishedTerms}
use Rattle.cif_feed.specs.PublishedParts.{PublishedParts, published_schedules}
use Rattle.cif_laws.proofs.FeedMeaning.{reported}

-- where two sets of records say the same of a day, the same stands on it
module _ {B : Type 0} (xs ys : Records B) (d : ℕ) (same : SayTheSame xs ys d) where
  state-same : (state : DayState) → IsDayState xs d state → IsDayState ys d state
  state-same NoneApplies none = same.idle.0 none
  state-same Clash clash =
      let (r, r_wins, r_letter, r_body) = same.winners.0.winner clash.one clash.one_wins in
      let (s, s_wins, s_letter, s_body) = same.winners.0.winner clash.other clash.other_wins in
      record {
        one = r;
        other = s;
        one_wins = r_wins;
        other_wins = s_wins;
        bodies_differ = λ alike. clash.bodies_differ (sym r_body ∙ alike ∙ s_body);
      }
  state-same (Letter letter) is =
      let (r, r_wins, r_letter, r_body) = same.winners.0.winner is.0.winner is.0.wins in
      (record { winner = r; wins = r_wins; letter_is = r_letter ∙ is.0.letter_is }, same.clear.0 is.1)

-- where no record applies, that stands
module _ {B : Type 0} (xs : Records B) (d : ℕ) (none : (r : Terms B) → xs r → ¬ Applies r d) where
  state-none : (state : DayState) → IsDayState xs d state → state ≡ NoneApplies
  state-none NoneApplies is = refl
  state-none Clash is = absurd (none is.one is.one_wins.listed is.one_wins.applies)
  state-none (Letter letter) is = absurd (none is.0.winner is.0.wins.listed is.0.wins.applies)

module _ {K B : Type 0} (h : Holidays) (entries : List (K × PublishedTerms B)) (prepared : List (K × Terms B)) (first last : ℕ) (k : K)
    (d : ℕ) (from : first ≤ d) (upto : d ≤ last) where
  -- that clashes are dropped, and two winners differ
  abbrev Drops : Bool → Type 0
  Drops drops = (drops ≡ true) × IsClash (CountOn h entries k d) d

  abbrev Stands : Bool → DayState → Type 0
  Stands drops state = (Drops drops × (state ≡ NoneApplies)) ⊎ ((¬ Drops drops) × IsDayState (CountOn h entries k d) d state)

  stands-as-feed : (drops : Bool) → SayOfDay h drops entries prepared first (last + 1) k d
      → (drops ≡ true → (days : List ℕ) × AreClashDays h entries first (last + 1) k days)
      → (state : DayState) → IsDayState (of_key prepared k) d state → Stands drops state
  stands-as-feed false says known state is = inr (
    λ dropped. false≢true dropped.0,
    state-same (of_key prepared k) (CountOn h entries k d) d (says.same (λ both. false≢true both.0)) state is,
  )
  stands-as-feed true says known state is =
      let (days, all) = known refl in
      ⊎_elim
      (λ has. inl (
        (refl, ((all.are d).0 has).clash),
        state-none (of_key prepared k) d (says.none refl ((all.are d).0 has)) state is,
      ))
      (λ lacks. inr (
        λ dropped. lacks ((all.are d).1 (record { from = from; before = omega arith; clash = dropped.1 })),
        state-same (of_key prepared k) (CountOn h entries k d) d (says.same (λ both. lacks ((all.are d).1 both.1))) state is,
      ))
      (in-list d days)

module _ (h : Holidays) (p : PublishedParts) (x : ExtractParts) (dropped : Dropped) (d : ℕ) (from : p.header.first ≤ d)
    (upto : d ≤ p.header.last) (drops : Bool) (is : IsPreparedAs h drops p x dropped) where
  pub train-stands : (uid : List ℕ) (state : DayState) → IsDayState (of_key (schedule_entries x.schedules) uid) d state
      → Stands h (published_schedules p.schedules) (schedule_entries x.schedules) p.header.first p.header.last uid d from upto drops state
  train-stands uid =
      stands-as-feed h (published_schedules p.schedules) (schedule_entries x.schedules) p.header.first p.header.last uid d from upto
      drops ((says-published h drops p x dropped is).trains uid d from upto)
      (λ same. let t = reported drops h p dropped is.reported same in (t.train_days uid, t.of_trains.are uid))
