-- What the commands show of what is prepared of a feed is what the feed says.
use Rattle.std.proofs.Common.{Bool, List, None, Some, ap, nat_cmp, subst, sym, ℕ, ◌↔◌, ◌∙◌, ◌≡◌, ◌≤◌}
use Rattle.std.specs.Cmp.Lexicographic.{slice_cmp}
use Rattle.cif_calendar.specs.{DayState.IsDayState, Entries.association_entries, Entries.schedule_entries, Keys.of_key, Runs.Runs}
use Rattle.cif_calendar.specs.declared.day_state.DayState.{DayState}
use Rattle.cif_canon.specs.{Accepted.SpellsNarrowed, Asked.header_window, Asked.nothing_asked, Asked.window_asked, declared.asked.Asked.Asked}
use Rattle.cif_canon.proofs.NormalForms.{unasked}
use Rattle.cif_canon.specs.Views.{DayTexts, IsDayListed, IsTrainListed, TrainTexts}
use Rattle.cif_extract.specs.{Body.BodyLines, ExtractParts.ExtractParts, SpellsExtract.BytesSpellWithin}
use Rattle.cif_feed.specs.{WrittenPrepared.IsPreparedText, declared.dropped.Dropped.Dropped, declared.holidays.Holidays.Holidays}
use Rattle.cif_records.specs.declared.header.Header.{Header}
use Rattle.cif_weeks.proofs.PermanentEntries.{runs-applies}
use Rattle.cif_weeks.specs.{Canonical.AreCanonical, Window.IsWithin, Window.Window, declared.form.Form.Form}
use Rattle.cif_laws.proofs.{FeedMeaning.associations-say, FeedMeaning.trains-say, FeedStates.train-stands}
use Rattle.cif_laws.proofs.PreparedInputs.{in-window, is-prepared, own-header, says, window-of}
use Rattle.cif_laws.specs.FeedViews.{AreRecordsOfFeed, AreRunningByFeed, IsBoardRowOfFeed, IsFeedState}
use Rattle.cif_laws.specs.{Feeds.SaysWhatFeedSays, PublishedFeed.feed_of}
use Rattle.cif_views.specs.{Boards.IsBoardRow, declared.board.Board.Board, declared.board.BoardRow.BoardRow}

module _ {h : Holidays} {drops : Bool} {limit : ℕ} {bytes text : List ℕ} {dropped : Dropped}
    (a : IsPreparedText h drops limit bytes text dropped) where
  pub day-of-feed : (max : ℕ) (x : ExtractParts) → BytesSpellWithin max text x → (listed : DayTexts) (d : ℕ) (shown : List ℕ)
      → (view : IsDayListed listed x d shown) → AreRunningByFeed (feed_of a) d view.associations view.trains
  day-of-feed max x spelled listed d shown view =
      let same : x ≡ a.prepared = is-prepared a nothing_asked x spelled.spell in
      let within = subst (λ (v : Header). IsWithin (header_window v) d) (own-header a nothing_asked x spelled.spell)
      view.within in
      record {
        associations_hold = λ k b.
            let says = (associations-say h a.published a.prepared dropped d within.from within.upto drops a.is k).runs (Some b) in
            let runs = subst (λ (w : ExtractParts). Runs (of_key (association_entries w.associations) k) d (Some b)) same in
            let back = subst (λ (w : ExtractParts). Runs (of_key (association_entries w.associations) k) d (Some b)) (sym same) in
            (λ has. says.0 (runs ((view.hold.runs k b).0 has)), λ feed. (view.hold.runs k b).1 (back (says.1 feed)));
        trains_run = λ uid b.
            let says = (trains-say h a.published a.prepared dropped d within.from within.upto drops a.is uid).runs (Some b) in
            let runs = subst (λ (w : ExtractParts). Runs (of_key (schedule_entries w.schedules) uid) d (Some b)) same in
            let back = subst (λ (w : ExtractParts). Runs (of_key (schedule_entries w.schedules) uid) d (Some b)) (sym same) in
            (λ has. says.0 (runs ((view.run.runs uid b).0 has)), λ feed. (view.run.runs uid b).1 (back (says.1 feed)));
      }

  pub whole-of-feed : (max : ℕ) (x : ExtractParts) → BytesSpellWithin max text x
      → SaysWhatFeedSays (header_window x.header) x (feed_of a)
  whole-of-feed max x spelled =
      let header = own-header a nothing_asked x spelled.spell in
      subst (λ (v : Header). SaysWhatFeedSays (header_window v) x (feed_of a)) (sym header)
      (says a nothing_asked x x spelled.spell (unasked x))

  pub row-of-feed : (max : ℕ) (x : ExtractParts) → BytesSpellWithin max text x → (board : Board) (row : BoardRow)
      → IsBoardRow x board row → IsBoardRowOfFeed (feed_of a) x board row
  row-of-feed max x spelled board row is =
      (is, ((whole-of-feed max x spelled).trains row.key.uid row.key.train_date (Some is.body) is.within).0 is.runs)

  pub train-of-feed : (max : ℕ) (asked : Asked) (x : ExtractParts) → SpellsNarrowed max asked x text → (listed : TrainTexts) (form : Form)
      (uid shown : List ℕ) → (view : IsTrainListed listed form x uid shown)
      → AreRecordsOfFeed form (window_asked asked a.published.header) (feed_of a) view.records
  train-of-feed max asked x spelled listed form uid shown view =
      let window = window-of a asked spelled.whole x spelled.spelled.spell spelled.narrowed in
      let says = (says a asked spelled.whole x spelled.spelled.spell spelled.narrowed).trains in
      record {
        canonical = subst (λ (w : Window). AreCanonical (slice_cmp nat_cmp) form w view.records) window view.canonical;
        says = λ u d b within.
            let own = subst (λ (w : Window). IsWithin w d) (sym window) within in
            let same = view.same_meaning.same u d (Some b) own.from own.upto in
            let applies = runs-applies view.records u d b in (
              λ has. (says u d (Some b) within).0 (same.1 (applies.1 has)),
              λ feed. applies.0 (same.0 ((says u d (Some b) within).1 feed)),
            );
      }

  pub state-of-feed : (max : ℕ) (asked : Asked) (x : ExtractParts) → SpellsNarrowed max asked x text → (uid : List ℕ) (d : ℕ)
      (state : DayState) → x.header.first ≤ d → d ≤ x.header.last → IsDayState (of_key (schedule_entries x.schedules) uid) d state
      → IsFeedState (feed_of a) uid d state
  state-of-feed max asked x spelled uid d state from upto is =
      let whole = spelled.whole in
      let n = spelled.narrowed in
      let window = window-of a asked whole x spelled.spelled.spell n in
      let within = subst (λ (w : Window). IsWithin w d) window (record { from = from; upto = upto }) in
      let own = in-window a asked whole x spelled.spelled.spell n d within in
      let schedules = n.schedules ∙ ap (λ (w : ExtractParts). w.schedules) (is-prepared a asked whole spelled.spelled.spell) in
      train-stands h a.published a.prepared dropped d own.from own.upto drops a.is uid state
      (subst (λ xs. IsDayState (of_key (schedule_entries xs) uid) d state) schedules is)
