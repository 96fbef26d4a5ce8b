-- A prepared extract, narrowed to what is asked for, says what the feed says, and has its header.
use Rattle.std.proofs.Common.{Bool, Contains, IfSome, List, None, Option, Some, ap, arith, refl, subst, sym, unwrap_or, ℕ, ◌↔◌, ◌∙◌, ◌≡◌}
use Rattle.std.proofs.Common.{◌≤◌}
use Rattle.cif_calendar.specs.{Clash.IsClear, Entries.association_entries, Entries.schedule_entries, Keys.of_key, Runs.Runs}
use Rattle.cif_canon.specs.{Accepted.IsAcceptedWithin, declared.asked.Asked.Asked}
use Rattle.cif_canon.specs.Asked.{AskedDatesAreWithin, IsNarrowed, header_window, window_asked}
use Rattle.cif_extract.proofs.SpelledBytes.{one_spelled}
use Rattle.cif_extract.specs.{ExtractParts.ExtractParts, SpellsExtract.BytesSpell}
use Rattle.cif_feed.specs.{WrittenPrepared.IsPreparedText, declared.dropped.Dropped.Dropped, declared.holidays.Holidays.Holidays}
use Rattle.cif_records.proofs.Headers.{last_is_day}
use Rattle.cif_records.specs.declared.header.Header.{Header}
use Rattle.cif_weeks.specs.Window.{IsWithin, Window, window_from}
use Rattle.cif_laws.proofs.{FeedMeaning.associations-say, FeedMeaning.trains-say, NarrowedHeaders.windowed-header}
use Rattle.cif_laws.specs.Feeds.{IsFeedAccepted, SaysWhatFeedSays, columns_asked}
use Rattle.cif_laws.specs.PublishedFeed.{AssociationRuns, TrainRuns, feed_of}

-- ---- the window that is asked for lies in the header's

not-before : (o : Option ℕ) (w : Window) → IfSome o (IsWithin w) → w.first ≤ unwrap_or o w.first
not-before None w within = omega arith
not-before (Some d) w within = within.from

not-after : (o : Option ℕ) (w : Window) → IfSome o (IsWithin w) → unwrap_or o w.last ≤ w.last
not-after None w within = omega arith
not-after (Some d) w within = within.upto

pub asked-within : (asked : Asked) (header : Header) → AskedDatesAreWithin asked header → (d : ℕ)
    → IsWithin (window_asked asked header) d → IsWithin (header_window header) d
asked-within asked header within d has =
    let first = not-before asked.from (header_window header) within.from in
    let last = not-after asked.to (header_window header) within.to in
    let from = has.from in
    let upto = has.upto in
    record { from = omega (arith, first, from); upto = omega (arith, last, upto) }

-- ---- what is narrowed of a prepared extract

module _ {h : Holidays} {drops : Bool} {limit : ℕ} {bytes text : List ℕ} {dropped : Dropped}
    (a : IsPreparedText h drops limit bytes text dropped) (asked : Asked) where
  -- the window, and what is asked of it
  module _ (whole : ExtractParts) (spelled : BytesSpell text whole) where
    pub is-prepared : whole ≡ a.prepared
    is-prepared = one_spelled text whole a.prepared spelled a.spells

    pub own-header : whole.header ≡ a.published.header
    own-header = ap (λ (w : ExtractParts). w.header) is-prepared ∙ a.is.prepared.header

  module _ (whole x : ExtractParts) (spelled : BytesSpell text whole) (n : IsNarrowed asked whole x) where
    pub window-of : header_window x.header ≡ window_asked asked a.published.header
    window-of = n.window ∙ ap (window_asked asked) (own-header whole spelled)

    pub columns-of : x.header.columns ≡ columns_asked asked a.published.header
    columns-of = n.columns ∙ ap (columns_asked asked) (own-header whole spelled)

    pub tiplocs-of : x.tiplocs ≡ a.published.tiplocs
    tiplocs-of = n.tiplocs ∙ ap (λ (w : ExtractParts). w.tiplocs) (is-prepared whole spelled) ∙ a.is.prepared.tiplocs

    associations-of : x.associations ≡ a.prepared.associations
    associations-of = n.associations ∙ ap (λ (w : ExtractParts). w.associations) (is-prepared whole spelled)

    schedules-of : x.schedules ≡ a.prepared.schedules
    schedules-of = n.schedules ∙ ap (λ (w : ExtractParts). w.schedules) (is-prepared whole spelled)

    pub in-window : (d : ℕ) → IsWithin (window_asked asked a.published.header) d → IsWithin (header_window a.published.header) d
    in-window = asked-within asked a.published.header (subst (AskedDatesAreWithin asked) (own-header whole spelled) n.within)

    pub says : SaysWhatFeedSays (window_asked asked a.published.header) x (feed_of a)
    says = record {
      tiplocs = λ t. (
        λ has. subst (λ ts. Contains ts t) tiplocs-of has,
        λ has. subst (λ ts. Contains ts t) (sym tiplocs-of) has,
      );
      associations = λ k d o within. let w = in-window d within in
          subst (λ xs. Runs (of_key (association_entries xs) k) d o ↔ AssociationRuns (feed_of a) k d o) (sym associations-of)
          ((associations-say h a.published a.prepared dropped d w.from w.upto drops a.is k).runs o);
      trains = λ k d o within. let w = in-window d within in
          subst (λ xs. Runs (of_key (schedule_entries xs) k) d o ↔ TrainRuns (feed_of a) k d o) (sym schedules-of)
          ((trains-say h a.published a.prepared dropped d w.from w.upto drops a.is k).runs o);
    }

  -- ---- what is accepted

  pub accepted-feed : (max : ℕ) (x : ExtractParts) → IsAcceptedWithin max asked x text → IsFeedAccepted max asked text (feed_of a)
  accepted-feed max x acc =
      let whole = acc.spelled.whole in
      let spelled = acc.spelled.spelled.spell in
      let n = acc.spelled.narrowed in
      let window = window-of whole x spelled n in record {
        lines = acc.spelled.spelled.within;
        within = subst (AskedDatesAreWithin asked) (own-header whole spelled) n.within;
        in_order = subst (λ (hd : Header). (window_asked asked hd).first ≤ (window_asked asked hd).last) (own-header whole spelled)
            n.in_order;
        associations = λ no k d within. let w = in-window whole x spelled n d within in
            let own = subst (λ (v : Window). IsWithin v d) (sym window) within in
            (associations-say h a.published a.prepared dropped d w.from w.upto drops a.is k).clear.0
            (subst (λ xs. IsClear (of_key (association_entries xs) k) d) (associations-of whole x spelled n)
            ((acc.clear.associations.key k).clear d own.from own.upto)) no;
        schedules = λ no k d within. let w = in-window whole x spelled n d within in
            let own = subst (λ (v : Window). IsWithin v d) (sym window) within in
            (trains-say h a.published a.prepared dropped d w.from w.upto drops a.is k).clear.0
            (subst (λ xs. IsClear (of_key (schedule_entries xs) k) d) (schedules-of whole x spelled n)
            ((acc.clear.schedules.key k).clear d own.from own.upto)) no;
      }

  pub feed-accepted : (max : ℕ) → IsFeedAccepted max asked text (feed_of a) → (x : ExtractParts) × IsAcceptedWithin max asked x text
  feed-accepted max f =
      let header = a.published.header in
      let first = (window_asked asked header).first in
      let last = (window_asked asked header).last in
      let ends = not-after asked.to (header_window header) f.within.to in
      let is_day = last_is_day header in
      let (k, windowed) = windowed-header header first last f.in_order (omega (arith, ends, is_day)) in
      let same : a.prepared.header ≡ header = a.is.prepared.header in
      let window : header_window k ≡ window_asked asked header =
      ap (λ (n : ℕ). window_from n k.last) windowed.first_is ∙ ap (window_from first) windowed.last_is in
      let x : ExtractParts = record {
        header = k;
        tiplocs = a.prepared.tiplocs;
        associations = a.prepared.associations;
        schedules = a.prepared.schedules;
      } in
      let within : (d : ℕ) → k.first ≤ d → d ≤ k.last → IsWithin (window_asked asked header) d × IsWithin (header_window header) d =
      λ d from upto.
      let has = subst (λ (v : Window). IsWithin v d) window (record { from = from; upto = upto }) in
      (has, asked-within asked header f.within d has) in (
        x,
        record {
          spelled = record {
            whole = a.prepared;
            spelled = record { spell = a.spells; within = f.lines };
            narrowed = record {
              within = subst (AskedDatesAreWithin asked) (sym same) f.within;
              in_order = subst (λ (hd : Header). (window_asked asked hd).first ≤ (window_asked asked hd).last) (sym same) f.in_order;
              window = window ∙ ap (window_asked asked) (sym same);
              columns = windowed.columns ∙ ap (columns_asked asked) (sym same);
              tiplocs = refl;
              associations = refl;
              schedules = refl;
            };
          };
          clear = record {
            associations = record {
              key = λ key. record {
                clear = λ d from upto. let (has, w) = within d from upto in
                    (associations-say h a.published a.prepared dropped d w.from w.upto drops a.is key).clear.1
                    (λ no. f.associations no key d has);
              };
            };
            schedules = record {
              key = λ key. record {
                clear = λ d from upto. let (has, w) = within d from upto in
                    (trains-say h a.published a.prepared dropped d w.from w.upto drops a.is key).clear.1 (λ no. f.schedules no key d has);
              };
            };
          };
        },
      )
