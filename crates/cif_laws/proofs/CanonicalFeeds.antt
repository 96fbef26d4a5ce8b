-- The theorem for feeds: canonical extracts of what is prepared are equal exactly where the feeds say the same.
use Rattle.std.proofs.Common.{Bool, List, ap, subst, sym, ℕ, ◌↔◌, ◌∙◌, ◌≡◌}
use Rattle.cif_canon.proofs.{NormalForms.normal-unique, SameExtracts.one-window}
use Rattle.cif_canon.specs.{Asked.header_window, Asked.window_asked, Meaning.Agree, Meaning.SameMeaning, NormalForm.IsNormalFormOf}
use Rattle.cif_canon.specs.{NormalForm.after_first_line, declared.asked.Asked.Asked}
use Rattle.cif_extract.specs.ExtractParts.{ExtractParts}
use Rattle.cif_feed.specs.{WrittenPrepared.IsPreparedText, declared.dropped.Dropped.Dropped, declared.holidays.Holidays.Holidays}
use Rattle.cif_records.proofs.Headers.{same_header}
use Rattle.cif_weeks.specs.{Window.IsWithin, Window.Window, declared.form.Form.Form}
use Rattle.cif_laws.proofs.PreparedInputs.{columns-of, says, window-of}
use Rattle.cif_laws.specs.Feeds.{FeedsAgree, FeedsSayTheSame, SaysWhatFeedSays, columns_asked}
use Rattle.cif_laws.specs.PublishedFeed.{PublishedFeed, feed_of}

-- ---- extracts that say what feeds say

module _ (window : Window) (x y : ExtractParts) where
  -- what says the same as what says what a feed says does so too
  pub says-same : (p : PublishedFeed) → Agree window x y → SaysWhatFeedSays window x p → SaysWhatFeedSays window y p
  says-same p agree s = record {
    tiplocs = λ t. (λ has. (s.tiplocs t).0 ((agree.tiplocs t).1 has), λ has. (agree.tiplocs t).0 ((s.tiplocs t).1 has));
    associations = λ k d o within. let same = agree.associations.same k d o within.from within.upto in (
      λ runs. (s.associations k d o within).0 (same.1 runs),
      λ feed. same.0 ((s.associations k d o within).1 feed),
    );
    trains = λ k d o within. let same = agree.schedules.same k d o within.from within.upto in (
      λ runs. (s.trains k d o within).0 (same.1 runs),
      λ feed. same.0 ((s.trains k d o within).1 feed),
    );
  }

  module _ (p q : PublishedFeed) (s : SaysWhatFeedSays window x p) (t : SaysWhatFeedSays window y q) where
    pub feeds-agree : Agree window x y → FeedsAgree window p q
    feeds-agree agree = record {
      tiplocs = λ l. (
        λ has. (t.tiplocs l).0 ((agree.tiplocs l).0 ((s.tiplocs l).1 has)),
        λ has. (s.tiplocs l).0 ((agree.tiplocs l).1 ((t.tiplocs l).1 has)),
      );
      associations = λ k d o within. let same = agree.associations.same k d o within.from within.upto in (
        λ feed. (t.associations k d o within).0 (same.0 ((s.associations k d o within).1 feed)),
        λ feed. (s.associations k d o within).0 (same.1 ((t.associations k d o within).1 feed)),
      );
      trains = λ k d o within. let same = agree.schedules.same k d o within.from within.upto in (
        λ feed. (t.trains k d o within).0 (same.0 ((s.trains k d o within).1 feed)),
        λ feed. (s.trains k d o within).0 (same.1 ((t.trains k d o within).1 feed)),
      );
    }

    pub extracts-agree : FeedsAgree window p q → Agree window x y
    extracts-agree agree = record {
      tiplocs = λ l. (
        λ has. (t.tiplocs l).1 ((agree.tiplocs l).0 ((s.tiplocs l).0 has)),
        λ has. (s.tiplocs l).1 ((agree.tiplocs l).1 ((t.tiplocs l).0 has)),
      );
      associations = record {
        same = λ k d o from upto. let within : IsWithin window d = record { from = from; upto = upto } in (
          λ runs. (t.associations k d o within).1 ((agree.associations k d o within).0 ((s.associations k d o within).0 runs)),
          λ runs. (s.associations k d o within).1 ((agree.associations k d o within).1 ((t.associations k d o within).0 runs)),
        );
      };
      schedules = record {
        same = λ k d o from upto. let within : IsWithin window d = record { from = from; upto = upto } in (
          λ runs. (t.trains k d o within).1 ((agree.trains k d o within).0 ((s.trains k d o within).0 runs)),
          λ runs. (s.trains k d o within).1 ((agree.trains k d o within).1 ((t.trains k d o within).0 runs)),
        );
      };
    }

-- ---- one feed

module _ {h : Holidays} {drops : Bool} {limit : ℕ} {bytes text : List ℕ} {dropped : Dropped}
    (a : IsPreparedText h drops limit bytes text dropped) (form : Form) (asked : Asked) (canonical : List ℕ)
    (n : IsNormalFormOf form asked text canonical) where
  -- what is meant says what the feed says
  pub meant-says : SaysWhatFeedSays (window_asked asked a.published.header) n.meant (feed_of a)
  meant-says = says a asked n.accepted.whole n.meant n.accepted.spelled n.accepted.narrowed

  pub meant-window : header_window n.meant.header ≡ window_asked asked a.published.header
  meant-window = window-of a asked n.accepted.whole n.meant n.accepted.spelled n.accepted.narrowed

  pub meant-columns : n.meant.header.columns ≡ columns_asked asked a.published.header
  meant-columns = columns-of a asked n.accepted.whole n.meant n.accepted.spelled n.accepted.narrowed

  -- and so does what is made of it
  pub made-columns : n.canonical.made.header.columns ≡ columns_asked asked a.published.header
  made-columns = sym n.canonical.same.header ∙ meant-columns

  pub made-says : SaysWhatFeedSays (window_asked asked a.published.header) n.canonical.made (feed_of a)
  made-says = says-same (window_asked asked a.published.header) n.meant n.canonical.made (feed_of a)
      (subst (λ w. Agree w n.meant n.canonical.made) meant-window n.canonical.same.agree) meant-says

-- ---- two feeds

module _ {h i : Holidays} {drops other_drops : Bool} {limit other_limit : ℕ} {bytes text other_bytes other_text : List ℕ}
    {dropped other_dropped : Dropped} (a : IsPreparedText h drops limit bytes text dropped)
    (b : IsPreparedText i other_drops other_limit other_bytes other_text other_dropped) (form : Form) (asked other_asked : Asked)
    (canonical other : List ℕ) (n : IsNormalFormOf form asked text canonical) (m : IsNormalFormOf form other_asked other_text other) where
  abbrev window : Window
  window = window_asked asked a.published.header

  other-says : window ≡ window_asked other_asked b.published.header → SaysWhatFeedSays window m.meant (feed_of b)
  other-says same = subst (λ w. SaysWhatFeedSays w m.meant (feed_of b)) (sym same) (meant-says b form other_asked other m)

  to-feeds : SameMeaning n.meant m.meant → FeedsSayTheSame asked (feed_of a) other_asked (feed_of b)
  to-feeds same =
      let windows = sym (meant-window a form asked canonical n) ∙ one-window n.meant m.meant same
      ∙ meant-window b form other_asked other m in record {
        header = sym (meant-columns a form asked canonical n) ∙ same.header ∙ meant-columns b form other_asked other m;
        agree = feeds-agree window n.meant m.meant (feed_of a) (feed_of b) (meant-says a form asked canonical n) (other-says windows)
            (subst (λ w. Agree w n.meant m.meant) (meant-window a form asked canonical n) same.agree);
      }

  from-feeds : FeedsSayTheSame asked (feed_of a) other_asked (feed_of b) → SameMeaning n.meant m.meant
  from-feeds same =
      let columns = meant-columns a form asked canonical n ∙ same.header ∙ sym (meant-columns b form other_asked other m) in
      let windows = sym (meant-window a form asked canonical n) ∙ ap header_window (same_header n.meant.header m.meant.header columns)
      ∙ meant-window b form other_asked other m in record {
        header = columns;
        agree = subst (λ w. Agree w n.meant m.meant) (sym (meant-window a form asked canonical n))
            (extracts-agree window n.meant m.meant (feed_of a) (feed_of b) (meant-says a form asked canonical n) (other-says windows)
            same.agree);
      }

  pub feeds-unique : (canonical ≡ other) ↔ FeedsSayTheSame asked (feed_of a) other_asked (feed_of b)
  feeds-unique =
      let unique = (normal-unique form m.meant other m.canonical).whole asked text canonical n in
      (λ same. to-feeds (unique.0 same), λ same. unique.1 (from-feeds same))

  pub feeds-after_header : window ≡ window_asked other_asked b.published.header
      → (after_first_line canonical ≡ after_first_line other) ↔ FeedsAgree window (feed_of a) (feed_of b)
  feeds-after_header windows =
      let own = meant-window a form asked canonical n in
      let others = meant-window b form other_asked other m in
      let unique = (normal-unique form m.meant other m.canonical).after_header asked text canonical n (own ∙ windows ∙ sym others) in
      let back = others ∙ sym windows in (
        λ same. feeds-agree window n.meant m.meant (feed_of a) (feed_of b) (meant-says a form asked canonical n) (other-says windows)
            (subst (λ w. Agree w n.meant m.meant) back (unique.0 same)),
        λ agree. unique.1 (subst (λ w. Agree w n.meant m.meant) (sym back)
            (extracts-agree window n.meant m.meant (feed_of a) (feed_of b) (meant-says a form asked canonical n) (other-says windows)
            agree)),
      )
