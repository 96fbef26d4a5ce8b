-- What `prepare --winners` answers: a table on the output, and what is reported beside it.
use Rattle.std.specs.Prelude.{Bool, Err, List, Ok, Option, Result, ℕ, ◌≡◌, ◌⊎◌}
use Rattle.cif_columns.specs.declared.{line_reader.TheConstants.MAX_LINES, source.Source.Source}
use Rattle.cif_extract.specs.{ReadCall.IsResultOf, declared.fault.Clash.Clash, declared.fault.Fault.TheVariants.Ambiguous}
use Rattle.cif_rows.specs.declared.format.Format.{Format}
use Rattle.cif_feed.specs.FeedAnswer.{AreHolidaysOf, AreHolidaysRead, IsPrepareFault, PrepareReported}
use Rattle.cif_feed.specs.{Unreached.all_unreached, WrittenWinners.IsWinnersText, WrittenWinners.SpellsPublishedClash, WrittenWinners.winning}
use Rattle.cif_feed.specs.declared.{dropped.Dropped.Dropped, feed_fault.FeedFault.FeedFault, feed_fault.FeedFault.TheVariants.Extract}
use Rattle.cif_feed.specs.declared.{holidays.Holidays.Holidays, published_extract.PublishedExtract.PublishedExtract}

-- `prepare --winners` answers these bytes of holidays and of a published extract by the table of its winners, and reports this
pub record IsWinnersAnswer (drops : Bool) (format : Format) (given : Option (List ℕ)) (bytes text : List ℕ) (reported : PrepareReported)
    : Type 0 where
  pub holidays : Holidays
  pub spelled : AreHolidaysOf given holidays
  pub shown : IsWinnersText holidays drops format MAX_LINES bytes text reported.dropped
  pub unreached : reported.unreached ≡ all_unreached holidays shown.published

-- why it has no answer to these bytes: what `prepare` has none for, or the first clash of the published extract, unless clashes are dropped
abbrev pub IsWinnersRefusal : Bool → Option (List ℕ) → List ℕ → FeedFault → Type 0
IsWinnersRefusal drops given bytes fault = IsPrepareFault given bytes fault
    ⊎ ((clash : Clash) × (fault ≡ Extract (Ambiguous clash)) × (holidays : Holidays) × AreHolidaysOf given holidays
    × SpellsPublishedClash holidays drops MAX_LINES bytes clash)

-- What comes of the sources of holidays and of a published extract: the holidays aren't read, and the other source isn't touched; or they
-- are, and the extract is read and its winners are written.
abbrev pub AreWinnersInTurn : {R : Type 0} → (R → Option (List ℕ)) → (R → Option ℕ) → Bool → Option (Source R) → Option (Source R) →
    Source R → Source R → Result Dropped FeedFault → Type 0
AreWinnersInTurn remaining errors drops holidays holidays_new source source_new result =
    ((fault : FeedFault) × (result ≡ Err fault) × (source_new ≡ source)
    × AreHolidaysRead remaining errors holidays holidays_new (Err fault))
    ⊎ ((h : Holidays) × (kept : Option PublishedExtract) × AreHolidaysRead remaining errors holidays holidays_new (Ok h)
    × IsResultOf remaining errors (winning h drops MAX_LINES kept) source source_new result)
