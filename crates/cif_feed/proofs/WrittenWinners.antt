-- Winners that were written, or why they weren't.
use Rattle.cif_feed.proofs.Names.{Bool, Dropped, Err, Extract, FeedFault, FeedWrites, HandsOn, HasFailed, HasWritten}
use Rattle.cif_feed.proofs.Names.{Holidays, IfSome, IsPublishedOf, List, Makes, MatchResult, Ok, Option, PublishedExtract}
use Rattle.cif_feed.proofs.Names.{Refuses, Result, Sink, Some, [], codes_named, false, known_so, of_any, published_parts, reading_published}
use Rattle.cif_feed.proofs.Names.{refl, true, ℕ, ⊎_elim, ◌≡◌}
use Rattle.cif_columns.specs.Sink.{sink_failed}
use Rattle.cif_extract.specs.declared.fault.Fault.TheVariants as fault
use Rattle.cif_rows.specs.{Appended.IsAppended, declared.format.Format.Format}
use Rattle.cif_weeks.specs.Permanent.{Permanent}
use Rattle.cif_feed.specs.Winners.{winners_table}
use Rattle.cif_feed.specs.WrittenWinners.{AreWinnersAs, IsWinnersText, ShowsWinners, WritesWinners, winning}

-- ---- the sink

module _ {W : Type 0} (contents : W → Option (List ℕ)) (errors : W → Option ℕ) (text : List ℕ) (old new : Sink W)
    (appended : IsAppended contents errors text old new) where
  pub failed-so : sink_failed new ≡ true → HasFailed contents errors text old new
  failed-so failed = ⊎_elim (λ w. let going = w.going in absurd (cc)) (λ f. f) appended

  pub written-so : sink_failed new ≡ false → HasWritten contents errors text old new
  written-so going = ⊎_elim (λ w. w) (λ f. let failed = f.failed in absurd (cc)) appended

-- ---- of known bytes

module _ (h : Holidays) (drops : Bool) (format : Format) (max : ℕ) where
  module _ {W : Type 0} (contents : W → Option (List ℕ)) (errors : W → Option ℕ) (old new : Sink W) (start : Option (List ℕ))
      (p : PublishedExtract) (read : IfSome start (λ bytes. IsPublishedOf (codes_named h) max bytes p)) where
    abbrev table : List (List ℕ × Permanent ℕ) → List ℕ
    table rows = winners_table format (published_parts p).schedules rows

    known_text : (rows : List (List ℕ × Permanent ℕ)) (dropped : Dropped) → AreWinnersAs h drops (published_parts p) rows dropped
        → (Q : List ℕ → Type 0) → ((bytes : List ℕ) → IsWinnersText h drops format max bytes (table rows) dropped → Q bytes)
        → IfSome start Q
    known_text rows dropped are Q so = known_so start (λ bytes. IsPublishedOf (codes_named h) max bytes p) Q
        (λ bytes r. so bytes
        (record { published = published_parts p; spelled = r.spelled; rows = rows; are = are; text_is = refl })) read

    -- the winners of what was read were written
    pub read_winners : (result : Result Dropped FeedFault)
        → WritesWinners contents errors h drops format (published_parts p) old new result
        → (text : List ℕ) × FeedWrites contents errors text old new result
        × IfSome start (λ bytes. ShowsWinners h drops format max bytes text result)
    read_winners (Ok dropped) w = (table w.0, w.2, known_text w.0 dropped w.1 _ (λ bytes is. is))
    read_winners (Err (Extract fault.Write)) w = (table w.0, w.3, known_text w.0 w.1 w.2 _ (λ bytes is. (w.1, is)))
    read_winners (Err (Extract (fault.Ambiguous clash))) w = ([], w.0, of_any start _ (λ bytes. tt))
    read_winners (Err (Extract fault.Memory)) w = ([], w.0, of_any start _ (λ bytes. tt))
    read_winners (Err (Extract _)) w = absurd w.1
    read_winners (Err _) w = absurd w.1

  -- and so there is an answer, or none for a clash, or since a device failed or memory ran out
  pub shows : {W : Type 0} (contents : W → Option (List ℕ)) (errors : W → Option ℕ) (old new : Sink W) (x : PublishedExtract)
      (result : Result Dropped FeedFault) → WritesWinners contents errors h drops format (published_parts x) old new result
      → MatchResult result (Makes (reading_published (codes_named h) max) (winning h drops max (Some x)) x)
      (Refuses (reading_published (codes_named h) max) (winning h drops max (Some x)) x)
  shows contents errors old new x (Ok dropped) w = record { answer = λ bytes is. is; whole = λ whole. tt }
  shows contents errors old new x (Err (Extract fault.Write)) w = record { fault = λ bytes after is. tt; answers = tt; other = refl }
  shows contents errors old new x (Err (Extract (fault.Ambiguous clash))) w = record {
    fault = λ bytes after is.
        record { stays = w.1.0; published = published_parts x; spelled = is.spelled; first = w.1.1 };
    answers = w.1.0;
    other = refl;
  }
  shows contents errors old new x (Err (Extract fault.Memory)) w = record { fault = λ bytes after is. tt; answers = tt; other = refl }
  shows contents errors old new x (Err (Extract _)) w = absurd w.1
  shows contents errors old new x (Err _) w = absurd w.1

-- a fault of the reading is handed on
pub reads-winning : (h : Holidays) (drops : Bool) (max : ℕ) (kept : Option PublishedExtract) (f : FeedFault)
    → HandsOn (reading_published (codes_named h) max) (winning h drops max kept) f
reads-winning h drops max kept (Extract fault.Write) = record { fault = λ bytes after is. tt; answers = λ is. tt; same = refl }
reads-winning h drops max kept (Extract (fault.Ambiguous clash)) =
    record { fault = λ bytes after is. absurd is; answers = λ is. absurd is; same = refl }
reads-winning h drops max kept (Extract _) = record { fault = λ bytes after is. is; answers = λ is. is; same = refl }
reads-winning h drops max kept _ = record { fault = λ bytes after is. is; answers = λ is. is; same = refl }
