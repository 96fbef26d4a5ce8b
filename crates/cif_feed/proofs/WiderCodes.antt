-- What is spelled where some holiday codes may stand is spelled alike where all may.
use Rattle.std.proofs.Common.{List, None, Option, Some, ap, map, refl, slice_index, subst, sym, ℕ, ◌++◌, ◌∙◌, ◌∷◌, ◌≡◌, [], codes}
use Rattle.cif_columns.specs.Field.{AllStandIn, StandsIn, columns}
use Rattle.cif_extract.specs.{SpellsExtract.SpellAllBy, declared.extract.Schedule.Schedule}
use Rattle.cif_feed.proofs.FeedSteps.{read_transaction}
use Rattle.cif_feed.proofs.SaidLines.{IsScheduleLine, feed_agrees, schedules_spelled}
use Rattle.cif_feed.proofs.Names.{PublishedParts, code_in, code_of, code_value, if_allowed, is_basic, is_open, schedule_mark, terms_of}
use Rattle.cif_feed.specs.FeedLine.{SpellsBasicBy, column, SpellsInFeed, put_basic_rows, transaction_at}
use Rattle.cif_feed.specs.{FromLines.ArePairs, HolidayCode.all_codes, Marks.MarkParts, Marks.marks_in, Marks.record_mark}
use Rattle.cif_feed.specs.{PublishedParts.SpellPublished, Transaction.transaction_in}
use Rattle.cif_feed.specs.{RecordLines.lines_of, RecordLines.record_lines, SpellsFeed.FeedParts, SpellsFeed.SpellFeed}
use Rattle.cif_feed.specs.declared.{feed_line.Feed.Feed, feed_line.Feed.TheVariants.Full, holidays.HolidayCode.HolidayCode}
use Rattle.cif_feed.specs.declared.{holidays.HolidayCode.TheVariants.E, holidays.HolidayCode.TheVariants.G}
use Rattle.cif_feed.specs.declared.{holidays.HolidayCode.TheVariants.X, holidays.HolidayCodes.HolidayCodes}
use Rattle.cif_feed.specs.declared.{mark.RecordMark.RecordMark, mark.Transaction.Transaction}
use Rattle.cif_feed.specs.declared.mark.Transaction.TheVariants.{Deleted, New, Revised}
use Rattle.cif_records.specs.declared.{basic.Basic.Basic, record.Record.Record}
use Rattle.cif_records.specs.declared.record.Record.TheVariants as of

-- a code that stands in the column is read there, where all may stand
code_among_all : (code : Option HolidayCode) (l : List ℕ) → StandsIn l (code_value code)
    → if_allowed all_codes (code_in (slice_index l 0)) ≡ code
code_among_all None l is = ap (λ (l : List ℕ). if_allowed all_codes (code_in (slice_index l 0))) is
code_among_all (Some X) l is = ap (λ (l : List ℕ). if_allowed all_codes (code_in (slice_index l 0))) is
code_among_all (Some E) l is = ap (λ (l : List ℕ). if_allowed all_codes (code_in (slice_index l 0))) is
code_among_all (Some G) l is = ap (λ (l : List ℕ). if_allowed all_codes (code_in (slice_index l 0))) is

module _ (feed : Feed) (allowed : HolidayCodes) where
  wider_code : (line : List ℕ) → StandsIn (columns 29 29 line) (code_value (code_of allowed line)) → code_of all_codes line
      ≡ code_of allowed line
  wider_code line = code_among_all (code_of allowed line) (columns 29 29 line)

  wider_basic : (line : List ℕ) (b : Basic) (t : Option Transaction) → SpellsBasicBy allowed t line b → SpellsBasicBy all_codes t line b
  wider_basic line b None s = absurd s
  wider_basic line b (Some Deleted) s = s
  wider_basic line b (Some New) s = (
    subst (λ k. AllStandIn line (put_basic_rows New (is_open 16 line) k (terms_of b) b.detail))
        (sym (wider_code line s.0.1.1.1.1.1.1.0)) s.0,
    s.1,
  )
  wider_basic line b (Some Revised) s = (
    subst (λ k. AllStandIn line (put_basic_rows Revised (is_open 16 line) k (terms_of b) b.detail))
        (sym (wider_code line s.0.1.1.1.1.1.1.0)) s.0,
    s.1,
  )

  wider_line : (line : List ℕ) (r : Record) → SpellsInFeed feed allowed line r → SpellsInFeed feed all_codes line r
  wider_line line (of.Basic b) s = wider_basic line b (transaction_at feed line) s
  wider_line line r s = s

  wider_lines : (lines : List (List ℕ)) (rs : List Record) → SpellAllBy (SpellsInFeed feed allowed) lines rs
      → SpellAllBy (SpellsInFeed feed all_codes) lines rs
  wider_lines [] [] s = tt
  wider_lines (l ∷ lines) (r ∷ rs) s = (wider_line l r s.0, wider_lines lines rs s.1)
  wider_lines _ _ s = absurd s

  -- ---- marks

  same_mark : (line : ℕ × List ℕ) (b : Basic) (t : Option Transaction) → transaction_at feed line.1 ≡ t
      → SpellsBasicBy allowed t line.1 b → schedule_mark allowed line ≡ schedule_mark all_codes line
  same_mark line b None is s = absurd s
  same_mark line b (Some New) is s =
      ap (λ k. record_mark (transaction_in (column 3 line.1)) (is_open 16 line.1) k line) (sym (wider_code line.1 s.0.1.1.1.1.1.1.0))
  same_mark line b (Some Revised) is s =
      ap (λ k. record_mark (transaction_in (column 3 line.1)) (is_open 16 line.1) k line) (sym (wider_code line.1 s.0.1.1.1.1.1.1.0))
  same_mark line b (Some Deleted) is s =
      let read = read_transaction feed line.1 Deleted is in
      ap (λ o. record_mark o (is_open 16 line.1) (code_of allowed line.1) line) read
      ∙ sym (ap (λ o. record_mark o (is_open 16 line.1) (code_of all_codes line.1) line) read)

  same_marks : (ls : List (ℕ × List ℕ)) (ss : List Schedule) → ArePairs (IsScheduleLine (SpellsInFeed feed allowed)) ls ss
      → map (schedule_mark allowed) ls ≡ map (schedule_mark all_codes) ls
  same_marks [] ss p = refl
  same_marks (l ∷ ls) [] p = absurd p
  same_marks (l ∷ ls) (s ∷ ss) p =
      ap (λ m. m ∷ map (schedule_mark allowed) ls) (same_mark l p.0.basic (transaction_at feed l.1) refl p.0.spells)
      ∙ ap (λ ms. schedule_mark all_codes l ∷ ms) (same_marks ls ss p.1)

  pub wider_feed : (cs : List (List ℕ)) (x : FeedParts) → SpellFeed feed allowed cs x → SpellFeed feed all_codes cs x
  wider_feed cs x s = record {
    are_contents = s.are_contents;
    notes_stand = s.notes_stand;
    says = record {
      extract = record {
        records = s.says.extract.records;
        spelled = wider_lines (record_lines cs) s.says.extract.records s.says.extract.spelled;
        are = s.says.extract.are;
      };
      marks = s.says.marks
          ∙ ap (λ (ms : List RecordMark). let m : MarkParts = record (marks_in allowed cs) { schedules = ms } in m)
          (same_marks (lines_of is_basic cs) x.extract.schedules
          (schedules_spelled (SpellsInFeed feed allowed) (feed_agrees feed allowed) cs x.extract s.says.extract));
    };
  }

pub wider_published : (allowed : HolidayCodes) (cs : List (List ℕ)) (p : PublishedParts) → SpellPublished allowed cs p
    → SpellPublished all_codes cs p
wider_published allowed cs p s = record { lines = s.lines; spelled = wider_feed Full allowed cs s.lines s.spelled; says = s.says }
