-- One content more of a feed: the record that is read of it and taken, what the contents say then, and what the reading has come to.
use Rattle.std.proofs.Common.{nat_le}
use Rattle.cif_feed.proofs.Names.{Aa, AllStandIn, Association, BasicTerms, Bool, Bs, Err, Feed, FeedReading, Full, GoesOnPlainly, HasTaken}
use Rattle.cif_feed.proofs.Names.{HasTakenFeed, Hd, HolidayCode, HolidayCodes, IsClosedAt, IsFeedTaken, IsJudged, IsKeepable, IsNoteTaken}
use Rattle.cif_feed.proofs.Names.{IsOwn, IsRecordTaken, IsStopTaken, IsTaken, IsTakenAs, Kind, Li, List, MarkParts, None, Ok, Option}
use Rattle.cif_feed.proofs.Names.{OutOfOrder, Progress, Record, Refusal, Refused, Result, Some, SpellsAssociationBy, SpellsBasicBy}
use Rattle.cif_feed.proofs.Names.{SpellsInFeed, SpellsRecord, Ta, TakeFault, Td, Ti, Transaction, [], and_parts, ap, append-nil, arith}
use Rattle.cif_feed.proofs.Names.{association_mark, association_refusal_by, basic_back, basic_refusal_by, begins_comment, bytes_eq-Decides}
use Rattle.cif_feed.proofs.Names.{code_of, codes, columns, cond, counts_of, ends_open, enumerate_from, false, feed_layouts, feed_refusal_as}
use Rattle.cif_feed.proofs.Names.{filter, filter-append, find, first_of, has_holiday_code, header_behind, header_from, is_association}
use Rattle.cif_feed.proofs.Names.{is_basic, is_comment, is_deleted, is_header, is_identity, is_new, is_note, is_of_tiploc, is_open}
use Rattle.cif_feed.proofs.Names.{is_record_line, is_revised, is_trailer, kind_in, kind_of, kind_read_as, kinds, length, length-append}
use Rattle.cif_feed.proofs.Names.{lines_of, list_any, list_any-append, map, map-append, mark_parts, marks_in, may_stand, ne_eqb, not}
use Rattle.cif_feed.proofs.Names.{not_true, notes_may_stand, one_if, or_none, order_refusal, own_layouts, passed_of, plus_if, progress_of}
use Rattle.cif_feed.proofs.Names.{put_basic_front, put_basic_rows, read_as, record_lines, record_refusal, refl, refusal_as, refusal_at}
use Rattle.cif_feed.proofs.Names.{refused_so, schedule_mark, slice_index, step, subst, sym, take, take-take, taken_behind, tiploc_mark}
use Rattle.cif_feed.proofs.Names.{transaction_as, transaction_at, true, unless, with_counts, with_line, with_passed, ℕ, ◌&&◌, ◌++◌, ◌+◌}
use Rattle.cif_feed.proofs.Names.{◌==◌, ◌||◌, ◌∙◌, ◌∷◌, ◌≡◌, ◌≤◌}
use Rattle.cif_records.{proofs.Basics.detail_read, proofs.Records.kind_there, specs.Checks.are}
use Rattle.cif_records.proofs.Details.{basic_with, stands_by, stands_with}
use Rattle.cif_records.specs.declared.record.Record.TheVariants as of
use Rattle.cif_extract.{proofs.Places.fine_here, specs.declared.reading.TakeFault.TheVariants.Memory}
use Rattle.cif_extract.specs.Steps.Reading as read
use Rattle.cif_feed.proofs.{FeedLines.feed_are, FeedLines.kind_there as feed_kind, ListSteps.enumerate_append}
use Rattle.cif_feed.specs.{FeedLine.column, Marks.put_mark, Marks.record_mark, Steps.FeedLine.ReadsBasic, Transaction.transaction_in}
use Rattle.cif_feed.specs.declared.{feed_line.Feed.TheVariants.Update, mark.Passed.Passed, mark.RecordMark.RecordMark}
use Rattle.cif_feed.specs.declared.{mark.Transaction.TheVariants.New}

-- ---- what the readers of AA and BS find, by the transaction

-- what is judged holds of another fact that follows
judged_by : {T : Type 0} (P Q : T → Type 0) (refusal : Option Refusal) (result : Result T Refusal) → ((value : T) → P value → Q value)
    → IsJudged refusal P result → IsJudged refusal Q result
judged_by P Q refusal (Ok value) so judged = (judged.0, so value judged.1)
judged_by P Q refusal (Err why) so judged = judged

-- a transaction that may stand in the feed is the one in the column
pub read_transaction : (feed : Feed) (line : List ℕ) (t : Transaction) → transaction_at feed line ≡ Some t
    → transaction_in (column 3 line) ≡ Some t
read_transaction Update line t is = is
read_transaction Full line t is = at (are (columns 3 3 line) (codes "N")) refl is
  where
    at : (b : Bool) → b ≡ are (columns 3 3 line) (codes "N") → cond b (Some New) None ≡ Some t → transaction_in (column 3 line) ≡ Some t
    at true e s = ap (λ (l : List ℕ). transaction_in (slice_index l 0)) ((bytes_eq-Decides (columns 3 3 line) (codes "N")).0 (sym e)) ∙ s
    at false e s = absurd (cc)

module _ (feed : Feed) (allowed : HolidayCodes) (number : ℕ) (line : List ℕ) (t : Transaction)
    (is : transaction_at feed line ≡ Some t) where
  mark_read : (open_end : Bool) (code : Option HolidayCode) → record_mark (Some t) open_end code (number, line)
      ≡ record_mark (transaction_in (column 3 line)) open_end code (number, line)
  mark_read open_end code = ap (λ o. record_mark o open_end code (number, line)) (sym (read_transaction feed line t is))

  pub association_read : (result : Result (Association × RecordMark) Refusal)
      → IsJudged (association_refusal_by (Some t) line) (λ read. SpellsAssociationBy (Some t) line read.0
      × (read.1 ≡ record_mark (Some t) (is_open 22 line) None (number, line))) result
      → IsJudged (feed_refusal_as feed allowed (Some Aa) line) (λ read. SpellsInFeed feed allowed line (of.Association read.0)
      × (read.1 ≡ association_mark (number, line))) result
  association_read result judged =
      subst (λ o. IsJudged (association_refusal_by o line) (λ read. SpellsAssociationBy o line read.0
      × (read.1 ≡ association_mark (number, line))) result) (sym is)
      (judged_by _ _ (association_refusal_by (Some t) line) result (λ read p. (p.0, p.1 ∙ mark_read (is_open 22 line) None)) judged)

  -- of a BS the terms are read
  pub basic_read : (result : Result (BasicTerms × RecordMark) Refusal)
      → IsJudged (basic_refusal_by allowed (Some t) line) (λ read. SpellsBasicBy allowed (Some t) line (basic_with read.0 line)
      × (read.1 ≡ record_mark (Some t) (is_open 16 line) (code_of allowed line) (number, line))) result
      → IsJudged (feed_refusal_as feed allowed (Some Bs) line) (λ read. ReadsBasic feed allowed line read.0
      × (read.1 ≡ schedule_mark allowed (number, line))) result
  basic_read result judged =
      subst (λ o. IsJudged (basic_refusal_by allowed o line) (λ read. ReadsBasic feed allowed line read.0
      × (read.1 ≡ schedule_mark allowed (number, line))) result) (sym is)
      (judged_by _ _ (basic_refusal_by allowed (Some t) line) result (λ read p. (
        record {
          basic = basic_with read.0 line;
          terms = refl;
          spells = subst (λ o. SpellsBasicBy allowed o line (basic_with read.0 line)) (sym is) p.0;
          detail = detail_read line (basic_with read.0 line) (stands_by read.0.letter line);
        },
        p.1 ∙ mark_read (is_open 16 line) (code_of allowed line),
      )) judged)

-- those of one that is put
pub basic_put : (allowed : HolidayCodes) (number : ℕ) (line : List ℕ) (t : Transaction) (result : Result (BasicTerms × RecordMark) Refusal)
    → IsJudged (basic_refusal_by allowed (Some New) line) (λ read.
    (AllStandIn line (put_basic_front t (is_open 16 line) (code_of allowed line) read.0) × AllStandIn line (basic_back read.0.letter)
    × IsClosedAt (is_open 16 line) read.0.last)
    × (read.1 ≡ put_mark t (is_open 16 line) (code_of allowed line) (number, line))) result
    → IsJudged (basic_refusal_by allowed (Some New) line) (λ read.
    (AllStandIn line (put_basic_rows t (is_open 16 line) (code_of allowed line) read.0 (basic_with read.0 line).detail)
    × IsClosedAt (is_open 16 line) read.0.last)
    × (read.1 ≡ put_mark t (is_open 16 line) (code_of allowed line) (number, line))) result
basic_put allowed number line t result judged =
    judged_by _ _ (basic_refusal_by allowed (Some New) line) result (λ read p. (
      (stands_with line read.0 (put_basic_front t (is_open 16 line) (code_of allowed line) read.0) p.0.0 p.0.1, p.0.2),
      p.1,
    )) judged

-- ---- records that are taken

-- but for locations the kinds are the lines' own
pub read_back : (feed : Feed) (read : Option Kind) (kind : Kind) → (kind ≡ Ti → ⊥) → kind_read_as feed read ≡ Some kind → read ≡ Some kind
read_back Full read kind other is = is
read_back Update (Some Ta) kind other is = absurd (other (cc))
read_back Update (Some Td) kind other is = absurd (other (cc))
read_back Update read kind other is = is

-- a line of a kind stands where the kind may that it is read as
read_there : (feed : Feed) (kind : Kind) → kind_read_as feed (Some kind) ≡ Some (read_as feed kind)
read_there Full kind = refl
read_there Update Ta = refl
read_there Update Td = refl
read_there Update _ = refl

module _ (feed : Feed) (allowed : HolidayCodes) (line : List ℕ) (before : Progress) where
  -- a line of this kind
  module _ (kind : Kind) (named : Some kind ≡ kind_in line) where
    by_place : refusal_at (feed_layouts feed allowed) before.place line
        ≡ first_of (unless (may_stand before.place (read_as feed kind)) OutOfOrder ∷ feed_refusal_as feed allowed (Some kind) line ∷ [])
    by_place =
        ap (λ k. first_of (order_refusal before.place (kind_read_as feed k) ∷ feed_refusal_as feed allowed k line ∷ [])) (sym named)
        ∙ ap (λ k. first_of (order_refusal before.place k ∷ feed_refusal_as feed allowed (Some kind) line ∷ [])) (read_there feed kind)

    module _ (may : may_stand before.place (read_as feed kind) ≡ true) where
      -- else it is refused for its fields
      pub in_place : refusal_at (feed_layouts feed allowed) before.place line ≡ feed_refusal_as feed allowed (Some kind) line
      in_place = by_place ∙ rw may (or_none (feed_refusal_as feed allowed (Some kind) line))

      -- and a record that it spells is put
      pub put_taken : (r : Record) → SpellsInFeed feed allowed line r → (after : Progress) → IsKeepable r × (after ≡ step before r)
          → IsRecordTaken feed allowed line before (Ok tt) after
      put_taken r spells after is =
          let both : Some (kind_of r) ≡ Some (read_as feed kind) =
          sym (feed_kind feed allowed line r spells) ∙ ap (kind_read_as feed) (sym named) ∙ read_there feed kind in
          let same : kind_of r ≡ read_as feed kind = cc in (
            fine_here (feed_layouts feed allowed) (feed_are feed allowed) before.place line r spells
                (ap (may_stand before.place) same ∙ may),
            (r, spells, is.0, is.1),
          )

  -- a line that is as in an extract of this profile
  own_refusal : (f : Feed) (kind : Option Kind) → IsOwn kind f
      → first_of (order_refusal before.place (kind_read_as f kind) ∷ feed_refusal_as f allowed kind line ∷ [])
      ≡ first_of (order_refusal before.place kind ∷ refusal_as kind line ∷ [])
  own_refusal Full (Some Aa) own = absurd own
  own_refusal Full (Some Bs) own = absurd own
  own_refusal Full _ own = refl
  own_refusal Update (Some Hd) own = absurd own
  own_refusal Update (Some Ta) own = absurd own
  own_refusal Update (Some Td) own = absurd own
  own_refusal Update (Some Aa) own = absurd own
  own_refusal Update (Some Bs) own = absurd own
  own_refusal Update _ own = refl

  own_spells : (r : Record) → IsOwn (Some (kind_of r)) feed → SpellsRecord line r → SpellsInFeed feed allowed line r
  own_spells (of.Header h) own s = absurd own
  own_spells (of.Tiploc t) own s = absurd own
  own_spells (of.Association a) own s = absurd own
  own_spells (of.Basic b) own s = absurd own
  own_spells _ own s = s

  pub own_taken : IsOwn (kind_in line) feed → (result : Result Unit TakeFault) (after : Progress)
      → IsTaken (refusal_at own_layouts before.place line) line before result after → IsRecordTaken feed allowed line before result after
  unfolding record_refusal
  own_taken own result after taken =
      subst (λ refusal. IsTakenAs refusal (SpellsInFeed feed allowed line) before result after) (sym (own_refusal feed (kind_in line) own))
      (refused_so _ (λ (r, spells, keepable, is). (
        r,
        own_spells r (subst (λ k. IsOwn k feed) (kind_there line r spells) own) spells,
        keepable,
        is,
      )) result taken)

-- ---- comments, notes and lines

begins : (c : List ℕ) → is_comment c ≡ true → columns 1 2 c ≡ take 2 (codes "/!!")
unfolding is_comment begins_comment
begins c is =
    let same = (bytes_eq-Decides (codes "/!!") (take 3 c)).0 (and_parts (begins_comment c) (nat_le (length c) 1000) is).0 in
    sym (take-take 2 3 c (omega arith)) ∙ ap (take 2) (sym same)

-- a comment is no note, and names no kind
pub comment_kind : (c : List ℕ) → is_comment c ≡ true → (is_note c ≡ false) × (kind_in c ≡ None)
comment_kind c is = (ap (λ l. are l (codes "TN") || are l (codes "LN")) (begins c is), ap (λ l. find (is_identity l) kinds) (begins c is))

-- and a note names no kind
pub note_kind : (c : List ℕ) → is_note c ≡ true → kind_in c ≡ None
note_kind c = at (are (columns 1 2 c) (codes "TN")) (are (columns 1 2 c) (codes "LN")) refl refl
  where
    named : (letters : List ℕ) → columns 1 2 c ≡ letters → find (is_identity letters) kinds ≡ None → kind_in c ≡ None
    named letters is none = ap (λ l. find (is_identity l) kinds) is ∙ none

    at : (a b : Bool) → a ≡ are (columns 1 2 c) (codes "TN") → b ≡ are (columns 1 2 c) (codes "LN") → (a || b) ≡ true → kind_in c ≡ None
    at true b ea eb is = named (codes "TN") ((bytes_eq-Decides (columns 1 2 c) (codes "TN")).0 (sym ea)) refl
    at false true ea eb is = named (codes "LN") ((bytes_eq-Decides (columns 1 2 c) (codes "LN")).0 (sym eb)) refl
    at false false ea eb is = absurd (cc)

or_false : (a b : Bool) → b ≡ false → (a || b) ≡ a
or_false true b is = refl
or_false false b is = is

-- what names a kind is neither
pub named_line : (c : List ℕ) (kind : Kind) → kind_in c ≡ Some kind → (is_comment c ≡ false) × (is_note c ≡ false)
named_line c kind is = (
  not_true (is_comment c) (λ e. let none = (comment_kind c e).1 in cc),
  not_true (is_note c) (λ e. let none = note_kind c e in cc),
)

-- ---- the line of the header

other_line : (b : Bool) (m n : ℕ) → cond (b && false) m n ≡ n
other_line true m n = refl
other_line false m n = refl

-- one line more
header_more : (n : ℕ) → 1 ≤ n → (cs : List (List ℕ)) (c : List ℕ)
    → header_from n (cs ++ c ∷ []) ≡ header_behind (header_from n cs) (kind_in c) (n + length cs)
header_more n from [] c = at (is_header (kind_in c))
  where
    at : (b : Bool) → cond b n 0 ≡ cond (b && true) (n + 0) 0
    at true = omega arith
    at false = refl
header_more n from (d ∷ cs) c = at (is_header (kind_in d)) (header_more (n + 1) (omega arith) cs c)
  where
    kept : (m k : ℕ) (b : Bool) → 1 ≤ m → cond (b && (m == 0)) k m ≡ m
    kept m k b some = ap (λ v. cond (b && v) k m) (ne_eqb m 0 (λ e. absurd (omega (arith, some, e)))) ∙ other_line b k m

    at : (b : Bool) → header_from (n + 1) (cs ++ c ∷ []) ≡ header_behind (header_from (n + 1) cs) (kind_in c) (n + 1 + length cs)
        → cond b n (header_from (n + 1) (cs ++ c ∷ []))
        ≡ header_behind (cond b n (header_from (n + 1) cs)) (kind_in c) (n + length (d ∷ cs))
    at true more = sym (kept n (n + length (d ∷ cs)) (is_header (kind_in c)) from)
    at false more = more ∙ ap (header_behind (header_from (n + 1) cs) (kind_in c)) (omega arith)

-- ---- what contents say

-- the marks with another count of what was passed over
abbrev with_count : MarkParts → Passed → MarkParts
with_count m passed = record m { passed = passed }

module _ (feed : Feed) (allowed : HolidayCodes) (cs : List (List ℕ)) (c : List ℕ) where
  -- the content with its number
  abbrev here : ℕ × List ℕ
  here = (1 + length cs, c)

  one_more : (p : List ℕ → Bool) → filter p (cs ++ c ∷ []) ≡ filter p cs ++ one_if (p c) c
  one_more p = filter-append p cs (c ∷ [])

  count_more : (p : List ℕ → Bool) → length (filter p (cs ++ c ∷ [])) ≡ plus_if (length (filter p cs)) (p c)
  count_more p = ap length (one_more p) ∙ length-append (filter p cs) (one_if (p c) c) ∙ at (p c)
    where
      at : (b : Bool) → length (filter p cs) + length (one_if b c) ≡ plus_if (length (filter p cs)) b
      at true = refl
      at false = omega arith

  -- whether one of them is
  any_more : (p : List ℕ → Bool) → list_any p (cs ++ c ∷ []) ≡ (list_any p cs || p c)
  any_more p = list_any-append p cs (c ∷ []) ∙ ap (λ b. list_any p cs || b) (or_false (p c) false refl)

  none_more : (p : List ℕ → Bool) → p c ≡ false → list_any p (cs ++ c ∷ []) ≡ list_any p cs
  none_more p is = any_more p ∙ or_false (list_any p cs) (p c) is

  -- how many do what
  counts_more : counts_of (cs ++ c ∷ []) ≡ with_counts (counts_of cs) (kind_in c) c
  counts_more = rw (
    count_more (λ l. is_new (transaction_as (kind_in l) l)),
    count_more (λ l. is_revised (transaction_as (kind_in l) l)),
    count_more (λ l. is_deleted (transaction_as (kind_in l) l)),
    count_more (λ l. ends_open (kind_in l) l),
    count_more (λ l. has_holiday_code (kind_in l) l),
  ) refl

  -- the lines of some kinds, and what is said of each
  said_more : {A : Type 0} (f : ℕ × List ℕ → A) (is : Option Kind → Bool)
      → map f (lines_of is (cs ++ c ∷ [])) ≡ map f (lines_of is cs) ++ one_if (is (kind_in c)) (f here)
  said_more f is =
      let of_kind : ℕ × List ℕ → Bool = λ (line : ℕ × List ℕ). is (kind_in line.1) in
      ap (λ l. map f (filter of_kind l)) (enumerate_append 1 cs (c ∷ []))
      ∙ ap (map f) (filter-append of_kind (enumerate_from 1 cs) (here ∷ []))
      ∙ map-append f (lines_of is cs) (one_if (is (kind_in c)) here)
      ∙ ap (λ l. map f (lines_of is cs) ++ l) (at (is (kind_in c)))
    where
      at : (b : Bool) → map f (one_if b here) ≡ one_if b (f here)
      at true = refl
      at false = refl

  -- how many comments and notes there are
  passed_more : passed_of (cs ++ c ∷ [])
      ≡ record { comments = plus_if (passed_of cs).comments (is_comment c); notes = plus_if (passed_of cs).notes (is_note c) }
  passed_more = rw (count_more is_comment, count_more is_note) refl

  marks_more : marks_in allowed (cs ++ c ∷ [])
      ≡ with_count (with_line (marks_in allowed cs) allowed (kind_in c) here) (passed_of (cs ++ c ∷ []))
  marks_more = rw (
    header_more 1 (omega arith) cs c,
    said_more (λ (line : ℕ × List ℕ). tiploc_mark (kind_in line.1) line) is_of_tiploc,
    said_more association_mark is_association,
    said_more (schedule_mark allowed) is_basic,
    counts_more,
  ) refl

  -- a line of no kind, or of a location on the way, says nothing
  with_nothing : (m : MarkParts) (line : ℕ × List ℕ) → with_line m allowed None line ≡ m
  with_nothing m line = rw (append-nil m.tiplocs, append-nil m.associations, append-nil m.schedules) refl

  -- ---- one more

  pub lines_more : is_record_line c ≡ true → record_lines (cs ++ c ∷ []) ≡ record_lines cs ++ (c ∷ [])
  lines_more is = one_more is_record_line ∙ ap (λ b. filter is_record_line cs ++ one_if b c) is

  pub lines_same : is_record_line c ≡ false → record_lines (cs ++ c ∷ []) ≡ record_lines cs
  lines_same is = one_more is_record_line ∙ ap (λ b. filter is_record_line cs ++ one_if b c) is ∙ append-nil (filter is_record_line cs)

  is_line : is_comment c ≡ false → is_note c ≡ false → is_record_line c ≡ true
  is_line no_comment no_note = ap (λ b. not b && not (is_note c)) no_comment ∙ ap not no_note

  -- what is kept of a line of this number that was taken
  pub record IsLineTaken (number : ℕ) (old new : FeedReading) : Type 0 where
    pub no_comment : is_comment c ≡ false
    pub no_note : is_note c ≡ false
    pub marks : mark_parts new.marks ≡ with_line (mark_parts old.marks) allowed (kind_in c) (number, c)
    pub basic : new.has_basic ≡ (old.has_basic || is_basic (kind_in c))
    pub trailer : new.has_trailer ≡ (old.has_trailer || is_trailer (kind_in c))

  line_step : (number : ℕ) → number ≡ length cs + 1 → (old new : FeedReading) → HasTakenFeed feed allowed cs old
      → IsLineTaken number old new → HasTaken (feed_layouts feed allowed) (record_lines cs ++ (c ∷ [])) (progress_of new.reading)
      → HasTakenFeed feed allowed (cs ++ c ∷ []) new
  line_step number at old new so_far kept taken =
      let numbered : number ≡ 1 + length cs = omega (arith, at) in
      let same : passed_of (cs ++ c ∷ []) ≡ passed_of cs = passed_more ∙ rw (kept.no_comment, kept.no_note) refl in
      record {
        taken = subst (λ ls. HasTaken (feed_layouts feed allowed) ls (progress_of new.reading))
            (sym (lines_more (is_line kept.no_comment kept.no_note))) taken;
        marks = kept.marks ∙ ap (λ (m : MarkParts). with_line m allowed (kind_in c) (number, c)) so_far.marks
            ∙ ap (λ (n : ℕ). with_line (marks_in allowed cs) allowed (kind_in c) (n, c)) numbered
            ∙ ap (with_count (with_line (marks_in allowed cs) allowed (kind_in c) here)) (sym same)
            ∙ sym marks_more;
        basic = kept.basic ∙ ap (λ b. b || is_basic (kind_in c)) so_far.basic ∙ sym (any_more (λ content. is_basic (kind_in content)));
        trailer = kept.trailer ∙ ap (λ b. b || is_trailer (kind_in c)) so_far.trailer
            ∙ sym (any_more (λ content. is_trailer (kind_in content)));
      }

  -- a content that is kept by its count alone, of no kind
  silent_step : is_record_line c ≡ false → kind_in c ≡ None → (old : FeedReading) (p : Passed) → HasTakenFeed feed allowed cs old
      → p ≡ passed_of (cs ++ c ∷ []) → HasTakenFeed feed allowed (cs ++ c ∷ []) (with_passed old p)
  silent_step nothing no_kind old p so_far counted = record {
    taken = subst (λ ls. HasTaken (feed_layouts feed allowed) ls (progress_of old.reading)) (sym (lines_same nothing)) so_far.taken;
    marks = ap (λ m. with_count m p) so_far.marks ∙ ap (with_count (marks_in allowed cs)) counted
        ∙ sym (marks_more ∙ ap (λ k. with_count (with_line (marks_in allowed cs) allowed k here) (passed_of (cs ++ c ∷ []))) no_kind
        ∙ ap (λ m. with_count m (passed_of (cs ++ c ∷ []))) (with_nothing (marks_in allowed cs) here));
    basic = so_far.basic ∙ sym (none_more (λ content. is_basic (kind_in content)) (ap is_basic no_kind));
    trailer = so_far.trailer ∙ sym (none_more (λ content. is_trailer (kind_in content)) (ap is_trailer no_kind));
  }

  -- a comment
  pub comment_step : is_comment c ≡ true → (old new : FeedReading) → HasTakenFeed feed allowed cs old
      → new ≡ with_passed old (record old.marks.passed { comments = old.marks.passed.comments + 1 })
      → HasTakenFeed feed allowed (cs ++ c ∷ []) new
  comment_step comment old new so_far is =
      let (no_note, no_kind) = comment_kind c comment in
      let nothing : is_record_line c ≡ false = ap (λ b. not b && not (is_note c)) comment in
      subst (HasTakenFeed feed allowed (cs ++ c ∷ [])) (sym is) (silent_step nothing no_kind old _ so_far
      (ap (λ (m : MarkParts). let q : Passed = record m.passed { comments = m.passed.comments + 1 } in q) so_far.marks
      ∙ sym (passed_more ∙ rw (comment, no_note) refl)))

  -- a note
  note_step : is_comment c ≡ false → is_note c ≡ true → (old new : FeedReading) → HasTakenFeed feed allowed cs old
      → new ≡ with_passed old (record old.marks.passed { notes = old.marks.passed.notes + 1 })
      → HasTakenFeed feed allowed (cs ++ c ∷ []) new
  note_step no_comment note old new so_far is =
      let nothing : is_record_line c ≡ false = ap (λ b. not b && not (is_note c)) no_comment ∙ ap not note in
      subst (HasTakenFeed feed allowed (cs ++ c ∷ [])) (sym is) (silent_step nothing (note_kind c note) old _ so_far
      (ap (λ (m : MarkParts). let q : Passed = record m.passed { notes = m.passed.notes + 1 } in q) so_far.marks
      ∙ sym (passed_more ∙ rw (no_comment, note) refl)))

  -- ---- what comes of it

  -- the reading knows whether a note may stand
  note_may_stand : (old : FeedReading) → HasTakenFeed feed allowed cs old → notes_may_stand cs ≡ (old.has_basic && not old.has_trailer)
  note_may_stand old so_far =
      ap (λ b. b && not (list_any (λ content. is_trailer (kind_in content)) cs)) (sym so_far.basic)
      ∙ ap (λ b. old.has_basic && not b) (sym so_far.trailer)

  pub note_taken : is_comment c ≡ false → is_note c ≡ true → (result : Result Unit TakeFault) (old new : FeedReading)
      → HasTakenFeed feed allowed cs old → IsNoteTaken old result new → IsFeedTaken feed allowed cs c result new
  note_taken no_comment note (Ok done) old new so_far is = (
    rw note (ap (λ b. unless b OutOfOrder) (note_may_stand old so_far ∙ is.0)),
    note_step no_comment note old new so_far is.1,
  )
  note_taken no_comment note (Err (Refused why)) old new so_far is =
      rw note (ap (λ b. unless b OutOfOrder) (note_may_stand old so_far ∙ is.0) ∙ ap Some (sym is.1))
  note_taken no_comment note (Err Memory) old new so_far is = absurd is

  pub line_taken : (number : ℕ) (old new : FeedReading) → number ≡ length cs + 1 → HasTakenFeed feed allowed cs old
      → IsLineTaken number old new → IsRecordTaken feed allowed c (progress_of old.reading) (Ok tt) (progress_of new.reading)
      → IsFeedTaken feed allowed cs c (Ok tt) new
  line_taken number old new at so_far kept taken =
      let (fine, more) = taken_behind (feed_layouts feed allowed) (feed_are feed allowed) (record_lines cs) c (progress_of old.reading)
      so_far.taken (Ok tt) (progress_of new.reading) taken in
      (rw kept.no_note fine, line_step number at old new so_far kept more)

  -- a plain line of a location on the way
  pub stop_taken : (old new : FeedReading) → HasTakenFeed feed allowed cs old → GoesOnPlainly (progress_of old.reading).place c
      → read.IsTaken (refusal_at own_layouts (progress_of old.reading).place c) c (progress_of old.reading) (Ok tt)
      (progress_of new.reading)
      → new ≡ record old { reading = new.reading } → IsStopTaken feed allowed cs c new
  stop_taken old new so_far plain taken is =
      let kind : kind_in c ≡ Some Li = kind_there c (of.Stop plain.stop) plain.spelled in
      let (no_comment, no_note) = named_line c Li kind in
      let own = own_taken feed allowed c (progress_of old.reading) (rw kind tt) (Ok tt) (progress_of new.reading) taken in
      let both = line_taken (length cs + 1) old new refl so_far (record {
        no_comment = no_comment;
        no_note = no_note;
        marks = ap (λ (r : FeedReading). mark_parts r.marks) is
            ∙ sym (ap (λ k. with_line (mark_parts old.marks) allowed k (length cs + 1, c)) kind
            ∙ with_nothing (mark_parts old.marks) (length cs + 1, c));
        basic = ap (λ (r : FeedReading). r.has_basic) is ∙ sym (or_false old.has_basic (is_basic (kind_in c)) (ap is_basic kind));
        trailer = ap (λ (r : FeedReading). r.has_trailer) is ∙ sym (or_false old.has_trailer (is_trailer (kind_in c)) (ap is_trailer kind));
      }) own in
      record { is_line = plain.is_line; no_comment = no_comment; stands = both.0; taken = both.1 }
