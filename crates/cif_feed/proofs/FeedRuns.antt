-- What the contents of a feed so far have come to, and how its reading ends.
use Rattle.cif_feed.proofs.Names.{All, All-cons, All-head, All-nil, All-tail, AreAllContents, AreContentsToCut, AreContentsToFault}
use Rattle.cif_feed.proofs.Names.{AreContentsToRefusal, AreWholeContentsAndRest, BadTransaction, BeginWithoutComment, Bool, BytesSpellFeed}
use Rattle.cif_feed.proofs.Names.{Err, Extract, Feed, FeedExtract, FeedFault, FeedReading, Full, HasLineReason, HasPassedComment, HasReadOn}
use Rattle.cif_feed.proofs.Names.{HaveRoom, Hd, HolidayCodes, IfErr, IfOk, IfSome, InFeed, IsFeedContent, IsFeedCut, IsFeedFault}
use Rattle.cif_feed.proofs.Names.{IsFeedTaken, IsFirstContent, IsFirstOfFeed, IsLine, IsLineNumber, IsNextBy, IsNextFault, IsNoComment}
use Rattle.cif_feed.proofs.Names.{IsNoTrailer, IsOfFeed, IsOwed, IsReadWhole, IsReadingContents, IsResultOf, IsSomeAnd, Kind, KnownContents}
use Rattle.cif_feed.proofs.Names.{LineFault, LineReads, List, None, NoneOfFeedRefused, NotUpdate, Ok, Option, Refusal, Result, SayFeed}
use Rattle.cif_feed.proofs.Names.{Some, Source, SpellFeed, TakeFault, Unread, Zz, [], answers, ap, append_assoc, append_cancel_left, arith}
use Rattle.cif_feed.proofs.Names.{begins_comment, below_more, codes, cond, contents_given, contents_of, count_by-le-length, counts_of}
use Rattle.cif_feed.proofs.Names.{failed_after, false, fault_for, feed_layouts, feed_parts, feed_refusal, filter, first_of, get_or}
use Rattle.cif_feed.proofs.Names.{get_or-append_seam, get_or_append_left, inl, inr, is_comment, is_feed_read, is_note, is_printable}
use Rattle.cif_feed.proofs.Names.{is_record_line, kind_in, kind_read_as, known_so, length, length-append, length-filter, list_all, nat_eq}
use Rattle.cif_feed.proofs.Names.{nat_lt, nat_tests, ne_eqb, not_full, not_true, notes_may_stand, of_any, option_or, or_none}
use Rattle.cif_feed.proofs.Names.{printable_fact, printable_true, read_on_both, reader_of, reading_content, reading_feed, record_lines}
use Rattle.cif_feed.proofs.Names.{refl, refuses, slice_index_or, source_failed, sym, take, take-append-le, take-append_seam, true}
use Rattle.cif_feed.proofs.Names.{true≢false, unless, unread_of, untaken_fault, ℕ, ◌++◌, ◌+◌, ◌<◌, ◌∙◌, ◌∷◌, ◌≡◌, ◌≢◌, ◌≤◌}
use Rattle.cif_columns.specs.{GivenLines.IsDecidedWithinOrLast, LineReader.given, LineReader.left}
use Rattle.cif_columns.specs.declared.{line.Line.Line, line_reader.LineReader.LineReader, line_reader.TheConstants.MAX_LINES}
use Rattle.cif_columns.specs.declared.refusal.LineFault.TheVariants as line_fault
use Rattle.cif_columns.specs.declared.refusal.Refusal.TheVariants as refusal
use Rattle.cif_extract.specs.Fault.{of_line_fault}
use Rattle.cif_extract.specs.declared.fault.Fault.TheVariants as fault
use Rattle.cif_extract.specs.declared.reading.TakeFault.TheVariants as untaken
use Rattle.cif_feed.proofs.FeedSteps.{comment_kind, named_line}
use Rattle.cif_feed.specs.{FeedRefusal.line_refusal, declared.feed_line.Feed.TheVariants.Update, declared.mark.UpdateCounts.UpdateCounts}

-- ---- why a content is refused

module _ (feed : Feed) (allowed : HolidayCodes) (max : ℕ) where
  -- a comment never is, where it may come
  pub comment_fine : (cs : List (List ℕ)) (c : List ℕ) → is_comment c ≡ true → length cs < max → feed_refusal feed allowed max cs c ≡ None
  unfolding feed_refusal
  comment_fine cs c comment room =
      let few : nat_lt (length cs) max ≡ true = grind (arith, nat_tests) in rw (few, comment) refl

  -- a line is for what it says, and where
  pub line_why : (cs : List (List ℕ)) (c : List ℕ) → IsLine c → is_comment c ≡ false → length cs < max
      → feed_refusal feed allowed max cs c ≡ line_refusal feed allowed cs c
  unfolding feed_refusal
  line_why cs c is_line no_comment room =
      let few : nat_lt (length cs) max ≡ true = grind (arith, nat_tests) in
      let wide : nat_eq (length c) 80 ≡ true = (let w = is_line.width in grind (arith, nat_tests)) in
      rw (few, no_comment, wide, printable_true c is_line.printable)
      (or_none (option_or (line_refusal feed allowed cs c) None) ∙ or_none (line_refusal feed allowed cs c))

  -- what is no line and no comment is for that
  content_why : (cs : List (List ℕ)) (c : List ℕ) (number : ℕ) (why : Refusal) → number ≡ length cs + 1
      → HasLineReason max number c why → (length cs < max → is_comment c ≡ false) → feed_refusal feed allowed max cs c ≡ Some why
  unfolding feed_refusal
  content_why cs c number refusal.TooManyLines is reason no_comment =
      let full : nat_lt (length cs) max ≡ false = grind (arith, nat_tests) in rw full refl
  content_why cs c number refusal.BadLength is reason no_comment =
      let room : length cs < max = omega (arith, reason.0, is) in
      let few : nat_lt (length cs) max ≡ true = grind (arith, nat_tests) in
      rw (few, no_comment room, ne_eqb (length c) 80 reason.1) refl
  content_why cs c number refusal.BadByte is reason no_comment =
      let room : length cs < max = omega (arith, reason.0, is) in
      let few : nat_lt (length cs) max ≡ true = grind (arith, nat_tests) in
      let width = reason.1 in
      let wide : nat_eq (length c) 80 ≡ true = grind (arith, nat_tests) in
      rw (few, no_comment room, wide, not_true (list_all is_printable c) (λ all. reason.2 (printable_fact c all))) refl
  content_why cs c number _ is reason no_comment = absurd reason

  -- its fault has this name for any line
  content_fault : (number : ℕ) (c : List ℕ) (kind : Option Kind) (why : Refusal) → HasLineReason max number c why
      → fault_for feed number kind why ≡ Extract (fault.Refused number why)
  content_fault number c kind refusal.TooManyLines reason = refl
  content_fault number c kind refusal.BadLength reason = refl
  content_fault number c kind refusal.BadByte reason = refl
  content_fault number c kind _ reason = absurd reason

  -- what is said of any fault is said of the one that has this name
  named_fault : (P : FeedFault → Type 0) (number : ℕ) (kind : Option Kind) (why : Refusal)
      → ((w : Refusal) → P (Extract (fault.Refused number w))) → P (NotUpdate number) → P (BadTransaction number)
      → P (fault_for feed number kind why)
  named_fault P number kind refusal.NotFull plain update transaction = at feed kind
    where
      at : (f : Feed) (k : Option Kind) → P (not_full f number k)
      at Full k = plain refusal.NotFull
      at Update None = transaction
      at Update (Some Hd) = update
      at Update (Some _) = transaction
  named_fault P number kind why plain update transaction = plain why

  -- a note that isn't refused may stand
  note_stands : (cs : List (List ℕ)) (c : List ℕ) → feed_refusal feed allowed max cs c ≡ None → is_note c ≡ true → notes_may_stand cs ≡ true
  unfolding feed_refusal
  note_stands cs c none note =
      let no_comment : is_comment c ≡ false = not_true (is_comment c) (λ comment. let other = (comment_kind c comment).0 in cc) in
      at (nat_lt (length cs) max) (nat_eq (length c) 80) (list_all is_printable c) (notes_may_stand cs) (rw (no_comment, note) at none)
    where
      at : (few wide printable may : Bool)
          → first_of (unless few refusal.TooManyLines ∷ first_of (unless wide refusal.BadLength ∷ unless printable refusal.BadByte
          ∷ unless may refusal.OutOfOrder ∷ []) ∷ []) ≡ None
          → may ≡ true
      at true true true true e = refl
      at _ _ _ _ e = absurd (cc)

  -- ---- none is refused

  pub none_more : (cs : List (List ℕ)) (c : List ℕ) → NoneOfFeedRefused feed allowed max cs → feed_refusal feed allowed max cs c ≡ None
      → NoneOfFeedRefused feed allowed max (cs ++ c ∷ [])
  none_more cs c fine none = record { fine = λ k below. at k (omega (arith, length-append cs (c ∷ []))) }
    where
      at : (k : ℕ) → k < length cs + 1 → feed_refusal feed allowed max (take k (cs ++ c ∷ [])) (get_or (cs ++ c ∷ []) k []) ≡ None
      at = below_more (λ k. feed_refusal feed allowed max (take k (cs ++ c ∷ [])) (get_or (cs ++ c ∷ []) k []) ≡ None) (length cs)
          (λ k l. rw (take-append-le k cs (c ∷ []) (omega arith), get_or_append_left cs (c ∷ []) [] k l) (fine.fine k l))
          (rw (take-append_seam cs (c ∷ []), get_or-append_seam cs c [] []) none)

  pub none_none : NoneOfFeedRefused feed allowed max []
  none_none = record { fine = λ k below. absurd (omega arith) }

  -- ---- trailers

  -- a line is a trailer where it is read as one
  as_trailer : (f : Feed) → kind_read_as f (Some Zz) ≡ Some Zz
  as_trailer Full = refl
  as_trailer Update = refl

  silent_one : (c : List ℕ) → is_record_line c ≡ false → kind_in c ≢ Some Zz
  silent_one c silent is =
      let other = named_line c Zz is in
      let says : is_record_line c ≡ true = rw (other.0, other.1) refl in
      true≢false (sym says ∙ silent)

  pub no_trailers : (cs : List (List ℕ)) → All (IsNoTrailer (feed_layouts feed allowed)) (record_lines cs)
      → All (λ c. kind_in c ≢ Some Zz) cs
  no_trailers [] all = All-nil (λ c. kind_in c ≢ Some Zz)
  no_trailers (c ∷ cs) all = at (is_record_line c) refl all (no_trailers cs)
    where
      Other : List ℕ → Type 0
      Other = λ c. kind_in c ≢ Some Zz

      None : List ℕ → Type 0
      None = IsNoTrailer (feed_layouts feed allowed)

      at : (b : Bool) → b ≡ is_record_line c → All None (cond b (c ∷ filter is_record_line cs) (filter is_record_line cs))
          → (All None (record_lines cs) → All Other cs) → All Other (c ∷ cs)
      at true e all more =
          All-cons Other c cs (λ is. All-head None c (record_lines cs) all (ap (kind_read_as feed) is ∙ as_trailer feed))
          (more (All-tail None c (record_lines cs) all))
      at false e all more = All-cons Other c cs (silent_one c (sym e)) (more all)

  -- ---- where a reading stops, and why

  module _ (start : Option (List ℕ)) (cs : List (List ℕ)) (fine : NoneOfFeedRefused feed allowed max cs) where
    -- at a line that is refused
    pub at_feed_line : {R : Type 0} (remaining : R → Option (List ℕ)) (reader : LineReader) (source : Source R) (c : List ℕ) (number : ℕ)
        (why : Refusal) → IsReadingContents IsFeedContent remaining start max reader source (cs ++ c ∷ []) → number ≡ length cs + 1
        → feed_refusal feed allowed max cs c ≡ Some why
        → IfSome start (λ bytes. IsFirstOfFeed feed allowed max (contents_of bytes) (fault_for feed number (kind_in c) why))
    at_feed_line remaining reader source c number why so_far is reason = at start (left remaining reader source) so_far.known
      where
        at : (s rest : Option (List ℕ)) → KnownContents IsFeedContent s (cs ++ c ∷ []) rest
            → IfSome s (λ bytes. IsFirstOfFeed feed allowed max (contents_of bytes) (fault_for feed number (kind_in c) why))
        at None rest known = tt
        at (Some bytes) None known = absurd known
        at (Some bytes) (Some rest) known = inl (record {
          before = cs;
          content = c;
          after = contents_of rest;
          parts = contents_given bytes (cs ++ c ∷ []) rest known ∙ append_assoc cs (c ∷ []) (contents_of rest);
          fine = fine;
          why = why;
          reason = reason;
          is = ap (λ n. fault_for feed n (kind_in c) why) is;
        })

    -- at a fault of the lines
    module _ {R : Type 0} (remaining : R → Option (List ℕ)) (reader : LineReader) (source : Source R)
        (so_far : IsReadingContents IsFeedContent remaining start max reader source cs) (after : Unread) where
      no_comment_there : (bytes rest content : List ℕ) (others : List (List ℕ)) → AreWholeContentsAndRest IsFeedContent bytes cs rest
          → contents_of bytes ≡ cs ++ content ∷ others → BeginWithoutComment rest → is_comment content ≡ false
      no_comment_there bytes rest content others known is none =
          none content others (append_cancel_left cs _ _ (sym (contents_given bytes cs rest known) ∙ is))

      pub at_feed_fault : (fault : LineFault) → IfSome start (λ bytes. AreContentsToFault IsFeedContent InFeed max bytes after cs fault)
          → (fault ≢ line_fault.Read → IsNoComment remaining reader source)
          → IfSome start (λ bytes. IsFeedFault feed allowed max bytes after (Extract (of_line_fault fault)))
      at_feed_fault (line_fault.Refused number why) faults none =
          at start (left remaining reader source) so_far.known (λ room. none (λ e. cc) so_far.reads_on
          (omega (arith, room, so_far.counted, so_far.same_limit))) faults
        where
          at : (s rest : Option (List ℕ)) → KnownContents IsFeedContent s cs rest
              → (length cs < max → IfSome rest BeginWithoutComment)
              → IfSome s (λ bytes. AreContentsToRefusal IsFeedContent max bytes cs number why
              × IsDecidedWithinOrLast IsFeedContent InFeed max bytes after number)
              → IfSome s (λ bytes. IsFeedFault feed allowed max bytes after (Extract (fault.Refused number why)))
          at None rest known none r = tt
          at (Some bytes) None known none r = absurd known
          at (Some bytes) (Some rest) known none r = (
            inl (record {
              before = cs;
              content = r.0.content;
              after = r.0.others;
              parts = r.0.contents;
              fine = fine;
              why = why;
              reason = content_why cs r.0.content number why r.0.next r.0.reason
                  (λ room. no_comment_there bytes rest r.0.content r.0.others known r.0.contents (none room));
              is = sym (content_fault number r.0.content (kind_in r.0.content) why r.0.reason)
                  ∙ ap (λ n. fault_for feed n (kind_in r.0.content) why) r.0.next;
            }),
            r.1,
          )
      at_feed_fault line_fault.Read faults none = known_so start _ _ (λ bytes r. at bytes after.bytes r) faults
        where
          at : (bytes : List ℕ) (unread : Option (List ℕ))
              → IsSomeAnd unread (λ others. AreContentsToCut IsFeedContent InFeed max bytes others cs)
              → IsSomeAnd unread (IsFeedCut feed allowed max bytes)
          at bytes None r = absurd r
          at bytes (Some others) r = record { contents = cs; given = r; fine = fine }

-- the reason for which a line that isn't taken is refused
pub feed_reason : (feed : Feed) (allowed : HolidayCodes) (cs : List (List ℕ)) (c : List ℕ) (s : TakeFault) (why : Refusal) (r : FeedReading)
    → IsFeedTaken feed allowed cs c (Err s) r → s ≡ untaken.Refused why → line_refusal feed allowed cs c ≡ Some why
feed_reason feed allowed cs c (untaken.Refused x) why r taken e = taken ∙ (let same : x ≡ why = cc in ap Some same)
feed_reason feed allowed cs c untaken.Memory why r taken e = cc

-- ---- what a reading comes to

module _ (feed : Feed) (allowed : HolidayCodes) (max : ℕ) {R : Type 0} (remaining : R → Option (List ℕ)) (errors : R → Option ℕ)
    (old new : Source R) where
  abbrev Comes : Result FeedExtract FeedFault → Type 0
  Comes = IsResultOf remaining errors (reading_feed feed allowed max) old new

  -- memory runs out
  pub comes-memory : HasReadOn errors old new → Comes (Err (Extract fault.Memory))
  comes-memory = refuses remaining errors old new (reading_feed feed allowed max) (Extract fault.Memory) (of_any _ _ (λ bytes. tt)) tt

  -- a line isn't taken
  pub comes-untaken : (number : ℕ) (kind : Option Kind) (s : TakeFault) → 1 ≤ number → number ≤ max → HasReadOn errors old new
      → ((why : Refusal) → s ≡ untaken.Refused why → IfSome (remaining (reader_of old)) (λ bytes.
      IsFirstOfFeed feed allowed max (contents_of bytes) (fault_for feed number kind why)
      × IsDecidedWithinOrLast IsFeedContent InFeed max bytes (unread_of remaining new) number))
      → Comes (Err (untaken_fault feed number kind s))
  comes-untaken number kind (untaken.Refused why) first within read_on h =
      let here : IsLineNumber max number = (first, omega arith) in
      refuses remaining errors old new (reading_feed feed allowed max) (fault_for feed number kind why)
      (known_so (remaining (reader_of old)) (λ bytes. IsFirstOfFeed feed allowed max (contents_of bytes) (fault_for feed number kind why)
      × IsDecidedWithinOrLast IsFeedContent InFeed max bytes (unread_of remaining new) number)
      (λ bytes. IsFeedFault feed allowed max bytes (unread_of remaining new) (fault_for feed number kind why))
      (λ bytes. named_fault feed allowed max (λ f. IsFirstOfFeed feed allowed max (contents_of bytes) f
      × IsDecidedWithinOrLast IsFeedContent InFeed max bytes (unread_of remaining new) number
      → IsFeedFault feed allowed max bytes (unread_of remaining new) f)
      number kind why (λ w both. both) (λ both. both) (λ both. both)) (h why refl))
      (named_fault feed allowed max (IsOfFeed max) number kind why (λ w. here) here here)
      (named_fault feed allowed max (λ f. IsOwed {A = FeedExtract} errors is_feed_read old new (Err f)) number kind why
      (λ w. read_on) read_on read_on)
  comes-untaken number kind untaken.Memory first within read_on h = comes-memory read_on

  module _ (cs : List (List ℕ)) (fine : NoneOfFeedRefused feed allowed max cs) where
    -- the next content can't be read
    pub comes-line_fault : (reader : LineReader) (between : Source R)
        → IsReadingContents IsFeedContent remaining (remaining (reader_of old)) max reader between cs → HasReadOn errors old between
        → (count : ℕ) → count ≤ max → (l : LineFault)
        → IfSome (remaining (reader_of old)) (λ bytes. AreContentsToFault IsFeedContent InFeed max bytes (unread_of remaining new) cs l)
        → (l ≢ line_fault.Read → IsNoComment remaining reader between) → IsNextFault count l
        → LineReads {A = Option Line} errors between new (Err l) → Comes (Err (Extract (of_line_fault l)))
    comes-line_fault reader between so_far read_on count within (line_fault.Refused number why) faults none next reads =
        let l = line_fault.Refused number why in
        let is = next.0 in
        refuses remaining errors old new (reading_feed feed allowed max) (Extract (of_line_fault l))
        (at_feed_fault feed allowed max (remaining (reader_of old)) cs fine remaining reader between so_far (unread_of remaining new) l
        faults none) (omega (arith, is), omega (arith, is)) (read_on_both errors old between new read_on reads)
    comes-line_fault reader between so_far read_on count within line_fault.Read faults none next reads =
        refuses remaining errors old new (reading_feed feed allowed max) (Extract fault.Read)
        (at_feed_fault feed allowed max (remaining (reader_of old)) cs fine remaining reader between so_far (unread_of remaining new)
        line_fault.Read faults none) tt (failed_after errors old between new read_on reads)

    -- there is none
    pub comes-end : IfSome (remaining (reader_of old)) (λ bytes. AreAllContents IsFeedContent max bytes cs)
        → IsReadWhole remaining old new → source_failed old ≡ false → HasReadOn errors old new → (number : ℕ) → number ≡ length cs
        → number ≤ max → (result : Result FeedExtract FeedFault) → IfOk result (λ x. SayFeed feed allowed cs (feed_parts x))
        → IfErr result (λ f. f ≡ Extract (fault.Refused (number + 1) refusal.Truncated))
        → IfErr result (λ f. All (IsNoTrailer (feed_layouts feed allowed)) (record_lines cs)) → Comes result
    comes-end all read fresh read_on number is within (Ok x) held truncated unfinished =
        answers remaining errors old new (reading_feed feed allowed max) x
        (known_so (remaining (reader_of old)) (λ bytes. AreAllContents IsFeedContent max bytes cs)
        (λ bytes. BytesSpellFeed feed allowed max bytes (feed_parts x)) (λ bytes a.
        let both = at (contents_of bytes) a.contents a.are_lines a.within in record { spell = both.0; within = both.1 }) all)
        fresh read_on read
      where
        at : (contents : List (List ℕ)) → contents ≡ cs → All IsFeedContent cs → length cs ≤ max
            → (s : SpellFeed feed allowed contents (feed_parts x)) × (length contents ≤ max)
        at contents is are within = (
          rw is (record {
            are_contents = are;
            notes_stand = λ k below note. note_stands feed allowed max (take k cs) (slice_index_or cs k []) (fine.fine k below) note;
            says = held;
          }),
          rw is within,
        )
    comes-end all read fresh read_on number is within (Err f) held truncated unfinished =
        rw truncated
        (refuses remaining errors old new (reading_feed feed allowed max) (Extract (fault.Refused (number + 1) refusal.Truncated))
        (known_so (remaining (reader_of old)) (λ bytes. AreAllContents IsFeedContent max bytes cs)
        (λ bytes. IsFeedFault feed allowed max bytes (unread_of remaining new) (Extract (fault.Refused (number + 1) refusal.Truncated)))
        (λ bytes a. (
          inr (record {
            fine = rw a.contents fine;
            no_trailer = rw a.contents (no_trailers feed allowed max cs unfinished);
            is = ap (λ n. Extract (fault.Refused (n + 1) refusal.Truncated)) (is ∙ ap length (sym a.contents));
          }),
          λ not. absurd (true≢false (sym read.0 ∙ not)),
        )) all)
        (omega arith, omega arith) read_on)

-- some of the contents are at most all
fewer : (p : List ℕ → Bool) (cs : List (List ℕ)) → length (filter p cs) ≤ length cs
fewer p cs = omega (arith, length-filter p cs, count_by-le-length p cs)

-- so one more may be counted
pub room_one : (p : List ℕ → Bool) (cs : List (List ℕ)) (n : ℕ) → n ≡ length (filter p cs) → length cs < MAX_LINES → n < MAX_LINES
room_one p cs n is few = omega (arith, is, fewer p cs, few)

pub room_more : (cs : List (List ℕ)) (n : UpdateCounts) → n ≡ counts_of cs → length cs < MAX_LINES → HaveRoom n
room_more cs n are few = record {
  put = room_one _ cs n.put (ap (λ (v : UpdateCounts). v.put) are) few;
  revised = room_one _ cs n.revised (ap (λ (v : UpdateCounts). v.revised) are) few;
  taken_out = room_one _ cs n.taken_out (ap (λ (v : UpdateCounts). v.taken_out) are) few;
  open_ends = room_one _ cs n.open_ends (ap (λ (v : UpdateCounts). v.open_ends) are) few;
  holiday_codes = room_one _ cs n.holiday_codes (ap (λ (v : UpdateCounts). v.holiday_codes) are) few;
}

-- there are so few, where a reader has given one more
pub few_lines : (reader : LineReader) (cs : List (List ℕ)) (n : ℕ) → given reader ≡ n + 1 → n ≡ length cs → length cs < MAX_LINES
few_lines reader cs n more is = omega (arith, more, is, reader.counted, reader.limited)

-- ---- one content more

bare_comment : is_comment (codes "/!!") ≡ true
unfolding is_comment begins_comment
bare_comment = refl

module _ {R : Type 0} (remaining : R → Option (List ℕ)) (errors : R → Option ℕ) (start : Option (List ℕ)) (max : ℕ) (reader : LineReader)
    (source : Source R) (cs : List (List ℕ)) (so_far : IsReadingContents IsFeedContent remaining start max reader source cs)
    (reader' : LineReader) (source' : Source R) where
  -- a line
  pub feed_line : (line : List ℕ) → IsLine line → IsNextBy remaining errors InFeed reader source (Ok (Some line)) reader' source'
      → IsReadingContents IsFeedContent remaining start max reader' source' (cs ++ line ∷ [])
  feed_line line is_line next =
      reading_content remaining start max reader source cs so_far reader' source' line (λ going.
      known_so (left remaining reader source) _ _
      (λ bytes found. (inl is_line, (found.0, found.1, record { stands = found.2.stands; contents = found.2.contents })))
      (next.answer going)) next.past_now next.limit_now next.counted

  -- a comment; where the bytes aren't known, any
  pub feed_comment : HasPassedComment remaining errors reader source reader' source' → (comment : List ℕ) × (is_comment comment ≡ true)
      × IsReadingContents IsFeedContent remaining start max reader' source' (cs ++ comment ∷ [])
  feed_comment passed =
      let (comment, is, found) = at (left remaining reader source) passed.comment in (
        comment,
        is,
        reading_content remaining start max reader source cs so_far reader' source' comment (λ going. found)
            (passed.past_now ∙ passed.reading) passed.limit_now passed.counted,
      )
    where
      at : (bytes : Option (List ℕ))
          → IfSome bytes (λ b. (content rest : List ℕ) × (is_comment content ≡ true) × (left remaining reader' source' ≡ Some rest)
          × IsFirstContent b content rest)
          → (comment : List ℕ) × (is_comment comment ≡ true) × IfSome bytes (λ b. IsFeedContent comment
          × ((rest : List ℕ) × (left remaining reader' source' ≡ Some rest) × IsFirstContent b comment rest))
      at None found = (codes "/!!", bare_comment, tt)
      at (Some b) found = (found.0, found.2, (inr found.2, (found.1, found.3, found.4)))
