-- Bytes that spell a published extract, or an update, aren't refused, and spell no other: it is what its lines say.
use Rattle.cif_feed.proofs.Names.{All, All-filter, All-weaker, AreTriples, Association, AssociationKey, BadTransaction, Bool}
use Rattle.cif_feed.proofs.Names.{BytesSpellFeed, BytesSpellPublished, BytesSpellUpdate, Err, Extract, ExtractParts, Feed, FeedExtract}
use Rattle.cif_feed.proofs.Names.{FeedFault, FeedParts, Full, HandsOn, Header, HolidayCode, HolidayCodes, IfErr, IfOk, IsAssociationChange}
use Rattle.cif_feed.proofs.Names.{IsFailure, IsFeedContent, IsFeedFault, IsFeedTruncated, IsFirstOfFeed, IsLine, IsNoTrailer}
use Rattle.cif_feed.proofs.Names.{IsPublishedAssociation, IsPublishedOf, IsPublishedSchedule, IsRefusedContent, IsScheduleChange, IsTrue}
use Rattle.cif_feed.proofs.Names.{IsUpdateOf, List, Makes, MarkParts, None, NotUpdate, Ok, Option, OutOfOrder, PublishedAssociation}
use Rattle.cif_feed.proofs.Names.{PublishedExtract, PublishedParts, PublishedSchedule, RecordChange, Result, SayFeed, SayPublished}
use Rattle.cif_feed.proofs.Names.{SayUpdate, Schedule, ScheduleKey, Some, SpellExtractBy, SpellFeed, SpellPublished, SpellUpdate}
use Rattle.cif_feed.proofs.Names.{SpellsInFeed, Tiploc, Unread, UpdateParts, Zz, [], all_codes, ap, arith, change_by, cond, contents_of}
use Rattle.cif_feed.proofs.Names.{false, feed_layouts, feed_parts, filter-append, get_or, get_or-append_seam, is_comment, is_note}
use Rattle.cif_feed.proofs.Names.{is_record_line, kind_in, last_day, length, length-append, none-some, not, notes_may_stand, one_extract}
use Rattle.cif_feed.proofs.Names.{props, published_parts, reading_feed, reading_published, reading_update, record_lines, refl}
use Rattle.cif_feed.proofs.Names.{refusal_behind, subst, sym, take-append_seam, true, unless, update_parts, ℕ, ⊎_elim, ◌&&◌, ◌++◌, ◌<◌, ◌∙◌}
use Rattle.cif_feed.proofs.Names.{◌∷◌, ◌≡◌, ◌≢◌, ◌≤◌}
use mathlib.Core.HLevel.{Σ_prop_path}
use Rattle.cif_extract.proofs.SpelledLines.{spelled_behind, spelled_trailer}
use Rattle.cif_extract.specs.declared.fault.Fault.TheVariants as fault
use Rattle.cif_feed.proofs.{FeedLines.feed_are, FeedRuns.comment_fine, FeedRuns.line_why, FeedSteps.read_back}
use Rattle.cif_feed.{specs.FeedFault.IsReadAs, specs.FeedRefusal.line_refusal, specs.declared.update.Update.Update}
use Rattle.cif_feed.specs.declared.feed_line.Feed.TheVariants as feed

module _ (feed : Feed) (allowed : HolidayCodes) (max : ℕ) where
  -- contents say one at most
  pub one_feed : (cs : List (List ℕ)) (x y : FeedParts) → SayFeed feed allowed cs x → SayFeed feed allowed cs y → x ≡ y
  one_feed cs x y p q =
      ap (λ (e : ExtractParts). record x { extract = e })
      (one_extract (feed_layouts feed allowed) (feed_are feed allowed) (record_lines cs) x.extract y.extract p.extract q.extract)
      ∙ ap (λ (m : MarkParts). record y { marks = m }) (p.marks ∙ sym q.marks)

  -- the lines of records before and after one
  parts : (before : List (List ℕ)) (c : List ℕ) (after : List (List ℕ)) → is_record_line c ≡ true
      → record_lines (before ++ c ∷ after) ≡ record_lines before ++ c ∷ record_lines after
  parts before c after is =
      filter-append is_record_line before (c ∷ after)
      ∙ ap (λ b. record_lines before ++ cond b (c ∷ record_lines after) (record_lines after)) is

  -- none of them is read as a trailer, where none of the contents is one
  no_trailers : (cs : List (List ℕ)) → All (λ c. kind_in c ≢ Some Zz) cs → All (IsNoTrailer (feed_layouts feed allowed)) (record_lines cs)
  no_trailers cs all =
      All-filter is_record_line (IsNoTrailer (feed_layouts feed allowed)) cs
      (All-weaker (λ c. kind_in c ≢ Some Zz) (IsNoTrailer (feed_layouts feed allowed))
      (λ c other is. other (read_back feed (kind_in c) Zz (λ e. cc) is)) cs all)

  module _ (cs : List (List ℕ)) (x : FeedParts) (within : length cs ≤ max) where
    -- none of the contents is refused
    spelled_refused : (f : FeedFault) → SpellFeed feed allowed cs x → IsRefusedContent feed allowed max cs f → ⊥
    spelled_refused f spells r = at (subst (λ l. SpellFeed feed allowed l x) r.parts spells)
      where
        room : length r.before < max
        room = omega (arith, within, ap length r.parts, length-append r.before (r.content ∷ r.after))

        at : SpellFeed feed allowed (r.before ++ r.content ∷ r.after) x → ⊥
        at s = by (is_comment r.content) (is_note r.content) refl refl
          where
            here : length r.before < length (r.before ++ r.content ∷ r.after)
            here = omega (arith, length-append r.before (r.content ∷ r.after))

            seam : get_or (r.before ++ r.content ∷ r.after) (length r.before) [] ≡ r.content
            seam = get_or-append_seam r.before r.content r.after []

            is : IsFeedContent r.content
            is = subst IsFeedContent seam (s.are_contents (length r.before) [] here)

            is_line : is_comment r.content ≡ false → IsLine r.content
            is_line no_comment = ⊎_elim (λ l. l) (λ comment. absurd (cc)) is

            refused : is_comment r.content ≡ false → line_refusal feed allowed r.before r.content ≡ Some r.why
            refused no_comment = sym (line_why feed allowed max r.before r.content (is_line no_comment) no_comment room) ∙ r.reason

            by : (b n : Bool) → b ≡ is_comment r.content → n ≡ is_note r.content → ⊥
            by true n eb en = none-some _ r.why (comment_fine feed allowed max r.before r.content (sym eb) room) r.reason
            by false true eb en =
                let may : notes_may_stand r.before ≡ true =
                ap notes_may_stand (sym (take-append_seam r.before (r.content ∷ r.after)))
                ∙ s.notes_stand (length r.before) here (ap is_note seam ∙ sym en) in
                let why = refused (sym eb) in
                let stands : line_refusal feed allowed r.before r.content ≡ None =
                ap (λ b. cond b (unless (notes_may_stand r.before) OutOfOrder)
                (refusal_behind (feed_layouts feed allowed) (record_lines r.before) r.content)) (sym en)
                ∙ ap (λ b. unless b OutOfOrder) may in
                none-some _ r.why stands why
            by false false eb en =
                let says : is_record_line r.content ≡ true = ap (λ b. not b && not (is_note r.content)) (sym eb) ∙ ap not (sym en) in
                let fine = spelled_behind (feed_layouts feed allowed) (feed_are feed allowed) (record_lines r.before) r.content
                (record_lines r.after) x.extract (subst (λ ls. SpellExtractBy (SpellsInFeed feed allowed) ls x.extract)
                (parts r.before r.content r.after says) s.says.extract) in
                none-some _ r.why (ap (λ b. cond b (unless (notes_may_stand r.before) OutOfOrder)
                (refusal_behind (feed_layouts feed allowed) (record_lines r.before) r.content)) (sym en) ∙ fine)
                (refused (sym eb))

    -- and one is a trailer
    spelled_whole : (f : FeedFault) → SpellFeed feed allowed cs x → IsFeedTruncated feed allowed max cs f → ⊥
    spelled_whole f s t =
        spelled_trailer (feed_layouts feed allowed) (feed_are feed allowed) (record_lines cs) x.extract s.says.extract
        (no_trailers cs t.no_trailer)

    pub spelled_first : (f : FeedFault) → SpellFeed feed allowed cs x → IsFirstOfFeed feed allowed max cs f → ⊥
    spelled_first f s = ⊎_elim (spelled_refused f s) (spelled_whole f s)

  -- so that no fault blames them
  pub blames_none : (bytes : List ℕ) (x : FeedParts) → BytesSpellFeed feed allowed max bytes x → (after : Unread) (f : FeedFault)
      → IsFeedFault feed allowed max bytes after f → IsFailure f
  blames_none bytes x s after (Extract (fault.Refused line why)) h = absurd (spelled_first (contents_of bytes) x s.within _ s.spell h.0)
  blames_none bytes x s after (Extract fault.Read) h = tt
  blames_none bytes x s after (Extract fault.Memory) h = tt
  blames_none bytes x s after (NotUpdate line) h = absurd (spelled_first (contents_of bytes) x s.within _ s.spell h.0)
  blames_none bytes x s after (BadTransaction line) h = absurd (spelled_first (contents_of bytes) x s.within _ s.spell h.0)
  blames_none bytes x s after _ h = absurd h

-- ---- one at most

pub same_association : (p q : PublishedAssociation) → p.association ≡ q.association → p.open_end ≡ q.open_end → p ≡ q
same_association p q a e =
    let same : ◌≡◌ {A = (v : Association × Bool) × (IsTrue v.1 → v.0.last ≡ last_day)} ((p.association, p.open_end), p.closed)
    ((q.association, q.open_end), q.closed) = Σ_prop_path (λ v. hlevel props) (cc) in
    ap (λ (v : (w : Association × Bool) × (IsTrue w.1 → w.0.last ≡ last_day)). let r : PublishedAssociation = record {
      association = v.0.0;
      open_end = v.0.1;
      closed = v.1;
    } in r) same

pub same_schedule : (p q : PublishedSchedule) → p.schedule ≡ q.schedule → p.open_end ≡ q.open_end → p.code ≡ q.code → p ≡ q
same_schedule p q s e c =
    let same : ◌≡◌ {A = (v : Schedule × Bool × Option HolidayCode) × (IsTrue v.1 → v.0.last ≡ last_day)}
    ((p.schedule, p.open_end, p.code), p.closed) ((q.schedule, q.open_end, q.code), q.closed) = Σ_prop_path (λ v. hlevel props) (cc) in
    ap (λ (v : (w : Schedule × Bool × Option HolidayCode) × (IsTrue w.1 → w.0.last ≡ last_day)). let r : PublishedSchedule = record {
      schedule = v.0.0;
      open_end = v.0.1;
      code = v.0.2;
      closed = v.1;
    } in r) same

-- what is made of the same elements is the same
module _ {A B C : Type 0} (P : A → B → C → Type 0) (one : (x : A) (y : B) (z w : C) → P x y z → P x y w → z ≡ w) where
  pub same_triples : (xs : List A) (ys : List B) (zs ws : List C) → AreTriples P xs ys zs → AreTriples P xs ys ws → zs ≡ ws
  same_triples [] [] [] [] p q = refl
  same_triples [] [] [] (w ∷ ws) p q = absurd q
  same_triples (x ∷ xs) (y ∷ ys) (z ∷ zs) [] p q = absurd q
  same_triples (x ∷ xs) (y ∷ ys) (z ∷ zs) (w ∷ ws) p q =
      ap (λ v. v ∷ zs) (one x y z w p.0 q.0) ∙ ap (λ vs. w ∷ vs) (same_triples xs ys zs ws p.1 q.1)
  same_triples _ _ _ _ p q = absurd p

one_published_said : (lines : FeedParts) (p q : PublishedParts) → SayPublished lines p → SayPublished lines q → p ≡ q
one_published_said lines p q s t =
    ap (λ (v : Header). record p { header = v }) (s.header ∙ sym t.header)
    ∙ ap (λ (v : List Tiploc). record p { header = q.header; tiplocs = v }) (s.tiplocs ∙ sym t.tiplocs)
    ∙ ap (λ (v : List PublishedAssociation). record q { associations = v; schedules = p.schedules })
    (same_triples IsPublishedAssociation
    (λ x y z w a b. same_association z w (a.of_profile ∙ sym b.of_profile) (a.open_end ∙ sym b.open_end)) _ _ p.associations q.associations
    s.associations t.associations)
    ∙ ap (λ (v : List PublishedSchedule). record q { schedules = v })
    (same_triples IsPublishedSchedule
    (λ x y z w a b. same_schedule z w (a.of_profile ∙ sym b.of_profile) (a.open_end ∙ sym b.open_end) (a.code ∙ sym b.code)) _ _
    p.schedules q.schedules s.schedules t.schedules)

pub one_published : (allowed : HolidayCodes) (cs : List (List ℕ)) (p q : PublishedParts) → SpellPublished allowed cs p
    → SpellPublished allowed cs q
    → p ≡ q
one_published allowed cs p q s t =
    let same = one_feed Full allowed 0 cs s.lines t.lines s.spelled.says t.spelled.says in
    one_published_said s.lines p q s.says (subst (λ l. SayPublished l q) (sym same) t.says)

-- ---- what is read

module _ (allowed : HolidayCodes) (max : ℕ) where
  pub reads-published : (f : FeedFault) → HandsOn (reading_feed Full allowed max) (reading_published allowed max) f
  reads-published f = record { fault = λ bytes after h. h; answers = λ h. h; same = refl }

  pub makes-published : (lines : FeedExtract) (x : PublishedExtract) → SayPublished (feed_parts lines) (published_parts x)
      → x.counts ≡ lines.marks.counts → x.passed ≡ lines.marks.passed
      → Makes (reading_feed Full allowed max) (reading_published allowed max) lines x
  makes-published lines x says counts passed = record {
    answer = λ bytes s. record {
      spelled = record { spell = record { lines = feed_parts lines; spelled = s.spell; says = says }; within = s.within };
      counts = counts ∙ ap (λ (m : MarkParts). m.counts) s.spell.says.marks;
      passed = passed ∙ ap (λ (m : MarkParts). m.passed) s.spell.says.marks;
    };
    whole = λ whole. tt;
  }

  pub published_as : (bytes : List ℕ) (after : Unread) (x : PublishedParts) (result : Result PublishedExtract FeedFault)
      → BytesSpellPublished allowed max bytes x → IfOk result (IsPublishedOf allowed max bytes)
      → IfErr result (IsFeedFault Full allowed max bytes after) → IsReadAs published_parts x result
  published_as bytes after x (Ok y) s ok err = one_published allowed (contents_of bytes) (published_parts y) x ok.spelled.spell s.spell
  published_as bytes after x (Err f) s ok err =
      blames_none Full allowed max bytes s.spell.lines (record { spell = s.spell.spelled; within = s.within }) after f err

-- ---- an update

one_update_said : (lines : FeedParts) (p q : UpdateParts) → SayUpdate lines p → SayUpdate lines q → p ≡ q
one_update_said lines p q s t =
    ap (λ (v : Header). record p { header = v }) (s.header ∙ sym t.header)
    ∙ ap (λ (v : ℕ). record p { header = q.header; header_line = v }) (s.header_line ∙ sym t.header_line)
    ∙ ap (λ (v : List (RecordChange (List ℕ) Tiploc)). record p { header = q.header; header_line = q.header_line; tiplocs = v })
    (s.tiplocs ∙ sym t.tiplocs)
    ∙ ap (λ (v : List (RecordChange AssociationKey PublishedAssociation)). record q { associations = v; schedules = p.schedules })
    (same_triples IsAssociationChange
    (λ x y z w a b. a.change ∙ ap (change_by y.transaction y.line (x.key, x.first, y.letter))
    (same_association a.published b.published (a.is.of_profile ∙ sym b.is.of_profile) (a.is.open_end ∙ sym b.is.open_end)) ∙ sym b.change)
    _ _ p.associations q.associations s.associations t.associations)
    ∙ ap (λ (v : List (RecordChange ScheduleKey PublishedSchedule)). record q { schedules = v })
    (same_triples IsScheduleChange
    (λ x y z w a b. a.change ∙ ap (change_by y.transaction y.line (x.uid, x.first, y.letter))
    (same_schedule a.published b.published (a.is.of_profile ∙ sym b.is.of_profile) (a.is.open_end ∙ sym b.is.open_end)
    (a.is.code ∙ sym b.is.code)) ∙ sym b.change) _ _ p.schedules q.schedules s.schedules t.schedules)

pub one_update : (cs : List (List ℕ)) (u v : UpdateParts) → SpellUpdate cs u → SpellUpdate cs v → u ≡ v
one_update cs u v s t =
    let same = one_feed feed.Update all_codes 0 cs s.lines t.lines s.spelled.says t.spelled.says in
    one_update_said s.lines u v s.says (subst (λ l. SayUpdate l v) (sym same) t.says)

module _ (max : ℕ) (allowed : HolidayCodes) (each : allowed ≡ all_codes) where
  pub makes-update : (lines : FeedExtract) (u : Update) → SayUpdate (feed_parts lines) (update_parts u) → u.counts ≡ lines.marks.counts
      → u.passed ≡ lines.marks.passed
      → Makes (reading_feed feed.Update allowed max) (reading_update max) lines u
  makes-update lines u says counts passed = record {
    answer = λ bytes s. record {
      spelled = record {
        spell = record {
          lines = feed_parts lines;
          spelled = subst (λ a. SpellFeed feed.Update a (contents_of bytes) (feed_parts lines)) each s.spell;
          says = says;
        };
        within = s.within;
      };
      counts = counts ∙ ap (λ (m : MarkParts). m.counts) s.spell.says.marks;
      passed = passed ∙ ap (λ (m : MarkParts). m.passed) s.spell.says.marks;
    };
    whole = λ whole. tt;
  }

module _ (max : ℕ) (bytes : List ℕ) (after : Unread) (x : UpdateParts) (s : BytesSpellUpdate max bytes x) where
  pub update_blames_none : (f : FeedFault) → IsFeedFault feed.Update all_codes max bytes after f → IsFailure f
  update_blames_none =
      blames_none feed.Update all_codes max bytes s.spell.lines (record { spell = s.spell.spelled; within = s.within }) after

  pub update_as : (result : Result Update FeedFault) → IfOk result (IsUpdateOf max bytes)
      → IfErr result (IsFeedFault feed.Update all_codes max bytes after) → IsReadAs update_parts x result
  update_as (Ok u) ok err = one_update (contents_of bytes) (update_parts u) x ok.spelled.spell s.spell
  update_as (Err f) ok err = update_blames_none f err
