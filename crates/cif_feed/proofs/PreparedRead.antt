-- What comes of the sources of `prepare`, where the bytes that their readers give are known.
use Rattle.cif_feed.proofs.Names.{BadTransaction, Bool, Err, FeedFault, FeedWrites, HasFailed, HasReadOn, HasWritten, IfErr, IfSome}
use Rattle.cif_feed.proofs.Names.{IsDeviceOrMemory, IsFirstOfFeed, IsHolidayFault, IsPreparedText, IsResultOf, List, None, NotUpdate, Ok}
use Rattle.cif_feed.proofs.Names.{Option, Prepares, PublishedExtract, Result, Sink, Some, Source, Unread, [], ap, codes_named, contents_of}
use Rattle.cif_feed.proofs.Names.{goes-on, inl, inr, is_feed_read, known_so, of_any, preparing, reader_of, reading_holidays, refl, refuses}
use Rattle.cif_feed.proofs.Names.{subst, sym, unread_of, ℕ, ⊎_elim, ◌∙◌, ◌≡◌, ◌⊎◌}
use Rattle.cif_feed.specs.FeedAnswer.{AreHolidaysGiven, AreHolidaysOf, AreHolidaysRead, FeedAnswers, IsBadHoliday, IsPrepareAnswer}
use Rattle.cif_feed.specs.FeedAnswer.{IsPrepareFault, IsPreparedInTurn, IsReported, OfHolidays, reading_as_feed}
use Rattle.cif_columns.{specs.declared.line_reader.TheConstants.MAX_LINES, specs.Source.HasFailedToRead}
use Rattle.std.proofs.Common.{MatchBool}
use Rattle.cif_extract.specs.declared.fault.Fault.TheVariants as fault
use Rattle.cif_feed.specs.{FeedFault.of_holiday_fault, HolidayText.is_holiday_read, WrittenPrepared.IsPrepareFault as IsOnePrepareFault}
use Rattle.cif_feed.specs.declared.{dropped.Dropped.Dropped, feed_fault.FeedFault.TheVariants.Extract, feed_line.Feed.TheVariants.Full}
use Rattle.cif_feed.specs.declared.{holiday_text.HolidayFault.HolidayFault, holidays.Holidays.Holidays}
use Rattle.cif_feed.specs.declared.holiday_text.HolidayFault.TheVariants.{BadHoliday, Memory, Read}
use Rattle.cif_feed.proofs.UpdatesRead.{answer-of, fault-of, flushed}
use Rattle.cif_feed.proofs.{Names.BytesSpellPublished, Names.PublishedParts, Names.published_parts, SpelledFeeds.one_published}
use Rattle.cif_feed.specs.{FeedAnswer.PrepareReported, PublishedParts.IsPublishedOf, Unreached.all_unreached}
use Rattle.cif_feed.specs.{Unreached.unreached_among, declared.unreached.Unreached.Unreached}
use Rattle.std.proofs.Common.{IsSomeAnd}

-- ---- holidays

same-read : (hf : HolidayFault) → is_holiday_read hf ≡ is_feed_read (of_holiday_fault hf)
same-read (BadHoliday line) = refl
same-read Read = refl
same-read Memory = refl

bad : (bytes : List ℕ) (after : Unread) (hf : HolidayFault) → IsHolidayFault bytes after hf →
    IsDeviceOrMemory (of_holiday_fault hf) ⊎ IsBadHoliday (Some bytes) (of_holiday_fault hf)
bad bytes after (BadHoliday line) h = inr h.0
bad bytes after Read h = inl tt
bad bytes after Memory h = inl tt

-- no fault of holidays is one of the writing
silent : {W A T : Type 0} (contents : W → Option (List ℕ)) (errors : W → Option ℕ) (reported : A → T) (P : List ℕ → Option T → Type 0)
    (old : Sink W) (hf : HolidayFault) → FeedAnswers contents errors reported P old old (Err (of_holiday_fault hf))
silent contents errors reported P old (BadHoliday line) = record { text = []; writes = refl; answer = tt }
silent contents errors reported P old Read = record { text = []; writes = refl; answer = tt }
silent contents errors reported P old Memory = record { text = []; writes = refl; answer = tt }

module _ {R : Type 0} (remaining : R → Option (List ℕ)) (errors : R → Option ℕ) where
  pub as-feed : (s t : Source R) (h : Holidays) → IsResultOf remaining errors reading_holidays s t (Ok h) →
      AreHolidaysRead remaining errors (Some s) (Some t) (Ok h)
  as-feed s t h call = (
    t,
    refl,
    record { ok = call.ok; fault = of_any _ _ (λ bytes. tt); answers = tt; source = call.source; end = call.end },
  )

  pub fault-as-feed : (s t : Source R) (hf : HolidayFault) (f : FeedFault) → f ≡ of_holiday_fault hf →
      IsResultOf remaining errors reading_holidays s t (Err hf) → AreHolidaysRead remaining errors (Some s) (Some t) (Err f)
  fault-as-feed s t hf f is call = (
    t,
    refl,
    refuses remaining errors s t reading_as_feed f
        (known_so (remaining (reader_of s)) _ _ (λ bytes h. (hf, is, h)) call.fault) (hf, is, call.answers)
        (subst (λ b. MatchBool b (HasFailedToRead errors s t) (HasReadOn errors s t)) (same-read hf ∙ ap is_feed_read (sym is))
        call.source),
  )

  -- the holidays are those that the bytes spell
  pub holidays-given : (source after : Option (Source R)) (given : Option (List ℕ)) (h : Holidays) →
      AreHolidaysRead remaining errors source after (Ok h) → AreHolidaysGiven remaining source given → AreHolidaysOf given h
  holidays-given None after given h read are = subst (λ g. AreHolidaysOf g h) (sym are) read.1
  holidays-given (Some s) after given h (t, is, call) (bytes, same, known) =
      subst (λ g. AreHolidaysOf g h) (sym same) (answer-of reading_as_feed remaining errors s t bytes known h call)

-- ---- the whole run

-- which holidays don't reach is said of the published extract that the bytes spell
pub same-unreached : (h : Holidays) (bytes : List ℕ) (p : PublishedParts) → BytesSpellPublished (codes_named h) MAX_LINES bytes p →
    (holidays : Option Holidays) → holidays ≡ Some h → (extract : Option PublishedExtract) →
    IsSomeAnd extract (IsPublishedOf (codes_named h) MAX_LINES bytes) → unreached_among holidays extract ≡ all_unreached h p
same-unreached h bytes p spelled holidays is None none = absurd none
same-unreached h bytes p spelled holidays is (Some extract) some =
    ap (λ o. unreached_among o (Some extract)) is
    ∙ ap (all_unreached h) (one_published (codes_named h) (contents_of bytes) (published_parts extract) p some.spelled.spell spelled.spell)

-- why the published extract isn't prepared
pub prepare-refused : (h : Holidays) (bytes : List ℕ) (after : Unread) (f : FeedFault) → IsOnePrepareFault h MAX_LINES bytes after f →
    IsDeviceOrMemory f ⊎ IsFirstOfFeed Full (codes_named h) MAX_LINES (contents_of bytes) f
prepare-refused h bytes after (Extract (fault.Refused line why)) is = inr is.0
prepare-refused h bytes after (Extract fault.Read) is = inl tt
prepare-refused h bytes after (Extract fault.Memory) is = inl tt
prepare-refused h bytes after (Extract fault.Write) is = inl tt
prepare-refused h bytes after (Extract _) is = absurd is
prepare-refused h bytes after (NotUpdate line) is = inr is.0
prepare-refused h bytes after (BadTransaction line) is = inr is.0
prepare-refused h bytes after _ is = absurd is

module _ {R W : Type 0} (remaining : R → Option (List ℕ)) (errors : R → Option ℕ) (contents : W → Option (List ℕ))
    (write_errors : W → Option ℕ) (drops : Bool) (holidays after : Option (Source R)) (first : Holidays)
    (at-first : AreHolidaysRead remaining errors holidays after (Ok first)) (h : Holidays) (same : h ≡ first) (source source_new : Source R)
    (unreached : List (Option Unreached)) where
  abbrev Answer : List ℕ → Option PrepareReported → Type 0
  Answer text reported =
      OfHolidays remaining (λ given bytes. IsReported (IsPrepareAnswer drops given bytes text) reported) holidays source

  -- what the call that prepares owes the sink
  abbrev Written : Sink W → Sink W → Result Dropped FeedFault → Type 0
  Written old mid result = (text : List ℕ) × FeedWrites contents write_errors text old mid result
      × IfSome (remaining (reader_of source)) (λ bytes. Prepares h drops MAX_LINES bytes text result)

  read : AreHolidaysRead remaining errors holidays after (Ok h)
  read = subst (λ x. AreHolidaysRead remaining errors holidays after (Ok x)) (sym same) at-first

  -- what is reported of an answer
  abbrev with_dropped : Dropped → PrepareReported
  with_dropped dropped = record { unreached = unreached; dropped = dropped }

  prepared : (text bytes : List ℕ) (given : Option (List ℕ)) (reported : PrepareReported) → AreHolidaysGiven remaining holidays given →
      (is : IsPreparedText h drops MAX_LINES bytes text reported.dropped) → reported.unreached ≡ all_unreached h is.published →
      IsPrepareAnswer drops given bytes text reported
  prepared text bytes given reported are is far = record {
    holidays = h;
    spelled = holidays-given remaining errors holidays after given h read are;
    prepared = is;
    unreached = far;
  }

  some-reported : (text : List ℕ) →
      IfSome (remaining (reader_of source)) (λ bytes. (t : Dropped) × IsPreparedText h drops MAX_LINES bytes text t) →
      Answer text None
  some-reported text some given bytes are known =
      let (t, is) = subst (λ o. IfSome o (λ b. (t : Dropped) × IsPreparedText h drops MAX_LINES b text t)) known some in
      let reported : PrepareReported = record { unreached = all_unreached h is.published; dropped = t } in
      (reported, prepared text bytes given reported are is refl)

  -- it isn't prepared
  module _ (f : FeedFault) (result : Result Dropped FeedFault) (is : result ≡ Err f) where
    abbrev Answers : Sink W → Sink W → Result Dropped FeedFault → Type 0
    Answers = FeedAnswers contents write_errors with_dropped Answer

    fails : (old mid : Sink W) (e : FeedFault) → Written old mid (Err e) → Answers old mid (Err e)
    fails old mid (Extract fault.Write) w = record { text = w.0; writes = w.1; answer = some-reported w.0 w.2 }
    fails old mid (Extract _) w = record { text = w.0; writes = w.1; answer = tt }
    fails old mid _ w = record { text = w.0; writes = w.1; answer = tt }

    pub unprepared-answer : (old mid : Sink W) → Written old mid (Err f) → Answers old mid result
    unprepared-answer old mid w = subst (Answers old mid) (sym is) (fails old mid f w)

    module _ (kept : Option PublishedExtract) (call : IsResultOf remaining errors (preparing h MAX_LINES kept) source source_new (Err f))
      where
        pub unprepared-fault : OfHolidays remaining (λ given bytes. IfErr result (IsPrepareFault given bytes)) holidays source
        unprepared-fault given bytes are known = subst (λ r. IfErr r (IsPrepareFault given bytes)) (sym is) (⊎_elim inl
            (λ why. inr (inr (h, holidays-given remaining errors holidays after given h read are, why)))
            (prepare-refused h bytes (unread_of remaining source_new) f
            (fault-of (preparing h MAX_LINES kept) remaining errors source source_new bytes known f call)))

  -- what was prepared is handed on
  module _ (old mid new : Sink W) (a : Dropped) (w : Written old mid (Ok a)) where
    pub prepared-answer : (kept : Option Holidays) (extract : Option PublishedExtract) → unreached ≡ unreached_among kept extract →
        kept ≡ Some h → IsResultOf remaining errors (preparing h MAX_LINES extract) source source_new (Ok a) →
        HasWritten contents write_errors [] mid new → FeedAnswers contents write_errors with_dropped Answer old new (Ok a)
    prepared-answer kept extract far known-holidays call handed = record {
      text = w.0;
      writes = flushed {A = Dropped} {E = FeedFault} contents write_errors w.0 old mid new (Ok a) w.1 handed;
      answer = λ given bytes are known.
          let is = subst (λ o. IfSome o (λ b. IsPreparedText h drops MAX_LINES b w.0 a)) known w.2 in
          prepared w.0 bytes given (with_dropped a) are is (far ∙ same-unreached h bytes is.published is.spelled kept known-holidays extract
          (answer-of (preparing h MAX_LINES extract) remaining errors source source_new bytes known a call));
    }

    -- or isn't
    pub unhanded-answer : (result : Result Dropped FeedFault) → result ≡ Err (Extract fault.Write) →
        HasFailed contents write_errors [] mid new → FeedAnswers contents write_errors with_dropped Answer old new result
    unhanded-answer result is failed =
        subst (FeedAnswers contents write_errors with_dropped Answer old new) (sym is) record {
          text = w.0;
          writes = flushed {A = Dropped} {E = FeedFault} contents write_errors w.0 old mid new (Err (Extract fault.Write)) w.1 failed;
          answer = some-reported w.0 (known_so (remaining (reader_of source)) _ _ (λ bytes p. (a, p)) w.2);
        }

module _ {R : Type 0} (remaining : R → Option (List ℕ)) (errors : R → Option ℕ) (source source_new : Source R) (h : Holidays)
    (kept : Option PublishedExtract) where
  -- a failure to hand on is one to write
  pub unhanded-read : (a : Dropped) (result : Result Dropped FeedFault) → result ≡ Err (Extract fault.Write) →
      IsResultOf remaining errors (preparing h MAX_LINES kept) source source_new (Ok a) →
      IsResultOf remaining errors (preparing h MAX_LINES kept) source source_new result
  unhanded-read a result is call =
      subst (IsResultOf remaining errors (preparing h MAX_LINES kept) source source_new) (sym is)
      (goes-on (preparing h MAX_LINES kept) (preparing h MAX_LINES kept) remaining errors source source_new a call
      (Err (Extract fault.Write))
      (record { fault = λ bytes after p. tt; answers = tt; other = refl }))

module _ {R : Type 0} (remaining : R → Option (List ℕ)) (errors : R → Option ℕ) (holidays after : Option (Source R))
    (source source_new : Source R) (first : Holidays) (at-first : AreHolidaysRead remaining errors holidays after (Ok first)) (h : Holidays)
    (same : h ≡ first) (kept : Option PublishedExtract) where
  pub prepared-read : (result : Result Dropped FeedFault) →
      IsResultOf remaining errors (preparing h MAX_LINES kept) source source_new result →
      IsPreparedInTurn remaining errors holidays after source source_new result
  prepared-read result call = inr (h, kept, subst (λ x. AreHolidaysRead remaining errors holidays after (Ok x)) (sym same) at-first, call)
