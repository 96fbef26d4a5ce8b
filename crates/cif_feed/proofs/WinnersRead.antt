-- What comes of the sources of `prepare --winners`, where the bytes that their readers give are known.
use Rattle.cif_feed.proofs.Names.{Bool, Err, FeedFault, FeedWrites, HasFailed, HasWritten, IfErr, IfSome, IsResultOf, List, None, Ok, Option}
use Rattle.cif_feed.proofs.Names.{PublishedExtract, Result, Sink, Some, Source, Unread, [], goes-on, inl, inr, known_so, reader_of, refl, subst}
use Rattle.cif_feed.proofs.Names.{sym, unread_of, ℕ, ⊎_elim, ◌∙◌, ◌≡◌}
use Rattle.cif_feed.specs.FeedAnswer.{AreHolidaysGiven, AreHolidaysRead, FeedAnswers, IsPrepareFault, IsReported, OfHolidays}
use Rattle.cif_feed.specs.{FeedAnswer.PrepareReported, WrittenPrepared.IsPrepareFault as IsOnePrepareFault}
use Rattle.cif_columns.specs.declared.line_reader.TheConstants.{MAX_LINES}
use Rattle.cif_extract.specs.declared.fault.Fault.TheVariants as fault
use Rattle.cif_rows.specs.declared.format.Format.{Format}
use Rattle.cif_feed.specs.{Unreached.all_unreached, Unreached.unreached_among}
use Rattle.cif_feed.specs.WinnersAnswer.{AreWinnersInTurn, IsWinnersAnswer, IsWinnersRefusal}
use Rattle.cif_feed.specs.WrittenWinners.{IsWinnersFault, IsWinnersText, ShowsWinners, winning}
use Rattle.cif_feed.specs.declared.{dropped.Dropped.Dropped, feed_fault.FeedFault.TheVariants.Extract, holidays.Holidays.Holidays}
use Rattle.cif_feed.specs.declared.unreached.Unreached.{Unreached}
use Rattle.cif_feed.proofs.PreparedRead.{holidays-given, prepare-refused, same-unreached}
use Rattle.cif_feed.proofs.UpdatesRead.{answer-of, fault-of, flushed}

module _ {R W : Type 0} (remaining : R → Option (List ℕ)) (errors : R → Option ℕ) (contents : W → Option (List ℕ))
    (write_errors : W → Option ℕ) (drops : Bool) (format : Format) (holidays after : Option (Source R)) (first : Holidays)
    (at-first : AreHolidaysRead remaining errors holidays after (Ok first)) (h : Holidays) (same : h ≡ first) (source source_new : Source R)
    (unreached : List (Option Unreached)) where
  abbrev Answer : List ℕ → Option PrepareReported → Type 0
  Answer text reported =
      OfHolidays remaining (λ given bytes. IsReported (IsWinnersAnswer drops format given bytes text) reported) holidays source

  -- what the call that writes the winners owes the sink
  abbrev Written : Sink W → Sink W → Result Dropped FeedFault → Type 0
  Written old mid result = (text : List ℕ) × FeedWrites contents write_errors text old mid result
      × IfSome (remaining (reader_of source)) (λ bytes. ShowsWinners h drops format MAX_LINES bytes text result)

  read : AreHolidaysRead remaining errors holidays after (Ok h)
  read = subst (λ x. AreHolidaysRead remaining errors holidays after (Ok x)) (sym same) at-first

  -- what is reported of an answer
  abbrev with_dropped : Dropped → PrepareReported
  with_dropped dropped = record { unreached = unreached; dropped = dropped }

  shown : (text bytes : List ℕ) (given : Option (List ℕ)) (reported : PrepareReported) → AreHolidaysGiven remaining holidays given →
      (is : IsWinnersText h drops format MAX_LINES bytes text reported.dropped) → reported.unreached ≡ all_unreached h is.published →
      IsWinnersAnswer drops format given bytes text reported
  shown text bytes given reported are is far = record {
    holidays = h;
    spelled = holidays-given remaining errors holidays after given h read are;
    shown = is;
    unreached = far;
  }

  some-reported : (text : List ℕ) →
      IfSome (remaining (reader_of source)) (λ bytes. (t : Dropped) × IsWinnersText h drops format MAX_LINES bytes text t) →
      Answer text None
  some-reported text some given bytes are known =
      let (t, is) = subst (λ o. IfSome o (λ b. (t : Dropped) × IsWinnersText h drops format MAX_LINES b text t)) known some in
      let reported : PrepareReported = record { unreached = all_unreached h is.published; dropped = t } in
      (reported, shown text bytes given reported are is refl)

  -- why the extract isn't prepared
  as-prepared : (given : Option (List ℕ)) (bytes : List ℕ) (left : Unread) → AreHolidaysGiven remaining holidays given → (f : FeedFault) →
      IsOnePrepareFault h MAX_LINES bytes left f → IsPrepareFault given bytes f
  as-prepared given bytes left are f is = ⊎_elim inl
      (λ why. inr (inr (h, holidays-given remaining errors holidays after given h read are, why)))
      (prepare-refused h bytes left f is)

  -- why there are no winners
  refused : (given : Option (List ℕ)) (bytes : List ℕ) (left : Unread) → AreHolidaysGiven remaining holidays given → (f : FeedFault) →
      IsWinnersFault h drops MAX_LINES bytes left f → IsWinnersRefusal drops given bytes f
  refused given bytes left are (Extract (fault.Ambiguous clash)) is =
      inr (clash, refl, h, holidays-given remaining errors holidays after given h read are, is)
  refused given bytes left are (Extract (fault.Refused line why)) is = inl (as-prepared given bytes left are _ is)
  refused given bytes left are (Extract _) is = inl (as-prepared given bytes left are _ is)
  refused given bytes left are _ is = inl (as-prepared given bytes left are _ is)

  -- nothing was written, or not all
  module _ (f : FeedFault) (result : Result Dropped FeedFault) (is : result ≡ Err f) where
    abbrev Answers : Sink W → Sink W → Result Dropped FeedFault → Type 0
    Answers = FeedAnswers contents write_errors with_dropped Answer

    fails : (old mid : Sink W) (e : FeedFault) → Written old mid (Err e) → Answers old mid (Err e)
    fails old mid (Extract fault.Write) w = record { text = w.0; writes = w.1; answer = some-reported w.0 w.2 }
    fails old mid (Extract _) w = record { text = w.0; writes = w.1; answer = tt }
    fails old mid _ w = record { text = w.0; writes = w.1; answer = tt }

    pub unshown-answer : (old mid : Sink W) → Written old mid (Err f) → Answers old mid result
    unshown-answer old mid w = subst (Answers old mid) (sym is) (fails old mid f w)

    module _ (kept : Option PublishedExtract)
        (call : IsResultOf remaining errors (winning h drops MAX_LINES kept) source source_new (Err f)) where
      pub unshown-fault : OfHolidays remaining (λ given bytes. IfErr result (IsWinnersRefusal drops given bytes)) holidays source
      unshown-fault given bytes are known = subst (λ r. IfErr r (IsWinnersRefusal drops given bytes)) (sym is)
          (refused given bytes (unread_of remaining source_new) are f
          (fault-of (winning h drops MAX_LINES kept) remaining errors source source_new bytes known f call))

  -- what was written is handed on
  module _ (old mid new : Sink W) (a : Dropped) (w : Written old mid (Ok a)) where
    pub shown-answer : (kept : Option Holidays) (extract : Option PublishedExtract) → unreached ≡ unreached_among kept extract →
        kept ≡ Some h → IsResultOf remaining errors (winning h drops MAX_LINES extract) source source_new (Ok a) →
        HasWritten contents write_errors [] mid new → FeedAnswers contents write_errors with_dropped Answer old new (Ok a)
    shown-answer kept extract far known-holidays call handed = record {
      text = w.0;
      writes = flushed {A = Dropped} {E = FeedFault} contents write_errors w.0 old mid new (Ok a) w.1 handed;
      answer = λ given bytes are known.
          let is = subst (λ o. IfSome o (λ b. IsWinnersText h drops format MAX_LINES b w.0 a)) known w.2 in
          shown w.0 bytes given (with_dropped a) are is (far ∙ same-unreached h bytes is.published is.spelled kept known-holidays extract
          (answer-of (winning h drops MAX_LINES extract) remaining errors source source_new bytes known a call));
    }

    -- or isn't
    pub unhanded-winners : (result : Result Dropped FeedFault) → result ≡ Err (Extract fault.Write) →
        HasFailed contents write_errors [] mid new → FeedAnswers contents write_errors with_dropped Answer old new result
    unhanded-winners result is failed =
        subst (FeedAnswers contents write_errors with_dropped Answer old new) (sym is) record {
          text = w.0;
          writes = flushed {A = Dropped} {E = FeedFault} contents write_errors w.0 old mid new (Err (Extract fault.Write)) w.1 failed;
          answer = some-reported w.0 (known_so (remaining (reader_of source)) _ _ (λ bytes p. (a, p)) w.2);
        }

module _ {R : Type 0} (remaining : R → Option (List ℕ)) (errors : R → Option ℕ) (source source_new : Source R) (h : Holidays) (drops : Bool)
    (kept : Option PublishedExtract) where
  -- a failure to hand on is one to write
  pub unhanded-winning : (a : Dropped) (result : Result Dropped FeedFault) → result ≡ Err (Extract fault.Write) →
      IsResultOf remaining errors (winning h drops MAX_LINES kept) source source_new (Ok a) →
      IsResultOf remaining errors (winning h drops MAX_LINES kept) source source_new result
  unhanded-winning a result is call =
      subst (IsResultOf remaining errors (winning h drops MAX_LINES kept) source source_new) (sym is)
      (goes-on (winning h drops MAX_LINES kept) (winning h drops MAX_LINES kept) remaining errors source source_new a call
      (Err (Extract fault.Write))
      (record { fault = λ bytes after p. tt; answers = tt; other = refl }))

module _ {R : Type 0} (remaining : R → Option (List ℕ)) (errors : R → Option ℕ) (drops : Bool) (holidays after : Option (Source R))
    (source source_new : Source R) (first : Holidays) (at-first : AreHolidaysRead remaining errors holidays after (Ok first)) (h : Holidays)
    (same : h ≡ first) (kept : Option PublishedExtract) where
  pub winners-read : (result : Result Dropped FeedFault) →
      IsResultOf remaining errors (winning h drops MAX_LINES kept) source source_new result →
      AreWinnersInTurn remaining errors drops holidays after source source_new result
  winners-read result call = inr (h, kept, subst (λ x. AreHolidaysRead remaining errors holidays after (Ok x)) (sym same) at-first, call)
