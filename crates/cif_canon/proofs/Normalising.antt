-- What an input that is read and narrowed comes to.
use Rattle.cif_canon.proofs.Names.{Asked, AskedDatesAreWithin, BytesSpellWithin, CanonParts, Clash, Counts, Err, Extract, ExtractParts}
use Rattle.cif_canon.proofs.Names.{Fault, FaultWrites, Form, HandsOn, HasCanon, HasFailed, HasWritten, IfErr, IfOk, IfSome}
use Rattle.cif_canon.proofs.Names.{IsAcceptedWithin, IsCanonFault, IsCanonOf, IsCanonOfInput, IsClearExtract, IsDeviceOrMemory, IsErrAnd}
use Rattle.cif_canon.proofs.Names.{IsFirstClashIn, IsNarrowed, IsNarrowingFault, IsNormaliseFault, IsNormalised, IsOfCheck}
use Rattle.cif_canon.proofs.Names.{IsReadNarrowedFault, List, Makes, MatchResult, Normalises, Ok, Option, Refuses, Result, Sink}
use Rattle.cif_canon.proofs.Names.{SpellsNarrowed, Train, Unread, [], ap, arith, at-fault, checking, extract_parts, false}
use Rattle.cif_canon.proofs.Names.{first_clash-clear, inr, is_read, known_so, normalising, of_any, one_spelled, reading_canon}
use Rattle.cif_canon.proofs.Names.{reading_extract, reading_narrowed, refl, spelled-refused, subst, sym, window_asked, ℕ, ⊎_elim, ◌∙◌, ◌≡◌}
use Rattle.cif_canon.{proofs.Names.◌≢◌, proofs.Names.◌≤◌, proofs.NormalForms.one-narrowed}
use Rattle.cif_extract.specs.declared.fault.Clash.TheVariants.{Association}
use Rattle.cif_extract.specs.declared.fault.Fault.TheVariants as fault

module _ (max : ℕ) (asked : Asked) (bytes : List ℕ) where
  -- a window that can't be asked for
  pub narrowing-fault : (after : Unread) (whole : ExtractParts) → BytesSpellWithin max bytes whole → (f : Fault) →
      IsNarrowingFault asked whole.header f → IsReadNarrowedFault max asked bytes after f
  narrowing-fault after whole s fault.OutsideWindow h = record { whole = whole; spelled = s; fault_is = h }
  narrowing-fault after whole s fault.WindowReversed h = record { whole = whole; spelled = s; fault_is = h }
  narrowing-fault after whole s _ h = absurd h

  -- bytes that aren't read
  pub narrowed-fault : (after : Unread) (f : Fault) → IsReadNarrowedFault max asked bytes after f → IsNormaliseFault max asked bytes after f
  narrowed-fault after (fault.Ambiguous clash) h = absurd h
  narrowed-fault after fault.Write h = absurd h
  narrowed-fault after _ h = h

  -- an extract without a canonical form
  pub canon-fault : (after : Unread) (x : ExtractParts) → SpellsNarrowed max asked x bytes → (f : Fault) → IsCanonFault x f →
      IsNormaliseFault max asked bytes after f
  canon-fault after x s (fault.Ambiguous clash) h = record { narrowed = x; spelled = s; clash_is = h }
  canon-fault after x s fault.Memory h = tt
  canon-fault after x s _ h = absurd h

  one-spelled_narrowed : (x y : ExtractParts) → SpellsNarrowed max asked x bytes → SpellsNarrowed max asked y bytes → x ≡ y
  one-spelled_narrowed x y p q =
      one-narrowed asked p.whole x y p.narrowed
      (subst (λ w. IsNarrowed asked w y) (one_spelled bytes q.whole p.whole q.spelled.spell p.spelled.spell) q.narrowed)

  clash-clear : (x : ExtractParts) → IsClearExtract x → (c : Clash) → IsFirstClashIn x c → ⊥
  clash-clear x clear (Association key day) h = first_clash-clear _ x.header.first x.header.last day h.clash (clear.associations.key key)
  clash-clear x clear (Train uid day) h = first_clash-clear _ x.header.first x.header.last day h.1.clash (clear.schedules.key uid)

  -- what is accepted isn't blamed
  pub blames-none : (after : Unread) (x : ExtractParts) → IsAcceptedWithin max asked x bytes → (f : Fault) →
      IsNormaliseFault max asked bytes after f → IsDeviceOrMemory f
  blames-none after x a (fault.Refused line why) h = absurd (spelled-refused max bytes a.spelled.whole a.spelled.spelled line why h.0)
  blames-none after x a (fault.Ambiguous clash) h =
      absurd (clash-clear h.narrowed
      (subst IsClearExtract (one-spelled_narrowed x h.narrowed a.spelled h.spelled) a.clear) clash h.clash_is)
  blames-none after x a fault.WindowsDiffer h = absurd h
  blames-none after x a fault.OutsideWindow h =
      absurd (h.fault_is (subst (λ (w : ExtractParts). AskedDatesAreWithin asked w.header)
      (one_spelled bytes a.spelled.whole h.whole a.spelled.spelled.spell h.spelled.spell) a.spelled.narrowed.within))
  blames-none after x a fault.WindowReversed h =
      let order = subst (λ (w : ExtractParts). (window_asked asked w.header).first ≤ (window_asked asked w.header).last)
      (one_spelled bytes a.spelled.whole h.whole a.spelled.spelled.spell h.spelled.spell) a.spelled.narrowed.in_order in
      let reversed = h.fault_is.1 in
      absurd (omega (arith, order, reversed))
  blames-none after x a _ h = tt

  -- the canonical form of what is read and narrowed
  abbrev pub is-normalised : (form : Form) (x : ExtractParts) → SpellsNarrowed max asked x bytes → (c : CanonParts) → IsCanonOf form x c →
      IsNormalised form asked max bytes c.text c.counts
  is-normalised form x s c is = record {
    meant = x;
    accepted = record { spelled = s; clear = is.clear };
    canonical = is.canonical;
    unique = is.unique;
    again = is.again asked s.whole s.narrowed;
    reached = is.reached asked s.whole s.narrowed;
    counted = is.counted;
  }

  pub counted-text : (form : Form) (x : ExtractParts) → SpellsNarrowed max asked x bytes → (c : CanonParts) → IsCanonOf form x c →
      (n : Counts) → n ≡ c.counts → (text : List ℕ) × IsNormalised form asked max bytes text n
  counted-text form x s c is n same = (c.text, subst (IsNormalised form asked max bytes c.text) (sym same) (is-normalised form x s c is))

-- what is narrowed has a canonical form, or none
pub canon-narrowed : (form : Form) (asked : Asked) (whole x : ExtractParts) → IsNarrowed asked whole x →
    (result : Result CanonParts Fault) → IfOk result (IsCanonOf form x) → IfErr result (IsCanonFault x) → HasCanon form asked whole result
canon-narrowed form asked whole x narrowed (Ok c) is h = (x, narrowed, is)
canon-narrowed form asked whole x narrowed (Err f) is h = inr (x, narrowed, h)

-- ---- what the calls come to

module _ (max : ℕ) (asked : Asked) where
  -- reading, and then narrowing
  pub reads-narrowed : (f : Fault) → HandsOn (reading_extract max) (reading_narrowed max asked) f
  reads-narrowed fault.OutsideWindow = record { fault = λ bytes after h. absurd h; answers = λ h. tt; same = refl }
  reads-narrowed fault.WindowReversed = record { fault = λ bytes after h. absurd h; answers = λ h. tt; same = refl }
  reads-narrowed _ = record { fault = λ bytes after h. h; answers = λ h. h; same = refl }

  pub narrows : (x y : Extract) → IsNarrowed asked (extract_parts x) (extract_parts y) →
      Makes (reading_extract max) (reading_narrowed max asked) x y
  narrows x y narrowed = record {
    answer = λ bytes spelled. record { whole = extract_parts x; spelled = spelled; narrowed = narrowed };
    whole = λ whole. tt;
  }

  pub narrows-not : (x : Extract) (f : Fault) → IsNarrowingFault asked x.header f →
      Refuses (reading_extract max) (reading_narrowed max asked) x f
  narrows-not x fault.OutsideWindow h = record {
    fault = λ bytes after spelled. narrowing-fault max asked bytes after (extract_parts x) spelled fault.OutsideWindow h;
    answers = tt;
    other = refl;
  }
  narrows-not x fault.WindowReversed h = record {
    fault = λ bytes after spelled. narrowing-fault max asked bytes after (extract_parts x) spelled fault.WindowReversed h;
    answers = tt;
    other = refl;
  }
  narrows-not x _ h = absurd h

  module _ (form : Form) where
    -- and then the canonical form
    pub reads-canon : (f : Fault) → HandsOn (reading_extract max) (reading_canon form asked max) f
    reads-canon (fault.Refused line why) = record { fault = λ bytes after h. h; answers = λ h. h; same = refl }
    reads-canon fault.Read = record { fault = λ bytes after h. h; answers = λ h. h; same = refl }
    reads-canon fault.Memory = record { fault = λ bytes after h. h; answers = λ h. h; same = refl }
    reads-canon fault.Write = record { fault = λ bytes after h. tt; answers = λ h. absurd h; same = refl }
    reads-canon _ = record { fault = λ bytes after h. absurd h; answers = λ h. absurd h; same = refl }

    pub canon-blamed : (bytes : List ℕ) (after : Unread) (whole : ExtractParts) → BytesSpellWithin max bytes whole → (f : Fault) →
        HasCanon form asked whole (Err f) → IsNormaliseFault max asked bytes after f
    canon-blamed bytes after whole s f = ⊎_elim
        (λ h. narrowed-fault max asked bytes after f (narrowing-fault max asked bytes after whole s f h))
        (λ h. canon-fault max asked bytes after h.0 (record { whole = whole; spelled = s; narrowed = h.1 }) f h.2)

    -- whose fault is none of these
    pub of-canon : (whole : ExtractParts) (P : Fault → Type 0) → ((clash : Clash) → P (fault.Ambiguous clash)) → P fault.OutsideWindow →
        P fault.WindowReversed → P fault.Memory → (f : Fault) → HasCanon form asked whole (Err f) → P f
    of-canon whole P ambiguous outside reversed memory (fault.Ambiguous clash) h = ambiguous clash
    of-canon whole P ambiguous outside reversed memory fault.OutsideWindow h = outside
    of-canon whole P ambiguous outside reversed memory fault.WindowReversed h = reversed
    of-canon whole P ambiguous outside reversed memory fault.Memory h = memory
    of-canon whole P ambiguous outside reversed memory _ h = absurd (⊎_elim (λ no. no) (λ no. no.2) h)

    pub has-canon : (x : Extract) (result : Result CanonParts Fault) → HasCanon form asked (extract_parts x) result → MatchResult result
        (Makes (reading_extract max) (reading_canon form asked max) x) (Refuses (reading_extract max) (reading_canon form asked max) x)
    has-canon x (Ok c) h = record {
      answer = λ bytes spelled. record {
        meant = h.0;
        spelled = record { whole = extract_parts x; spelled = spelled; narrowed = h.1 };
        is_canon = h.2;
      };
      whole = λ whole. tt;
    }
    has-canon x (Err f) h = record {
      fault = λ bytes after spelled. canon-blamed bytes after (extract_parts x) spelled f h;
      answers = of-canon (extract_parts x) (IsOfCheck max) (λ clash. tt) tt tt tt f h;
      other = of-canon (extract_parts x) (λ f. is_read f ≡ false) (λ clash. refl) refl refl refl f h;
    }

    -- and then its counts, or its text
    pub counts-canon : (f : Fault) → HandsOn (reading_canon form asked max) (checking form asked max) f
    counts-canon f = record { fault = λ bytes after h. h; answers = λ h. h; same = refl }

    pub counts : (c : CanonParts) (n : Counts) → n ≡ c.counts → Makes (reading_canon form asked max) (checking form asked max) c n
    counts c n same = record {
      answer = λ bytes h. counted-text max asked bytes form h.meant h.spelled c h.is_canon n same;
      whole = λ whole. tt;
    }

    pub writes-canon : (f : Fault) → HandsOn (reading_canon form asked max) (normalising form asked max) f
    writes-canon fault.Write = record { fault = λ bytes after h. h; answers = λ h. tt; same = refl }
    writes-canon _ = record { fault = λ bytes after h. h; answers = λ h. h; same = refl }

    pub writes : (c : CanonParts) (n : Counts) → n ≡ c.counts → Makes (reading_canon form asked max) (normalising form asked max) c n
    writes c n same = let counted = counts c n same in record { answer = counted.answer; whole = counted.whole }

    pub writes-not : (c : CanonParts) (f : Fault) → f ≡ fault.Write →
        Refuses (reading_canon form asked max) (normalising form asked max) c f
    writes-not c f is = rw is (record { fault = λ bytes after h. tt; answers = tt; other = refl })

-- ---- what `normalise` writes

module _ {W : Type 0} (contents : W → Option (List ℕ)) (errors : W → Option ℕ) (start : Option (List ℕ)) (form : Form) (asked : Asked)
    (max : ℕ) (old new : Sink W) where
  abbrev Normal : Result Counts Fault → Type 0
  Normal result = (text : List ℕ) × FaultWrites contents errors text old new result
      × IfSome start (λ bytes. Normalises form asked max bytes text result)

  -- nothing, where there is no canonical form
  silent : (f : Fault) → f ≢ fault.Write → new ≡ old → Normal (Err f)
  silent fault.Write other same = absurd (other refl)
  silent _ other same = ([], same, of_any start _ (λ bytes. tt))

  pub normal-silent : (f : Fault) → f ≢ fault.Write → new ≡ old → (result : Result Counts Fault) → IsErrAnd result (λ e. e ≡ f) →
      Normal result
  normal-silent f other same result handed = subst Normal (sym (at-fault result f handed)) (silent f other same)

  module _ (c : CanonParts) (is : IfSome start (λ bytes. IsCanonOfInput form asked max bytes c)) where
    -- a prefix of its text
    pub normal-prefix : (f : Fault) → f ≡ fault.Write → HasFailed contents errors c.text old new → (result : Result Counts Fault) →
        IsErrAnd result (λ e. e ≡ f) → Normal result
    normal-prefix f write failed result handed = subst Normal (sym (at-fault result f handed ∙ ap Err write)) (
      c.text,
      failed,
      known_so start _ _ (λ bytes h. (c.counts, is-normalised max asked bytes form h.meant h.spelled c h.is_canon)) is,
    )

    -- or all of it
    pub normal-whole : (n : Counts) → n ≡ c.counts → HasWritten contents errors c.text old new → Normal (Ok n)
    normal-whole n same written = (
      c.text,
      written,
      known_so start _ _ (λ bytes h. subst (IsNormalised form asked max bytes c.text) (sym same)
          (is-normalised max asked bytes form h.meant h.spelled c h.is_canon)) is,
    )
