-- What a command owes its sink, by the calls that it makes.
use Rattle.cif_commands.proofs.Names.{Answers, AreAnswered, Err, Fault, FaultWrites, Finishes, HasFailed, HasWritten, IfAnswered, IfErr, IfOk}
use Rattle.cif_commands.proofs.Names.{IfOk-weaker, IfWritten, IsAnswered, IsErrAnd, IsHandedOn, IsOfCheck, IsOfNormalise, IsOfReadNarrowed}
use Rattle.cif_commands.proofs.Names.{IsOfReading, IsResultOf, IsResultOfBoth, List, MAX_LINES, Makes, MatchResult, OfBoth, OfInput, Ok, Option}
use Rattle.cif_commands.proofs.Names.{ReadCall, Refuses, Result, Sink, Source, Unread, Writes, [], answering, ap, append-nil, at-fault}
use Rattle.cif_commands.proofs.Names.{err_from_is_err_and, failed_second, false, goes-on, hands-on, is_read, reading_extract, refl, subst, sym}
use Rattle.cif_commands.proofs.Names.{written_both, ℕ, ◌∙◌, ◌≡◌, ◌≢◌}
use Rattle.cif_extract.specs.declared.extract.Extract.{Extract}
use Rattle.cif_extract.specs.declared.fault.Fault.TheVariants as fault

-- what holds where a text was written, and what follows from it
pub written-then : (A P Q : Type 0) (written : Result A Fault) → (P → Q) → IfWritten written P → IfWritten written Q
written-then A P Q (Ok done) so h = so h
written-then A P Q (Err fault.Write) so h = so h
written-then A P Q (Err _) so h = tt

-- a fault that is Write alone
pub only-write : {A : Type 0} (P : Fault → Type 0) (result : Result A Fault) → IfErr result (λ f. f ≡ fault.Write) → P fault.Write →
    IfErr result P
only-write P (Ok done) is h = tt
only-write P (Err f) is h = subst P (sym is) h

unanswered : (P : ℕ → Type 0) (f : Fault) → f ≢ fault.Write → IfAnswered (Err f) P
unanswered P fault.Write silent = absurd (silent refl)
unanswered P _ silent = tt

module _ {W : Type 0} (contents : W → Option (List ℕ)) (errors : W → Option ℕ) where
  -- a fault owes the same, whatever would have been answered
  owes-same : (A B : Type 0) (text : List ℕ) (old new : Sink W) (f : Fault) → FaultWrites {A = A} contents errors text old new (Err f) →
      FaultWrites {A = B} contents errors text old new (Err f)
  owes-same A B text old new fault.Write h = h
  owes-same A B text old new _ h = h

  unwritten : (A : Type 0) (old : Sink W) (f : Fault) → f ≢ fault.Write → FaultWrites {A = A} contents errors [] old old (Err f)
  unwritten A old fault.Write silent = absurd (silent refl)
  unwritten A old _ silent = refl

  -- a fault before anything is written
  fails-silently : (P : List ℕ → ℕ → Type 0) (old : Sink W) (result : Result ℕ Fault) (f : Fault) → result ≡ Err f →
      f ≢ fault.Write → Answers contents errors P old old result
  fails-silently P old result f is silent =
      subst (Answers contents errors P old old) (sym is) record {
        text = [];
        writes = unwritten ℕ old f silent;
        answer = unanswered (P []) f silent;
      }

  -- and there is nothing to hand on
  module _ (holds_nothing : W → Type 0) (old : Sink W) (result : Result ℕ Fault) (f : Fault) (handed : IsErrAnd result (λ e. e ≡ f))
      (silent : f ≢ fault.Write) {R : Type 0} (remaining : R → Option (List ℕ)) (read_errors : R → Option ℕ) where
    none-handed : IsHandedOn holds_nothing old result
    none-handed = subst (IsHandedOn holds_nothing old) (sym (at-fault result f handed)) tt

    pub nothing-of-input : (P : List ℕ → List ℕ → ℕ → Type 0) (call : ReadCall ℕ Fault) (source source_new : Source R) →
        IsResultOf remaining read_errors call source source_new result →
        IsAnswered remaining read_errors contents errors holds_nothing P call source source_new old old result
    nothing-of-input P call source source_new reads = record {
      answer = fails-silently (OfInput remaining P source) old result f (at-fault result f handed) silent;
      reads = reads;
      handed_on = none-handed;
    }

    pub nothing-of-both : (P : List ℕ → List ℕ → List ℕ → ℕ → Type 0) (Makes : Extract → Extract → Result ℕ Fault → Type 0)
        (left left_new right right_new : Source R) →
        IsResultOfBoth remaining read_errors (reading_extract MAX_LINES) Makes left left_new right right_new result →
        AreAnswered remaining read_errors contents errors holds_nothing P Makes left left_new right right_new old old result
    nothing-of-both P Makes left left_new right right_new reads = record {
      answer = fails-silently (OfBoth remaining P left right) old result f (at-fault result f handed) silent;
      reads = reads;
      handed_on = none-handed;
    }

  module _ (P : List ℕ → ℕ → Type 0) (old : Sink W) (text : List ℕ) (status : ℕ) where
    answered : (A : Type 0) (f : Fault) → IfWritten {A = A} (Err f) (P text status) → IfAnswered (Err f) (P text)
    answered A fault.Write h = (status, h)
    answered A _ h = tt

    -- a fault of a call that writes the text
    pub fails : (A : Type 0) (new : Sink W) (result : Result ℕ Fault) (f : Fault) → result ≡ Err f →
        FaultWrites {A = A} contents errors text old new (Err f) → IfWritten {A = A} (Err f) (P text status) →
        Answers contents errors P old new result
    fails A new result f is w h =
        subst (Answers contents errors P old new) (sym is) record {
          text = text;
          writes = owes-same A ℕ text old new f w;
          answer = answered A f h;
        }

    -- a failure to write it
    pub fails-to-write : (new : Sink W) (result : Result ℕ Fault) (f : Fault) → result ≡ Err f → f ≡ fault.Write →
        HasFailed contents errors text old new → P text status → Answers contents errors P old new result
    fails-to-write new result f is write h p =
        subst (Answers contents errors P old new) (sym (is ∙ ap Err write)) record { text = text; writes = h; answer = (status, p) }

    -- the text is written, and then handed on
    pub flushed : (mid new : Sink W) (result : Result ℕ Fault) → HasWritten contents errors text old mid →
        Writes contents errors [] mid new result → IfOk result (λ s. s ≡ status) → IfErr result (λ f. f ≡ fault.Write) → P text status →
        Answers contents errors P old new result
    flushed mid new (Ok s) h w ok err p = record {
      text = text;
      writes = subst (λ t. HasWritten contents errors t old new) (append-nil text) (written_both contents errors text [] old mid new h w);
      answer = subst (P text) (sym ok) p;
    }
    flushed mid new (Err f) h w ok err p =
        fails-to-write new (Err f) f refl err
        (subst (λ t. HasFailed contents errors t old new) (append-nil text) (failed_second contents errors text [] old mid new h w)) p

    -- a call that fails only by Write writes the text, which is then handed on
    pub handed-text : (A : Type 0) (s : ℕ) (written : Result A Fault) (mid new : Sink W) (result : Result ℕ Fault) → s ≡ status →
        Writes contents errors text old mid written → IfErr written (λ f. f ≡ fault.Write) → P text status →
        Finishes contents errors s written mid new result → Answers contents errors P old new result
    handed-text A s (Ok done) mid new result same w is p h =
        flushed mid new result w h.0 (IfOk-weaker result _ _ (λ x e. e ∙ same) h.1) h.2 p
    handed-text A s (Err f) mid new result same w is p h =
        subst (λ x. Answers contents errors P old x result) (sym h.1) (fails-to-write mid result f h.0 is w p)

    -- a call writes the text, which is then handed on
    pub handed : (A : Type 0) (written : Result A Fault) (mid new : Sink W) (result : Result ℕ Fault) →
        FaultWrites contents errors text old mid written → IfWritten written (P text status) →
        Finishes contents errors status written mid new result → Answers contents errors P old new result
    handed A (Ok done) mid new result w p h = flushed mid new result w h.0 h.1 h.2 p
    handed A (Err f) mid new result w p h = subst (λ s. Answers contents errors P old s result) (sym h.1) (fails A mid result f h.0 w p)

  -- a failure to write, reported as a fault
  pub reported-as : (A E : Type 0) (text : List ℕ) (old new : Sink W) (written : Result A E) (reported : Result A Fault) →
      MatchResult written (λ x. reported ≡ Ok x) (λ e. IsErrAnd reported (λ f. f ≡ fault.Write)) →
      Writes contents errors text old new written → Writes contents errors text old new reported × IfErr reported (λ f. f ≡ fault.Write)
  reported-as A E text old new (Ok x) reported is h =
      subst (λ r. Writes contents errors text old new r × IfErr r (λ f. f ≡ fault.Write)) (sym is) (h, tt)
  reported-as A E text old new (Err e) reported is h =
      let (f, at, write) = err_from_is_err_and reported is in
      subst (λ r. Writes contents errors text old new r × IfErr r (λ f. f ≡ fault.Write)) (sym at) (h, write)

  -- a failure to write, or to hand on
  pub only-fails : (A : Type 0) (Q : Fault → Type 0) (status : ℕ) (written : Result A Fault) (mid new : Sink W)
      (result : Result ℕ Fault) → IfErr written (λ f. f ≡ fault.Write) → Q fault.Write →
      Finishes contents errors status written mid new result → IfErr result Q
  only-fails A Q status (Ok done) mid new result is q h = only-write Q result h.2 q
  only-fails A Q status (Err f) mid new result is q h = subst (λ r. IfErr r Q) (sym h.0) (subst Q (sym is) q)

  -- an answer is the status
  pub status-is : (A : Type 0) (status : ℕ) (written : Result A Fault) (mid new : Sink W) (result : Result ℕ Fault) →
      Finishes contents errors status written mid new result → IfOk result (λ s. s ≡ status)
  status-is A status (Ok done) mid new result h = h.1
  status-is A status (Err f) mid new result h = subst (λ r. IfOk r (λ s. s ≡ status)) (sym h.0) tt

  -- what is said of the writing's fault, and of a failure to hand the text on
  pub handed-fault : (A : Type 0) (P Q : Fault → Type 0) (status : ℕ) (written : Result A Fault) (mid new : Sink W)
      (result : Result ℕ Fault) → ((f : Fault) → P f → Q f) → IfErr written P → IfWritten written (P fault.Write) →
      Finishes contents errors status written mid new result → IfErr result Q
  handed-fault A P Q status (Ok done) mid new result so e w h = only-write Q result h.2 (so fault.Write w)
  handed-fault A P Q status (Err f) mid new result so e w h = subst (λ r. IfErr r Q) (sym h.0) (so f e)

-- ---- what a command comes to, by the call that reads for it

-- the faults of reading, and of reading for a window, are among those of `normalise`
pub may-read : (f : Fault) → IsOfReading MAX_LINES f → IsOfNormalise MAX_LINES f
may-read fault.Write h = tt
may-read (fault.Ambiguous clash) h = tt
may-read fault.OutsideWindow h = tt
may-read fault.WindowReversed h = tt
may-read _ h = h

pub may-narrow : (f : Fault) → IsOfReadNarrowed MAX_LINES f → IsOfNormalise MAX_LINES f
may-narrow fault.Write h = tt
may-narrow (fault.Ambiguous clash) h = tt
may-narrow _ h = h

pub may-check : (f : Fault) → IsOfCheck MAX_LINES f → IsOfNormalise MAX_LINES f
may-check fault.Write h = tt
may-check _ h = h

not-read : (f : Fault) → f ≢ fault.Read → is_read f ≡ false
not-read fault.Read other = absurd (other refl)
not-read _ other = refl

module _ {A : Type 0} (one : ReadCall A Fault) (IsFault : List ℕ → Unread → Fault → Type 0) {R : Type 0}
    (remaining : R → Option (List ℕ)) (errors : R → Option ℕ) (old new : Source R) where
  abbrev Comes : Result ℕ Fault → Type 0
  Comes = IsResultOf remaining errors (answering IsFault) old new

  -- a fault of reading
  pub unread : (f : Fault) → ((bytes : List ℕ) (after : Unread) → one.IsFault bytes after f → IsFault bytes after f) →
      (one.MayFail f → IsOfNormalise MAX_LINES f) → one.is_read f ≡ is_read f →
      IsResultOf remaining errors one old new (Err f) → (result : Result ℕ Fault) →
      IsErrAnd result (λ e. e ≡ f) → Comes result
  unread f so may same = hands-on one (answering IsFault) remaining errors old new f (record { fault = so; answers = may; same = same })

  module _ {W : Type 0} (contents : W → Option (List ℕ)) (write_errors : W → Option ℕ) (holds_nothing : W → Type 0)
      (IsAnswer : List ℕ → List ℕ → ℕ → Type 0) (sink : Sink W) where
    abbrev Is : Sink W → Result ℕ Fault → Type 0
    Is = IsAnswered remaining errors contents write_errors holds_nothing IsAnswer (answering IsFault) old new sink

    -- so there is no answer
    pub not-answered : (f : Fault) → ((bytes : List ℕ) (after : Unread) → one.IsFault bytes after f → IsFault bytes after f) →
        (one.MayFail f → IsOfNormalise MAX_LINES f) → one.is_read f ≡ is_read f → ¬ one.MayFail fault.Write →
        IsResultOf remaining errors one old new (Err f) →
        (result : Result ℕ Fault) → IsErrAnd result (λ e. e ≡ f) → Is sink result
    not-answered f so may same never call result handed =
        nothing-of-input contents write_errors holds_nothing sink result f handed
        (λ write. never (subst one.MayFail write call.answers)) remaining errors IsAnswer (answering IsFault) old new
        (unread f so may same call result handed)

  module _ (x : A) (whole : one.IsWhole x) (call : IsResultOf remaining errors one old new (Ok x)) (result : Result ℕ Fault) where
    -- one of what was read
    pub record Blames (f : Fault) : Type 0 where
      pub other : f ≢ fault.Read
      pub may : IsOfNormalise MAX_LINES f
      pub fault : (bytes : List ℕ) (after : Unread) → one.IsAnswer bytes x → IsFault bytes after f

    pub ends : IfErr result Blames → Comes result
    ends h = goes-on one (answering IsFault) remaining errors old new x call result (at result h)
      where
        at : (r : Result ℕ Fault) → IfErr r Blames → MatchResult r (Makes one (answering IsFault) x) (Refuses one (answering IsFault) x)
        at (Ok status) h = record { answer = λ bytes is. tt; whole = λ asked. whole }
        at (Err f) h = record { fault = h.fault; answers = h.may; other = not-read f h.other }

    -- which is Write alone
    pub ends-written : ((bytes : List ℕ) (after : Unread) → one.IsAnswer bytes x → IsFault bytes after fault.Write) →
        IfErr result (λ f. f ≡ fault.Write) → Comes result
    ends-written so is = ends (only-write Blames result is (record { fault = so; other = λ e. cc; may = tt }))

    module _ {W : Type 0} (contents : W → Option (List ℕ)) (write_errors : W → Option ℕ) (holds_nothing : W → Type 0)
        (IsAnswer : List ℕ → List ℕ → ℕ → Type 0) (sink mid sink_new : Sink W) (text : List ℕ) (written : Result (Unit {0}) Fault)
        (on : IsHandedOn holds_nothing sink_new result) where
      abbrev Shows : Type 0
      Shows = IsAnswered remaining errors contents write_errors holds_nothing IsAnswer (answering IsFault) old new sink sink_new result

      -- a call that fails only by Write writes the text of the answer
      pub text-shown : (status s : ℕ) → s ≡ status → Writes contents write_errors text sink mid written →
          IfErr written (λ f. f ≡ fault.Write) → OfInput remaining IsAnswer old text status →
          ((bytes : List ℕ) (after : Unread) → one.IsAnswer bytes x → IsFault bytes after fault.Write) →
          Finishes contents write_errors s written mid sink_new result → Shows
      text-shown status s same writes only answer so finishes = record {
        answer = handed-text contents write_errors (OfInput remaining IsAnswer old) sink text status (Unit {0}) s written mid sink_new
            result same writes only answer finishes;
        reads = ends-written so
            (only-fails contents write_errors (Unit {0}) (λ f. f ≡ fault.Write) s written mid sink_new result only refl finishes);
        handed_on = on;
      }

      -- a view writes it, or has none for a fault of its own
      pub view-shown : (View : Type 0) (IsViewFault : Fault → Type 0) → FaultWrites contents write_errors text sink mid written →
          IfWritten written View → (View → OfInput remaining IsAnswer old text 0) → (View → IsViewFault fault.Write) →
          IfErr written IsViewFault → ((f : Fault) → IsViewFault f → Blames f) →
          Finishes contents write_errors 0 written mid sink_new result → Shows
      view-shown View IsViewFault writes view answer may faults blames finishes = record {
        answer = handed contents write_errors (OfInput remaining IsAnswer old) sink text 0 (Unit {0}) written mid sink_new result writes
            (written-then (Unit {0}) View _ written answer view) finishes;
        reads = ends (handed-fault contents write_errors (Unit {0}) IsViewFault Blames 0 written mid sink_new result blames faults
            (written-then (Unit {0}) View _ written may view) finishes);
        handed_on = on;
      }
