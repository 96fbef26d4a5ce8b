-- What comes of the sources of `update`, where the bytes that their readers give are known.
use Rattle.cif_feed.specs.declared.changes.Waived.{Waived}
use Rattle.cif_feed.proofs.Names.{AlreadyThere, BadTransaction, BytesSpellPublished, Err, FeedFault, HasFailed, HasWritten, IfErr}
use Rattle.cif_feed.proofs.Names.{IfOk, IfSome, IsDeviceOrMemory, IsPublishedOf, IsResultOf, List, MatchResult, NotThere, NotUpdate, Ok}
use Rattle.cif_feed.proofs.Names.{Option, PublishedExtract, PublishedParts, Result, Sink, Some, Source, Unread, Writes, [], all_codes, ap}
use Rattle.cif_feed.proofs.Names.{append-nil, append_assoc, goes-on, inl, inr, list_any, not, published_parts, published_text, reader_of}
use Rattle.cif_feed.proofs.Names.{reading_published, refl, subst, sym, unread_of, updating, writes_on, ℕ, ⊎_elim, ◌&&◌, ◌++◌, ◌||◌, ◌∙◌}
use Rattle.cif_feed.{proofs.Names.◌∷◌, proofs.Names.◌≡◌, proofs.Names.◌⊎◌, specs.Counts.have_marks}
use Rattle.cif_feed.specs.FeedAnswer.{AreDoneInTurn, AreGiven, AreUpdatesRead, EndsAs, FeedAnswers, FeedFinishes, IsReported}
use Rattle.cif_feed.specs.FeedAnswer.{IsUpdateAnswer, IsUpdateFault, OfUpdates, UpdateReported, counts_in, waived_by}
use Rattle.cif_columns.specs.declared.{line_reader.TheConstants.MAX_LINES, sink.WriteFault.WriteFault}
use Rattle.cif_extract.specs.ReadCall.{ReadCall}
use Rattle.cif_extract.specs.declared.fault.Fault.TheVariants.{Memory, Read, Refused, Write}
use Rattle.cif_feed.specs.declared.feed_fault.FeedFault.TheVariants.{BadHoliday, Extract, OutOfSequence}
use Rattle.cif_feed.specs.Updated.{IsOfUpdate, IsOutcomeOf, IsUpdateFault as IsOneUpdateFault}
use Rattle.cif_feed.specs.UpdatesInTurn.{AreUpdatesDone, IsOneRefused, IsRefusedFor}
use Rattle.cif_feed.specs.declared.changes.Unfit.TheVariants as unfit
use Rattle.cif_feed.specs.declared.{holidays.HolidayCodes.HolidayCodes, update.Outcome.Outcome, updates_in_turn.DoneUpdate.DoneUpdate}

-- a call's answer, and its fault, where the bytes of its reader are known
module _ {A F R : Type 0} (may : ReadCall A F) (remaining : R → Option (List ℕ)) (errors : R → Option ℕ) (old new : Source R)
    (bytes : List ℕ) (known : remaining (reader_of old) ≡ Some bytes) where
  pub answer-of : (x : A) → IsResultOf remaining errors may old new (Ok x) → may.IsAnswer bytes x
  answer-of x call = subst (λ o. IfSome o (λ b. may.IsAnswer b x)) known call.ok

  pub fault-of : (f : F) → IsResultOf remaining errors may old new (Err f) → may.IsFault bytes (unread_of remaining new) f
  fault-of f call = subst (λ o. IfSome o (λ b. may.IsFault b (unread_of remaining new) f)) known call.fault

-- why one update isn't done
update-refused : (how : Waived) (old : PublishedParts) (bytes : List ℕ) (after : Unread) (f : FeedFault) →
    IsOneUpdateFault how old MAX_LINES bytes after f → IsDeviceOrMemory f ⊎ IsRefusedFor how MAX_LINES old bytes f
update-refused how old bytes after (Extract (Refused line why)) h = inr (inl h.0)
update-refused how old bytes after (Extract Read) h = inl tt
update-refused how old bytes after (Extract Memory) h = inl tt
update-refused how old bytes after (Extract _) h = absurd h
update-refused how old bytes after (NotUpdate line) h = inr (inl h.0)
update-refused how old bytes after (BadTransaction line) h = inr (inl h.0)
update-refused how old bytes after (BadHoliday line) h = absurd h
update-refused how old bytes after (OutOfSequence line) h = inr (inr (record { line = line; why = unfit.OutOfSequence }, h, refl))
update-refused how old bytes after (NotThere line) h = inr (inr (record { line = line; why = unfit.NotThere }, h, refl))
update-refused how old bytes after (AlreadyThere line) h = inr (inr (record { line = line; why = unfit.AlreadyThere }, h, refl))

module _ {R : Type 0} (remaining : R → Option (List ℕ)) (errors : R → Option ℕ) (how : Waived) where
  -- updates that are done are done to the extract in turn
  pub done-in-turn : (sources after : List (Source R)) (old new : PublishedParts) (done : List DoneUpdate) (given : List (List ℕ)) →
      AreDoneInTurn remaining errors how old new sources after done (Ok tt) → AreGiven remaining sources given →
      AreUpdatesDone how MAX_LINES old given new (waived_by done)
      × (list_any (λ (u : DoneUpdate). have_marks u.outcome.counts) done ≡ list_any (λ g. have_marks (counts_in g)) given)
  done-in-turn [] after old new done given h are = (
    subst (λ g. AreUpdatesDone how MAX_LINES old g new (waived_by done)) (sym are) (h.2, ap waived_by h.3),
    ap (list_any (λ (u : DoneUpdate). have_marks u.outcome.counts)) h.3 ∙ ap (list_any (λ g. have_marks (counts_in g))) (sym are),
  )
  done-in-turn (s ∷ ss) after old new done given (read, others, is, mid, way) (bytes, more, same, known, are) =
      subst (λ g. AreUpdatesDone how MAX_LINES old g new (waived_by done)
      × (list_any (λ (u : DoneUpdate). have_marks u.outcome.counts) done ≡ list_any (λ l. have_marks (counts_in l)) g)) (sym same)
      (⊎_elim (λ no. let e : Ok tt ≡ Err no.0 = no.1 in absurd (cc))
      (λ on.
      let one : IsOutcomeOf how old MAX_LINES bytes mid on.0.outcome =
      answer-of (updating how old mid MAX_LINES) remaining errors s read bytes known on.0.outcome on.4 in
      let further = done-in-turn ss others mid new on.1 more on.5 are in (
        (mid, on.0.outcome.waived.items, waived_by on.1, one.done, further.0, ap waived_by on.2),
        ap (list_any (λ (u : DoneUpdate). have_marks u.outcome.counts)) on.2
            ∙ (ap (λ c. have_marks c || list_any (λ (u : DoneUpdate). have_marks u.outcome.counts) on.1) one.counts
            ∙ ap (λ b. have_marks (counts_in bytes) || b) further.1),
      )) way)

  -- or one isn't, for this
  pub refused-in-turn : (sources after : List (Source R)) (old new : PublishedParts) (done : List DoneUpdate) (given : List (List ℕ))
      (f : FeedFault) → AreDoneInTurn remaining errors how old new sources after done (Err f) → AreGiven remaining sources given →
      IsDeviceOrMemory f ⊎ IsOneRefused how MAX_LINES old given f
  refused-in-turn [] after old new done given f h are = absurd h.1
  refused-in-turn (s ∷ ss) after old new done given f (read, others, is, mid, way) (bytes, more, same, known, are) =
      subst (λ g. IsDeviceOrMemory f ⊎ IsOneRefused how MAX_LINES old g f) (sym same)
      (⊎_elim refused (λ on. later on.0.outcome on.4 (refused-in-turn ss others mid new on.1 more f on.5 are)) way)
    where
      refused : (fault : FeedFault) × (◌≡◌ {A = Result (Unit {0}) FeedFault} (Err f) (Err fault)) × (others ≡ ss)
          × IsResultOf remaining errors (updating how old mid MAX_LINES) s read (Err fault)
          → IsDeviceOrMemory f ⊎ IsOneRefused how MAX_LINES old (bytes ∷ more) f
      refused (fault, is, still, call) =
          let same : fault ≡ f = cc in
          ⊎_elim inl (λ h. inr (inl h))
          (update-refused how old bytes _ f (subst (IsOneUpdateFault how old MAX_LINES bytes _) same
          (fault-of (updating how old mid MAX_LINES) remaining errors s read bytes known fault call)))

      later : (outcome : Outcome) → IsResultOf remaining errors (updating how old mid MAX_LINES) s read (Ok outcome) →
          IsDeviceOrMemory f ⊎ IsOneRefused how MAX_LINES mid more f →
          IsDeviceOrMemory f ⊎ IsOneRefused how MAX_LINES old (bytes ∷ more) f
      later outcome call =
          let one : IsOutcomeOf how old MAX_LINES bytes mid outcome =
          answer-of (updating how old mid MAX_LINES) remaining errors s read bytes known outcome call in
          ⊎_elim inl (λ h. inr (inr (mid, outcome.waived.items, one.done, h)))

  -- whatever the readers give, no other fault comes
  pub faults-in-turn : (sources after : List (Source R)) (old new : PublishedParts) (done : List DoneUpdate) (f : FeedFault) →
      AreDoneInTurn remaining errors how old new sources after done (Err f) → IsOfUpdate MAX_LINES f
  faults-in-turn [] after old new done f h = absurd h.1
  faults-in-turn (s ∷ ss) after old new done f (read, others, is, mid, way) =
      ⊎_elim (λ no. let same : no.0 ≡ f = cc in
      let call : IsResultOf remaining errors (updating how old mid MAX_LINES) s read (Err no.0) = no.3 in
      subst (IsOfUpdate MAX_LINES) same call.answers)
      (λ on. faults-in-turn ss others mid new on.1 f on.5) way

-- an update that was done isn't listed where memory runs out
pub none-listed : {R : Type 0} (remaining : R → Option (List ℕ)) (errors : R → Option ℕ) (how : Waived) (old new : PublishedParts)
    (s t : Source R) (outcome : Outcome) → IsResultOf remaining errors (updating how old new MAX_LINES) s t (Ok outcome) →
    IsResultOf remaining errors (updating how old new MAX_LINES) s t (Err (Extract Memory))
none-listed remaining errors how old new s t outcome call =
    goes-on (updating how old new MAX_LINES) (updating how old new MAX_LINES) remaining errors s t outcome call
    (Err (Extract Memory)) (record { fault = λ bytes after is. tt; answers = tt; other = refl })

-- ---- no source, and one source more

pub none-done : {R : Type 0} (remaining : R → Option (List ℕ)) (errors : R → Option ℕ) (how : Waived) (old : PublishedParts)
    (sources : List (Source R)) → sources ≡ [] → AreDoneInTurn remaining errors how old old sources sources [] (Ok tt)
none-done remaining errors how old sources is =
    subst (λ l. AreDoneInTurn remaining errors how old old l l [] (Ok tt)) (sym is) (refl, tt, refl, refl)

module _ {R : Type 0} (remaining : R → Option (List ℕ)) (errors : R → Option ℕ) (how : Waived) (old mid : PublishedParts)
    (sources : List (Source R)) (s t : Source R) (ss : List (Source R)) (is : sources ≡ s ∷ ss) where
  pub stops-there : (result : Result (Unit {0}) FeedFault) (f : FeedFault) → result ≡ Err f →
      IsResultOf remaining errors (updating how old mid MAX_LINES) s t (Err f) →
      AreDoneInTurn remaining errors how old mid sources (t ∷ ss) [] result
  stops-there result f err call =
      subst (λ l. AreDoneInTurn remaining errors how old mid l (t ∷ ss) [] result) (sym is)
      (t, ss, refl, mid, inl (f, err, refl, call))

  pub goes-further : (first : DoneUpdate) (new : PublishedParts) (after : List (Source R)) (later : List DoneUpdate)
      (result : Result (Unit {0}) FeedFault) → first.header ≡ mid.header →
      IsResultOf remaining errors (updating how old mid MAX_LINES) s t (Ok first.outcome) →
      AreDoneInTurn remaining errors how mid new ss after later result →
      AreDoneInTurn remaining errors how old new sources (t ∷ after) (first ∷ later) result
  goes-further first new after later result header call on =
      subst (λ l. AreDoneInTurn remaining errors how old new l (t ∷ after) (first ∷ later) result) (sym is)
      (t, after, refl, mid, inr (first, later, refl, header, call, on))

pub listed-further : (known mid all : List DoneUpdate) (first : DoneUpdate) (later : List DoneUpdate)
    (result : Result (Unit {0}) FeedFault) → mid ≡ known ++ first ∷ [] → IfOk result (λ done. all ≡ mid ++ later) →
    IfOk result (λ done. all ≡ known ++ first ∷ later)
listed-further known mid all first later (Ok done) one h = h ∙ (ap (λ t. t ++ later) one ∙ append_assoc known (first ∷ []) later)
listed-further known mid all first later (Err f) one h = tt

-- ---- the whole run

-- a fault before anything is written
silent : {W A T : Type 0} (contents : W → Option (List ℕ)) (errors : W → Option ℕ) (reported : A → T) (P : List ℕ → Option T → Type 0)
    (old : Sink W) (f : FeedFault) → IsOfUpdate MAX_LINES f → FeedAnswers contents errors reported P old old (Err f)
silent contents errors reported P old (Extract Write) of = absurd of
silent contents errors reported P old (Extract _) of = record { text = []; writes = refl; answer = tt }
silent contents errors reported P old _ of = record { text = []; writes = refl; answer = tt }

-- a text is written, and then handed on, or that fails
pub flushed : {W A E : Type 0} (contents : W → Option (List ℕ)) (errors : W → Option ℕ) (text : List ℕ) (old mid new : Sink W)
    (result : Result A E) → HasWritten contents errors text old mid → Writes contents errors [] mid new result →
    Writes contents errors text old new result
flushed contents errors text old mid new result w h =
    subst (λ t. Writes contents errors t old new result) (append-nil text) (writes_on contents errors text [] old mid new result w h)

-- a text is written, and then handed on, or neither
pub finished : {W A : Type 0} (contents : W → Option (List ℕ)) (errors : W → Option ℕ) (text : List ℕ) (old mid new : Sink W)
    (written : Result A WriteFault) (result : Result (Unit {0}) FeedFault) → Writes contents errors text old mid written →
    FeedFinishes contents errors written mid new result →
    MatchResult result (λ done. HasWritten contents errors text old new)
    (λ f. (f ≡ Extract Write) × HasFailed contents errors text old new)
finished contents errors text old mid new (Ok done) (Ok handed) w h =
    flushed {A = Unit {0}} {E = FeedFault} contents errors text old mid new (Ok handed) w h.0
finished contents errors text old mid new (Ok done) (Err f) w h =
    (h.1, flushed {A = Unit {0}} {E = FeedFault} contents errors text old mid new (Err f) w h.0)
finished contents errors text old mid new (Err f) result w h =
    subst (λ r. MatchResult r (λ done. HasWritten contents errors text old new)
    (λ f. (f ≡ Extract Write) × HasFailed contents errors text old new)) (sym h.0)
    (refl, subst (λ s. HasFailed contents errors text old s) (sym h.1) w)

module _ {R W A : Type 0} (remaining : R → Option (List ℕ)) (errors : R → Option ℕ) (contents : W → Option (List ℕ))
    (write_errors : W → Option ℕ) (reported : A → UpdateReported) (listed : A → List DoneUpdate) (how : Waived) (codes : HolidayCodes)
    (all : codes ≡ all_codes)
    (full full_new : Source R) (extract : PublishedExtract)
    (read : IsResultOf remaining errors (reading_published codes MAX_LINES) full full_new (Ok extract)) (x : PublishedExtract)
    (same : x ≡ extract) (new : PublishedParts) (updates updates_new : List (Source R)) (these : List DoneUpdate) where
  abbrev InTurn : Result (Unit {0}) FeedFault → Type 0
  InTurn = AreDoneInTurn remaining errors how (published_parts x) new updates updates_new these

  abbrev Answer : List ℕ → Option UpdateReported → Type 0
  Answer text reported = OfUpdates remaining (λ bytes given. IsReported (IsUpdateAnswer how bytes given text) reported) full updates

  abbrev reported-here : UpdateReported
  reported-here = record {
    as_prepared = not (have_marks extract.counts) && list_any (λ (u : DoneUpdate). have_marks u.outcome.counts) these;
    waived = waived_by these;
  }

  call : IsResultOf remaining errors (reading_published all_codes MAX_LINES) full full_new (Ok extract)
  call = subst (λ may. IsResultOf remaining errors (reading_published may MAX_LINES) full full_new (Ok extract)) all read

  published : (bytes : List ℕ) → remaining (reader_of full) ≡ Some bytes → IsPublishedOf all_codes MAX_LINES bytes extract
  published bytes known = answer-of (reading_published all_codes MAX_LINES) remaining errors full full_new bytes known extract call

  spelled : (bytes : List ℕ) → remaining (reader_of full) ≡ Some bytes → BytesSpellPublished all_codes MAX_LINES bytes (published_parts x)
  spelled bytes known = subst (λ e. BytesSpellPublished all_codes MAX_LINES bytes (published_parts e)) (sym same)
      (let is = published bytes known in is.spelled)

  read-first : (done : Result (Unit {0}) FeedFault) (result : Result A FeedFault) → InTurn done → EndsAs listed these done result →
      AreUpdatesRead remaining errors listed how full full_new updates updates_new result
  read-first done result turn ends = inr (
    extract,
    new,
    these,
    done,
    call,
    subst (λ e. AreDoneInTurn remaining errors how (published_parts e) new updates updates_new these done) same turn,
    ends,
  )

  -- an update isn't done
  module _ (f : FeedFault) (turn : InTurn (Err f)) (result : Result A FeedFault) (is : result ≡ Err f) where
    pub undone-answer : (sink : Sink W) → FeedAnswers contents write_errors reported Answer sink sink result
    undone-answer sink = subst (FeedAnswers contents write_errors reported Answer sink sink) (sym is)
        (silent contents write_errors reported Answer sink f
        (faults-in-turn remaining errors how updates updates_new (published_parts x) new these f turn))

    pub undone-fault : OfUpdates remaining (λ bytes given. IfErr result (IsUpdateFault how bytes given)) full updates
    undone-fault bytes given known are = subst (λ r. IfErr r (IsUpdateFault how bytes given)) (sym is)
        (⊎_elim inl (λ h. inr (inr record { old = published_parts x; spelled = spelled bytes known; refused = h }))
        (refused-in-turn remaining errors how updates updates_new (published_parts x) new these given f turn are))

    pub undone-reads : AreUpdatesRead remaining errors listed how full full_new updates updates_new result
    undone-reads = read-first (Err f) result turn is

  -- all are
  module _ (turn : InTurn (Ok tt)) where
    written : Answer (published_text new) (Some reported-here)
    written bytes given known are =
        let both = done-in-turn remaining errors how updates updates_new (published_parts x) new these given turn are in
        let is = published bytes known in
        record {
          written = record { old = published_parts x; spelled = spelled bytes known; new = new; done = both.0; text = refl };
          as_prepared = ap (λ c. not (have_marks c) && list_any (λ (u : DoneUpdate). have_marks u.outcome.counts) these) is.counts
              ∙ ap (λ b. not (have_marks (counts_in bytes)) && b) both.1;
        }

    -- and the text is written, or isn't
    abbrev Ends : Sink W → Sink W → Result A FeedFault → Type 0
    Ends old after result = MatchResult result (λ a. HasWritten contents write_errors (published_text new) old after)
        (λ f. (f ≡ Extract Write) × HasFailed contents write_errors (published_text new) old after)

    pub ended-answer : ((a : A) → reported a ≡ reported-here) → (old after : Sink W) (result : Result A FeedFault) → Ends old after result →
        FeedAnswers contents write_errors reported Answer old after result
    ended-answer is old after (Ok a) w = record {
      text = published_text new;
      writes = w;
      answer = subst (λ t. Answer (published_text new) (Some t)) (sym (is a)) written;
    }
    ended-answer is old after (Err f) w =
        subst (λ e. FeedAnswers contents write_errors reported Answer old after (Err e)) (sym w.0) record {
          text = published_text new;
          writes = w.1;
          answer = λ bytes given known are. (reported-here, written bytes given known are);
        }

    pub ended-fault : (old after : Sink W) (result : Result A FeedFault) → Ends old after result →
        OfUpdates remaining (λ bytes given. IfErr result (IsUpdateFault how bytes given)) full updates
    ended-fault old after (Ok a) w bytes given known are = tt
    ended-fault old after (Err f) w bytes given known are = subst (IsUpdateFault how bytes given) (sym w.0) (inl tt)

    pub ended-reads : ((a : A) → listed a ≡ these) → (old after : Sink W) (result : Result A FeedFault) → Ends old after result →
        AreUpdatesRead remaining errors listed how full full_new updates updates_new result
    ended-reads is old after (Ok a) w = read-first (Ok tt) (Ok a) turn (is a, tt)
    ended-reads is old after (Err f) w = read-first (Ok tt) (Err f) turn (tt, w.0)
