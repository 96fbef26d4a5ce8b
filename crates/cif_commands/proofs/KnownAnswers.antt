-- What the commands answer, by what their calls answer: of bytes that are known.
use Rattle.cif_commands.proofs.Names.{AreAllClashes, AreCompared, AreComparedAs, AreDifferences, AreNone, Asked, Bool, BytesSpellWithin}
use Rattle.cif_commands.proofs.Names.{CalendarJob, CanonParts, CanonicalJob, Clash, CompareJob, DayJob, DifferencesParts, Err, ExplainJob}
use Rattle.cif_commands.proofs.Names.{ExtractLines, ExtractParts, Fault, IfErr, IfSome, IsCalendarAnswer, IsCanonOfInput}
use Rattle.cif_commands.proofs.Names.{IsCanonicalAnswer, IsClashesAnswer, IsClashlessRefusal, IsCompareAnswer, IsCompareFault, IsDayAnswer}
use Rattle.cif_canon.specs.Differences.{TurnLeftIntoRight}
use Rattle.cif_commands.proofs.Names.{IsDayFault, IsDiffAnswer, IsErrAnd, IsExplainAnswer, IsExplanation, IsListedStatus, IsNormaliseFault}
use Rattle.cif_commands.proofs.Names.{IsOfNormalise, IsReadNarrowedFault, IsResultOfBoth, IsTrainAnswer, IsTrainFault, IsTrue}
use Rattle.cif_commands.proofs.Names.{IsWeekCalendarFault, List, MAX_LINES, Ok, Option, Result, Source, SpellsNarrowed, TrainJob, Unread, []}
use Rattle.cif_commands.proofs.Names.{ap, canon-fault, canonical_text, comparison_line, differences_in, extract_parts, false, inl}
use Rattle.cif_commands.proofs.Names.{inr, is-normalised, known_so, lines_of, listed_status, outcome_of, reader_of, reading_extract, refl, sym}
use Rattle.cif_commands.proofs.Names.{table_text, true, true≢false, ℕ, ⊎_elim, ◌↔◌, ◌≡◌, ◌⊎◌}
use Rattle.cif_commands.specs.{Answer.IsBoardAnswer, Answer.IsCalendarIn, Answer.clashes_in, declared.job.BoardJob.BoardJob}
use Rattle.cif_commands.specs.declared.job.ClashesJob.{ClashesJob}
use Rattle.cif_rows.specs.declared.format.Format.{Format}
use Rattle.cif_views.specs.{Boards.IsBoard, Explanation.IsExplanationFault, Listing.IsDayListing, Listing.IsTrainListing}
use Rattle.cif_extract.{proofs.ReadCalls.both-go-on, proofs.ReadCalls.both-hand-on, specs.declared.extract.Extract.Extract}
use Rattle.cif_extract.specs.declared.fault.Fault.TheVariants as fault
use Rattle.cif_canon.{specs.Pair.IsNarrowedPair, specs.Pair.SpellPair, specs.declared.comparison.Comparison.Comparison}
use Rattle.cif_commands.specs.declared.answers.CanonicalOutput.{CanonicalOutput}
use Rattle.cif_commands.specs.declared.answers.CanonicalOutput.TheVariants as output

-- the status of a list, of which it is reported whether there is none
pub listed : (None : Type 0) (none : Bool) → IsTrue none ↔ None → IsListedStatus None (listed_status none)
listed None true tells = inl (refl, tells.0 refl)
listed None false tells = inr (refl, λ n. true≢false (sym (tells.1 n)))

module _ (start : Option (List ℕ)) where
  -- the canonical form of what is read: its text, its counts, or a table of it
  pub canonical-answer : (o : CanonicalOutput) (job : CanonicalJob) (c : CanonParts) →
      IfSome start (λ bytes. IsCanonOfInput job.form job.asked MAX_LINES bytes c) →
      IfSome start (λ bytes. IsCanonicalAnswer o job bytes (canonical_text o c) 0)
  canonical-answer o job c read =
      known_so start (λ bytes. IsCanonOfInput job.form job.asked MAX_LINES bytes c)
      (λ bytes. IsCanonicalAnswer o job bytes (canonical_text o c) 0) (λ bytes h. record {
        canonical = c.text;
        counts = c.counts;
        normalised = is-normalised MAX_LINES job.asked bytes job.form h.meant h.spelled c h.is_canon;
        text_is = same o (lines_of h.is_canon.canonical.made) h.is_canon.lines_are;
        status_is = refl;
      }) read
    where
      same : (o : CanonicalOutput) (lines : ExtractLines) → c.lines ≡ lines →
          canonical_text o c ≡ canonical_text o (record { text = c.text; lines = lines; counts = c.counts })
      same output.Extract lines are = refl
      same output.Counts lines are = refl
      same (output.Table table format) lines are = ap (table_text format table) are

  module _ (x : ExtractParts) (spelled : IfSome start (λ bytes. BytesSpellWithin MAX_LINES bytes x)) where
    pub day-answer : (job : DayJob) (text : List ℕ) → IsDayListing job.listing x job.day text →
        IfSome start (λ bytes. IsDayAnswer job bytes text 0)
    day-answer job text view =
        known_so start (λ bytes. BytesSpellWithin MAX_LINES bytes x) (λ bytes. IsDayAnswer job bytes text 0)
        (λ bytes s. record { extract = x; spelled = s; view = view; status_is = refl }) spelled

    pub board-answer : (job : BoardJob) (text : List ℕ) → IsBoard job.format x job.board text →
        IfSome start (λ bytes. IsBoardAnswer job bytes text 0)
    board-answer job text view =
        known_so start (λ bytes. BytesSpellWithin MAX_LINES bytes x) (λ bytes. IsBoardAnswer job bytes text 0)
        (λ bytes s. record { extract = x; spelled = s; view = view; status_is = refl }) spelled

    pub explain-answer : (job : ExplainJob) (text : List ℕ) → IsExplanation job.format x job.uid job.day text →
        IfSome start (λ bytes. IsExplainAnswer job bytes text 0)
    explain-answer job text is =
        known_so start (λ bytes. BytesSpellWithin MAX_LINES bytes x) (λ bytes. IsExplainAnswer job bytes text 0)
        (λ bytes s. record { extract = x; spelled = s; explanation = is; status_is = refl }) spelled

  pub train-answer : (job : TrainJob) (x : ExtractParts) → IfSome start (SpellsNarrowed MAX_LINES job.asked x) → (text : List ℕ)
      → IsTrainListing job.listing job.form x job.uid text → IfSome start (λ bytes. IsTrainAnswer job bytes text 0)
  train-answer job x spelled text view =
      known_so start (SpellsNarrowed MAX_LINES job.asked x) (λ bytes. IsTrainAnswer job bytes text 0)
      (λ bytes s. record { extract = x; spelled = s; view = view; status_is = refl }) spelled

  pub calendar-answer : (job : CalendarJob) (x : ExtractParts) → IfSome start (SpellsNarrowed MAX_LINES job.asked x) → (text : List ℕ)
      → IsCalendarIn job.format x job.uid text → IfSome start (λ bytes. IsCalendarAnswer job bytes text 0)
  calendar-answer job x spelled text view =
      known_so start (SpellsNarrowed MAX_LINES job.asked x) (λ bytes. IsCalendarAnswer job bytes text 0)
      (λ bytes s. record { extract = x; spelled = s; view = view; status_is = refl }) spelled

  pub clashes-answer : (job : ClashesJob) (x : ExtractParts) → IfSome start (SpellsNarrowed MAX_LINES job.asked x) → (clashes : List Clash)
      (none : Bool) → AreAllClashes x clashes → IsTrue none ↔ (clashes ≡ [])
      → IfSome start (λ bytes. IsClashesAnswer job bytes (clashes_in job.format clashes) (listed_status none))
  clashes-answer job x spelled clashes none all tells =
      known_so start (SpellsNarrowed MAX_LINES job.asked x)
      (λ bytes. IsClashesAnswer job bytes (clashes_in job.format clashes) (listed_status none)) (λ bytes s. record {
        extract = x;
        spelled = s;
        clashes = clashes;
        are_clashes = all;
        text_is = refl;
        status_is = listed (clashes ≡ []) none tells;
      }) spelled

-- two readers, of which what they give is read as these extracts
module _ {R : Type 0} (remaining : R → Option (List ℕ)) (errors : R → Option ℕ) (left left_new right right_new : Source R)
    (x y : Extract) where
  abbrev AreRead : Asked → Bool → Type 0
  AreRead asked common =
      IsResultOfBoth remaining errors (reading_extract MAX_LINES) (IsNarrowedPair asked common) left left_new right right_new (Ok (x, y))

  -- what follows from what the bytes spell, where these are known
  known-pair : (asked : Asked) (common : Bool) → AreRead asked common → (P : List ℕ → List ℕ → Type 0) →
      ((a b : List ℕ) → SpellPair asked common a b (extract_parts x) (extract_parts y) → P a b) →
      IfSome (remaining (reader_of left)) (λ a. IfSome (remaining (reader_of right)) (P a))
  known-pair asked common read P so = ⊎_elim
      (λ l. let no : ◌≡◌ {A = Result (Extract × Extract) Fault} (Ok (x, y)) (Err l.0) = l.1 in absurd (cc))
      (λ l. ⊎_elim
      (λ r. let no : ◌≡◌ {A = Result (Extract × Extract) Fault} (Ok (x, y)) (Err r.0) = r.1 in absurd (cc))
      (λ r. known_so (remaining (reader_of left)) (λ a. BytesSpellWithin MAX_LINES a (extract_parts l.0))
      (λ a. IfSome (remaining (reader_of right)) (P a)) (λ a s.
      known_so (remaining (reader_of right)) (λ b. BytesSpellWithin MAX_LINES b (extract_parts r.0)) (P a) (λ b t. so a b record {
        left_whole = extract_parts l.0;
        right_whole = extract_parts r.0;
        left_spelled = s;
        right_spelled = t;
        narrowed = r.2;
      }) r.1.ok) l.1.ok) l.2) read

  pub compare-answer : (job : CompareJob) → AreRead job.asked job.common → (c : Comparison) →
      AreCompared (extract_parts x) (extract_parts y) c →
      IfSome (remaining (reader_of left)) (λ a. IfSome (remaining (reader_of right))
      (λ b. IsCompareAnswer job a b (comparison_line c) (outcome_of c)))
  compare-answer job read c compared =
      known-pair job.asked job.common read (λ a b. IsCompareAnswer job a b (comparison_line c) (outcome_of c))
      (λ a b spelled. record {
        left = extract_parts x;
        right = extract_parts y;
        spelled = spelled;
        comparison = c;
        compared = compared;
        text_is = refl;
        status_is = refl;
      })

  pub diff-answer : (format : Format) (job : CompareJob) → AreRead job.asked job.common → (d : DifferencesParts) (none : Bool) →
      AreDifferences (extract_parts x) (extract_parts y) d → TurnLeftIntoRight (extract_parts x) (extract_parts y) d →
      IsTrue none ↔ AreNone d →
      IfSome (remaining (reader_of left)) (λ a. IfSome (remaining (reader_of right))
      (λ b. IsDiffAnswer format job a b (differences_in format d) (listed_status none)))
  diff-answer format job read d none are turn tells =
      known-pair job.asked job.common read (λ a b. IsDiffAnswer format job a b (differences_in format d) (listed_status none))
      (λ a b spelled. record {
        left = extract_parts x;
        right = extract_parts y;
        spelled = spelled;
        differences = d;
        are_differences = are;
        turn = turn;
        text_is = refl;
        status_is = listed (AreNone d) none tells;
      })

  -- what is made of them: an answer, or none, since they aren't compared or it can't be written
  pub compared : (asked : Asked) (common : Bool) → AreRead asked common → (result : Result ℕ Fault) →
      IfErr result (λ f. IsCompareFault (extract_parts x) (extract_parts y) f ⊎ (f ≡ fault.Write)) →
      IsResultOfBoth remaining errors (reading_extract MAX_LINES) (AreComparedAs asked common) left left_new right right_new result
  compared asked common read result h =
      both-go-on remaining errors (reading_extract MAX_LINES) (IsNarrowedPair asked common) (AreComparedAs asked common) left left_new right
      right_new (x, y) read result (at result h)
    where
      at : (r : Result ℕ Fault) → IfErr r (λ f. IsCompareFault (extract_parts x) (extract_parts y) f ⊎ (f ≡ fault.Write)) →
          (one other : Extract) → IsNarrowedPair asked common one other (Ok (x, y)) → AreComparedAs asked common one other r
      at (Ok status) h one other narrowed = tt
      at (Err f) h one other narrowed = inr (extract_parts x, extract_parts y, narrowed, h)

-- two readers of which one can't be read, or which aren't narrowed
pub uncompared : {R : Type 0} (remaining : R → Option (List ℕ)) (errors : R → Option ℕ) (left left_new right right_new : Source R)
    (asked : Asked) (common : Bool) (f : Fault) →
    IsResultOfBoth remaining errors (reading_extract MAX_LINES) (IsNarrowedPair asked common) left left_new right right_new (Err f) →
    (result : Result ℕ Fault) → IsErrAnd result (λ e. e ≡ f) →
    IsResultOfBoth remaining errors (reading_extract MAX_LINES) (AreComparedAs asked common) left left_new right right_new result
uncompared remaining errors left left_new right right_new asked common f =
    both-hand-on remaining errors (reading_extract MAX_LINES) (IsNarrowedPair asked common) (AreComparedAs asked common) left left_new right
    right_new f (λ x y. inl)

-- ---- the faults of bytes that are known

module _ (asked : Asked) (bytes : List ℕ) (after : Unread) where
  -- of a view of a train
  pub train-fault : (x : ExtractParts) → SpellsNarrowed MAX_LINES asked x bytes → (f : Fault) → IsTrainFault x f →
      IsNormaliseFault MAX_LINES asked bytes after f
  train-fault x s fault.Write h = tt
  train-fault x s f h = canon-fault MAX_LINES asked bytes after x s f h

  -- of reading, for a command that refuses no clash
  pub clashless-fault : (f : Fault) → IsReadNarrowedFault MAX_LINES asked bytes after f → IsClashlessRefusal asked bytes after f
  clashless-fault fault.Write h = absurd h
  clashless-fault _ h = h

  -- of a calendar
  pub calendar-fault : (x : ExtractParts) → SpellsNarrowed MAX_LINES asked x bytes → (f : Fault) → IsWeekCalendarFault f →
      IsClashlessRefusal asked bytes after f
  calendar-fault x spelled fault.Memory is = tt
  calendar-fault x spelled fault.Write is = (x, spelled)
  calendar-fault x spelled _ is = absurd is

-- ---- the faults of a view are among those of `normalise`

pub day-may : (x : ExtractParts) (d : ℕ) (f : Fault) → IsDayFault x d f → IsOfNormalise MAX_LINES f
day-may x d fault.OutsideWindow h = tt
day-may x d fault.Write h = tt
day-may x d (fault.Ambiguous clash) h = tt
day-may x d fault.Memory h = tt
day-may x d _ h = absurd h.1

pub train-may : (x : ExtractParts) (f : Fault) → IsTrainFault x f → IsOfNormalise MAX_LINES f
train-may x fault.Write h = tt
train-may x (fault.Ambiguous clash) h = tt
train-may x fault.Memory h = tt
train-may x _ h = absurd h

pub explain-may : (x : ExtractParts) (d : ℕ) (f : Fault) → IsExplanationFault x d f → IsOfNormalise MAX_LINES f
explain-may x d fault.OutsideWindow h = tt
explain-may x d fault.Memory h = tt
explain-may x d fault.Write h = tt
explain-may x d _ h = absurd h

pub calendar-may : (f : Fault) → IsWeekCalendarFault f → IsOfNormalise MAX_LINES f
calendar-may fault.Memory h = tt
calendar-may fault.Write h = tt
calendar-may _ h = absurd h
