-- What `check --all` answers, by what its calls answer: of bytes that are known.
use Rattle.cif_commands.proofs.Names.{Asked, CanonParts, CanonicalJob, Err, ExtractParts, Fault, Form, HasCanon, HaveReasons, IfErr, IfOk}
use Rattle.cif_commands.proofs.Names.{IfSome, IsCheckAllAnswer, IsCheckAllFault, IsJudgedFault, IsNormaliseFault, IsOfNormalise, List}
use Rattle.cif_commands.proofs.Names.{MAX_LINES, Makes, MatchResult, Ok, Option, Refuses, Result, Unread, answering_all, canon-blamed}
use Rattle.cif_commands.proofs.Names.{counts_line, extract_parts, false, inl, inr, is-normalised, is_read, judging, known_so, of-canon, refl}
use Rattle.cif_commands.proofs.Names.{reported_text, ℕ, ◌≡◌, ◌≢◌}
use Rattle.cif_extract.specs.declared.extract.Extract.{Extract}
use Rattle.cif_extract.specs.declared.fault.Fault.TheVariants as fault
use Rattle.cif_feed.proofs.ReportedReasons.{reported_as}
use Rattle.cif_feed.specs.{Judged.HaveNone, declared.judged.Judged.Judged, declared.reasons.Reasons.Reasons}
use Rattle.cif_feed.specs.declared.judged.Judged.TheVariants as judged

-- ---- the answers

module _ (start : Option (List ℕ)) (job : CanonicalJob) where
  -- reasons
  pub reasons_answer : (after : Unread) (reported : Reasons) → IfSome start (λ bytes. HaveReasons MAX_LINES bytes after reported)
      → IfSome start (λ bytes. IsCheckAllAnswer job bytes (reported_text reported) 3)
  reasons_answer after reported h =
      known_so start _ _ (λ bytes is. inl (record {
        within = is.within;
        why = is.why;
        some = is.some;
        text_is = reported_as _ reported is.tell;
        status_is = refl;
      })) h

  -- counts
  pub counts_answer : (x : ExtractParts) (c : CanonParts) → HasCanon job.form job.asked x (Ok c)
      → IfSome start (λ bytes. HaveNone MAX_LINES bytes x) → IfSome start (λ bytes. IsCheckAllAnswer job bytes (counts_line c.counts) 0)
  counts_answer x c has h =
      known_so start _ _ (λ bytes is. inr (
        is.none,
        record {
          canonical = c.text;
          counts = c.counts;
          normalised = is-normalised MAX_LINES job.asked bytes job.form has.0
              (record { whole = x; spelled = is.spell; narrowed = has.1 }) c has.2;
          text_is = refl;
          status_is = refl;
        },
      )) h

-- ---- what comes of the source

module _ (asked : Asked) (bytes : List ℕ) (after : Unread) where
  -- a fault of reading
  pub judged_fault : (f : Fault) → IsJudgedFault MAX_LINES bytes after f → IsCheckAllFault asked bytes after f
  judged_fault fault.Write h = tt
  judged_fault fault.Memory h = tt
  judged_fault (fault.Refused line why) h = h
  judged_fault fault.Read h = h
  judged_fault _ h = absurd h

module _ (asked : Asked) (after : Unread) where
  abbrev Ends : Judged → Result ℕ Fault → Type 0
  Ends judged result = MatchResult result (Makes (judging MAX_LINES after) (answering_all asked) judged)
      (Refuses (judging MAX_LINES after) (answering_all asked) judged)

  -- reasons are written, with a status that says so
  pub reasons-written : (reported : Reasons) (result : Result ℕ Fault) → IfOk result (λ status. status ≡ 3)
      → IfErr result (λ f. f ≡ fault.Write) → Ends (judged.Reasons reported) result
  reasons-written reported (Ok status) is write = record { answer = λ bytes h. tt; whole = λ none. absurd (cc) }
  reasons-written reported (Err f) is write = rw write (record { fault = λ bytes rest h. tt; answers = tt; other = refl })

  module _ (x : Extract) where
    -- counts are
    pub counts-written : (result : Result ℕ Fault) → IfErr result (λ f. f ≡ fault.Write) → Ends (judged.Extract x) result
    counts-written (Ok status) write = record { answer = λ bytes h. tt; whole = λ none. tt }
    counts-written (Err f) write = rw write (record { fault = λ bytes rest h. tt; answers = tt; other = refl })

    -- or there are none
    pub counts-not : (form : Form) (f : Fault) → HasCanon form asked (extract_parts x) (Err f)
        → Refuses (judging MAX_LINES after) (answering_all asked) (judged.Extract x) f
    counts-not form f has = record {
      fault = λ bytes rest h. of-canon MAX_LINES asked form (extract_parts x)
          (λ f. IsNormaliseFault MAX_LINES asked bytes rest f → IsCheckAllFault asked bytes rest f) (λ clash blamed. (h.none, blamed))
          (λ blamed. (h.none, blamed)) (λ blamed. (h.none, blamed)) (λ blamed. tt) f has
          (canon-blamed MAX_LINES asked form bytes rest (extract_parts x) h.spell f has);
      answers = of-canon MAX_LINES asked form (extract_parts x) (λ f. IsOfNormalise MAX_LINES f) (λ clash. tt) tt tt tt f has;
      other = of-canon MAX_LINES asked form (extract_parts x) (λ f. is_read f ≡ false) (λ clash. refl) refl refl refl f has;
    }

    -- and nothing was written
    pub counts-silent : (form : Form) (f : Fault) → HasCanon form asked (extract_parts x) (Err f) → f ≢ fault.Write
    counts-silent form f has =
        of-canon MAX_LINES asked form (extract_parts x) (λ f. f ≢ fault.Write) (λ clash is. cc) (λ is. cc) (λ is. cc) (λ is. cc) f has
