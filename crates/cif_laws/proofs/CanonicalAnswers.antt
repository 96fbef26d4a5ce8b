-- The commands answer an input and its canonical extract alike.
use Rattle.std.proofs.Common.{Bool, List, ap, false, length, subst, sym, ℕ, ◌↔◌, ◌∙◌, ◌≡◌, ◌≤◌}
use Rattle.cif_canon.proofs.NormalForms.{asked-again, canonical-extract-clear, one-accepted, one-narrowed, unasked}
use Rattle.cif_canon.proofs.SameExtracts.{agree-trans, one-window, same-sym, same-trans}
use Rattle.cif_canon.specs.{Accepted.IsAccepted, Accepted.IsClearExtract, Accepted.SpellsNarrowed, Asked.IsNarrowed, Asked.header_window}
use Rattle.cif_canon.specs.{Asked.nothing_asked, Canonical.IsCanonicalOf, Meaning.Agree, Meaning.SameMeaning, NormalForm.IsNormalFormOf}
use Rattle.cif_canon.specs.{NormalForm.IsReachedFromForms, NormalForm.IsUnique, Normalised.IsNormalised, Pair.AreNarrowed, Pair.SpellPair, Pair.asked_of_both}
use Rattle.cif_canon.specs.{Views.IsDayFault, declared.asked.Asked.Asked, declared.canonical_form.Counts.Counts}
use Rattle.cif_columns.specs.{Contents.contents_of, declared.line_reader.TheConstants.MAX_LINES}
use Rattle.cif_commands.specs.Answer.{IsBoardAnswer, IsCanonicalAnswer, IsCompareAnswer, IsDayAnswer, IsDiffAnswer, IsTrainAnswer}
use Rattle.cif_commands.specs.declared.{answers.CanonicalOutput.CanonicalOutput, job.BoardJob.BoardJob, job.CanonicalJob.CanonicalJob}
use Rattle.cif_commands.specs.declared.{job.CompareJob.CompareJob, job.DayJob.DayJob, job.TrainJob.TrainJob}
use Rattle.cif_extract.proofs.SpelledBytes.{one_spelled}
use Rattle.cif_extract.specs.{ExtractParts.ExtractParts, SpellsExtract.BytesSpellWithin, declared.fault.Fault.TheVariants.OutsideWindow}
use Rattle.cif_rows.specs.declared.format.Format.{Format}
use Rattle.cif_views.proofs.SameBoards.{board-same}
use Rattle.cif_weeks.specs.{Window.IsWithin, Window.Window, declared.form.Form.Form}
use Rattle.cif_laws.proofs.{SameComparisons.compared-same, SameComparisons.differences-same, SameViews.day-same, SameViews.train-same}
use Rattle.cif_laws.proofs.TurnedAlike.{left-turned}
use Rattle.cif_laws.specs.CanonicalAnswers.{IsItsCanonical, OfExtract}

-- ---- what the two are as extracts

-- One list of bytes says what another says, once each is narrowed to the dates that are asked for.
record Pairs (asked : Asked) (from to : List ℕ) : Type 0 where
  pub one : ExtractParts
  pub one_spelled : SpellsNarrowed MAX_LINES asked one from
  pub one_clear : IsClearExtract one
  pub other : ExtractParts
  pub other_spelled : SpellsNarrowed MAX_LINES asked other to
  pub other_clear : IsClearExtract other
  pub same : SameMeaning one other

turned : (asked : Asked) (from to : List ℕ) → Pairs asked from to → Pairs asked to from
turned asked from to p = record {
  one = p.other;
  one_spelled = p.other_spelled;
  one_clear = p.other_clear;
  other = p.one;
  other_spelled = p.one_spelled;
  other_clear = p.one_clear;
  same = same-sym p.one p.other p.same;
}

pairs : (form : Form) (asked : Asked) (input canonical : List ℕ) → IsItsCanonical form asked input canonical → Pairs asked input canonical
pairs form asked input canonical c =
    let n = c.normal in
    let made = n.canonical.made in record {
      one = n.meant;
      one_spelled = record {
        whole = n.accepted.whole;
        spelled = record { spell = n.accepted.spelled; within = c.input_within };
        narrowed = n.accepted.narrowed;
      };
      one_clear = n.accepted.clear;
      other = made;
      other_spelled = record {
        whole = made;
        spelled = record { spell = n.canonical.canonical.spelled; within = c.canonical_within };
        narrowed = asked-again asked n.accepted.whole n.meant n.accepted.narrowed made n.canonical.same;
      };
      other_clear = canonical-extract-clear form made n.canonical.canonical.canonical;
      same = n.canonical.same;
    }

-- what the bytes spell for the dates is one extract
one-meant : (asked : Asked) (bytes : List ℕ) (x y : ExtractParts) → SpellsNarrowed MAX_LINES asked x bytes
    → SpellsNarrowed MAX_LINES asked y bytes → x ≡ y
one-meant asked bytes x y p q =
    one-narrowed asked p.whole x y p.narrowed
    (subst (λ w. IsNarrowed asked w y) (one_spelled bytes q.whole p.whole q.spelled.spell p.spelled.spell) q.narrowed)

-- and where nothing is asked for, the whole extract
whole-meant : (bytes : List ℕ) (x whole : ExtractParts) → SpellsNarrowed MAX_LINES nothing_asked x bytes
    → BytesSpellWithin MAX_LINES bytes whole → x ≡ whole
whole-meant bytes x whole p spelled =
    one-meant nothing_asked bytes x whole p (record { whole = whole; spelled = spelled; narrowed = unasked whole })

whole-spelled : (bytes : List ℕ) (x : ExtractParts) → SpellsNarrowed MAX_LINES nothing_asked x bytes → BytesSpellWithin MAX_LINES bytes x
whole-spelled bytes x p =
    subst (BytesSpellWithin MAX_LINES bytes) (sym (whole-meant bytes x p.whole p p.spelled)) p.spelled

-- ---- views of one extract

module _ (from to : List ℕ) (p : Pairs nothing_asked from to) where
  -- what the first bytes spell says what the other's does
  from-whole : (x : ExtractParts) → BytesSpellWithin MAX_LINES from x → SameMeaning x p.other
  from-whole x spelled = subst (λ z. SameMeaning z p.other) (whole-meant from p.one x p.one_spelled spelled) p.same

  day-also : (job : DayJob) (text : List ℕ) (status : ℕ) → IsDayAnswer job from text status → IsDayAnswer job to text status
  day-also job text status a = record {
    extract = p.other;
    spelled = whole-spelled to p.other p.other_spelled;
    view = day-same a.extract p.other (from-whole a.extract a.spelled) p.other_clear _ job.day text a.view;
    status_is = a.status_is;
  }

  board-also : (job : BoardJob) (text : List ℕ) (status : ℕ) → IsBoardAnswer job from text status → IsBoardAnswer job to text status
  board-also job text status a = record {
    extract = p.other;
    spelled = whole-spelled to p.other p.other_spelled;
    view = board-same a.extract p.other (from-whole a.extract a.spelled) p.other_clear job.format job.board text a.view;
    status_is = a.status_is;
  }

  outside-also : (d : ℕ) → OfExtract from (λ x. IsDayFault x d OutsideWindow) → OfExtract to (λ x. IsDayFault x d OutsideWindow)
  outside-also d (x, spelled, outside) = (
    p.other,
    whole-spelled to p.other p.other_spelled,
    λ within. outside (subst (λ (w : Window). IsWithin w d) (sym (one-window x p.other (from-whole x spelled))) within),
  )

module _ (asked : Asked) (from to : List ℕ) (p : Pairs asked from to) where
  from-narrowed : (x : ExtractParts) → SpellsNarrowed MAX_LINES asked x from → SameMeaning x p.other
  from-narrowed x spelled = subst (λ z. SameMeaning z p.other) (one-meant asked from p.one x p.one_spelled spelled) p.same

  -- what is canonical of the first is so of the other
  canonical-also : (form : Form) (x : ExtractParts) (text : List ℕ) → SameMeaning x p.other → IsCanonicalOf form x text
      → IsCanonicalOf form p.other text
  canonical-also form x text same c = record {
    made = c.made;
    canonical = c.canonical;
    same = same-trans p.other x c.made (same-sym x p.other same) c.same;
  }

  unique-also : (form : Form) (x : ExtractParts) (text : List ℕ) → SameMeaning x p.other → IsUnique form x text → IsUnique form p.other text
  unique-also form x text same u = record {
    whole = λ asked input other n. let is = u.whole asked input other n in (
      λ e. same-trans n.meant x p.other (is.0 e) same,
      λ s. is.1 (same-trans n.meant p.other x s (same-sym x p.other same)),
    );
    after_header = λ asked input other n window.
        let one = one-window x p.other same in
        let back = same-sym x p.other same in
        let is = u.after_header asked input other n (window ∙ sym one) in (
          λ e. subst (λ w. Agree w n.meant p.other) one (agree-trans (header_window x.header) n.meant x p.other (is.0 e) same.agree),
          λ a. is.1 (subst (λ w. Agree w n.meant x) (sym one)
              (agree-trans (header_window p.other.header) n.meant p.other x a back.agree)),
        );
  }

  reached-also : (form : Form) (x : ExtractParts) (text : List ℕ) → SameMeaning x p.other → IsReachedFromForms form asked x text
      → IsReachedFromForms form asked p.other text
  reached-also form x text same r = record {
    from = λ other_form others q. r.from other_form others (record {
      made = q.made;
      canonical = q.canonical;
      same = same-trans x p.other q.made same q.same;
    });
  }

  normalised-also : (form : Form) (text : List ℕ) (counts : Counts) → IsNormalised form asked MAX_LINES from text counts
      → IsNormalised form asked MAX_LINES to text counts
  unfolding canonical-also
  normalised-also form text counts n =
      let same = from-narrowed n.meant n.accepted.spelled in record {
        meant = p.other;
        accepted = record { spelled = p.other_spelled; clear = p.other_clear };
        canonical = canonical-also form n.meant text same n.canonical;
        unique = unique-also form n.meant text same n.unique;
        again = n.again;
        reached = reached-also form n.meant text same n.reached;
        counted = n.counted;
      }

module _ (job : TrainJob) (from to : List ℕ) (p : Pairs job.asked from to) where
  train-also : (text : List ℕ) (status : ℕ) → IsTrainAnswer job from text status → IsTrainAnswer job to text status
  train-also text status a = record {
    extract = p.other;
    spelled = p.other_spelled;
    view = train-same a.extract p.other (from-narrowed job.asked from to p a.extract a.spelled) p.other_clear _ job.form job.uid text
        a.view;
    status_is = a.status_is;
  }

module _ (output : CanonicalOutput) (job : CanonicalJob) (from to : List ℕ) (p : Pairs job.asked from to) where
  table-also : (text : List ℕ) (status : ℕ) → IsCanonicalAnswer output job from text status → IsCanonicalAnswer output job to text status
  unfolding normalised-also canonical-also
  table-also text status a = record {
    canonical = a.canonical;
    counts = a.counts;
    normalised = normalised-also job.asked from to p job.form a.canonical a.counts a.normalised;
    text_is = a.text_is;
    status_is = a.status_is;
  }

-- ---- views of two

module _ (job : CompareJob) (no : job.common ≡ false) (left right left_to right_to : List ℕ) (p : Pairs job.asked left left_to)
    (q : Pairs job.asked right right_to) where
  narrowed-left : (x y whole other_whole : ExtractParts) → AreNarrowed job.asked job.common whole other_whole x y
      → IsNarrowed job.asked whole x
  narrowed-left x y whole other_whole n =
      subst (λ b. IsNarrowed (asked_of_both b job.asked whole other_whole) whole x) no n.left

  narrowed-right : (x y whole other_whole : ExtractParts) → AreNarrowed job.asked job.common whole other_whole x y
      → IsNarrowed job.asked other_whole y
  narrowed-right x y whole other_whole n =
      subst (λ b. IsNarrowed (asked_of_both b job.asked whole other_whole) other_whole y) no n.right

  pair-also : SpellPair job.asked job.common left_to right_to p.other q.other
  pair-also = record {
    left_whole = p.other_spelled.whole;
    right_whole = q.other_spelled.whole;
    left_spelled = p.other_spelled.spelled;
    right_spelled = q.other_spelled.spelled;
    narrowed = record {
      left = subst (λ b. IsNarrowed (asked_of_both b job.asked p.other_spelled.whole q.other_spelled.whole) p.other_spelled.whole p.other)
          (sym no) p.other_spelled.narrowed;
      right = subst (λ b. IsNarrowed (asked_of_both b job.asked p.other_spelled.whole q.other_spelled.whole) q.other_spelled.whole q.other)
          (sym no) q.other_spelled.narrowed;
    };
  }

  module _ (x y : ExtractParts) (s : SpellPair job.asked job.common left right x y) where
    left-same : SameMeaning x p.other
    left-same = from-narrowed job.asked left left_to p x (record {
      whole = s.left_whole;
      spelled = s.left_spelled;
      narrowed = narrowed-left x y s.left_whole s.right_whole s.narrowed;
    })

    right-same : SameMeaning y q.other
    right-same = from-narrowed job.asked right right_to q y (record {
      whole = s.right_whole;
      spelled = s.right_spelled;
      narrowed = narrowed-right x y s.left_whole s.right_whole s.narrowed;
    })

  compared-also : (text : List ℕ) (status : ℕ) → IsCompareAnswer job left right text status
      → IsCompareAnswer job left_to right_to text status
  compared-also text status a = record {
    left = p.other;
    right = q.other;
    spelled = pair-also;
    comparison = a.comparison;
    compared = compared-same a.left p.other a.right q.other (left-same a.left a.right a.spelled) (right-same a.left a.right a.spelled)
        p.other_clear q.other_clear a.comparison a.compared;
    text_is = a.text_is;
    status_is = a.status_is;
  }

  listed-also : (format : Format) (text : List ℕ) (status : ℕ) → IsDiffAnswer format job left right text status
      → IsDiffAnswer format job left_to right_to text status
  listed-also format text status a = record {
    left = p.other;
    right = q.other;
    spelled = pair-also;
    differences = a.differences;
    are_differences = differences-same a.left p.other a.right q.other (left-same a.left a.right a.spelled)
        (right-same a.left a.right a.spelled) p.other_clear q.other_clear a.differences a.are_differences;
    turn = left-turned a.left p.other a.right q.other (left-same a.left a.right a.spelled) (right-same a.left a.right a.spelled)
        a.are_differences.window a.differences a.turn;
    text_is = a.text_is;
    status_is = a.status_is;
  }

-- ---- both ways

module _ (form : Form) (input canonical : List ℕ) where
  pub day-alike : (text : List ℕ) (job : DayJob) (status : ℕ) → IsItsCanonical form nothing_asked input canonical
      → IsDayAnswer job input text status ↔ IsDayAnswer job canonical text status
  day-alike text job status c =
      let p = pairs form nothing_asked input canonical c in (
        day-also input canonical p job text status,
        day-also canonical input (turned nothing_asked input canonical p) job text status,
      )

  pub outside-alike : (d : ℕ) → IsItsCanonical form nothing_asked input canonical
      → OfExtract input (λ x. IsDayFault x d OutsideWindow) ↔ OfExtract canonical (λ x. IsDayFault x d OutsideWindow)
  outside-alike d c =
      let p = pairs form nothing_asked input canonical c in (
        outside-also input canonical p d,
        outside-also canonical input (turned nothing_asked input canonical p) d,
      )

  pub board-alike : (text : List ℕ) (job : BoardJob) (status : ℕ) → IsItsCanonical form nothing_asked input canonical
      → IsBoardAnswer job input text status ↔ IsBoardAnswer job canonical text status
  board-alike text job status c =
      let p = pairs form nothing_asked input canonical c in (
        board-also input canonical p job text status,
        board-also canonical input (turned nothing_asked input canonical p) job text status,
      )

  pub train-alike : (text : List ℕ) (job : TrainJob) (status : ℕ) → IsItsCanonical form job.asked input canonical
      → IsTrainAnswer job input text status ↔ IsTrainAnswer job canonical text status
  train-alike text job status c =
      let p = pairs form job.asked input canonical c in (
        train-also job input canonical p text status,
        train-also job canonical input (turned job.asked input canonical p) text status,
      )

  pub both-accepted : (asked : Asked) → IsItsCanonical form asked input canonical
      → ((x : ExtractParts) × SpellsNarrowed MAX_LINES asked x input) × ((y : ExtractParts) × SpellsNarrowed MAX_LINES asked y canonical)
  both-accepted asked c =
      let p = pairs form asked input canonical c in ((p.one, p.one_spelled), (p.other, p.other_spelled))

  pub table-alike : (text : List ℕ) (output : CanonicalOutput) (job : CanonicalJob) (status : ℕ)
      → IsItsCanonical form job.asked input canonical
      → IsCanonicalAnswer output job input text status ↔ IsCanonicalAnswer output job canonical text status
  table-alike text output job status c =
      let p = pairs form job.asked input canonical c in (
        table-also output job input canonical p text status,
        table-also output job canonical input (turned job.asked input canonical p) text status,
      )

module _ (form other_form : Form) (left right left_canonical right_canonical : List ℕ) (job : CompareJob) (no : job.common ≡ false)
    (c : IsItsCanonical form job.asked left left_canonical) (d : IsItsCanonical other_form job.asked right right_canonical) where
  pub compared-alike : (text : List ℕ) (status : ℕ)
      → IsCompareAnswer job left right text status ↔ IsCompareAnswer job left_canonical right_canonical text status
  compared-alike text status =
      let p = pairs form job.asked left left_canonical c in
      let q = pairs other_form job.asked right right_canonical d in (
        compared-also job no left right left_canonical right_canonical p q text status,
        compared-also job no left_canonical right_canonical left right (turned job.asked left left_canonical p)
            (turned job.asked right right_canonical q) text status,
      )

  pub listed-alike : (format : Format) (text : List ℕ) (status : ℕ)
      → IsDiffAnswer format job left right text status ↔ IsDiffAnswer format job left_canonical right_canonical text status
  listed-alike format text status =
      let p = pairs form job.asked left left_canonical c in
      let q = pairs other_form job.asked right right_canonical d in (
        listed-also job no left right left_canonical right_canonical p q format text status,
        listed-also job no left_canonical right_canonical left right (turned job.asked left left_canonical p)
            (turned job.asked right right_canonical q) format text status,
      )
