-- Differences turn what says the same alike, and the answer of `diff` tells what the right extract says.
use Rattle.std.proofs.Common.{All, Contains, List, None, Option, Some, ap, false, inl, inr, subst, sym, ℕ, ⊎_elim, ◌↔◌, ◌∙◌, ◌≡◌, ◌≤◌, ◌⊎◌}
use Rattle.cif_calendar.specs.{Entries.association_entries, Entries.schedule_entries, Meaning.EntriesSayTheSame, Terms.Terms}
use Rattle.cif_canon.proofs.NormalForms.{one-narrowed}
use Rattle.cif_canon.proofs.SameExtracts.{one-window}
use Rattle.cif_canon.specs.{Asked.IsNarrowed, Asked.header_window, Meaning.SameMeaning, Pair.SpellPair, Pair.asked_of_both}
use Rattle.cif_canon.specs.declared.{asked.Asked.Asked, listed_differences.Side.TheVariants.Left}
use Rattle.cif_canon.specs.declared.{listed_differences.Side.TheVariants.Right, listed_differences.Sided.Sided}
use Rattle.cif_canon.specs.Differences.{AreDifferences, DifferencesParts, RunsApplied, TurnInto, TurnLeftIntoRight, of_side}
use Rattle.cif_columns.specs.Contents.{contents_of}
use Rattle.cif_commands.specs.{Answer.IsDiffAnswer, declared.job.CompareJob.CompareJob}
use Rattle.cif_extract.proofs.{PlainTexts.spelled-fits, SpelledBytes.one_spelled}
use Rattle.cif_extract.specs.{ExtractParts.ExtractParts, SpellsExtract.BytesSpell, Texts.FitsColumns, Texts.ScheduleFits}
use Rattle.cif_records.proofs.Headers as headers
use Rattle.cif_columns.specs.Field.{AllFit}
use Rattle.cif_extract.specs.declared.extract.Schedule.{Schedule}
use Rattle.cif_records.specs.{Association.association_table, Tiploc.tiploc_table, declared.association.Association.Association}
use Rattle.cif_records.specs.declared.tiploc.Tiploc.{Tiploc}
use Rattle.cif_rows.specs.declared.format.Format.TheVariants.{Text}
use Rattle.cif_weeks.specs.{Permanent.Permanent, Window.IsWithin, Window.Window}
use Rattle.cif_laws.proofs.ToldByText.{told-by-text}

-- ---- differences of one kind

module _ {K B : Type 0} (window : Window) (xs ys zs ws : List (K × Terms B)) (same : EntriesSayTheSame xs ys window.first window.last)
    (others_same : EntriesSayTheSame zs ws window.first window.last) (found : List (Sided (K × Permanent B))) where
  applied-same : (k : K) (d : ℕ) (o : Option B) → IsWithin window d → RunsApplied xs found k d o → RunsApplied ys found k d o
  applied-same k d (Some b) within applied = ⊎_elim
      (λ right. inl right)
      (λ left. inr (left.0, left.1, (same.same k d (Some b) within.from within.upto).0 left.2))
      applied
  applied-same k d None within applied = (
    applied.0,
    ⊎_elim
        (λ says. inl says)
        (λ nothing. inr ((same.same k d None within.from within.upto).0 nothing))
        applied.1,
  )

  applied-back : (k : K) (d : ℕ) (o : Option B) → IsWithin window d → RunsApplied ys found k d o → RunsApplied xs found k d o
  applied-back k d (Some b) within applied = ⊎_elim
      (λ right. inl right)
      (λ left. inr (left.0, left.1, (same.same k d (Some b) within.from within.upto).1 left.2))
      applied
  applied-back k d None within applied = (
    applied.0,
    ⊎_elim
        (λ says. inl says)
        (λ nothing. inr ((same.same k d None within.from within.upto).1 nothing))
        applied.1,
  )

  turn-same : TurnInto window xs zs found → TurnInto window ys ws found
  turn-same turn = record {
    runs = λ k d o within. (
      λ runs. applied-same k d o within ((turn.runs k d o within).0 ((others_same.same k d o within.from within.upto).1 runs)),
      λ applied. (others_same.same k d o within.from within.upto).0 ((turn.runs k d o within).1 (applied-back k d o within applied)),
    );
  }

-- ---- of two extracts

module _ (x y z w : ExtractParts) (same : SameMeaning x y) (others_same : SameMeaning z w)
    (window : header_window x.header ≡ header_window z.header) (d : DifferencesParts) where
  pub left-turned : TurnLeftIntoRight x z d → TurnLeftIntoRight y w d
  left-turned t = record {
    tiplocs = λ l. let own = same.agree.tiplocs l in let other = others_same.agree.tiplocs l in (
      λ has. ⊎_elim (λ right. inl right) (λ left. inr (own.0 left.0, left.1)) ((t.tiplocs l).0 (other.1 has)),
      λ turned. other.0 ((t.tiplocs l).1 (⊎_elim (λ right. inl right) (λ left. inr (own.1 left.0, left.1)) turned)),
    );
    associations = subst (λ v. TurnInto v (association_entries y.associations) (association_entries w.associations) d.associations)
        (one-window x y same)
        (turn-same (header_window x.header) (association_entries x.associations) (association_entries y.associations)
        (association_entries z.associations) (association_entries w.associations) same.agree.associations
        (subst (λ (v : Window). EntriesSayTheSame (association_entries z.associations) (association_entries w.associations) v.first v.last)
        (sym window) others_same.agree.associations) d.associations t.associations);
    schedules = subst (λ v. TurnInto v (schedule_entries y.schedules) (schedule_entries w.schedules) d.schedules) (one-window x y same)
        (turn-same (header_window x.header) (schedule_entries x.schedules) (schedule_entries y.schedules) (schedule_entries z.schedules)
        (schedule_entries w.schedules) same.agree.schedules
        (subst (λ (v : Window). EntriesSayTheSame (schedule_entries z.schedules) (schedule_entries w.schedules) v.first v.last)
        (sym window) others_same.agree.schedules) d.schedules t.schedules);
  }

-- ---- answers of `diff`

-- what bytes spell fits the columns of lines, narrowed too
narrowed-fits : (asked : Asked) (bytes : List ℕ) (whole x : ExtractParts) → BytesSpell bytes whole → IsNarrowed asked whole x → FitsColumns x
narrowed-fits asked bytes whole x spelled n =
    let own = spelled-fits (contents_of bytes) whole spelled.are_lines spelled.spelled in record {
      header = headers.fits x.header;
      tiplocs = subst (λ ts. All (λ (t : Tiploc). AllFit (tiploc_table t)) ts) (sym n.tiplocs) own.tiplocs;
      associations = subst (λ xs. All (λ (a : Association). AllFit (association_table a)) xs) (sym n.associations) own.associations;
      schedules = subst (λ ss. All ScheduleFits ss) (sym n.schedules) own.schedules;
    }

module _ (job : CompareJob) (no : job.common ≡ false) (left right other text : List ℕ) (status other_status : ℕ)
    (a : IsDiffAnswer Text job left right text status) (b : IsDiffAnswer Text job left other text other_status) where
  of-left : (x y whole other_whole : ExtractParts) → IsNarrowed (asked_of_both job.common job.asked whole other_whole) whole x
      → IsNarrowed job.asked whole x
  of-left x y whole other_whole n = subst (λ c. IsNarrowed (asked_of_both c job.asked whole other_whole) whole x) no n

  one-left : b.left ≡ a.left
  one-left =
      let s = a.spelled in
      let t = b.spelled in
      one-narrowed job.asked s.left_whole b.left a.left
      (subst (λ w. IsNarrowed job.asked w b.left)
      (one_spelled left t.left_whole s.left_whole t.left_spelled.spell s.left_spelled.spell)
      (of-left b.left b.right t.left_whole t.right_whole t.narrowed.left))
      (of-left a.left a.right s.left_whole s.right_whole s.narrowed.left)

  pub right-told : a.right.header.columns ≡ b.right.header.columns → SameMeaning a.right b.right
  right-told columns =
      let s = a.spelled in
      let t = b.spelled in
      told-by-text a.left a.right b.right a.differences b.differences
      (narrowed-fits _ left s.left_whole a.left s.left_spelled.spell s.narrowed.left)
      (narrowed-fits _ right s.right_whole a.right s.right_spelled.spell s.narrowed.right)
      (narrowed-fits _ other t.right_whole b.right t.right_spelled.spell t.narrowed.right)
      a.are_differences a.turn
      (subst (λ x. AreDifferences x b.right b.differences) one-left b.are_differences)
      (subst (λ x. TurnLeftIntoRight x b.right b.differences) one-left b.turn)
      (sym a.text_is ∙ b.text_is) columns
