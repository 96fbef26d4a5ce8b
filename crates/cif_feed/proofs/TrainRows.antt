-- The rows of one train more, which are the runs of what decides for it.
use Rattle.cif_feed.proofs.Names.{All, AreOfFirstKey, Contains, Contains-get_or, Equal, List, PublishedSchedule, Terms, [], ap, drop, get_or}
use Rattle.cif_feed.proofs.Names.{is_eq, keyed, length, map, map-append, nat_cmp, refl, schedule_terms, slice_cmp, slice_get, subst, sym, take, ℕ}
use Rattle.cif_feed.proofs.Names.{◌++◌, ◌<◌, ◌↔◌, ◌∙◌, ◌∷◌, ◌≡◌}
use Rattle.std.proofs.Common.{IsPermutation}
use Rattle.std.proofs.lemmas.Cmp.{nat_list_cmp_total}
use Rattle.std.proofs.lemmas.List.Elements.{All-head, All-tail}
use Rattle.std.specs.Cmp.Lexicographic.{bytes_decides, texts_ties}
use Rattle.cif_calendar.proofs.Positions.{contains-at}
use Rattle.cif_calendar.specs.Keys.{of_key}
use Rattle.cif_extract.specs.Body.{BodyLines}
use Rattle.cif_weeks.specs.{Canonical.with_key, Permanent.Permanent, Window.IsWithin, Window.Window}
use Rattle.cif_weeks.specs.declared.form.Run.{Run}
use Rattle.cif_feed.specs.Steps.Deciding.{AreDecided, AreInOrder, AreShown, DecidesAmong, DecidesFor, ShowsOn, as_record, as_records, ranked_at}
use Rattle.cif_feed.specs.Steps.Deciding.{row_of, rows_of, uid_in}
use Rattle.cif_feed.proofs.DecidedTrains.{IsMade, made-all, made-key, made-nothing, own-turn}
use Rattle.cif_feed.proofs.DecidingRuns.{shown-source}
use Rattle.cif_feed.proofs.DecidingTrains.{among-for, for-among, position}
use Rattle.cif_feed.proofs.ListSteps.{Contains-map}

-- UIDs that tie are the same
pub same_uid : (a b : List ℕ) → slice_cmp nat_cmp a b ≡ Equal → a ≡ b
same_uid a b ties = (bytes_decides a b).0 (texts_ties a b ∙ ap is_eq ties)

abbrev pub entries_of : List PublishedSchedule → List (List ℕ × Terms BodyLines)
entries_of schedules = keyed (λ (s : PublishedSchedule). s.schedule.uid) (λ (s : PublishedSchedule). schedule_terms s.schedule) schedules

-- runs of the schedules of one train are its rows
rows-keyed : (schedules : List PublishedSchedule) (k : List ℕ) (runs : List Run)
    → All (λ (run : Run). uid_in (slice_get schedules run.source) ≡ k) runs → rows_of schedules runs ≡ with_key k (as_records runs)
rows-keyed schedules k [] all = refl
rows-keyed schedules k (run ∷ runs) all =
    ap (λ (u : List ℕ). (u, as_record run) ∷ rows_of schedules runs)
    (All-head (λ (one : Run). uid_in (slice_get schedules one.source) ≡ k) run runs all)
    ∙ ap (λ (l : List (List ℕ × Permanent ℕ)). (k, as_record run) ∷ l)
    (rows-keyed schedules k runs (All-tail (λ (one : Run). uid_in (slice_get schedules one.source) ≡ k) run runs all))

module _ (window : Window) (applies : ℕ → ℕ → Type 0) (schedules : List PublishedSchedule) where
  abbrev pub AreMade : List (List ℕ × Permanent ℕ) → List ℕ → Type 0
  AreMade rows rest = IsMade (slice_cmp nat_cmp) window (entries_of schedules) (DecidesFor applies schedules) rows rest

  nobody : (k : List ℕ) → ((r : Terms BodyLines) → of_key (entries_of schedules) k r → ⊥) → (n i : ℕ) → DecidesFor applies schedules k n i → ⊥
  nobody k none n i d =
      none (schedule_terms d.it.schedule) (subst (λ (u : List ℕ). Contains (entries_of schedules) (u, schedule_terms d.it.schedule)) d.of_train
      (Contains-map (λ (s : PublishedSchedule). (s.schedule.uid, schedule_terms s.schedule)) schedules d.it
      (contains-at schedules i d.it d.at)))

  -- no train yet
  pub no-train : (rest : List ℕ) → ((i : ℕ) → i < length (entries_of schedules) → Contains rest i)
      → Rattle.cif_calendar.specs.ByKey.IsRising (slice_cmp nat_cmp) (entries_of schedules) rest → AreMade [] rest
  no-train rest whole rising =
      made-nothing (slice_cmp nat_cmp) window (entries_of schedules) (DecidesFor applies schedules) nobody rest whole rising

  -- all trains
  pub all-trains : (rows : List (List ℕ × Permanent ℕ)) → AreMade rows [] → AreDecided window applies schedules rows
  all-trains rows made = record {
    canonical = made.canonical;
    say = made-all (slice_cmp nat_cmp) window (entries_of schedules) (DecidesFor applies schedules) rows made;
  }

  -- one train more
  pub next-train : (all runs : List Run) (rest : List ℕ) (made : AreMade (rows_of schedules all) rest) (n : ℕ)
      (first : AreOfFirstKey (slice_cmp nat_cmp) (entries_of schedules) rest n) (ranked : List (ℕ × ℕ))
      → IsPermutation (map (ranked_at schedules) (take n rest)) ranked → AreInOrder ranked
      → AreShown window (DecidesAmong applies (map position ranked)) runs → AreMade (rows_of schedules (all ++ runs)) (drop n rest)
  next-train all runs rest made n first ranked permuted order shown =
      let of_train = own-turn (slice_cmp nat_cmp) window (entries_of schedules) (DecidesFor applies schedules) nat_list_cmp_total same_uid
      (rows_of schedules all) rest made n first in
      let own : All (λ (run : Run). uid_in (slice_get schedules run.source) ≡ first.key) runs =
      λ k d below.
      let run = get_or runs k d in
      let decides = among-for applies schedules first.key (take n rest) ranked of_train permuted order run.first run.source
      (shown-source window (DecidesAmong applies (map position ranked)) runs shown run (Contains-get_or runs k d below)) in
      ap uid_in decides.at ∙ decides.of_train in
      let says : (d i : ℕ) → IsWithin window d → DecidesFor applies schedules first.key d i ↔ ShowsOn runs d i = λ d i within. (
        λ told. (shown.say d i within).0
            (for-among applies schedules first.key (take n rest) ranked of_train permuted order d i told),
        λ has. among-for applies schedules first.key (take n rest) ranked of_train permuted order d i
            ((shown.say d i within).1 has),
      ) in
      subst (λ (rows : List (List ℕ × Permanent ℕ)). AreMade rows (drop n rest))
      (ap (λ (l : List (List ℕ × Permanent ℕ)). rows_of schedules all ++ l) (sym (rows-keyed schedules first.key runs own))
      ∙ sym (map-append (row_of schedules) all runs))
      (made-key (slice_cmp nat_cmp) window (entries_of schedules) (DecidesFor applies schedules) nat_list_cmp_total same_uid
      (rows_of schedules all) rest made n first (as_records runs) shown.rising shown.have_form says)
