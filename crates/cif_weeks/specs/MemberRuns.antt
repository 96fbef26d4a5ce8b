-- The runs of some members of a list of entries: their canonical records, by the positions of their bodies.
use Rattle.std.specs.Prelude.{◌≡◌, ℕ, ◌<◌, List, Some, AllPairs, Contains, ◌↔◌}
use Rattle.std.specs.List.{AllZip}
use Rattle.cif_calendar.specs.{Clash.IsClash, Clash.IsClearFrom, Runs.BodyRuns, Source.IsChosen, Source.body_at, Terms.Terms}
use Rattle.cif_weeks.specs.declared.{form.Form.Form, form.Run.Run}
use Rattle.cif_weeks.specs.{HaveForm.HaveForm, Permanent.Permanent, Runs.record_of, WhatRuns.HasBody, Window.IsWithin, Window.Window}

-- The run has the dates and the mask of permanent record r, and its source is the position of a member with r's body.
pub record IsMembersRun {B : Type 0} (xs : List (Terms B)) (members : List ℕ) (run : Run) (r : Permanent B) : Type 0 where
  pub dates : r ≡ record_of run r.body
  pub member : Contains members run.source
  pub body : body_at xs (Some run.source) ≡ Some r.body

-- On each day of the window the members are clear. The runs are, one by one, those of the records of the form that say what runs
-- by the members, rising by first day.
pub record AreRunsOfMembers {B : Type 0} (form : Form) (xs : List (Terms B)) (members : List ℕ) (window : Window) (runs : List Run)
    : Type 0 where
  pub clear : IsClearFrom (IsChosen xs members) window.first window.last
  pub records : List (Permanent B)
  pub runs_of : AllZip (IsMembersRun xs members) runs records
  pub rising : AllPairs (λ r s. r.first < s.first) records
  pub have_form : HaveForm form window (Contains records)
  pub say : (n : ℕ) (b : B) → IsWithin window n → BodyRuns (IsChosen xs members) n b ↔ HasBody (Contains records) n b

-- on a day of the window the members clash
abbrev pub HaveClash : {B : Type 0} → List (Terms B) → List ℕ → Window → Type 0
HaveClash xs members window = (n : ℕ) × IsWithin window n × IsClash (IsChosen xs members) n
