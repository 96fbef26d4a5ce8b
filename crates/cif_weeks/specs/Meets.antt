-- The canonical records of one key, with what runs.
use Rattle.std.specs.Prelude.{ℕ, ◌<◌, List, Option, AllPairs, Contains}
use Rattle.cif_weeks.specs.{HaveForm.HaveForm, Permanent.Permanent, WhatRuns.SayWhatRuns, Window.Window, declared.form.Form.Form}

-- The list rises strictly by first day, its records have the form, and they say what runs.
pub record Meets {B : Type 0} (form : Form) (window : Window) (body_on : ℕ → Option B) (records : List (Permanent B))
    : Type 0 where
  pub rising : AllPairs (λ r s. r.first < s.first) records
  pub have_form : HaveForm form window (Contains records)
  pub say : SayWhatRuns window body_on (Contains records)
