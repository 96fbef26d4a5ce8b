-- Views of extracts that say the same are the same.
use Rattle.std.proofs.Common.{List, Ordering, Some, ap, nat_cmp, subst, sym, ℕ, ◌∙◌, ◌≡◌, ◌≤◌}
use Rattle.std.specs.Cmp.Lexicographic.{slice_cmp}
use Rattle.cif_calendar.proofs.SayTheSame.{EntriesSayTheSame-sym, EntriesSayTheSame-trans}
use Rattle.cif_calendar.specs.{Entries.association_entries, Entries.schedule_entries, Meaning.EntriesSayTheSame, Terms.Terms}
use Rattle.cif_canon.proofs.SameExtracts.{one-window, same-sym, same-trans}
use Rattle.cif_canon.proofs.Unique.{extracts-unique}
use Rattle.cif_canon.specs.{Accepted.IsClearExtract, Canon.CanonParts, Canon.IsCanonOf, Counts.counts_of, Lines.lines_of}
use Rattle.cif_canon.specs.{Meaning.SameMeaning}
use Rattle.cif_canon.specs.Views.{AreRunning, DayTexts, IsDayListed, IsTrainListed, TrainTexts}
use Rattle.cif_extract.specs.{ExtractParts.ExtractParts, Texts.extract_text}
use Rattle.cif_records.specs.AssocKey.{key_cmp}
use Rattle.cif_weeks.specs.{Canonical.AreCanonical, Permanent.permanent_entries, Window.IsWithin, Window.Window, declared.form.Form.Form}

module _ {K B : Type 0} (cmp : K → K → Ordering) (xs ys : List (K × Terms B)) (first last d : ℕ) (from : first ≤ d) (upto : d ≤ last)
    (same : EntriesSayTheSame xs ys first last) where
  -- the same runs on a day
  running-same : (running : List (K × B)) → AreRunning cmp xs d running → AreRunning cmp ys d running
  running-same running are = record {
    rising = are.rising;
    runs = λ k b. (
      λ has. (same.same k d (Some b) from upto).0 ((are.runs k b).0 has),
      λ runs. (are.runs k b).1 ((same.same k d (Some b) from upto).1 runs),
    );
  }

module _ (x y : ExtractParts) (same : SameMeaning x y) (clear : IsClearExtract y) where
  pub day-same : (listed : DayTexts) (day : ℕ) (text : List ℕ) → IsDayListed listed x day text → IsDayListed listed y day text
  day-same listed day text is = record {
    within = subst (λ (w : Window). IsWithin w day) (one-window x y same) is.within;
    clear = clear;
    associations = is.associations;
    hold = running-same key_cmp (association_entries x.associations) (association_entries y.associations) x.header.first x.header.last day
        is.within.from is.within.upto same.agree.associations is.associations is.hold;
    trains = is.trains;
    run = running-same (slice_cmp nat_cmp) (schedule_entries x.schedules) (schedule_entries y.schedules) x.header.first x.header.last day
        is.within.from is.within.upto same.agree.schedules is.trains is.run;
    text_is = is.text_is;
  }

  pub train-same : (listed : TrainTexts) (form : Form) (uid text : List ℕ) → IsTrainListed listed form x uid text
      → IsTrainListed listed form y uid text
  train-same listed form uid text is =
      let window = one-window x y same in record {
        clear = clear;
        records = is.records;
        canonical = subst (λ w. AreCanonical (slice_cmp nat_cmp) form w is.records) window is.canonical;
        same_meaning = subst
            (λ (w : Window). EntriesSayTheSame (schedule_entries y.schedules) (permanent_entries is.records) w.first w.last) window
            (EntriesSayTheSame-trans (schedule_entries y.schedules) (schedule_entries x.schedules) (permanent_entries is.records)
            x.header.first x.header.last
            (EntriesSayTheSame-sym (schedule_entries x.schedules) (schedule_entries y.schedules) x.header.first x.header.last
            same.agree.schedules) is.same_meaning);
        own = is.own;
        rising = is.rising;
        are = is.are;
        text_is = is.text_is;
      }

-- and so are their canonical forms
pub canon-same : (x y : ExtractParts) (form : Form) (c d : CanonParts) → SameMeaning x y → IsCanonOf form x c → IsCanonOf form y d → c ≡ d
canon-same x y form c d same of_x of_y =
    let one = of_x.canonical in
    let other = of_y.canonical in
    let made = extracts-unique form one.made other.made one.canonical.canonical other.canonical.canonical
    (same-trans one.made x other.made (same-sym x one.made one.same) (same-trans x y other.made same other.same)) in
    let text : c.text ≡ d.text = one.canonical.text ∙ ap extract_text made ∙ sym other.canonical.text in
    let lines : c.lines ≡ d.lines = of_x.lines_are ∙ ap lines_of made ∙ sym of_y.lines_are in
    let counts : c.counts ≡ d.counts = of_x.counted ∙ ap counts_of made ∙ sym of_y.counted in
    ap (λ t. record { text = t; lines = c.lines; counts = c.counts }) text
    ∙ ap (λ l. record { text = d.text; lines = l; counts = c.counts }) lines
    ∙ ap (λ n. record { text = d.text; lines = d.lines; counts = n }) counts
