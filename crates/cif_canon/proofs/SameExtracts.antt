-- Extracts with equal parts, and that saying the same is an equivalence.
use Rattle.cif_canon.proofs.Names.{Agree, AssocBody, AssocKey, BodyLines, ExtractParts, Header, List, SameMeaning, Schedule, Terms, Window}
use Rattle.cif_canon.proofs.Names.{ap, association_entries, association_entry, header_window, same_header, same_values, schedule_entries}
use Rattle.cif_canon.proofs.Names.{schedule_entry, subst, sym, ℕ, ◌∙◌, ◌≡◌}
use Rattle.cif_records.{proofs.Associations.same_association, specs.declared.association.Association.Association}
use Rattle.cif_extract.proofs.Schedules.{same_schedule}
use Rattle.cif_calendar.proofs.SayTheSame.{EntriesSayTheSame-refl, EntriesSayTheSame-sym, EntriesSayTheSame-trans}

-- ---- equal parts

one-association : (a b : Association) → association_entry a ≡ association_entry b → a ≡ b
one-association a b e =
    let terms = ap (λ (p : AssocKey × Terms AssocBody). p.1) e in
    same_association a b (ap (λ (p : AssocKey × Terms AssocBody). p.0) e) (ap (λ (t : Terms AssocBody). t.first) terms)
    (ap (λ (t : Terms AssocBody). t.last) terms) (ap (λ (t : Terms AssocBody). t.days) terms)
    (ap (λ (t : Terms AssocBody). t.letter) terms) (ap (λ (t : Terms AssocBody). t.body) terms)

one-schedule : (s t : Schedule) → schedule_entry s ≡ schedule_entry t → s ≡ t
one-schedule s t e =
    let terms = ap (λ (p : List ℕ × Terms BodyLines). p.1) e in
    same_schedule s t (ap (λ (p : List ℕ × Terms BodyLines). p.0) e) (ap (λ (u : Terms BodyLines). u.first) terms)
    (ap (λ (u : Terms BodyLines). u.last) terms) (ap (λ (u : Terms BodyLines). u.days) terms)
    (ap (λ (u : Terms BodyLines). u.letter) terms) (ap (λ (u : Terms BodyLines). u.body) terms)

pub same-associations : (xs ys : List Association) → association_entries xs ≡ association_entries ys → xs ≡ ys
same-associations xs ys e = same_values association_entry one-association xs ys e

pub same-schedules : (ss ts : List Schedule) → schedule_entries ss ≡ schedule_entries ts → ss ≡ ts
same-schedules ss ts e = same_values schedule_entry one-schedule ss ts e

-- ---- saying the same

-- the windows of headers with equal columns are equal
pub one-window : (x y : ExtractParts) → SameMeaning x y → header_window x.header ≡ header_window y.header
one-window x y same = ap header_window (same_header x.header y.header same.header)

-- the header is no part of it
pub agree-with_header : (window : Window) (x : ExtractParts) (h : Header) →
    Agree window x (record { header = h; tiplocs = x.tiplocs; associations = x.associations; schedules = x.schedules })
agree-with_header window x h = record {
  tiplocs = λ t. (λ h. h, λ h. h);
  associations = EntriesSayTheSame-refl (association_entries x.associations) window.first window.last;
  schedules = EntriesSayTheSame-refl (schedule_entries x.schedules) window.first window.last;
}

pub agree-sym : (window : Window) (x y : ExtractParts) → Agree window x y → Agree window y x
agree-sym window x y a = record {
  tiplocs = λ t. ((a.tiplocs t).1, (a.tiplocs t).0);
  associations = EntriesSayTheSame-sym (association_entries x.associations) (association_entries y.associations) window.first window.last
      a.associations;
  schedules = EntriesSayTheSame-sym (schedule_entries x.schedules) (schedule_entries y.schedules) window.first window.last a.schedules;
}

pub agree-trans : (window : Window) (x y z : ExtractParts) → Agree window x y → Agree window y z → Agree window x z
agree-trans window x y z a b = record {
  tiplocs = λ t. (λ h. (b.tiplocs t).0 ((a.tiplocs t).0 h), λ h. (a.tiplocs t).1 ((b.tiplocs t).1 h));
  associations = EntriesSayTheSame-trans (association_entries x.associations) (association_entries y.associations)
      (association_entries z.associations) window.first window.last a.associations b.associations;
  schedules = EntriesSayTheSame-trans (schedule_entries x.schedules) (schedule_entries y.schedules) (schedule_entries z.schedules)
      window.first window.last a.schedules b.schedules;
}

pub same-sym : (x y : ExtractParts) → SameMeaning x y → SameMeaning y x
same-sym x y s = record {
  header = sym s.header;
  agree = subst (λ w. Agree w y x) (one-window x y s) (agree-sym (header_window x.header) x y s.agree);
}

pub same-trans : (x y z : ExtractParts) → SameMeaning x y → SameMeaning y z → SameMeaning x z
same-trans x y z s t = record {
  header = s.header ∙ t.header;
  agree = agree-trans (header_window x.header) x y z s.agree (subst (λ w. Agree w y z) (sym (one-window x y s)) t.agree);
}
