-- The example has a canonical form: on the three days of its window both records apply, and on no other.
use Rattle.std.proofs.Common.{List, None, Some, [], arith, refl, subst₂, sym, true, ℕ, ◌∷◌, ◌≡◌}
use Rattle.cif_calendar.proofs.SayTheSame.{EntriesSayTheSame-refl}
use Rattle.cif_calendar.specs.Entries.{association_entries, association_terms, schedule_entries}
use Rattle.cif_calendar.specs.{Meaning.EntriesSayTheSame, Terms.Terms}
use Rattle.cif_canon.specs.{Accepted.IsClearExtract, Asked.nothing_asked, Canonical.IsCanonicalExtract, NormalForm.IsNormalFormOf}
use Rattle.cif_columns.specs.declared.stp.Stp.TheVariants.{N, P}
use Rattle.cif_extract.specs.{Body.BodyLines, ExtractParts.ExtractParts}
use Rattle.cif_records.specs.{AssocKey.key_cmp, declared.association.AssocBody.AssocBody}
use Rattle.cif_weeks.specs.declared.form.Form.TheVariants.{Two}
use Rattle.cif_laws.proofs.AlikeEntries.{AreAlike, alike-clear, alike-same, more-alike, none-alike, some_on}
use Rattle.cif_laws.proofs.ExampleDays.{aligned, one-of, permanent, window}
use Rattle.cif_laws.proofs.ExampleParts.{example-association, example-body, example-fits, example-key, example-text, extract-of}
use Rattle.cif_laws.proofs.ExampleParts.{made-association, made-fits, made-text}
use Rattle.cif_laws.proofs.{FormsOfTexts.text-normal, OneRecord.none-canonical, OneRecord.one-canonical}
use Rattle.cif_laws.specs.Examples.{example_canonical, example_input}
use Rattle.std.specs.{Cmp.Lexicographic.slice_cmp, Ordering.nat_cmp}

abbrev x : ExtractParts
x = extract-of example-association

abbrev made : ExtractParts
made = extract-of made-association

-- ---- the two records apply on the same days

abbrev terms : Terms AssocBody
terms = association_terms example-association

abbrev made-terms : Terms AssocBody
made-terms = association_terms made-association

alike : AreAlike example-key (Some example-body) N (association_entries x.associations)
alike = more-alike example-key (Some example-body) N terms [] refl refl (none-alike example-key (Some example-body) N)

made-alike : AreAlike example-key (Some example-body) P (association_entries made.associations)
made-alike = more-alike example-key (Some example-body) P made-terms [] refl refl (none-alike example-key (Some example-body) P)

same-associations : EntriesSayTheSame (association_entries x.associations) (association_entries made.associations) 3 5
same-associations =
    alike-same example-key (Some example-body) N P (association_entries x.associations) (association_entries made.associations) alike
    made-alike (λ is. cc) (λ is. cc) 3 5
    (one-of (λ d. some_on d (association_entries x.associations) ≡ some_on d (association_entries made.associations)) refl refl refl)

-- ---- the canonical form

clear : IsClearExtract x
clear = record {
  associations = alike-clear example-key (Some example-body) N (association_entries x.associations) alike 3 5;
  schedules = alike-clear {K = List ℕ} {B = BodyLines} [] None P [] (none-alike [] None P) 3 5;
}

canonical : IsCanonicalExtract Two made
canonical = record {
  tiplocs = λ i j d less below. absurd (omega (arith, below));
  associations = record {
    records = (example-key, permanent true example-body) ∷ [];
    are = refl;
    canonical = one-canonical key_cmp window example-key (permanent true example-body) (aligned true example-body);
  };
  schedules = record { records = []; are = refl; canonical = none-canonical (slice_cmp nat_cmp) window };
}

pub example-is : IsNormalFormOf Two nothing_asked example_input example_canonical
example-is =
    subst₂ (IsNormalFormOf Two nothing_asked) (sym example-text) (sym made-text)
    (text-normal Two x made example-fits clear made-fits canonical (record {
      header = refl;
      agree = record {
        tiplocs = λ t. (λ has. has, λ has. has);
        associations = same-associations;
        schedules = EntriesSayTheSame-refl (schedule_entries x.schedules) 3 5;
      };
    }))
