-- The feed with a holiday has its prepared text, and that its canonical form: the schedule runs on the days before and after the holiday.
use Rattle.std.proofs.Common.{AllPairs, Contains, IsTrue, List, None, Option, Some, [], arith, codes, false, inl, inr, refl, subst, subst₂}
use Rattle.std.proofs.Common.{suc, sym, zero, ℕ, ◌<◌, ◌∷◌, ◌≡◌, ◌≤◌, ◌⊎◌}
use Rattle.std.proofs.lemmas.List.Elements.{All-cons, All-nil}
use Rattle.cif_calendar.proofs.{Elements.Contains-first, Elements.Contains-rest, SayTheSame.EntriesSayTheSame-refl}
use Rattle.cif_calendar.specs.Entries.{association_entries, schedule_entries, schedule_terms}
use Rattle.cif_calendar.specs.{Meaning.EntriesSayTheSame, Terms.Terms}
use Rattle.cif_canon.specs.{Accepted.IsClearExtract, Asked.nothing_asked, Canonical.IsCanonicalExtract, NormalForm.IsNormalFormOf}
use Rattle.cif_columns.specs.declared.{line_reader.TheConstants.MAX_LINES, stp.Stp.TheVariants.P}
use Rattle.cif_extract.proofs.PlainTexts.{text-spells}
use Rattle.cif_extract.specs.{Body.BodyLines, SpellsExtract.BytesSpell}
use Rattle.cif_feed.proofs.PublishedTexts.{published-spells}
use Rattle.cif_feed.specs.{HolidayCode.has_code, PreparedParts.IsPrepared, PublishedParts.BytesSpellPublished}
use Rattle.cif_feed.specs.{WrittenExtracts.CodesMayStand, WrittenPrepared.IsPreparedText, WrittenPrepared.codes_named}
use Rattle.cif_feed.specs.Parts.{AreParts, HaveDay, IsBefore, IsCut, IsPart, Part}
use Rattle.cif_feed.specs.declared.{dropped.Dropped.Dropped, holidays.HolidayCode.HolidayCode, holidays.HolidayCode.TheVariants.X}
use Rattle.cif_feed.specs.declared.{published_extract.PublishedSchedule.PublishedSchedule}
use Rattle.cif_records.specs.{AssocKey.key_cmp, declared.association.AssocBody.AssocBody}
use Rattle.cif_weeks.specs.declared.form.Form.TheVariants.{Two}
use Rattle.cif_laws.proofs.AlikeEntries.{AreAlike, alike-clear, alike-same, more-alike, none-alike, some_on}
use Rattle.cif_laws.proofs.ExampleDays.{aligned, one-of, permanent, window}
use Rattle.cif_laws.proofs.ExampleHolidays.{example-days, no-items, only}
use Rattle.cif_laws.proofs.{ExampleParts.example-key, FormsOfTexts.text-normal, OneRecord.none-canonical, OneRecord.one-canonical}
use Rattle.cif_laws.proofs.ExampleSchedules.{after, before, example-joined, example-journey, example-parts, example-published, given}
use Rattle.cif_laws.proofs.ExampleSchedules.{joined, joined-fits, joined-text, parts-fit, prepared-text, published-fits, published-text}
use Rattle.cif_laws.specs.Examples.{example_feed, example_prepared, example_prepared_canonical}
use Rattle.std.specs.{Cmp.Lexicographic.slice_cmp, Ordering.nat_cmp}

-- ---- the parts of the schedule

abbrev terms : Terms BodyLines
terms = schedule_terms given

abbrev IsHolidayCut : ℕ → Type 0
IsHolidayCut = IsCut (Contains (4 ∷ [])) terms

cut : IsHolidayCut 4
cut = record {
  applies = record { begun = omega arith; unfinished = omega arith; on_weekday = refl };
  stops = Contains-first 4 [];
}

abbrev front : Part
front = record { first = 3; last = 3 }

abbrev back : Part
back = record { first = 5; last = 5 }

front-is : IsPart (Contains (4 ∷ [])) terms front
front-is = record {
  in_order = omega arith;
  from = omega arith;
  upto = omega arith;
  whole = λ d from upto c. let is = only 4 d c.stops in absurd (omega (arith, is, upto));
  begins = inl refl;
  ends = inr cut;
}

back-is : IsPart (Contains (4 ∷ [])) terms back
back-is = record {
  in_order = omega arith;
  from = omega arith;
  upto = omega arith;
  whole = λ d from upto c. let is = only 4 d c.stops in absurd (omega (arith, is, from));
  begins = inr (4, refl, cut);
  ends = inl refl;
}

rising : AllPairs IsBefore (front ∷ back ∷ [])
rising zero (suc zero) d less below = let h : 3 < 5 = omega arith in h
rising i zero d less below = absurd (omega (arith, less))
rising (suc i) (suc zero) d less below = absurd (omega (arith, less))
rising i (suc (suc j)) d less below = let b : suc (suc j) < 2 = below in absurd (omega (arith, b))

parts-are : AreParts (Contains (4 ∷ [])) terms (front ∷ back ∷ [])
parts-are = record {
  rising = rising;
  are = All-cons (IsPart (Contains (4 ∷ [])) terms) front (back ∷ []) front-is
      (All-cons (IsPart (Contains (4 ∷ [])) terms) back [] back-is (All-nil (IsPart (Contains (4 ∷ [])) terms)));
  covered = one-of (λ n. HaveDay (front ∷ back ∷ []) n ⊎ IsHolidayCut n)
      (inl (front, Contains-first front (back ∷ []), omega arith, omega arith)) (inr cut)
      (inl (back, Contains-rest front (back ∷ []) back (Contains-first back []), omega arith, omega arith));
}

-- ---- what is prepared

is-prepared : IsPrepared example-days false example-published example-parts
is-prepared = record {
  header = refl;
  tiplocs = refl;
  associations = refl;
  schedules = (front ∷ back ∷ [], [], parts-are, refl, refl);
}

-- its code is one that the holidays name
abbrev MayStand : PublishedSchedule → Type 0
MayStand s = (code : HolidayCode) → s.code ≡ Some code → IsTrue (has_code (codes_named example-days) code)

is-named : (code : HolidayCode) → ◌≡◌ {A = Option HolidayCode} (Some X) (Some code) → IsTrue (has_code (codes_named example-days) code)
is-named code is = let same : X ≡ code = cc in subst (λ c. IsTrue (has_code (codes_named example-days) c)) same refl

may : CodesMayStand (codes_named example-days) example-published.schedules
may = All-cons MayStand _ [] is-named (All-nil MayStand)

abbrev pub nothing-dropped : Dropped
nothing-dropped = record { keys = no-items; records = 0 }

pub example-is-prepared : IsPreparedText example-days false MAX_LINES example_feed example_prepared nothing-dropped
example-is-prepared = record {
  published = example-published;
  spelled = subst (λ bytes. BytesSpellPublished (codes_named example-days) MAX_LINES bytes example-published) (sym published-text)
      (published-spells (codes_named example-days) example-published published-fits may MAX_LINES
      (let five : 5 ≤ MAX_LINES = omega arith in five));
  prepared = example-parts;
  is = record { prepared = is-prepared; reported = (refl, refl) };
  text_is = prepared-text;
  spells = subst (λ bytes. BytesSpell bytes example-parts) (sym prepared-text) (text-spells example-parts parts-fit);
}

-- ---- its canonical form

abbrev Entry : Type 0
Entry = List ℕ × Terms BodyLines

abbrev uid : List ℕ
uid = codes "W00001"

abbrev parts : List Entry
parts = schedule_entries example-parts.schedules

abbrev whole : List Entry
whole = schedule_entries example-joined.schedules

abbrev Alike : List Entry → Type 0
Alike = AreAlike uid (Some example-journey) P

nothing-alike : Alike []
nothing-alike = none-alike uid (Some example-journey) P

alike : Alike parts
alike =
    more-alike uid (Some example-journey) P (schedule_terms before) ((uid, schedule_terms after) ∷ []) refl refl
    (more-alike uid (Some example-journey) P (schedule_terms after) [] refl refl nothing-alike)

whole-alike : Alike whole
whole-alike = more-alike uid (Some example-journey) P (schedule_terms joined) [] refl refl nothing-alike

-- on the days before and after the holiday one of the parts applies, and what is made of them, and on the holiday neither
same-schedules : EntriesSayTheSame parts whole 3 5
same-schedules = alike-same uid (Some example-journey) P P parts whole alike whole-alike (λ is. cc) (λ is. cc) 3 5
    (one-of (λ d. some_on d parts ≡ some_on d whole) refl refl refl)

clear : IsClearExtract example-parts
clear = record {
  associations = alike-clear {B = AssocBody} example-key None P [] (none-alike example-key None P) 3 5;
  schedules = alike-clear uid (Some example-journey) P parts alike 3 5;
}

canonical : IsCanonicalExtract Two example-joined
canonical = record {
  tiplocs = λ i j d less below. absurd (omega (arith, below));
  associations = record { records = []; are = refl; canonical = none-canonical key_cmp window };
  schedules = record {
    records = (uid, permanent false example-journey) ∷ [];
    are = refl;
    canonical = one-canonical (slice_cmp nat_cmp) window uid (permanent false example-journey) (aligned false example-journey);
  };
}

pub prepared-example-is : IsNormalFormOf Two nothing_asked example_prepared example_prepared_canonical
prepared-example-is =
    subst₂ (IsNormalFormOf Two nothing_asked) (sym prepared-text) (sym joined-text)
    (text-normal Two example-parts example-joined parts-fit clear joined-fits canonical (record {
      header = refl;
      agree = record {
        tiplocs = λ t. (λ has. has, λ has. has);
        associations = EntriesSayTheSame-refl (association_entries example-parts.associations) 3 5;
        schedules = same-schedules;
      };
    }))
