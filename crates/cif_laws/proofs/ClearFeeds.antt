-- A clear extract of this profile has no clash day, so that its records are stopped by none.
use Rattle.std.proofs.Common.{Contains, List, None, Option, ap, arith, false, inl, map, subst, sym, true, ℕ, ⊎_elim, ◌+◌, ◌↔◌, ◌≡◌}
use Rattle.cif_calendar.proofs.Sets.{IsClash-same}
use Rattle.cif_calendar.specs.{Entries.association_entries, Entries.schedule_entries, Keys.AreClear, Keys.of_key, Terms.Terms}
use Rattle.cif_canon.specs.Accepted.{IsClearExtract}
use Rattle.cif_extract.specs.ExtractParts.{ExtractParts}
use Rattle.cif_feed.proofs.{ListSteps.Contains-from_map, ListSteps.Contains-map, PreparedLists.prepared-same}
use Rattle.cif_feed.proofs.OwnParts.{associations_as, only_itself, schedules_as}
use Rattle.cif_feed.specs.{OfProfile.as_published, Prepared.ArePrepared, Prepared.published_terms, PreparedParts.IsPrepared}
use Rattle.cif_feed.specs.{PublishedParts.published_associations, PublishedParts.published_schedules}
use Rattle.cif_feed.specs.Published.{CountOn, IsClashDay, IsStop, PublishedTerms}
use Rattle.cif_feed.specs.declared.{holidays.HolidayCode.HolidayCode, holidays.Holidays.Holidays}

module _ {K B : Type 0} (h : Holidays) (es : List (K × Terms B)) (first last : ℕ) (clear : AreClear es first last) where
  -- as published ones
  abbrev as_published-ones : List (K × PublishedTerms B)
  as_published-ones = map (λ (e : K × Terms B). (e.0, published_terms e.1 false None)) es

  -- a record that counts is one of the key
  counts-own : (k : K) (d : ℕ) (r : Terms B) → CountOn h as_published-ones k d r → of_key es k r
  counts-own k d r c =
      let (e, there, is) = Contains-from_map (λ (e : K × Terms B). (e.0, published_terms e.1 false None)) es
      (k, record { terms = r; open_end = c.open_end; code = c.code }) c.listed in
      subst (λ (v : K × Terms B). Contains es v) (ap (λ (v : K × PublishedTerms B). (v.0, v.1.terms)) is) there

  own-counts : (k : K) (d : ℕ) (r : Terms B) → of_key es k r → CountOn h as_published-ones k d r
  own-counts k d r has = record {
    open_end = false;
    code = None;
    listed = Contains-map (λ (e : K × Terms B). (e.0, published_terms e.1 false None)) es (k, r) has;
    no_holiday = λ none. none;
  }

  no-clash : (k : K) (d : ℕ) → ¬ IsClashDay h as_published-ones first (last + 1) k d
  no-clash k d is =
      let clash = IsClash-same (CountOn h as_published-ones k d) (of_key es k)
      (record { same = λ r. (counts-own k d r, own-counts k d r) }) d is.clash in
      let before = is.before in
      clash.bodies_differ (((clear.key k).clear d is.from (omega (arith, before))).agree clash.one clash.other clash.one_wins
      clash.other_wins)

  no-stop : (k : K) (code : Option HolidayCode) (d : ℕ)
      → IsStop true h as_published-ones first (last + 1) k code d ↔ IsStop false h as_published-ones first (last + 1) k code d
  no-stop k code d = (
    λ stop. ⊎_elim (λ holiday. holiday) (λ clash. absurd (no-clash k d clash)) stop,
    λ holiday. inl holiday,
  )

  -- so dropping clashes leaves what is prepared
  same-prepared : (published : List (K × PublishedTerms B)) → published ≡ as_published-ones → (prepared : List (K × Terms B))
      → ArePrepared (IsStop true h published first (last + 1)) last published prepared
      ↔ ArePrepared (IsStop false h published first (last + 1)) last published prepared
  same-prepared published is prepared =
      subst (λ l. ArePrepared (IsStop true h l first (last + 1)) last l prepared
      ↔ ArePrepared (IsStop false h l first (last + 1)) last l prepared) (sym is) (
        prepared-same (IsStop true h as_published-ones first (last + 1)) (IsStop false h as_published-ones first (last + 1)) no-stop last
            as_published-ones prepared,
        prepared-same (IsStop false h as_published-ones first (last + 1)) (IsStop true h as_published-ones first (last + 1))
            (λ k code d. ((no-stop k code d).1, (no-stop k code d).0)) last as_published-ones prepared,
      )

pub clear-itself : (h : Holidays) (x y : ExtractParts) → IsClearExtract x → IsPrepared h true (as_published x) y ↔ (y ≡ x)
clear-itself h x y clear =
    let first = x.header.first in
    let last = x.header.last in
    let associations = same-prepared h (association_entries x.associations) first last clear.associations
    (published_associations (as_published x).associations) (associations_as x.associations) (association_entries y.associations) in
    let schedules = same-prepared h (schedule_entries x.schedules) first last clear.schedules
    (published_schedules (as_published x).schedules) (schedules_as x.schedules) (schedule_entries y.schedules) in (
      λ drops. (only_itself h x y).0 (record {
        header = drops.header;
        tiplocs = drops.tiplocs;
        associations = associations.0 drops.associations;
        schedules = schedules.0 drops.schedules;
      }),
      λ same. let keeps = (only_itself h x y).1 same in record {
        header = keeps.header;
        tiplocs = keeps.tiplocs;
        associations = associations.1 keeps.associations;
        schedules = schedules.1 keeps.schedules;
      },
    )
