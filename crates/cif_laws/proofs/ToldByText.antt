-- The text of differences tells what each side alone says, and so what the right extract says.
use Rattle.std.proofs.Common.{All, Contains, List, None, Option, Some, [], ap, append_assoc, flat_map, map, nat_cmp, refl, subst, sym, ℕ}
use Rattle.std.proofs.Common.{◌++◌, ◌∙◌, ◌∷◌, ◌≡◌, ◌⊎◌}
use Rattle.std.proofs.{lemmas.Grind.flat_map-append, lemmas.List.Elements.All-append, lemmas.List.Elements.All-tail}
use Rattle.std.specs.Cmp.Lexicographic.{slice_cmp}
use Rattle.cif_calendar.specs.{Entries.association_entries, Entries.schedule_entries, Keys.of_key, Meaning.EntriesSayTheSame, Runs.BodyRuns}
use Rattle.cif_calendar.specs.{Runs.NothingRuns, Terms.Terms}
use Rattle.cif_canon.proofs.MadeExtract.{associations_of, entries-of_associations, entries-of_schedules, schedules_of}
use Rattle.cif_canon.specs.{Asked.header_window, Meaning.SameMeaning}
use Rattle.cif_canon.specs.Differences.{AreDifferences, AreOnlyRecords, DifferencesParts, RunsApplied, SaysNothing, SaysSomething, TurnInto}
use Rattle.cif_canon.specs.Differences.{TurnLeftIntoRight, at_side, differences_text, marked_association, marked_schedule, of_side}
use Rattle.cif_canon.specs.declared.{listed_differences.Side.Side, listed_differences.Side.TheVariants.Left}
use Rattle.cif_canon.specs.declared.{listed_differences.Side.TheVariants.Right, listed_differences.Sided.Sided}
use Rattle.cif_canon.proofs.MergedSides.{from-side}
use Rattle.cif_columns.specs.{Contents.lines_text, Field.plain_line, Line.IsLine}
use Rattle.cif_extract.proofs.{OneExtract.same_values, PlainTexts.text-lines, PlainTexts.text-spells, SpelledBytes.one_spelled}
use Rattle.cif_extract.specs.{ExtractParts.ExtractParts, SpellsExtract.BytesSpell}
use Rattle.cif_extract.specs.Texts.{FitsColumns, extract_lines, extract_text, line_of_association, plain_lines_of}
use Rattle.cif_records.specs.{AssocKey.key_cmp, Header.header_table, Trailer.trailer_table, declared.tiploc.Tiploc.Tiploc}
use Rattle.cif_weeks.specs.Permanent.{Permanent, permanent_entries, terms_of}
use Rattle.cif_weeks.specs.{WhatRuns.HasBody, Window.IsWithin, Window.Window}
use Rattle.cif_laws.proofs.MarkedLines.{All-back, All-front, IsMarkedWide, IsWide, one-list, sided_lines, text-of, unmarked}
use Rattle.cif_laws.proofs.MarkedLines.{unmarked-append, unmarked-of, wide-of}
use Rattle.cif_laws.proofs.SideExtracts.{association_lines, associations-dated, lines-of_associations, lines-of_schedules, lines-of_tiplocs}
use Rattle.cif_laws.proofs.SideExtracts.{permanent_lines, schedules-dated, side-extract, side-fits, tiploc_lines}

-- ---- the marked lines of differences

abbrev all_lines : DifferencesParts → List (List ℕ)
all_lines d =
    sided_lines tiploc_lines d.tiplocs
    ++ (sided_lines association_lines d.associations ++ sided_lines permanent_lines d.schedules)

text-is : (d : DifferencesParts) → differences_text d ≡ lines_text (all_lines d)
unfolding differences_text
text-is d =
    let t = sided_lines tiploc_lines d.tiplocs in
    let a = sided_lines association_lines d.associations in
    let s = sided_lines permanent_lines d.schedules in
    let ended : List ℕ → List ℕ = λ line. line ++ (10 ∷ []) in
    ap (λ l. l ++ (flat_map marked_association d.associations ++ flat_map marked_schedule d.schedules)) (text-of tiploc_lines d.tiplocs)
    ∙ ap (λ l. lines_text t ++ (l ++ flat_map marked_schedule d.schedules)) (text-of association_lines d.associations)
    ∙ ap (λ l. lines_text t ++ (lines_text a ++ l)) (text-of permanent_lines d.schedules)
    ∙ ap (λ l. lines_text t ++ l) (sym (flat_map-append ended a s))
    ∙ sym (flat_map-append ended t (a ++ s))

-- what stands behind the marks of a side
abbrev side_lines : Side → DifferencesParts → List (List ℕ)
side_lines side d =
    flat_map tiploc_lines (of_side side d.tiplocs)
    ++ (flat_map association_lines (of_side side d.associations) ++ flat_map permanent_lines (of_side side d.schedules))

unmarked-all : (side : Side) (d : DifferencesParts) → unmarked side (all_lines d) ≡ side_lines side d
unmarked-all side d =
    unmarked-append side (sided_lines tiploc_lines d.tiplocs)
    (sided_lines association_lines d.associations ++ sided_lines permanent_lines d.schedules)
    ∙ ap (λ l. l ++ unmarked side (sided_lines association_lines d.associations ++ sided_lines permanent_lines d.schedules))
    (unmarked-of tiploc_lines side d.tiplocs)
    ∙ ap (λ l. flat_map tiploc_lines (of_side side d.tiplocs) ++ l)
    (unmarked-append side (sided_lines association_lines d.associations) (sided_lines permanent_lines d.schedules)
    ∙ ap (λ l. l ++ unmarked side (sided_lines permanent_lines d.schedules)) (unmarked-of association_lines side d.associations)
    ∙ ap (λ l. flat_map association_lines (of_side side d.associations) ++ l) (unmarked-of permanent_lines side d.schedules))

-- ---- the extracts of both sides

record SideExtract (x : ExtractParts) (side : Side) (d : DifferencesParts) : Type 0 where
  it : ExtractParts
  fits : FitsColumns it
  lines : extract_lines it ≡ plain_line (header_table x.header) ∷ (side_lines side d ++ (plain_line trailer_table ∷ []))
  tiplocs : it.tiplocs ≡ of_side side d.tiplocs
  associations : association_entries it.associations ≡ permanent_entries (of_side side d.associations)
  schedules : schedule_entries it.schedules ≡ permanent_entries (of_side side d.schedules)

module _ (x own other : ExtractParts) (fits : FitsColumns own) (side : Side) (d : DifferencesParts)
    (are_tiplocs : (t : Tiploc) → Contains (of_side side d.tiplocs) t → Contains own.tiplocs t)
    (a : AreOnlyRecords key_cmp (header_window x.header) (association_entries own.associations) (association_entries other.associations)
    (of_side side d.associations))
    (s : AreOnlyRecords (slice_cmp nat_cmp) (header_window x.header) (schedule_entries own.schedules) (schedule_entries other.schedules)
    (of_side side d.schedules)) where
  side-made : SideExtract x side d
  side-made =
      let tiplocs = of_side side d.tiplocs in
      let associations = of_side side d.associations in
      let schedules = of_side side d.schedules in
      let a_dated = associations-dated x own other fits tiplocs are_tiplocs associations a schedules s in
      let s_dated = schedules-dated x own other fits tiplocs are_tiplocs associations a schedules s in
      let trailer = plain_line trailer_table ∷ [] in
      let at = flat_map tiploc_lines tiplocs in
      let aa = flat_map association_lines associations in
      let al = flat_map permanent_lines schedules in record {
        it = side-extract x own other fits tiplocs are_tiplocs associations a schedules s;
        fits = side-fits x own other fits tiplocs are_tiplocs associations a schedules s;
        lines = ap (λ l. plain_line (header_table x.header) ∷ l)
            (ap (λ l. l ++ (map line_of_association (associations_of associations a_dated)
            ++ (flat_map plain_lines_of (schedules_of schedules s_dated) ++ trailer))) (sym (lines-of_tiplocs tiplocs))
            ∙ ap (λ l. at ++ (l ++ (flat_map plain_lines_of (schedules_of schedules s_dated) ++ trailer)))
            (sym (lines-of_associations associations a_dated))
            ∙ ap (λ l. at ++ (aa ++ (l ++ trailer))) (sym (lines-of_schedules schedules s_dated))
            ∙ ap (λ l. at ++ l) (sym (append_assoc aa al trailer)) ∙ sym (append_assoc at (aa ++ al) trailer));
        tiplocs = refl;
        associations = entries-of_associations associations a_dated;
        schedules = entries-of_schedules schedules s_dated;
      }

module _ (x y : ExtractParts) (fits_x : FitsColumns x) (fits_y : FitsColumns y) (d : DifferencesParts) (are : AreDifferences x y d) where
  only-tiplocs : (side : Side) (t : Tiploc) → Contains (of_side side d.tiplocs) t → Contains (at_side x y side).tiplocs t
  only-tiplocs Left t has = ((are.tiplocs.only (record { side = Left; it = t })).0 (from-side Left d.tiplocs t has)).0
  only-tiplocs Right t has = ((are.tiplocs.only (record { side = Right; it = t })).0 (from-side Right d.tiplocs t has)).0

  side-of : (side : Side) → SideExtract x side d
  side-of Left =
      side-made x x y fits_x Left d (only-tiplocs Left) (are.associations.only Left) (are.schedules.only Left)
  side-of Right =
      side-made x y x fits_y Right d (only-tiplocs Right) (are.associations.only Right) (are.schedules.only Right)

-- the lines of a side have eighty columns
module _ (x : ExtractParts) (side : Side) (d : DifferencesParts) (s : SideExtract x side d) where
  side-wide : All IsWide (side_lines side d)
  side-wide =
      let spelled = (text-spells s.it s.fits).are_lines in
      let lines : All IsLine (extract_lines s.it) = subst (All IsLine) (text-lines s.it s.fits) spelled in
      let same : All IsLine (plain_line (header_table x.header) ∷ (side_lines side d ++ (plain_line trailer_table ∷ []))) =
      subst (All IsLine) s.lines lines in
      let own = All-front IsLine (side_lines side d) (plain_line trailer_table ∷ []) (All-tail IsLine (plain_line (header_table x.header))
      (side_lines side d ++ (plain_line trailer_table ∷ [])) same) in
      λ k l below. (own k l below).width

all-wide : (x : ExtractParts) (d : DifferencesParts) → SideExtract x Left d → SideExtract x Right d → All IsMarkedWide (all_lines d)
all-wide x d left right =
    let l = side-wide x Left d left in
    let r = side-wide x Right d right in
    let lt = flat_map tiploc_lines (of_side Left d.tiplocs) in
    let la = flat_map association_lines (of_side Left d.associations) in
    let ls = flat_map permanent_lines (of_side Left d.schedules) in
    let rt = flat_map tiploc_lines (of_side Right d.tiplocs) in
    let ra = flat_map association_lines (of_side Right d.associations) in
    let rs = flat_map permanent_lines (of_side Right d.schedules) in
    All-append IsMarkedWide (sided_lines tiploc_lines d.tiplocs)
    (sided_lines association_lines d.associations ++ sided_lines permanent_lines d.schedules)
    (wide-of tiploc_lines d.tiplocs (All-front IsWide lt (la ++ ls) l) (All-front IsWide rt (ra ++ rs) r))
    (All-append IsMarkedWide (sided_lines association_lines d.associations) (sided_lines permanent_lines d.schedules)
    (wide-of association_lines d.associations (All-front IsWide la ls (All-back IsWide lt (la ++ ls) l))
    (All-front IsWide ra rs (All-back IsWide rt (ra ++ rs) r)))
    (wide-of permanent_lines d.schedules (All-back IsWide la ls (All-back IsWide lt (la ++ ls) l))
    (All-back IsWide ra rs (All-back IsWide rt (ra ++ rs) r))))

-- ---- two differences of one text

permanent-one : {K B : Type 0} (e f : K × Permanent B) → ◌≡◌ {A = K × Terms B} (e.0, terms_of e.1) (f.0, terms_of f.1) → e ≡ f
permanent-one {K} {B} e f is =
    let body : e.1.body ≡ f.1.body =
    (let same : ◌≡◌ {A = Option B} (Some e.1.body) (Some f.1.body) = ap (λ (v : K × Terms B). v.1.body) is in cc) in
    ap (λ k. (k, e.1)) (ap (λ (v : K × Terms B). v.0) is)
    ∙ ap (λ n. (f.0, record { first = n; last = e.1.last; days = e.1.days; body = e.1.body })) (ap (λ (v : K × Terms B). v.1.first) is)
    ∙ ap (λ n. (f.0, record { first = f.1.first; last = n; days = e.1.days; body = e.1.body })) (ap (λ (v : K × Terms B). v.1.last) is)
    ∙ ap (λ n. (f.0, record { first = f.1.first; last = f.1.last; days = n; body = e.1.body })) (ap (λ (v : K × Terms B). v.1.days) is)
    ∙ ap (λ b. (f.0, record { first = f.1.first; last = f.1.last; days = f.1.days; body = b })) body

permanents-one : {K B : Type 0} (es fs : List (K × Permanent B)) → permanent_entries es ≡ permanent_entries fs → es ≡ fs
permanents-one {K} {B} = same_values (λ (e : K × Permanent B). (e.0, terms_of e.1)) permanent-one

record SameSide (side : Side) (d e : DifferencesParts) : Type 0 where
  tiplocs : of_side side d.tiplocs ≡ of_side side e.tiplocs
  associations : of_side side d.associations ≡ of_side side e.associations
  schedules : of_side side d.schedules ≡ of_side side e.schedules

one-side : (x : ExtractParts) (side : Side) (d e : DifferencesParts) → SideExtract x side d → SideExtract x side e
    → all_lines d ≡ all_lines e → SameSide side d e
one-side x side d e s t same =
    let lines : side_lines side d ≡ side_lines side e = sym (unmarked-all side d) ∙ ap (unmarked side) same ∙ unmarked-all side e in
    let all : extract_lines s.it ≡ extract_lines t.it =
    s.lines ∙ ap (λ l. plain_line (header_table x.header) ∷ (l ++ (plain_line trailer_table ∷ []))) lines ∙ sym t.lines in
    let text : extract_text s.it ≡ extract_text t.it = ap lines_text all in
    let one = one_spelled (extract_text t.it) s.it t.it (subst (λ b. BytesSpell b s.it) text (text-spells s.it s.fits))
    (text-spells t.it t.fits) in record {
      tiplocs = sym s.tiplocs ∙ ap (λ (z : ExtractParts). z.tiplocs) one ∙ t.tiplocs;
      associations = permanents-one (of_side side d.associations) (of_side side e.associations)
          (sym s.associations ∙ ap (λ (z : ExtractParts). association_entries z.associations) one ∙ t.associations);
      schedules = permanents-one (of_side side d.schedules) (of_side side e.schedules)
          (sym s.schedules ∙ ap (λ (z : ExtractParts). schedule_entries z.schedules) one ∙ t.schedules);
    }

-- ---- what they turn the left one into

module _ {K B : Type 0} (xs : List (K × Terms B)) (d e : List (Sided (K × Permanent B))) (left : of_side Left d ≡ of_side Left e)
    (right : of_side Right d ≡ of_side Right e) (k : K) (day : ℕ) where
  applied-alike : (o : Option B) → RunsApplied xs d k day o → RunsApplied xs e k day o
  applied-alike (Some b) runs = subst (λ (l : List (K × Permanent B)). HasBody (of_key l k) day b
      ⊎ (((c : B) → ¬ HasBody (of_key l k) day c) × SaysNothing Left e k day × BodyRuns (of_key xs k) day b)) right
      (subst (λ (l : List (K × Permanent B)). HasBody (of_key (of_side Right d) k) day b
      ⊎ (SaysNothing Right d k day × ((c : B) → ¬ HasBody (of_key l k) day c) × BodyRuns (of_key xs k) day b)) left runs)
  applied-alike None nothing = subst (λ (l : List (K × Permanent B)). ((c : B) → ¬ HasBody (of_key l k) day c)
      × (SaysSomething Left e k day ⊎ NothingRuns (of_key xs k) day)) right
      (subst (λ (l : List (K × Permanent B)). SaysNothing Right d k day
      × (((c : B) × HasBody (of_key l k) day c) ⊎ NothingRuns (of_key xs k) day)) left nothing)

module _ {K B : Type 0} (window : Window) (xs ys zs : List (K × Terms B)) (d e : List (Sided (K × Permanent B)))
    (left : of_side Left d ≡ of_side Left e) (right : of_side Right d ≡ of_side Right e) (turn : TurnInto window xs ys d)
    (other_turn : TurnInto window xs zs e) where
  turned-alike : EntriesSayTheSame ys zs window.first window.last
  turned-alike = record {
    same = λ k day o from upto.
        let within : IsWithin window day = record { from = from; upto = upto } in (
          λ runs. (other_turn.runs k day o within).1 (applied-alike xs d e left right k day o ((turn.runs k day o within).0 runs)),
          λ runs. (turn.runs k day o within).1 (applied-alike xs e d (sym left) (sym right) k day o
              ((other_turn.runs k day o within).0 runs)),
        );
  }

pub told-by-text : (x y z : ExtractParts) (d e : DifferencesParts) → FitsColumns x → FitsColumns y → FitsColumns z → AreDifferences x y d
    → TurnLeftIntoRight x y d → AreDifferences x z e → TurnLeftIntoRight x z e → differences_text d ≡ differences_text e
    → y.header.columns ≡ z.header.columns → SameMeaning y z
told-by-text x y z d e fits_x fits_y fits_z of_y turn_y of_z turn_z texts columns =
    let side_d = side-of x y fits_x fits_y d of_y in
    let side_e = side-of x z fits_x fits_z e of_z in
    let lines = one-list (all_lines d) (all_lines e) (all-wide x d (side_d Left) (side_d Right)) (all-wide x e (side_e Left) (side_e Right))
    (sym (text-is d) ∙ texts ∙ text-is e) in
    let left = one-side x Left d e (side_d Left) (side_e Left) lines in
    let right = one-side x Right d e (side_d Right) (side_e Right) lines in
    let tiplocs : (t : Tiploc) → (Contains (of_side Right d.tiplocs) t ⊎ (Contains x.tiplocs t × ¬ Contains (of_side Left d.tiplocs) t))
    ≡ (Contains (of_side Right e.tiplocs) t ⊎ (Contains x.tiplocs t × ¬ Contains (of_side Left e.tiplocs) t)) =
    λ t. ap (λ l. Contains l t ⊎ (Contains x.tiplocs t × ¬ Contains (of_side Left d.tiplocs) t)) right.tiplocs
    ∙ ap (λ l. Contains (of_side Right e.tiplocs) t ⊎ (Contains x.tiplocs t × ¬ Contains l t)) left.tiplocs in
    let associations = turned-alike (header_window x.header) (association_entries x.associations) (association_entries y.associations)
    (association_entries z.associations) d.associations e.associations left.associations right.associations turn_y.associations
    turn_z.associations in
    let schedules = turned-alike (header_window x.header) (schedule_entries x.schedules) (schedule_entries y.schedules)
    (schedule_entries z.schedules) d.schedules e.schedules left.schedules right.schedules turn_y.schedules turn_z.schedules in record {
      header = columns;
      agree = record {
        tiplocs = λ t. (
          λ has. (turn_z.tiplocs t).1 (subst (λ (v : Type 0). v) (tiplocs t) ((turn_y.tiplocs t).0 has)),
          λ has. (turn_y.tiplocs t).1 (subst (λ (v : Type 0). v) (sym (tiplocs t)) ((turn_z.tiplocs t).0 has)),
        );
        associations = subst (λ (w : Window). EntriesSayTheSame (association_entries y.associations) (association_entries z.associations)
            w.first w.last) of_y.window associations;
        schedules = subst (λ (w : Window). EntriesSayTheSame (schedule_entries y.schedules) (schedule_entries z.schedules)
            w.first w.last) of_y.window schedules;
      };
    }
