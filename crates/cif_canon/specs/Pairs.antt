-- Differences by pairs: a left record and a right one that differ in nothing but their bodies.
use Rattle.std.specs.Prelude.{◌≡◌, ℕ, Bool, ◌&&◌, List, [], ◌∷◌, Option, None, Some, Contains, map, nat_eq, if◌then◌else◌}
use Rattle.std.specs.{Cmp.Lexicographic.pointwise, Cmp.Lexicographic.slice_cmp, List.flat_map, Option.option_map, Ordering.is_eq}
use Rattle.std.{proofs.Math.Bool.beq, specs.Ordering.nat_cmp, specs.declared.cmp.Ordering.Ordering}
use Rattle.cif_records.specs.AssocKey.{key_cmp}
use Rattle.cif_weeks.specs.Permanent.{Permanent}
use Rattle.cif_canon.specs.{Differences.DifferencesParts, Differences.is_side, declared.listed_differences.Side.TheVariants.Left}
use Rattle.cif_canon.specs.{declared.listed_differences.Side.TheVariants.Right, declared.listed_differences.Sided.Sided}
use Rattle.cif_canon.specs.Lines.{ScheduleLines, association_plain, line_of_tiploc, schedule_plain}

-- A left and a right record are a pair: they have one key, one first and one last date, and the same days run.
pub record ArePair {K B : Type 0} (s t : Sided (K × Permanent B)) : Type 0 where
  pub left : s.side ≡ Left
  pub right : t.side ≡ Right
  pub key : s.it.0 ≡ t.it.0
  pub first : s.it.1.first ≡ t.it.1.first
  pub last : s.it.1.last ≡ t.it.1.last
  pub days : s.it.1.days ≡ t.it.1.days

-- what is listed of differences: something of one side, and what the other side has in its place if they are a pair
abbrev pub Listed : Type 0 → Type 0
Listed A = Sided A × Option A

-- the parts of what is listed, a pair's left one first
abbrev pub right_part : {A : Type 0} → Option A → List (Sided A)
right_part None = []
right_part (Some a) = record { side = Right; it = a } ∷ []

abbrev pub parts_of : {A : Type 0} → Listed A → List (Sided A)
parts_of (s, right) = s ∷ right_part right

-- Records are listed by pairs: in their order, where a pair stands at its left record; what is a pair is listed as one.
pub record AreByPairs {K B : Type 0} (found : List (Sided (K × Permanent B))) (listed : List (Listed (K × Permanent B))) : Type 0 where
  pub parts : flat_map parts_of listed ≡ found
  pub pairs : (s : Sided (K × Permanent B)) (r : K × Permanent B) → Contains listed (s, Some r) →
      ArePair s (record { side = Right; it = r })
  pub others : (s t : Sided (K × Permanent B)) → Contains listed (s, None) → Contains listed (t, None) → ArePair s t → ⊥

-- The same as a function. The records are in order, so a pair's right record is the next one. `cmp` is the order of the keys.
abbrev pub are_pair : {K B : Type 0} → (K → K → Ordering) → Sided (K × Permanent B) → Sided (K × Permanent B) → Bool
are_pair cmp s t =
    is_side Left s.side
    && (is_side Right t.side
    && (is_eq (cmp s.it.0 t.it.0)
    && (nat_eq s.it.1.first t.it.1.first
    && (nat_eq s.it.1.last t.it.1.last && pointwise beq s.it.1.days t.it.1.days))))

abbrev pub by_pairs : {K B : Type 0} → (K → K → Ordering) → List (Sided (K × Permanent B)) → List (Listed (K × Permanent B))
by_pairs cmp [] = []
by_pairs cmp (s ∷ []) = (s, None) ∷ []
by_pairs cmp (s ∷ t ∷ found) =
    if are_pair cmp s t then (s, Some t.it) ∷ by_pairs cmp found else (s, None) ∷ by_pairs cmp (t ∷ found)

-- what is listed, by something else in place of each record
abbrev pub listed_as : {A C : Type 0} → (A → C) → Listed A → Listed C
listed_as f (s, right) = (record { side = s.side; it = f s.it }, option_map f right)

-- The lines of differences, by pairs.
abbrev pub tiploc_lines : DifferencesParts → List (Sided (List ℕ))
tiploc_lines d = map (λ s. record { side = s.side; it = line_of_tiploc s.it }) d.tiplocs

abbrev pub association_lines : DifferencesParts → List (Listed (List ℕ))
association_lines d = map (listed_as association_plain) (by_pairs key_cmp d.associations)

abbrev pub schedule_lines : DifferencesParts → List (Listed ScheduleLines)
schedule_lines d = map (listed_as schedule_plain) (by_pairs (slice_cmp nat_cmp) d.schedules)
