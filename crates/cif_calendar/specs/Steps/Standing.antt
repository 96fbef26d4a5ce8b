-- Who leads on a day among members that are looked at together. No public clause cites it.
use Rattle.std.specs.Prelude.{◌≡◌, ◌≢◌, ℕ, ◌<◌, List, ◌++◌, length, Bool, Option, Some, None, slice_get, slice_index_or, ◌⊎◌}
use Rattle.cif_columns.specs.DaysRun.{RunsOn}
use Rattle.cif_calendar.specs.{Applies.Applies, Source.IsChosen, Source.body_at, Terms.Records, Terms.Terms, Wins.Wins, Wins.precedence}
use Rattle.cif_calendar.specs.declared.standing.Standing.{Standing}
use Rattle.cif_calendar.specs.declared.standing.Standing.TheVariants.{Nobody, Leader, Disputed}

-- t is a winner, and all winners have its body
pub record Leads {B : Type 0} (records : Records B) (d : ℕ) (t : Terms B) : Type 0 where
  pub wins : Wins records d t
  pub undisputed : (s : Terms B) → Wins records d s → t.body ≡ s.body

-- t is a winner, and so is another record, which has another body
pub record IsDisputed {B : Type 0} (records : Records B) (d : ℕ) (t : Terms B) : Type 0 where
  pub wins : Wins records d t
  pub rival : Terms B
  pub rival_wins : Wins records d rival
  pub apart : t.body ≢ rival.body

-- no record applies
pub record NoneApplies {B : Type 0} (records : Records B) (d : ℕ) : Type 0 where
  pub none : (s : Terms B) → records s → Applies s d → ⊥

-- t stands at the position of the member with number k
pub record StandsAt {B : Type 0} (xs : List (Terms B)) (members : List ℕ) (k : ℕ) (t : Terms B) : Type 0 where
  pub position : ℕ
  pub member : slice_get members k ≡ Some position
  pub at : slice_get xs position ≡ Some t

-- what a standing says of the records that were looked at; it names a member by its number
abbrev pub Stands : {B : Type 0} → List (Terms B) → List ℕ → Records B → ℕ → Standing → Type 0
Stands xs members records d Nobody = NoneApplies records d
Stands {B} xs members records d (Leader k) = (t : Terms B) × StandsAt xs members k t × Leads records d t
Stands {B} xs members records d (Disputed k) = (t : Terms B) × StandsAt xs members k t × IsDisputed records d t

-- the leader's number is below n
abbrev pub IsBelow : ℕ → Standing → Type 0
IsBelow n Nobody = Unit {0}
IsBelow n (Leader k) = k < n
IsBelow n (Disputed k) = k < n

-- on each of seven weekdays the leader's number is below n
pub record AreBelow (n : ℕ) (standings : List Standing) : Type 0 where
  pub seven : length standings ≡ 7
  pub below : (w : ℕ) → IsBelow n (slice_index_or standings w Nobody)

-- n is the leader's precedence, or what is after all others
abbrev pub IsRank : {B : Type 0} → List (Terms B) → List ℕ → Standing → ℕ → Type 0
IsRank xs members Nobody n = n ≡ 255
IsRank {B} xs members (Leader k) n = (t : Terms B) → StandsAt xs members k t → n ≡ precedence t
IsRank {B} xs members (Disputed k) n = (t : Terms B) → StandsAt xs members k t → n ≡ precedence t

-- u is the standing of two sets of members together, where s is that of one and t that of the other
pub record Combines {B : Type 0} (xs : List (Terms B)) (members : List ℕ) (s t u : Standing) : Type 0 where
  pub below : (n : ℕ) → IsBelow n s → IsBelow n t → IsBelow n u
  pub stands : (ms ns : List ℕ) (d : ℕ) → Stands xs members (IsChosen xs ms) d s → Stands xs members (IsChosen xs ns) d t →
      Stands xs members (IsChosen xs (ms ++ ns)) d u

-- on weekday w the members of other standings are looked at too, if it is one of these weekdays
abbrev pub LooksAt : {B : Type 0} → List (Terms B) → List ℕ → List Bool → List Standing → ℕ → Standing → Standing → Type 0
LooksAt xs members days others w s u =
    (RunsOn days w × Combines xs members s (slice_index_or others w Nobody) u) ⊎ ((¬ RunsOn days w) × (u ≡ s))

-- the members with two numbers have one body
abbrev pub HaveOneBody : {B : Type 0} → List (Terms B) → List ℕ → ℕ → ℕ → Type 0
HaveOneBody xs members k j = body_at xs (slice_get members k) ≡ body_at xs (slice_get members j)

-- where the list names a member for another, the two have one body
abbrev pub AreAlike : {B : Type 0} → List (Terms B) → List ℕ → List (Option ℕ) → Type 0
AreAlike xs members alike = (k j : ℕ) → slice_index_or alike k None ≡ Some j → HaveOneBody xs members k j
