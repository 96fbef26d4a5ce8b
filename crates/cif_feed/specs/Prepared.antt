-- The prepared records of published ones.
use Rattle.std.specs.Prelude.{◌≡◌, ◌↔◌, ℕ, Bool, List, [], ◌∷◌, ◌++◌, Option, All, IsTrue, map, max, if◌then◌else◌}
use Rattle.cif_calendar.specs.{Applies.Applies, Clash.IsClear, Runs.Runs, Terms.Records, Terms.Terms, Wins.Wins}
use Rattle.cif_feed.specs.{LastDay.last_day, Published.PublishedTerms, declared.holidays.HolidayCode.HolidayCode}
use Rattle.cif_feed.specs.Parts.{AreParts, Part, ended}

-- The last day of a record in a prepared extract, by the last day of the window: an open end becomes the later of that and of the first
-- day.
abbrev pub prepared_last : {B : Type 0} → ℕ → PublishedTerms B → ℕ
prepared_last window_last r = if r.open_end then max r.terms.first window_last else r.terms.last

-- a part of a record: a record with its dates
abbrev pub part_terms : {B : Type 0} → Terms B → Part → Terms B
part_terms r p = record r { first = p.first; last = p.last }

-- a part of a record with its key
abbrev pub part_entry : {K B : Type 0} → K → Terms B → Part → K × Terms B
part_entry key r p = (key, part_terms r p)

-- a published record of these terms
abbrev pub published_terms : {B : Type 0} → Terms B → Bool → Option HolidayCode → PublishedTerms B
published_terms terms open_end code = record { terms = terms; open_end = open_end; code = code }

-- these are the parts of a published record that some days stop, in a window that ends on this day
abbrev pub ArePartsOf : {B : Type 0} → (ℕ → Type 0) → ℕ → PublishedTerms B → List Part → Type 0
ArePartsOf Stops window_last r parts = AreParts Stops (ended (prepared_last window_last r) r.terms) parts

-- The prepared records are the parts of the published ones, each record's in its place, where some days stop the records of a key with a
-- code.
abbrev pub ArePrepared : {K B : Type 0} → (K → Option HolidayCode → ℕ → Type 0) → ℕ → List (K × PublishedTerms B) → List (K × Terms B)
    → Type 0
ArePrepared Stops window_last [] prepared = prepared ≡ []
ArePrepared {K} {B} Stops window_last (e ∷ entries) prepared = (parts : List Part) × (others : List (K × Terms B))
    × ArePartsOf (Stops e.0 e.1.code) window_last e.1 parts
    × (prepared ≡ map (λ p. (e.0, part_terms e.1.terms p)) parts ++ others) × ArePrepared Stops window_last entries others

-- each open end is the last day that there is
abbrev pub AreClosed : {K B : Type 0} → List (K × PublishedTerms B) → Type 0
AreClosed entries = All (λ e. IsTrue e.1.open_end → e.1.terms.last ≡ last_day) entries

-- each winner of the one set of records on day d has one of its letter and its body in the other
pub record WinAlso {B : Type 0} (xs ys : Records B) (d : ℕ) : Type 0 where
  pub winner : (r : Terms B) → Wins xs d r → (s : Terms B) × Wins ys d s × (s.letter ≡ r.letter) × (s.body ≡ r.body)

-- the same bodies win in both, with the same letters
abbrev pub HaveSameWinners : {B : Type 0} → Records B → Records B → ℕ → Type 0
HaveSameWinners xs ys d = WinAlso xs ys d × WinAlso ys xs d

-- the records of the one set say of day d what those of the other do: whether one applies, who wins, what runs, and whether there is a
-- clash
pub record SayTheSame {B : Type 0} (xs ys : Records B) (d : ℕ) : Type 0 where
  pub idle : ((r : Terms B) → xs r → ¬ Applies r d) ↔ ((r : Terms B) → ys r → ¬ Applies r d)
  pub winners : HaveSameWinners xs ys d
  pub runs : (o : Option B) → Runs xs d o ↔ Runs ys d o
  pub clear : IsClear xs d ↔ IsClear ys d
