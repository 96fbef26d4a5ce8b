-- The locations that a place names.
use Rattle.std.proofs.lemmas.List.Elements.{Contains-append_cases, Contains-append_left, Contains-append_right}
use Rattle.std.proofs.lemmas.List.Sorted.{IsPermutation-sym}
use Rattle.cif_views.proofs.Names.{Bool, Contains, Contains-cases, Contains-first, Contains-none, Contains-permutation, Contains-rest, IsPermutation}
use Rattle.cif_views.proofs.Names.{List, None, Option, ⊎_elim}
use Rattle.cif_views.proofs.Names.{Some, Tiploc, [], ap, bytes_decides, false, false≢true, flat_map, if◌then◌else◌, inl, inr, refl, subst}
use Rattle.cif_views.proofs.Names.{sym, true, ℕ, ◌++◌, ◌↔◌, ◌∙◌, ◌∷◌, ◌≡◌}
use Rattle.cif_views.specs.Places.{HasCode, IsNamed, crs_of, tiploc_of}
use Rattle.cif_views.specs.Steps.Boards.{AreLocations, code_is, locations_of, named_by}
use Rattle.cif_views.specs.declared.places.Place.{Place}

-- ---- members of lists that are joined

module _ {X A : Type 0} (f : X → List A) where
  pub from-flat : (xs : List X) (a : A) → Contains (flat_map f xs) a → (x : X) × Contains xs x × Contains (f x) a
  from-flat [] a h = absurd (Contains-none a h)
  from-flat (x ∷ xs) a h = elim (Contains-append_cases (f x) (flat_map f xs) a h) [
    | inl here ↦ (x, Contains-first x xs, here)
    | inr later ↦ (let (y, listed, in') = from-flat xs a later in (y, Contains-rest x xs y listed, in'))
  ]

  pub to-flat : (xs : List X) (x : X) (a : A) → Contains xs x → Contains (f x) a → Contains (flat_map f xs) a
  to-flat [] x a listed h = absurd (Contains-none x listed)
  to-flat (y ∷ xs) x a listed h = elim (Contains-cases y xs x listed) [
    | inl same ↦ Contains-append_left (f y) (flat_map f xs) a (subst (λ z. Contains (f z) a) (sym same) h)
    | inr later ↦ Contains-append_right (f y) (flat_map f xs) a (to-flat xs x a later h)
  ]

-- ---- the locations of a place

-- whether a TI has the code of the place
code-is : (code : Option (List ℕ)) (crs : List ℕ) → code_is code crs ≡ true → code ≡ Some crs
code-is None crs is = absurd (false≢true is)
code-is (Some code) crs is = ap Some ((bytes_decides code crs).0 is)

is-code : (code : Option (List ℕ)) (crs : List ℕ) → code ≡ Some crs → code_is code crs ≡ true
is-code code crs is = ap (λ o. code_is o crs) is ∙ (bytes_decides crs crs).1 refl

named-one : (t : Tiploc) (b : Bool) (l : List ℕ) → Contains (if b then tiploc_of t ∷ [] else []) l → (b ≡ true) × (tiploc_of t ≡ l)
named-one t true l h = (refl, ⊎_elim (λ same. same) (λ later. absurd (Contains-none l later)) (Contains-cases (tiploc_of t) [] l h))
named-one t false l h = absurd (Contains-none l h)

pub are-named : (tiplocs : List Tiploc) (place : Place) → AreLocations tiplocs place (locations_of tiplocs place)
are-named tiplocs place l = (
  λ h. elim (Contains-cases place.tiploc (flat_map (named_by place) tiplocs) l h) [
    | inl same ↦ inl (sym same)
    | inr later ↦ (let (t, listed, in') = from-flat (named_by place) tiplocs l later in
        let (has, own) = named-one t (code_is place.crs (crs_of t)) l in' in
        inr (record { it = t; listed = listed; code = code-is place.crs (crs_of t) has; own = own }))
  ],
  λ named. elim named [
    | inl own ↦ subst (Contains (locations_of tiplocs place)) (sym own) (Contains-first place.tiploc (flat_map (named_by place) tiplocs))
    | inr code ↦ Contains-rest place.tiploc (flat_map (named_by place) tiplocs) l
        (to-flat (named_by place) tiplocs code.it l code.listed
        (subst (λ (ls : List (List ℕ)). Contains ls l)
        (sym (ap (λ b. if b then tiploc_of code.it ∷ [] else []) (is-code place.crs (crs_of code.it) code.code)))
        (subst (Contains (tiploc_of code.it ∷ [])) code.own (Contains-first (tiploc_of code.it) []))))
  ],
)

-- also in another order
pub permuted-named : (tiplocs : List Tiploc) (place : Place) (sorted : List (List ℕ)) → IsPermutation (locations_of tiplocs place) sorted →
    AreLocations tiplocs place sorted
permuted-named tiplocs place sorted same l =
    let (from, to) = are-named tiplocs place l in (
      λ h. from (Contains-permutation sorted (locations_of tiplocs place) l (IsPermutation-sym (locations_of tiplocs place) sorted same) h),
      λ h. Contains-permutation (locations_of tiplocs place) sorted l same (to h),
    )
