-- When two lists of records say the same.
use Rattle.cif_calendar.proofs.Names.{AreLawful, BodyRuns, List, Terms, of_key, ℕ, ◌↔◌, ◌≤◌}
use Rattle.cif_calendar.{proofs.Meaning.Runs-from_bodies, specs.Meaning.EntriesSayTheSame}

module _ {K B : Type 0} where
  pub EntriesSayTheSame-refl : (xs : List (K × Terms B)) (first last : ℕ) → EntriesSayTheSame xs xs first last
  EntriesSayTheSame-refl xs first last = record { same = λ k d o from upto. (λ h. h, λ h. h) }

  pub EntriesSayTheSame-sym : (xs ys : List (K × Terms B)) (first last : ℕ) →
      EntriesSayTheSame xs ys first last → EntriesSayTheSame ys xs first last
  EntriesSayTheSame-sym xs ys first last e = record { same = λ k d o from upto. ((e.same k d o from upto).1, (e.same k d o from upto).0) }

  pub EntriesSayTheSame-trans : (xs ys zs : List (K × Terms B)) (first last : ℕ) → EntriesSayTheSame xs ys first last →
      EntriesSayTheSame ys zs first last → EntriesSayTheSame xs zs first last
  EntriesSayTheSame-trans xs ys zs first last e f = record {
    same = λ k d o from upto. (
      λ h. (f.same k d o from upto).0 ((e.same k d o from upto).0 h),
      λ h. (e.same k d o from upto).1 ((f.same k d o from upto).1 h),
    );
  }

  -- lists of lawful records say the same where the same bodies run
  pub EntriesSayTheSame-from_bodies : (xs ys : List (K × Terms B)) (first last : ℕ) → ((k : K) → AreLawful (of_key xs k)) →
      ((k : K) → AreLawful (of_key ys k)) →
      ((k : K) (d : ℕ) (b : B) → first ≤ d → d ≤ last → BodyRuns (of_key xs k) d b ↔ BodyRuns (of_key ys k) d b) →
      EntriesSayTheSame xs ys first last
  EntriesSayTheSame-from_bodies xs ys first last lawful_xs lawful_ys same = record {
    same = λ k d o from upto. (
      Runs-from_bodies (of_key xs k) (of_key ys k) d (lawful_xs k) (lawful_ys k) (λ b. same k d b from upto) o,
      Runs-from_bodies (of_key ys k) (of_key xs k) d (lawful_ys k) (lawful_xs k)
          (λ b. ((same k d b from upto).1, (same k d b from upto).0)) o,
    );
  }
